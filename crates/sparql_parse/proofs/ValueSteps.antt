-- Steps of the readers of VALUES, and of the lists that they fill.
use Rattle.std.proofs.lemmas.Bool.Decides.{nat_tests}
use Rattle.std.proofs.Common.{◌≡◌, ◌==◌, true, false, arith, ℕ, List, [], ◌∷◌, ◌++◌, map, Option, Bool, refl, sym, ap, ◌∙◌, subst, Vec}
use Rattle.std.specs.declared.alloc.Global.{Global}
use Rattle.rdf_core.specs.declared.term.Term.{Term}
use Rattle.sparql_lexer.specs.Terminal.{Terminal}
use Rattle.sparql_tree.specs.GroupTree.{GroupTree, ElementTree}
use Rattle.sparql_grammar.specs.Values.{Names}
use Rattle.sparql_grammar.specs.Symbol.{Symbol, Value, Select}
use Rattle.sparql_grammar.specs.Symbol as the
use Rattle.sparql_grammar.specs.Productions.{right_side}
use Rattle.sparql_expression.proofs.Steps.{Left}

abbrev pub rows_of : List (Vec (Option Term) Global) → List (List (Option Term))
rows_of rows = map (λ row. row.items) rows

pub rows-push : (rows : List (Vec (Option Term) Global)) (row : Vec (Option Term) Global) → rows_of (rows ++ row ∷ []) ≡ rows_of rows ++ row.items ∷ []
rows-push [] row = refl
rows-push (r ∷ rows) row = ap (λ xs. r.items ∷ xs) (rows-push rows row)

pub one_row : (rows : List (Vec (Option Term) Global)) {all : List (Vec (Option Term) Global)} (row : Vec (Option Term) Global) {cells : List (Option Term)} → all ≡ rows ++ row ∷ [] → row.items ≡ cells → rows_of rows ++ cells ∷ [] ≡ rows_of all
one_row rows row h e = ap (λ cs. rows_of rows ++ cs ∷ []) (sym e) ∙ sym (rows-push rows row) ∙ ap rows_of (sym h)

pub column_at : {names : Names} {s : Symbol} {ts : List Terminal} {v : List ℕ} {rs rs' : List (List (Option Term))} {g : ElementTree → Value s} {mid : List Terminal} → rs ≡ rs'
    → Left names s ts (the.more_column v rs) g (right_side (the.more_column v rs)) mid → Left names s ts (the.more_column v rs') g (right_side (the.more_column v rs')) mid
column_at {names = names} {s = s} {ts = ts} {v = v} {g = g} {mid = mid} e l = subst (λ rs. Left names s ts (the.more_column v rs) g (right_side (the.more_column v rs)) mid) e l

pub rows_at : {names : Names} {s : Symbol} {ts : List Terminal} {vs : List (List ℕ)} {rs rs' : List (List (Option Term))} {g : ElementTree → Value s} {mid : List Terminal} → rs ≡ rs'
    → Left names s ts (the.more_rows vs rs) g (right_side (the.more_rows vs rs)) mid → Left names s ts (the.more_rows vs rs') g (right_side (the.more_rows vs rs')) mid
rows_at {names = names} {s = s} {ts = ts} {vs = vs} {g = g} {mid = mid} e l = subst (λ rs. Left names s ts (the.more_rows vs rs) g (right_side (the.more_rows vs rs)) mid) e l

pub cells_at : {names : Names} {s : Symbol} {ts : List Terminal} {cs cs' : List (Option Term)} {g : List (Option Term) → Value s} {mid : List Terminal} → cs ≡ cs'
    → Left names s ts (the.more_cells cs) g (right_side (the.more_cells cs)) mid → Left names s ts (the.more_cells cs') g (right_side (the.more_cells cs')) mid
cells_at {names = names} {s = s} {ts = ts} {g = g} {mid = mid} e l = subst (λ cs. Left names s ts (the.more_cells cs) g (right_side (the.more_cells cs)) mid) e l

pub heading_at : {names : Names} {s : Symbol} {ts : List Terminal} {vs vs' : List (List ℕ)} {g : List (List ℕ) → Value s} {mid : List Terminal} → vs ≡ vs'
    → Left names s ts (the.more_heading vs) g (right_side (the.more_heading vs)) mid → Left names s ts (the.more_heading vs') g (right_side (the.more_heading vs')) mid
heading_at {names = names} {s = s} {ts = ts} {g = g} {mid = mid} e l = subst (λ vs. Left names s ts (the.more_heading vs) g (right_side (the.more_heading vs)) mid) e l

pub selected_at : {names : Names} {s : Symbol} {ts : List Terminal} {d : Bool} {vs vs' : List (List ℕ)} {g : Select → Value s} {mid : List Terminal} → vs ≡ vs'
    → Left names s ts (the.selected d vs) g (right_side (the.selected d vs)) mid → Left names s ts (the.selected d vs') g (right_side (the.selected d vs')) mid
selected_at {names = names} {s = s} {ts = ts} {d = d} {g = g} {mid = mid} e l = subst (λ vs. Left names s ts (the.selected d vs) g (right_side (the.selected d vs)) mid) e l

pub body_at : {names : Names} {s : Symbol} {ts : List Terminal} {es es' : GroupTree} {g : GroupTree → Value s} {mid : List Terminal} → es ≡ es'
    → Left names s ts (the.body es) g (right_side (the.body es)) mid → Left names s ts (the.body es') g (right_side (the.body es')) mid
body_at {names = names} {s = s} {ts = ts} {g = g} {mid = mid} e l = subst (λ es. Left names s ts (the.body es) g (right_side (the.body es)) mid) e l

pub others_at : {names : Names} {s : Symbol} {ts : List Terminal} {es es' : GroupTree} {g : GroupTree → Value s} {mid : List Terminal} → es ≡ es'
    → Left names s ts (the.others es) g (right_side (the.others es)) mid → Left names s ts (the.others es') g (right_side (the.others es')) mid
others_at {names = names} {s = s} {ts = ts} {g = g} {mid = mid} e l = subst (λ es. Left names s ts (the.others es) g (right_side (the.others es)) mid) e l

pub union_at : {names : Names} {s : Symbol} {ts : List Terminal} {e e' : ElementTree} {g : ElementTree → Value s} {mid : List Terminal} → e ≡ e'
    → Left names s ts (the.more_union e) g (right_side (the.more_union e)) mid → Left names s ts (the.more_union e') g (right_side (the.more_union e')) mid
union_at {names = names} {s = s} {ts = ts} {g = g} {mid = mid} h l = subst (λ e. Left names s ts (the.more_union e) g (right_side (the.more_union e)) mid) h l

pub other_length : {m n : ℕ} → (m ≡ n → ⊥) → (m == n) ≡ false
other_length h = grind (arith, nat_tests)

pub same_length : {m n : ℕ} → m ≡ n → (m == n) ≡ true
same_length h = grind (arith, nat_tests)
