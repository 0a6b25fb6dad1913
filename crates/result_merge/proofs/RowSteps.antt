-- A row that is there is read.
use Rattle.std.proofs.Common.{◌≡◌, ℕ, zero, suc, ◌+◌, ◌<◌, ◌≤◌, ◌||◌, Bool, true, false, List, [], ◌∷◌, ◌++◌, length, get_or, drop, drop-cons, drop_of_length-le, Option, None, Some, IfNone, is_some, codes, refl, sym, ap, subst, ◌∙◌, arith, append_assoc}
use Rattle.std.specs.List.{list_any}
use Rattle.std.specs.Str.{bytes_eq}
use Rattle.std.proofs.lemmas.List.{append_cancel_left, get_or-map, length-map}
use Rattle.rdf_core.specs.declared.term.Term.{Term}
use Rattle.algebra_model.specs.Bag.{IsWithoutRepeats}
use Rattle.algebra_model.specs.Renaming.{Each}
use Rattle.result_json.specs.Results.{Column, columns, member_text, members, row_text, separated, string_text, term_text}
use Rattle.result_json.specs.Texts.{begun, begun_column, begun_member, comma_texts}
use Rattle.row_merge.specs.Merged.{Row}
use Rattle.result_merge.specs.Absent.{AreColumnsOnce, IsNoRow, IsNoTerm, IsReadable}
use Rattle.result_merge.specs.Encoding.{HasUtf8}
use Rattle.result_merge.specs.Reading.{AreColumns, CodeColumn, comma}
use Rattle.result_merge.specs.Tags.{HasTagType}
use Rattle.result_merge.proofs.ReadSteps.{no_member, some_member}
use Rattle.result_merge.proofs.TableLaws.{cell_at, names_of, no_other, opened}
use Rattle.result_merge.proofs.TermTextLaws.{framed, term_same}
use Rattle.result_merge.proofs.UniqueLaws.{names_once}

-- ---- one column

-- the beginning of the members of a column
abbrev start : Column → List ℕ
start c = string_text c.0 ++ 58 ∷ []

start-append : (c : Column) (x : List ℕ) → start c ++ x ≡ string_text c.0 ++ 58 ∷ x
start-append c x = append_assoc (string_text c.0) (58 ∷ []) x

or_false : (b : Bool) → (b || false) ≡ b
or_false true = refl
or_false false = refl

or_true : (b : Bool) → (b || true) ≡ true
or_true true = refl
or_true false = refl

-- the members of these columns, and what follows the row
abbrev left_of : Bool → Row → List Column → List ℕ → List ℕ
left_of later row cs a = comma_texts later (members row cs) ++ 125 ∷ a

utf8_at : (row : Row) (i : ℕ) → Each HasUtf8 row → HasUtf8 (get_or row i None)
utf8_at [] i h = tt
utf8_at (o ∷ row) zero h = h.0
utf8_at (o ∷ row) (suc i) h = utf8_at row i h.1

-- a member that is there
here : (c : Column) (others : List Column) (row : Row) (later : Bool) (rest a : List ℕ) (u : Term) → rest ≡ comma_texts later (member_text c.0 (Some u) ++ members row others) ++ 125 ∷ a
    → rest ≡ comma later ++ (start c ++ (term_text u ++ left_of true row others a))
here c others row later rest a u e =
    e ∙ opened later c.0 u (members row others) (125 ∷ a) ∙ ap (λ r. comma later ++ r) (sym (start-append c (term_text u ++ left_of true row others a)))

-- what follows the beginning of a member
value_is : (c : Column) (later : Bool) (rest x y : List ℕ) → rest ≡ comma later ++ (start c ++ x) → rest ≡ comma later ++ (start c ++ y) → x ≡ y
value_is c later rest x y e f = append_cancel_left (start c) x y (append_cancel_left (comma later) (start c ++ x) (start c ++ y) (sym e ∙ f))

column_read : (c : Column) (others : List Column) (row : Row) (later later' : Bool) (cell o : Option Term) (rest next a : List ℕ) → list_any (bytes_eq c.0) (names_of others) ≡ false
    → HasTagType cell → HasTagType o
    → rest ≡ comma_texts later (member_text c.0 o ++ members row others) ++ 125 ∷ a
    → rest ≡ comma_texts later (begun_member (start c) cell) ++ next
    → IfNone cell ((x : List ℕ) → rest ≡ comma later ++ (start c ++ x) → ⊥)
    → later' ≡ (later || is_some cell) → next ≡ left_of later' row others a
column_read c others row later later' None None rest next a once h k e f g l =
    no_member next later ∙ sym f ∙ e ∙ ap (λ b. left_of b row others a) (sym (l ∙ or_false later))
column_read c others row later later' None (Some u) rest next a once h k e f g l =
    absurd (g (term_text u ++ left_of true row others a) (here c others row later rest a u e))
column_read c others row later later' (Some t) None rest next a once h k e f g l =
    absurd (no_other others row later c.0 (58 ∷ (term_text t ++ next)) a once
    (ap (λ r. comma later ++ r) (sym (start-append c (term_text t ++ next))) ∙ some_member (comma later ++ (start c ++ (term_text t ++ next))) (start c) (term_text t) (term_text t ++ next) next later refl refl ∙ sym f ∙ e))
column_read c others row later later' (Some t) (Some u) rest next a once h k e f g l =
    let read = f ∙ sym (some_member (comma later ++ (start c ++ (term_text t ++ next))) (start c) (term_text t) (term_text t ++ next) next later refl refl) in
    let same = term_same t u h k next (left_of true row others a) (value_is c later rest (term_text t ++ next) (term_text u ++ left_of true row others a) read (here c others row later rest a u e)) in
    same.1 ∙ ap (λ b. left_of b row others a) (sym (l ∙ or_true later))

column_absent : (c : Column) (others : List Column) (row : Row) (later : Bool) (o : Option Term) (rest value a : List ℕ) → list_any (bytes_eq c.0) (names_of others) ≡ false
    → HasTagType o → HasUtf8 o
    → rest ≡ comma_texts later (member_text c.0 o ++ members row others) ++ 125 ∷ a
    → rest ≡ comma later ++ (start c ++ value) → IsNoTerm value → ⊥
column_absent c others row later None rest value a once h u e f g =
    no_other others row later c.0 (58 ∷ value) a once (ap (λ r. comma later ++ r) (sym (start-append c value)) ∙ sym f ∙ e)
column_absent c others row later (Some t) rest value a once h u e f g =
    g t (left_of true row others a) u h (value_is c later rest value (term_text t ++ left_of true row others a) f (here c others row later rest a t e))

-- ---- column by column

-- the members of the columns from k on are at the rest, if the bytes begin with a row
abbrev pub IsRowAt : List CodeColumn → ℕ → List ℕ → List ℕ → Bool → Type 0
IsRowAt made k bytes rest later = (vars : List (List ℕ)) → AreColumnsOnce vars made → (row : Row) (a : List ℕ) → IsReadable row
    → bytes ≡ row_text (columns vars) row ++ a → rest ≡ comma_texts later (members row (drop k (columns vars))) ++ 125 ∷ a

inside : (cs : List Column) (row : Row) (bytes a : List ℕ) → bytes ≡ row_text cs row ++ a → bytes ≡ codes "{" ++ (separated (members row cs) ++ 125 ∷ a)
inside cs row bytes a e = e ∙ framed (codes "{") (separated (members row cs)) (codes "}") a

pub row_begins : (made : List CodeColumn) (bytes rest : List ℕ) → bytes ≡ codes "{" ++ rest → IsRowAt made 0 bytes rest false
row_begins made bytes rest f = λ vars h row a good e. ap (drop 1) (sym f ∙ inside (columns vars) row bytes a e)

pub row_not_opened : (made : List CodeColumn) (bytes : List ℕ) → ((rest : List ℕ) → bytes ≡ codes "{" ++ rest → ⊥) → IsNoRow made bytes
row_not_opened made bytes h = λ vars w row a good e. h (separated (members row (columns vars)) ++ 125 ∷ a) (inside (columns vars) row bytes a e)

-- the column of the code is one of these columns
abbrev IsAt : List Column → ℕ → CodeColumn → Column → Type 0
IsAt cs k column c = (drop k cs ≡ c ∷ drop (k + 1) cs) × (column.0.items ≡ start c) × (column.1 ≡ c.1) × (list_any (bytes_eq c.0) (names_of (drop (k + 1) cs)) ≡ false)

once_drop : (k : ℕ) (cs : List Column) → IsWithoutRepeats bytes_eq (names_of cs) → IsWithoutRepeats bytes_eq (names_of (drop k cs))
once_drop zero cs h = h
once_drop (suc k) [] h = h
once_drop (suc k) (c ∷ cs) h = once_drop k cs h.1

same_length : (vars : List (List ℕ)) (made : List CodeColumn) → AreColumns vars made → length made ≡ length (columns vars)
same_length vars made h = sym (length-map made begun_column) ∙ ap length h ∙ length-map (columns vars) begun

column_at : (vars : List (List ℕ)) (made : List CodeColumn) (k : ℕ) (column : CodeColumn) → AreColumnsOnce vars made → k < length made → column ≡ get_or made k column → (c : Column) × IsAt (columns vars) k column c
column_at vars made k column h low at =
    let cs = columns vars in
    let d : Column = ([], 0) in
    let c = get_or cs k d in
    let long = same_length vars made h.0 in
    let below : k < length cs = omega arith in
    let is : begun_column column ≡ begun c = ap begun_column at ∙ sym (get_or-map begun_column made k column d low) ∙ ap (λ (l : List Column). get_or l k d) h.0 ∙ get_or-map begun cs k d d below in
    let step : suc k ≡ k + 1 = omega arith in
    let rest : drop k cs ≡ c ∷ drop (k + 1) cs = drop-cons cs k d below ∙ ap (λ n. c ∷ drop n cs) step in
    let once = subst (λ (l : List Column). IsWithoutRepeats bytes_eq (names_of l)) rest (once_drop k cs (names_once vars h.1)) in
    (c, (rest, ap (λ (x : Column). x.0) is, ap (λ (x : Column). x.1) is, once.0))

-- the rest, from the column of the code
at_column : (cs : List Column) (k : ℕ) (c : Column) (row : Row) (later : Bool) (rest a : List ℕ) → drop k cs ≡ c ∷ drop (k + 1) cs → rest ≡ left_of later row (drop k cs) a
    → rest ≡ comma_texts later (member_text c.0 (get_or row c.1 None) ++ members row (drop (k + 1) cs)) ++ 125 ∷ a
at_column cs k c row later rest a s e = e ∙ ap (λ (l : List Column). left_of later row l a) s

pub row_more : (made : List CodeColumn) (k : ℕ) (column : CodeColumn) (bytes rest next : List ℕ) (later later' : Bool) (cell : Option Term) → IsRowAt made k bytes rest later
    → k < length made → column ≡ get_or made k column
    → rest ≡ comma_texts later (begun_member column.0.items cell) ++ next → HasTagType cell
    → IfNone cell ((x : List ℕ) → rest ≡ comma later ++ (column.0.items ++ x) → ⊥)
    → later' ≡ (later || is_some cell) → IsRowAt made (k + 1) bytes next later'
row_more made k column bytes rest next later later' cell was low at f tagged none l = λ vars h row a good e.
    let cs = columns vars in
    let w = column_at vars made k column h low at in
    let c = w.0 in
    column_read c (drop (k + 1) cs) row later later' cell (get_or row c.1 None) rest next a w.1.3 tagged (cell_at row c.1 good.0)
    (at_column cs k c row later rest a w.1.0 (was vars h row a good e))
    (f ∙ ap (λ p. comma_texts later (begun_member p cell) ++ next) w.1.1)
    (subst (λ (p : List ℕ). IfNone cell ((x : List ℕ) → rest ≡ comma later ++ (p ++ x) → ⊥)) w.1.1 none) l

pub row_absent : (made : List CodeColumn) (k : ℕ) (column : CodeColumn) (bytes rest : List ℕ) (later : Bool) → IsRowAt made k bytes rest later
    → k < length made → column ≡ get_or made k column
    → ((value : List ℕ) × (rest ≡ comma later ++ (column.0.items ++ value)) × IsNoTerm value) → IsNoRow made bytes
row_absent made k column bytes rest later was low at none = λ vars h row a good e.
    let cs = columns vars in
    let w = column_at vars made k column h low at in
    let c = w.0 in
    column_absent c (drop (k + 1) cs) row later (get_or row c.1 None) rest none.0 a w.1.3 (cell_at row c.1 good.0) (utf8_at row c.1 good.1)
    (at_column cs k c row later rest a w.1.0 (was vars h row a good e))
    (none.1 ∙ ap (λ p. comma later ++ (p ++ none.0)) w.1.1) none.2

pub row_not_closed : (made : List CodeColumn) (k : ℕ) (bytes rest : List ℕ) (later : Bool) → IsRowAt made k bytes rest later → length made ≤ k → ((x : List ℕ) → rest ≡ codes "}" ++ x → ⊥) → IsNoRow made bytes
row_not_closed made k bytes rest later was low none = λ vars h row a good e.
    let cs = columns vars in
    let long = same_length vars made h.0 in
    let all : drop k cs ≡ [] = drop_of_length-le cs (omega arith) in
    none a (was vars h row a good e ∙ ap (λ (l : List Column). left_of later row l a) all ∙ sym (no_member (125 ∷ a) later))
