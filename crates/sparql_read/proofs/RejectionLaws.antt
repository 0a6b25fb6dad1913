-- A text has one list of terminals and one query. Therefore a rule applies to the text if it
-- applies to these.
use Rattle.std.proofs.Common.{◌≡◌, ◌==◌, ◌<◌, ◌≤◌, ℕ, List, [], ◌∷◌, length, Bool, true, false, Result, Ok, Err, refl, sym, ap, ◌∙◌, subst, arith}
use Rattle.std.proofs.lemmas.Bool.Decides.{nat_tests}
use Rattle.sparql_lexer.specs.Terminal.{Terminal}
use Rattle.sparql_lexer.specs.Scan.{Scans}
use Rattle.sparql_tree.specs.QueryTree.{QueryTree}
use Rattle.sparql_grammar.specs.Symbol.{Select}
use Rattle.sparql_grammar.specs.Symbol as the
use Rattle.sparql_grammar.specs.Values.{Names}
use Rattle.sparql_grammar.specs.Productions.{right_side}
use Rattle.sparql_grammar.specs.Derivation.{Derivation}
use Rattle.sparql_read.specs.declared.fault.QueryFault.{QueryFault}
use Rattle.sparql_read.specs.declared.fault.QueryFault.TheVariants.{Syntax, UndefinedPrefix, RelativeIri, BindScope, BlankReuse, TooDeep, Memory}
use Rattle.sparql_read.specs.Depth.{is_too_deep}
use Rattle.sparql_grammar.specs.Prologue.{declarations, has_undefined_prefix}
use Rattle.sparql_read.specs.RelativeIri.{has_relative_iri}
use Rattle.sparql_read.specs.BindScope.{breaks_bind_scope}
use Rattle.sparql_tree.specs.BlankReuse.{reuses_blank}
use Rattle.sparql_grammar.specs.Mentioned.{mentioned}
use Rattle.sparql_grammar.specs.Derives.{Derives, tree_of}
use Rattle.sparql_read.specs.Rejection.{IsReadResult, Applies, IsQueryWith, IsRejectedBy, IsTooDeep, rank}
use Rattle.sparql_read.specs.Checked.{IsChecked}

abbrev pub OneScan : Type 0
OneScan = (text end end' : List ℕ) (ts ts' : List Terminal) → Scans text ts end → Scans text ts' end' → (ts ≡ ts') × (end ≡ end')

abbrev pub OneQuery : Type 0
OneQuery = (names : Names) (ts : List Terminal) (q r : Select)
    → Derivation names the.query (right_side the.query) ts q [] → Derivation names the.query (right_side the.query) ts r [] → q ≡ r

-- the known facts after a text is parsed
pub record Known (text : List ℕ) (ts : List Terminal) (s : Select) : Type 0 where
  pub one_scan : OneScan
  pub one_query : OneQuery
  pub scans : Scans text ts []
  pub shallow : is_too_deep ts ≡ false
  pub derived : Derivation (declarations ts) the.query (right_side the.query) ts s []

pub not_deep : OneScan → (text end : List ℕ) (ts : List Terminal) → Scans text ts end → is_too_deep ts ≡ false → IsTooDeep text → ⊥
not_deep one text end ts scans e x = let m = one text end x.end ts x.terminals scans x.scans in let k = ap is_too_deep m.0 in let o = x.deep in cc

-- the rules of a rank below n are known not to apply
below : (text : List ℕ) (n : ℕ) → (0 < n → Applies TooDeep text → ⊥) → (1 < n → Applies Syntax text → ⊥) → (2 < n → Applies UndefinedPrefix text → ⊥)
    → (3 < n → Applies RelativeIri text → ⊥) → (4 < n → Applies BindScope text → ⊥) → (5 < n → Applies BlankReuse text → ⊥)
    → (r : QueryFault) → rank r < n → Applies r text → ⊥
below text n a b c d e f TooDeep h = a h
below text n a b c d e f Syntax h = b h
below text n a b c d e f UndefinedPrefix h = c h
below text n a b c d e f RelativeIri h = d h
below text n a b c d e f BindScope h = e h
below text n a b c d e f BlankReuse h = f h
below text n a b c d e f Memory h = λ x. x

over : (m n : ℕ) {A : Type 0} → n ≤ m → m < n → A → ⊥
over m n h k a = omega arith

pub too_deep : (text end : List ℕ) (ts : List Terminal) → Scans text ts end → is_too_deep ts ≡ true → IsReadResult text (Err TooDeep)
too_deep text end ts scans h = record {
  applies = record { terminals = ts; end = end; scans = scans; deep = h };
  first = below text 0 (over 0 0 (omega arith)) (over 1 0 (omega arith)) (over 2 0 (omega arith)) (over 3 0 (omega arith)) (over 4 0 (omega arith)) (over 5 0 (omega arith));
}

-- a text that is not read whole, or whose terminals derive nothing
syntax_rejected : (text : List ℕ) → (IsTooDeep text → ⊥) → ((q : QueryTree) → Derives text q → ⊥) → IsReadResult text (Err Syntax)
syntax_rejected text deep none = record {
  applies = none;
  first = below text 1 (λ h. deep) (over 1 1 (omega arith)) (over 2 1 (omega arith)) (over 3 1 (omega arith)) (over 4 1 (omega arith)) (over 5 1 (omega arith));
}

pub not_whole : OneScan → (text end : List ℕ) (ts : List Terminal) → Scans text ts end → is_too_deep ts ≡ false → (end ≡ [] → ⊥) → IsReadResult text (Err Syntax)
not_whole one text end ts scans e other = syntax_rejected text (not_deep one text end ts scans e)
    (λ q d. other (one text end [] ts d.terminals scans d.scans).1)

pub not_derived : OneScan → (text : List ℕ) (ts : List Terminal) → Scans text ts [] → is_too_deep ts ≡ false
    → ((s : Select) → Derivation (declarations ts) the.query (right_side the.query) ts s [] → ⊥) → IsReadResult text (Err Syntax)
not_derived one text ts scans e none = syntax_rejected text (not_deep one text [] ts scans e)
    (λ q d. none d.select (subst (λ us. Derivation (declarations us) the.query (right_side the.query) us d.select []) (one text [] [] d.terminals ts d.scans scans).0 d.derived))

pub empty_list : {A : Type 0} (xs : List A) → true ≡ (length xs == 0) → xs ≡ []
empty_list [] h = refl
empty_list (x ∷ xs) h = absurd (grind (arith, nat_tests))

pub some_list : {A : Type 0} (xs : List A) → false ≡ (length xs == 0) → xs ≡ [] → ⊥
some_list xs h e = let k = ap length e in grind (arith, nat_tests)

module _ {text : List ℕ} {ts : List Terminal} {s : Select} (known : Known text ts s) where
  abbrev derives : Derives text (tree_of s ts)
  derives = record { terminals = ts; scans = known.scans; select = s; derived = known.derived; tree = refl }

  same_terminals : (q : QueryTree) (d : Derives text q) → d.terminals ≡ ts
  same_terminals q d = (known.one_scan text [] [] d.terminals ts d.scans known.scans).0

  same_query : (q : QueryTree) (d : Derives text q) → q ≡ tree_of s ts
  same_query q d =
      let e = same_terminals q d in
      let m = known.one_query (declarations ts) ts d.select s (subst (λ us. Derivation (declarations us) the.query (right_side the.query) us d.select []) e d.derived) known.derived in
      d.tree ∙ (ap (λ us. tree_of d.select us) e ∙ ap (λ r. tree_of r ts) m)

  holds_with : (test : List Terminal → QueryTree → Bool) → test ts (tree_of s ts) ≡ true → IsQueryWith text test
  holds_with test h = record { query = tree_of s ts; derives = derives; holds = h }

  fails_with : (test : List Terminal → QueryTree → Bool) → test ts (tree_of s ts) ≡ false → IsQueryWith text test → ⊥
  fails_with test h x =
      let a = ap (λ us. test us x.query) (same_terminals x.query x.derives) in
      let b = ap (test ts) (same_query x.query x.derives) in
      let o = x.holds in
      cc

  deep_not : Applies TooDeep text → ⊥
  deep_not = not_deep known.one_scan text [] ts known.scans known.shallow

  syntax_not : Applies Syntax text → ⊥
  syntax_not none = none (tree_of s ts) derives

  undefined_not : has_undefined_prefix ts ≡ false → Applies UndefinedPrefix text → ⊥
  undefined_not = fails_with (λ us q. has_undefined_prefix us)

  relative_not : has_relative_iri ts ≡ false → Applies RelativeIri text → ⊥
  relative_not = fails_with (λ us q. has_relative_iri us)

  scope_not : breaks_bind_scope s.group ≡ false → Applies BindScope text → ⊥
  scope_not = fails_with (λ us q. breaks_bind_scope q.group)

  blank_not : reuses_blank s.group ≡ false → Applies BlankReuse text → ⊥
  blank_not = fails_with (λ us q. reuses_blank q.group)

  pub rejected : (e : QueryFault) → IsChecked ts s.group (Err e) → IsReadResult text (Err e)
  rejected UndefinedPrefix h = record {
    applies = holds_with (λ us q. has_undefined_prefix us) h;
    first = below text 2 (λ k. deep_not) (λ k. syntax_not) (over 2 2 (omega arith)) (over 3 2 (omega arith)) (over 4 2 (omega arith)) (over 5 2 (omega arith));
  }
  rejected RelativeIri h = record {
    applies = holds_with (λ us q. has_relative_iri us) h.1;
    first = below text 3 (λ k. deep_not) (λ k. syntax_not) (λ k. undefined_not h.0) (over 3 3 (omega arith)) (over 4 3 (omega arith)) (over 5 3 (omega arith));
  }
  rejected BindScope h = record {
    applies = holds_with (λ us q. breaks_bind_scope q.group) h.2;
    first = below text 4 (λ k. deep_not) (λ k. syntax_not) (λ k. undefined_not h.0) (λ k. relative_not h.1) (over 4 4 (omega arith)) (over 5 4 (omega arith));
  }
  rejected BlankReuse h = record {
    applies = holds_with (λ us q. reuses_blank q.group) h.3;
    first = below text 5 (λ k. deep_not) (λ k. syntax_not) (λ k. undefined_not h.0) (λ k. relative_not h.1) (λ k. scope_not h.2) (over 5 5 (omega arith));
  }
  rejected Syntax h = absurd h
  rejected TooDeep h = absurd h
  rejected Memory h = tt

  none_applies : IsChecked ts s.group (Ok tt) → (r : QueryFault) → Applies r text → ⊥
  none_applies h TooDeep = deep_not
  none_applies h Syntax = syntax_not
  none_applies h UndefinedPrefix = undefined_not h.0
  none_applies h RelativeIri = relative_not h.1
  none_applies h BindScope = scope_not h.2
  none_applies h BlankReuse = blank_not h.3
  none_applies h Memory = λ x. x

  pub allowed : IsChecked ts s.group (Ok tt) → IsReadResult text (Ok (tree_of s ts))
  allowed h = record { derives = derives; allowed = none_applies h }

  -- the same, if the variables were collected separately
  pub allowed_as : IsChecked ts s.group (Ok tt) → (xs : List (List ℕ)) → xs ≡ mentioned ts
      → IsReadResult text (Ok (record { distinct = s.distinct; selection = s.selection; group = s.group; limit = s.limit; offset = s.offset; mentioned = xs }))
  allowed_as h xs e = subst (λ ys. IsReadResult text (Ok (record { distinct = s.distinct; selection = s.selection; group = s.group; limit = s.limit; offset = s.offset; mentioned = ys }))) (sym e) (allowed h)
