-- A split has at most one key that can fit an expression: if it does not fit, no key does.
use Rattle.std.proofs.Common.{◌≡◌, ℕ, Bool, true, false, ◌&&◌, ◌||◌, List, [], ◌∷◌, Option, None, Some, refl, sym, ap, ◌∙◌, ⊎_elim}
use Rattle.std.specs.Option.{option_or}
use Rattle.std.proofs.lemmas.Bool.{and_parts, eqb-true, false_from_ne_true, false≢true, or_cases}
use Rattle.rdf_core.specs.declared.term.Term.{Term}
use Rattle.rdf_core.proofs.TermLaws.{term_decides}
use Rattle.algebra_model.specs.Algebra.{Algebra, Pattern, Join, LeftJoin, Union, Minus, Graph, Filter, Extend, Project, Distinct, Table, each_graph, one_graph}
use Rattle.algebra_model.specs.Algebra as algebra
use Rattle.algebra_model.specs.Bgp.{PatternTerm, TriplePattern, variable, label, constant}
use Rattle.query_split.specs.Condition.{Key, has_keys, has_no_graph, is_apart, is_apart_graph, is_apart_pattern, is_key_name, is_key_variable, is_same}
use Rattle.query_split.specs.declared.split.Split.{Split}
use Rattle.query_split.specs.declared.split.Split.TheVariants as by
use Rattle.sparql_algebra.specs.AlgebraOf.{graph_name_of}
use Rattle.sparql_algebra.specs.declared.operator.GraphName.{GraphName}
use Rattle.sparql_algebra.specs.declared.operator.GraphName.TheVariants as name
use Rattle.query_plan.specs.Keys.{first_graph, first_subject, first_variable, has_names, key_of, variable_at}

some_is : {X : Type 0} (x y : X) → Some x ≡ Some y → x ≡ y
some_is {X} x y e = ap get e
  where
    get : Option X → X
    get None = x
    get (Some z) = z

some_not_none : {X : Type 0} (x : X) → Some x ≡ None → ⊥
some_not_none x e = false≢true (sym (ap Rattle.std.proofs.Common.is_some e))

both_none : {X : Type 0} (a b : Option X) → a ≡ None → b ≡ None → option_or a b ≡ None
both_none a b e f = ap (λ o. option_or o b) e ∙ f

-- ---- by lines the key does not matter

pub any_key : (k key : Key) (A : Algebra) → is_apart by.Lines k A ≡ is_apart by.Lines key A
any_key k key (Pattern labels []) = refl
any_key k key (Pattern labels (t ∷ [])) = refl
any_key k key (Pattern labels (t ∷ u ∷ P)) = refl
any_key k key (Join A B) = (λ j. any_key k key A j && (is_same by.Lines B || false) || is_same by.Lines A && any_key k key B j)
any_key k key (LeftJoin A B e) = (λ j. any_key k key A j && (is_same by.Lines B || false))
any_key k key (Union A B) = (λ j. any_key k key A j && any_key k key B j)
any_key k key (Minus A B) = (λ j. any_key k key A j && (is_same by.Lines B || false))
any_key k key (Graph i A) = (λ j. has_no_graph A && any_key k key A j)
any_key k key (Filter e A) = any_key k key A
any_key k key (Extend v e A) = any_key k key A
any_key k key (Project vs A) = refl
any_key k key (Distinct A) = refl
any_key k key (Table vs rows) = refl

-- ---- by subject

-- the key is the variable
abbrev IsVariable : Key → Option ℕ → Type 0
IsVariable key found = (v : ℕ) × (found ≡ Some v) × (key ≡ variable v)

same_no_subject : (A : Algebra) → is_same by.Subject A ≡ true → first_subject A ≡ None
same_no_subject (Pattern labels []) e = refl
same_no_subject (Pattern labels (t ∷ P)) e = absurd (false≢true e)
same_no_subject (Join A B) e =
    let p = and_parts (is_same by.Subject A) (is_same by.Subject B) e in
    both_none (first_subject A) (first_subject B) (same_no_subject A p.0) (same_no_subject B p.1)
same_no_subject (LeftJoin A B c) e =
    let p = and_parts (is_same by.Subject A) (is_same by.Subject B) e in
    both_none (first_subject A) (first_subject B) (same_no_subject A p.0) (same_no_subject B p.1)
same_no_subject (Union A B) e =
    let p = and_parts (is_same by.Subject A) (is_same by.Subject B) e in
    both_none (first_subject A) (first_subject B) (same_no_subject A p.0) (same_no_subject B p.1)
same_no_subject (Minus A B) e =
    let p = and_parts (is_same by.Subject A) (is_same by.Subject B) e in
    both_none (first_subject A) (first_subject B) (same_no_subject A p.0) (same_no_subject B p.1)
same_no_subject (Graph i A) e = absurd (false≢true e)
same_no_subject (Filter c A) e = same_no_subject A e
same_no_subject (Extend v c A) e = same_no_subject A e
same_no_subject (Project vs A) e = same_no_subject A e
same_no_subject (Distinct A) e = same_no_subject A e
same_no_subject (Table vs rows) e = refl

in_first : (key : Key) (a b : Option ℕ) → IsVariable key a → IsVariable key (option_or a b)
in_first key a b h = (h.0, ap (λ o. option_or o b) h.1, h.2)

in_second : (key : Key) (a b : Option ℕ) → a ≡ None → IsVariable key b → IsVariable key (option_or a b)
in_second key a b e h = (h.0, ap (λ o. option_or o b) e ∙ h.1, h.2)

at_subject : (key : Key) (n : PatternTerm Term) → is_key_variable key n ≡ true → IsVariable key (variable_at n)
at_subject (variable k) (variable v) e = (v, refl, ap variable (eqb-true k v e))
at_subject (variable k) (label l) e = absurd (false≢true e)
at_subject (variable k) (constant c) e = absurd (false≢true e)
at_subject (label l) n e = absurd (false≢true e)
at_subject (constant c) n e = absurd (false≢true e)

subject_found : (key : Key) (A : Algebra) → is_apart by.Subject key A ≡ true → IsVariable key (first_subject A)
subject_found key (Pattern labels []) e = absurd (false≢true e)
subject_found key (Pattern labels (t ∷ P)) e = at_subject key t.s ((and_parts (is_key_variable key t.s) _ e).0)
subject_found key (Join A B) e = ⊎_elim
    (λ h. in_first key (first_subject A) (first_subject B) (subject_found key A ((and_parts (is_apart by.Subject key A) _ h).0)))
    (λ h. let p = and_parts (is_same by.Subject A) (is_apart by.Subject key B) h in
    in_second key (first_subject A) (first_subject B) (same_no_subject A p.0) (subject_found key B p.1))
    (or_cases (is_apart by.Subject key A && (is_same by.Subject B || is_apart by.Subject key B)) (is_same by.Subject A && is_apart by.Subject key B) e)
subject_found key (LeftJoin A B c) e = in_first key (first_subject A) (first_subject B) (subject_found key A ((and_parts (is_apart by.Subject key A) _ e).0))
subject_found key (Union A B) e = in_first key (first_subject A) (first_subject B) (subject_found key A ((and_parts (is_apart by.Subject key A) _ e).0))
subject_found key (Minus A B) e = in_first key (first_subject A) (first_subject B) (subject_found key A ((and_parts (is_apart by.Subject key A) _ e).0))
subject_found key (Graph i A) e = subject_found key A ((and_parts (has_no_graph A) (is_apart by.Subject key A) e).1)
subject_found key (Filter c A) e = subject_found key A e
subject_found key (Extend v c A) e = subject_found key A e
subject_found key (Project vs A) e = absurd (false≢true e)
subject_found key (Distinct A) e = absurd (false≢true e)
subject_found key (Table vs rows) e = absurd (false≢true e)

pub no_other_subject : (A : Algebra) (v : ℕ) → first_subject A ≡ Some v → is_apart by.Subject (variable v) A ≡ false → (key : Key) → is_apart by.Subject key A ≡ false
no_other_subject A v found fails key = false_from_ne_true (is_apart by.Subject key A)
    (λ e. let h = subject_found key A e in
    let same : h.0 ≡ v = some_is h.0 v (sym h.1 ∙ found) in
    false≢true (sym fails ∙ ap (λ k. is_apart by.Subject k A) (ap variable (sym same) ∙ sym h.2) ∙ e))

pub no_subject : (A : Algebra) → first_subject A ≡ None → (key : Key) → is_apart by.Subject key A ≡ false
no_subject A none key = false_from_ne_true (is_apart by.Subject key A) (λ e. let h = subject_found key A e in some_not_none h.0 (sym h.1 ∙ none))

-- ---- by graph

-- the key is the name
abbrev IsName : Key → Option algebra.GraphName → Type 0
IsName key found = (i : algebra.GraphName) × (found ≡ Some i) × (is_key_name key i ≡ true)

same_no_graph : (split : Split) (A : Algebra) → is_same split A ≡ true → first_graph A ≡ None
same_no_graph split (Pattern labels P) e = refl
same_no_graph split (Join A B) e =
    let p = and_parts (is_same split A) (is_same split B) e in
    both_none (first_graph A) (first_graph B) (same_no_graph split A p.0) (same_no_graph split B p.1)
same_no_graph split (LeftJoin A B c) e =
    let p = and_parts (is_same split A) (is_same split B) e in
    both_none (first_graph A) (first_graph B) (same_no_graph split A p.0) (same_no_graph split B p.1)
same_no_graph split (Union A B) e =
    let p = and_parts (is_same split A) (is_same split B) e in
    both_none (first_graph A) (first_graph B) (same_no_graph split A p.0) (same_no_graph split B p.1)
same_no_graph split (Minus A B) e =
    let p = and_parts (is_same split A) (is_same split B) e in
    both_none (first_graph A) (first_graph B) (same_no_graph split A p.0) (same_no_graph split B p.1)
same_no_graph split (Graph i A) e = absurd (false≢true e)
same_no_graph split (Filter c A) e = same_no_graph split A e
same_no_graph split (Extend v c A) e = same_no_graph split A e
same_no_graph split (Project vs A) e = same_no_graph split A e
same_no_graph split (Distinct A) e = same_no_graph split A e
same_no_graph split (Table vs rows) e = refl

first_name : (key : Key) (a b : Option algebra.GraphName) → IsName key a → IsName key (option_or a b)
first_name key a b h = (h.0, ap (λ o. option_or o b) h.1, h.2)

second_name : (key : Key) (a b : Option algebra.GraphName) → a ≡ None → IsName key b → IsName key (option_or a b)
second_name key a b e h = (h.0, ap (λ o. option_or o b) e ∙ h.1, h.2)

no_pattern : (split : Split) (key : Key) (P : List (TriplePattern Term)) → has_names split ≡ true → is_apart_pattern split key P ≡ true → ⊥
no_pattern by.Lines key P n e = false≢true n
no_pattern by.Subject key P n e = false≢true n
no_pattern by.Graph key P n e = false≢true e
no_pattern by.GraphWithDefault key P n e = false≢true e

at_graph : (split : Split) (key : Key) (i : algebra.GraphName) (A : Algebra) (inner : Bool) → has_names split ≡ true → is_apart_graph split key i A inner ≡ true → is_key_name key i ≡ true
at_graph by.Lines key i A inner n e = absurd (false≢true n)
at_graph by.Subject key i A inner n e = absurd (false≢true n)
at_graph by.Graph key i A inner n e = (and_parts (has_no_graph A) (is_key_name key i) e).1
at_graph by.GraphWithDefault key i A inner n e = (and_parts (has_no_graph A) (is_key_name key i) e).1

name_found : (split : Split) (key : Key) (A : Algebra) → has_names split ≡ true → is_apart split key A ≡ true → IsName key (first_graph A)
name_found split key (Pattern labels P) n e = absurd (no_pattern split key P n e)
name_found split key (Join A B) n e = ⊎_elim
    (λ h. first_name key (first_graph A) (first_graph B) (name_found split key A n ((and_parts (is_apart split key A) _ h).0)))
    (λ h. let p = and_parts (is_same split A) (is_apart split key B) h in
    second_name key (first_graph A) (first_graph B) (same_no_graph split A p.0) (name_found split key B n p.1))
    (or_cases (is_apart split key A && (is_same split B || has_keys split && is_apart split key B)) (is_same split A && is_apart split key B) e)
name_found split key (LeftJoin A B c) n e = first_name key (first_graph A) (first_graph B) (name_found split key A n ((and_parts (is_apart split key A) _ e).0))
name_found split key (Union A B) n e = first_name key (first_graph A) (first_graph B) (name_found split key A n ((and_parts (is_apart split key A) _ e).0))
name_found split key (Minus A B) n e = first_name key (first_graph A) (first_graph B) (name_found split key A n ((and_parts (is_apart split key A) _ e).0))
name_found split key (Graph i A) n e = (i, refl, at_graph split key i A (is_apart split key A) n e)
name_found split key (Filter c A) n e = name_found split key A n e
name_found split key (Extend v c A) n e = name_found split key A n e
name_found split key (Project vs A) n e = absurd (false≢true e)
name_found split key (Distinct A) n e = absurd (false≢true e)
name_found split key (Table vs rows) n e = absurd (false≢true e)

key_is : (key : Key) (n : GraphName) → is_key_name key (graph_name_of n) ≡ true → key ≡ key_of n
key_is (variable k) (name.Variable v) e = ap variable (eqb-true k v e)
key_is (variable k) (name.Iri t) e = absurd (false≢true e)
key_is (label l) (name.Variable v) e = absurd (false≢true e)
key_is (label l) (name.Iri t) e = absurd (false≢true e)
key_is (constant k) (name.Variable v) e = absurd (false≢true e)
key_is (constant k) (name.Iri t) e = ap constant ((term_decides k t).0 e)

pub no_other_name : (split : Split) (A : Algebra) (n : GraphName) → has_names split ≡ true → Some (graph_name_of n) ≡ first_graph A → is_apart split (key_of n) A ≡ false
    → (key : Key) → is_apart split key A ≡ false
no_other_name split A n named found fails key = false_from_ne_true (is_apart split key A)
    (λ e. let h = name_found split key A named e in
    let same : h.0 ≡ graph_name_of n = some_is h.0 (graph_name_of n) (sym h.1 ∙ sym found) in
    let is : key ≡ key_of n = key_is key n (ap (is_key_name key) (sym same) ∙ h.2) in
    false≢true (sym fails ∙ ap (λ k. is_apart split k A) (sym is) ∙ e))

pub no_name : (split : Split) (A : Algebra) → has_names split ≡ true → None ≡ first_graph A → (key : Key) → is_apart split key A ≡ false
no_name split A named none key = false_from_ne_true (is_apart split key A) (λ e. let h = name_found split key A named e in some_not_none h.0 (sym h.1 ∙ sym none))
