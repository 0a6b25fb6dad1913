-- What a condition that is true requires of the terms of two variables.
use Rattle.std.proofs.Common.{◌≡◌, ℕ, Bool, true, false, List, [], ◌∷◌, ◌++◌, Option, Some, None, get_or, refl, sym, ap, ◌∙◌, Box, Global}
use Rattle.std.proofs.lemmas.Bool.{false≢true}
use Rattle.rdf_core.specs.declared.term.Term.{Term}
use Rattle.rdf_core.specs.declared.term.Term.TheVariants.{Blank, Iri, Literal}
use Rattle.rdf_core.proofs.TermLaws.{term_eq, term_decides}
use Rattle.algebra_model.specs.BooleanValue.{logical_and}
use Rattle.algebra_model.specs.Call.{call_value, str, string_term}
use Rattle.algebra_model.specs.Comparison.{compares, equal, equals}
use Rattle.algebra_model.specs.Expression.{Expression, both, call, comparison, same_term, variable, is_true, truth_of, val, with_value, with_values}
use Rattle.algebra_model.proofs.RangeLaws.{Each-append}
use Rattle.expression_values.specs.ExpressionOf.{comparison_of, expression_of, expression_step, function_of}
use Rattle.expression_values.specs.declared.expression.Expr.{Expr}
use Rattle.expression_values.specs.declared.expression.Expr.TheFolds.{fold-roll-Expr}
use Rattle.expression_values.specs.declared.expression.Expr.TheOpen.{Expr-F}
use Rattle.expression_values.specs.declared.expression.Expr.TheVariants as variants
use Rattle.expression_values.specs.declared.expression.Expr.TheViews as views
use Rattle.expression_values.proofs.LogicSteps.{truth_of_result}
use Rattle.term_values.specs.EqualityKey.{EqualTermsHaveOneKey, HaveOneKey, equality_key}
use Rattle.term_values.proofs.FormLaws.{keys_are_of_forms}
use Rattle.sparql_eval.specs.KeyedRows.{ArePaired, key_or, pairing_key, text_hash, text_key}
use Rattle.sparql_eval.specs.Required.{AreRequired, Implies, IsKeyedBy, IsRequired, IsRequiredEqual}
use Rattle.sparql_eval.specs.declared.equalities.Equality.{Equality}

both_true : (a b : Option Bool) → is_true (logical_and a b) ≡ true → (is_true a ≡ true) × (is_true b ≡ true)
both_true (Some true) (Some true) h = (refl, refl)
both_true (Some true) (Some false) h = absurd (false≢true h)
both_true (Some true) None h = absurd (false≢true h)
both_true (Some false) (Some true) h = absurd (false≢true h)
both_true (Some false) (Some false) h = absurd (false≢true h)
both_true (Some false) None h = absurd (false≢true h)
both_true None (Some true) h = absurd (false≢true h)
both_true None (Some false) h = absurd (false≢true h)
both_true None None h = absurd (false≢true h)

pub implies_left : (e a b : Expression) → Implies e (both a b) → Implies e a
implies_left e a b h ρ t = (both_true (truth_of (val a ρ)) (truth_of (val b ρ)) (ap is_true (sym (truth_of_result (logical_and (truth_of (val a ρ)) (truth_of (val b ρ))))) ∙ h ρ t)).0

pub implies_right : (e a b : Expression) → Implies e (both a b) → Implies e b
implies_right e a b h ρ t = (both_true (truth_of (val a ρ)) (truth_of (val b ρ)) (ap is_true (sym (truth_of_result (logical_and (truth_of (val a ρ)) (truth_of (val b ρ))))) ∙ h ρ t)).1

-- ---- keys

some_is : (s t : Term) → Some s ≡ Some t → s ≡ t
some_is s t e = cc

some_none : (key : ℕ) → Some key ≡ None → ⊥
some_none key e = cc

-- a term with a value has the key of its text
valued : (t : Term) (key : ℕ) → equality_key t ≡ Some key → pairing_key t ≡ Some key
valued (Blank label) key e = cc
valued (Iri text) key e = cc
valued (Literal lexical datatype tag) key e = ap (λ k. Some (key_or k (text_hash lexical))) (keys_are_of_forms lexical datatype tag key e)

paired : (s t : Term) → HaveOneKey s t → ArePaired s t
paired s t h = by (equality_key s) refl
  where
    by : (k : Option ℕ) → equality_key s ≡ k → ArePaired s t
    by (Some key) e =
        let one = valued s key e in
        (one ∙ sym (valued t key (sym h.0 ∙ e)), λ none. absurd (some_none key (sym one ∙ none)))
    by None e = let p = h.1 e in (ap pairing_key p, λ none. p)

paired_turned : (s t : Term) → ArePaired s t → ArePaired t s
paired_turned s t h = (sym h.0, λ none. sym (h.1 (h.0 ∙ none)))

paired_twice : (s t u : Term) → ArePaired s t → ArePaired t u → ArePaired s u
paired_twice s t u h k = (h.0 ∙ k.0, λ none. h.1 none ∙ k.1 (sym h.0 ∙ none))

-- what STR returns has the key of the term
text_paired : (t s : Term) → call_value str t ≡ Some s → ArePaired s t
text_paired (Blank label) s e = cc
text_paired (Iri text) s e =
    let p = some_is (string_term text) s e in
    (sym (ap pairing_key p), λ none. absurd (some_none (text_key text) (ap pairing_key p ∙ none)))
text_paired (Literal lexical datatype tag) s e =
    let p = some_is (string_term lexical) s e in
    (sym (ap pairing_key p), λ none. absurd (some_none (text_key lexical) (ap pairing_key p ∙ none)))

values_equal : (law : EqualTermsHaveOneKey) (u v : Option Term) → is_true (with_values u v (compares equal)) ≡ true → (s : Term) × ((t : Term) × ((u ≡ Some s) × ((v ≡ Some t) × ArePaired s t)))
values_equal law None v h = absurd (false≢true h)
values_equal law (Some s) None h = absurd (false≢true h)
values_equal law (Some s) (Some t) h = (s, (t, (refl, (refl, paired s t (law s t (by (equals s t) h))))))
  where
    by : (x : Option Bool) → is_true x ≡ true → x ≡ Some true
    by None h = absurd (false≢true h)
    by (Some b) h = ap Some h

values_same : (u v : Option Term) → is_true (with_values u v (λ s t. Some (term_eq s t))) ≡ true → (s : Term) × ((t : Term) × ((u ≡ Some s) × ((v ≡ Some t) × ArePaired s t)))
values_same None v h = absurd (false≢true h)
values_same (Some s) None h = absurd (false≢true h)
values_same (Some s) (Some t) h = let p = (term_decides s t).0 h in (s, (t, (refl, (refl, (ap pairing_key p, λ none. p)))))

pub equal_required : EqualTermsHaveOneKey → (e a b : Expression) → Implies e (comparison equal a b) → IsRequiredEqual e a b
equal_required law e a b h ρ t = values_equal law (val a ρ) (val b ρ) (ap is_true (sym (truth_of_result (with_values (val a ρ) (val b ρ) (compares equal)))) ∙ h ρ t)

pub same_required : (e a b : Expression) → Implies e (same_term a b) → IsRequiredEqual e a b
same_required e a b h ρ t = values_same (val a ρ) (val b ρ) (ap is_true (sym (truth_of_result (with_values (val a ρ) (val b ρ) (λ s t. Some (term_eq s t))))) ∙ h ρ t)

-- one more pair
pub required_more : (e : Expression) (pairs : List Equality) (p : Equality) → AreRequired e pairs → IsRequired e p.left.variable p.right.variable → AreRequired e (pairs ++ p ∷ [])
required_more e pairs p h r = Each-append (λ q. IsRequired e q.left.variable q.right.variable) pairs (p ∷ []) h (r, tt)

-- ---- operands

pub keyed_variable : (x : ℕ) → IsKeyedBy (variable x) x
keyed_variable x ρ s e = (s, (e, (refl, λ none. refl)))

keyed_value : (o : Option Term) (s : Term) → with_value o (call_value str) ≡ Some s → (t : Term) × ((o ≡ Some t) × ArePaired s t)
keyed_value None s e = cc
keyed_value (Some t) s e = (t, (refl, text_paired t s e))

pub keyed_text : (x : ℕ) → IsKeyedBy (call str (variable x)) x
keyed_text x ρ s e = keyed_value (get_or ρ x None) s e

-- operands that are equal, as variables
pub required_operands : (e a b : Expression) (x y : ℕ) → IsKeyedBy a x → IsKeyedBy b y → IsRequiredEqual e a b → IsRequired e x y
required_operands e a b x y left right h ρ t =
    let f = h ρ t in
    let s = f.0 in
    let u = f.1.0 in
    let one = left ρ s f.1.1.0 in
    let two = right ρ u f.1.1.1.0 in
    (one.0, (two.0, (one.1.0, (two.1.0, paired_twice one.0 s two.0 (paired_turned s one.0 one.1.1) (paired_twice s u two.0 f.1.1.1.1 two.1.1)))))

-- ---- the expressions of a condition

pub compare_denotes : (op : _) (l r : Box Expr Global) → expression_of (views.Compare op l r) ≡ comparison (comparison_of op) (expression_of l.value) (expression_of r.value)
compare_denotes op l r = ap expression_of (sym (variants.rolls-Compare op l r)) ∙ fold-roll-Expr Expression expression_step (Expr-F.Compare op l r)

pub same_denotes : (l r : Box Expr Global) → expression_of (views.SameTerm l r) ≡ same_term (expression_of l.value) (expression_of r.value)
same_denotes l r = ap expression_of (sym (variants.rolls-SameTerm l r)) ∙ fold-roll-Expr Expression expression_step (Expr-F.SameTerm l r)

pub variable_denotes : (v : ℕ) → expression_of (variants.Variable v) ≡ variable v
variable_denotes v = ap expression_of (sym (variants.rolls-Variable v)) ∙ fold-roll-Expr Expression expression_step (Expr-F.Variable v)

pub call_denotes : (f : _) (a : Box Expr Global) → expression_of (views.Call f a) ≡ call (function_of f) (expression_of a.value)
call_denotes f a = ap expression_of (sym (variants.rolls-Call f a)) ∙ fold-roll-Expr Expression expression_step (Expr-F.Call f a)
