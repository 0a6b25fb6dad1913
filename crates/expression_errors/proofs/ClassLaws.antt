-- The equality of a float and another literal is an error.
use Rattle.std.proofs.Common.{◌≡◌, ℕ, Bool, true, false, not, ◌&&◌, ◌||◌, List, Some, None, if◌then◌else◌, refl, sym, ap, ◌∙◌}
use Rattle.std.proofs.lemmas.Bool.{false≢true}
use Rattle.std.proofs.lemmas.Slice.Eq.{bytes_eq-Decides}
use Rattle.std.specs.Str.{bytes_eq}
use Rattle.rdf_core.specs.Equality.{term_eq}
use Rattle.rdf_core.specs.Vocabulary.{xsd_double}
use Rattle.rdf_core.specs.declared.term.Term.{Term}
use Rattle.rdf_core.specs.declared.term.Term.TheVariants.{Blank, Iri, Literal}
use Rattle.algebra_model.specs.Comparison.{equal_by, equals, is_literal, value_cmp, value_of}
use Rattle.algebra_model.specs.LiteralValue.{LiteralValue, number, boolean, string, other, literal_value}
use Rattle.expression_errors.specs.declared.cause.Kind.{Kind}
use Rattle.expression_errors.specs.Classes.{IsKindOf, is_float, is_float_kind, is_float_type, is_name_kind, xsd_float}

float_type : (form datatype : List ℕ) → is_float_type datatype ≡ true → literal_value form datatype ≡ other
float_type form datatype h = by (bytes_eq datatype xsd_double) refl h
  where
    by : (b : Bool) → bytes_eq datatype xsd_double ≡ b → (b || bytes_eq datatype xsd_float) ≡ true → literal_value form datatype ≡ other
    by true is e = ap (literal_value form) ((bytes_eq-Decides datatype xsd_double).0 is)
    by false is e = ap (literal_value form) ((bytes_eq-Decides datatype xsd_float).0 e)

-- a float has no value
float_value : (t : Term) → is_float t ≡ true → value_of t ≡ other
float_value (Blank label) h = absurd (false≢true h)
float_value (Iri text) h = absurd (false≢true h)
float_value (Literal form datatype None) h = float_type form datatype h
float_value (Literal form datatype (Some tag)) h = absurd (false≢true h)

float_literal : (t : Term) → is_float t ≡ true → is_literal t ≡ true
float_literal (Blank label) h = absurd (false≢true h)
float_literal (Iri text) h = absurd (false≢true h)
float_literal (Literal form datatype tag) h = refl

other_first : (y : LiteralValue) → value_cmp other y ≡ None
other_first (number n) = refl
other_first (boolean b) = refl
other_first (string s) = refl
other_first other = refl

other_last : (x : LiteralValue) → value_cmp x other ≡ None
other_last (number n) = refl
other_last (boolean b) = refl
other_last (string s) = refl
other_last other = refl

no_order : (a b : Term) → value_cmp (value_of a) (value_of b) ≡ None → is_literal a ≡ true → is_literal b ≡ true → term_eq a b ≡ false → equals a b ≡ None
no_order a b order one two apart =
    ap (λ o. equal_by o a b) order
    ∙ (λ i. if (apart i) then (Some true) else (if (one i) && (two i) then None else (Some false)))

both_true : (x y : Bool) → (x && y) ≡ true → (x ≡ true) × (y ≡ true)
both_true true true h = (refl, refl)
both_true true false h = absurd (false≢true h)
both_true false y h = absurd (false≢true h)

-- the first term is a float, and the second one a literal
pub first_is_float : (s o : Kind) (a b : Term) → IsKindOf s a → IsKindOf o b → (is_float_kind s && not (is_name_kind o)) ≡ true → term_eq a b ≡ false → equals a b ≡ None
first_is_float s o a b one two h apart =
    let both = both_true (is_float_kind s) (not (is_name_kind o)) h in
    let float : is_float a ≡ true = sym one.float ∙ both.0 in
    no_order a b (ap (λ v. value_cmp v (value_of b)) (float_value a float) ∙ other_first (value_of b)) (float_literal a float) (sym two.literal ∙ both.1) apart

-- the second term is a float, and the first one a literal
pub second_is_float : (s o : Kind) (a b : Term) → IsKindOf s a → IsKindOf o b → (is_float_kind o && not (is_name_kind s)) ≡ true → term_eq a b ≡ false → equals a b ≡ None
second_is_float s o a b one two h apart =
    let both = both_true (is_float_kind o) (not (is_name_kind s)) h in
    let float : is_float b ≡ true = sym two.float ∙ both.0 in
    no_order a b (ap (value_cmp (value_of a)) (float_value b float) ∙ other_last (value_of a)) (sym one.literal ∙ both.1) (float_literal b float) apart
