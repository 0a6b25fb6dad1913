-- Terms that are equal by `=` have one key.
use Rattle.std.proofs.Common.{◌≡◌, ℕ, Bool, true, false, ◌&&◌, List, Option, None, Some, refl, sym, ◌∙◌, ap, if◌then◌else◌}
use Rattle.std.proofs.lemmas.Bool.{false≢true}
use Rattle.std.proofs.lemmas.Slice.Eq.{bytes_eq-Decides}
use Rattle.std.proofs.lemmas.Map.Text.{is_eq-slice_cmp}
use Rattle.std.specs.Cmp.Lexicographic.{slice_cmp}
use Rattle.std.specs.Ordering.{nat_cmp, bool_cmp, is_eq}
use Rattle.std.specs.Str.{bytes_eq}
use Rattle.std.specs.declared.cmp.Ordering.{Ordering}
use Rattle.std.specs.declared.cmp.Ordering.TheVariants.{Less, Equal, Greater}
use Rattle.rdf_core.specs.Vocabulary.{xsd_string, xsd_boolean, xsd_decimal}
use Rattle.rdf_core.specs.declared.term.Term.{Term}
use Rattle.rdf_core.specs.declared.term.Term.TheVariants.{Blank, Iri, Literal}
use Rattle.rdf_core.proofs.TermLaws.{term_eq, term_decides}
use Rattle.algebra_model.specs.Comparison.{equal_by, equals, is_literal, terms_equal, value_cmp, value_of}
use Rattle.algebra_model.specs.LiteralValue.{LiteralValue, number, boolean, string, other, boolean_value, is_integer_type, literal_value, number_or_other}
use Rattle.algebra_model.specs.Number.{Number, decimal_number, integer_number, number_cmp}
use Rattle.term_values.proofs.ResidueLaws.{numbers_meet}
use Rattle.term_values.specs.EqualityKey.{HaveOneKey, equality_key, value_key}

-- ---- values

equal_from : (o : Ordering) → is_eq o ≡ true → Equal ≡ o
equal_from Less e = cc
equal_from Equal e = refl
equal_from Greater e = cc

booleans_meet : (x y : Bool) → is_eq (bool_cmp x y) ≡ true → x ≡ y
booleans_meet true true e = refl
booleans_meet true false e = cc
booleans_meet false true e = cc
booleans_meet false false e = refl

values_meet : (u v : LiteralValue) (o : Ordering) → value_cmp u v ≡ Some o → is_eq o ≡ true → value_key u ≡ value_key v
values_meet (number x) (number y) o c e = let p : number_cmp x y ≡ o = cc in ap Some (numbers_meet x y (equal_from o e ∙ sym p))
values_meet (number x) (boolean y) o c e = cc
values_meet (number x) (string y) o c e = cc
values_meet (number x) other o c e = cc
values_meet (boolean x) (number y) o c e = cc
values_meet (boolean x) (boolean y) o c e =
    let p : bool_cmp x y ≡ o = cc in ap (λ b. value_key (boolean b)) (booleans_meet x y (ap is_eq p ∙ e))
values_meet (boolean x) (string y) o c e = cc
values_meet (boolean x) other o c e = cc
values_meet (string x) (number y) o c e = cc
values_meet (string x) (boolean y) o c e = cc
values_meet (string x) (string y) o c e = refl
values_meet (string x) other o c e = cc
values_meet other v o c e = cc

-- ---- strings

abbrev is_string : LiteralValue → Bool
is_string (number x) = false
is_string (boolean b) = false
is_string (string form) = true
is_string other = false

boolean_is_none : (b c : Bool) → is_string (if b then boolean true else if c then boolean false else other) ≡ false
boolean_is_none true c = refl
boolean_is_none false true = refl
boolean_is_none false false = refl

number_is_none : (x : Option Number) → is_string (number_or_other x) ≡ false
number_is_none None = refl
number_is_none (Some x) = refl

others_are_none : (b c d : Bool) (u v w : LiteralValue) → is_string u ≡ false → is_string v ≡ false → is_string w ≡ false → is_string (if b then u else if c then v else if d then w else other) ≡ false
others_are_none true c d u v w p q r = p
others_are_none false true d u v w p q r = q
others_are_none false false true u v w p q r = r
others_are_none false false false u v w p q r = refl

string_form : (form datatype text : List ℕ) → literal_value form datatype ≡ string text → (form ≡ text) × (datatype ≡ xsd_string)
string_form form datatype text e = by (bytes_eq datatype xsd_string) refl e
  where
    rest : LiteralValue
    rest =
        if bytes_eq datatype xsd_boolean then boolean_value form
        else if bytes_eq datatype xsd_decimal then number_or_other (decimal_number form)
        else if is_integer_type datatype then number_or_other (integer_number form)
        else other

    none : is_string rest ≡ false
    none =
        others_are_none (bytes_eq datatype xsd_boolean) (bytes_eq datatype xsd_decimal) (is_integer_type datatype) (boolean_value form) (number_or_other (decimal_number form)) (number_or_other (integer_number form))
        (boolean_is_none _ _) (number_is_none (decimal_number form)) (number_is_none (integer_number form))

    by : (b : Bool) → bytes_eq datatype xsd_string ≡ b → (if b then string form else rest) ≡ string text → (form ≡ text) × (datatype ≡ xsd_string)
    by true is e = (let p : form ≡ text = cc in p, (bytes_eq-Decides datatype xsd_string).0 is)
    by false is e = absurd (false≢true (sym none ∙ ap is_string e))

string_term : (t : Term) (text : List ℕ) → value_of t ≡ string text → t ≡ Literal text xsd_string None
string_term (Blank label) text e = cc
string_term (Iri iri) text e = cc
string_term (Literal form datatype None) text e = let p = string_form form datatype text e in λ i. Literal (p.0 i) (p.1 i) None
string_term (Literal form datatype (Some tag)) text e = cc

texts_meet : (x y : List ℕ) → is_eq (slice_cmp nat_cmp x y) ≡ true → x ≡ y
texts_meet x y e = (bytes_eq-Decides x y).0 (sym (is_eq-slice_cmp x y) ∙ e)

-- ---- terms

keyless_meet : (a b : Term) (u v : LiteralValue) (o : Ordering) → value_of a ≡ u → value_of b ≡ v → value_cmp u v ≡ Some o → is_eq o ≡ true → value_key u ≡ None → a ≡ b
keyless_meet a b (number x) v o p q c e k = cc
keyless_meet a b (boolean x) v o p q c e k = cc
keyless_meet a b (string x) (number y) o p q c e k = cc
keyless_meet a b (string x) (boolean y) o p q c e k = cc
keyless_meet a b (string x) (string y) o p q c e k =
    let r : slice_cmp nat_cmp x y ≡ o = cc in
    string_term a x p ∙ ap (λ t. Literal t xsd_string None) (texts_meet x y (ap is_eq r ∙ e)) ∙ sym (string_term b y q)
keyless_meet a b (string x) other o p q c e k = cc
keyless_meet a b other v o p q c e k = cc

same_terms : (a b : Term) → terms_equal a b ≡ Some true → a ≡ b
same_terms a b e = by (term_eq a b) (is_literal a && is_literal b) (term_decides a b).0 e
  where
    by : (c d : Bool) → (c ≡ true → a ≡ b) → (if c then Some true else if d then None else Some false) ≡ Some true → a ≡ b
    by true d h e = h refl
    by false true h e = cc
    by false false h e = cc

pub equal_terms_meet : (a b : Term) → equals a b ≡ Some true → HaveOneKey a b
equal_terms_meet a b e = by (value_cmp (value_of a) (value_of b)) refl e
  where
    by : (c : Option Ordering) → value_cmp (value_of a) (value_of b) ≡ c → equal_by c a b ≡ Some true → HaveOneKey a b
    by (Some o) c e =
        let eq : is_eq o ≡ true = cc in (
          values_meet (value_of a) (value_of b) o c eq,
          keyless_meet a b (value_of a) (value_of b) o refl refl c eq,
        )
    by None c e = let p = same_terms a b e in (ap equality_key p, λ k. p)
