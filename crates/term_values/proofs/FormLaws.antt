-- A literal that has a key has that of its lexical form.
use Rattle.std.proofs.Common.{◌≡◌, ℕ, suc, ◌+◌, Bool, true, false, ◌==◌, ◌++◌, ◌∷◌, [], List, length, take, drop, Option, None, Some, refl, sym, ◌∙◌, ap, arith, add-one, append-nil, codes, if◌then◌else◌}
use Rattle.std.proofs.lemmas.Bool.Decides.{Decides-eqb}
use Rattle.std.proofs.lemmas.Slice.Eq.{bytes_eq-Decides}
use Rattle.std.specs.Char.{is_ascii_digit}
use Rattle.std.specs.Cmp.{first_so, second_so}
use Rattle.std.specs.List.{list_all, position_or_len}
use Rattle.std.specs.Str.{bytes_eq}
use Rattle.rdf_core.specs.Vocabulary.{xsd_string, xsd_boolean, xsd_decimal}
use Rattle.algebra_model.specs.LiteralValue.{other, string, boolean_value, is_integer_type, literal_value, number_or_other}
use Rattle.algebra_model.specs.Number.{Number, decimal_number, dot, fraction_part, integer_number, is_dot, is_negative, is_numeral, number_of_parts, unsigned, whole_part}
use Rattle.term_values.proofs.NumberSteps.{is_numeral-digits}
use Rattle.term_values.proofs.SignLaws.{in_range}
use Rattle.term_values.specs.EqualityKey.{KeysAreOfForms, first_key, form_key, value_key}

-- ---- integers

no_dot : (cs : List ℕ) → list_all is_ascii_digit cs ≡ true → position_or_len is_dot cs ≡ length cs
no_dot [] h = refl
no_dot (c ∷ cs) h = by (c == dot) refl (no_dot cs (second_so (is_ascii_digit c) (list_all is_ascii_digit cs) h))
  where
    by : (b : Bool) → (c == dot) ≡ b → position_or_len is_dot cs ≡ length cs → position_or_len is_dot (c ∷ cs) ≡ length (c ∷ cs)
    by true e i =
        let r = in_range c (first_so (is_ascii_digit c) (list_all is_ascii_digit cs) h) in
        let is : c ≡ dot = (Decides-eqb c dot).0 e in
        absurd (omega (arith, r.0))
    by false e i = rw e (omega (arith, i))

take_whole : (cs : List ℕ) (k : ℕ) → k ≡ length cs → take k cs ≡ cs
take_whole cs k e = rw e (by cs)
  where
    by : (cs : List ℕ) → take (length cs) cs ≡ cs
    by [] = refl
    by (c ∷ cs) = ap (λ l. c ∷ l) (by cs)

drop_whole : (cs : List ℕ) (k : ℕ) → k ≡ length cs → drop (k + 1) cs ≡ []
drop_whole cs k e = rw (e, add-one) (by cs)
  where
    by : (cs : List ℕ) → drop (suc (length cs)) cs ≡ []
    by [] = refl
    by (c ∷ cs) = by cs

-- the form of an integer is that of the same decimal
parts_alike : (negative : Bool) (cs : List ℕ) (x : Number) → number_of_parts negative cs [] ≡ Some x → number_of_parts negative (whole_part cs) (fraction_part cs) ≡ Some x
parts_alike negative cs x e = by (is_numeral (cs ++ [])) refl e
  where
    alike : list_all is_ascii_digit cs ≡ true → number_of_parts negative cs [] ≡ number_of_parts negative (whole_part cs) (fraction_part cs)
    alike h = let n = no_dot cs h in λ i. number_of_parts negative (sym (take_whole cs (position_or_len is_dot cs) n) i) (sym (drop_whole cs (position_or_len is_dot cs) n) i)

    by : (b : Bool) → is_numeral (cs ++ []) ≡ b → number_of_parts negative cs [] ≡ Some x → number_of_parts negative (whole_part cs) (fraction_part cs) ≡ Some x
    by true n e = sym (alike (is_numeral-digits cs (ap is_numeral (sym (append-nil cs)) ∙ n))) ∙ e
    by false n e = cc

integers_are_decimals : (form : List ℕ) (x : Number) → integer_number form ≡ Some x → decimal_number form ≡ Some x
integers_are_decimals form x e = parts_alike (is_negative form) (unsigned form) x e

-- ---- values

abbrev key_of : Option Number → Option ℕ
key_of x = value_key (number_or_other x)

decimal_form : (form : List ℕ) (key : ℕ) → key_of (decimal_number form) ≡ Some key → form_key form ≡ Some key
decimal_form form key e = ap (λ k. first_key k (value_key (boolean_value form))) e

integer_form : (form : List ℕ) (key : ℕ) → key_of (integer_number form) ≡ Some key → form_key form ≡ Some key
integer_form form key e = by (integer_number form) refl
  where
    by : (x : Option Number) → integer_number form ≡ x → form_key form ≡ Some key
    by None i = cc
    by (Some x) i = decimal_form form key (ap key_of (integers_are_decimals form x i) ∙ sym (ap key_of i) ∙ e)

boolean_form : (form : List ℕ) (key : ℕ) → value_key (boolean_value form) ≡ Some key → form_key form ≡ Some key
boolean_form form key e = by (bytes_eq form (codes "1")) (bytes_eq form (codes "0")) refl refl
  where
    by : (one zero : Bool) → bytes_eq form (codes "1") ≡ one → bytes_eq form (codes "0") ≡ zero → form_key form ≡ Some key
    by true z o n = let is = (bytes_eq-Decides form (codes "1")).0 o in ap form_key is ∙ sym (ap (λ f. value_key (boolean_value f)) is) ∙ e
    by false true o n = let is = (bytes_eq-Decides form (codes "0")).0 n in ap form_key is ∙ sym (ap (λ f. value_key (boolean_value f)) is) ∙ e
    by false false o n = word (bytes_eq form (codes "true")) (bytes_eq form (codes "false")) refl refl
      where
        word : (t f : Bool) → bytes_eq form (codes "true") ≡ t → bytes_eq form (codes "false") ≡ f → form_key form ≡ Some key
        word true f p q = let is = (bytes_eq-Decides form (codes "true")).0 p in ap form_key is ∙ sym (ap (λ f. value_key (boolean_value f)) is) ∙ e
        word false true p q = let is = (bytes_eq-Decides form (codes "false")).0 q in ap form_key is ∙ sym (ap (λ f. value_key (boolean_value f)) is) ∙ e
        word false false p q = cc

-- ---- literals

literal_form : (form datatype : List ℕ) (key : ℕ) → value_key (literal_value form datatype) ≡ Some key → form_key form ≡ Some key
literal_form form datatype key e = by (bytes_eq datatype xsd_string) (bytes_eq datatype xsd_boolean) (bytes_eq datatype xsd_decimal) (is_integer_type datatype) e
  where
    by : (s b d i : Bool)
        → value_key (if s then string form else if b then boolean_value form else if d then number_or_other (decimal_number form) else if i then number_or_other (integer_number form) else other) ≡ Some key
        → form_key form ≡ Some key
    by true b d i e = cc
    by false true d i e = boolean_form form key e
    by false false true i e = decimal_form form key e
    by false false false true e = integer_form form key e
    by false false false false e = cc

pub keys_are_of_forms : KeysAreOfForms
keys_are_of_forms form datatype None key e = literal_form form datatype key e
keys_are_of_forms form datatype (Some tag) key e = cc
