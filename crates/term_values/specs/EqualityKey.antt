-- Keys of terms, under which terms that are equal by `=` are found together (SPARQL 1.1 Query
-- Language, section 17.3). Different terms may have one key. The keys are a choice of this project;
-- no definition of the algebra depends on them.
use Rattle.std.specs.Prelude.{◌≡◌, ℕ, ◌-◌, ◌*◌, ◌%◌, ◌^◌, true, List, Option, Some, None, if◌then◌else◌}
use Rattle.rdf_core.specs.declared.term.Term.{Term}
use Rattle.rdf_core.specs.declared.term.Term.TheVariants.{Literal}
use Rattle.algebra_model.specs.Number.{Number, decimal_number}
use Rattle.algebra_model.specs.LiteralValue.{LiteralValue, number, boolean, string, other, boolean_value, number_or_other}
use Rattle.algebra_model.specs.Comparison.{equals, value_of}

-- the largest prime number below 2^60 that ends in 9. A prime other than 2 and 5 gives each decimal
-- number a residue.
abbrev pub modulus : ℕ
modulus = 1152921504606846869

-- one tenth as a residue: ten times it is the modulus plus 1
abbrev pub tenth : ℕ
tenth = 115292150460684687

-- the residue of a number without its sign
abbrev pub size_key : Number → ℕ
size_key x = (x.digits * tenth ^ x.places) % modulus

-- the residue of a number
abbrev pub number_key : Number → ℕ
number_key x = if x.negative then (modulus - size_key x) % modulus else size_key x

-- the key of a value; strings and other terms have none
abbrev pub value_key : LiteralValue → Option ℕ
value_key (number x) = Some (number_key x)
value_key (boolean b) = Some (if b then 1 else 0)
value_key (string form) = None
value_key other = None

-- the key of a term
abbrev pub equality_key : Term → Option ℕ
equality_key t = value_key (value_of t)

-- the first key, or else the second
abbrev pub first_key : Option ℕ → Option ℕ → Option ℕ
first_key None second = second
first_key (Some key) second = Some key

-- the key of the decimal number or the boolean with this lexical form
abbrev pub form_key : List ℕ → Option ℕ
form_key form = first_key (value_key (number_or_other (decimal_number form))) (value_key (boolean_value form))

-- the keys are the same, and terms without a key are the same term
abbrev pub HaveOneKey : Term → Term → Type 0
HaveOneKey a b = (equality_key a ≡ equality_key b) × (equality_key a ≡ None → a ≡ b)

-- terms that are equal by `=` have one key
abbrev pub EqualTermsHaveOneKey : Type 0
EqualTermsHaveOneKey = (a b : Term) → equals a b ≡ Some true → HaveOneKey a b

-- a literal that has a key has that of its lexical form, whatever its datatype
abbrev pub KeysAreOfForms : Type 0
KeysAreOfForms =
    (form datatype : List ℕ) (tag : Option (List ℕ)) (key : ℕ) → equality_key (Literal form datatype tag) ≡ Some key
    → form_key form ≡ Some key
