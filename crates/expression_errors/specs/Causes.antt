-- What the causes of errors are (a choice of this project; the errors are those of SPARQL 1.1 Query
-- Language, section 17.3).
use Rattle.std.specs.Prelude.{◌≡◌, ℕ, Bool, true, false, ◌⊎◌, List}
use Rattle.rdf_core.specs.declared.term.Term.{Term}
use Rattle.rdf_core.specs.declared.term.Term.TheVariants.{Blank, Iri, Literal}
use Rattle.algebra_model.specs.Comparison.{is_literal}
use Rattle.expression_errors.specs.declared.cause.Cause.{Cause}
use Rattle.expression_errors.specs.declared.cause.Cause.TheVariants.{Unbound, SomeUnbound, Call, NotLiteral, Tagged, Kinds, Datatype, IllFormed, NoTruth}
use Rattle.expression_errors.specs.Classes.{has_tag, is_ill_typed}

-- the causes that queries meet on purpose
abbrev pub is_common : Cause → Bool
is_common (Unbound variable) = true
is_common (SomeUnbound variable) = true
is_common Call = true
is_common NotLiteral = true
is_common Tagged = false
is_common Kinds = false
is_common (Datatype iri) = false
is_common (IllFormed iri) = false
is_common (NoTruth iri) = false

-- a literal of this datatype
abbrev pub HasDatatype : Term → List ℕ → Type 0
HasDatatype (Blank label) iri = ⊥
HasDatatype (Iri text) iri = ⊥
HasDatatype (Literal form datatype tag) iri = datatype ≡ iri

-- an ill-typed literal of this datatype
abbrev pub IsIllTyped : Term → List ℕ → Type 0
IsIllTyped term iri = (is_ill_typed term ≡ true) × HasDatatype term iri

abbrev pub AreLiterals : Term → Term → Type 0
AreLiterals a b = (is_literal a ≡ true) × (is_literal b ≡ true)

abbrev pub HaveNoTag : Term → Term → Type 0
HaveNoTag a b = (has_tag a ≡ false) × (has_tag b ≡ false)

-- The cause is true of two terms that are compared: one of them is no literal, has a language tag, is
-- ill-typed or is of the named datatype.
abbrev pub Explains : Cause → Term → Term → Type 0
Explains NotLiteral a b = (is_literal a ≡ false) ⊎ (is_literal b ≡ false)
Explains Tagged a b = AreLiterals a b × ((has_tag a ≡ true) ⊎ (has_tag b ≡ true))
Explains Kinds a b = AreLiterals a b × HaveNoTag a b
Explains (Datatype iri) a b = AreLiterals a b × HaveNoTag a b × (HasDatatype a iri ⊎ HasDatatype b iri)
Explains (IllFormed iri) a b = AreLiterals a b × (IsIllTyped a iri ⊎ IsIllTyped b iri)
Explains (NoTruth iri) a b = ⊥
Explains (Unbound variable) a b = ⊥
Explains (SomeUnbound variable) a b = ⊥
Explains Call a b = ⊥

-- the cause is true of a term that has no effective boolean value
abbrev pub ExplainsTruth : Cause → Term → Type 0
ExplainsTruth NotLiteral term = is_literal term ≡ false
ExplainsTruth (NoTruth iri) term = HasDatatype term iri
ExplainsTruth _ term = ⊥
