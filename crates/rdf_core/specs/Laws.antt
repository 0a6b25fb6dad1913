-- The laws of this crate.
use Rattle.std.specs.Prelude.{◌≡◌, ◌↔◌, true}
use Rattle.rdf_core.specs.declared.term.Term.{Term}
use Rattle.rdf_core.specs.Equality.{derived_cmp, term_eq}
use Rattle.rdf_core.specs.Order.{term_cmp}

-- `==` returns true for two terms if and only if they are the same
abbrev pub TermEqualityIsIdentity : Type 0
TermEqualityIsIdentity = (a b : Term) → (term_eq a b ≡ true) ↔ (a ≡ b)

-- `cmp` is `term_cmp` of Order
abbrev pub OrderIsByParts : Type 0
OrderIsByParts = (a b : Term) → derived_cmp a b ≡ term_cmp a b
