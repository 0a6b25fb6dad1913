-- What the laws of this crate say.
use Rattle.std.specs.Prelude.{◌≡◌, ℕ, true, List, [], None, Contains}
use Rattle.std.specs.Option.{option_eq}
use Rattle.rdf_core.specs.Equality.{term_eq}
use Rattle.rdf_core.specs.QuadParts.{QuadParts}
use Rattle.algebra_model.specs.Algebra.{Algebra, is_within}
use Rattle.algebra_model.specs.Bag.{IsSameBag}
use Rattle.algebra_model.specs.Eval.{eval}
use Rattle.needed_quads.specs.Needed.{is_needed}

-- the quads of E are some of D, and all of D that the expression needs
pub record HasNeeded (D E : List QuadParts) (A : Algebra) : Type 0 where
  pub within : (q : QuadParts) → Contains E q → Contains D q
  pub needed : (q : QuadParts) → Contains D q → is_needed q (option_eq term_eq q.g None) [] A ≡ true → Contains E q

-- Quads that an expression does not need may be left out.
abbrev pub NeededSuffice : Type 0
NeededSuffice = (w : ℕ) (A : Algebra) (D E : List QuadParts)
    → is_within w A ≡ true
    → HasNeeded D E A
    → IsSameBag (eval w D None A) (eval w E None A)
