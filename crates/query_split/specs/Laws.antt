-- What the laws of this crate say.
use Rattle.std.specs.Prelude.{◌≡◌, ℕ, true, List, ◌∷◌, None, flat_map}
use Rattle.rdf_core.specs.QuadParts.{QuadParts}
use Rattle.algebra_model.specs.Algebra.{Algebra, is_within}
use Rattle.algebra_model.specs.Bag.{IsSameBag, IsSameSet}
use Rattle.algebra_model.specs.Eval.{eval}
use Rattle.algebra_model.specs.Pieces.{joined}
use Rattle.query_split.specs.declared.split.Split.{Split}
use Rattle.query_split.specs.Condition.{Key, is_apart}
use Rattle.query_split.specs.Parts.{AreParts}

-- The solutions over a dataset are those over its parts, all together.
abbrev pub PartsHaveAll : Type 0
PartsHaveAll =
    (split : Split) (key : Key) (w : ℕ) (A : Algebra)
    → is_within w A ≡ true
    → is_apart split key A ≡ true
    → (D part : List QuadParts) (parts : List (List QuadParts))
    → AreParts split part parts
    → IsSameSet D (joined (part ∷ parts))
    → IsSameBag (eval w D None A) (flat_map (λ p. eval w p None A) (part ∷ parts))
