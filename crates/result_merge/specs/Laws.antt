-- What the law of this crate says.
use Rattle.std.specs.Prelude.{◌≡◌, ℕ, List, ◌∷◌, flat_map}
use Rattle.std.specs.Str.{bytes_eq}
use Rattle.algebra_model.specs.Bag.{IsWithoutRepeats}
use Rattle.result_json.specs.Results.{json}
use Rattle.row_merge.specs.Merged.{Table}
use Rattle.result_merge.specs.Merging.{AreTagged, AreWide}

-- Bytes are the results of one list of tables only, for one list of variables, if no variable is listed twice.
abbrev pub ResultsAreUnique : Type 0
ResultsAreUnique =
    (vars names : List (List ℕ)) (table : Table) (tables others : List Table)
    → IsWithoutRepeats bytes_eq vars
    → AreWide vars (table ∷ tables) → AreTagged (table ∷ tables)
    → AreWide names others → AreTagged others
    → flat_map (json vars) (table ∷ tables) ≡ flat_map (json names) others
    → (vars ≡ names) × (table ∷ tables ≡ others)
