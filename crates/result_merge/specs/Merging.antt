-- Results that are merged (choices of this project).
use Rattle.std.specs.Prelude.{◌≡◌, ℕ, Bool, List, ◌∷◌, length, Option, flat_map, IsUtf8}
use Rattle.std.specs.Str.{bytes_eq}
use Rattle.algebra_model.specs.Bag.{IsWithoutRepeats}
use Rattle.algebra_model.specs.Renaming.{Each}
use Rattle.result_json.specs.Results.{json}
use Rattle.row_merge.specs.Merged.{Row, Table, merged}
use Rattle.result_merge.specs.Encoding.{HasUtf8}
use Rattle.result_merge.specs.Tags.{HasTagType}

-- each row has a cell for each variable
abbrev pub AreWide : List (List ℕ) → List Table → Type 0
AreWide vars tables = Each (Each (λ (row : Row). length row ≡ length vars)) tables

-- each literal with a language tag has the datatype of such literals
abbrev pub AreTagged : List Table → Type 0
AreTagged tables = Each (Each (Each HasTagType)) tables

-- the texts of all terms are UTF-8
abbrev pub AreUtf8 : List Table → Type 0
AreUtf8 tables = Each (Each (Each HasUtf8)) tables

-- The input is the results of parts, one after the other, and the output is the result of their merged rows.
pub record IsMerged (once : Bool) (offset : ℕ) (limit : Option ℕ) (input output : List ℕ) : Type 0 where
  pub vars : List (List ℕ)
  pub tables : List Table
  pub wide : AreWide vars tables
  pub tagged : AreTagged tables
  pub read : input ≡ flat_map (json vars) tables
  pub written : output ≡ json vars (merged once offset limit tables)

-- The input is one or more results, one after the other, with the same variables. No variable is listed twice, and the names
-- and all texts are UTF-8.
pub record AreResults (input : List ℕ) : Type 0 where
  pub vars : List (List ℕ)
  pub table : Table
  pub tables : List Table
  pub once : IsWithoutRepeats bytes_eq vars
  pub named : Each IsUtf8 vars
  pub wide : AreWide vars (table ∷ tables)
  pub tagged : AreTagged (table ∷ tables)
  pub utf8 : AreUtf8 (table ∷ tables)
  pub read : input ≡ flat_map (json vars) (table ∷ tables)
