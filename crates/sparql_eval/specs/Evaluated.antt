-- Rows of numbers, read as solutions of terms through a dictionary. This representation is a choice
-- of this project.
use Rattle.std.specs.Prelude.{◌≡◌, ℕ, ◌<◌, List, length, map}
use Rattle.rdf_core.specs.declared.term.Term.{Term}
use Rattle.algebra_model.specs.Bag.{IsSameBag}
use Rattle.algebra_model.specs.Solution.{Solution}
use Rattle.algebra_model.specs.Renaming.{Each, EachBound, read_row}
use Rattle.dict_core.specs.Dict.{term_at, IsGrown}
use Rattle.row_core.specs.RowList.{RowList}

-- the solutions that the rows represent, with the term of each number
abbrev pub solutions_of : List Term → RowList → List (Solution Term)
solutions_of terms rows = map (read_row (term_at terms)) rows.rows

-- each number in the rows is the number of a term
abbrev pub AreKnown : List Term → RowList → Type 0
AreKnown terms rows = Each (EachBound (λ n. n < length terms)) rows.rows

-- The result of an operator. It was given a dictionary of these terms, and its definition gives the
-- solutions A over this number of variables. It returns rows and a dictionary.
pub record IsEvaluated
    (terms : List Term) (width : ℕ) (A : List (Solution Term))
    (made : RowList) (terms' : List Term) : Type 0 where
  -- the returned dictionary begins with the given one
  pub grown : IsGrown terms terms'
  pub wide : made.width ≡ width
  pub known : AreKnown terms' made
  -- the rows, read through the returned dictionary, are the solutions with the same multiplicities
  pub bag : IsSameBag (solutions_of terms' made) A
