-- The result of a query from the results of its parts.
use Rattle.std.specs.Prelude.{◌≡◌, ◌⊎◌, ℕ, Bool, true, List, ◌∷◌, ◌++◌, map, Ok}
use Rattle.rdf_core.specs.QuadParts.{QuadParts}
use Rattle.nquads_core.specs.Lines.{lines}
use Rattle.nquads_core.specs.Pieces.{HaveStatements}
use Rattle.algebra_model.specs.Bag.{IsSameSet}
use Rattle.algebra_model.specs.Pieces.{joined}
use Rattle.algebra_model.specs.Renaming.{Each}
use Rattle.spq_core.specs.Outcome.{IsQueryResult}
use Rattle.query_split.specs.declared.split.Split.{Split}
use Rattle.query_split.specs.declared.split.Split.TheVariants as by
use Rattle.query_split.specs.Parts.{AreParts}
use Rattle.query_plan.specs.declared.planning.MergePlan.{MergePlan}
use Rattle.query_plan.specs.declared.planning.PartsPlan.{PartsPlan}
use Rattle.query_plan.specs.Planned.{IsPlan}
use Rattle.result_merge.specs.Merging.{IsMerged}

-- a part: its document, the quads of the document, and the result over it
pub record PartResult : Type 0 where
  pub document : List ℕ
  pub quads : List QuadParts
  pub result : List ℕ

-- the result is that of the text of a query
abbrev pub IsPartResult : List ℕ → PartResult → Type 0
IsPartResult query p = HaveStatements (lines p.document) p.quads × IsQueryResult p.document query (Ok p.result)

-- Nothing is in two parts. By lines a quad may be in two parts if each row is listed once.
abbrev pub AreFitParts : Split → Bool → List QuadParts → List (List QuadParts) → Type 0
AreFitParts split once part parts = AreParts split part parts ⊎ ((split ≡ by.Lines) × (once ≡ true))

-- The merges before the last one: some results next to each other are merged, any number of times. The second list is what is
-- left.
pub data AreMerged (m : MergePlan) : List (List ℕ) → List (List ℕ) → Type 0 where
  as_they_are : {results : List (List ℕ)} → AreMerged m results results
  merged_once : {left : List (List ℕ)} (before group after : List (List ℕ)) (first result : List ℕ)
      → IsMerged m.distinct 0 m.kept (joined (first ∷ group)) result
      → AreMerged m (before ++ result ∷ after) left
      → AreMerged m (before ++ first ∷ (group ++ after)) left

-- The last merge writes the result of the query over a document that has the quads of all parts.
abbrev pub MergesGiveResult : Type 0
MergesGiveResult =
    (split : Split) (text : List ℕ) (plan : PartsPlan)
    → IsPlan split text plan
    → (part : PartResult) (parts : List PartResult)
    → Each (IsPartResult plan.query.items) (part ∷ parts)
    → AreFitParts split plan.merge.distinct part.quads (map (λ p. p.quads) parts)
    → (left : List (List ℕ)) (output : List ℕ)
    → AreMerged plan.merge (map (λ p. p.result) (part ∷ parts)) left
    → IsMerged plan.merge.distinct plan.merge.offset plan.merge.limit (joined left) output
    → (document : List ℕ) (D : List QuadParts)
    → HaveStatements (lines document) D
    → IsSameSet D (joined (map (λ p. p.quads) (part ∷ parts)))
    → IsQueryResult document text (Ok output)
