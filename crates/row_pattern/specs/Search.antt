-- What a search restores. Only private clauses use this definition.
use Rattle.std.specs.Prelude.{ℕ}
use Rattle.algebra_model.specs.Solution.{Solution}
use Rattle.row_pattern.specs.declared.steps.Step.{Step}
use Rattle.row_pattern.specs.declared.search.StepBinding.{StepBinding}
use Rattle.row_pattern.specs.Places.{put_at}

-- the row with what the places of the step held
abbrev pub put_back : Step → StepBinding → Solution ℕ → Solution ℕ
put_back step held m = put_at step.subject held.subject
    (put_at step.predicate held.predicate (put_at step.object held.object m))
