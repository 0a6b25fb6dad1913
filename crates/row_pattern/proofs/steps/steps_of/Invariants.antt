use Rattle.std.proofs.Common.{◌≡◌, ◌^◌, map, take, drop}
use Rattle.algebra_model.specs.Solve.{AreBelow}
use Rattle.row_pattern.specs.Numbered.{pattern_of}
use Rattle.row_pattern.specs.Steps.{step_pattern, placed_pattern}
use Rattle.row_pattern.proofs.steps.steps_of.Given as goal

abbrev pub invariant-loop-triple : goal.invariant-loop-triple
invariant-loop-triple l = record {
  steps : map step_pattern l.steps.items ≡ map (placed_pattern l.width) (map pattern_of (take l.triple-index l.patterns));
  below : AreBelow l.width (2 ^ 64) (map pattern_of (drop l.triple-index l.patterns));
}
