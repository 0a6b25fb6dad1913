use Rattle.std.proofs.Common.{◌≡◌, length}
use Rattle.algebra_model.specs.Renaming.{Each}
use Rattle.result_merge.specs.Tags.{HasTagType}
use Rattle.result_merge.proofs.rows.unbound.Given as goal

abbrev pub invariant-loop-place : goal.invariant-loop-place
invariant-loop-place l = (length l.cells.items ≡ l._place) × Each HasTagType l.cells.items
