use Rattle.std.proofs.Common.{◌≡◌, drop}
use Rattle.std.specs.List.{list_all}
use Rattle.row_core.specs.Cells.{has_code}
use Rattle.row_core.proofs.cells.have_codes.Given as goal

abbrev pub invariant-loop-i : goal.invariant-loop-i
invariant-loop-i l = list_all has_code (drop l.i l.cells) ≡ list_all has_code l.cells
