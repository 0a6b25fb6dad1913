use Rattle.std.proofs.Common.{◌∙◌, sym, ap, set, None}
use Rattle.row_core.specs.Cells.{cells_of}
use Rattle.row_core.specs.declared.cells.Cells.{Cells}
use Rattle.row_core.proofs.CellSteps.{code-unbound}
use Rattle.row_core.proofs.cells.Cells.unbind.Goals as goal

pub returns-in-Narrow : goal.returns-in-Narrow
returns-in-Narrow c = record {
  unbound = code-unbound c.in-Narrow.codes.items c.args.at ∙ ap (λ (s : Cells). set (cells_of s) c.args.at None) (sym c.in-Narrow.is);
}
