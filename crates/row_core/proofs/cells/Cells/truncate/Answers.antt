use Rattle.std.proofs.Common.{◌∙◌, ap, sym, map, take}
use Rattle.std.proofs.lemmas.List.{take-map}
use Rattle.row_core.specs.Cells.{cell_of, cells_of}
use Rattle.row_core.specs.declared.cells.Cells.{Cells}
use Rattle.row_core.proofs.cells.Cells.truncate.Goals as goal

pub returns-in-Narrow : goal.returns-in-Narrow
returns-in-Narrow c = record {
  kept =
      ap (map cell_of) c.truncate.ensures.items
      ∙ sym (take-map cell_of c.args.len c.in-Narrow.codes.items)
      ∙ ap (λ (s : Cells). take c.args.len (cells_of s)) (sym c.in-Narrow.is);
}
