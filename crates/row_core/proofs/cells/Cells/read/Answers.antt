use Rattle.std.proofs.Common.{◌≡◌, ◌+◌, ◌-◌, ◌++◌, ◌∙◌, ap, arith, map, take, drop}
use Rattle.std.proofs.lemmas.Result.{on_ok_weaker}
use Rattle.row_core.specs.Cells.{cell_of, cells_of}
use Rattle.row_core.proofs.CellSteps.{part-read}
use Rattle.row_core.proofs.cells.Cells.read.Goals as goal

pub returns-in-Narrow : goal.returns-in-Narrow
returns-in-Narrow c =
    let a = c.args.start in
    let w = c.args.width in
    let part = part-read c.in-Narrow.codes.items c.deref.result.now (cells_of c.args.self.now) a (a + w - a) w (ap cells_of c.in-Narrow.is) (omega arith) c.deref.ensures.value in
    record {
      read = on_ok_weaker c.push_cells.result
          (λ (added : c.push_cells.new.cells.items ≡ c.clear.new.self.items ++ map cell_of (take (a + w - a) (drop a c.deref.result.now))).
          added ∙ (λ j. c.clear.ensures.items j ++ part j))
          c.push_cells.ensures.added;
    }
