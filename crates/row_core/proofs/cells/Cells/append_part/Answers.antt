use Rattle.std.proofs.Common.{◌≡◌, ◌+◌, ◌-◌, ◌++◌, ◌∙◌, List, Option, ℕ, ap, arith, map, take, drop}
use Rattle.std.proofs.lemmas.Result.{on_ok_weaker}
use Rattle.row_core.specs.Cells.{cell_of, cells_of}
use Rattle.row_core.proofs.CellSteps.{part-read}
use Rattle.row_core.proofs.cells.Cells.append_part.Goals as goal

pub returns-in-Narrow-clause-added : goal.returns-in-Narrow-clause-added
returns-in-Narrow-clause-added c =
    let a = c.args.start in
    let w = c.args.width in
    let held = cells_of c.args.self.now in
    let part = part-read c.in-Narrow.codes.items c.deref.result.now (cells_of c.args.others.now) a (a + w - a) w (ap cells_of c.in-Narrow.is) (omega arith) c.deref.ensures.value in
    on_ok_weaker c.extend_by_codes.result
    (λ (added : cells_of c.extend_by_codes.new.self ≡ held ++ map cell_of (take (a + w - a) (drop a c.deref.result.now))).
    added ∙ ap (λ (r : List (Option ℕ)). held ++ r) part)
    c.extend_by_codes.ensures.added
