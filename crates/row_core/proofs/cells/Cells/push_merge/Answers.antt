use Rattle.std.proofs.Common.{◌≡◌, ◌+◌, ◌-◌, ◌++◌, ◌∙◌, Bool, nat_eq, ap, sym, arith, map, take, drop, if◌then◌else◌}
use Rattle.std.proofs.lemmas.Result.{IfOk-weaker}
use Rattle.algebra_model.specs.Solution.{is_compatible, merge}
use Rattle.row_core.specs.Cells.{cell_of, cells_of}
use Rattle.row_core.proofs.CellSteps.{part-read}
use Rattle.row_core.proofs.cells.Cells.push_merge.Goals as goal

pub returns-in-Narrow-clause-merged : goal.returns-in-Narrow-clause-merged
returns-in-Narrow-clause-merged c =
    let w = c.args.width in
    let i = c.args.i in
    let j = c.args.j in
    let from = c.in-Narrow-Narrow in
    let a = map cell_of (take (i + w - i) (drop i c.deref.result.now)) in
    let b = map cell_of (take (j + w - j) (drop j c.deref-in-Narrow.result.now)) in
    let left = part-read from.a.items c.deref.result.now (cells_of c.args.left.now) i (i + w - i) w (ap cells_of from.is-0) (omega arith) c.deref.ensures.value in
    let right = part-read from.b.items c.deref-in-Narrow.result.now (cells_of c.args.right.now) j (j + w - j) w (ap cells_of from.is-1) (omega arith) c.deref-in-Narrow.ensures.value in
    let held = map cell_of c.in-Narrow.codes.items in
    let here : held ≡ cells_of c.args.self.now = ap cells_of (sym c.in-Narrow.is) in
    IfOk-weaker c.push_codes.result
    (λ (met : Bool). map cell_of c.push_codes.new.codes.items ≡ (if met then held ++ merge a b else held)) _
    (λ met e. e ∙ (λ k. if met then here k ++ merge (left k) (right k) else here k))
    c.push_codes.ensures.merged

pub returns-in-Narrow-clause-met : goal.returns-in-Narrow-clause-met
returns-in-Narrow-clause-met c =
    let w = c.args.width in
    let i = c.args.i in
    let j = c.args.j in
    let from = c.in-Narrow-Narrow in
    let a = map cell_of (take (i + w - i) (drop i c.deref.result.now)) in
    let b = map cell_of (take (j + w - j) (drop j c.deref-in-Narrow.result.now)) in
    let left = part-read from.a.items c.deref.result.now (cells_of c.args.left.now) i (i + w - i) w (ap cells_of from.is-0) (omega arith) c.deref.ensures.value in
    let right = part-read from.b.items c.deref-in-Narrow.result.now (cells_of c.args.right.now) j (j + w - j) w (ap cells_of from.is-1) (omega arith) c.deref-in-Narrow.ensures.value in
    IfOk-weaker c.push_codes.result (λ (met : Bool). met ≡ is_compatible nat_eq a b) _
    (λ met e. e ∙ (λ k. is_compatible nat_eq (left k) (right k)))
    c.push_codes.ensures.met
