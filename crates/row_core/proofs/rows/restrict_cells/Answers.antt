use Rattle.std.proofs.Common.{◌≡◌, ℕ, ◌+◌, ◌*◌, ◌≤◌, ◌∙◌, ap, refl, sym, arith, false, get_or, length, drop, take}
use Rattle.algebra_model.specs.Operators.{restrict}
use borrow.Rule.Slice.PartMut.{same_len_mid}
use Rattle.row_core.specs.Cells.{cells_of}
use Rattle.row_core.specs.RowList.{rows_in, stride}
use Rattle.row_core.proofs.RowSteps.{row-inside}
use Rattle.row_core.proofs.RestrictSteps.{length-part, length-restricted, rest-kept, rows-mapped}
use Rattle.row_core.proofs.rows.restrict_cells.Goals as goal

pub overflow_mul-i : goal.overflow_mul-i
overflow_mul-i c =
    let w = length c.args.kept.now in
    let n = c.loop-i.i in
    let h : w ≤ stride w = omega arith in
    let e = ap (λ s. n * s) c.stride-step.ensures.value in
    let fits = row-inside w (stride w) c.args.count n (length (cells_of c.args.cells.now)) (omega arith) h c.requires.whole in
    let l = c.len-long.ensures.value in
    let t = c.len-long.type_inv in
    omega arith

pub restrict_row-requires : goal.restrict_row-requires
restrict_row-requires c =
    let w = length c.args.kept.now in
    let n = c.loop-i.i in
    let h : w ≤ stride w = omega arith in
    let e = ap (λ s. n * s) c.stride-step.ensures.value in
    let fits = row-inside w (stride w) c.args.count n (length (cells_of c.args.cells.now)) (omega arith) h c.requires.whole in
    let l = c.loop-i.invariant.long in
    record { inside = omega arith }

pub loop-i-preserved : goal.loop-i-preserved
loop-i-preserved c =
    let w = length c.args.kept.now in
    let keeps = λ (k : ℕ). get_or c.args.kept.now k false in
    let n = c.loop-i.i in
    let a = n * c.stride-step.result in
    let was = cells_of c.args.cells.now in
    let cells = cells_of c.loop-i.cells in
    let row = restrict keeps (take w (drop a cells)) in
    let held = c.loop-i.invariant in
    let new = c.restrict_row.ensures.restricted in
    let h : w ≤ stride w = omega arith in
    let at : a ≡ n * stride w = ap (λ s. n * s) c.stride-step.ensures.value in
    let fits : n * stride w + w ≤ length was = row-inside w (stride w) c.args.count n (length was) (omega arith) h c.requires.whole in
    let l = held.long in
    let inside : a + w ≤ length cells = omega arith in
    let wide : length row ≡ w = length-restricted keeps w a w cells row refl refl inside in
    record {
      restricted = ap (rows_in w (stride w) (n + 1)) new ∙ rows-mapped w (stride w) (restrict keeps) n a w was cells row h at refl (omega arith) wide refl held.rest held.restricted;
      rest = ap (drop ((n + 1) * stride w)) new ∙ rest-kept w (stride w) n a w was cells row h at refl (omega arith) wide held.rest;
      long = ap length new ∙ same_len_mid a w cells row (wide ∙ sym (length-part a w cells inside)) ∙ held.long;
    }

pub returns-clause-restricted : goal.returns-clause-restricted
returns-clause-restricted c =
    let all : c.loop-i.i ≡ c.args.count = omega arith in
    rw all at c.loop-i.invariant.restricted
