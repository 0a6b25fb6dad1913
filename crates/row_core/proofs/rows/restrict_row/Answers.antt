use Rattle.std.proofs.Common.{◌≡◌, ◌+◌, ℕ, List, Option, false, get_or, length, take, drop, ◌∙◌, ap, sym, arith, set, None}
use Rattle.std.proofs.lemmas.Grind.{common_steps}
use borrow.Rule.Slice.PartMut.{put_mid, put_same, same_len_mid}
use Rattle.row_core.specs.Cells.{cells_of}
use Rattle.row_core.proofs.RestrictSteps.{length-part, length-partly, set-part, restrict-keep, restrict-unbind, restrict-whole}
use Rattle.row_core.proofs.rows.restrict_row.Goals as goal
use Rattle.row_core.proofs.rows.restrict_row.Goals.{then-not-kept-i, else-not-kept-i}

pub loop-i-init : goal.loop-i-init
loop-i-init c = sym (put_same c.args.start (length c.args.kept.now) (cells_of c.args.cells.now))

pub unbind-requires : goal.unbind-requires
unbind-requires c =
    let keeps = λ (k : ℕ). get_or c.args.kept.now k false in
    let w = length c.args.kept.now in
    let a = c.args.start in
    let cells = cells_of c.args.cells.now in
    let row = take w (drop a cells) in
    let long : length row ≡ w = length-part a w cells c.requires.inside in
    let held = ap length c.loop-i.invariant ∙ same_len_mid a w cells _ (length-partly keeps row c.loop-i.i (omega arith)) in
    record { within = omega arith }

pub loop-i-preserved : goal.loop-i-preserved
loop-i-preserved c =
    let keeps = λ (k : ℕ). get_or c.args.kept.now k false in
    let w = length c.args.kept.now in
    let a = c.args.start in
    let cells = cells_of c.args.cells.now in
    let row = take w (drop a cells) in
    let long : length row ≡ w = length-part a w cells c.requires.inside in
    elim c.if-not-kept-i.branch [
      | then-not-kept-i w' ↦
          ap cells_of w'.cells-is ∙ w'.unbind.ensures.unbound
          ∙ ap (λ (r : List (Option ℕ)). set r (a + c.loop-i.i) None) c.loop-i.invariant
          ∙ set-part a w c.loop-i.i cells _ (omega arith) (let p = length-partly keeps row c.loop-i.i (omega arith) in omega arith)
          ∙ ap (put_mid a w cells) (restrict-unbind keeps row c.loop-i.i (omega arith) (grind (arith, common_steps)))
      | else-not-kept-i w' ↦
          ap cells_of w'.cells-is ∙ c.loop-i.invariant
          ∙ ap (put_mid a w cells) (restrict-keep keeps row c.loop-i.i (omega arith) (grind (arith, common_steps)))
    ]

pub returns : goal.returns
returns c =
    let w = length c.args.kept.now in
    let a = c.args.start in
    let cells = cells_of c.args.cells.now in
    let row = take w (drop a cells) in
    let long : length row ≡ w = length-part a w cells c.requires.inside in
    record { restricted = c.loop-i.invariant ∙ ap (put_mid a w cells) (restrict-whole (λ k. get_or c.args.kept.now k false) row c.loop-i.i (omega arith)) }
