use Rattle.std.proofs.Common.{◌≡◌, ◌<◌, length, arith}
use Rattle.std.proofs.lemmas.Grind.{common_steps}
use Rattle.row_core.proofs.TurnLaws.{share-drop}
use Rattle.row_join.specs.Row.{row_of}
use Rattle.row_join.proofs.row_ref.RowRef.shares.Goals as goal
use Rattle.row_join.proofs.row_ref.RowRef.shares.Goals.{else-is_some-via-then-is_some+else-is_some-2, else-is_some-via-else-is_some}

pub loop-variable-preserved : goal.loop-variable-preserved
loop-variable-preserved c =
    let a = row_of c.args.self in
    let b = row_of c.args.other in
    let n = c.loop-variable.variable in
    let p = c.width-wide.ensures.wide in
    let q = c.width-variable-end.ensures in
    let low : n < length a = omega (arith, q.value, q.wide) in
    let wide : length a ≡ length b = omega (arith, p, q.wide) in
    let step = share-drop a b n low wide in
    let x = c.get.ensures.value in
    elim c.else-is_some.branch [
      | else-is_some-via-then-is_some+else-is_some-2 w ↦ let y = w.get-then-is_some.ensures.value in grind (arith, common_steps, step)
      | else-is_some-via-else-is_some w ↦ grind (arith, common_steps, step)
    ]
