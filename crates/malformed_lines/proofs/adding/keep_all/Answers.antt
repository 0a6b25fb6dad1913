use Rattle.std.proofs.Common.{List, ap, arith, get_or, length, subst}
use Rattle.malformed_lines.specs.declared.piece_list.FoundLine.{FoundLine}
use Rattle.malformed_lines.specs.Malformed.{IsCopy}
use Rattle.malformed_lines.proofs.AddingSteps.{kept_more}
use Rattle.malformed_lines.proofs.adding.keep_all.Goals as goal

pub loop-line-preserved : goal.loop-line-preserved
loop-line-preserved c =
    let items = c.as_slice-line-items.ensures.value in
    let copy = subst (λ (y : List FoundLine). IsCopy c.args.before c.args.piece.now (get_or y c.loop-line.line-index _) c.in_ok-copied.field-0) items c.in_ok-copied.ensures.copy in
    kept_more c.args.before c.args.piece.now c.args.shown.now.items c.loop-line.shown.items c.push.new.self.items c.loop-line.line-index _ c.in_ok-copied.field-0 c.loop-line.invariant (omega (arith, ap length items)) (omega arith) copy c.in_ok-push.ensures.items
