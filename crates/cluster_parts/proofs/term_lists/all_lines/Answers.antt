use Rattle.std.proofs.Common.{◌++◌, codes}
use Rattle.cluster_parts.proofs.TermSteps.{flat_more}
use Rattle.cluster_parts.proofs.term_lists.all_lines.Goals as goal

pub loop-n-preserved : goal.loop-n-preserved
loop-n-preserved c =
    flat_more (λ text. text ++ codes "\n") c.args.texts.now.texts c.loop-n.n c.text.result.now c.loop-n.list.items _ c.text.ensures.value c.loop-n.invariant c.in_ok-push_line.ensures.appended
