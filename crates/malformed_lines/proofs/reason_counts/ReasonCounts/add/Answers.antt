use Rattle.std.proofs.Common.{subst, sym}
use Rattle.std.specs.List.{All}
use Rattle.malformed_lines.specs.Counts.{HasNone, IsFirst}
use Rattle.malformed_lines.proofs.reason_counts.ReasonCounts.add.Goals as goal

pub returns-clause-firsts : goal.returns-clause-firsts
returns-clause-firsts c = λ singles a b.
    c.add_reserved.ensures.firsts singles (subst (All (IsFirst singles)) (sym c.in_ok-reserve.ensures.unchanged) a)
    (λ none. b (subst (HasNone c.args.more.reason) c.in_ok-reserve.ensures.unchanged none))
