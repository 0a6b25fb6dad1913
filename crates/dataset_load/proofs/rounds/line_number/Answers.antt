use Rattle.std.proofs.Common.{ap, ◌+◌}
use Rattle.dataset_load.proofs.rounds.line_number.Goals as goal

pub returns-clause-number : goal.returns-clause-number
returns-clause-number c = ap (λ n. n + c.args.line + 1) c.count_all_lines.ensures.count
