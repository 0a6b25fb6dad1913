use Rattle.malformed_lines.proofs.ReasonLaws.{same_value}
use Rattle.malformed_lines.proofs.reason_counts.is_same.Goals as goal

pub returns : goal.returns
returns c = record { value = same_value c.eq.result c.args.a c.args.b c.eq.ensures }
