use Rattle.std.proofs.Common.{arith}
use Rattle.std.proofs.lemmas.Grind.{common_steps}
use Rattle.std.proofs.lemmas.Str.{encodes-append}
use Rattle.excerpt.proofs.columns.push_line.Goals as goal

pub returns : goal.returns
returns c = record { line = grind (arith, common_steps, encodes-append) }
