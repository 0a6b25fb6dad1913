use Rattle.std.proofs.lemmas.Bool.Decides.{Decides-eqb}
use Rattle.std.proofs.lemmas.Slice.Eq.{starts_is}
use Rattle.result_merge.proofs.StringSteps.{begins}
use Rattle.result_merge.proofs.strings.begins_with.Goals as goal

pub returns : goal.returns
returns c = record { parts = begins c.starts_with.result c.args.bytes.now c.args.prefix.now (starts_is Decides-eqb c.args.bytes.now c.args.prefix.now c.starts_with.result c.starts_with.ensures.value) }
