use Rattle.std.proofs.Common.{refl}
use Rattle.std.proofs.lemmas.Bool.Decides.{Decides-eqb}
use Rattle.std.proofs.lemmas.Slice.Eq.{strip_prefix_is}
use Rattle.cluster_parts.specs.Seal.{seal_head}
use Rattle.cluster_parts.proofs.sealing.skip_head.Goals as goal

pub returns-in-Some-clause-parts : goal.returns-in-Some-clause-parts
unfolding seal_head
returns-in-Some-clause-parts c =
    let cases = strip_prefix_is Decides-eqb c.args.bytes.now seal_head c.strip_prefix.result c.strip_prefix.ensures.cases in
    rw c.in-Some.is at cases

pub returns-in-None-clause-other : goal.returns-in-None-clause-other
unfolding seal_head
returns-in-None-clause-other c =
    let cases = strip_prefix_is Decides-eqb c.args.bytes.now seal_head c.strip_prefix.result c.strip_prefix.ensures.cases in
    let other = rw c.in-None.is at cases in
    (refl, other)
