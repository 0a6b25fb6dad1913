use Rattle.std.proofs.Common.{codes, ◌++◌, refl}
use Rattle.result_merge.proofs.ReadSteps.{iri_read}
use Rattle.result_merge.proofs.terms.read_iri.Goals as goal

pub returns : goal.returns
returns c = record { parts = iri_read c.args.bytes.now c.in_ok-text.text (codes "}" ++ c.in_ok-text.end.now) c.in_ok-text.end.now c.in_ok-text.ensures.parts refl; tagged = tt; damaged = tt }
