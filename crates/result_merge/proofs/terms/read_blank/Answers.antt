use Rattle.std.proofs.Common.{codes, ◌++◌, refl}
use Rattle.result_merge.proofs.ReadSteps.{blank_read}
use Rattle.result_merge.proofs.terms.read_blank.Goals as goal

pub returns : goal.returns
returns c = record { parts = blank_read c.args.bytes.now c.in_ok-label.label (codes "}" ++ c.in_ok-label.end.now) c.in_ok-label.end.now c.in_ok-label.ensures.parts refl; tagged = tt; damaged = tt }
