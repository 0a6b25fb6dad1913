use Rattle.result_merge.proofs.ReadSteps.{literal_read}
use Rattle.result_merge.proofs.terms.read_untagged.Goals as goal

pub returns : goal.returns
returns c = record { parts = literal_read c.args.bytes.now c.args.lexical c.args.rest.now c.args.end.now c.in_ok-term.term c.requires.read c.requires.closed c.in_ok-term.ensures.text; memory = tt; tagged = c.in_ok-term.ensures.tagged }
