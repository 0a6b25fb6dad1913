use Rattle.result_json.specs.Results.{term_text}
use Rattle.result_merge.proofs.ReadSteps.{no_member, some_member}
use Rattle.result_merge.proofs.rows.read_member.Goals as goal

pub returns-in_ok-term-in-Some : goal.returns-in_ok-term-in-Some
returns-in_ok-term-in-Some c = record {
  parts = some_member c.args.bytes.now c.args.prefix.now (term_text c.in_ok-term-in-Some.term) c.in-Some.value.now c.in_ok-term-in-Some.end.now c.args.later c.in-Some.ensures.parts c.in_ok-term-in-Some.ensures.parts;
  tagged = c.in_ok-term-in-Some.ensures.tagged;
  none = tt;
  damaged = tt;
}

pub returns-in-None : goal.returns-in-None
returns-in-None c = record { parts = no_member c.args.bytes.now c.args.later; tagged = tt; none = c.in-None.ensures.parts; damaged = tt }
