use Rattle.std.proofs.Common.{◌∙◌, ◌++◌, codes, refl}
use Rattle.result_merge.proofs.ReadSteps.{tagged_read}
use Rattle.result_merge.proofs.terms.read_tagged.Goals as goal

pub returns : goal.returns
returns c = record {
  parts = tagged_read c.args.bytes.now c.args.lexical c.from_string-datatype.result c.in_ok-tag.tag c.args.rest.now (codes "}" ++ c.in_ok-tag.end.now) c.in_ok-tag.end.now c.requires.read c.in_ok-tag.ensures.parts refl;
  damaged = tt;
  tagged = c.from_string-datatype.ensures.value ∙ c.in_ok-from_str.ensures.ok;
}
