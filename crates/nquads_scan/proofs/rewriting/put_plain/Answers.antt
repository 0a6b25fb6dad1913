use Rattle.std.proofs.Common.{sym, ◌∙◌}
use Rattle.std.specs.Char.{encode_utf8}
use Rattle.std.specs.List.{flat_map}
use Rattle.rdf_core.specs.Serialization.{escaped}
use Rattle.nquads_scan.proofs.RewritingSteps.{appended, plain_char}
use Rattle.nquads_scan.proofs.rewriting.put_plain.Goals as goal

pub returns-clause-ok : goal.returns-clause-ok
returns-clause-ok c =
    appended c.extend_from_slice.result c.args.out.now.items c.extend_from_slice.new.self.items c.as_bytes.result.now (flat_map escaped (encode_utf8 c.args.c)) c.extend_from_slice.ensures.items
    (c.as_bytes.ensures.value ∙ c.encode_utf8.ensures.value ∙ sym (plain_char c.args.c c.requires.plain))
