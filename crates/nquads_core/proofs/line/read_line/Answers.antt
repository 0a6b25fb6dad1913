use Rattle.std.specs.Prelude.{option_map}
use Rattle.rdf_core.specs.QuadParts.{parts_of}
use Rattle.nquads_core.proofs.Meaning.{read_statement, read_bad, none_ends}
use Rattle.nquads_core.proofs.line.read_line.Goals as goal

pub returns-clause-has_statement : goal.returns-clause-has_statement
returns-clause-has_statement c =
    read_statement (λ q. option_map parts_of q) c.args.line.now _ c.read_text.result c.in-Ok.ensures.0 c.in-Ok.ensures.1
    (none_ends c.args.line.now c.in_default.ensures) c.read_text.ensures

pub returns-clause-bad : goal.returns-clause-bad
returns-clause-bad c = read_bad (λ q. option_map parts_of q) c.args.line.now _ c.read_text.result c.in-Ok.ensures.0 c.read_text.ensures
