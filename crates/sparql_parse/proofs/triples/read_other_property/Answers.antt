use Rattle.std.proofs.Common.{sym}
use Rattle.sparql_parse.proofs.TripleSteps.{no_property, next_property}
use Rattle.sparql_parse.proofs.triples.read_other_property.Goals as goal

pub returns-then-not-starts_verb-clause-reads : goal.returns-then-not-starts_verb-clause-reads
returns-then-not-starts_verb-clause-reads c = no_property (sym c.if-not-starts_verb.ensures.value)

pub returns-clause-reads : goal.returns-clause-reads
returns-clause-reads c = next_property c.read_property.new.triples.items c.read_property.result (sym c.if-not-starts_verb.ensures.value) c.read_property.ensures.reads
