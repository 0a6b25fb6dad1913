use Rattle.std.proofs.Common.{◌∙◌, subst}
use Rattle.sparql_read.specs.Rejection.{IsReadResult, seen}
use Rattle.sparql_read.proofs.reader.read_query.Goals as goal

pub returns : goal.returns
returns c = record {
  read = subst (λ text. IsReadResult text (seen c.read_terminals.result)) (c.deref-2.ensures.value ∙ c.in_ok-characters.ensures) c.read_terminals.ensures.read;
}
