use Rattle.sparql_lexer.proofs.KindLaws.{one_kind}
use Rattle.sparql_lexer.proofs.laws.one_kind.Goals as goal

pub returns : goal.returns
returns c = λ k l ts r d e. one_kind k l ts r d e
