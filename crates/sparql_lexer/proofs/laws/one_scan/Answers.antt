use Rattle.sparql_lexer.proofs.KindLaws.{one_scan}
use Rattle.sparql_lexer.proofs.laws.one_scan.Goals as goal

pub returns : goal.returns
returns c = λ text end end' ts ts' d e. one_scan d e
