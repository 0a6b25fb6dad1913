use Rattle.sparql_lexer.proofs.KindLaws.{one_scan}
use Rattle.sparql_grammar.specs.Symbol as the
use Rattle.sparql_grammar.proofs.ProductionLaws.{good}
use Rattle.sparql_grammar.proofs.MatchLaws.{unique, ends_low}
use Rattle.sparql_read.proofs.ResultLaws as laws
use Rattle.sparql_read.proofs.laws.one_tree.Goals as goal

pub returns : goal.returns
returns c = record {
  unique = laws.one_tree (λ text end end' ts ts' d e. one_scan d e)
      (λ names ts q r d e. (unique 8 (good the.query) d ends_low e ends_low).value);
}
