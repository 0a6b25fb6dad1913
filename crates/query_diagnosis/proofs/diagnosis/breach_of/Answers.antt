use Rattle.std.proofs.Common.{subst, sym}
use Rattle.sparql_lexer.specs.Terminal.{terminals}
use Rattle.sparql_read.specs.declared.fault.QueryFault.{QueryFault}
use Rattle.query_diagnosis.specs.Place.{IsRejectedAt}
use Rattle.query_diagnosis.proofs.PrefixLaws.{first_place}
use Rattle.query_diagnosis.proofs.diagnosis.breach_of.Goals as goal

pub returns-in-Syntax : goal.returns-in-Syntax
returns-in-Syntax c = record { first = subst (λ (f : QueryFault). IsRejectedAt f (terminals c.args.tokens.now) 0) (sym c.in-Syntax.is) first_place }
