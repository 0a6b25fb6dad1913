use Rattle.std.proofs.Common.{List, subst, sym}
use Rattle.sparql_lexer.specs.declared.token.Token.{Token}
use Rattle.sparql_lexer.specs.Scan.{Scans}
use Rattle.sparql_lexer.specs.Terminal.{terminals}
use Rattle.query_diagnosis.proofs.RuleSteps.{rejects}
use Rattle.query_diagnosis.proofs.diagnosis.Found.find.Goals as goal

pub find_breach-requires : goal.find_breach-requires
find_breach-requires c =
    let d : Scans c.args.characters.now (terminals c.deref.result.now) c.in_ok-scan.scan.rest.now =
    subst (λ (ts : List Token). Scans c.args.characters.now (terminals ts) c.in_ok-scan.scan.rest.now) (sym c.deref.ensures.value) c.in_ok-scan.ensures in
    record { scans = d; rejects = rejects c.one_scan.ensures c.args.characters.now c.in_ok-scan.scan.rest.now (terminals c.deref.result.now) c.args.fault d c.requires.rejected.applies }
