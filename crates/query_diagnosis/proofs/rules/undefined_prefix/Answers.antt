use Rattle.std.proofs.Common.{◌≡◌, false, IfOk, subst}
use Rattle.std.specs.Option.{MatchOption}
use Rattle.sparql_grammar.specs.Values.{Names}
use Rattle.sparql_lexer.specs.Terminal.{terminals}
use Rattle.sparql_grammar.specs.Prologue.{lacks_declaration}
use Rattle.query_diagnosis.specs.Place.{IsFirst}
use Rattle.query_diagnosis.proofs.rules.undefined_prefix.Goals as goal

pub returns : goal.returns
returns c = record {
  first = subst (λ (ns : Names). IfOk c.undeclared.result (λ found. MatchOption found (lacks_declaration ns (terminals c.args.tokens.now) ≡ false) (IsFirst (lacks_declaration ns) (terminals c.args.tokens.now))))
      c.in_ok-names.ensures.value c.undeclared.ensures.first;
}
