use Rattle.std.proofs.Common.{ℕ, subst, sym}
use Rattle.sparql_lexer.specs.Terminal.{terminals}
use Rattle.query_diagnosis.specs.Place.{IsRejectedAt}
use Rattle.query_diagnosis.proofs.RuleSteps.{placed}
use Rattle.query_diagnosis.proofs.diagnosis.Found.find_breach.Goals as goal

pub returns : goal.returns
returns c = record {
  place = placed c.args.text.now.characters.now c.args.text.now.rest.now c.args.text.now.tokens.now c.args.fault c.terminal_of.result c.offset_of-self.result c.requires.scans
      (subst (λ (n : ℕ). IsRejectedAt c.args.fault (terminals c.args.text.now.tokens.now) n) (sym c.terminal_of.ensures) c.in_ok-found.ensures.first)
      (c.offset_of-self.ensures.place c.args.text.now.rest.now c.requires.scans);
}
