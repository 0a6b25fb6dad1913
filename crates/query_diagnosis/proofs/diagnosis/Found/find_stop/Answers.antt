use Rattle.query_diagnosis.proofs.RuleSteps.{stopped}
use Rattle.query_diagnosis.proofs.diagnosis.Found.find_stop.Goals as goal

pub returns : goal.returns
returns c = record {
  place = stopped c.args.text.now.characters.now c.args.text.now.rest.now c.args.text.now.tokens.now c.in_ok-stop.stop.at c.offset_of-self.result c.requires.scans c.in_ok-stop.ensures.beginning (c.offset_of-self.ensures.place c.args.text.now.rest.now c.requires.scans);
}
