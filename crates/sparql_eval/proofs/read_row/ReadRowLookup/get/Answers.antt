use Rattle.std.proofs.Common.{sym, ◌∙◌}
use Rattle.sparql_eval.proofs.ReadingLaws.{get_read}
use Rattle.sparql_eval.proofs.read_row.ReadRowLookup.get.Goals as goal

pub returns-in-Some : goal.returns-in-Some
returns-in-Some c = record {
  term = get_read c.args.self.now.dict.now c.args.self.now.row.now c.args.var c.in-Some.n c.term.result.now (sym c.number_at.ensures.value ∙ c.in-Some.is) c.term.ensures.value;
}
