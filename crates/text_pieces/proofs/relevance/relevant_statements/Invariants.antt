use Rattle.std.proofs.Common.{take}
use Rattle.std.specs.Option.{IfSome}
use Rattle.text_pieces.specs.Relevance.{AreRelevant, IsInForm}
use Rattle.text_pieces.proofs.relevance.relevant_statements.Given as goal

abbrev pub invariant-loop-raw : goal.invariant-loop-raw
invariant-loop-raw l = record {
  last : IfSome l.last IsInForm;
  relevant : AreRelevant l.filter (take l.raw-index l.raws) l.kept.items;
}
