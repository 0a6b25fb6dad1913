use Rattle.std.proofs.Common.{Some, sym, ap, ◌∙◌, arith}
use Rattle.std.proofs.lemmas.Option.{slice_get-get_or}
use Rattle.algebra_model.specs.Bgp.{mentions}
use Rattle.sparql_algebra.specs.AlgebraOf.{triple_pattern_of}
use Rattle.sparql_eval.proofs.MentionSteps.{any_mapped}
use Rattle.sparql_eval.proofs.mentions.occurs.Goals as goal

pub returns-then-has_variable : goal.returns-then-has_variable
returns-then-has_variable c = record {
  value = sym (any_mapped triple_pattern_of (λ t. mentions c.args.width t c.args.variable) c.args.triples.now c.loop-i.i c.index-triples-i.result (slice_get-get_or c.args.triples.now c.loop-i.i c.index-triples-i.result (omega arith) ∙ ap Some (sym c.index-triples-i.is)) (sym c.has_variable.ensures.value ∙ c.if-has_variable.true));
}
