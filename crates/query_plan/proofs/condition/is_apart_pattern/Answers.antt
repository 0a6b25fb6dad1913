use Rattle.std.proofs.Common.{◌∙◌, map, ap, sym}
use Rattle.sparql_algebra.specs.AlgebraOf.{triple_pattern_of}
use Rattle.query_split.specs.declared.split.Split.{Split}
use Rattle.query_split.specs.Condition.{is_apart_pattern}
use Rattle.query_plan.specs.Keys.{key_of}
use Rattle.query_plan.proofs.PatternSteps.{key_triples}
use Rattle.query_plan.proofs.condition.is_apart_pattern.Goals as goal

pub returns-then-not-is_empty : goal.returns-then-not-is_empty
returns-then-not-is_empty c = record {
  value = c.have_key.ensures.value ∙ key_triples (key_of c.args.key.now) c.args.triples.now c.if-not-is_empty.ensures
      ∙ ap (λ (split : Split). is_apart_pattern split (key_of c.args.key.now) (map triple_pattern_of c.args.triples.now)) (sym c.in-Subject.is);
}
