use Rattle.std.proofs.Common.{List, map, sym, ap, ◌∙◌}
use Rattle.std.specs.List.{list_any}
use Rattle.expression_values.specs.ExpressionOf.{expression_of}
use Rattle.expression_values.specs.declared.expression.Expr.{Expr}
use Rattle.sparql_eval.specs.Mentions.{mentions}
use Rattle.sparql_eval.proofs.MentionSteps.{in_mentions}
use Rattle.sparql_eval.proofs.mentions.+may_mention.Goals as goal

pub returns-in-In : goal.returns-in-In
returns-in-In t c = record {
  not_mentioned = λ none.
      ap (λ (e : Expr). mentions (expression_of e) c.args.variable) c.in-In.is
      ∙ in_mentions c.in-In.item c.in-In.list c.args.variable c.may_mention-in-In.result c.may_mention_some.result c.either-in-In.result c.either-in-In.ensures.value
      (λ h. ap (λ (e : Expr). mentions (expression_of e) c.args.variable) (sym c.deref-in-In.ensures) ∙ c.may_mention-in-In.ensures.not_mentioned h)
      (λ h. ap (λ (l : List Expr). list_any (λ e. mentions e c.args.variable) (map expression_of l)) (sym c.as_slice.ensures.value) ∙ c.may_mention_some.ensures.not_mentioned h c.args.variable)
      none;
}
