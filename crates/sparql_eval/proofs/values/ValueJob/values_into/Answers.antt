use Rattle.std.proofs.Common.{◌≡◌, ℕ, ◌+◌, ◌-◌, List, take, drop, sym, subst, arith, ap, Some, ◌∙◌}
use Rattle.expression_values.specs.ExpressionOf.{expression_of}
use Rattle.sparql_eval.specs.declared.piece_values.PieceValue.{PieceValue}
use Rattle.sparql_eval.specs.Values.{AreValues}
use Rattle.sparql_eval.proofs.ReadingLaws.{grown_itself}
use Rattle.sparql_eval.proofs.ValueSteps.{values_more}
use Rattle.sparql_eval.proofs.values.ValueJob.values_into.Goals as goal

pub loop-i-preserved : goal.loop-i-preserved
loop-i-preserved c =
    let terms = c.args.self.now.dict.now in
    let e = expression_of c.args.self.now.expression.now in
    let rows = c.args.self.now.rows.now.rows in
    let later = c.value_at.new.own in
    subst (AreValues terms later e (take (c.loop-i.i + 1 - c.args.from) (drop c.args.from rows))) (sym {A = List PieceValue} c.in_ok-push.ensures.items)
    (values_more terms e c.loop-i.own later c.in_ok-value_at.ensures.grown (grown_itself terms) rows c.args.from c.loop-i.i c.as_slice-row.result.now c.loop-i.values.items c.in_ok-value_at.field-0 (omega arith) (c.in_ok-read.ensures.found ∙ ap Some (sym c.as_slice-row.ensures.value)) c.loop-i.invariant c.in_ok-value_at.ensures.value c.in_ok-value_at.ensures.needed)

pub returns : goal.returns
returns c =
    let terms = c.args.self.now.dict.now in
    let e = expression_of c.args.self.now.expression.now in
    let rows = c.args.self.now.rows.now.rows in
    let from = c.args.from in
    let same : c.loop-i.i ≡ c.args.to = omega arith in
    record { values = subst (λ (n : ℕ). AreValues terms c.loop-i.own e (take (n - from) (drop from rows)) c.loop-i.values.items) same c.loop-i.invariant }
