use Rattle.std.proofs.Common.{◌≡◌, ℕ, Bool, take, ap, ◌∙◌, arith}
use Rattle.std.proofs.lemmas.Result.{IfOk-weaker}
use Rattle.algebra_model.specs.Expression.{holds}
use Rattle.algebra_model.specs.Renaming.{read_row}
use Rattle.algebra_model.specs.Solution.{Solution}
use Rattle.dict_core.specs.Dict.{term_at}
use Rattle.expression_values.specs.ExpressionOf.{expression_of}
use Rattle.sparql_eval.proofs.KeySteps.{first_taken}
use Rattle.sparql_eval.proofs.keyed_joins.FirstConditionRowTest.keeps.Goals as goal

pub returns : goal.returns
returns c =
    let s = c.args.self.now in
    let row = c.args.row.now in
    let m = c.min-width.result in
    let of : Solution ℕ → Bool = λ μ. holds (expression_of s.condition.now) (read_row (term_at s.dict.now) μ) in
    record {
      value = IfOk-weaker c.test_counted.result (λ (answer : Bool). answer ≡ of (take m row)) (λ answer. answer ≡ of (take s.width row))
          (λ answer h. h ∙ ap of (first_taken s.width m row (omega (arith, c.min-width.ensures)) (omega (arith, c.min-width.ensures)) (λ l. omega (arith, c.min-width.ensures)))) c.test_counted.ensures.holds;
    }
