use Rattle.std.proofs.Common.{◌≡◌, ℕ, ◌-◌, Bool, cond, [], ◌∷◌, ◌++◌, take, drop, filter, slice_get, sym, ap, ◌∙◌, append-nil, arith, Some}
use Rattle.std.proofs.lemmas.Option.{get_or_from_slice_get}
use Rattle.algebra_model.specs.Solution.{Solution}
use Rattle.expression_values.specs.ExpressionOf.{expression_of}
use Rattle.sparql_eval.proofs.FilterSteps.{passes, filter_more, made_between}
use Rattle.sparql_eval.proofs.filters.FilterWorkRowWork.run.Goals as goal
use Rattle.sparql_eval.proofs.filters.FilterWorkRowWork.run.Goals.{then-branch+in_ok-push_row, else-branch}

pub loop-i-preserved : goal.loop-i-preserved
loop-i-preserved c =
    let was = c.loop-i.invariant in
    let row = c.as_slice-row.result.now in
    let made = c.loop-i.made.rows in
    let rows = c.args.self.now.rows.now.rows in
    let found : slice_get rows c.loop-i.i ≡ Some row = c.in_ok-read.ensures.found ∙ ap Some (sym c.as_slice-row.ensures.value) in
    let b = c.in_ok-test_counted.field-0 in
    let wide : c.if-branch.made.width ≡ c.args.self.now.rows.now.width =
    elim c.if-branch.branch [
      | then-branch+in_ok-push_row w ↦ rw w.made-is (w.in_ok-push_row.ensures.width ∙ was.width)
      | else-branch w ↦ rw w.made-is was.width
    ] in
    let put : c.if-branch.made.rows ≡ made ++ cond b (row ∷ []) [] =
    elim c.if-branch.branch [
      | then-branch+in_ok-push_row w ↦
          rw w.made-is (w.in_ok-push_row.ensures.added ∙ ap (λ (μ : Solution ℕ). made ++ μ ∷ []) (get_or_from_slice_get rows c.loop-i.i row [] found)
          ∙ ap (λ (s : Bool). made ++ cond s (row ∷ []) []) (sym w.if-branch.true))
      | else-branch w ↦ rw w.made-is (sym (append-nil made) ∙ ap (λ (s : Bool). made ++ cond s (row ∷ []) []) (sym w.if-branch.false))
    ] in
    record {
      width = wide;
      made =
          put ∙ (λ i. was.made i ++ cond (c.in_ok-test_counted.ensures.holds i) (row ∷ []) [])
          ∙ sym (filter_more c.args.self.now.dict.now (expression_of c.args.self.now.condition.now) rows c.args.from c.loop-i.i row (omega arith) found);
    }

pub returns : goal.returns
returns c =
    let was = c.loop-i.invariant in
    let terms = c.args.self.now.dict.now in
    let e = expression_of c.args.self.now.condition.now in
    let rows = c.args.self.now.rows.now.rows in
    let same : c.loop-i.i ≡ c.args.to = omega arith in
    record {
      rows = made_between terms e c.args.self.now.rows.now.width rows (c.args.to - c.args.from) c.args.from c.loop-i.made was.width
          (was.made ∙ ap (λ (n : ℕ). filter (passes terms e) (take (n - c.args.from) (drop c.args.from rows))) same);
    }
