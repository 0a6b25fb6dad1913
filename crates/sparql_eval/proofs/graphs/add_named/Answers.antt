use Rattle.std.proofs.Common.{◌≡◌, ◌++◌, ◌∷◌, [], ℕ, Bool, List, cond, nat_eq, Result, Ok, Err, OnErr, sym, ap, ◌∙◌, subst, arith, Some}
use Rattle.std.proofs.lemmas.List.{append-nil}
use Rattle.algebra_model.specs.Operators.{join}
use Rattle.algebra_model.specs.Solution.{Solution, merge}
use Rattle.row_core.specs.RowList.{RowList}
use Rattle.sparql_eval.proofs.GraphSteps.{named_turn}
use Rattle.sparql_eval.proofs.ReadingLaws.{all_taken}
use Rattle.sparql_eval.proofs.graphs.add_named.Goals as goal
use Rattle.sparql_eval.proofs.graphs.add_named.Goals.{then-is_compatible+in_ok-merge_into+in_ok-push, else-is_compatible}

pub loop-i-preserved : goal.loop-i-preserved
loop-i-preserved c =
    let was = c.loop-i.invariant in
    let made = c.loop-i.made.rows in
    let μ = c.as_slice-row.result.now in
    let ν = c.args.name.now in
    let turn = named_turn c.args.rows.now.rows ν c.loop-i.i μ (c.in_ok-read.ensures.found ∙ ap Some (sym c.as_slice-row.ensures.value)) c.args.made.now.rows made c.if-is_compatible.made.rows c.is_compatible.result c.is_compatible.ensures.value was.added in
    elim c.if-is_compatible.branch [
      | then-is_compatible+in_ok-merge_into+in_ok-push w ↦ record {
        width = ap (λ (r : RowList). r.width) w.made-is ∙ w.in_ok-push.ensures.width ∙ was.width;
        added = turn (ap (λ (r : RowList). r.rows) w.made-is ∙ w.in_ok-push.ensures.added
            ∙ ap (λ (x : Solution ℕ). made ++ x ∷ []) (w.as_slice.ensures.value ∙ w.in_ok-merge_into.ensures.merged)
            ∙ ap (λ (b : Bool). made ++ cond b (merge μ ν ∷ []) []) (sym w.if-is_compatible.true));
      }
      | else-is_compatible w ↦ record {
        width = ap (λ (r : RowList). r.width) w.made-is ∙ was.width;
        added = turn (ap (λ (r : RowList). r.rows) w.made-is ∙ sym (append-nil made)
            ∙ ap (λ (b : Bool). made ++ cond b (merge μ ν ∷ []) []) (sym w.if-is_compatible.false));
      }
    ]

-- a fact that is true is also true on error
on_error : {T E P : Type 0} (r : Result T E) → P → OnErr r P
on_error (Ok x) p = tt
on_error (Err e) p = p

pub returns-in_err-merged-clause-in_part : goal.returns-in_err-merged-clause-in_part
returns-in_err-merged-clause-in_part c = on_error c.from_residual.result (0, sym (append-nil c.args.made.now.rows))

pub returns-in_err-read-clause-in_part : goal.returns-in_err-read-clause-in_part
returns-in_err-read-clause-in_part c = on_error c.from_residual-in_err-read.result (c.loop-i.i, c.loop-i.invariant.added)

pub returns-in_err-merge_into-clause-in_part : goal.returns-in_err-merge_into-clause-in_part
returns-in_err-merge_into-clause-in_part c = on_error c.from_residual-in_err-merge_into.result (c.loop-i.i, c.loop-i.invariant.added)

pub returns-in_err-push-clause-in_part : goal.returns-in_err-push-clause-in_part
returns-in_err-push-clause-in_part c = on_error c.from_residual-in_err-push.result (c.loop-i.i, c.in_err-push.ensures.unchanged ∙ c.loop-i.invariant.added)

pub returns-clause-added : goal.returns-clause-added
returns-clause-added c =
    subst (λ (l : List (Solution ℕ)). c.loop-i.made.rows ≡ c.args.made.now.rows ++ join nat_eq l (c.args.name.now ∷ [])) (all_taken c.args.rows.now.rows c.loop-i.i (omega arith)) c.loop-i.invariant.added
