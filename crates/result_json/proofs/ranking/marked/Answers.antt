use Rattle.std.proofs.Common.{◌≡◌, ◌∙◌, ◌+◌, true, length, get_or, set, take, All, List, Bool, ℕ, ap, subst, sym, arith}
use Rattle.std.proofs.lemmas.List.{length-set, take_all, with_items_is}
use Rattle.result_json.specs.Ranks.{IsMarked}
use Rattle.result_json.proofs.RankSteps.{marked_more}
use Rattle.result_json.proofs.ranking.marked.Goals as goal

pub loop-code-preserved : goal.loop-code-preserved
loop-code-preserved c =
    let marks = c.loop-code.marks.items in
    let code = get_or c.args.codes.now c.loop-code.code-index 0 in
    let marked_is : c.mark.new.marks ≡ set marks code true = c.mark.ensures.marks ∙ ap (λ (ms : List Bool). set ms code true) c.deref_mut.ensures.value in
    let wide : length c.mark.new.marks ≡ c.loop-code.marks.len = ap length marked_is ∙ length-set marks code true ∙ sym c.loop-code.marks.ok.0 in
    let whole = with_items_is c.loop-code.marks c.mark.new.marks wide ∙ marked_is in
    record {
      wide = ap length whole ∙ length-set marks code true ∙ c.loop-code.invariant.wide;
      marked = subst (λ (ms : List Bool). All (IsMarked ms) (take (c.loop-code.code-index + 1) c.args.codes.now)) (sym whole)
          (marked_more marks c.args.codes.now c.loop-code.code-index 0 c.loop-code-test.true c.loop-code.invariant.marked);
    }

pub returns-clause-marked : goal.returns-clause-marked
returns-clause-marked c = subst (λ (codes : List ℕ). All (IsMarked c.loop-code.marks.items) codes) (take_all c.loop-code.code-index c.args.codes.now (omega arith)) c.loop-code.invariant.marked
