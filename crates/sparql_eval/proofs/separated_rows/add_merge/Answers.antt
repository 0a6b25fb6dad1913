use Rattle.std.proofs.Common.{◌≡◌, ◌∙◌, List, Option, ℕ, false, sym, subst}
use Rattle.std.proofs.lemmas.Bool.{OnTrue_at}
use Rattle.sparql_eval.specs.Fitting.{fits}
use Rattle.sparql_eval.proofs.ReadingLaws.{Known, read_by}
use Rattle.sparql_eval.proofs.SeparatedSteps.{merge_known, pushed}
use Rattle.sparql_eval.proofs.separated_rows.add_merge.Goals as goal

pub returns-then-are_separated : goal.returns-then-are_separated
returns-then-are_separated c =
    let terms = c.args.dict.now in
    let keys = c.args.keys.now in
    let row = c.args.row.now in
    let other = c.args.other.now in
    let is = c.as_slice-cells.ensures.value ∙ c.in_ok-merge_into.ensures.merged in
    record {
      evaluated = pushed c.push.result terms keys c.args.made.now c.push.new.self c.as_slice-cells.result.now c.push.ensures.width c.push.ensures.added c.push.ensures.unchanged
          (subst (λ (μ : List (Option ℕ)). Known terms μ) (sym is) (merge_known terms row other c.requires.known_row c.requires.known_other))
          (subst (λ (μ : List (Option ℕ)). fits keys (read_by terms μ) ≡ false) (sym is) (OnTrue_at c.if-are_separated.true c.are_separated.ensures.unfit));
      width = c.push.ensures.width;
    }
