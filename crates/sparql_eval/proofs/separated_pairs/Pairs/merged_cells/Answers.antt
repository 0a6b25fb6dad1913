use Rattle.std.proofs.Common.{List, Option, ℕ, sym, subst}
use Rattle.sparql_eval.specs.Numbered.{IsKnownRow}
use Rattle.sparql_eval.proofs.SeparatedSteps.{known_more}
use Rattle.sparql_eval.proofs.separated_pairs.Pairs.merged_cells.Goals as goal

pub loop-variable-preserved : goal.loop-variable-preserved
loop-variable-preserved c =
    subst (λ (μ : List (Option ℕ)). IsKnownRow c.args.self.now.dict.now μ) (sym c.in_ok-push.ensures.items)
    (known_more c.args.self.now.dict.now c.loop-variable.cells.items c.merged_cell.result c.loop-variable.invariant c.merged_cell.ensures.known)
