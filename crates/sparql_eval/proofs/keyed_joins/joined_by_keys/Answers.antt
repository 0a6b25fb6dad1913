use Rattle.std.proofs.Common.{◌≡◌, ℕ, List, length, nat_eq, sym, ◌∙◌, subst}
use Rattle.algebra_model.specs.Bag.{IsSameBag}
use Rattle.algebra_model.specs.Operators.{join}
use Rattle.algebra_model.specs.Renaming.{Each}
use Rattle.algebra_model.specs.Solution.{Solution}
use Rattle.sparql_eval.proofs.FittingSteps.{joined_by_keys}
use Rattle.sparql_eval.proofs.KeySteps.{each_of_all}
use Rattle.sparql_eval.proofs.keyed_joins.joined_by_keys.Goals as goal

pub returns-clause-evaluated : goal.returns-clause-evaluated
returns-clause-evaluated g c =
    let terms = c.args.dict.now in
    let pairs = c.args.keys.now in
    let L = c.args.left.now.rows in
    let R = c.args.right.now.rows in
    let w = c.width-width.result in
    let wideL : Each (λ (μ : Solution ℕ). length μ ≡ w) L =
    each_of_all (λ (μ : Solution ℕ). length μ ≡ w) L (λ k d low. c.width-width.ensures.wide k d low ∙ sym c.width-width.ensures.value) in
    let wideR : Each (λ (μ : Solution ℕ). length μ ≡ w) R =
    each_of_all (λ (μ : Solution ℕ). length μ ≡ w) R (λ k d low. c.width-same_width.ensures.wide k d low ∙ sym c.requires.same_width ∙ sym c.width-width.ensures.value) in
    joined_by_keys terms c.len-distinct.ensures.distinct pairs w c.args.left.now c.args.right.now c.in_ok-made.made c.requires.known_left c.requires.known_right wideL wideR c.in_ok-joined.joined.rows
    (subst (λ (B : List (Solution ℕ)). IsSameBag c.in_ok-joined.joined.rows B) (λ i. join nat_eq (c.in_ok-left.ensures.left i) (c.in_ok-left.ensures.right i)) c.in_ok-joined.ensures.rows)
    (c.in_ok-made.ensures.width ∙ c.width-width.ensures.value) c.in_ok-made.ensures.rows
