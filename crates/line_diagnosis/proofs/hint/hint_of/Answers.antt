use Rattle.std.proofs.Common.{ℕ, List, ap, subst, ◌∙◌}
use Rattle.std.specs.Prelude.{min, take, length}
use Rattle.line_diagnosis.specs.Safe.{IsSafe}
use Rattle.line_diagnosis.proofs.hint.hint_of.Goals as goal

pub returns-clause-safe : goal.returns-clause-safe
returns-clause-safe c = c.hint_of_text.ensures.safe c.args.line.now (take (min c.args.diagnosis.now.offset (length c.args.line.now)) c.args.line.now)

pub returns-in-Some-clause-safe : goal.returns-in-Some-clause-safe
returns-in-Some-clause-safe c =
    let e = c.split_at.ensures.front ∙ ap (λ (n : ℕ). take n c.args.line.now) c.min.ensures in
    subst (λ (b : List ℕ). IsSafe c.args.context.now c.args.line.now b c.in-Some.hint) e (c.in-Some.ensures.safe c.args.line.now)
