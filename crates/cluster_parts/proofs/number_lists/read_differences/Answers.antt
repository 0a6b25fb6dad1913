use Rattle.std.proofs.Common.{◌≡◌, ℕ, List, ap, ◌∙◌}
use Rattle.cluster_parts.specs.Known.{AreDifferences}
use Rattle.cluster_parts.specs.NumberList.{in_bytes, width}
use Rattle.cluster_parts.proofs.FaultSteps.{after_width, damage_of, fit_in_eight, handed_on, no_width, width_read}
use Rattle.cluster_parts.proofs.number_lists.read_differences.Goals as goal

pub returns-then-count-lt1-clause-damage : goal.returns-then-count-lt1-clause-damage
returns-then-count-lt1-clause-damage c = no_width c.args.bytes.now c.in-Some.rest.now c.in-Some.first.now c.in-Some.ensures.cases.0 c.then-count-lt1.either

pub returns-in_err-found-clause-damage : goal.returns-in_err-found-clause-damage
returns-in_err-found-clause-damage c =
    handed_on c.from_residual.result c.in_err-found.field-0.0 _ c.from_residual.ensures.1
    (damage_of (AreDifferences c.args.bytes.now) ((numbers : List ℕ) × (c.in-Some.rest.now ≡ in_bytes c.in-Some.first.now numbers)) c.in_err-found.field-0.0
    (after_width c.args.bytes.now c.in-Some.rest.now c.in-Some.first.now c.in-Some.ensures.cases.0) c.in_err-found.ensures.damage)

pub returns-then-width_of-count-clause-damage : goal.returns-then-width_of-count-clause-damage
returns-then-width_of-count-clause-damage c = λ w.
    c.if-width_of-count.true (c.width_of.ensures.value ∙ ap width c.as_slice.ensures.value
    ∙ width_read c.args.bytes.now c.in-Some.rest.now c.in_ok-found.found.items c.in-Some.first.now c.if-count-lt1.false c.in-Some.ensures.cases.0 c.in_ok-found.ensures.numbers c.in_ok-found.ensures.fit w)

pub returns-clause-fit : goal.returns-clause-fit
returns-clause-fit c = fit_in_eight c.in-Some.first.now c.in_ok-found.found.items c.if-count-gt8.false c.in_ok-found.ensures.fit
