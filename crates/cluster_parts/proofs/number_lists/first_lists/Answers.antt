use Rattle.std.proofs.Common.{rules, ◌≡◌, ◌<◌, ◌^◌, ◌∷◌, ◌++◌, [], IsSorted, nat_cmp, refl, arith, length, length-append, subst, ◌∙◌}
use Rattle.std.proofs.lemmas.List.Elements.{All-nil, All-push}
use Rattle.cluster_parts.specs.NumberList.{FitInEightBytes}
use Rattle.cluster_parts.proofs.FaultSteps.{handed_on, lists_damage, lists_fault}
use Rattle.cluster_parts.proofs.PartSteps.{more_numbers, one_more_list}
use Rattle.cluster_parts.proofs.number_lists.first_lists.Goals as goal

pub loop-list-init : goal.loop-list-init
loop-list-init c = ([], refl, c.new-numbers.ensures.items, refl, All-nil (IsSorted nat_cmp))

pub loop-list-preserved : goal.loop-list-preserved
loop-list-preserved c =
    let was = c.loop-list.invariant in
    let read = c.in_ok-push_numbers.ensures.appended in (
      was.0 ++ read.0 ∷ [],
      omega (arith, was.1, length-append was.0 (read.0 ∷ [])),
      more_numbers was.0 _ _ read.0 was.2 read.2,
      one_more_list was.0 c.args.bytes.now c.loop-list.rest.now c.in_ok-text.text.now c.in_ok-text.after.now read.0 was.3 c.in_ok-text.ensures.parts read.1,
      All-push (IsSorted nat_cmp) was.0 read.0 was.4 read.3,
    )

pub returns : goal.returns
returns c =
    let was = c.loop-list.invariant in
    let all : c.loop-list._list ≡ c.args.count = search rules in
    let fit = subst FitInEightBytes c.as_slice.ensures.value c.numbers_fit.ensures.fit in record {
      lists = (was.0, was.1 ∙ all, was.2, was.3);
      fit = fit;
      read = (was.0, c.loop-list.rest.now, was.1 ∙ all, (was.4, subst FitInEightBytes was.2 fit), was.3);
      fault = tt;
    }

pub returns-in_err-text-clause-fault : goal.returns-in_err-text-clause-fault
returns-in_err-text-clause-fault c =
    let was = c.loop-list.invariant in
    let low : length c.args.bytes.now < 2 ^ 64 = omega (arith, c.length_of-len.ensures.value, c.length_of-len.type_inv) in
    handed_on c.from_residual.result c.in_err-text.field-0.0 _ c.from_residual.ensures.1
    (lists_fault c.args.count was.0 c.args.bytes.now c.loop-list.rest.now _ low was.3 (omega (arith, was.1, c.loop-list-test.true)) c.in_err-text.ensures.fault)

pub returns-in_err-push_numbers-clause-fault : goal.returns-in_err-push_numbers-clause-fault
returns-in_err-push_numbers-clause-fault c =
    let was = c.loop-list.invariant in
    let low : length c.args.bytes.now < 2 ^ 64 = omega (arith, c.length_of-len.ensures.value, c.length_of-len.type_inv) in
    handed_on c.from_residual-in_err-push_numbers.result c.in_err-push_numbers.field-0.0 _ c.from_residual-in_err-push_numbers.ensures.1
    (lists_damage c.args.count was.0 c.args.bytes.now c.loop-list.rest.now c.in_ok-text.text.now c.in_ok-text.after.now _ low was.3 (omega (arith, was.1, c.loop-list-test.true))
    c.in_ok-text.ensures.parts c.in_err-push_numbers.ensures.damage)
