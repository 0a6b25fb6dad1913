use Rattle.std.proofs.Common.{◌<◌, ◌^◌, ◌++◌, All, IsSorted, ap, arith, length, map, nat_cmp, subst, sym, ◌∙◌}
use Rattle.std.proofs.lemmas.List.Elements.{All-push}
use Rattle.cluster_parts.specs.Known.{items_of}
use Rattle.cluster_parts.specs.NumberList.{number_list}
use Rattle.cluster_parts.specs.Seal.{all_sealed}
use Rattle.cluster_parts.proofs.FaultSteps.{handed_on, sealed_lists_damage, sealed_lists_fault}
use Rattle.cluster_parts.proofs.PartSteps.{one_more_list, shorter}
use Rattle.cluster_parts.proofs.repeated.read_lists.Goals as goal

pub loop-rest-smaller : goal.loop-rest-smaller
loop-rest-smaller c = shorter _ _ _ c.in_ok-text.ensures.parts

pub loop-rest-preserved : goal.loop-rest-preserved
loop-rest-preserved c =
    let was = c.loop-rest.invariant in (
      one_more_list (items_of c.loop-rest.lists.items) c.args.bytes.now c.loop-rest.rest.now c.in_ok-text.text.now c.in_ok-text.after.now c.in_ok-list.list.items was.0
          c.in_ok-text.ensures.parts c.in_ok-list.ensures.numbers
          ∙ ap (λ l. all_sealed (map number_list l) ++ c.in_ok-text.after.now) (sym c.in_ok-push_list.ensures.pushed),
      subst (All (IsSorted nat_cmp)) (sym c.in_ok-push_list.ensures.pushed) (All-push (IsSorted nat_cmp) (items_of c.loop-rest.lists.items) c.in_ok-list.list.items was.1 c.in_ok-list.ensures.ascending),
    )

pub returns-in_err-text-clause-fault : goal.returns-in_err-text-clause-fault
returns-in_err-text-clause-fault c =
    let low : length c.args.bytes.now < 2 ^ 64 = omega (arith, c.length_of-len.ensures.value, c.length_of-len.type_inv) in
    handed_on c.from_residual.result c.in_err-text.field-0.0 _ c.from_residual.ensures.1
    (sealed_lists_fault (items_of c.loop-rest.lists.items) c.args.bytes.now c.loop-rest.rest.now _ _ low c.loop-rest.invariant.0 c.is_empty.ensures c.loop-rest-test.true c.in_err-text.ensures.fault)

pub returns-in_err-list-clause-fault : goal.returns-in_err-list-clause-fault
returns-in_err-list-clause-fault c =
    let low : length c.args.bytes.now < 2 ^ 64 = omega (arith, c.length_of-len.ensures.value, c.length_of-len.type_inv) in
    handed_on c.from_residual-in_err-list.result c.in_err-list.field-0.0 _ c.from_residual-in_err-list.ensures.1
    (sealed_lists_damage (items_of c.loop-rest.lists.items) c.args.bytes.now c.loop-rest.rest.now c.in_ok-text.text.now c.in_ok-text.after.now _ _ low c.loop-rest.invariant.0 c.is_empty.ensures c.loop-rest-test.true
    c.in_ok-text.ensures.parts c.in_err-list.ensures.damage)
