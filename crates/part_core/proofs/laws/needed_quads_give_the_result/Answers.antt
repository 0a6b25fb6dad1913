use Rattle.part_core.proofs.NeededLaws.{needed_give_result}
use Rattle.part_core.proofs.laws.needed_quads_give_the_result.Goals as goal

pub returns : goal.returns
returns c = record {
  law = needed_give_result c.needed_quads_suffice.ensures.law c.a_bag_has_one_sorted_list.ensures.same c.one_tree.ensures.unique c.one_meaning.ensures.law;
}
