use Rattle.dataset_load.proofs.SortingSteps.{index_once, three_sorted}
use Rattle.dataset_load.proofs.sorting.index_of.Goals as goal

pub of_lists-requires : goal.of_lists-requires
of_lists-requires c =
    let lists = three_sorted c.requires.lists.0 c.args.lists.items c.three-gspo.result.0 c.three-gspo.result.1 c.three-gspo.result.2 c.requires.lists.1 c.three-gspo.ensures.same in record {
      distinct = lists.first.distinct;
      sorted_gspo = lists.first.sorted;
      sorted_gpos = lists.second.sorted;
      sorted_gosp = lists.third.sorted;
      same_gpos = lists.same_second;
      same_gosp = lists.same_third;
    }

pub returns : goal.returns
returns c = record {
  each_once = index_once c.of_lists.result c.args.lists.items c.three-gspo.result.0 c.three-gspo.result.1 c.three-gspo.result.2 c.three-gspo.ensures.same c.of_lists.ensures.quads;
}
