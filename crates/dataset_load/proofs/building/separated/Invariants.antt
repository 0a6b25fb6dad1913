use Rattle.std.proofs.Common.{◌≡◌, ◌++◌}
use Rattle.std.specs.Vec.Iter.{into_iter_items}
use Rattle.dataset_load.specs.Building.{lists_in, terms_in}
use Rattle.dataset_load.proofs.building.separated.Given as goal

abbrev pub invariant-loop-one : goal.invariant-loop-one
invariant-loop-one l = record {
  lists : lists_in l.fn.built.items ≡ l.lists.items ++ lists_in (into_iter_items l.one-iterator);
  terms : terms_in l.fn.built.items ≡ l.terms.items ++ terms_in (into_iter_items l.one-iterator);
}
