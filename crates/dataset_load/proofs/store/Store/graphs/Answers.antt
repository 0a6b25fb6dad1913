use Rattle.std.proofs.Common.{ap, ◌∙◌, length}
use Rattle.std.proofs.lemmas.List.Sorted.{length_permutation}
use Rattle.dataset_load.specs.Store.{StoreView, names_in}
use Rattle.dataset_load.proofs.store.Store.graphs.Goals as goal

pub returns : goal.returns
returns c = record {
  count = length_permutation (names_in c.self.inside.index) c.graphs.result.now c.graphs.ensures.names ∙ ap (λ (v : StoreView). length (names_in v.index)) c.self.view_is;
}
