use Rattle.std.proofs.Common.{length, subst, sym, ◌∙◌}
use Rattle.dict_core.specs.NumQuad.{AreBelow}
use Rattle.quad_index.proofs.ReadingLaws.{index_reads}
use Rattle.dataset_load.specs.Store.{StoreView}
use Rattle.dataset_load.specs.Loaded.{IsKeptLoaded}
use Rattle.dataset_load.specs.Rounds.{AreSortedLists}
use Rattle.dataset_load.proofs.LoadingSteps.{loaded, terms_are}
use Rattle.dataset_load.proofs.building.store_of.Goals as goal

pub of_parts-requires : goal.of_parts-requires
of_parts-requires g c =
    let read = c.requires.read.1.numbered in
    let same = terms_are read.quads c.args.so_far.dict.texts c.args.so_far.quads read.numbered c.in_ok-terms.terms c.in_ok-terms.ensures.terms in
    let sorted = subst (AreSortedLists c.args.so_far.quads) (sym c.in_ok-lists.ensures.lists) c.in_ok-built.ensures.lists in
    let reads = index_reads read.quads read.numbered.terms c.args.so_far.quads c.in_ok-index.index read.numbered.numbered (c.in_ok-index.ensures.each_once _ sorted) in
    record { below = subst (λ d. AreBelow (length d) c.in_ok-index.index) (sym same) reads.1 }

pub returns-clause-loaded : goal.returns-clause-loaded
returns-clause-loaded g c = λ lines read.
    let same = terms_are read.numbered.quads c.args.so_far.dict.texts c.args.so_far.quads read.numbered.numbered c.in_ok-terms.terms c.in_ok-terms.ensures.terms in
    let sorted = subst (AreSortedLists c.args.so_far.quads) (sym c.in_ok-lists.ensures.lists) c.in_ok-built.ensures.lists in
    subst (λ (store : StoreView). IsKeptLoaded c.args.so_far.filter.now lines store) (sym (c.of_parts.ensures.parts ∙ (λ i. record { dict = same i; index = c.in_ok-index.index })))
    (loaded c.args.so_far.filter.now lines c.args.so_far.dict.texts c.args.so_far.quads c.in_ok-index.index read.numbered (c.in_ok-index.ensures.each_once _ sorted))
