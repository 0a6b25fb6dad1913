-- The counts and the terms of what was read.
use Rattle.std.proofs.Common.{◌≡◌, ℕ, List, Option, IsPermutation, ap, ◌∙◌}
use Rattle.std.proofs.lemmas.List.Sorted.{IsPermutation-refl}
use Rattle.nquads_core.specs.Lines.{lines}
use Rattle.algebra_model.specs.Bag.{without_repeats}
use Rattle.dict_core.specs.declared.num_quad.NumQuad.{NumQuad}
use Rattle.dict_core.proofs.NumQuadLaws.{quad_eq}
use Rattle.quad_index.specs.declared.counting.IndexCounts.{IndexCounts}
use Rattle.quad_index.specs.Counting.{IsCountOf as IndexHasCounts}
use Rattle.dataset_load.specs.declared.numbered.Numbered.{Numbered}
use Rattle.dataset_load.specs.declared.counted.Counted.{Counted}
use Rattle.dataset_load.specs.Counted.{AreTermsFrom, IsCountedFrom}
use Rattle.dataset_load.specs.Counting.{IsCounted}
use Rattle.dataset_load.specs.Loaded.{IsLoaded}
use Rattle.dataset_load.specs.Rounds.{AreNumbered, HasRead}
use Rattle.dataset_load.specs.ReadSoFar.{IsReadFrom}
use Rattle.quad_filter.specs.declared.filter.QuadFilter.{QuadFilter}
use Rattle.quad_filter.specs.declared.filter.QuadFilter.TheVariants.{All}
use Rattle.dataset_load.proofs.LoadingSteps.{all_loaded, loaded, same_slice}

-- the store of the lines, if the filter keeps all quads
pub all_of_lines : (filter : QuadFilter) (ls texts : List (List ℕ)) (numbered index : List NumQuad) (read : AreNumbered filter ls texts numbered) → filter ≡ All
    → IsPermutation (without_repeats quad_eq numbered) index → IsLoaded ls (record { dict = read.numbered.terms; index = index })
all_of_lines filter ls texts numbered index read is once =
    all_loaded filter ls (record { dict = read.numbered.terms; index = index }) is (loaded filter ls texts numbered index read once)

-- with every quad in it once, there is a store of the lines
pub some_store : (filter : QuadFilter) (ls texts : List (List ℕ)) (numbered : List NumQuad) (read : AreNumbered filter ls texts numbered) → filter ≡ All
    → IsLoaded ls (record { dict = read.numbered.terms; index = without_repeats quad_eq numbered })
some_store filter ls texts numbered read is =
    all_of_lines filter ls texts numbered (without_repeats quad_eq numbered) read is (IsPermutation-refl (without_repeats quad_eq numbered))

pub counted_lines : (ls : List (List ℕ)) (so_far : Numbered) (quads : List NumQuad) (counts : IndexCounts) (counted : Counted) → so_far.filter.now ≡ All → HasRead so_far ls → quads ≡ so_far.quads
    → IndexHasCounts quads counts → counted.dict ≡ so_far.dict → counted.quads ≡ counts.quads → counted.graphs ≡ counts.graphs → IsCounted ls counted
counted_lines ls so_far quads counts counted is read same c terms_are quads_are graphs_are = record {
  store = record { dict = read.numbered.numbered.terms; index = c.index };
  loaded = all_of_lines so_far.filter.now ls so_far.dict.texts so_far.quads c.index read.numbered is (same_slice quads so_far.quads c.index same c.each_once);
  counts = record { terms = ap (λ d. d.texts) terms_are ∙ read.numbered.numbered.forms.forms; quads = quads_are ∙ c.quad_count; graphs = graphs_are ∙ c.graph_count };
}

pub counted_from : (a b : Option (List ℕ)) (so_far : Numbered) (counted : Counted) → so_far.filter.now ≡ All → IsReadFrom a b so_far
    → (so_far.filter.now ≡ All → (ls : List (List ℕ)) → HasRead so_far ls → IsCounted ls counted) → IsCountedFrom a b counted
counted_from a b so_far counted is was count =
    let c = count is (lines was.doc) was.read in
    record { store = c.store; loaded = record { doc = was.doc; consumed = was.consumed; at_end = was.at_end; loaded = c.loaded }; counts = c.counts }

pub terms_from : (a b : Option (List ℕ)) (so_far : Numbered) → so_far.filter.now ≡ All → IsReadFrom a b so_far → AreTermsFrom a b so_far.dict
terms_from a b so_far is was = record {
  store = record { dict = was.read.numbered.numbered.terms; index = without_repeats quad_eq so_far.quads };
  loaded = record { doc = was.doc; consumed = was.consumed; at_end = was.at_end; loaded = some_store so_far.filter.now (lines was.doc) so_far.dict.texts so_far.quads was.read.numbered is };
  same = was.read.numbered.numbered.forms.forms;
}
