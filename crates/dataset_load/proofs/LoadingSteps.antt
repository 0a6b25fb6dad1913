-- The pieces of a document, and its store.
use Rattle.std.proofs.Common.{◌≡◌, ℕ, ◌+◌, ◌<◌, List, [], ◌∷◌, ◌++◌, length, get_or, take, map, Option, IsPermutation, Result, Ok, Err, IfOk, refl, sym, ap, ◌∙◌, subst, inr, arith}
use Rattle.std.specs.Option.{unwrap_or}
use Rattle.std.specs.List.{filter_map}
use Rattle.std.proofs.lemmas.List.{append-nil, take_more, take_all}
use Rattle.std.proofs.lemmas.Option.{slice_get_within, unwrap_or-slice_get}
use Rattle.std.proofs.lemmas.List.Sorted.{IsPermutation-refl, IsPermutation-sym, IsPermutation-trans}
use Rattle.rdf_core.specs.declared.term.Term.{Term}
use Rattle.rdf_core.specs.QuadParts.{QuadParts}
use Rattle.rdf_core.proofs.TermLaws.{term_eq, term_decides}
use Rattle.nquads_core.specs.Lines.{lines}
use Rattle.algebra_model.specs.Bag.{without_repeats}
use Rattle.algebra_model.specs.Dataset.{names}
use Rattle.algebra_model.proofs.SetLaws.{alike_from_set, alike-filter_map, without_repeats-alike}
use Rattle.piece_cuts.specs.Cuts.{piece_at}
use Rattle.piece_cuts.specs.Laws.{pieces_from, pieces_of, ArePiecesOf}
use Rattle.dict_core.specs.declared.num_quad.NumQuad.{NumQuad}
use Rattle.dict_core.specs.Appearances.{first_appearances, terms_of}
use Rattle.dict_core.specs.Dict.{term_at}
use Rattle.dict_core.proofs.AppearanceLaws.{appearances_front}
use Rattle.text_pieces.specs.Forms.{AreFormsOf, AreNumberedBy}
use Rattle.quad_filter.specs.declared.filter.QuadFilter.{QuadFilter}
use Rattle.quad_filter.specs.declared.filter.QuadFilter.TheVariants.{All}
use Rattle.quad_filter.proofs.KeptLaws.{all_is_kept}
use Rattle.dict_core.specs.NumQuad.{quads_at}
use Rattle.dict_core.proofs.NumQuadLaws.{quad_eq}
use Rattle.quad_index.proofs.ReadingLaws.{index_reads, index_counts, index_names}
use Rattle.dataset_load.specs.Lines.{all_lines, AreWholeLines}
use Rattle.nquads_core.specs.Pieces.{HaveStatements}
use Rattle.dataset_load.specs.Store.{StoreView, names_in}
use Rattle.dataset_load.specs.Loaded.{IsKeptLoaded, IsLoaded, IsStoreOf}
use Rattle.dataset_load.specs.Rounds.{AreNumbered, HasRead}
use Rattle.dataset_load.specs.declared.numbered.Numbered.{Numbered}
use Rattle.dataset_load.proofs.LineLaws.{lines_of_pieces}

module _ (doc places : List ℕ) (pieces : ArePiecesOf doc places) where
  there : (i : ℕ) → i < length places + 1 → (i < length (pieces_of doc places)) × (get_or (pieces_of doc places) i [] ≡ piece_at doc places i)
  there i low = (
    slice_get_within (pieces_of doc places) i (piece_at doc places i) (pieces.each i low),
    sym (unwrap_or-slice_get (pieces_of doc places) i []) ∙ ap (λ (o : Option (List ℕ)). unwrap_or o []) (pieces.each i low),
  )

  pub piece_more : (got : List (List ℕ)) (i : ℕ) (x : List ℕ) → got ≡ take i (pieces_of doc places) → i < length places + 1 → x ≡ piece_at doc places i
      → got ++ x ∷ [] ≡ take (i + 1) (pieces_of doc places)
  piece_more got i x is low at =
      let h = there i low in
      ap (λ (ps : List (List ℕ)). ps ++ x ∷ []) is ∙ ap (λ (y : List ℕ). take i (pieces_of doc places) ++ y ∷ []) (at ∙ sym h.1)
      ∙ sym (take_more (pieces_of doc places) i [] h.0)

  count : (start : ℕ) (ps : List ℕ) → length (pieces_from doc start ps) ≡ length ps + 1
  count start [] = refl
  count start (p ∷ ps) = let c = count p ps in omega arith

  whole : AreWholeLines (pieces_of doc places)
  whole i low =
      let n = count 0 places in
      let h = there i (omega arith) in
      inr (let e = pieces.whole_lines i (omega arith) in (e.0, h.1 ∙ e.1))

  pub lines_of_cuts : (got : List (List ℕ)) (n : ℕ) → got ≡ take n (pieces_of doc places) → n ≡ length places + 1 → all_lines got ≡ lines doc
  lines_of_cuts got n is enough =
      let c = count 0 places in
      ap all_lines (is ∙ take_all n (pieces_of doc places) (omega arith))
      ∙ lines_of_pieces (pieces_of doc places) whole ∙ ap lines pieces.joined

-- the store of quads that are numbered
pub stored : (quads : List QuadParts) (texts : List (List ℕ)) (numbered index : List NumQuad) (are : AreNumberedBy quads texts numbered)
    → IsPermutation (without_repeats quad_eq numbered) index → IsStoreOf quads (record { dict = are.terms; index = index })
stored quads texts numbered index are once =
    let dict = are.terms in
    let same = (index_reads quads dict numbered index are.numbered once).0 in
    let graphs : List QuadParts → List Term = λ qs. filter_map (λ (q : QuadParts). q.g) qs in
    let renamed : IsPermutation (names (quads_at dict index)) (names quads) =
    without_repeats-alike term_eq term_decides (graphs (quads_at dict index)) (graphs quads)
    (alike-filter_map (λ (q : QuadParts). q.g) (quads_at dict index) quads (alike_from_set (quads_at dict index) quads same)) in
    record {
      terms = are.numbered.0;
      dataset = same;
      each_once = index_counts quads dict numbered index are.numbered once;
      graphs = IsPermutation-trans (names quads) (names (quads_at dict index)) (map (term_at dict) (names_in index))
          (IsPermutation-sym (names (quads_at dict index)) (names quads) renamed)
          (index_names quads dict numbered index (names_in index) are.numbered once (IsPermutation-refl (names_in index)));
    }

pub loaded : (filter : QuadFilter) (ls texts : List (List ℕ)) (numbered index : List NumQuad) (read : AreNumbered filter ls texts numbered)
    → IsPermutation (without_repeats quad_eq numbered) index → IsKeptLoaded filter ls (record { dict = read.numbered.terms; index = index })
loaded filter ls texts numbered index read once = record {
  all = read.all;
  statements = read.statements;
  quads = read.quads;
  kept = read.kept;
  store_of = stored read.quads texts numbered index read.numbered once;
}

-- with a filter that keeps all quads, the store is that of all of them
pub all_loaded : (filter : QuadFilter) (ls : List (List ℕ)) (store : StoreView) → filter ≡ All → IsKeptLoaded filter ls store → IsLoaded ls store
all_loaded filter ls store is was = by (subst (λ (f : QuadFilter). IsKeptLoaded f ls store) is was)
  where
    by : IsKeptLoaded All ls store → IsLoaded ls store
    by l = record {
      quads = l.quads;
      statements = subst (λ (qs : List QuadParts). HaveStatements ls qs) (sym (all_is_kept l.all l.quads l.kept)) l.statements;
      store_of = l.store_of;
    }

pub all_stored : {E : Type 0} (so_far : Numbered) (ls : List (List ℕ)) (r : Result StoreView E) → so_far.filter.now ≡ All → HasRead so_far ls
    → IfOk r (λ store. (lines : List (List ℕ)) → HasRead so_far lines → IsKeptLoaded so_far.filter.now lines store) → IfOk r (IsLoaded ls)
all_stored so_far ls (Ok store) is read h = all_loaded so_far.filter.now ls store is (h ls read)
all_stored so_far ls (Err e) is read h = tt

-- the terms of the texts, read one after the other, are those that the texts are forms of
pub terms_are : (quads : List QuadParts) (texts : List (List ℕ)) (numbered : List NumQuad) (are : AreNumberedBy quads texts numbered) (dict : List Term)
    → ((terms : List Term) → AreFormsOf terms texts → dict ≡ first_appearances terms) → dict ≡ are.terms
terms_are quads texts numbered are dict h =
    let own = terms_of quads in
    let is = are.numbered.0 in
    h are.terms are.forms
    ∙ ap first_appearances (is ∙ sym (append-nil (first_appearances own))) ∙ appearances_front own [] ∙ ap first_appearances (append-nil own) ∙ sym is

pub same_slice : (slice numbered index : List NumQuad) → slice ≡ numbered → IsPermutation (without_repeats quad_eq slice) index → IsPermutation (without_repeats quad_eq numbered) index
same_slice slice numbered index e h = subst (λ (qs : List NumQuad). IsPermutation (without_repeats quad_eq qs) index) e h
