-- What follows for a document that was read in blocks and loaded.
use Rattle.std.proofs.Common.{◌≡◌, ℕ, true, List, length, map, Option, Vec, Global, sym, ap, ◌∙◌, subst}
use Rattle.std.proofs.lemmas.List.{length-map}
use Rattle.std.proofs.lemmas.List.Sorted.{length_permutation}
use Rattle.std.specs.Io.KnownBytes.{Consumes, IsAtEnd}
use Rattle.rdf_core.specs.Serialization.{serialization}
use Rattle.nquads_core.specs.Lines.{lines}
use Rattle.algebra_model.specs.Algebra.{Algebra, is_within}
use Rattle.algebra_model.specs.Bag.{without_repeats}
use Rattle.algebra_model.specs.Dataset.{names}
use Rattle.dict_core.specs.Appearances.{terms_of, first_appearances}
use Rattle.dict_core.specs.Dict.{term_at}
use Rattle.dict_core.specs.NumQuad.{quad_at, quads_at}
use Rattle.quad_index.specs.Laws.{same_parts}
use Rattle.dataset_load.specs.Lines.{block_texts, joined}
use Rattle.dataset_load.specs.Store.{StoreView, names_in}
use Rattle.dataset_load.specs.Loaded as load
use Rattle.spq_core.specs.Listing.{counts_line, counts_of, term_lines, text_lines}
use Rattle.std.specs.Str.{chars}
use Rattle.nquads_core.specs.Pieces.{IsBadLine}
use Rattle.algebra_model.specs.Laws.{BagHasOneList}
use Rattle.needed_quads.specs.Laws.{NeededSuffice}
use Rattle.sparql_tree.specs.QueryTree.{QueryTree}
use Rattle.sparql_read.specs.Rejection.{IsValidQuery}
use Rattle.sparql_algebra.specs.Names.{Name, names_of, selected_names}
use Rattle.sparql_algebra.specs.Translation.{translate}
use Rattle.spq_core.specs.Outcome.{rows}
use Rattle.spq_core.specs.Output.{check, select, terms}
use Rattle.result_json.specs.Results.{json}
use Rattle.spq_core.proofs.AnsweringSteps.{needed_rows}
use Rattle.spq_core.proofs.ListingSteps.{lines_of_forms}
use Rattle.spq_core.specs.Run.{IsBadLineOf, IsComposed}
use Rattle.spq_core.specs.Composing.{IsBadLineFrom, IsLoadedFrom, IsNeededFrom}

pub counts_are : (ls : List (List ℕ)) (store : StoreView) (l : load.IsLoaded ls store)
    → counts_line (length store.index) (length store.dict) (length (names_in store.index)) ≡ counts_of l.quads
counts_are ls store l =
    let q : length store.index ≡ length (without_repeats same_parts l.quads) =
    sym (length-map store.index (quad_at store.dict)) ∙ length_permutation (without_repeats same_parts l.quads) (quads_at store.dict store.index) l.store_of.each_once in
    let t : length store.dict ≡ length (first_appearances (terms_of l.quads)) = ap length l.store_of.terms in
    let g : length (names_in store.index) ≡ length (names l.quads) =
    sym (length-map (names_in store.index) (term_at store.dict)) ∙ length_permutation (names l.quads) (map (term_at store.dict) (names_in store.index)) l.store_of.graphs in
    ap (λ n. counts_line n (length store.dict) (length (names_in store.index))) q
    ∙ ap (λ n. counts_line (length (without_repeats same_parts l.quads)) n (length (names_in store.index))) t
    ∙ ap (λ n. counts_line (length (without_repeats same_parts l.quads)) (length (first_appearances (terms_of l.quads))) n) g

pub composed_check : (left left' : Option (List ℕ)) (store : StoreView) (text : List ℕ) → IsLoadedFrom left left' store
    → text ≡ counts_line (length store.index) (length store.dict) (length (names_in store.index)) → IsComposed check left left' text
composed_check left left' store text h e = record {
  doc = h.doc;
  consumed = h.consumed;
  at_end = h.at_end;
  output = record { quads = h.loaded.quads; statements = h.loaded.statements; printed = e ∙ counts_are (lines h.doc) store h.loaded };
}

pub composed_terms : (left left' : Option (List ℕ)) (store : StoreView) (texts : List (List ℕ)) (text : List ℕ) → IsLoadedFrom left left' store
    → texts ≡ map serialization store.dict → text ≡ text_lines texts → IsComposed terms left left' text
composed_terms left left' store texts text h d e = record {
  doc = h.doc;
  consumed = h.consumed;
  at_end = h.at_end;
  output = record { quads = h.loaded.quads; statements = h.loaded.statements; printed = e ∙ ap text_lines d ∙ lines_of_forms store.dict ∙ ap term_lines h.loaded.store_of.terms };
}

-- the rows over the quads that the plan of a query needs are printed
pub composed_select : NeededSuffice → BagHasOneList → (left left' : Option (List ℕ)) (query : List ℕ) (q : QueryTree) (names : List Name) (A : Algebra) (store : StoreView) (text : List ℕ) → IsValidQuery (chars query) q
    → names ≡ names_of q → A ≡ (translate q).algebra → is_within (length names) A ≡ true → IsNeededFrom A left left' store
    → text ≡ json (selected_names q) (rows q (quads_at store.dict store.index)) → IsComposed (select query) left left' text
composed_select suffice one left left' query q names A store text r n a within h e = record {
  doc = h.doc;
  consumed = h.consumed;
  at_end = h.at_end;
  output = record {
    query = q;
    read = r;
    results = record {
      quads = h.all;
      statements = h.statements;
      printed = e ∙ ap (json (selected_names q)) (sym (needed_rows suffice one q names A h.all (quads_at store.dict store.index) n a within h.needed));
    };
  };
}

-- ---- the first malformed line is the output's

pub bad_select : (left left' : Option (List ℕ)) (query : List ℕ) (q : QueryTree) → IsValidQuery (chars query) q → (n : ℕ) → IsBadLineFrom left left' n → IsBadLineOf (select query) left left' n
bad_select left left' query q r n h = record { doc = h.doc; consumed = h.consumed; at_end = h.at_end; output = ((q, r), h.bad) }

pub bad_check : (left left' : Option (List ℕ)) (n : ℕ) → IsBadLineFrom left left' n → IsBadLineOf check left left' n
bad_check left left' n h = record { doc = h.doc; consumed = h.consumed; at_end = h.at_end; output = h.bad }

pub bad_terms : (left left' : Option (List ℕ)) (n : ℕ) → IsBadLineFrom left left' n → IsBadLineOf terms left left' n
bad_terms left left' n h = record { doc = h.doc; consumed = h.consumed; at_end = h.at_end; output = h.bad }

pub from_blocks : (left left' : Option (List ℕ)) (blocks slice : List (Vec ℕ Global)) (store : StoreView)
    → Consumes left left' (joined (block_texts blocks)) → IsAtEnd left' → slice ≡ blocks
    → load.IsLoaded (lines (joined (block_texts slice))) store → IsLoadedFrom left left' store
from_blocks left left' blocks slice store c end e l = record {
  doc = joined (block_texts blocks);
  consumed = c;
  at_end = end;
  loaded = subst (λ (bs : List (Vec ℕ Global)). load.IsLoaded (lines (joined (block_texts bs))) store) e l;
}

pub bad_blocks : (left left' : Option (List ℕ)) (blocks slice : List (Vec ℕ Global)) (n : ℕ)
    → Consumes left left' (joined (block_texts blocks)) → IsAtEnd left' → slice ≡ blocks
    → IsBadLine (lines (joined (block_texts slice))) n → IsBadLineFrom left left' n
bad_blocks left left' blocks slice n c end e b = record {
  doc = joined (block_texts blocks);
  consumed = c;
  at_end = end;
  bad = subst (λ (bs : List (Vec ℕ Global)). IsBadLine (lines (joined (block_texts bs))) n) e b;
}
