-- The quads that a query needs.
use Rattle.std.proofs.Common.{◌≡◌, ℕ, inl, inr, Bool, true, false, List, [], ◌∷◌, ◌++◌, map, Some, refl, sym, ap, subst, ◌∙◌}
use Rattle.std.specs.Prelude.{option_to_list}
use Rattle.std.specs.Str.{chars}
use Rattle.std.proofs.lemmas.Bool.{false≢true}
use Rattle.rdf_core.specs.QuadParts.{QuadParts}
use Rattle.nquads_core.specs.Laws.{OneMeaning, quad_line}
use Rattle.nquads_core.specs.Lines.{lines}
use Rattle.nquads_core.specs.Pieces.{HaveStatements}
use Rattle.nquads_core.proofs.Again.{lines_round_trip}
use Rattle.algebra_model.specs.Laws.{BagHasOneList}
use Rattle.algebra_model.specs.Pieces.{joined}
use Rattle.sparql_grammar.specs.Derives.{Derives}
use Rattle.sparql_tree.specs.QueryTree.{QueryTree}
use Rattle.sparql_algebra.specs.Names.{names_of, selected_names}
use Rattle.sparql_algebra.specs.Translation.{translate}
use Rattle.sparql_algebra.proofs.WithinLaws.{translated_within}
use Rattle.quad_filter.specs.Kept.{IsKept}
use Rattle.quad_filter.proofs.KeptLaws.{kept_are_listed, kept_joins, wanted_are_kept}
use Rattle.needed_quads.specs.Laws.{HasNeeded, NeededSuffice}
use Rattle.result_json.specs.Results.{json}
use Rattle.cluster_parts.proofs.DocumentLaws.{IsOfLine, lines_of_quads, quads_of_lines}
use Rattle.cluster_parts.proofs.Each.{Each}
use Rattle.spq_core.specs.Outcome.{rows}
use Rattle.spq_core.proofs.AnsweringSteps.{needed_rows}
use Rattle.part_core.specs.Laws.{KeptAreDocument, KeptOfBlocksJoin, NeededGiveResult}
use Rattle.part_core.specs.Needed.{needs}

-- ---- what is kept

-- what a filter keeps that keeps more is kept
pub kept_weaker : (keep more : QuadParts → Bool) → ((q : QuadParts) → keep q ≡ true → more q ≡ true) → (quads kept : List QuadParts) → IsKept more quads kept → IsKept keep quads kept
kept_weaker keep more implies [] kept h = h
kept_weaker keep more implies (q ∷ quads) kept (inl x) = inl (x.0, x.1, kept_weaker keep more implies quads x.0 x.2)
kept_weaker keep more implies (q ∷ quads) kept (inr x) =
    inr (not_kept (keep q) refl, kept_weaker keep more implies quads kept x.1)
  where
    not_kept : (b : Bool) → keep q ≡ b → keep q ≡ false
    not_kept true e = absurd (false≢true (sym x.0 ∙ implies q e))
    not_kept false e = e

each_kept : (P : QuadParts → Type 0) (keep : QuadParts → Bool) (quads kept : List QuadParts) → IsKept keep quads kept → Each P quads → Each P kept
each_kept P keep [] kept h e = subst (Each P) (sym h) tt
each_kept P keep (q ∷ quads) kept (inl x) e = subst (Each P) (sym x.1) (e.0, each_kept P keep quads x.0 x.2 e.1)
each_kept P keep (q ∷ quads) kept (inr x) e = each_kept P keep quads kept x.1 e.1

-- a line in canonical form holds its quad
lines_hold : (qs : List QuadParts) → Each IsOfLine qs → HaveStatements (map quad_line qs) qs
lines_hold [] h = refl
lines_hold (q ∷ qs) h = (Some q, qs, lines_round_trip h.0.0 q h.0.1, refl, lines_hold qs h.1)

pub kept_are_document : KeptAreDocument
kept_are_document keep block quads kept statements h =
    let held = each_kept IsOfLine keep quads kept h (quads_of_lines (lines block) quads statements) in
    subst (λ ls. HaveStatements ls kept) (sym (lines_of_quads kept held)) (lines_hold kept held)

pub kept_of_blocks_join : KeptOfBlocksJoin
kept_of_blocks_join keep [] [] h = refl
kept_of_blocks_join keep [] (ks ∷ kept) h = absurd h
kept_of_blocks_join keep (qs ∷ quads) [] h = absurd h
kept_of_blocks_join keep (qs ∷ quads) (ks ∷ kept) h = kept_joins keep qs ks (joined quads) (joined kept) h.0 (kept_of_blocks_join keep quads kept h.1)

-- ---- the result

-- as the law of sparql_read says it
abbrev OneTree : Type 0
OneTree = (text : List ℕ) (q r : QueryTree) → Derives text q → Derives text r → q ≡ r

same_statements : OneMeaning → (ls : List (List ℕ)) (D E : List QuadParts) → HaveStatements ls D → HaveStatements ls E → D ≡ E
same_statements one [] D E h k = h ∙ sym k
same_statements one (l ∷ ls) D E h k =
    h.3 ∙ (λ i. option_to_list (one l h.0 k.0 h.2 k.2 i) ++ same_statements one ls h.1 k.1 h.4 k.4 i) ∙ sym k.3

has_needed : (query : QueryTree) (quads kept : List QuadParts) → IsKept (needs query) quads kept → HasNeeded quads kept (translate query).algebra
has_needed query quads kept h = record {
  within = λ q c. kept_are_listed (needs query) quads kept q h c;
  needed = λ q c e. wanted_are_kept (needs query) quads kept q h c e;
}

pub needed_give_result : NeededSuffice → BagHasOneList → OneTree → OneMeaning → NeededGiveResult
needed_give_result suffice one tree meaning text query document other quads kept result valid whole part h found =
    let e = tree (chars text) found.query query found.read.derives valid.derives in
    let d = same_statements meaning (lines other) found.results.quads kept found.results.statements part in
    let same = needed_rows suffice one query (names_of query) (translate query).algebra quads kept refl refl (translated_within query) (has_needed query quads kept h) in
    record {
      query = query;
      read = valid;
      results = record {
        quads = quads;
        statements = whole;
        printed = found.results.printed ∙ (λ i. json (selected_names (e i)) (rows (e i) (d i))) ∙ ap (json (selected_names query)) (sym same);
      };
    }
