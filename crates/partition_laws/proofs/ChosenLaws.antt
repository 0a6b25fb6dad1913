-- The quads that the blocks have for a partition are a document.
use Rattle.std.proofs.Common.{◌≡◌, Bool, List, [], ◌∷◌, ◌++◌, map, filter, Some, refl, sym, ap, subst, ◌∙◌}
use Rattle.std.proofs.lemmas.List.Concat.{flat_map-append}
use Rattle.std.proofs.lemmas.List.Elements.{filter-append}
use Rattle.rdf_core.specs.QuadParts.{QuadParts}
use Rattle.nquads_core.specs.Laws.{quad_line}
use Rattle.nquads_core.specs.Lines.{lines}
use Rattle.nquads_core.specs.Pieces.{HaveStatements}
use Rattle.nquads_core.proofs.Again.{lines_round_trip}
use Rattle.algebra_model.specs.Pieces.{joined}
use Rattle.cluster_parts.specs.Parts.{quad_document, quad_statement}
use Rattle.cluster_parts.specs.Seal.{joined_texts}
use Rattle.cluster_parts.proofs.DocumentLaws.{IsOfLine, block_quads, lines_of_quads}
use Rattle.cluster_parts.proofs.Each.{Each, Each-append, Each-filter}
use Rattle.partition_laws.specs.Partitions.{ChosenQuadsJoin}

-- a line in canonical form holds its quad
lines_hold : (qs : List QuadParts) → Each IsOfLine qs → HaveStatements (map quad_line qs) qs
lines_hold [] h = refl
lines_hold (q ∷ qs) h = (Some q, qs, lines_round_trip h.0.0 q h.0.1, refl, lines_hold qs h.1)

document_holds : (qs : List QuadParts) → Each IsOfLine qs → HaveStatements (lines (quad_document qs)) qs
document_holds qs h = subst (λ ls. HaveStatements ls qs) (sym (lines_of_quads qs h)) (lines_hold qs h)

all_of_lines : (quads : List (List QuadParts)) → Each (Each IsOfLine) quads → Each IsOfLine (joined quads)
all_of_lines [] h = tt
all_of_lines (qs ∷ quads) h = Each-append IsOfLine qs (joined quads) h.0 (all_of_lines quads h.1)

-- the chosen quads of each block, one block after the other
one_document : (chosen : QuadParts → Bool) (quads : List (List QuadParts))
    → joined_texts (map (λ qs. quad_document (filter chosen qs)) quads) ≡ quad_document (filter chosen (joined quads))
one_document chosen [] = refl
one_document chosen (qs ∷ quads) =
    ap (λ l. quad_document (filter chosen qs) ++ l) (one_document chosen quads)
    ∙ sym (flat_map-append quad_statement (filter chosen qs) (filter chosen (joined quads)))
    ∙ ap quad_document (sym (filter-append chosen qs (joined quads)))

pub chosen_quads_join : ChosenQuadsJoin
chosen_quads_join blocks quads chosen h =
    let all = filter chosen (joined quads) in
    let held : Each IsOfLine all = Each-filter IsOfLine chosen (joined quads) (all_of_lines quads (block_quads blocks quads h.statements)) in
    subst (λ text. HaveStatements (lines text) all) (sym (one_document chosen quads)) (document_holds all held)
