-- What `check` and `terms` print (a choice of this project).
use Rattle.std.specs.Prelude.{ℕ, List, ◌++◌, flat_map, codes, decimal, length}
use Rattle.rdf_core.specs.declared.term.Term.{Term}
use Rattle.rdf_core.specs.QuadParts.{QuadParts}
use Rattle.rdf_core.specs.Serialization.{serialization}
use Rattle.algebra_model.specs.Bag.{without_repeats}
use Rattle.algebra_model.specs.Dataset.{names}
use Rattle.dict_core.specs.Appearances.{terms_of, first_appearances}
use Rattle.quad_index.specs.Laws.{same_parts}

-- the line with these numbers of quads, terms and graph names
abbrev pub counts_line : ℕ → ℕ → ℕ → List ℕ
counts_line quads terms graphs =
    codes "ok " ++ (decimal quads ++ (codes " quads " ++ (decimal terms ++ (codes " terms " ++ (decimal graphs ++ codes " graphs\n")))))

-- the distinct quads, their distinct terms and the names of their graphs are counted
abbrev pub counts_of : List QuadParts → List ℕ
counts_of quads = counts_line
    (length (without_repeats same_parts quads)) (length (first_appearances (terms_of quads))) (length (names quads))

-- each text on a line of its own
abbrev pub text_lines : List (List ℕ) → List ℕ
text_lines texts = flat_map (λ text. text ++ codes "\n") texts

-- each term on a line of its own
abbrev pub term_lines : List Term → List ℕ
term_lines terms = flat_map (λ t. serialization t ++ codes "\n") terms

-- the terms by first appearance
abbrev pub listing_of : List QuadParts → List ℕ
listing_of quads = term_lines (first_appearances (terms_of quads))
