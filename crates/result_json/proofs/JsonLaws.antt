-- The parts of the results, concatenated.
use Rattle.std.proofs.Common.{◌≡◌, ℕ, List, ◌++◌, map, codes, Option, ap, ◌∙◌, append_assoc}
use Rattle.rdf_core.specs.declared.term.Term.{Term}
use Rattle.result_json.specs.Results.{json, columns, row_text, separated, string_text}
use Rattle.result_json.specs.Texts.{head_text}

pub json_is : (vars : List (List ℕ)) (rows : List (List (Option Term))) (head blocks tail : List ℕ) → head ≡ head_text vars → blocks ≡ separated (map (row_text (columns vars)) rows) → tail ≡ codes "]}}\n"
    → head ++ (blocks ++ tail) ≡ json vars rows
unfolding json
json_is vars rows head blocks tail h b t =
    let front = codes "{\"head\":{\"vars\":[" in
    let names = separated (map string_text vars) in
    let middle = codes "]},\"results\":{\"bindings\":[" in
    let rest = separated (map (row_text (columns vars)) rows) ++ codes "]}}\n" in
    (λ i. h i ++ (b i ++ t i)) ∙ append_assoc front (names ++ middle) rest ∙ ap (λ x. front ++ x) (append_assoc names middle rest)
