use Rattle.std.proofs.Common.{◌≡◌, ◌∙◌, ◌++◌, List, ap, map, codes, refl}
use Rattle.result_json.specs.Packed.{ranks_in}
use Rattle.result_json.specs.Ranks.{ranked_row, terms_of}
use Rattle.result_json.specs.Results.{Column, columns, joined_blocks, listed_names, row_text, separated}
use Rattle.result_json.specs.Texts.{begun_column, begun_row, head_text}
use Rattle.result_json.proofs.JsonLaws.{json_is}
use Rattle.result_json.proofs.SeparatedLaws.{rows_are}
use Rattle.result_json.proofs.results.to_json.Goals as goal

pub returns-clause-json : goal.returns-clause-json
returns-clause-json g c =
    let vars = listed_names c.args.table.now.names.now c.args.table.now.listed.now in
    let terms = terms_of c.args.terms.now in
    let printed = c.in_ok-texts.texts in
    let ranks = ranks_in c.args.rows.now in
    let rows : map (begun_row printed (map begun_column c.deref-2.result.now)) ranks ≡ map (row_text (columns vars)) (map (ranked_row terms) ranks) =
    (λ i. map (begun_row (c.in_ok-texts.ensures.terms i) (map begun_column (c.deref-2.ensures.value i))) ranks) ∙ ap (λ (k : List Column). map (begun_row terms k) ranks) c.in_ok-columns.ensures.columns ∙ rows_are terms (columns vars) ranks in
    let blocks = joined_blocks c.in_ok-blocks.blocks.items in
    ◌∙◌ {b = head_text vars ++ (blocks ++ codes "]}}\n")} c.in_ok-enclosed.ensures.joined
    (json_is vars (map (ranked_row terms) ranks) (head_text vars) blocks (codes "]}}\n") refl (c.in_ok-blocks.ensures.text ∙ ap separated rows) refl)
