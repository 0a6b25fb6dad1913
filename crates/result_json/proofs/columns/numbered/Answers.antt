use Rattle.std.proofs.Common.{◌++◌, ◌∙◌, [], ◌∷◌, ap, sym, map, take, List, ℕ}
use Rattle.std.proofs.lemmas.List.{map-append}
use Rattle.result_json.specs.Texts.{column_of}
use Rattle.result_json.specs.Results.{Column, listed_names, numbered}
use Rattle.result_json.proofs.ColumnLaws.{numbered-names}
use Rattle.result_json.proofs.columns.numbered.Goals as goal

pub loop-place-preserved : goal.loop-place-preserved
loop-place-preserved c =
    ap (map column_of) c.in_ok-push.ensures.items ∙ map-append column_of c.loop-place.columns.items _ ∙ ap (λ (r : List Column). r ++ (c.name_of.result.now, c.loop-place.place) ∷ []) c.loop-place.invariant
    ∙ ap (λ (x : List ℕ). numbered 0 (listed_names c.args.names.now (take c.loop-place.place c.args.listed.now)) ++ (x, c.loop-place.place) ∷ []) c.name_of.ensures.value
    ∙ sym (numbered-names c.args.names.now c.args.listed.now c.loop-place.place _ c.loop-place-test.true)
