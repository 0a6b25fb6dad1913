use Rattle.std.proofs.Common.{◌++◌, ◌∙◌, [], ◌∷◌, ap, sym, map, take, List, ℕ}
use Rattle.std.proofs.lemmas.List.{map-append}
use Rattle.result_json.specs.Texts.{column_of}
use Rattle.result_json.specs.Results.{Column, numbered}
use Rattle.result_merge.proofs.PlaceLaws.{numbered-more}
use Rattle.result_merge.proofs.columns.numbered.Goals as goal

pub loop-place-preserved : goal.loop-place-preserved
loop-place-preserved c =
    ap (map column_of) c.in_ok-push.ensures.items ∙ map-append column_of c.loop-place.columns.items _ ∙ ap (λ (r : List Column). r ++ (c.name_at.result.now, c.loop-place.place) ∷ []) c.loop-place.invariant
    ∙ ap (λ (x : List ℕ). numbered 0 (take c.loop-place.place c.args.names.now) ++ (x, c.loop-place.place) ∷ []) c.name_at.ensures.value
    ∙ sym (numbered-more c.args.names.now c.loop-place.place c.loop-place-test.true)
