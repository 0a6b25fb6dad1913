use Rattle.std.proofs.Common.{◌≡◌, ◌≢◌, ◌∙◌, ◌<◌, ◌++◌, List, true, length, drop, take, map, ap, sym, arith, append_assoc}
use Rattle.std.proofs.lemmas.Bool.{eqb-false}
use Rattle.std.proofs.lemmas.List.{length-map, length-take, map-append, take-append-drop}
use Rattle.result_json.specs.declared.ranked_row.RankedRow.{RankedRow}
use Rattle.result_json.specs.RankedRows.{ranks_of}
use Rattle.result_json.specs.Texts.{begun_column, begun_row, comma_texts}
use Rattle.result_json.proofs.SeparatedLaws.{comma_texts-append}
use Rattle.result_json.proofs.row_texts.put_rows.Goals as goal

pub loop-rest-preserved : goal.loop-rest-preserved
loop-rest-preserved c =
    let text = begun_row c.args.texts.now (map begun_column c.args.columns.now) in
    let out = c.loop-rest.out.items in
    let later = c.loop-rest.later in
    let rest = c.loop-rest.rest.now in
    let n = c.min.result in
    let front = take n rest in
    let following = c.following-rest.result.now in
    let count : length front ≡ n = length-take n rest ∙ omega (arith, c.min.ensures) in
    let parts : front ++ following ≡ rest = ap (λ (ys : List RankedRow). front ++ ys) (c.following-rest.ensures.value ∙ ap (λ k. drop k rest) count) ∙ take-append-drop n rest in
    let texts : map text (ranks_of front) ++ map text (ranks_of following) ≡ map text (ranks_of rest) =
    sym (map-append text (ranks_of front) (ranks_of following)) ∙ ap (map text) (sym (map-append (λ (r : RankedRow). r.ranks.now) front following)) ∙ ap (λ (rs : List RankedRow). map text (ranks_of rs)) parts in
    let nonempty : length rest ≢ 0 = eqb-false (length rest) 0 (sym c.loop-rest-test.ensures) in
    let some : 0 < length (map text (ranks_of front)) = omega (arith, length-map (ranks_of front) text, length-map front (λ (r : RankedRow). r.ranks.now), count, c.min.ensures) in
    ap (λ t. t ++ comma_texts true (map text (ranks_of following))) c.in_ok-put_group.ensures.text
    ∙ append_assoc out (comma_texts later (map text (ranks_of front))) (comma_texts true (map text (ranks_of following)))
    ∙ ap (λ t. out ++ t) (sym (comma_texts-append later (map text (ranks_of front)) (map text (ranks_of following)) some) ∙ ap (comma_texts later) texts)
    ∙ c.loop-rest.invariant
