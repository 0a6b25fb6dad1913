use Rattle.std.proofs.Common.{◌≡◌, ◌∙◌, ◌+◌, ◌++◌, [], ◌∷◌, Bool, List, ℕ, true, false, refl, drop, map, ap, sym, arith, add-one, append_assoc, append-nil}
use Rattle.std.proofs.Math.Seq.{drop-cons}
use Rattle.std.proofs.lemmas.List.{drop_all}
use Rattle.result_json.specs.declared.ranked_row.RankedRow.{RankedRow}
use Rattle.result_json.specs.RankedRows.{ranks_of}
use Rattle.result_json.specs.Texts.{begun_column, begun_row, comma_texts, places_of}
use Rattle.result_json.proofs.AheadSteps.{row_ahead}
use Rattle.result_json.proofs.SeparatedLaws.{comma_texts-cons}
use Rattle.result_json.proofs.row_texts.put_group.Goals as goal
use Rattle.result_json.proofs.row_texts.put_group.Goals.{then-later+in_ok-push, else-later}

no_texts : (later : Bool) → comma_texts later [] ≡ []
no_texts true = refl
no_texts false = refl

pub returns : goal.returns
returns c =
    let rows = c.args.rows.now in
    let out = c.loop-i.out.items in
    let later = c.loop-i.later in
    let text = begun_row c.args.texts.now (map begun_column c.args.columns.now) in
    let none : drop c.loop-i.i rows ≡ [] = drop_all c.loop-i.i rows (omega arith) in
    let nothing : [] ≡ comma_texts later (map text (ranks_of (drop c.loop-i.i rows))) = sym (no_texts later) ∙ ap (λ (rs : List RankedRow). comma_texts later (map text (ranks_of rs))) (sym none) in
    record { text = sym (append-nil out) ∙ ap (λ t. out ++ t) nothing ∙ c.loop-i.invariant }

pub loop-i-preserved : goal.loop-i-preserved
loop-i-preserved c =
    let terms = c.args.texts.now in
    let columns = c.args.columns.now in
    let rows = c.args.rows.now in
    let i = c.loop-i.i in
    let row = c.index-rows-i.result in
    let out = c.loop-i.out.items in
    let later = c.loop-i.later in
    let text = begun_row terms (map begun_column columns) in
    let following = ranks_of (drop (i + 1) rows) in
    let cut : ranks_of (drop i rows) ≡ row.ranks.now ∷ following = ap ranks_of (drop-cons rows i row (omega arith)) ∙ (λ t. (sym c.index-rows-i.is t).ranks.now ∷ ranks_of (drop (sym (add-one i) t) rows)) in
    let comma : c.if-later.out.items ≡ out ++ comma_texts later ([] ∷ []) = elim c.if-later.branch [
      | then-later+in_ok-push w ↦ (λ t. (w.out-is t).items) ∙ w.in_ok-push.ensures.items ∙ (λ t. out ++ comma_texts (sym w.if-later.true t) ([] ∷ []))
      | else-later w ↦ (λ t. (w.out-is t).items) ∙ sym (append-nil out) ∙ (λ t. out ++ comma_texts (sym w.if-later.false t) ([] ∷ []))
    ] in
    ap (λ t. t ++ comma_texts true (map text following)) (c.in_ok-put_row.ensures.text ∙ ap (λ t. t ++ text row.ranks.now) comma)
    ∙ append_assoc (out ++ comma_texts later ([] ∷ [])) (text row.ranks.now) (comma_texts true (map text following))
    ∙ append_assoc out (comma_texts later ([] ∷ [])) (text row.ranks.now ++ comma_texts true (map text following))
    ∙ ap (λ t. out ++ t) (sym (comma_texts-cons later (text row.ranks.now) (map text following)) ∙ ap (λ (rs : List (List ℕ)). comma_texts later (map text rs)) (sym cut))
    ∙ c.loop-i.invariant

pub put_row-requires : goal.put_row-requires
put_row-requires c = record {
  ahead = row_ahead c.args.texts.now (places_of c.args.columns.now) c.args.rows.now c.loop-i.i c.index-rows-i.result _ _ (omega arith) c.index-rows-i.is c.deref.ensures.value
      c.in_ok-ahead.ensures.ahead;
}
