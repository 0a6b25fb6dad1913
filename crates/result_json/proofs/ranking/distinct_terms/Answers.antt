use Rattle.std.proofs.Common.{◌≡◌, ◌++◌, ◌∙◌, ◌+◌, ◌<◌, true, length, arith, [], ◌∷◌, List, All, Vec, Global, ap, sym, subst}
use Rattle.std.proofs.lemmas.List.{get_or_default}
use Rattle.std.proofs.lemmas.List.Elements.{All-push}
use Rattle.result_json.specs.Ranks.{Entry, numbers_of, IsEntry}
use Rattle.result_json.proofs.RankSteps.{AreTaken, taken_more, taken_past}
use Rattle.result_json.proofs.ranking.distinct_terms.Goals as goal
use Rattle.result_json.proofs.ranking.distinct_terms.Goals.{then-index+in_ok-push, else-index}

pub loop-number-preserved : goal.loop-number-preserved
loop-number-preserved c =
    let dict = c.args.dict.now in
    let marks = c.in_ok-marks.marks.items in
    let i = c.loop-number.number in
    let made = c.loop-number.made.items in
    let v = c.loop-number.invariant in
    let inside : i < length marks = omega (arith, c.in_ok-marks.ensures.wide, c.len.ensures.value, c.len-number-end.ensures.value, c.loop-number-test.true) in
    elim c.if-index.branch [
      | then-index+in_ok-push w ↦
          let is : c.if-index.made.items ≡ made ++ (w.term.result, i) ∷ [] = ap (λ (x : Vec Entry Global). x.items) w.made-is ∙ w.in_ok-push.ensures.items in
          record {
            entries = subst (All (IsEntry dict)) (sym is) (All-push (IsEntry dict) made (w.term.result, i) v.entries w.term.ensures.value);
            taken = subst (λ (es : List Entry). AreTaken marks (numbers_of es) (i + 1)) (sym is) (taken_more marks made i w.term.result v.taken);
          }
      | else-index w ↦ record {
        entries = subst (All (IsEntry dict)) (sym (ap (λ (x : Vec Entry Global). x.items) w.made-is)) v.entries;
        taken = subst (λ (es : List Entry). AreTaken marks (numbers_of es) (i + 1)) (sym (ap (λ (x : Vec Entry Global). x.items) w.made-is)) (taken_past marks (numbers_of made) i (get_or_default marks i true c.index.result.now inside ∙ sym c.index.ensures ∙ w.if-index.false) v.taken);
      }
    ]
