use Rattle.std.proofs.Common.{◌≡◌, ◌∙◌, ◌++◌, [], ◌∷◌, List, ℕ, Bor, Vec, Global, length, get_or, ap, sym, subst, arith}
use Rattle.std.proofs.lemmas.List.{get_or-map, length-append, length-map, map-append}
use Rattle.result_json.specs.declared.ranked_row.RankedRow.{RankedRow}
use Rattle.result_json.specs.RankedRows.{ranks_of}
use Rattle.result_json.specs.Texts.{borrowed_texts, IsAhead, IsColumnAhead}
use Rattle.result_json.proofs.AheadSteps.{first_more, none_ahead}
use Rattle.result_json.proofs.prefetch.look_up.Goals as goal
use Rattle.result_json.proofs.prefetch.look_up.Goals.{then-not-are_objects, else-not-are_objects}

pub loop-row-preserved : goal.loop-row-preserved
loop-row-preserved c =
    let terms = c.args.texts.now in
    let rows = c.args.rows.now in
    let place = c.args.place in
    let i = c.loop-row.row-index in
    let row = c.row-item.result in
    let made = borrowed_texts c.loop-row.ahead.items in
    let text = c.text_ahead.result.now in
    let more : borrowed_texts c.push.new.self.items ≡ made ++ text ∷ [] = ap borrowed_texts c.in_ok-push.ensures.items ∙ map-append (λ (t : Bor (List ℕ)). t.now) c.loop-row.ahead.items (c.text_ahead.result ∷ []) in
    let ranks : row.ranks.now ≡ get_or (ranks_of rows) i [] = ap (λ (r : RankedRow). r.ranks.now) c.row-item.is ∙ sym (get_or-map (λ (r : RankedRow). r.ranks.now) rows i row [] (omega arith)) in
    let rank : c.rank.result ≡ get_or (get_or (ranks_of rows) i []) place 0 = c.rank.ensures.value ∙ ap (λ rs. get_or rs place 0) ranks in
    record {
      wide = ap length more ∙ omega (arith, length-append made (text ∷ []), c.loop-row.invariant.wide);
      ahead = first_more (λ (k : ℕ) (t : List ℕ). IsAhead terms (get_or (get_or (ranks_of rows) k []) place 0) t) [] made (borrowed_texts c.push.new.self.items) text i c.loop-row.invariant.wide more
          (subst (λ (r : ℕ). IsAhead terms r text) rank c.text_ahead.ensures.ahead) c.loop-row.invariant.ahead;
    }

pub returns : goal.returns
returns c =
    let terms = c.args.texts.now in
    let place = c.args.place in
    let rows = c.args.rows.now in
    let count : length (ranks_of rows) ≡ length rows = length-map rows (λ (r : RankedRow). r.ranks.now) in
    let all : IsColumnAhead terms place (ranks_of rows) (borrowed_texts c.loop-row.ahead.items) = λ k l. c.loop-row.invariant.ahead k (omega arith) in
    record {
      ahead = elim c.if-not-are_objects.branch [
        | then-not-are_objects w ↦ subst (λ (items : List (Bor (List ℕ))). IsColumnAhead terms place (ranks_of rows) (borrowed_texts items)) (sym (ap (λ (v : Vec (Bor (List ℕ)) Global). v.items) w.ahead-is ∙ w.clear.ensures.items)) (none_ahead terms place (ranks_of rows))
        | else-not-are_objects w ↦ subst (λ (v : Vec (Bor (List ℕ)) Global). IsColumnAhead terms place (ranks_of rows) (borrowed_texts v.items)) (sym w.ahead-is) all
      ];
    }
