use Rattle.std.proofs.Common.{◌≡◌, ◌∙◌, ◌++◌, ℕ, [], Vec, Global, length, get_or, ap, sym, subst, arith}
use Rattle.std.proofs.lemmas.List.{get_or-map, length-map}
use Rattle.result_json.specs.Ranks.{ranked_cell}
use Rattle.result_json.specs.Texts.{all_texts, begun_member, comma_texts, places_of, IsAhead}
use Rattle.result_json.proofs.SeparatedLaws.{row_more}
use Rattle.result_json.proofs.row_texts.put_row.Goals as goal

pub put_member-requires : goal.put_member-requires
put_member-requires c =
    let columns = c.args.columns.now in
    let ahead = c.args.ahead.now in
    let ranks = c.args.row.now.ranks.now in
    let terms = c.args.texts.now in
    let k = c.loop-k.k in
    let column = c.index-columns-k.result in
    let count : length (places_of columns) ≡ length columns = length-map columns (λ (e : Vec ℕ Global × ℕ). e.1) in
    let place : get_or (places_of columns) k 0 ≡ column.1 = get_or-map (λ (e : Vec ℕ Global × ℕ). e.1) columns k column 0 (omega arith) ∙ sym (ap (λ (e : Vec ℕ Global × ℕ). e.1) c.index-columns-k.is) in
    let rank : get_or ranks (get_or (places_of columns) k 0) 0 ≡ c.rank.result = ap (λ p. get_or ranks p 0) place ∙ sym c.rank.ensures.value in
    record { ahead = subst (IsAhead terms c.rank.result) (sym c.text_at-text.ensures.value) (subst (λ (r : ℕ). IsAhead terms r (get_or (get_or (all_texts ahead) k []) c.args.number [])) rank (c.requires.ahead k (omega arith))) }

pub loop-k-preserved : goal.loop-k-preserved
loop-k-preserved c =
    let prefix = c.in_ok-later.ensures.text ∙ ap (λ p. c.loop-k.out.items ++ comma_texts c.loop-k.later (begun_member p (ranked_cell c.args.texts.now c.rank.result))) c.deref.ensures.value in
    let more = row_more c.args.texts.now c.args.row.now.ranks.now c.args.columns.now c.loop-k.k c.index-columns-k.result c.rank.result c.args.out.now.items c.loop-k.out.items c.put_member.new.out.items c.loop-k.later c.in_ok-later.later
    (omega arith) c.index-columns-k.is c.rank.ensures.value prefix c.in_ok-later.ensures.later c.loop-k.invariant.text c.loop-k.invariant.later in
    record { text = more.0; later = more.1 }
