use Rattle.std.proofs.Common.{◌≡◌, ◌∙◌, ◌++◌, [], ◌∷◌, List, ℕ, Bor, Vec, Global, length, get_or, ap, sym, subst, arith}
use Rattle.std.proofs.lemmas.List.{get_or-map, length-append, length-map, map-append}
use Rattle.result_json.specs.RankedRows.{ranks_of}
use Rattle.result_json.specs.Texts.{all_texts, borrowed_texts, places_of, IsColumnAhead}
use Rattle.result_json.proofs.AheadSteps.{first_more}
use Rattle.result_json.proofs.prefetch.looked_up.Goals as goal

pub loop-prefix-preserved : goal.loop-prefix-preserved
loop-prefix-preserved c =
    let terms = c.args.texts.now in
    let rows = ranks_of c.args.rows.now in
    let columns = c.args.columns.now in
    let i = c.loop-prefix._prefix-index in
    let column = c.loop-prefix-item.result in
    let made = all_texts c.loop-prefix.ahead.items in
    let texts = borrowed_texts c.in_ok-look_up.field-0.items in
    let more : all_texts c.push.new.self.items ≡ made ++ texts ∷ [] = ap all_texts c.in_ok-push.ensures.items ∙ map-append (λ (v : Vec (Bor (List ℕ)) Global). borrowed_texts v.items) c.loop-prefix.ahead.items (c.in_ok-look_up.field-0 ∷ []) in
    let place : column.1 ≡ get_or (places_of columns) i 0 = ap (λ (e : Vec ℕ Global × ℕ). e.1) c.loop-prefix-item.is ∙ sym (get_or-map (λ (e : Vec ℕ Global × ℕ). e.1) columns i column 0 (omega arith)) in
    record {
      wide = ap length more ∙ omega (arith, length-append made (texts ∷ []), c.loop-prefix.invariant.wide);
      ahead = first_more (λ (k : ℕ) (ts : List (List ℕ)). IsColumnAhead terms (get_or (places_of columns) k 0) rows ts) [] made (all_texts c.push.new.self.items) texts i c.loop-prefix.invariant.wide more
          (subst (λ (p : ℕ). IsColumnAhead terms p rows texts) place c.in_ok-look_up.ensures.ahead) c.loop-prefix.invariant.ahead;
    }

pub returns : goal.returns
returns c =
    let columns = c.args.columns.now in
    let count : length (places_of columns) ≡ length columns = length-map columns (λ (e : Vec ℕ Global × ℕ). e.1) in
    record { ahead = λ k l. c.loop-prefix.invariant.ahead k (omega arith) }
