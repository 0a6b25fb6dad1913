use Rattle.std.proofs.Common.{◌≡◌, ◌+◌, ◌<◌, ◌++◌, ◌∷◌, [], List, Option, None, ℕ, append_assoc, get_or, length, map, take, sym, ap, ◌∙◌}
use Rattle.std.proofs.lemmas.List.{map-append, take_all, take_more}
use Rattle.algebra_model.specs.RowOrder.{cells}
use Rattle.result_json.specs.Ranks.{code_of, codes_of}
use Rattle.result_json.proofs.coding.put_codes.Goals as goal

codes_step : (count : ℕ) (listed : List ℕ) (row : List (Option ℕ)) (i : ℕ) (before old new : List ℕ) (code : ℕ) (cell : Option ℕ) → i < length listed
    → old ≡ before ++ codes_of count (take i listed) row → new ≡ old ++ code ∷ [] → code ≡ code_of count cell → cell ≡ get_or row (get_or listed i 0) None
    → new ≡ before ++ codes_of count (take (i + 1) listed) row
codes_step count listed row i before old new code cell low was pushed is found =
    let v = get_or listed i 0 in
    let o = get_or row v None in
    let next : codes_of count (take (i + 1) listed) row ≡ codes_of count (take i listed) row ++ code_of count o ∷ [] =
    ap (λ (vs : List ℕ). codes_of count vs row) (take_more listed i 0 low) ∙ ap (map (code_of count)) (map-append (λ u. get_or row u None) (take i listed) (v ∷ []))
    ∙ map-append (code_of count) (cells (take i listed) row) (o ∷ []) in
    pushed ∙ (λ j. was j ++ (is ∙ ap (code_of count) found) j ∷ []) ∙ append_assoc before (codes_of count (take i listed) row) (code_of count o ∷ []) ∙ ap (λ l. before ++ l) (sym next)

pub loop-variable-preserved : goal.loop-variable-preserved
loop-variable-preserved c =
    codes_step c.args.count c.args.listed.now c.args.row.now c.loop-variable.variable-index c.args.codes.now.items c.loop-variable.codes.items c.push.new.self.items c.code.result c.number_at.result
    c.loop-variable-test.true c.loop-variable.invariant c.in_ok-push.ensures.items c.code.ensures.value c.number_at.ensures.value

pub returns : goal.returns
returns c =
    record {
      codes = c.loop-variable.invariant
          ∙ ap (λ (l : List ℕ). c.args.codes.now.items ++ codes_of c.args.count l c.args.row.now) (take_all c.loop-variable.variable-index c.args.listed.now c.loop-variable-test.false);
    }
