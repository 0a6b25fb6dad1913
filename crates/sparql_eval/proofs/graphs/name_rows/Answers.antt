use Rattle.std.proofs.Common.{◌≡◌, ◌++◌, ◌+◌, ◌∷◌, [], ℕ, List, map, take, replicate, set, slice_get, get_or, None, Some, sym, ap, ◌∙◌, arith}
use Rattle.std.proofs.lemmas.List.{map-append}
use Rattle.std.proofs.lemmas.Option.{slice_get-get_or}
use Rattle.algebra_model.specs.Solution.{Solution}
use Rattle.row_core.specs.RowList.{RowList}
use Rattle.row_core.proofs.TurnLaws.{take_more_get}
use Rattle.sparql_eval.proofs.ReadingLaws.{all_taken}
use Rattle.sparql_eval.proofs.graphs.name_rows.Goals as goal

pub loop-i-init : goal.loop-i-init
loop-i-init c = record {
  width = ap (λ (r : RowList). r.width) c.new-made.ensures.empty;
  rows = ap (λ (r : RowList). r.rows) c.new-made.ensures.empty;
}

pub loop-i-preserved : goal.loop-i-preserved
loop-i-preserved c =
    let was = c.loop-i.invariant in
    let graphs = c.args.graphs.now in
    let F : ℕ → Solution ℕ = λ n. set (replicate c.args.width None) c.args.variable (Some n) in
    let n = get_or graphs c.loop-i.i 0 in
    let at : slice_get graphs c.loop-i.i ≡ Some n = slice_get-get_or graphs c.loop-i.i 0 (omega arith) in
    let more : map F (take (c.loop-i.i + 1) graphs) ≡ map F (take c.loop-i.i graphs) ++ F n ∷ [] =
    ap (map F) (take_more_get graphs c.loop-i.i n at) ∙ map-append F (take c.loop-i.i graphs) (n ∷ []) in
    record {
      width = c.in_ok-push.ensures.width ∙ was.width;
      rows = c.in_ok-push.ensures.added ∙ ap (λ (x : Solution ℕ). c.loop-i.made.rows ++ x ∷ []) (c.as_slice.ensures.value ∙ c.in_ok-row.ensures.row)
          ∙ ap (λ (l : List (Solution ℕ)). l ++ F n ∷ []) was.rows ∙ sym more;
    }

pub returns : goal.returns
returns c =
    let was = c.loop-i.invariant in
    let F : ℕ → Solution ℕ = λ n. set (replicate c.args.width None) c.args.variable (Some n) in
    record {
      width = was.width;
      rows = was.rows ∙ ap (map F) (all_taken c.args.graphs.now c.loop-i.i (omega arith));
    }
