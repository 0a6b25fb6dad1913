use Rattle.std.proofs.Common.{◌≡◌, ◌++◌, ap, sym, subst, suc, ◌∙◌, arith, List, ℕ, Option, length, append_assoc}
use Rattle.std.specs.List.{flat_map, slice_index_or}
use Rattle.std.specs.Vec.Iter.{into_iter_items}
use Rattle.row_core.specs.declared.rows.Rows.{Rows}
use Rattle.row_pieces.proofs.pieces.join_pieces.Goals as goal

pub loop-out-preserved : goal.loop-out-preserved
loop-out-preserved c =
    let was = c.loop-out.invariant in
    let steps = c.in-Some.ensures.steps in
    let rest = into_iter_items c.next.new.self in
    record {
      width = c.in_ok-append.ensures.width ∙ was.width;
      wide = λ k d low. subst (λ (xs : List Rows). (slice_index_or xs (suc k) d).width ≡ c.args.width) steps.0 (was.wide (suc k) d (let e = ap length steps.0 in omega arith));
      joined =
          ap (λ (l : List (List (Option ℕ))). l ++ flat_map (λ (out : Rows). out.rows) rest) c.in_ok-append.ensures.added
          ∙ append_assoc c.loop-out.rows.rows c.in-Some.out.rows (flat_map (λ (out : Rows). out.rows) rest)
          ∙ ap (λ (xs : List Rows). c.loop-out.rows.rows ++ flat_map (λ (out : Rows). out.rows) xs) (sym steps.0)
          ∙ was.joined;
    }
