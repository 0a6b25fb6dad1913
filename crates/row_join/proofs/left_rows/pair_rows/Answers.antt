use Rattle.std.proofs.Common.{◌≡◌, subst, map, flat_map}
use Rattle.std.proofs.lemmas.Result.{IfOk-weaker}
use Rattle.algebra_model.specs.Bag.{IsSameBag}
use Rattle.row_core.specs.RowList.{RowList}
use Rattle.row_pieces.specs.Pieces.{AreRowsOf}
use Rattle.row_join.proofs.TurnLaws.{left-all}
use Rattle.row_join.proofs.left_rows.pair_rows.Goals as goal

pub returns-clause-width : goal.returns-clause-width
returns-clause-width g c =
    let left = c.args.left.now in
    IfOk-weaker c.over_pieces.result (AreRowsOf left.width (map (g.P.Pairing.gives c.args.pairing.now c.in_ok-side.side.rows.now.rows) left.rows)) (λ rows. rows.width ≡ left.width) (λ rows are. are.0) c.over_pieces.ensures.rows

pub returns-clause-rows : goal.returns-clause-rows
returns-clause-rows g c =
    let gives = g.P.Pairing.gives c.args.pairing.now in
    let left = c.args.left.now.rows in
    IfOk-weaker c.over_pieces.result (AreRowsOf c.args.left.now.width (map (gives c.in_ok-side.side.rows.now.rows) left)) (λ rows. IsSameBag rows.rows (flat_map (gives c.args.right.now.rows) left))
    (λ rows are. subst (λ (r : RowList). IsSameBag rows.rows (flat_map (gives r.rows) left)) c.in_ok-side.ensures.rows
    (left-all (gives c.in_ok-side.side.rows.now.rows) left rows.rows are.1)) c.over_pieces.ensures.rows
