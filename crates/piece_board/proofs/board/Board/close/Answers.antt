use Rattle.std.proofs.Common.{◌≡◌, ◌++◌, ◌∷◌, [], ℕ, List, length, min, append-nil, sym, ap, ◌∙◌, subst, arith, length-append}
use Rattle.std.specs.Prelude.{All}
use Rattle.piece_board.specs.declared.history.History.{History}
use Rattle.piece_board.specs.Pass.{PassView}
use Rattle.piece_board.specs.Board.{BoardView, IsPassOf, IsClosed}
use Rattle.piece_board.specs.contracts.pass.Pass.{the_view}
use Rattle.piece_board.proofs.TableSteps.{EndClaims, closes}
use Rattle.piece_board.proofs.ClosingLaws.{all_mid, word_is, closed_is}
use Rattle.piece_board.proofs.board.Board.close.Goals as goal

pub returns : goal.returns
returns c = let b : BoardView = c.args.self in let inside = c.self.inside in let size = inside.table.shared.key in let rest : List PassView = c.pop.new.self.items in
    let q : PassView = the_view c.first.inside in let history : History = c.join_all-seat.result.0.me.0 in
    let items : c.args.passes.items ≡ rest ++ q ∷ [] = c.in-Some.ensures.items ∙ ap (λ p. rest ++ p ∷ []) (sym c.first.view_is) in
    let given : All (IsPassOf b) ((rest ++ q ∷ []) ++ []) = subst (All (IsPassOf b)) (items ∙ sym (append-nil (rest ++ q ∷ []))) c.requires.of_board in
    let mine = all_mid (IsPassOf b) rest q [] given in
    let pieces : size.pieces ≡ b.pieces = c.self.invariant.2 ∙ ap (λ v. v.pieces) c.self.view_is in
    let seats : size.seats ≡ b.seats = c.self.invariant.3 ∙ ap (λ v. v.seats) c.self.view_is in
    let gathered = c.join_all-seat.ensures.joined in
    let all_seats : history.seats ≡ size.seats = (let a = gathered.seats in let one = c.first.invariant.3.single in let n = ap length items in let m = length-append rest (q ∷ []) in let k = c.requires.all in omega arith) in
    let whole = closes size _ history _ _ all_seats (let some_seats = c.self.invariant.4 in omega arith) c.close_with-closed.ensures.values.2 in
    let next = word_is _ 0 c.word-next.result c.word-next.ensures in let least = word_is _ 1 c.word-least.result c.word-least.ensures in
    let drawn : min c.word-next.result b.pieces ≡ c.min.result = ap (min c.word-next.result) (sym (ap (λ v. v.pieces) c.self.view_is)) ∙ sym c.min.ensures in
    record {
      closed = subst (λ (z : List PassView × ℕ). IsClosed b z.0 z.1 c.join_all-seat.result.1 c.word-least.result) (λ i. (sym items i, drawn i))
          (closed_is size b rest q history c.word-next.result c.word-least.result c.join_all-seat.result.1 c.first.invariant.3 gathered (subst (λ (z : ℕ × ℕ). EndClaims size z.0 z.1 history) (λ i. (next i, least i)) whole) pieces mine.1 c.join_all-seat.ensures.skipped);
    }
