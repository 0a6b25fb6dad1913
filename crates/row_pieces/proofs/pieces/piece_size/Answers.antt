use Rattle.std.proofs.Common.{◌≤◌, ◌<◌, ◌*◌, ◌^◌, ℕ, arith, mul-le-mul_left}
use Rattle.row_pieces.proofs.PieceLaws.{few}
use Rattle.row_pieces.proofs.pieces.piece_size.Goals as goal

large : (n size : ℕ) → n < 2 ^ 64 → 4 ≤ size → n ≤ 2 ^ 62 * size
large n size h k = let m = mul-le-mul_left (2 ^ 62) k in omega arith

small : (n size : ℕ) → n ≤ 2 ^ 62 → 1 ≤ size → n ≤ 2 ^ 62 * size
small n size h k = let m = mul-le-mul_left (2 ^ 62) k in omega arith

pub returns-then-count-clause-few : goal.returns-then-count-clause-few
returns-then-count-clause-few c =
    few c.args.count c.max.result (2 ^ 62) (omega arith) (large c.args.count c.max.result (omega arith) (omega arith))

pub returns-else-count-clause-few : goal.returns-else-count-clause-few
returns-else-count-clause-few c =
    few c.args.count c.args.rows (2 ^ 62) (omega arith) (small c.args.count c.args.rows (omega arith) (omega arith))
