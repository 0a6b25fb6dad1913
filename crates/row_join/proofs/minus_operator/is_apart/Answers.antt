use Rattle.std.proofs.Common.{◌||◌, [], ℕ, not, sym, ap, refl, arith, get_or}
use Rattle.algebra_model.specs.Operators.{share}
use Rattle.row_join.specs.Row.{row_of}
use Rattle.row_join.specs.Tried.{places_of}
use Rattle.row_join.proofs.TurnLaws.{apart-turn, apart-not}
use Rattle.row_join.proofs.minus_operator.is_apart.Goals as goal
use Rattle.row_join.proofs.minus_operator.is_apart.Goals.{else-is_compatible-via-then-is_compatible+else-shares, else-is_compatible-via-else-is_compatible}

pub returns-then-shares : goal.returns-then-shares
returns-then-shares c =
    let rows = c.args.right.now.rows in
    let here = ap (λ (k : ℕ). get_or rows k []) (sym c.place.ensures.value) in
    record {
      value = apart-not rows (places_of c.args.tried) c.loop-i.i (row_of c.args.row) (get_or rows c.place.result []) (omega arith) here
          c.is_compatible.result c.shares.result c.is_compatible.ensures.value c.shares.ensures.value c.if-is_compatible.true c.if-shares.true;
    }

pub loop-i-preserved : goal.loop-i-preserved
loop-i-preserved c =
    let rows = c.args.right.now.rows in
    let row = row_of c.args.row in
    let other = get_or rows c.place.result [] in
    let here = ap (λ (k : ℕ). get_or rows k []) (sym c.place.ensures.value) in
    elim c.else-is_compatible.branch [
      | else-is_compatible-via-then-is_compatible+else-shares w ↦
          apart-turn rows (places_of c.args.tried) c.loop-i.i row other (omega arith) here
          c.is_compatible.result w.shares.result c.is_compatible.ensures.value w.shares.ensures.value
          (λ j. not (w.if-is_compatible.true j) || not (w.if-shares.false j)) c.loop-i.invariant
      | else-is_compatible-via-else-is_compatible w ↦
          apart-turn rows (places_of c.args.tried) c.loop-i.i row other (omega arith) here
          c.is_compatible.result (share row other) c.is_compatible.ensures.value refl
          (ap (λ b. not b || not (share row other)) w.if-is_compatible.false) c.loop-i.invariant
    ]
