use Rattle.std.proofs.Common.{◌≡◌, ◌++◌, ◌∷◌, [], ap, sym, ◌∙◌, Bool, List, ℕ, arith, nat_eq, Some, if◌then◌else◌}
use Rattle.row_join.specs.KeyTable.{place_of, with_key}
use Rattle.row_join.proofs.DistinctLaws.{distinct-turn, equal-if, unequal-if}
use Rattle.row_join.proofs.distinct_rows.distinct.Goals as goal
use Rattle.row_join.proofs.distinct_rows.distinct.Goals.{then-place-len+in_ok-push, else-place-len}

pub loop-i-preserved : goal.loop-i-preserved
loop-i-preserved c =
    let was = c.loop-i.invariant in
    let rows = c.args.rows.now.rows in
    let row = c.as_slice-row.result.now in
    let made = c.loop-i.made.rows in
    let seen = c.loop-i.seen.keys in
    let len = c.len-in-loop-i.result in
    let place = c.in_ok-place.place in
    let new = nat_eq place len in
    let key = c.deref.ensures.value ∙ c.in_ok-write_key.ensures.numbers in
    let wide : c.if-place-len.made.width ≡ c.args.rows.now.width =
    elim c.if-place-len.branch [
      | then-place-len+in_ok-push w ↦ rw w.made-is (w.in_ok-push.ensures.width ∙ was.width)
      | else-place-len w ↦ rw w.made-is was.width
    ] in
    let put : c.if-place-len.made.rows ≡ (if new then made ++ row ∷ [] else made) =
    elim c.if-place-len.branch [
      | then-place-len+in_ok-push w ↦ rw w.made-is (w.in_ok-push.ensures.added ∙ ap (λ (b : Bool). if b then made ++ row ∷ [] else made) (sym (equal-if place len w.if-place-len.true)))
      | else-place-len w ↦ rw w.made-is (ap (λ (b : Bool). if b then made ++ row ∷ [] else made) (sym (unequal-if place len (λ e. omega (arith, e, w.if-place-len.false)))))
    ] in
    let turn = distinct-turn seen c.insert.new.self.keys made c.if-place-len.made.rows rows c.loop-i.i place row new
    was.seen was.made (c.in_ok-read.ensures.found ∙ ap Some (sym c.as_slice-row.ensures.value))
    (c.in_ok-place.ensures.place ∙ ap (λ (k : List ℕ). place_of k seen) key)
    (ap (nat_eq place) c.len-in-loop-i.ensures.value)
    (c.in_ok-place.ensures.keys ∙ ap (with_key seen) key) put in
    record { width = wide; made = turn.0; seen = turn.1; wide = c.in_ok-place.ensures.width ∙ was.wide }
