use Rattle.std.proofs.Common.{◌≡◌, ◌<◌, ◌∷◌, [], ℕ, List, All, Option, None, Some, false, filter, get_or, is_some, length, map, nat_eq, sym, ap, subst, ◌∙◌, arith}
use Rattle.std.proofs.lemmas.List.{get_or_read}
use Rattle.std.specs.List.{range_with_len}
use Rattle.algebra_model.specs.Bag.{IsSameBag}
use Rattle.algebra_model.specs.Keys.{is_keyed, may_meet}
use Rattle.algebra_model.specs.RowOrder.{cells}
use Rattle.row_join.specs.Places.{rows_at}
use Rattle.row_join.specs.Row.{row_of}
use Rattle.row_join.proofs.PlaceLaws.{keyed_tried, keyed_inside, one_cell, one_keyed, unkeyed_tried, all_inside}
use Rattle.row_join.proofs.right_side.RightSide.tried.Goals as goal
use Rattle.row_join.proofs.right_side.RightSide.tried.Goals.{then-len-eq1+in_default, else-len-eq1+in_ok-read_key+else-branch}

pub returns-in-Some-clause-tried : goal.returns-in-Some-clause-tried
returns-in-Some-clause-tried c =
    let right = c.args.self.now in
    let rows = right.rows.now.rows in
    let key = right.key.items in
    let row = row_of c.args.row in
    let number = c.in-Some.number in
    let size = right.key.ok.0 in
    let one : length key ≡ 1 = omega arith in
    let at : c.index.result.now ≡ get_or key 0 0 = get_or_read key 0 _ (omega arith) c.index.ensures 0 in
    let cell : Some number ≡ get_or row (get_or key 0 0) None = sym c.in-Some.is ∙ c.get.ensures.value ∙ ap (λ (v : ℕ). get_or row v None) at in
    subst (λ (l : List ℕ). IsSameBag (rows_at rows l) (filter (may_meet nat_eq key row) rows)) (sym c.with_numbers.ensures.value)
    (keyed_tried key row (number ∷ []) (ap (λ (x : Option ℕ). x ∷ []) cell ∙ sym (one_cell key row one)) (one_keyed key row one ∙ ap is_some (sym cell)) rows right.keyed right.table)

pub returns-in-Some-clause-inside : goal.returns-in-Some-clause-inside
returns-in-Some-clause-inside c =
    let right = c.args.self.now in
    let rows = right.rows.now.rows in
    subst (λ (l : List ℕ). All (λ (i : ℕ). i < length rows) l) (sym c.with_numbers.ensures.value)
    (keyed_inside right.key.items _ right.rows.now.rows right.keyed right.table)

pub returns-then-branch-clause-tried : goal.returns-then-branch-clause-tried
returns-then-branch-clause-tried c =
    let right = c.args.self.now in
    let rows = right.rows.now.rows in
    let key = right.key.items in
    let row = row_of c.args.row in
    let read = c.in_ok-read_key.ensures in
    let numbers = c.deref-then-branch.ensures.value in
    subst (λ (l : List ℕ). IsSameBag (rows_at rows l) (filter (may_meet nat_eq key row) rows)) (sym c.with_numbers-then-branch.ensures.value)
    (keyed_tried key row _ (ap (λ (l : List ℕ). map Some l) numbers ∙ read.read c.if-branch.true ∙ ap (λ k. cells k row) c.deref.ensures.value)
    (ap (λ k. is_keyed k row) (sym c.deref.ensures.value) ∙ sym read.keyed ∙ c.if-branch.true) rows right.keyed right.table)

pub returns-then-branch-clause-inside : goal.returns-then-branch-clause-inside
returns-then-branch-clause-inside c =
    let right = c.args.self.now in
    subst (λ (l : List ℕ). All (λ (i : ℕ). i < length right.rows.now.rows) l) (sym c.with_numbers-then-branch.ensures.value)
    (keyed_inside right.key.items _ right.rows.now.rows right.keyed right.table)

pub returns-clause-tried : goal.returns-clause-tried
returns-clause-tried c =
    let right = c.args.self.now in
    let rows = right.rows.now.rows in
    let key = right.key.items in
    let row = row_of c.args.row in
    let unbound : is_keyed key row ≡ false =
    elim c.if-len-eq1.branch [
      | then-len-eq1+in_default w ↦
          let test = w.if-len-eq1.true in
          let count = c.len.ensures in
          let size = right.key.ok.0 in
          let one : length key ≡ 1 = omega arith in
          let at : w.index.result.now ≡ get_or key 0 0 = get_or_read key 0 _ (omega arith) w.index.ensures 0 in
          one_keyed key row one ∙ ap is_some (ap (λ (v : ℕ). get_or row v None) (sym at) ∙ sym w.in_default.ensures.value)
      | else-len-eq1+in_ok-read_key+else-branch w ↦ ap (λ k. is_keyed k row) (sym w.deref.ensures.value) ∙ sym w.in_ok-read_key.ensures.keyed ∙ w.if-branch.false
    ] in
    subst (λ (n : ℕ). IsSameBag (rows_at rows (range_with_len 0 n)) (filter (may_meet nat_eq key row) rows)) (sym c.len-2.ensures.value) (unkeyed_tried key row unbound rows)

pub returns-clause-inside : goal.returns-clause-inside
returns-clause-inside c =
    let rows = c.args.self.now.rows.now.rows in
    subst (λ (n : ℕ). All (λ (i : ℕ). i < length rows) (range_with_len 0 n)) (sym c.len-2.ensures.value) (all_inside rows)
