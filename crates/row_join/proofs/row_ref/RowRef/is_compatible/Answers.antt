use Rattle.std.proofs.Common.{◌≡◌, ◌+◌, ◌<◌, ◌&&◌, ℕ, Bool, Option, None, length, get_or, nat_eq, drop, sym, ap, ◌∙◌, arith}
use Rattle.algebra_model.specs.Solution.{Solution, agree, is_compatible}
use Rattle.row_core.proofs.TurnLaws.{is_compatible-drop, is_compatible-drop_all}
use Rattle.row_join.specs.Row.{row_of}
use Rattle.row_join.proofs.row_ref.RowRef.is_compatible.Goals as goal

-- the cells of one variable, x and y, of which r says whether they agree, and those of the later ones
one_variable : (a b : Solution ℕ) (i : ℕ) (x y : Option ℕ) (r : Bool) → i < length a → length a ≡ length b → x ≡ get_or a i None → y ≡ get_or b i None → r ≡ agree nat_eq x y
    → is_compatible nat_eq (drop i a) (drop i b) ≡ (r && is_compatible nat_eq (drop (i + 1) a) (drop (i + 1) b))
one_variable a b i x y r low wide at_a at_b e =
    is_compatible-drop a b i low wide
    ∙ (λ j. sym (e ∙ (λ k. agree nat_eq (at_a k) (at_b k))) j && is_compatible nat_eq (drop (i + 1) a) (drop (i + 1) b))

pub returns-then-not-agrees : goal.returns-then-not-agrees
returns-then-not-agrees c =
    let a = row_of c.args.self in
    let b = row_of c.args.other in
    let n = c.loop-variable.variable in
    let p = c.width-wide.ensures.wide in
    let q = c.width-variable-end.ensures in
    let low : n < length a = omega (arith, q.value, q.wide) in
    let wide : length a ≡ length b = omega (arith, p, q.wide) in
    record {
      value = sym (sym c.loop-variable.invariant
          ∙ one_variable a b n c.get.result c.get-in-loop-variable.result c.agrees.result low wide c.get.ensures.value c.get-in-loop-variable.ensures.value c.agrees.ensures.value
          ∙ ap (λ r. r && is_compatible nat_eq (drop (n + 1) a) (drop (n + 1) b)) c.if-not-agrees.true);
    }

pub loop-variable-preserved : goal.loop-variable-preserved
loop-variable-preserved c =
    let a = row_of c.args.self in
    let b = row_of c.args.other in
    let n = c.loop-variable.variable in
    let p = c.width-wide.ensures.wide in
    let q = c.width-variable-end.ensures in
    let low : n < length a = omega (arith, q.value, q.wide) in
    let wide : length a ≡ length b = omega (arith, p, q.wide) in
    sym (one_variable a b n c.get.result c.get-in-loop-variable.result c.agrees.result low wide c.get.ensures.value c.get-in-loop-variable.ensures.value c.agrees.ensures.value
    ∙ ap (λ r. r && is_compatible nat_eq (drop (n + 1) a) (drop (n + 1) b)) c.if-not-agrees.false)
    ∙ c.loop-variable.invariant

pub returns : goal.returns
returns c =
    let a = row_of c.args.self in
    let q = c.width-variable-end.ensures in
    record { value = sym (is_compatible-drop_all a (row_of c.args.other) c.loop-variable.variable (omega (arith, q.value, q.wide))) ∙ c.loop-variable.invariant }
