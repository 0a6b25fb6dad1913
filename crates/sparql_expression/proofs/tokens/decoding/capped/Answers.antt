use Rattle.std.proofs.Common.{◌≡◌, ℕ, ◌+◌, ◌-◌, ◌*◌, ◌<◌, ◌≤◌, List, length, drop, min, get_or, ap, ◌∙◌, arith}
use Rattle.sparql_grammar.specs.Values.{capped, number_of_digits}
use Rattle.sparql_expression.proofs.CountLaws.{one_more, all_counted}
use Rattle.sparql_expression.proofs.tokens.decoding.capped.Goals as goal

pub loop-c-preserved : goal.loop-c-preserved
loop-c-preserved c =
    let d = c.saturating_sub-digit.ensures ∙ ap (λ n. n - 48) (c.from-in-loop-c.ensures ∙ c.from.ensures ∙ c.c-item.is) in
    let m = c.saturating_add-number.ensures ∙ ap (λ n. min (n + c.saturating_sub-digit.result) 18446744073709551615) c.saturating_mul.ensures in
    record {
      so_far = one_more c.args.text.now c.loop-c.c-index c.loop-c.number c.saturating_add-number.result c.saturating_sub-digit.result c.c-item.result c.loop-c-test.true d m c.loop-c.invariant.so_far;
      within = omega (arith, c.saturating_add-number.type_inv);
    }

pub returns : goal.returns
returns c = all_counted c.args.text.now c.loop-c.c-index c.loop-c.number c.loop-c-test.false c.loop-c.invariant.within c.loop-c.invariant.so_far
