use Rattle.std.proofs.Common.{◌≡◌, ◌≤◌, drop, min}
use Rattle.sparql_grammar.specs.Values.{number_of_digits, capped}
use Rattle.sparql_expression.proofs.tokens.decoding.capped.Given as goal

abbrev pub invariant-loop-c : goal.invariant-loop-c
invariant-loop-c l = record {
  so_far : capped l.text ≡ min (number_of_digits l.number (drop l.c-index l.text)) 18446744073709551615;
  within : l.number ≤ 18446744073709551615;
}
