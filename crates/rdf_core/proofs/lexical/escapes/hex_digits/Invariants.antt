use Rattle.rdf_core.proofs.HexSteps.{HasRead}
use Rattle.rdf_core.proofs.lexical.escapes.hex_digits.Given as goal

abbrev pub invariant-loop : goal.invariant-loop
invariant-loop l = HasRead l.count l.counter l.value l.rest l.text
