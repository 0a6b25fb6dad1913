use Rattle.std.proofs.Common.{arith, refl}
use Rattle.sparql_lexer.specs.Terminal.{terminals}
use Rattle.query_diagnosis.proofs.PlaceSteps.{read_none, read_one}
use Rattle.query_diagnosis.proofs.places.offset_of.Goals as goal

pub loop-i-init : goal.loop-i-init
loop-i-init c = (omega arith, λ end d. read_none c.args.text.now end (terminals c.args.tokens.now) d)

pub loop-i-preserved : goal.loop-i-preserved
loop-i-preserved c = (
  omega (arith, c.after_token-rest.ensures.shorter, c.loop-i.invariant.0),
  λ end d. read_one c.args.text.now c.loop-i.rest.now c.after_token-rest.result.now end c.loop-i.i c.args.tokens.now _ (omega (arith, c.loop-i-test.true, c.min-i-end.ensures)) (c.loop-i.invariant.1 end d) c.after_token-rest.ensures.value,
)
