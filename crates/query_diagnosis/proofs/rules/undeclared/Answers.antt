use Rattle.std.proofs.Common.{false, sym, ◌∙◌}
use Rattle.sparql_grammar.specs.Prologue.{is_undefined}
use Rattle.query_diagnosis.proofs.PlaceSteps.{any_more, first_any}
use Rattle.query_diagnosis.proofs.rules.undeclared.Goals as goal

pub returns-then-branch : goal.returns-then-branch
returns-then-branch c = record { first = first_any (is_undefined c.args.names.now) c.args.tokens.now c.loop-i.i c.loop-i-test.true c.loop-i.invariant (sym c.in_ok-has_undefined_prefix.ensures.value ∙ c.if-branch.true) }

pub loop-i-preserved : goal.loop-i-preserved
loop-i-preserved c = any_more (is_undefined c.args.names.now) c.args.tokens.now c.loop-i.i false c.loop-i.invariant (sym c.if-branch.false ∙ c.in_ok-has_undefined_prefix.ensures.value)
