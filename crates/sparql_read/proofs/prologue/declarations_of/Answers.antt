use Rattle.std.proofs.Common.{◌∙◌, sym, ap}
use Rattle.sparql_grammar.specs.Prologue.{and_declared}
use Rattle.sparql_read.proofs.PrologueSteps.{declared_next}
use Rattle.sparql_read.proofs.prologue.declarations_of.Goals as goal
use Rattle.sparql_read.proofs.prologue.declarations_of.Goals.{in-Some+in_ok-add, in_default}

pub loop-i-preserved : goal.loop-i-preserved
loop-i-preserved c =
    let old = c.loop-i.names in
    let found = c.in_ok-declaration.field-0 in
    let next = declared_next c.args.tokens.now c.loop-i.i old c.match-branch-2.names found c.loop-i-test.true in
    elim c.match-branch-2.branch [
      | in-Some+in_ok-add w ↦ next (w.names-is ∙ (w.in_ok-add.ensures.names ∙ ap (λ d. and_declared d old) (sym w.in-Some.is))) c.in_ok-declaration.ensures.value ∙ c.loop-i.invariant
      | in_default w ↦ next (w.names-is ∙ ap (λ d. and_declared d old) (sym w.in_default.is)) c.in_ok-declaration.ensures.value ∙ c.loop-i.invariant
    ]
