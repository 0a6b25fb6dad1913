use Rattle.std.proofs.Common.{◌++◌, List, ℕ, ap, ◌∙◌, append-nil}
use Rattle.std.specs.List.{flat_map}
use Rattle.std.proofs.lemmas.Grind.{flat_map-append}
use Rattle.std.proofs.lemmas.List.{take_more, take_all}
use Rattle.rdf_core.specs.Serialization.{escaped}
use Rattle.rdf_core.proofs.AppendSteps.{two, error_after}
use Rattle.rdf_core.proofs.serialization.put_lexical.Goals as goal

pub loop-b-preserved : goal.loop-b-preserved
loop-b-preserved c =
    rw (take_more c.args.lexical.now c.loop-b.b-index 0 c.loop-b-test.true, flat_map-append, append-nil)
    (two _ _ _ _ _ c.loop-b.invariant c.in_ok-put_escaped.ensures.ok)

pub returns-clause-ok : goal.returns-clause-ok
returns-clause-ok c =
    c.loop-b.invariant ∙ ap (λ (bs : List ℕ). c.args.out.now.items ++ flat_map escaped bs) (take_all c.loop-b.b-index c.args.lexical.now c.loop-b-test.false)

pub returns-in_err-put_escaped-clause-err : goal.returns-in_err-put_escaped-clause-err
returns-in_err-put_escaped-clause-err c =
    error_after _ _ _ _ (c.in_err-put_escaped.ensures.err ∙ c.loop-b.invariant)
