use Rattle.std.proofs.Common.{◌∙◌}
use Rattle.rdf_core.proofs.AppendSteps.{two, four, error_after}
use Rattle.rdf_core.proofs.serialization.put_literal.Goals as goal

pub returns-in_err-put_lexical-clause-err : goal.returns-in_err-put_lexical-clause-err
returns-in_err-put_lexical-clause-err c =
    error_after _ c.args.out.now.items _ _ (two c.args.out.now.items _ _ _ _ c.in_ok-push.ensures.items c.in_err-put_lexical.ensures.err.1)

pub returns-in_err-push-2-clause-err : goal.returns-in_err-push-2-clause-err
returns-in_err-push-2-clause-err c =
    error_after _ c.args.out.now.items _ _ (c.in_err-push-2.ensures.items ∙ two c.args.out.now.items _ _ _ _ c.in_ok-push.ensures.items c.in_ok-put_lexical.ensures.ok)

pub returns-in_err-put_suffix-clause-err : goal.returns-in_err-put_suffix-clause-err
returns-in_err-put_suffix-clause-err c =
    error_after _ c.args.out.now.items _ _ (four c.args.out.now.items _ _ _ _ _ _ _ _ c.in_ok-push.ensures.items c.in_ok-put_lexical.ensures.ok c.in_ok-push-2.ensures.items c.in_err-put_suffix.ensures.err.1)

pub returns-clause-ok : goal.returns-clause-ok
returns-clause-ok c = four _ _ _ _ _ _ _ _ _ c.in_ok-push.ensures.items c.in_ok-put_lexical.ensures.ok c.in_ok-push-2.ensures.items c.in_ok-put_suffix.ensures.ok
