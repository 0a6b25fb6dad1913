use Rattle.std.proofs.Common.{◌++◌, ◌∙◌, sym}
use Rattle.std.proofs.lemmas.List.{take-append-drop}
use Rattle.result_merge.specs.Absent.{IsNoString}
use Rattle.result_merge.proofs.FaultSteps.{on_error, on_fault}
use Rattle.result_merge.proofs.ReadSteps.{plain_read}
use Rattle.result_merge.proofs.StringSteps.{no_closing, no_plain_utf8}
use Rattle.result_merge.proofs.strings.read_plain.Goals as goal

pub returns-clause-parts : goal.returns-clause-parts
returns-clause-parts c =
    plain_read c.args.bytes.now c.in_ok-opened.opened.now c.split_at.result.0.now c.split_at.result.1.now c.in_ok-rest.rest.now c.in_ok-text.text c.in_ok-opened.ensures.parts
    (sym ((λ i. c.split_at.ensures.front i ++ c.split_at.ensures.back i) ∙ take-append-drop _ c.in_ok-opened.opened.now))
    c.in_ok-rest.ensures.parts c.in_ok-text.ensures.text (sym c.if-not-is_plain_text.ensures.value)

pub returns-in_err-text-clause-damaged : goal.returns-in_err-text-clause-damaged
returns-in_err-text-clause-damaged c =
    on_fault c.from_residual-in_err-text.result c.in_err-text.field-0.0 (IsNoString c.args.bytes.now) c.from_residual-in_err-text.ensures.1
    (λ damaged. no_plain_utf8 c.args.bytes.now c.in_ok-opened.opened.now c.split_at.result.0.now c.split_at.result.1.now c.in_ok-rest.rest.now c.in_ok-opened.ensures.parts
    (sym ((λ i. c.split_at.ensures.front i ++ c.split_at.ensures.back i) ∙ take-append-drop _ c.in_ok-opened.opened.now))
    c.in_ok-rest.ensures.parts (sym c.if-not-is_plain_text.ensures.value) (c.in_err-text.ensures.damaged damaged))

pub returns-in_err-rest-clause-damaged : goal.returns-in_err-rest-clause-damaged
returns-in_err-rest-clause-damaged c =
    on_error c.from_residual-in_err-rest.result (IsNoString c.args.bytes.now)
    (no_closing c.args.bytes.now c.in_ok-opened.opened.now c.split_at.result.0.now c.split_at.result.1.now c.quote_at.result c.in_ok-opened.ensures.parts
    c.split_at.ensures.front c.split_at.ensures.back c.quote_at.ensures.quote (sym c.if-not-is_plain_text.ensures.value) c.in_err-rest.ensures.parts)
