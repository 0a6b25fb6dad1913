use Rattle.std.proofs.Common.{◌++◌, ◌∙◌, ap, sym}
use Rattle.result_json.specs.Results.{string_text}
use Rattle.result_merge.specs.Absent.{IsNoString}
use Rattle.result_merge.proofs.FaultSteps.{on_error}
use Rattle.result_merge.proofs.StringSteps.{not_printed}
use Rattle.result_merge.proofs.strings.read_escaped.Goals as goal

pub returns-in_err-rest-clause-damaged : goal.returns-in_err-rest-clause-damaged
returns-in_err-rest-clause-damaged c =
    on_error c.from_residual-in_err-rest.result (IsNoString c.args.bytes.now)
    (not_printed c.args.bytes.now c.in_ok-opened.opened.now c.in_ok-text.text c.in_ok-printed.printed.items c.in_ok-opened.ensures.parts
    (λ s a e. c.in_ok-text.ensures.text ∙ c.deref.ensures.value ∙ c.in_ok-decoded.ensures.text s a e)
    (c.in_ok-printed.ensures.text ∙ ap string_text c.as_str.ensures.value)
    (λ rest e. c.in_err-rest.ensures.parts rest (e ∙ ap (λ p. p ++ rest) (sym c.deref-2.ensures.value))))
