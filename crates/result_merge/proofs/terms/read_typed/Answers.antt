use Rattle.std.proofs.Common.{◌∙◌, ◌++◌, ap, codes, refl, sym}
use Rattle.std.specs.Str.{bytes_eq}
use Rattle.rdf_core.specs.Vocabulary.{xsd_string}
use Rattle.result_merge.specs.Absent.{IsNoTyped}
use Rattle.result_merge.proofs.FaultSteps.{on_fault}
use Rattle.result_merge.proofs.ReadSteps.{typed_read}
use Rattle.result_merge.proofs.TermSteps.{no_datatype, no_typed, not_typed}
use Rattle.result_merge.proofs.terms.read_typed.Goals as goal

pub returns : goal.returns
returns c = record {
  parts = typed_read c.args.bytes.now c.in_ok-datatype.datatype c.in_ok-lexical.lexical c.in_ok-datatype.rest.now (codes "}" ++ c.in_ok-lexical.end.now) c.in_ok-lexical.end.now
      c.in_ok-datatype.ensures.parts c.in_ok-lexical.ensures.parts refl
      (ap (λ d. bytes_eq d xsd_string) (sym c.as_str.ensures.value) ∙ sym c.eq.ensures ∙ c.if-eq.false);
  tagged = tt;
  damaged = tt;
}

pub returns-in_err-datatype-clause-damaged : goal.returns-in_err-datatype-clause-damaged
returns-in_err-datatype-clause-damaged c =
    on_fault c.from_residual.result c.in_err-datatype.field-0.0 (IsNoTyped c.args.bytes.now) c.from_residual.ensures.1
    (λ damaged. no_datatype c.args.bytes.now (c.in_err-datatype.ensures.damaged damaged))

pub returns-in_err-lexical-clause-damaged : goal.returns-in_err-lexical-clause-damaged
returns-in_err-lexical-clause-damaged c =
    on_fault c.from_residual-in_err-lexical.result c.in_err-lexical.field-0.0 (IsNoTyped c.args.bytes.now) c.from_residual-in_err-lexical.ensures.1
    (λ damaged. no_typed c.args.bytes.now c.in_ok-datatype.datatype c.in_ok-datatype.rest.now c.in_ok-datatype.ensures.parts (c.in_err-lexical.ensures.damaged damaged))

pub returns-then-eq-clause-damaged : goal.returns-then-eq-clause-damaged
returns-then-eq-clause-damaged c = λ damaged.
    not_typed c.args.bytes.now c.in_ok-datatype.datatype c.in_ok-datatype.rest.now c.in_ok-datatype.ensures.parts
    (ap (λ d. bytes_eq d xsd_string) (sym c.as_str.ensures.value) ∙ sym c.eq.ensures ∙ c.if-eq.true)
