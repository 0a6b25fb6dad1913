use Rattle.std.proofs.Common.{sym, ◌∙◌}
use Rattle.expression_errors.proofs.ClassLaws.{first_is_float, second_is_float}
use Rattle.expression_errors.proofs.cause.TermClass.is_error_with.Goals as goal

pub returns-then-is_float_and_literal-clause-error : goal.returns-then-is_float_and_literal-clause-error
returns-then-is_float_and_literal-clause-error c = λ a b one two apart yes.
    first_is_float c.args.self.kind c.args.other.kind a b one two (sym c.is_float_and_literal.ensures.value ∙ c.if-is_float_and_literal.true) apart

pub returns-else-is_float_and_literal-clause-error : goal.returns-else-is_float_and_literal-clause-error
returns-else-is_float_and_literal-clause-error c = λ a b one two apart yes.
    second_is_float c.args.self.kind c.args.other.kind a b one two (sym c.is_float_and_literal-else-is_float_and_literal.ensures.value ∙ yes) apart
