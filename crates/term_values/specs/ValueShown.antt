-- The value of a literal that a value of the program holds.
use Rattle.algebra_model.specs.LiteralValue as model
use Rattle.algebra_model.specs.LiteralValue.{number, boolean, string, other}
use Rattle.term_values.specs.NumberShown.{number_shown}
use Rattle.term_values.specs.declared.literal.LiteralValue.{LiteralValue}
use Rattle.term_values.specs.declared.literal.LiteralValue.TheVariants.{Number, Boolean, String, Other}

-- a value of the same kind
abbrev pub value_shown : LiteralValue → model.LiteralValue
value_shown (Number d) = number (number_shown d)
value_shown (Boolean b) = boolean b
value_shown (String form) = string form.now
value_shown Other = other
