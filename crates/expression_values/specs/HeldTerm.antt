-- The term that an intermediate value represents, and whether it is held as a term.
use Rattle.std.specs.Prelude.{Bool, true, false}
use Rattle.rdf_core.specs.declared.term.Term.{Term}
use Rattle.term_values.specs.declared.valued.Valued.{Valued}
use Rattle.algebra_model.specs.Call.{boolean_term}
use Rattle.expression_values.specs.declared.held.Held as held
use Rattle.expression_values.specs.declared.held.Held.TheVariants.{Borrowed, Owned}
use Rattle.expression_values.specs.declared.held.Value as value
use Rattle.expression_values.specs.declared.held.Value.TheVariants.{Held, Truth}

abbrev pub held_term : held.Held → Term
held_term (Borrowed term) = term.now
held_term (Owned term) = term

abbrev pub value_term : value.Value → Term
value_term (Held held) = held_term held
value_term (Truth b) = boolean_term b

abbrev pub is_held : value.Value → Bool
is_held (Held held) = true
is_held (Truth b) = false

-- a term whose value is known
abbrev pub valued_term : Valued → Term
valued_term v = v.term.now
