-- The equality and the order that `Term` derives: the functions that `==` and `cmp` compute. The
-- laws `equality_is_identity` and `order_is_by_parts` state what they are.
use Rattle.std.specs.Prelude.{Bool}
use Rattle.std.specs.declared.cmp.Ordering.{Ordering}
use Rattle.rdf_core.specs.declared.term.Term.{Term}
use Rattle.rdf_core.specs.contracts.term.TermOrd.TheImpl as orders
use Rattle.rdf_core.specs.contracts.term.TermPartialEq.TheImpl as equalities

-- what `==` on terms computes
abbrev pub term_eq : Term → Term → Bool
term_eq = (equalities.ghosts).eq

-- what `cmp` on terms computes
abbrev pub derived_cmp : Term → Term → Ordering
derived_cmp = (orders.ghosts).cmp
