use Rattle.std.proofs.Common.{map, take}
use Rattle.needed_quads.specs.Building.{AreForms}
use Rattle.needed_quads.proofs.restricted.forms_of.Given as goal

abbrev pub invariant-loop-row : goal.invariant-loop-row
invariant-loop-row l = AreForms (map (λ row. row.items) (take l.row-index l.rows)) l.forms.items
