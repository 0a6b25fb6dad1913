-- The counts of an evaluation's errors.
use Rattle.std.specs.Prelude.{Bool, is_some}
use Rattle.expression_errors.specs.declared.counts.Place.{Place}

-- whether errors are counted at a place
abbrev pub is_counted : Place → Bool
is_counted place = is_some place.counter
