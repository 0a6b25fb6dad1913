-- Which counts have a note (a choice of this project).
use Rattle.std.specs.Prelude.{Bool, not, ◌||◌}
use Rattle.expression_errors.specs.Causes.{is_common}
use Rattle.expression_errors.specs.declared.counts.Tally.{Tally}

-- A count is worth a note, unless queries meet its cause on purpose and some row has a value.
abbrev pub speaks : Tally → Bool
speaks tally = not (is_common tally.cause) || tally.is_everywhere
