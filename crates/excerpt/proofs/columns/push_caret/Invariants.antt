use Rattle.std.proofs.Common.{◌≡◌, ◌++◌}
use Rattle.std.specs.Prelude.{string_bytes, replicate}
use Rattle.excerpt.proofs.columns.push_caret.Given as goal

abbrev pub invariant-spaces : goal.invariant-spaces
invariant-spaces l = string_bytes l.out ≡ string_bytes l.initial.out ++ replicate l.counter 32
