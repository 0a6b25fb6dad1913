use Rattle.std.proofs.Common.{All}
use Rattle.query_notes.specs.Keys.{IsKeyOf}
use Rattle.query_notes.proofs.expressions.keys_of.Given as goal

abbrev pub invariant-loop-number : goal.invariant-loop-number
invariant-loop-number l = All (IsKeyOf l.outline.sites.items) l.keys.items
