use Rattle.std.proofs.Common.{length}
use Rattle.std.specs.Prelude.{string_bytes}
use Rattle.std.specs.Str.{chars}
use Rattle.rdf_core.proofs.EnclosedSteps.{HasRead}
use Rattle.rdf_core.proofs.lexical.enclosed.read_parts.Given as goal

abbrev pub invariant-loop-c : goal.invariant-loop-c
invariant-loop-c l = HasRead l.kind l.close (string_bytes l.value) l.rest l.text

abbrev pub decreases-loop-c : goal.decreases-loop-c
decreases-loop-c l = length (chars l.rest)
