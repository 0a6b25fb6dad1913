use Rattle.std.proofs.Common.{◌≡◌, length}
use Rattle.sparql_lexer.specs.Words.{has_letters}
use Rattle.sparql_lexer.proofs.words.has_letters.Given as goal

abbrev pub invariant-letters : goal.invariant-letters
invariant-letters l = has_letters l.letters l.expected ≡ has_letters l.word l.capitals

abbrev pub decreases-letters : goal.decreases-letters
decreases-letters l = length l.letters
