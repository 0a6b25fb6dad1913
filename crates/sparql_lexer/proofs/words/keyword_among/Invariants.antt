use Rattle.std.proofs.Common.{◌≡◌, length}
use Rattle.sparql_lexer.specs.Words.{keyword_among}
use Rattle.sparql_lexer.proofs.words.keyword_among.Given as goal

abbrev pub invariant-keywords : goal.invariant-keywords
invariant-keywords l = keyword_among l.rest l.word ≡ keyword_among l.keywords l.word

abbrev pub decreases-keywords : goal.decreases-keywords
decreases-keywords l = length l.rest
