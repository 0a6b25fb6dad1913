use Rattle.std.proofs.Common.{◌∙◌, sym}
use Rattle.sparql_lexer.proofs.PatternLaws.{shorter}
use Rattle.sparql_lexer.proofs.RowLaws.{word_keyword, word_other, word_none}
use Rattle.sparql_lexer.proofs.words.scan_word.Goals as goal

pub returns-in_err-rest : goal.returns-in_err-rest
returns-in_err-rest c = rw c.from_residual.ensures (word_none c.args.text.now c.in_err-rest.ensures)

pub slice_bounds-word-count : goal.slice_bounds-word-count
slice_bounds-word-count c = shorter c.in_ok-rest.ensures.matches

pub returns-in-Some : goal.returns-in-Some
returns-in-Some c = word_keyword c.args.text.now c.in_ok-rest.rest.now c.in-Some.keyword c.in_ok-rest.ensures (sym c.keyword.ensures ∙ c.in-Some.is)

pub returns-in-None : goal.returns-in-None
returns-in-None c = word_other c.args.text.now c.in_ok-rest.rest.now c.in_ok-rest.ensures (sym c.keyword.ensures ∙ c.in-None.is)
