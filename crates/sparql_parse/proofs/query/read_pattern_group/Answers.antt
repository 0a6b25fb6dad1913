use Rattle.std.proofs.Common.{refl}
use Rattle.std.proofs.lemmas.Result.{err_from_is_err_and}
use Rattle.sparql_lexer.specs.Terminal.{terminals}
use Rattle.sparql_tree.specs.QueryTree.{selection_of}
use Rattle.sparql_grammar.specs.Symbol as the
use Rattle.sparql_expression.proofs.Steps.{begin, then_read, part_fails, last_reads, last_fails}
use Rattle.sparql_parse.proofs.query.read_pattern_group.Goals as goal

pub returns-in_err-group : goal.returns-in_err-group
returns-in_err-group c = (let p = err_from_is_err_and c.from_residual.result c.from_residual.ensures.1 in rw (p.1, p.2) record { reads = part_fails (begin c.args.names.now (the.pattern_group c.args.distinct (selection_of c.args.selection)) (terminals c.args.tokens.now)) c.in_err-group.ensures.reads })

pub returns-in_err-limit : goal.returns-in_err-limit
returns-in_err-limit c = (let p = err_from_is_err_and c.from_residual-in_err-limit.result c.from_residual-in_err-limit.ensures.1 in rw (p.1, p.2) record { reads = last_fails (then_read (begin c.args.names.now (the.pattern_group c.args.distinct (selection_of c.args.selection)) (terminals c.args.tokens.now)) c.in_ok-group.ensures.reads) (c.in_err-limit.ensures.reads c.args.names.now) })

pub returns : goal.returns
returns c = record { reads = last_reads (then_read (begin c.args.names.now (the.pattern_group c.args.distinct (selection_of c.args.selection)) (terminals c.args.tokens.now)) c.in_ok-group.ensures.reads) (c.in_ok-limit.ensures.reads c.args.names.now) refl }
