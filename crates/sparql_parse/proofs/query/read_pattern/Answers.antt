use Rattle.std.proofs.Common.{refl}
use Rattle.sparql_lexer.specs.Terminal.{terminals}
use Rattle.sparql_tree.specs.QueryTree.{selection_of}
use Rattle.sparql_grammar.specs.Symbol as the
use Rattle.sparql_expression.specs.ParseResult.{seen}
use Rattle.sparql_expression.proofs.Steps.{begin, here, left, took_branch, skipped}
use Rattle.sparql_parse.proofs.TripleSteps.{tail}
use Rattle.sparql_parse.specs.Queries.{select_of}
use Rattle.sparql_parse.proofs.query.read_pattern.Goals as goal

pub returns-in_default : goal.returns-in_default
returns-in_default c = record { reads = tail (skipped (begin c.args.names.now (the.pattern c.args.distinct (selection_of c.args.selection)) (terminals c.args.tokens.now)) (c.in_default.ensures.accepts c.args.names.now)) (λ a. a) (λ v rest. refl) (λ e. refl) (seen select_of c.read_pattern_group.result) c.read_pattern_group.ensures.reads }

pub returns : goal.returns
returns c = record { reads = tail (took_branch (begin c.args.names.now (the.pattern c.args.distinct (selection_of c.args.selection)) (terminals c.args.tokens.now)) (left here) (c.in-Some.ensures.accepts c.args.names.now)) (λ a. a) (λ v rest. refl) (λ e. refl) (seen select_of c.read_pattern_group-2.result) c.read_pattern_group-2.ensures.reads }
