use Rattle.std.proofs.Common.{refl}
use Rattle.sparql_lexer.specs.Terminal.{terminals}
use Rattle.sparql_tree.specs.ExpressionTree.{expression_of}
use Rattle.sparql_grammar.specs.Symbol as the
use Rattle.sparql_expression.specs.ParseResult.{seen}
use Rattle.sparql_expression.proofs.Steps.{begin, here, left, branch, passed_by, untaken_heads, taken_heads}
use Rattle.sparql_parse.proofs.TripleSteps.{tail}
use Rattle.sparql_parse.proofs.group.read_condition.Goals as goal

pub returns-in-Some-clause-reads : goal.returns-in-Some-clause-reads
returns-in-Some-clause-reads c = tail (branch (begin c.args.names.now (the.condition) (terminals c.args.tokens.now)) (left here) (taken_heads (c.in-Some.ensures.accepts c.args.names.now))) (λ a. a) (λ v rest. refl) (λ e. refl) (seen expression_of c.read_bracket.result) c.read_bracket.ensures.reads

pub returns-clause-reads : goal.returns-clause-reads
returns-clause-reads c = tail (passed_by (begin c.args.names.now (the.condition) (terminals c.args.tokens.now)) refl (untaken_heads (c.in_default.ensures.accepts c.args.names.now))) (λ a. a) (λ v rest. refl) (λ e. refl) (seen expression_of c.read_call.result) c.read_call.ensures.reads
