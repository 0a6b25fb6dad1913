use Rattle.std.proofs.Common.{refl, sym, ap, ◌∙◌}
use Rattle.std.proofs.lemmas.Result.{err_from_is_err_and}
use Rattle.sparql_lexer.specs.Terminal.{terminals}
use Rattle.sparql_tree.specs.GroupTree.{element_of}
use Rattle.sparql_grammar.specs.Values.{is_distinct}
use Rattle.sparql_grammar.specs.Class.{variable}
use Rattle.sparql_grammar.specs.Symbol as the
use Rattle.sparql_expression.specs.ParseResult.{seen}
use Rattle.sparql_expression.proofs.Steps.{begin, then_read, part_fails, where_true, where_false, here, left, took_branch, skipped, out_of_memory}
use Rattle.sparql_parse.proofs.FrontSteps.{some_taken, none_untaken}
use Rattle.sparql_parse.proofs.TripleSteps.{tail}
use Rattle.sparql_parse.proofs.data_block.read_data_block.Goals as goal

pub returns-in-Some-clause-reads : goal.returns-in-Some-clause-reads
returns-in-Some-clause-reads c = tail (took_branch (begin c.args.names.now (the.data_block) (terminals c.args.tokens.now)) (left here) (some_taken {c = variable} (c.in_ok-variable.ensures.accepts c.args.names.now) c.in-Some.is)) (λ a. a) (λ v rest. refl) (λ e. refl) (seen element_of c.read_column.result) c.read_column.ensures.reads

pub returns-in_err-heading-clause-reads : goal.returns-in_err-heading-clause-reads
returns-in_err-heading-clause-reads c = (let p = err_from_is_err_and c.from_residual-in_err-heading.result c.from_residual-in_err-heading.ensures.1 in rw (p.1, p.2) (part_fails (skipped (begin c.args.names.now (the.data_block) (terminals c.args.tokens.now)) (none_untaken {c = variable} (c.in_ok-variable.ensures.accepts c.args.names.now) c.in_default.is)) (c.in_err-heading.ensures.reads c.args.names.now)))

pub returns-then-not-branch-clause-reads : goal.returns-then-not-branch-clause-reads
returns-then-not-branch-clause-reads c = where_false (then_read (skipped (begin c.args.names.now the.data_block (terminals c.args.tokens.now)) (none_untaken {c = variable} (c.in_ok-variable.ensures.accepts c.args.names.now) c.in_default.is)) (c.in_ok-heading.ensures.reads c.args.names.now)) (ap is_distinct (sym c.deref.ensures.value) ∙ (sym c.in_ok-is_distinct.ensures.value ∙ c.if-not-branch.true))

pub returns-clause-reads : goal.returns-clause-reads
returns-clause-reads c = tail (where_true (then_read (skipped (begin c.args.names.now the.data_block (terminals c.args.tokens.now)) (none_untaken {c = variable} (c.in_ok-variable.ensures.accepts c.args.names.now) c.in_default.is)) (c.in_ok-heading.ensures.reads c.args.names.now)) (ap is_distinct (sym c.deref.ensures.value) ∙ (sym c.in_ok-is_distinct.ensures.value ∙ c.if-not-branch.false))) (λ a. a) (λ v rest. refl) (λ e. refl) (seen element_of c.read_rows.result) c.read_rows.ensures.reads

-- ---- the exits with an error

pub returns-in_err-heading-clause-shorter : goal.returns-in_err-heading-clause-shorter
returns-in_err-heading-clause-shorter c = rw (err_from_is_err_and c.from_residual-in_err-heading.result c.from_residual-in_err-heading.ensures.1).1 tt

pub returns-in_err-is_distinct-clause-reads : goal.returns-in_err-is_distinct-clause-reads
returns-in_err-is_distinct-clause-reads c = let p = err_from_is_err_and c.from_residual-in_err-is_distinct.result c.from_residual-in_err-is_distinct.ensures.1 in rw (p.1, p.2) out_of_memory

pub returns-in_err-is_distinct-clause-shorter : goal.returns-in_err-is_distinct-clause-shorter
returns-in_err-is_distinct-clause-shorter c = rw (err_from_is_err_and c.from_residual-in_err-is_distinct.result c.from_residual-in_err-is_distinct.ensures.1).1 tt

pub returns-in_err-variable-clause-reads : goal.returns-in_err-variable-clause-reads
returns-in_err-variable-clause-reads c = let p = err_from_is_err_and c.from_residual.result c.from_residual.ensures.1 in rw (p.1, p.2) out_of_memory

pub returns-in_err-variable-clause-shorter : goal.returns-in_err-variable-clause-shorter
returns-in_err-variable-clause-shorter c = rw (err_from_is_err_and c.from_residual.result c.from_residual.ensures.1).1 tt
