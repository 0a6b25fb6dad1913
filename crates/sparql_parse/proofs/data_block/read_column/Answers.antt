use Rattle.std.proofs.Common.{[], ◌∷◌, refl, sym, ap, ◌∙◌}
use Rattle.std.proofs.lemmas.Result.{err_from_is_err_and}
use Rattle.sparql_lexer.specs.Terminal.{terminals}
use Rattle.sparql_tree.specs.GroupTree.{element_of, group_of}
use Rattle.sparql_tree.specs.GroupTree as g
use Rattle.sparql_grammar.specs.Symbol as the
use Rattle.sparql_expression.proofs.Steps.{begin, took, then_read, part_fails, enter, done, take_fails, here, left, took_branch, skipped, out_of_memory}
use Rattle.sparql_parse.proofs.TripleSteps.{shorter_twice}
use Rattle.sparql_parse.proofs.ValueSteps.{rows_of, one_row, column_at}
use Rattle.sparql_parse.proofs.ElementSteps.{values_seen}
use Rattle.sparql_parse.proofs.data_block.read_column.Goals as goal

pub returns-in_default-clause-reads : goal.returns-in_default-clause-reads
returns-in_default-clause-reads c = take_fails (begin c.args.names.now (the.column c.args.variable) (terminals c.args.tokens.now)) (c.in_default.ensures.accepts c.args.names.now)

pub cells-init : goal.cells-init
cells-init c = record {
  left = column_at (ap rows_of (sym c.new-rows.ensures.items)) (enter (took (begin c.args.names.now (the.column c.args.variable) (terminals c.args.tokens.now)) (c.in-Some.ensures.accepts c.args.names.now)));
  same = refl;
  shorter = c.in-Some.ensures.shorter;
}

pub returns-in-Some-accept-clause-reads : goal.returns-in-Some-accept-clause-reads
returns-in-Some-accept-clause-reads c = done (took_branch c.cells.invariant.left (left here) (c.in-Some-accept.ensures.accepts c.args.names.now)) (values_seen _ _ ∙ ap (λ vs. g.values vs (rows_of c.cells.rows.items)) (c.in_ok-variables.ensures.items ∙ ap (λ v. v ∷ []) c.cells.invariant.same))

pub returns-in_err-cell-clause-reads : goal.returns-in_err-cell-clause-reads
returns-in_err-cell-clause-reads c = (let p = err_from_is_err_and c.from_residual-in_err-cell.result c.from_residual-in_err-cell.ensures.1 in rw (p.1, p.2) (part_fails (skipped c.cells.invariant.left (c.in_default-accept.ensures.accepts c.args.names.now)) c.in_err-cell.ensures.reads))

pub cells-preserved : goal.cells-preserved
cells-preserved c = record {
  left = column_at (one_row c.cells.rows.items c.in_ok-vec.field-0 c.in_ok-push.ensures.items c.in_ok-vec.ensures.items) (enter (then_read (skipped c.cells.invariant.left (c.in_default-accept.ensures.accepts c.args.names.now)) c.in_ok-cell.ensures.reads));
  same = c.cells.invariant.same;
  shorter = shorter_twice c.in_ok-cell.ensures.shorter c.cells.invariant.shorter;
}

-- ---- the exits with an error

pub returns-in_err-cell-clause-shorter : goal.returns-in_err-cell-clause-shorter
returns-in_err-cell-clause-shorter c = rw (err_from_is_err_and c.from_residual-in_err-cell.result c.from_residual-in_err-cell.ensures.1).1 tt

pub returns-in_err-push-clause-reads : goal.returns-in_err-push-clause-reads
returns-in_err-push-clause-reads c = let p = err_from_is_err_and c.from_residual-in_err-push.result c.from_residual-in_err-push.ensures.1 in rw (p.1, p.2) out_of_memory

pub returns-in_err-push-clause-shorter : goal.returns-in_err-push-clause-shorter
returns-in_err-push-clause-shorter c = rw (err_from_is_err_and c.from_residual-in_err-push.result c.from_residual-in_err-push.ensures.1).1 tt

pub returns-in_err-variables-clause-reads : goal.returns-in_err-variables-clause-reads
returns-in_err-variables-clause-reads c = let p = err_from_is_err_and c.from_residual.result c.from_residual.ensures.1 in rw (p.1, p.2) out_of_memory

pub returns-in_err-variables-clause-shorter : goal.returns-in_err-variables-clause-shorter
returns-in_err-variables-clause-shorter c = rw (err_from_is_err_and c.from_residual.result c.from_residual.ensures.1).1 tt

pub returns-in_err-vec-clause-reads : goal.returns-in_err-vec-clause-reads
returns-in_err-vec-clause-reads c = let p = err_from_is_err_and c.from_residual-in_err-vec.result c.from_residual-in_err-vec.ensures.1 in rw (p.1, p.2) out_of_memory

pub returns-in_err-vec-clause-shorter : goal.returns-in_err-vec-clause-shorter
returns-in_err-vec-clause-shorter c = rw (err_from_is_err_and c.from_residual-in_err-vec.result c.from_residual-in_err-vec.ensures.1).1 tt
