use Rattle.std.proofs.Common.{refl, sym, ap, ◌∙◌}
use Rattle.std.proofs.lemmas.Result.{err_from_is_err_and}
use Rattle.sparql_lexer.specs.Terminal.{terminals}
use Rattle.sparql_grammar.specs.Symbol as the
use Rattle.sparql_expression.proofs.Steps.{begin, took, then_read, part_fails, enter, done, take_fails, where_true, where_false, here, left, took_branch, skipped, out_of_memory}
use Rattle.sparql_parse.proofs.TripleSteps.{shorter_twice}
use Rattle.sparql_parse.proofs.ValueSteps.{rows_of, one_row, other_length, same_length, rows_at}
use Rattle.sparql_parse.proofs.ElementSteps.{values_seen}
use Rattle.sparql_parse.proofs.data_block.read_rows.Goals as goal

pub returns-in_default-clause-reads : goal.returns-in_default-clause-reads
returns-in_default-clause-reads c = take_fails (begin c.args.names.now (the.rows c.args.heading.items) (terminals c.args.tokens.now)) (c.in_default.ensures.accepts c.args.names.now)

pub rows-init : goal.rows-init
rows-init c = record {
  left = rows_at (ap rows_of (sym c.new-rows.ensures.items)) (enter (took (begin c.args.names.now (the.rows c.args.heading.items) (terminals c.args.tokens.now)) (c.in-Some.ensures.accepts c.args.names.now)));
  shorter = c.in-Some.ensures.shorter;
}

pub returns-in-Some-accept-clause-reads : goal.returns-in-Some-accept-clause-reads
returns-in-Some-accept-clause-reads c = done (took_branch c.rows.invariant.left (left here) (c.in-Some-accept.ensures.accepts c.args.names.now)) (values_seen _ _)

pub returns-then-len-clause-reads : goal.returns-then-len-clause-reads
returns-then-len-clause-reads c = where_false (then_read (skipped c.rows.invariant.left (c.in_default-accept.ensures.accepts c.args.names.now)) c.in_ok-row.ensures.reads) (other_length (λ h. c.if-len.true (c.len.ensures ∙ c.in_ok-row.row.ok.0 ∙ h ∙ sym (c.len-in-rows.ensures ∙ c.args.heading.ok.0))))

pub rows-preserved : goal.rows-preserved
rows-preserved c = record {
  left = rows_at (one_row c.rows.rows.items c.in_ok-row.row c.in_ok-push.ensures.items refl) (enter (where_true (then_read (skipped c.rows.invariant.left (c.in_default-accept.ensures.accepts c.args.names.now)) c.in_ok-row.ensures.reads) (same_length (sym c.in_ok-row.row.ok.0 ∙ sym c.len.ensures ∙ c.if-len.false ∙ c.len-in-rows.ensures ∙ c.args.heading.ok.0))));
  shorter = shorter_twice c.in_ok-row.ensures.shorter c.rows.invariant.shorter;
}

pub returns-in_err-row-clause-reads : goal.returns-in_err-row-clause-reads
returns-in_err-row-clause-reads c = (let p = err_from_is_err_and c.from_residual.result c.from_residual.ensures.1 in rw (p.1, p.2) (part_fails (skipped c.rows.invariant.left (c.in_default-accept.ensures.accepts c.args.names.now)) c.in_err-row.ensures.reads))

-- ---- the exits with an error

pub returns-in_err-push-clause-reads : goal.returns-in_err-push-clause-reads
returns-in_err-push-clause-reads c = let p = err_from_is_err_and c.from_residual-in_err-push.result c.from_residual-in_err-push.ensures.1 in rw (p.1, p.2) out_of_memory

pub returns-in_err-push-clause-shorter : goal.returns-in_err-push-clause-shorter
returns-in_err-push-clause-shorter c = rw (err_from_is_err_and c.from_residual-in_err-push.result c.from_residual-in_err-push.ensures.1).1 tt

pub returns-in_err-row-clause-shorter : goal.returns-in_err-row-clause-shorter
returns-in_err-row-clause-shorter c = rw (err_from_is_err_and c.from_residual.result c.from_residual.ensures.1).1 tt
