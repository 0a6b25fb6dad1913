use Rattle.std.proofs.Common.{refl, sym, ap, ◌∙◌}
use Rattle.std.proofs.lemmas.Result.{IfOk-weaker, err_from_is_err_and}
use Rattle.sparql_lexer.specs.Terminal.{terminals}
use Rattle.sparql_tree.specs.GroupTree.{element_of, group_of}
use Rattle.sparql_tree.specs.GroupTree as g
use Rattle.sparql_grammar.specs.Symbol as the
use Rattle.sparql_expression.specs.ParseResult.{seen}
use Rattle.sparql_expression.proofs.Steps.{begin, took, then_read, part_fails, enter, last_reads, last_fails, done, take_fails, here, left, right, branch, took_branch, skipped, passed_by, untaken_heads, taken_heads, out_of_memory}
use Rattle.sparql_parse.proofs.TripleSteps.{tail, whole, shorter_twice, shorter_thrice, up_to, up_twice}
use Rattle.sparql_parse.proofs.ValueSteps.{body_at, union_at}
use Rattle.sparql_parse.proofs.ElementSteps.{group_seen, union_seen, optional_seen, minus_seen, graph_seen}
use Rattle.sparql_parse.proofs.GroupSteps.{group-push, after_run, after_dot}
use Rattle.sparql_parse.proofs.group.+group.Goals as goal

pub read_group-returns-in_default-clause-reads : goal.read_group-returns-in_default-clause-reads
read_group-returns-in_default-clause-reads t c = take_fails (begin c.args.names.now (the.group) (terminals c.args.tokens.now)) (c.in_default.ensures.accepts c.args.names.now)

pub read_group-returns-in_err-rest-clause-reads : goal.read_group-returns-in_err-rest-clause-reads
read_group-returns-in_err-rest-clause-reads t c = (let p = err_from_is_err_and c.from_residual.result c.from_residual.ensures.1 in rw (p.1, p.2) (whole (body_at (ap group_of (sym c.new-elements.ensures.items)) (enter (took (begin c.args.names.now (the.group) (terminals c.args.tokens.now)) (c.in-Some.ensures.accepts c.args.names.now)))) c.in_err-rest.ensures.reads))

pub read_group-elements-init : goal.read_group-elements-init
read_group-elements-init t c = record {
  left = after_run (body_at (ap group_of (sym c.new-elements.ensures.items)) (enter (took (begin c.args.names.now (the.group) (terminals c.args.tokens.now)) (c.in-Some.ensures.accepts c.args.names.now)))) c.in_ok-rest.ensures.reads;
  shorter = up_to c.in_ok-rest.ensures.shorter c.in-Some.ensures.shorter;
}

pub read_group-returns-in-Some-accept-clause-reads : goal.read_group-returns-in-Some-accept-clause-reads
read_group-returns-in-Some-accept-clause-reads t c = done (took_branch c.elements.invariant.left (left here) (c.in-Some-accept.ensures.accepts c.args.names.now)) refl

pub read_group-returns-in_err-element-clause-reads : goal.read_group-returns-in_err-element-clause-reads
read_group-returns-in_err-element-clause-reads t c = (let p = err_from_is_err_and c.from_residual-in_err-element.result c.from_residual-in_err-element.ensures.1 in rw (p.1, p.2) (part_fails (skipped c.elements.invariant.left (c.in_default-accept.ensures.accepts c.args.names.now)) c.in_err-element.ensures.reads))

pub read_group-returns-in_err-rest-2-clause-reads : goal.read_group-returns-in_err-rest-2-clause-reads
read_group-returns-in_err-rest-2-clause-reads t c = (let p = err_from_is_err_and c.from_residual-in_err-rest-2.result c.from_residual-in_err-rest-2.ensures.1 in rw (p.1, p.2) (whole (body_at (sym (ap group_of c.in_ok-push.ensures.items ∙ group-push c.elements.elements.items c.in_ok-element.element)) (after_dot (enter (then_read (skipped c.elements.invariant.left (c.in_default-accept.ensures.accepts c.args.names.now)) c.in_ok-element.ensures.reads)) c.skip_dot.ensures.reads)) c.in_err-rest-2.ensures.reads))

pub read_group-elements-preserved : goal.read_group-elements-preserved
read_group-elements-preserved t c = record {
  left = after_run (body_at (sym (ap group_of c.in_ok-push.ensures.items ∙ group-push c.elements.elements.items c.in_ok-element.element)) (after_dot (enter (then_read (skipped c.elements.invariant.left (c.in_default-accept.ensures.accepts c.args.names.now)) c.in_ok-element.ensures.reads)) c.skip_dot.ensures.reads)) c.in_ok-rest-2.ensures.reads;
  shorter = up_twice c.in_ok-rest-2.ensures.shorter c.skip_dot.ensures.shorter c.in_ok-element.ensures.shorter c.elements.invariant.shorter;
}

pub read_other-returns-in_err-inner-clause-reads : goal.read_other-returns-in_err-inner-clause-reads
read_other-returns-in_err-inner-clause-reads t c = (let p = err_from_is_err_and c.from_residual.result c.from_residual.ensures.1 in rw (p.1, p.2) (last_fails (took_branch (begin c.args.names.now (the.other) (terminals c.args.tokens.now)) (right (left here)) (c.in-Some.ensures.accepts c.args.names.now)) c.in_err-inner.ensures.reads))

pub read_other-returns-in-Some-clause-reads : goal.read_other-returns-in-Some-clause-reads
read_other-returns-in-Some-clause-reads t c = last_reads (took_branch (begin c.args.names.now (the.other) (terminals c.args.tokens.now)) (right (left here)) (c.in-Some.ensures.accepts c.args.names.now)) c.in_ok-inner.ensures.reads (optional_seen _)

pub read_other-returns-in_err-inner-2-clause-reads : goal.read_other-returns-in_err-inner-2-clause-reads
read_other-returns-in_err-inner-2-clause-reads t c = (let p = err_from_is_err_and c.from_residual-in_err-inner-2.result c.from_residual-in_err-inner-2.ensures.1 in rw (p.1, p.2) (last_fails (took_branch (begin c.args.names.now (the.other) (terminals c.args.tokens.now)) (right (right (left here))) (c.in-Some-accept_word.ensures.accepts c.args.names.now)) c.in_err-inner-2.ensures.reads))

pub read_other-returns-in-Some-accept_word-clause-reads : goal.read_other-returns-in-Some-accept_word-clause-reads
read_other-returns-in-Some-accept_word-clause-reads t c = last_reads (took_branch (begin c.args.names.now (the.other) (terminals c.args.tokens.now)) (right (right (left here))) (c.in-Some-accept_word.ensures.accepts c.args.names.now)) c.in_ok-inner-2.ensures.reads (minus_seen _)

pub read_other-returns-in-Some-accept_word-2-clause-reads : goal.read_other-returns-in-Some-accept_word-2-clause-reads
read_other-returns-in-Some-accept_word-2-clause-reads t c = tail (took_branch (begin c.args.names.now (the.other) (terminals c.args.tokens.now)) (right (right (right (left here)))) (c.in-Some-accept_word-2.ensures.accepts c.args.names.now)) (λ a. a) (λ v rest. refl) (λ e. refl) (seen element_of c.read_named_graph.result) c.read_named_graph.ensures.reads

pub read_other-returns-in-Some-accept-clause-reads : goal.read_other-returns-in-Some-accept-clause-reads
read_other-returns-in-Some-accept-clause-reads t c = tail (branch (begin c.args.names.now (the.other) (terminals c.args.tokens.now)) (left here) (taken_heads (c.in-Some-accept.ensures.accepts c.args.names.now))) (λ a. a) (λ v rest. refl) (λ e. refl) (seen element_of c.read_unions.result) c.read_unions.ensures.reads

pub read_other-returns-clause-reads : goal.read_other-returns-clause-reads
read_other-returns-clause-reads t c = tail (skipped (skipped (skipped (passed_by (begin c.args.names.now (the.other) (terminals c.args.tokens.now)) refl (untaken_heads (c.in_default-accept.ensures.accepts c.args.names.now))) (c.in_default.ensures.accepts c.args.names.now)) (c.in_default-accept_word.ensures.accepts c.args.names.now)) (c.in_default-accept_word-2.ensures.accepts c.args.names.now)) (λ a. a) (λ v rest. refl) (λ e. refl) (seen element_of c.read_simple.result) c.read_simple.ensures.reads

pub read_unions-returns-in_err-first-clause-reads : goal.read_unions-returns-in_err-first-clause-reads
read_unions-returns-in_err-first-clause-reads t c = (let p = err_from_is_err_and c.from_residual.result c.from_residual.ensures.1 in rw (p.1, p.2) (part_fails (begin c.args.names.now (the.unions) (terminals c.args.tokens.now)) c.in_err-first.ensures.reads))

pub read_unions-groups-init : goal.read_unions-groups-init
read_unions-groups-init t c = record {
  left = union_at (sym (group_seen c.in_ok-first.first)) (enter (then_read (begin c.args.names.now (the.unions) (terminals c.args.tokens.now)) c.in_ok-first.ensures.reads));
  shorter = c.in_ok-first.ensures.shorter;
}

pub read_unions-returns-in_err-right-clause-reads : goal.read_unions-returns-in_err-right-clause-reads
read_unions-returns-in_err-right-clause-reads t c = (let p = err_from_is_err_and c.from_residual-in_err-right.result c.from_residual-in_err-right.ensures.1 in rw (p.1, p.2) (part_fails (took_branch c.groups.invariant.left (left here) (c.in-Some.ensures.accepts c.args.names.now)) c.in_err-right.ensures.reads))

pub read_unions-groups-preserved : goal.read_unions-groups-preserved
read_unions-groups-preserved t c = record {
  left = union_at (sym (union_seen _ _ ∙ ap (λ e. g.union (element_of e) (group_of c.in_ok-right.right.items)) c.in_ok-new.ensures.ok)) (enter (then_read (took_branch c.groups.invariant.left (left here) (c.in-Some.ensures.accepts c.args.names.now)) c.in_ok-right.ensures.reads));
  shorter = shorter_thrice c.in_ok-right.ensures.shorter c.in-Some.ensures.shorter c.groups.invariant.shorter;
}

pub read_unions-returns-clause-reads : goal.read_unions-returns-clause-reads
read_unions-returns-clause-reads t c = done (skipped c.groups.invariant.left (c.in_default.ensures.accepts c.args.names.now)) refl

pub read_named_graph-returns-in_err-name-clause-reads : goal.read_named_graph-returns-in_err-name-clause-reads
read_named_graph-returns-in_err-name-clause-reads t c = (let p = err_from_is_err_and c.from_residual.result c.from_residual.ensures.1 in rw (p.1, p.2) (part_fails (begin c.args.names.now (the.named_graph) (terminals c.args.tokens.now)) c.in_err-name.ensures.reads))

pub read_named_graph-returns-in_err-inner-clause-reads : goal.read_named_graph-returns-in_err-inner-clause-reads
read_named_graph-returns-in_err-inner-clause-reads t c = (let p = err_from_is_err_and c.from_residual-in_err-inner.result c.from_residual-in_err-inner.ensures.1 in rw (p.1, p.2) (last_fails (then_read (begin c.args.names.now (the.named_graph) (terminals c.args.tokens.now)) c.in_ok-name.ensures.reads) c.in_err-inner.ensures.reads))

pub read_named_graph-returns-clause-reads : goal.read_named_graph-returns-clause-reads
read_named_graph-returns-clause-reads t c = last_reads (then_read (begin c.args.names.now (the.named_graph) (terminals c.args.tokens.now)) c.in_ok-name.ensures.reads) c.in_ok-inner.ensures.reads (graph_seen _ _)

-- ---- the tokens after what was read are fewer

pub read_group-returns-in_default-clause-shorter : goal.read_group-returns-in_default-clause-shorter
read_group-returns-in_default-clause-shorter t c = tt

pub read_group-returns-in_err-rest-clause-shorter : goal.read_group-returns-in_err-rest-clause-shorter
read_group-returns-in_err-rest-clause-shorter t c = rw (err_from_is_err_and c.from_residual.result c.from_residual.ensures.1).1 tt

pub read_group-returns-in-Some-accept-clause-shorter : goal.read_group-returns-in-Some-accept-clause-shorter
read_group-returns-in-Some-accept-clause-shorter t c = shorter_twice c.in-Some-accept.ensures.shorter c.elements.invariant.shorter

pub read_group-returns-in_err-element-clause-shorter : goal.read_group-returns-in_err-element-clause-shorter
read_group-returns-in_err-element-clause-shorter t c = rw (err_from_is_err_and c.from_residual-in_err-element.result c.from_residual-in_err-element.ensures.1).1 tt

pub read_group-returns-in_err-rest-2-clause-shorter : goal.read_group-returns-in_err-rest-2-clause-shorter
read_group-returns-in_err-rest-2-clause-shorter t c = rw (err_from_is_err_and c.from_residual-in_err-rest-2.result c.from_residual-in_err-rest-2.ensures.1).1 tt

pub read_other-returns-in_err-inner-clause-shorter : goal.read_other-returns-in_err-inner-clause-shorter
read_other-returns-in_err-inner-clause-shorter t c = rw (err_from_is_err_and c.from_residual.result c.from_residual.ensures.1).1 tt

pub read_other-returns-in-Some-clause-shorter : goal.read_other-returns-in-Some-clause-shorter
read_other-returns-in-Some-clause-shorter t c = shorter_twice c.in_ok-inner.ensures.shorter c.in-Some.ensures.shorter

pub read_other-returns-in_err-inner-2-clause-shorter : goal.read_other-returns-in_err-inner-2-clause-shorter
read_other-returns-in_err-inner-2-clause-shorter t c = rw (err_from_is_err_and c.from_residual-in_err-inner-2.result c.from_residual-in_err-inner-2.ensures.1).1 tt

pub read_other-returns-in-Some-accept_word-clause-shorter : goal.read_other-returns-in-Some-accept_word-clause-shorter
read_other-returns-in-Some-accept_word-clause-shorter t c = shorter_twice c.in_ok-inner-2.ensures.shorter c.in-Some-accept_word.ensures.shorter

pub read_other-returns-in-Some-accept_word-2-clause-shorter : goal.read_other-returns-in-Some-accept_word-2-clause-shorter
read_other-returns-in-Some-accept_word-2-clause-shorter t c = IfOk-weaker c.read_named_graph.result _ _ (λ p h. shorter_twice h c.in-Some-accept_word-2.ensures.shorter) c.read_named_graph.ensures.shorter

pub read_other-returns-in-Some-accept-clause-shorter : goal.read_other-returns-in-Some-accept-clause-shorter
read_other-returns-in-Some-accept-clause-shorter t c = c.read_unions.ensures.shorter

pub read_other-returns-clause-shorter : goal.read_other-returns-clause-shorter
read_other-returns-clause-shorter t c = c.read_simple.ensures.shorter

pub read_unions-returns-in_err-first-clause-shorter : goal.read_unions-returns-in_err-first-clause-shorter
read_unions-returns-in_err-first-clause-shorter t c = rw (err_from_is_err_and c.from_residual.result c.from_residual.ensures.1).1 tt

pub read_unions-returns-in_err-right-clause-shorter : goal.read_unions-returns-in_err-right-clause-shorter
read_unions-returns-in_err-right-clause-shorter t c = rw (err_from_is_err_and c.from_residual-in_err-right.result c.from_residual-in_err-right.ensures.1).1 tt

pub read_unions-returns-clause-shorter : goal.read_unions-returns-clause-shorter
read_unions-returns-clause-shorter t c = c.groups.invariant.shorter

pub read_named_graph-returns-in_err-name-clause-shorter : goal.read_named_graph-returns-in_err-name-clause-shorter
read_named_graph-returns-in_err-name-clause-shorter t c = rw (err_from_is_err_and c.from_residual.result c.from_residual.ensures.1).1 tt

pub read_named_graph-returns-in_err-inner-clause-shorter : goal.read_named_graph-returns-in_err-inner-clause-shorter
read_named_graph-returns-in_err-inner-clause-shorter t c = rw (err_from_is_err_and c.from_residual-in_err-inner.result c.from_residual-in_err-inner.ensures.1).1 tt

pub read_named_graph-returns-clause-shorter : goal.read_named_graph-returns-clause-shorter
read_named_graph-returns-clause-shorter t c = shorter_twice c.in_ok-inner.ensures.shorter c.in_ok-name.ensures.shorter

-- ---- the exits with an error

pub read_group-returns-in_err-push-clause-reads : goal.read_group-returns-in_err-push-clause-reads
read_group-returns-in_err-push-clause-reads t c = let p = err_from_is_err_and c.from_residual-in_err-push.result c.from_residual-in_err-push.ensures.1 in rw (p.1, p.2) out_of_memory

pub read_group-returns-in_err-push-clause-shorter : goal.read_group-returns-in_err-push-clause-shorter
read_group-returns-in_err-push-clause-shorter t c = rw (err_from_is_err_and c.from_residual-in_err-push.result c.from_residual-in_err-push.ensures.1).1 tt

pub read_unions-returns-in_err-new-clause-reads : goal.read_unions-returns-in_err-new-clause-reads
read_unions-returns-in_err-new-clause-reads t c = let p = err_from_is_err_and c.from_residual-in_err-new.result c.from_residual-in_err-new.ensures.1 in rw (p.1, p.2) out_of_memory

pub read_unions-returns-in_err-new-clause-shorter : goal.read_unions-returns-in_err-new-clause-shorter
read_unions-returns-in_err-new-clause-shorter t c = rw (err_from_is_err_and c.from_residual-in_err-new.result c.from_residual-in_err-new.ensures.1).1 tt
