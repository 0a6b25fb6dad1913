-- The exits of each reader: the terminals that it has read, and the conclusion from the next
-- terminal.
use Rattle.std.proofs.Common.{◌≡◌, ◌<◌, ℕ, length, arith, refl, sym, ap, ◌∙◌}
use Rattle.std.proofs.lemmas.Result.{IfOk-weaker, err_from_is_err_and}
use Rattle.sparql_lexer.specs.Terminal.{terminals}
use Rattle.sparql_tree.specs.ExpressionTree.{expression_of, expressions_of, negation, none, then}
use Rattle.sparql_grammar.specs.Symbol as the
use Rattle.sparql_expression.specs.ParseResult.{seen}
use Rattle.sparql_expression.proofs.Steps.{begin, took, took_branch, branch, left, right, here, skipped, passed_by, taken_heads, untaken_heads, take_fails, then_read, part_fails, enter, last_reads, last_same, last_fails, done, mapped_same, out_of_memory}
use Rattle.sparql_expression.proofs.MemberLaws.{pushed, members_at}
use Rattle.sparql_expression.proofs.NodeSteps.{or_seen, and_seen, same_term_seen, comparison_seen, not_seen, in_seen, call_seen, variable_seen, constant_seen, disjunction_at, conjunction_at}
use Rattle.sparql_expression.proofs.expressions.+expression.Goals as goal

pub read_disjunction-returns-in_err-left-clause-reads : goal.read_disjunction-returns-in_err-left-clause-reads
read_disjunction-returns-in_err-left-clause-reads t c =
    let names = c.args.names.now in
    let l = begin names the.disjunction (terminals c.args.tokens.now) in
    let p = err_from_is_err_and c.from_residual.result c.from_residual.ensures.1 in
    rw (p.1, p.2) (part_fails l c.in_err-left.ensures.reads)

pub read_disjunction-parts-init : goal.read_disjunction-parts-init
read_disjunction-parts-init t c =
    let names = c.args.names.now in
    let l = begin names the.disjunction (terminals c.args.tokens.now) in
    record { left = enter (then_read l c.in_ok-left.ensures.reads); shorter = c.in_ok-left.ensures.shorter }

pub read_disjunction-returns-in_err-right-clause-reads : goal.read_disjunction-returns-in_err-right-clause-reads
read_disjunction-returns-in_err-right-clause-reads t c =
    let names = c.args.names.now in
    let l = begin names the.disjunction (terminals c.args.tokens.now) in
    let p = err_from_is_err_and c.from_residual-in_err-right.result c.from_residual-in_err-right.ensures.1 in
    rw (p.1, p.2) (part_fails (took_branch c.parts.invariant.left (left here) (c.in-Some.ensures.accepts names)) c.in_err-right.ensures.reads)

pub read_disjunction-parts-preserved : goal.read_disjunction-parts-preserved
read_disjunction-parts-preserved t c =
    let names = c.args.names.now in
    let l = begin names the.disjunction (terminals c.args.tokens.now) in
    let m = then_read (took_branch c.parts.invariant.left (left here) (c.in-Some.ensures.accepts names)) c.in_ok-right.ensures.reads in
    record {
      left = disjunction_at (or_seen _ _ c.in_ok-one.ensures.left c.in_ok-one.ensures.right) (enter m);
      shorter = omega (arith, c.in-Some.ensures.shorter, c.in_ok-right.ensures.shorter, c.parts.invariant.shorter);
    }

pub read_disjunction-returns-clause-reads : goal.read_disjunction-returns-clause-reads
read_disjunction-returns-clause-reads t c =
    let names = c.args.names.now in
    let l = begin names the.disjunction (terminals c.args.tokens.now) in
    done (skipped c.parts.invariant.left (c.in_default.ensures.accepts names)) refl

pub read_conjunction-returns-in_err-left-clause-reads : goal.read_conjunction-returns-in_err-left-clause-reads
read_conjunction-returns-in_err-left-clause-reads t c =
    let names = c.args.names.now in
    let l = begin names the.conjunction (terminals c.args.tokens.now) in
    let p = err_from_is_err_and c.from_residual.result c.from_residual.ensures.1 in
    rw (p.1, p.2) (part_fails l c.in_err-left.ensures.reads)

pub read_conjunction-parts-init : goal.read_conjunction-parts-init
read_conjunction-parts-init t c =
    let names = c.args.names.now in
    let l = begin names the.conjunction (terminals c.args.tokens.now) in
    record { left = enter (then_read l c.in_ok-left.ensures.reads); shorter = c.in_ok-left.ensures.shorter }

pub read_conjunction-returns-in_err-right-clause-reads : goal.read_conjunction-returns-in_err-right-clause-reads
read_conjunction-returns-in_err-right-clause-reads t c =
    let names = c.args.names.now in
    let l = begin names the.conjunction (terminals c.args.tokens.now) in
    let p = err_from_is_err_and c.from_residual-in_err-right.result c.from_residual-in_err-right.ensures.1 in
    rw (p.1, p.2) (part_fails (took_branch c.parts.invariant.left (left here) (c.in-Some.ensures.accepts names)) c.in_err-right.ensures.reads)

pub read_conjunction-parts-preserved : goal.read_conjunction-parts-preserved
read_conjunction-parts-preserved t c =
    let names = c.args.names.now in
    let l = begin names the.conjunction (terminals c.args.tokens.now) in
    let m = then_read (took_branch c.parts.invariant.left (left here) (c.in-Some.ensures.accepts names)) c.in_ok-right.ensures.reads in
    record {
      left = conjunction_at (and_seen _ _ c.in_ok-one.ensures.left c.in_ok-one.ensures.right) (enter m);
      shorter = omega (arith, c.in-Some.ensures.shorter, c.in_ok-right.ensures.shorter, c.parts.invariant.shorter);
    }

pub read_conjunction-returns-clause-reads : goal.read_conjunction-returns-clause-reads
read_conjunction-returns-clause-reads t c =
    let names = c.args.names.now in
    let l = begin names the.conjunction (terminals c.args.tokens.now) in
    done (skipped c.parts.invariant.left (c.in_default.ensures.accepts names)) refl

pub read_relation-returns-in_err-left-clause-reads : goal.read_relation-returns-in_err-left-clause-reads
read_relation-returns-in_err-left-clause-reads t c =
    let names = c.args.names.now in
    let l = begin names the.relation (terminals c.args.tokens.now) in
    let p = err_from_is_err_and c.from_residual.result c.from_residual.ensures.1 in
    rw (p.1, p.2) (part_fails l c.in_err-left.ensures.reads)

pub read_relation-returns-in_err-right-clause-reads : goal.read_relation-returns-in_err-right-clause-reads
read_relation-returns-in_err-right-clause-reads t c =
    let names = c.args.names.now in
    let l = begin names the.relation (terminals c.args.tokens.now) in
    let p = err_from_is_err_and c.from_residual-in_err-right.result c.from_residual-in_err-right.ensures.1 in
    rw (p.1, p.2) (let m = then_read l c.in_ok-left.ensures.reads in last_fails (took_branch m (left here) (c.in-Some.ensures.accepts names)) c.in_err-right.ensures.reads)

pub read_relation-returns-in-Some-clause-reads : goal.read_relation-returns-in-Some-clause-reads
read_relation-returns-in-Some-clause-reads t c =
    let names = c.args.names.now in
    let l = begin names the.relation (terminals c.args.tokens.now) in
    let m = then_read l c.in_ok-left.ensures.reads in
    last_reads (took_branch m (left here) (c.in-Some.ensures.accepts names)) c.in_ok-right.ensures.reads (comparison_seen _ _ _ c.in_ok-one.ensures.left c.in_ok-one.ensures.right)

pub read_relation-returns-in_err-members-clause-reads : goal.read_relation-returns-in_err-members-clause-reads
read_relation-returns-in_err-members-clause-reads t c =
    let names = c.args.names.now in
    let l = begin names the.relation (terminals c.args.tokens.now) in
    let p = err_from_is_err_and c.from_residual-in_err-members.result c.from_residual-in_err-members.ensures.1 in
    rw (p.1, p.2) (let m = then_read l c.in_ok-left.ensures.reads in last_fails (took_branch m (right (left here)) (c.in-Some-accept_word.ensures.accepts names)) c.in_err-members.ensures.reads)

pub read_relation-returns-in-Some-accept_word-clause-reads : goal.read_relation-returns-in-Some-accept_word-clause-reads
read_relation-returns-in-Some-accept_word-clause-reads t c =
    let names = c.args.names.now in
    let l = begin names the.relation (terminals c.args.tokens.now) in
    let m = then_read l c.in_ok-left.ensures.reads in
    last_reads (took_branch m (right (left here)) (c.in-Some-accept_word.ensures.accepts names)) c.in_ok-members.ensures.reads (in_seen _ _ c.in_ok-new.ensures.ok)

pub read_relation-returns-in_default-accept_word-2-clause-reads : goal.read_relation-returns-in_default-accept_word-2-clause-reads
read_relation-returns-in_default-accept_word-2-clause-reads t c =
    let names = c.args.names.now in
    let l = begin names the.relation (terminals c.args.tokens.now) in
    let m = then_read l c.in_ok-left.ensures.reads in
    done (skipped (skipped (skipped m (c.in_default.ensures.accepts names)) (c.in_default-accept_word.ensures.accepts names)) (c.in_default-accept_word-2.ensures.accepts names)) refl

pub read_relation-returns-in_default-accept_word-3-clause-reads : goal.read_relation-returns-in_default-accept_word-3-clause-reads
read_relation-returns-in_default-accept_word-3-clause-reads t c =
    let names = c.args.names.now in
    let l = begin names the.relation (terminals c.args.tokens.now) in
    let m = then_read l c.in_ok-left.ensures.reads in
    take_fails (took_branch m (right (right (left here))) (c.in-Some-accept_word-2.ensures.accepts names)) (c.in_default-accept_word-3.ensures.accepts names)

pub read_relation-returns-in_err-members-2-clause-reads : goal.read_relation-returns-in_err-members-2-clause-reads
read_relation-returns-in_err-members-2-clause-reads t c =
    let names = c.args.names.now in
    let l = begin names the.relation (terminals c.args.tokens.now) in
    let p = err_from_is_err_and c.from_residual-in_err-members-2.result c.from_residual-in_err-members-2.ensures.1 in
    rw (p.1, p.2) (let m = then_read l c.in_ok-left.ensures.reads in last_fails (took (took_branch m (right (right (left here))) (c.in-Some-accept_word-2.ensures.accepts names)) (c.in-Some-accept_word-3.ensures.accepts names)) c.in_err-members-2.ensures.reads)

pub read_relation-returns-clause-reads : goal.read_relation-returns-clause-reads
read_relation-returns-clause-reads t c =
    let names = c.args.names.now in
    let l = begin names the.relation (terminals c.args.tokens.now) in
    let m = then_read l c.in_ok-left.ensures.reads in
    last_reads (took (took_branch m (right (right (left here))) (c.in-Some-accept_word-2.ensures.accepts names)) (c.in-Some-accept_word-3.ensures.accepts names)) c.in_ok-members-2.ensures.reads (not_seen _ c.in_ok-new-3.ensures.ok ∙ ap negation (in_seen _ _ c.in_ok-new-2.ensures.ok))

pub read_unary-returns-in_default-clause-reads : goal.read_unary-returns-in_default-clause-reads
read_unary-returns-in_default-clause-reads t c =
    let names = c.args.names.now in
    let l = begin names the.unary (terminals c.args.tokens.now) in
    last_same (skipped l (c.in_default.ensures.accepts names)) c.read_primary.ensures.reads (mapped_same (seen expression_of c.read_primary.result))

pub read_unary-returns-in_err-inner-clause-reads : goal.read_unary-returns-in_err-inner-clause-reads
read_unary-returns-in_err-inner-clause-reads t c =
    let names = c.args.names.now in
    let l = begin names the.unary (terminals c.args.tokens.now) in
    let p = err_from_is_err_and c.from_residual.result c.from_residual.ensures.1 in
    rw (p.1, p.2) (last_fails (took_branch l (left here) (c.in-Some.ensures.accepts names)) c.in_err-inner.ensures.reads)

pub read_unary-returns-clause-reads : goal.read_unary-returns-clause-reads
read_unary-returns-clause-reads t c =
    let names = c.args.names.now in
    let l = begin names the.unary (terminals c.args.tokens.now) in
    last_reads (took_branch l (left here) (c.in-Some.ensures.accepts names)) c.in_ok-inner.ensures.reads (not_seen _ c.in_ok-new.ensures.ok)

pub read_primary-returns-in-Some-clause-reads : goal.read_primary-returns-in-Some-clause-reads
read_primary-returns-in-Some-clause-reads t c =
    let names = c.args.names.now in
    let l = begin names the.primary (terminals c.args.tokens.now) in
    let h = taken_heads (c.in-Some.ensures.accepts names) in
    last_same (branch l (left here) h) c.read_bracket.ensures.reads (mapped_same (seen expression_of c.read_bracket.result))

pub read_primary-returns-then-is_call_next-clause-reads : goal.read_primary-returns-then-is_call_next-clause-reads
read_primary-returns-then-is_call_next-clause-reads t c =
    let names = c.args.names.now in
    let l = begin names the.primary (terminals c.args.tokens.now) in
    let h = sym c.is_call_next.ensures ∙ c.if-is_call_next.true in
    last_same (branch l (right (left here)) h) c.read_call.ensures.reads (mapped_same (seen expression_of c.read_call.result))

pub read_primary-returns-in-Some-2-clause-reads : goal.read_primary-returns-in-Some-2-clause-reads
read_primary-returns-in-Some-2-clause-reads t c =
    let names = c.args.names.now in
    let l = begin names the.primary (terminals c.args.tokens.now) in
    done (took_branch l (right (right (left here))) (rw c.in-Some-2.is at (c.in_ok-name.ensures.accepts names))) (variable_seen _)

pub read_primary-returns-in_err-term-clause-reads : goal.read_primary-returns-in_err-term-clause-reads
read_primary-returns-in_err-term-clause-reads t c =
    let names = c.args.names.now in
    let l = begin names the.primary (terminals c.args.tokens.now) in
    let l2 = passed_by l refl (untaken_heads (c.in_default.ensures.accepts names)) in
    let l3 = passed_by l2 refl (sym c.is_call_next.ensures ∙ c.if-is_call_next.false) in
    let l4 = skipped l3 (rw c.in_default-2.is at (c.in_ok-name.ensures.accepts names)) in
    let p = err_from_is_err_and c.from_residual-in_err-term.result c.from_residual-in_err-term.ensures.1 in
    rw (p.1, p.2) (last_fails l4 c.in_err-term.ensures.reads)

pub read_primary-returns-clause-reads : goal.read_primary-returns-clause-reads
read_primary-returns-clause-reads t c =
    let names = c.args.names.now in
    let l = begin names the.primary (terminals c.args.tokens.now) in
    let l2 = passed_by l refl (untaken_heads (c.in_default.ensures.accepts names)) in
    let l3 = passed_by l2 refl (sym c.is_call_next.ensures ∙ c.if-is_call_next.false) in
    let l4 = skipped l3 (rw c.in_default-2.is at (c.in_ok-name.ensures.accepts names)) in
    last_reads l4 c.in_ok-term.ensures.reads (constant_seen _)

pub read_bracket-returns-in_default-clause-reads : goal.read_bracket-returns-in_default-clause-reads
read_bracket-returns-in_default-clause-reads t c =
    let names = c.args.names.now in
    let l = begin names the.bracket (terminals c.args.tokens.now) in
    take_fails l (c.in_default.ensures.accepts names)

pub read_bracket-returns-in_err-inner-clause-reads : goal.read_bracket-returns-in_err-inner-clause-reads
read_bracket-returns-in_err-inner-clause-reads t c =
    let names = c.args.names.now in
    let l = begin names the.bracket (terminals c.args.tokens.now) in
    let p = err_from_is_err_and c.from_residual.result c.from_residual.ensures.1 in
    rw (p.1, p.2) (part_fails (took l (c.in-Some.ensures.accepts names)) c.in_err-inner.ensures.reads)

pub read_bracket-returns-in_default-accept-clause-reads : goal.read_bracket-returns-in_default-accept-clause-reads
read_bracket-returns-in_default-accept-clause-reads t c =
    let names = c.args.names.now in
    let l = begin names the.bracket (terminals c.args.tokens.now) in
    take_fails (then_read (took l (c.in-Some.ensures.accepts names)) c.in_ok-inner.ensures.reads) (c.in_default-accept.ensures.accepts names)

pub read_bracket-returns-clause-reads : goal.read_bracket-returns-clause-reads
read_bracket-returns-clause-reads t c =
    let names = c.args.names.now in
    let l = begin names the.bracket (terminals c.args.tokens.now) in
    done (took (then_read (took l (c.in-Some.ensures.accepts names)) c.in_ok-inner.ensures.reads) (c.in-Some-accept.ensures.accepts names)) refl

pub read_call-returns-in_err-argument-clause-reads : goal.read_call-returns-in_err-argument-clause-reads
read_call-returns-in_err-argument-clause-reads t c =
    let names = c.args.names.now in
    let l = begin names the.call (terminals c.args.tokens.now) in
    let p = err_from_is_err_and c.from_residual.result c.from_residual.ensures.1 in
    rw (p.1, p.2) (last_fails (took_branch l (left here) (c.in-Some.ensures.accepts names)) c.in_err-argument.ensures.reads)

pub read_call-returns-in-Some-clause-reads : goal.read_call-returns-in-Some-clause-reads
read_call-returns-in-Some-clause-reads t c =
    let names = c.args.names.now in
    let l = begin names the.call (terminals c.args.tokens.now) in
    last_reads (took_branch l (left here) (c.in-Some.ensures.accepts names)) c.in_ok-argument.ensures.reads (call_seen _ _ c.in_ok-argument-2.ensures.ok)

pub read_call-returns-in-Some-accept_word-clause-reads : goal.read_call-returns-in-Some-accept_word-clause-reads
read_call-returns-in-Some-accept_word-clause-reads t c =
    let names = c.args.names.now in
    let l = begin names the.call (terminals c.args.tokens.now) in
    last_same (took_branch l (right (left here)) (c.in-Some-accept_word.ensures.accepts names)) (c.read_bound.ensures.reads names) (mapped_same (seen expression_of c.read_bound.result))

pub read_call-returns-in_default-accept_word-2-clause-reads : goal.read_call-returns-in_default-accept_word-2-clause-reads
read_call-returns-in_default-accept_word-2-clause-reads t c =
    let names = c.args.names.now in
    let l = begin names the.call (terminals c.args.tokens.now) in
    take_fails (skipped (skipped l (c.in_default.ensures.accepts names)) (c.in_default-accept_word.ensures.accepts names)) (c.in_default-accept_word-2.ensures.accepts names)

pub read_call-returns-clause-reads : goal.read_call-returns-clause-reads
read_call-returns-clause-reads t c =
    let names = c.args.names.now in
    let l = begin names the.call (terminals c.args.tokens.now) in
    last_same (took_branch l (right (right here)) (c.in-Some-accept_word-2.ensures.accepts names)) c.read_same_term.ensures.reads (mapped_same (seen expression_of c.read_same_term.result))

pub read_same_term-returns-in_default-clause-reads : goal.read_same_term-returns-in_default-clause-reads
read_same_term-returns-in_default-clause-reads t c =
    let names = c.args.names.now in
    let l = begin names the.same_term (terminals c.args.tokens.now) in
    take_fails l (c.in_default.ensures.accepts names)

pub read_same_term-returns-in_err-left-clause-reads : goal.read_same_term-returns-in_err-left-clause-reads
read_same_term-returns-in_err-left-clause-reads t c =
    let names = c.args.names.now in
    let l = begin names the.same_term (terminals c.args.tokens.now) in
    let p = err_from_is_err_and c.from_residual.result c.from_residual.ensures.1 in
    rw (p.1, p.2) (part_fails (took l (c.in-Some.ensures.accepts names)) c.in_err-left.ensures.reads)

pub read_same_term-returns-in_default-accept-clause-reads : goal.read_same_term-returns-in_default-accept-clause-reads
read_same_term-returns-in_default-accept-clause-reads t c =
    let names = c.args.names.now in
    let l = begin names the.same_term (terminals c.args.tokens.now) in
    take_fails (then_read (took l (c.in-Some.ensures.accepts names)) c.in_ok-left.ensures.reads) (c.in_default-accept.ensures.accepts names)

pub read_same_term-returns-in_err-right-clause-reads : goal.read_same_term-returns-in_err-right-clause-reads
read_same_term-returns-in_err-right-clause-reads t c =
    let names = c.args.names.now in
    let l = begin names the.same_term (terminals c.args.tokens.now) in
    let p = err_from_is_err_and c.from_residual-in_err-right.result c.from_residual-in_err-right.ensures.1 in
    rw (p.1, p.2) (part_fails (took (then_read (took l (c.in-Some.ensures.accepts names)) c.in_ok-left.ensures.reads) (c.in-Some-accept.ensures.accepts names)) c.in_err-right.ensures.reads)

pub read_same_term-returns-in_default-accept-2-clause-reads : goal.read_same_term-returns-in_default-accept-2-clause-reads
read_same_term-returns-in_default-accept-2-clause-reads t c =
    let names = c.args.names.now in
    let l = begin names the.same_term (terminals c.args.tokens.now) in
    take_fails (then_read (took (then_read (took l (c.in-Some.ensures.accepts names)) c.in_ok-left.ensures.reads) (c.in-Some-accept.ensures.accepts names)) c.in_ok-right.ensures.reads) (c.in_default-accept-2.ensures.accepts names)

pub read_same_term-returns-clause-reads : goal.read_same_term-returns-clause-reads
read_same_term-returns-clause-reads t c =
    let names = c.args.names.now in
    let l = begin names the.same_term (terminals c.args.tokens.now) in
    done (took (then_read (took (then_read (took l (c.in-Some.ensures.accepts names)) c.in_ok-left.ensures.reads) (c.in-Some-accept.ensures.accepts names)) c.in_ok-right.ensures.reads) (c.in-Some-accept-2.ensures.accepts names)) (same_term_seen _ _ c.in_ok-one.ensures.left c.in_ok-one.ensures.right)

pub read_members-returns-in_default-clause-reads : goal.read_members-returns-in_default-clause-reads
read_members-returns-in_default-clause-reads t c =
    let names = c.args.names.now in
    let l = begin names the.members (terminals c.args.tokens.now) in
    take_fails l (c.in_default.ensures.accepts names)

pub read_members-returns-in-Some-accept-clause-reads : goal.read_members-returns-in-Some-accept-clause-reads
read_members-returns-in-Some-accept-clause-reads t c =
    let names = c.args.names.now in
    let l = begin names the.members (terminals c.args.tokens.now) in
    done (took_branch (took l (c.in-Some.ensures.accepts names)) (left here) (c.in-Some-accept.ensures.accepts names)) (ap expressions_of c.new-members.ensures.items)

pub read_members-members-init : goal.read_members-members-init
read_members-members-init t c =
    let names = c.args.names.now in
    let l = begin names the.members (terminals c.args.tokens.now) in
    record { left = members_at none (expressions_of c.new-members.result.items) (ap expressions_of c.new-members.ensures.items) (enter (skipped (took l (c.in-Some.ensures.accepts names)) (c.in_default-accept.ensures.accepts names))); shorter = c.in-Some.ensures.shorter }

pub read_members-returns-in_err-member-clause-reads : goal.read_members-returns-in_err-member-clause-reads
read_members-returns-in_err-member-clause-reads t c =
    let names = c.args.names.now in
    let l = begin names the.members (terminals c.args.tokens.now) in
    let p = err_from_is_err_and c.from_residual.result c.from_residual.ensures.1 in
    rw (p.1, p.2) (part_fails c.members.invariant.left c.in_err-member.ensures.reads)

pub read_members-returns-in_default-accept-3-clause-reads : goal.read_members-returns-in_default-accept-3-clause-reads
read_members-returns-in_default-accept-3-clause-reads t c =
    let names = c.args.names.now in
    let l = begin names the.members (terminals c.args.tokens.now) in
    let m = then_read c.members.invariant.left c.in_ok-member.ensures.reads in
    take_fails (skipped m (c.in_default-accept-2.ensures.accepts names)) (c.in_default-accept-3.ensures.accepts names)

pub read_members-returns-in_default-accept-2-clause-reads : goal.read_members-returns-in_default-accept-2-clause-reads
read_members-returns-in_default-accept-2-clause-reads t c =
    let names = c.args.names.now in
    let l = begin names the.members (terminals c.args.tokens.now) in
    let m = then_read c.members.invariant.left c.in_ok-member.ensures.reads in
    done (took (skipped m (c.in_default-accept-2.ensures.accepts names)) (c.in-Some-accept-3.ensures.accepts names)) (ap expressions_of c.in_ok-push.ensures.items ∙ pushed c.members.members.items c.in_ok-member.member)

pub read_members-members-preserved : goal.read_members-members-preserved
read_members-members-preserved t c =
    let names = c.args.names.now in
    let l = begin names the.members (terminals c.args.tokens.now) in
    let m = then_read c.members.invariant.left c.in_ok-member.ensures.reads in
    record {
      left = members_at (then (expressions_of c.members.members.items) (expression_of c.in_ok-member.member)) (expressions_of c.push.new.self.items) (ap expressions_of c.in_ok-push.ensures.items ∙ pushed c.members.members.items c.in_ok-member.member) (enter (took_branch m (left here) (c.in-Some-accept-2.ensures.accepts names)));
      shorter = omega (arith, c.in-Some-accept-2.ensures.shorter, c.in_ok-member.ensures.shorter, c.members.invariant.shorter);
    }

-- ---- the tokens after what was read are fewer

then_shorter : {a b c : ℕ} → a < b → b < c → a < c
then_shorter h k = omega arith

pub read_disjunction-returns-in_err-left-clause-shorter : goal.read_disjunction-returns-in_err-left-clause-shorter
read_disjunction-returns-in_err-left-clause-shorter t c = rw (err_from_is_err_and c.from_residual.result c.from_residual.ensures.1).1 tt

pub read_disjunction-returns-in_err-right-clause-shorter : goal.read_disjunction-returns-in_err-right-clause-shorter
read_disjunction-returns-in_err-right-clause-shorter t c = rw (err_from_is_err_and c.from_residual-in_err-right.result c.from_residual-in_err-right.ensures.1).1 tt

pub read_disjunction-returns-clause-shorter : goal.read_disjunction-returns-clause-shorter
read_disjunction-returns-clause-shorter t c = c.parts.invariant.shorter

pub read_conjunction-returns-in_err-left-clause-shorter : goal.read_conjunction-returns-in_err-left-clause-shorter
read_conjunction-returns-in_err-left-clause-shorter t c = rw (err_from_is_err_and c.from_residual.result c.from_residual.ensures.1).1 tt

pub read_conjunction-returns-in_err-right-clause-shorter : goal.read_conjunction-returns-in_err-right-clause-shorter
read_conjunction-returns-in_err-right-clause-shorter t c = rw (err_from_is_err_and c.from_residual-in_err-right.result c.from_residual-in_err-right.ensures.1).1 tt

pub read_conjunction-returns-clause-shorter : goal.read_conjunction-returns-clause-shorter
read_conjunction-returns-clause-shorter t c = c.parts.invariant.shorter

pub read_relation-returns-in_err-left-clause-shorter : goal.read_relation-returns-in_err-left-clause-shorter
read_relation-returns-in_err-left-clause-shorter t c = rw (err_from_is_err_and c.from_residual.result c.from_residual.ensures.1).1 tt

pub read_relation-returns-in_err-right-clause-shorter : goal.read_relation-returns-in_err-right-clause-shorter
read_relation-returns-in_err-right-clause-shorter t c = rw (err_from_is_err_and c.from_residual-in_err-right.result c.from_residual-in_err-right.ensures.1).1 tt

pub read_relation-returns-in_err-members-clause-shorter : goal.read_relation-returns-in_err-members-clause-shorter
read_relation-returns-in_err-members-clause-shorter t c = rw (err_from_is_err_and c.from_residual-in_err-members.result c.from_residual-in_err-members.ensures.1).1 tt

pub read_relation-returns-in_err-members-2-clause-shorter : goal.read_relation-returns-in_err-members-2-clause-shorter
read_relation-returns-in_err-members-2-clause-shorter t c = rw (err_from_is_err_and c.from_residual-in_err-members-2.result c.from_residual-in_err-members-2.ensures.1).1 tt

pub read_relation-returns-in-Some-clause-shorter : goal.read_relation-returns-in-Some-clause-shorter
read_relation-returns-in-Some-clause-shorter t c = then_shorter c.in_ok-right.ensures.shorter (then_shorter c.in-Some.ensures.shorter c.in_ok-left.ensures.shorter)

pub read_relation-returns-in-Some-accept_word-clause-shorter : goal.read_relation-returns-in-Some-accept_word-clause-shorter
read_relation-returns-in-Some-accept_word-clause-shorter t c = then_shorter c.in_ok-members.ensures.shorter (then_shorter c.in-Some-accept_word.ensures.shorter c.in_ok-left.ensures.shorter)

pub read_relation-returns-in_default-accept_word-2-clause-shorter : goal.read_relation-returns-in_default-accept_word-2-clause-shorter
read_relation-returns-in_default-accept_word-2-clause-shorter t c = c.in_ok-left.ensures.shorter

pub read_relation-returns-in_default-accept_word-3-clause-shorter : goal.read_relation-returns-in_default-accept_word-3-clause-shorter
read_relation-returns-in_default-accept_word-3-clause-shorter t c = tt

pub read_relation-returns-clause-shorter : goal.read_relation-returns-clause-shorter
read_relation-returns-clause-shorter t c = then_shorter c.in_ok-members-2.ensures.shorter (then_shorter c.in-Some-accept_word-3.ensures.shorter (then_shorter c.in-Some-accept_word-2.ensures.shorter c.in_ok-left.ensures.shorter))

pub read_unary-returns-in_default-clause-shorter : goal.read_unary-returns-in_default-clause-shorter
read_unary-returns-in_default-clause-shorter t c = c.read_primary.ensures.shorter

pub read_unary-returns-in_err-inner-clause-shorter : goal.read_unary-returns-in_err-inner-clause-shorter
read_unary-returns-in_err-inner-clause-shorter t c = rw (err_from_is_err_and c.from_residual.result c.from_residual.ensures.1).1 tt

pub read_unary-returns-clause-shorter : goal.read_unary-returns-clause-shorter
read_unary-returns-clause-shorter t c = then_shorter c.in_ok-inner.ensures.shorter c.in-Some.ensures.shorter

pub read_primary-returns-in-Some-clause-shorter : goal.read_primary-returns-in-Some-clause-shorter
read_primary-returns-in-Some-clause-shorter t c = c.read_bracket.ensures.shorter

pub read_primary-returns-then-is_call_next-clause-shorter : goal.read_primary-returns-then-is_call_next-clause-shorter
read_primary-returns-then-is_call_next-clause-shorter t c = c.read_call.ensures.shorter

pub read_primary-returns-in-Some-2-clause-shorter : goal.read_primary-returns-in-Some-2-clause-shorter
read_primary-returns-in-Some-2-clause-shorter t c = rw c.in-Some-2.is at c.in_ok-name.ensures.shorter

pub read_primary-returns-in_err-term-clause-shorter : goal.read_primary-returns-in_err-term-clause-shorter
read_primary-returns-in_err-term-clause-shorter t c = rw (err_from_is_err_and c.from_residual-in_err-term.result c.from_residual-in_err-term.ensures.1).1 tt

pub read_primary-returns-clause-shorter : goal.read_primary-returns-clause-shorter
read_primary-returns-clause-shorter t c = c.in_ok-term.ensures.shorter

pub read_bracket-returns-in_default-clause-shorter : goal.read_bracket-returns-in_default-clause-shorter
read_bracket-returns-in_default-clause-shorter t c = tt

pub read_bracket-returns-in_err-inner-clause-shorter : goal.read_bracket-returns-in_err-inner-clause-shorter
read_bracket-returns-in_err-inner-clause-shorter t c = rw (err_from_is_err_and c.from_residual.result c.from_residual.ensures.1).1 tt

pub read_bracket-returns-in_default-accept-clause-shorter : goal.read_bracket-returns-in_default-accept-clause-shorter
read_bracket-returns-in_default-accept-clause-shorter t c = tt

pub read_bracket-returns-clause-shorter : goal.read_bracket-returns-clause-shorter
read_bracket-returns-clause-shorter t c = then_shorter c.in-Some-accept.ensures.shorter (then_shorter c.in_ok-inner.ensures.shorter c.in-Some.ensures.shorter)

pub read_call-returns-in_err-argument-clause-shorter : goal.read_call-returns-in_err-argument-clause-shorter
read_call-returns-in_err-argument-clause-shorter t c = rw (err_from_is_err_and c.from_residual.result c.from_residual.ensures.1).1 tt

pub read_call-returns-in-Some-clause-shorter : goal.read_call-returns-in-Some-clause-shorter
read_call-returns-in-Some-clause-shorter t c = then_shorter c.in_ok-argument.ensures.shorter c.in-Some.ensures.shorter

pub read_call-returns-in-Some-accept_word-clause-shorter : goal.read_call-returns-in-Some-accept_word-clause-shorter
read_call-returns-in-Some-accept_word-clause-shorter t c = IfOk-weaker c.read_bound.result _ _ (λ p h. then_shorter h c.in-Some-accept_word.ensures.shorter) c.read_bound.ensures.shorter

pub read_call-returns-in_default-accept_word-2-clause-shorter : goal.read_call-returns-in_default-accept_word-2-clause-shorter
read_call-returns-in_default-accept_word-2-clause-shorter t c = tt

pub read_call-returns-clause-shorter : goal.read_call-returns-clause-shorter
read_call-returns-clause-shorter t c = IfOk-weaker c.read_same_term.result _ _ (λ p h. then_shorter h c.in-Some-accept_word-2.ensures.shorter) c.read_same_term.ensures.shorter

pub read_same_term-returns-in_default-clause-shorter : goal.read_same_term-returns-in_default-clause-shorter
read_same_term-returns-in_default-clause-shorter t c = tt

pub read_same_term-returns-in_err-left-clause-shorter : goal.read_same_term-returns-in_err-left-clause-shorter
read_same_term-returns-in_err-left-clause-shorter t c = rw (err_from_is_err_and c.from_residual.result c.from_residual.ensures.1).1 tt

pub read_same_term-returns-in_default-accept-clause-shorter : goal.read_same_term-returns-in_default-accept-clause-shorter
read_same_term-returns-in_default-accept-clause-shorter t c = tt

pub read_same_term-returns-in_err-right-clause-shorter : goal.read_same_term-returns-in_err-right-clause-shorter
read_same_term-returns-in_err-right-clause-shorter t c = rw (err_from_is_err_and c.from_residual-in_err-right.result c.from_residual-in_err-right.ensures.1).1 tt

pub read_same_term-returns-in_default-accept-2-clause-shorter : goal.read_same_term-returns-in_default-accept-2-clause-shorter
read_same_term-returns-in_default-accept-2-clause-shorter t c = tt

pub read_same_term-returns-clause-shorter : goal.read_same_term-returns-clause-shorter
read_same_term-returns-clause-shorter t c = then_shorter c.in-Some-accept-2.ensures.shorter (then_shorter c.in_ok-right.ensures.shorter (then_shorter c.in-Some-accept.ensures.shorter (then_shorter c.in_ok-left.ensures.shorter c.in-Some.ensures.shorter)))

pub read_members-returns-in_default-clause-shorter : goal.read_members-returns-in_default-clause-shorter
read_members-returns-in_default-clause-shorter t c = tt

pub read_members-returns-in-Some-accept-clause-shorter : goal.read_members-returns-in-Some-accept-clause-shorter
read_members-returns-in-Some-accept-clause-shorter t c = then_shorter c.in-Some-accept.ensures.shorter c.in-Some.ensures.shorter

pub read_members-returns-in_err-member-clause-shorter : goal.read_members-returns-in_err-member-clause-shorter
read_members-returns-in_err-member-clause-shorter t c = rw (err_from_is_err_and c.from_residual.result c.from_residual.ensures.1).1 tt

pub read_members-returns-in_default-accept-3-clause-shorter : goal.read_members-returns-in_default-accept-3-clause-shorter
read_members-returns-in_default-accept-3-clause-shorter t c = tt

pub read_members-returns-in_default-accept-2-clause-shorter : goal.read_members-returns-in_default-accept-2-clause-shorter
read_members-returns-in_default-accept-2-clause-shorter t c = then_shorter c.in-Some-accept-3.ensures.shorter (then_shorter c.in_ok-member.ensures.shorter c.members.invariant.shorter)

-- ---- the exits at which an allocation fails

pub read_disjunction-returns-in_err-one-clause-reads : goal.read_disjunction-returns-in_err-one-clause-reads
read_disjunction-returns-in_err-one-clause-reads t c = let p = err_from_is_err_and c.from_residual-in_err-one.result c.from_residual-in_err-one.ensures.1 in rw (p.1, p.2) out_of_memory

pub read_disjunction-returns-in_err-one-clause-shorter : goal.read_disjunction-returns-in_err-one-clause-shorter
read_disjunction-returns-in_err-one-clause-shorter t c = rw (err_from_is_err_and c.from_residual-in_err-one.result c.from_residual-in_err-one.ensures.1).1 tt

pub read_conjunction-returns-in_err-one-clause-reads : goal.read_conjunction-returns-in_err-one-clause-reads
read_conjunction-returns-in_err-one-clause-reads t c = let p = err_from_is_err_and c.from_residual-in_err-one.result c.from_residual-in_err-one.ensures.1 in rw (p.1, p.2) out_of_memory

pub read_conjunction-returns-in_err-one-clause-shorter : goal.read_conjunction-returns-in_err-one-clause-shorter
read_conjunction-returns-in_err-one-clause-shorter t c = rw (err_from_is_err_and c.from_residual-in_err-one.result c.from_residual-in_err-one.ensures.1).1 tt

pub read_relation-returns-in_err-one-clause-reads : goal.read_relation-returns-in_err-one-clause-reads
read_relation-returns-in_err-one-clause-reads t c = let p = err_from_is_err_and c.from_residual-in_err-one.result c.from_residual-in_err-one.ensures.1 in rw (p.1, p.2) out_of_memory

pub read_relation-returns-in_err-one-clause-shorter : goal.read_relation-returns-in_err-one-clause-shorter
read_relation-returns-in_err-one-clause-shorter t c = rw (err_from_is_err_and c.from_residual-in_err-one.result c.from_residual-in_err-one.ensures.1).1 tt

pub read_relation-returns-in_err-new-clause-reads : goal.read_relation-returns-in_err-new-clause-reads
read_relation-returns-in_err-new-clause-reads t c = let p = err_from_is_err_and c.from_residual-in_err-new.result c.from_residual-in_err-new.ensures.1 in rw (p.1, p.2) out_of_memory

pub read_relation-returns-in_err-new-clause-shorter : goal.read_relation-returns-in_err-new-clause-shorter
read_relation-returns-in_err-new-clause-shorter t c = rw (err_from_is_err_and c.from_residual-in_err-new.result c.from_residual-in_err-new.ensures.1).1 tt

pub read_relation-returns-in_err-new-2-clause-reads : goal.read_relation-returns-in_err-new-2-clause-reads
read_relation-returns-in_err-new-2-clause-reads t c = let p = err_from_is_err_and c.from_residual-in_err-new-2.result c.from_residual-in_err-new-2.ensures.1 in rw (p.1, p.2) out_of_memory

pub read_relation-returns-in_err-new-2-clause-shorter : goal.read_relation-returns-in_err-new-2-clause-shorter
read_relation-returns-in_err-new-2-clause-shorter t c = rw (err_from_is_err_and c.from_residual-in_err-new-2.result c.from_residual-in_err-new-2.ensures.1).1 tt

pub read_relation-returns-in_err-new-3-clause-reads : goal.read_relation-returns-in_err-new-3-clause-reads
read_relation-returns-in_err-new-3-clause-reads t c = let p = err_from_is_err_and c.from_residual-in_err-new-3.result c.from_residual-in_err-new-3.ensures.1 in rw (p.1, p.2) out_of_memory

pub read_relation-returns-in_err-new-3-clause-shorter : goal.read_relation-returns-in_err-new-3-clause-shorter
read_relation-returns-in_err-new-3-clause-shorter t c = rw (err_from_is_err_and c.from_residual-in_err-new-3.result c.from_residual-in_err-new-3.ensures.1).1 tt

pub read_unary-returns-in_err-new-clause-reads : goal.read_unary-returns-in_err-new-clause-reads
read_unary-returns-in_err-new-clause-reads t c = let p = err_from_is_err_and c.from_residual-in_err-new.result c.from_residual-in_err-new.ensures.1 in rw (p.1, p.2) out_of_memory

pub read_unary-returns-in_err-new-clause-shorter : goal.read_unary-returns-in_err-new-clause-shorter
read_unary-returns-in_err-new-clause-shorter t c = rw (err_from_is_err_and c.from_residual-in_err-new.result c.from_residual-in_err-new.ensures.1).1 tt

pub read_primary-returns-in_err-name-clause-reads : goal.read_primary-returns-in_err-name-clause-reads
read_primary-returns-in_err-name-clause-reads t c = let p = err_from_is_err_and c.from_residual.result c.from_residual.ensures.1 in rw (p.1, p.2) out_of_memory

pub read_primary-returns-in_err-name-clause-shorter : goal.read_primary-returns-in_err-name-clause-shorter
read_primary-returns-in_err-name-clause-shorter t c = rw (err_from_is_err_and c.from_residual.result c.from_residual.ensures.1).1 tt

pub read_call-returns-in_err-argument-2-clause-reads : goal.read_call-returns-in_err-argument-2-clause-reads
read_call-returns-in_err-argument-2-clause-reads t c = let p = err_from_is_err_and c.from_residual-in_err-argument-2.result c.from_residual-in_err-argument-2.ensures.1 in rw (p.1, p.2) out_of_memory

pub read_call-returns-in_err-argument-2-clause-shorter : goal.read_call-returns-in_err-argument-2-clause-shorter
read_call-returns-in_err-argument-2-clause-shorter t c = rw (err_from_is_err_and c.from_residual-in_err-argument-2.result c.from_residual-in_err-argument-2.ensures.1).1 tt

pub read_same_term-returns-in_err-one-clause-reads : goal.read_same_term-returns-in_err-one-clause-reads
read_same_term-returns-in_err-one-clause-reads t c = let p = err_from_is_err_and c.from_residual-in_err-one.result c.from_residual-in_err-one.ensures.1 in rw (p.1, p.2) out_of_memory

pub read_same_term-returns-in_err-one-clause-shorter : goal.read_same_term-returns-in_err-one-clause-shorter
read_same_term-returns-in_err-one-clause-shorter t c = rw (err_from_is_err_and c.from_residual-in_err-one.result c.from_residual-in_err-one.ensures.1).1 tt

pub read_members-returns-in_err-push-clause-reads : goal.read_members-returns-in_err-push-clause-reads
read_members-returns-in_err-push-clause-reads t c = let p = err_from_is_err_and c.from_residual-in_err-push.result c.from_residual-in_err-push.ensures.1 in rw (p.1, p.2) out_of_memory

pub read_members-returns-in_err-push-clause-shorter : goal.read_members-returns-in_err-push-clause-shorter
read_members-returns-in_err-push-clause-shorter t c = rw (err_from_is_err_and c.from_residual-in_err-push.result c.from_residual-in_err-push.ensures.1).1 tt
