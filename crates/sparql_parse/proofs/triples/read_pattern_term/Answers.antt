use Rattle.std.proofs.Common.{◌≡◌, length, refl, sym, ap, ◌∙◌}
use Rattle.std.proofs.lemmas.List.{length-map}
use Rattle.std.proofs.lemmas.Result.{err_from_is_err_and}
use Rattle.sparql_lexer.specs.Terminal.{terminal_of, terminals}
use Rattle.sparql_tree.specs.declared.group.VarOrTerm.TheVariants as place
use Rattle.sparql_grammar.specs.Values.{anonymous_label}
use Rattle.sparql_grammar.specs.Class.{variable, blank}
use Rattle.sparql_grammar.specs.Symbol as the
use Rattle.sparql_expression.proofs.Steps.{begin, last_reads, last_fails, done, done_counted, here, left, took_branch, skipped, out_of_memory}
use Rattle.sparql_parse.proofs.FrontSteps.{some_taken, none_untaken}
use Rattle.sparql_parse.proofs.triples.read_pattern_term.Goals as goal

pub returns-in-Some-clause-reads : goal.returns-in-Some-clause-reads
returns-in-Some-clause-reads c =
    let l = begin c.args.names.now the.pattern_term (terminals c.args.tokens.now) in
    done (took_branch l (left here) (some_taken {c = variable} (c.in_ok-name.ensures.accepts c.args.names.now) c.in-Some.is)) refl

pub returns-in-Some-2-clause-reads : goal.returns-in-Some-2-clause-reads
returns-in-Some-2-clause-reads c =
    let l = begin c.args.names.now the.pattern_term (terminals c.args.tokens.now) in
    let m = skipped l (none_untaken {c = variable} (c.in_ok-name.ensures.accepts c.args.names.now) c.in_default.is) in
    done (took_branch m (left here) (some_taken {c = blank} (c.in_ok-label.ensures.accepts c.args.names.now) c.in-Some-2.is)) refl

pub returns-in-Some-accept_anonymous-clause-reads : goal.returns-in-Some-accept_anonymous-clause-reads
returns-in-Some-accept_anonymous-clause-reads c =
    let l = begin c.args.names.now the.pattern_term (terminals c.args.tokens.now) in
    let m = skipped l (none_untaken {c = variable} (c.in_ok-name.ensures.accepts c.args.names.now) c.in_default.is) in
    let n = skipped m (none_untaken {c = blank} (c.in_ok-label.ensures.accepts c.args.names.now) c.in_default-2.is) in
    let e : c.in_ok-made.made ≡ anonymous_label (length (terminals c.in-Some-accept_anonymous.after.now)) = c.in_ok-made.ensures.label ∙ ap anonymous_label (sym (length-map c.in-Some-accept_anonymous.after.now terminal_of)) in
    done_counted (took_branch n (left here) (c.in-Some-accept_anonymous.ensures.accepts c.args.names.now)) (ap place.Blank e)

pub returns-in_err-term-clause-reads : goal.returns-in_err-term-clause-reads
returns-in_err-term-clause-reads c =
    let l = begin c.args.names.now the.pattern_term (terminals c.args.tokens.now) in
    let m = skipped l (none_untaken {c = variable} (c.in_ok-name.ensures.accepts c.args.names.now) c.in_default.is) in
    let n = skipped m (none_untaken {c = blank} (c.in_ok-label.ensures.accepts c.args.names.now) c.in_default-2.is) in
    let p = err_from_is_err_and c.from_residual-in_err-term.result c.from_residual-in_err-term.ensures.1 in
    rw (p.1, p.2) (last_fails (skipped n (c.in_default-accept_anonymous.ensures.accepts c.args.names.now)) c.in_err-term.ensures.reads)

pub returns-clause-reads : goal.returns-clause-reads
returns-clause-reads c =
    let l = begin c.args.names.now the.pattern_term (terminals c.args.tokens.now) in
    let m = skipped l (none_untaken {c = variable} (c.in_ok-name.ensures.accepts c.args.names.now) c.in_default.is) in
    let n = skipped m (none_untaken {c = blank} (c.in_ok-label.ensures.accepts c.args.names.now) c.in_default-2.is) in
    last_reads (skipped n (c.in_default-accept_anonymous.ensures.accepts c.args.names.now)) c.in_ok-term.ensures.reads refl

-- ---- the exits with an error

pub returns-in_err-label-clause-reads : goal.returns-in_err-label-clause-reads
returns-in_err-label-clause-reads c = let p = err_from_is_err_and c.from_residual-in_err-label.result c.from_residual-in_err-label.ensures.1 in rw (p.1, p.2) out_of_memory

pub returns-in_err-label-clause-shorter : goal.returns-in_err-label-clause-shorter
returns-in_err-label-clause-shorter c = rw (err_from_is_err_and c.from_residual-in_err-label.result c.from_residual-in_err-label.ensures.1).1 tt

pub returns-in_err-made-clause-reads : goal.returns-in_err-made-clause-reads
returns-in_err-made-clause-reads c = let p = err_from_is_err_and c.from_residual-in_err-made.result c.from_residual-in_err-made.ensures.1 in rw (p.1, p.2) out_of_memory

pub returns-in_err-made-clause-shorter : goal.returns-in_err-made-clause-shorter
returns-in_err-made-clause-shorter c = rw (err_from_is_err_and c.from_residual-in_err-made.result c.from_residual-in_err-made.ensures.1).1 tt

pub returns-in_err-name-clause-reads : goal.returns-in_err-name-clause-reads
returns-in_err-name-clause-reads c = let p = err_from_is_err_and c.from_residual.result c.from_residual.ensures.1 in rw (p.1, p.2) out_of_memory

pub returns-in_err-name-clause-shorter : goal.returns-in_err-name-clause-shorter
returns-in_err-name-clause-shorter c = rw (err_from_is_err_and c.from_residual.result c.from_residual.ensures.1).1 tt

pub returns-in_err-term-clause-shorter : goal.returns-in_err-term-clause-shorter
returns-in_err-term-clause-shorter c = rw (err_from_is_err_and c.from_residual-in_err-term.result c.from_residual-in_err-term.ensures.1).1 tt
