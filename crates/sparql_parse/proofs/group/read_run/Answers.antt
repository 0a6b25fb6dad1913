use Rattle.std.proofs.Common.{Ok, Err, refl, sym, ap, ◌∙◌, subst}
use Rattle.std.proofs.lemmas.Result.{err_from_is_err_and}
use Rattle.sparql_lexer.specs.Terminal.{terminals}
use Rattle.sparql_tree.specs.GroupTree.{element_of, group_of}
use Rattle.sparql_tree.specs.GroupTree as g
use Rattle.sparql_grammar.specs.Symbol as the
use Rattle.sparql_expression.specs.ParseResult.{Parses}
use Rattle.sparql_expression.proofs.Steps.{begin, then_read, part_fails, enter, here, left, branch, passed_by, out_of_memory}
use Rattle.sparql_parse.proofs.ValueSteps.{others_at}
use Rattle.sparql_parse.proofs.ElementSteps.{triples_seen}
use Rattle.sparql_parse.proofs.GroupSteps.{group-push, is_run}
use Rattle.sparql_parse.proofs.group.read_run.Goals as goal

pub returns-then-not-starts_place-clause-reads : goal.returns-then-not-starts_place-clause-reads
returns-then-not-starts_place-clause-reads c = is_run (enter (passed_by (begin c.args.names.now (the.body (group_of c.args.elements.now.items)) (terminals c.args.tokens.now)) refl (sym c.if-not-starts_place.ensures.value)))

pub returns-in_err-rest-clause-reads : goal.returns-in_err-rest-clause-reads
returns-in_err-rest-clause-reads c = (let p = err_from_is_err_and c.from_residual.result c.from_residual.ensures.1 in rw (p.1, p.2) (part_fails (branch (begin c.args.names.now (the.body (group_of c.args.elements.now.items)) (terminals c.args.tokens.now)) (left here) (sym c.if-not-starts_place.ensures.value)) (subst (λ xs. Parses c.args.names.now (the.triples xs) (terminals c.args.tokens.now) (Err c.in_err-rest.field-0.0)) c.new-triples.ensures.items c.in_err-rest.ensures.reads)))

pub returns-clause-reads : goal.returns-clause-reads
returns-clause-reads c = is_run (others_at (sym (ap group_of c.in_ok-push.ensures.items ∙ group-push c.args.elements.now.items _ ∙ ap (g.then (group_of c.args.elements.now.items)) (triples_seen _))) (enter (then_read (branch (begin c.args.names.now (the.body (group_of c.args.elements.now.items)) (terminals c.args.tokens.now)) (left here) (sym c.if-not-starts_place.ensures.value)) (subst (λ xs. Parses c.args.names.now (the.triples xs) (terminals c.args.tokens.now) (Ok (c.read_triples.new.triples.items, terminals c.in_ok-rest.rest.now))) c.new-triples.ensures.items c.in_ok-rest.ensures.reads))))

-- ---- the exits with an error

pub returns-in_err-push-clause-reads : goal.returns-in_err-push-clause-reads
returns-in_err-push-clause-reads c = let p = err_from_is_err_and c.from_residual-in_err-push.result c.from_residual-in_err-push.ensures.1 in rw (p.1, p.2) out_of_memory

pub returns-in_err-push-clause-shorter : goal.returns-in_err-push-clause-shorter
returns-in_err-push-clause-shorter c = rw (err_from_is_err_and c.from_residual-in_err-push.result c.from_residual-in_err-push.ensures.1).1 tt

pub returns-in_err-rest-clause-shorter : goal.returns-in_err-rest-clause-shorter
returns-in_err-rest-clause-shorter c = rw (err_from_is_err_and c.from_residual.result c.from_residual.ensures.1).1 tt
