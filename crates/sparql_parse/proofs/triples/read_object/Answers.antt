use Rattle.std.proofs.lemmas.Result.{err_from_is_err_and}
use Rattle.sparql_expression.proofs.Steps.{out_of_memory}
use Rattle.sparql_parse.proofs.TripleSteps.{and_copied}
use Rattle.sparql_parse.proofs.triples.read_object.Goals as goal

pub returns-in_err-object-clause-reads : goal.returns-in_err-object-clause-reads
returns-in_err-object-clause-reads c =
    let p = err_from_is_err_and c.from_residual.result c.from_residual.ensures.1 in
    rw (p.1, p.2) c.in_err-object.ensures.reads

pub returns-clause-reads : goal.returns-clause-reads
returns-clause-reads c = record { object = c.in_ok-object.object; reads = c.in_ok-object.ensures.reads; triples = and_copied c.args.triples.now.items c.in_ok-object.object c.in_ok-push.ensures.items c.in_ok-copy_place.ensures.equal c.in_ok-copy_place-2.ensures.equal }

-- ---- the exits with an error

pub returns-in_err-copy_place-2-clause-reads : goal.returns-in_err-copy_place-2-clause-reads
returns-in_err-copy_place-2-clause-reads c = let p = err_from_is_err_and c.from_residual-in_err-copy_place-2.result c.from_residual-in_err-copy_place-2.ensures.1 in rw (p.1, p.2) out_of_memory

pub returns-in_err-copy_place-2-clause-shorter : goal.returns-in_err-copy_place-2-clause-shorter
returns-in_err-copy_place-2-clause-shorter c = rw (err_from_is_err_and c.from_residual-in_err-copy_place-2.result c.from_residual-in_err-copy_place-2.ensures.1).1 tt

pub returns-in_err-copy_place-clause-reads : goal.returns-in_err-copy_place-clause-reads
returns-in_err-copy_place-clause-reads c = let p = err_from_is_err_and c.from_residual-in_err-copy_place.result c.from_residual-in_err-copy_place.ensures.1 in rw (p.1, p.2) out_of_memory

pub returns-in_err-copy_place-clause-shorter : goal.returns-in_err-copy_place-clause-shorter
returns-in_err-copy_place-clause-shorter c = rw (err_from_is_err_and c.from_residual-in_err-copy_place.result c.from_residual-in_err-copy_place.ensures.1).1 tt

pub returns-in_err-object-clause-shorter : goal.returns-in_err-object-clause-shorter
returns-in_err-object-clause-shorter c = rw (err_from_is_err_and c.from_residual.result c.from_residual.ensures.1).1 tt

pub returns-in_err-push-clause-reads : goal.returns-in_err-push-clause-reads
returns-in_err-push-clause-reads c = let p = err_from_is_err_and c.from_residual-in_err-push.result c.from_residual-in_err-push.ensures.1 in rw (p.1, p.2) out_of_memory

pub returns-in_err-push-clause-shorter : goal.returns-in_err-push-clause-shorter
returns-in_err-push-clause-shorter c = rw (err_from_is_err_and c.from_residual-in_err-push.result c.from_residual-in_err-push.ensures.1).1 tt
