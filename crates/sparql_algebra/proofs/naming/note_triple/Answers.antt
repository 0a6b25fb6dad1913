use Rattle.std.proofs.Common.{◌++◌}
use Rattle.std.proofs.lemmas.Result.{on_err_weaker}
use Rattle.sparql_tree.specs.Scope.{place_names}
use Rattle.sparql_algebra.proofs.NameSteps.{at_refusal, noted_after, noted_first}
use Rattle.sparql_algebra.proofs.naming.note_triple.Goals as goal

pub returns-in_err-note_place-clause-in_part : goal.returns-in_err-note_place-clause-in_part
returns-in_err-note_place-clause-in_part c =
    let t = c.args.triple.now in
    at_refusal c.from_residual.result
    (noted_first (place_names t.subject) (place_names t.predicate ++ place_names t.object) c.args.names.now c.note_place.new.names c.in_err-note_place.ensures.in_part)

pub returns-in_err-note_place-2-clause-in_part : goal.returns-in_err-note_place-2-clause-in_part
returns-in_err-note_place-2-clause-in_part c =
    let t = c.args.triple.now in
    at_refusal c.from_residual-in_err-note_place-2.result
    (noted_after (place_names t.subject) (place_names t.predicate ++ place_names t.object) c.args.names.now c.note_place.new.names c.note_place-2.new.names c.in_ok-note_place.ensures.noted
    (noted_first (place_names t.predicate) (place_names t.object) c.note_place.new.names c.note_place-2.new.names c.in_err-note_place-2.ensures.in_part))

pub returns-clause-in_part : goal.returns-clause-in_part
returns-clause-in_part c =
    let t = c.args.triple.now in
    on_err_weaker c.note_place-3.result
    (λ part. noted_after (place_names t.subject) (place_names t.predicate ++ place_names t.object) c.args.names.now c.note_place.new.names c.note_place-3.new.names c.in_ok-note_place.ensures.noted
    (noted_after (place_names t.predicate) (place_names t.object) c.note_place.new.names c.note_place-2.new.names c.note_place-3.new.names c.in_ok-note_place-2.ensures.noted part))
    c.note_place-3.ensures.in_part
