use Rattle.std.proofs.Common.{◌≡◌, List, ◌++◌, length, sym, ap, ◌∙◌, subst, rules, arith}
use Rattle.std.proofs.lemmas.List.{append-nil}
use Rattle.std.proofs.lemmas.List.Elements.{All-head, All-tail}
use Rattle.indexmap.specs.IndexSet.{insert_all}
use Rattle.rdf_core.proofs.TermLaws.{term_eq}
use Rattle.dict_core.specs.declared.hashed_term.HashedTerm.{HashedTerm}
use Rattle.dict_core.specs.Inserting.{places_in}
use Rattle.dict_core.specs.HashedTerms.{terms_in, AreHashed, IsHashed}
use Rattle.dict_core.proofs.PlaceLaws.{inserted_one, placed_one}
use Rattle.dict_core.proofs.inserting.insert_terms.Goals as goal

pub insert_reserved-place-requires-clause-hashed : goal.insert_reserved-place-requires-clause-hashed
insert_reserved-place-requires-clause-hashed c =
    All-head (IsHashed c.state-from.result) _ _ (subst (AreHashed c.state-from.result) c.in-Some.ensures.steps c.loop-hashed.invariant.hashed)

pub loop-hashed-preserved : goal.loop-hashed-preserved
loop-hashed-preserved c =
    let was = c.loop-hashed.invariant in
    let steps = c.in-Some.ensures.steps in record {
      room = search rules;
      spare_is = omega (arith, was.spare_is, ap length steps, c.insert_reserved-place.ensures.spare);
      hashed = All-tail (IsHashed _) _ _ (subst (AreHashed _) steps was.hashed);
      keys = inserted_one _ _ c.in-Some.hashed.term _ _ _ c.insert_reserved-place.ensures.keys (ap terms_in steps) was.keys;
      places = placed_one c.loop-hashed.set.keys _ c.in-Some.hashed.term _ _ _ _ c.insert_reserved-place.result _ c.insert_reserved-place.ensures.keys c.insert_reserved-place.ensures.index (ap terms_in steps) c.push_reserved.ensures.items was.places;
      distinct = c.insert_reserved-place.ensures.distinct;
    }

pub returns-clause-keys : goal.returns-clause-keys
returns-clause-keys c =
    subst (λ (l : List HashedTerm). insert_all term_eq c.loop-hashed.set.keys (terms_in l) ≡ insert_all term_eq c.args.set.now.keys c.args.terms.keys) c.in-None.ensures.steps.0 c.loop-hashed.invariant.keys

pub returns-clause-places : goal.returns-clause-places
returns-clause-places c =
    sym (append-nil c.loop-hashed.places.items)
    ∙ subst (λ (l : List HashedTerm). c.loop-hashed.places.items ++ places_in c.loop-hashed.set.keys (terms_in l) ≡ places_in c.args.set.now.keys c.args.terms.keys) c.in-None.ensures.steps.0 c.loop-hashed.invariant.places
