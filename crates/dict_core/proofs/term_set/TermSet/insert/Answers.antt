use Rattle.std.proofs.Common.{sym, subst, ap, ◌∙◌}
use Rattle.std.specs.List.{list_any, position_or_len}
use Rattle.std.proofs.lemmas.Map.Made.{AllPairs-from_IsDistinct}
use Rattle.indexmap.specs.IndexSet.{insert_key}
use Rattle.rdf_core.proofs.TermLaws.{term_eq}
use Rattle.dict_core.specs.HashedTerms.{terms_in, AreHashed, IsHashed}
use Rattle.dict_core.proofs.HashedLaws.{any_terms, distinct_terms, hashed_decides, hashes_kept, inserted_hashes, inserted_terms, place_terms}
use Rattle.dict_core.proofs.term_set.TermSet.insert.Goals as goal
use Rattle.dict_core.proofs.term_set.TermSet.insert.Goals.{in-Ok, in-Err}

pub invariant_of-self : goal.invariant_of-self
invariant_of-self c =
    let right = subst (λ v. IsHashed v.state c.args.hashed) (sym c.self.view_is) c.requires.hashed in
    elim c.match-insert_full.branch [
      | in-Ok w ↦ hashes_kept _ _ _ _ c.insert_full.ensures.hasher w.in-Ok.ensures.keys (inserted_hashes _ c.args.hashed _ right c.self.invariant)
      | in-Err w ↦ hashes_kept _ _ _ _ c.insert_full.ensures.hasher w.in-Err.ensures.err c.self.invariant
    ]

pub returns-clause-keys : goal.returns-clause-keys
returns-clause-keys c =
    let right = subst (λ v. IsHashed v.state c.args.hashed) (sym c.self.view_is) c.requires.hashed in
    elim c.match-insert_full.branch [
      | in-Ok w ↦ rw w.result-is (ap terms_in w.in-Ok.ensures.keys ∙ inserted_terms _ c.args.hashed _ right c.self.invariant
          ∙ ap (λ v. insert_key term_eq v.keys c.args.hashed.term) c.self.view_is)
      | in-Err w ↦ rw w.result-is tt
    ]

pub returns-clause-index : goal.returns-clause-index
returns-clause-index c =
    let right = subst (λ v. IsHashed v.state c.args.hashed) (sym c.self.view_is) c.requires.hashed in
    elim c.match-insert_full.branch [
      | in-Ok w ↦ rw w.result-is (w.in-Ok.ensures.index ∙ place_terms _ c.args.hashed _ right c.self.invariant
          ∙ ap (λ v. position_or_len (term_eq c.args.hashed.term) v.keys) c.self.view_is)
      | in-Err w ↦ rw w.result-is tt
    ]

pub returns-clause-absent : goal.returns-clause-absent
returns-clause-absent c =
    let right = subst (λ v. IsHashed v.state c.args.hashed) (sym c.self.view_is) c.requires.hashed in
    elim c.match-insert_full.branch [
      | in-Ok w ↦ rw w.result-is tt
      | in-Err w ↦ rw w.result-is (sym (any_terms _ c.args.hashed _ right c.self.invariant ∙ ap (λ v. list_any (term_eq c.args.hashed.term) v.keys) c.self.view_is)
          ∙ w.in-Err.ensures.absent)
    ]

pub returns-clause-distinct : goal.returns-clause-distinct
returns-clause-distinct c =
    let right = subst (λ v. IsHashed v.state c.args.hashed) (sym c.self.view_is) c.requires.hashed in
    let apart = AllPairs-from_IsDistinct hashed_decides _ c.insert_full.ensures.unique in
    elim c.match-insert_full.branch [
      | in-Ok w ↦ distinct_terms _ _ (subst (AreHashed _) (sym w.in-Ok.ensures.keys) (inserted_hashes _ c.args.hashed _ right c.self.invariant)) apart
      | in-Err w ↦ distinct_terms _ _ (subst (AreHashed _) (sym w.in-Err.ensures.err) c.self.invariant) apart
    ]
