use Rattle.std.proofs.Common.{ap, ◌∙◌, position, subst, sym}
use Rattle.std.specs.List.{list_any}
use Rattle.rdf_core.proofs.TermLaws.{term_eq}
use Rattle.dict_core.specs.declared.hashed_term.HashedTerm.{HashedTerm}
use Rattle.dict_core.specs.HashedTerms.{IsHashed}
use Rattle.dict_core.proofs.HashedLaws.{any_terms, position_terms}
use Rattle.dict_core.proofs.term_set.TermSet.place.Goals as goal

pub returns : goal.returns
returns c =
    let wanted : HashedTerm = record { hash = c.args.hash; term = c.args.term.now } in
    let right = subst (λ v. IsHashed v.state wanted) (sym c.self.view_is) c.requires.hashed in record {
      value = c.get_index_of.ensures.index ∙ position_terms _ wanted c.self.inside.hashed.keys right c.self.invariant ∙ ap (λ v. position (term_eq c.args.term.now) v.keys) c.self.view_is;
      found = c.get_index_of.ensures.found ∙ any_terms _ wanted c.self.inside.hashed.keys right c.self.invariant ∙ ap (λ v. list_any (term_eq c.args.term.now) v.keys) c.self.view_is;
    }
