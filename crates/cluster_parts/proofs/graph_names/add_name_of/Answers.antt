use Rattle.std.proofs.Common.{List, ℕ, subst}
use Rattle.text_dict.specs.TextDict.{IsAdded}
use Rattle.cluster_parts.proofs.PartSteps.{name_added}
use Rattle.cluster_parts.proofs.graph_names.add_name_of.Goals as goal

pub returns-in_ok-intern-in-Some : goal.returns-in_ok-intern-in-Some
returns-in_ok-intern-in-Some c = record {
  names = name_added _ _ c.args.texts.now.texts c.args.quad.now.g c.in-Some.number c.in-Some.is (c.requires.below.3 c.in-Some.number c.in-Some.is)
      (subst (λ (t : List ℕ). IsAdded c.args.known.now.texts t c.intern.new.self.texts) c.text_of.ensures.value c.in_ok-intern-in-Some.ensures.added);
}
