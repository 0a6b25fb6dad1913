use Rattle.std.proofs.Common.{◌≡◌, ◌<◌, sym, subst, length, get_or}
use Rattle.std.proofs.lemmas.Bool.{OnTrue_at}
use Rattle.std.proofs.lemmas.List.Sorted.{IsPermutation-refl}
use Rattle.rdf_core.proofs.TermLaws.{term_eq}
use Rattle.algebra_model.specs.Bag.{IsSameBag}
use Rattle.sparql_eval.specs.Evaluated.{solutions_of}
use Rattle.sparql_eval.proofs.ReadingLaws.{grown_itself}
use Rattle.sparql_eval.proofs.UnitSteps.{join_with_unit}
use Rattle.sparql_eval.proofs.joins.join_of.Goals as goal

pub returns-then-binds_nothing-clause-evaluated : goal.returns-then-binds_nothing-clause-evaluated
returns-then-binds_nothing-clause-evaluated g c =
    let S = solutions_of c.args.dict c.args.right in
    let unit = OnTrue_at c.if-binds_nothing.true c.binds_nothing.ensures.unit in
    let joined = join_with_unit term_eq c.args.dict c.width.result c.args.left c.args.right unit (subst (λ w. (k : _) (d : _) → k < length c.args.right.rows → length (get_or c.args.right.rows k d) ≡ w) (sym c.width.ensures.value) c.width.ensures.wide) in
    record {
      grown = grown_itself c.args.dict;
      wide = sym c.requires.same_width;
      known = c.requires.known_right;
      bag = subst (λ A. IsSameBag S A) joined (IsPermutation-refl S);
    }
