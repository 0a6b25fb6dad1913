use Rattle.std.proofs.Common.{◌≡◌, length, ap, ◌∙◌}
use Rattle.sparql_tree.specs.QueryTree.{query_of}
use Rattle.algebra_model.specs.Algebra.{is_within}
use Rattle.sparql_algebra.specs.AlgebraOf.{algebra_of}
use Rattle.sparql_algebra.specs.Names.{names_of}
use Rattle.sparql_algebra.specs.Translation.{translate}
use Rattle.sparql_algebra.proofs.WithinLaws.{translated_within}
use Rattle.sparql_algebra.proofs.translation.translate.Goals as goal

pub invariant_of-result : goal.invariant_of-result
invariant_of-result c =
    let query = query_of c.args.query.now in
    let names = c.in_ok-names-2.ensures.names ∙ c.in_ok-names.ensures.names in
    let tree = ap algebra_of c.into_inner-tree.ensures ∙ c.in_ok-boxed.ensures.tree in
    let same : is_within (length c.in_ok-names-2.names.items) (algebra_of c.into_inner-tree.result) ≡ is_within (length (names_of query)) (translate query).algebra =
    λ i. is_within (length (names i)) (tree i) in
    record { within = same ∙ translated_within query }
