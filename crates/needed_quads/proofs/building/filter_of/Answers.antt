use Rattle.sparql_algebra.specs.AlgebraOf.{algebra_of}
use Rattle.needed_quads.proofs.BuildingLaws.{plan_added}
use Rattle.needed_quads.proofs.building.filter_of.Goals as goal

pub returns-in-Ok : goal.returns-in-Ok
returns-in-Ok c = record {
  needed = plan_added c.new-known.result.items (algebra_of c.args.plan.now.tree) c.new-shapes.result.items c.add_tree.new.shapes.items c.new-known.ensures.items c.in-Ok.ensures.added;
}
