use Rattle.std.proofs.Common.{◌∙◌}
use Rattle.sparql_algebra.specs.AlgebraOf.{algebra_of}
use Rattle.needed_quads.specs.Restriction.{restrictions}
use Rattle.needed_quads.proofs.RestrictedSteps.{nothing_added}
use Rattle.needed_quads.proofs.building.add_unless.Goals as goal

pub returns-then-has_expression : goal.returns-then-has_expression
returns-then-has_expression c = record {
  restricted = nothing_added (restrictions (algebra_of c.args.tree.now)) c.args.known.now.items c.add_restricted.new.known.items c.truncate.new.self.items
      c.len-outer.result (c.len-outer.ensures ∙ c.args.known.now.ok.0) c.truncate.ensures.items c.in_ok-add_restricted.ensures.restricted;
}
