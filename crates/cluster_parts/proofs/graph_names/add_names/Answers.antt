use Rattle.std.proofs.lemmas.List.{take_all}
use Rattle.cluster_parts.proofs.PartSteps.{names_are, no_names, one_more_name}
use Rattle.cluster_parts.proofs.graph_names.add_names.Goals as goal

pub loop-quad-init : goal.loop-quad-init
loop-quad-init c = no_names c.args.texts.now.texts c.args.known.now.texts c.requires.none

pub loop-quad-preserved : goal.loop-quad-preserved
loop-quad-preserved c =
    one_more_name c.args.texts.now.texts c.loop-quad.known.texts c.add_name_of.new.known.texts c.args.quads.now c.loop-quad.quad-index _
    c.loop-quad-test.true c.loop-quad.invariant c.in_ok-add_name_of.ensures.names

pub returns : goal.returns
returns c = record {
  names = λ all h. names_are all c.args.texts.now.texts c.loop-quad.known.texts c.args.quads.now _
      (take_all c.loop-quad.quad-index c.args.quads.now c.loop-quad-test.false) c.loop-quad.invariant h;
}
