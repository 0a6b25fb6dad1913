use Rattle.std.proofs.Common.{[], append-nil, take, ◌++◌, ◌∙◌, sym}
use Rattle.std.specs.List.{cons_option}
use Rattle.quad_index.specs.Matching.{graph_names}
use Rattle.quad_index.proofs.IndexSteps.{names_more}
use Rattle.quad_index.proofs.index.repeated_names.Goals as goal
use Rattle.quad_index.proofs.index.repeated_names.Goals.{in-Some+in_ok-push-in-Some, in-None}

pub loop-place-preserved : goal.loop-place-preserved
loop-place-preserved c =
    let more = names_more c.args.quads.now c.loop-place.place c.get.result c.get.ensures.quad in
    elim c.match-get.branch [
      | in-Some+in_ok-push-in-Some w ↦ rw w.names-is (w.in_ok-push-in-Some.ensures.items ∙ (λ i. c.loop-place.invariant i ++ cons_option (sym w.in-Some.is i) []) ∙ sym more)
      | in-None w ↦ rw w.names-is (c.loop-place.invariant ∙ sym (more ∙ (λ i. graph_names (take c.loop-place.place c.args.quads.now) ++ cons_option (w.in-None.is i) []) ∙ append-nil _))
    ]
