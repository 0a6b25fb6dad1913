use Rattle.std.proofs.Common.{◌∙◌, sym}
use Rattle.quad_index.proofs.PartSteps.{name_added, no_name_added}
use Rattle.quad_index.proofs.parts.some_names.Goals as goal
use Rattle.quad_index.proofs.parts.some_names.Goals.{in-Some+in_ok-add_name, in_default}

pub loop-place-preserved : goal.loop-place-preserved
loop-place-preserved c n =
    let qs = c.args.quads.now in
    elim c.match-get.branch [
      | in-Some+in_ok-add_name w ↦ rw w.names-is (name_added qs c.loop-place.place c.get.result c.get.ensures.quad _ n _ _ w.in-Some.is (c.loop-place.invariant n) (w.in_ok-add_name.ensures.added n))
      | in_default w ↦ rw w.names-is (c.loop-place.invariant n ∙ sym (no_name_added qs c.loop-place.place c.get.result c.get.ensures.quad n w.in_default.is))
    ]
