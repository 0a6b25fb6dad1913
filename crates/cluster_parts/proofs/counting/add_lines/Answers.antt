use Rattle.std.proofs.Common.{◌≡◌, ◌∷◌, ◌++◌, []}
use Rattle.cluster_parts.proofs.TermSteps.{all_known_now, no_line, nothing_left, one_more_line}
use Rattle.cluster_parts.proofs.counting.add_lines.Goals as goal

pub loop-rest-init : goal.loop-rest-init
loop-rest-init c = ([], no_line c.args.known.now c.args.text.now)

pub loop-rest-preserved : goal.loop-rest-preserved
loop-rest-preserved c =
    let was = c.loop-rest.invariant in (
      was.0 ++ c.first_line.result.0.now ∷ [],
      one_more_line c.args.known.now c.loop-rest.known c.add_line.new.known c.args.text.now was.0 c.loop-rest.rest.now c.first_line.result.0.now c.first_line.result.1.now was.1
          c.first_line.ensures.lines c.in_ok-add_line.ensures.known,
    )

pub returns : goal.returns
returns c =
    let was = c.loop-rest.invariant in
    let none : c.loop-rest.rest.now ≡ [] = nothing_left _ _ c.is_empty.ensures c.loop-rest-test.false in
    record { known = all_known_now c.args.known.now c.loop-rest.known c.args.text.now was.0 c.loop-rest.rest.now was.1 none }
