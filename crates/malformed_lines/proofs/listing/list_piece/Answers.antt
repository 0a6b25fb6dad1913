use Rattle.std.proofs.Common.{refl, sym}
use Rattle.std.proofs.lemmas.List.{nil_from_length}
use Rattle.std.proofs.lemmas.Bool.{eqb-true}
use Rattle.nquads_core.specs.Lines.{lines}
use Rattle.malformed_lines.proofs.ListSteps.{all_listed, block_more, one_more, plain_listed, still_listed}
use Rattle.malformed_lines.proofs.listing.list_piece.Goals as goal

pub returns-clause-listed : goal.returns-clause-listed
returns-clause-listed c = still_listed (lines c.args.bytes.now) c.loop-rest.list _
    (all_listed c.loop-rest.list c.loop-rest.rest.now c.args.bytes.now c.loop-rest.invariant (nil_from_length c.loop-rest.rest.now (eqb-true _ _ (sym c.loop-rest-test.ensures))))
    refl refl refl refl

pub loop-rest-init : goal.loop-rest-init
loop-rest-init c =
    let front = c.skip_plain_lines-plain.ensures.lines in
    plain_listed c.after-list.result c.skip_plain_lines-plain.result.0 c.skip_plain_lines-plain.result.1.now c.args.bytes.now front.0 front.1 c.after-list.ensures.listed c.after-list.ensures.lines c.skip_plain_lines-plain.ensures.shorter

pub loop-rest-preserved-in-Some : goal.loop-rest-preserved-in-Some
loop-rest-preserved-in-Some c =
    let has = rw c.in-Some.is at c.in_ok-count.ensures.lines in
    block_more c.loop-rest.list c.add_well_formed.new.self c.in-Some.count c.loop-rest.rest.now c.in-Some.after.now c.args.bytes.now has.0 c.loop-rest.invariant has.1
    (rw c.in-Some.is at c.in_ok-count.ensures.fewer) c.add_well_formed.ensures.listed c.add_well_formed.ensures.lines

pub loop-rest-preserved-then-list-before : goal.loop-rest-preserved-then-list-before
loop-rest-preserved-then-list-before c =
    one_more c.loop-rest.list c.add_line.new.self c.loop-rest.rest.now c.first_line.result.1.now c.args.bytes.now c.first_line.result.0.now c.loop-rest.invariant
    c.first_line.ensures.lines c.first_line.ensures.shorter c.in_ok-add_line.ensures.listed c.in_ok-add_line.ensures.lines

pub loop-rest-preserved : goal.loop-rest-preserved
loop-rest-preserved c =
    one_more c.loop-rest.list c.add_line.new.self c.loop-rest.rest.now c.first_line.result.1.now c.args.bytes.now c.first_line.result.0.now c.loop-rest.invariant
    c.first_line.ensures.lines c.first_line.ensures.shorter c.in_ok-add_line.ensures.listed c.in_ok-add_line.ensures.lines
