use Rattle.std.proofs.Common.{take, refl, sym, subst, arith}
use Rattle.std.proofs.lemmas.List.{length-take-le}
use Rattle.line_diagnosis.specs.Reasons.{IsReason}
use Rattle.line_diagnosis.proofs.FrontLaws.{explained_of, walk_formed, walk_malformed, walk_place, walk_reason}
use Rattle.line_diagnosis.proofs.diagnosis.diagnose.Goals as goal

pub slice_bounds-placed-end : goal.slice_bounds-placed-end
slice_bounds-placed-end c =
    let p = walk_place c.args.line.now c.text_of-broken.result.0.now c.read_front-walk.result c.text_of-broken.ensures.longest c.read_front-walk.ensures in
    omega (arith, p.in_line, length-take-le c.read_front-walk.result.offset c.args.line.now p.in_line)

pub placed-requires-clause-utf8 : goal.placed-requires-clause-utf8
placed-requires-clause-utf8 c =
    let p = walk_place c.args.line.now c.text_of-broken.result.0.now c.read_front-walk.result c.text_of-broken.ensures.longest c.read_front-walk.ensures in
    p.characters

pub returns-in_err-first-clause-well_formed : goal.returns-in_err-first-clause-well_formed
returns-in_err-first-clause-well_formed c =
    rw c.from_residual.ensures
    (walk_formed c.args.line.now c.text_of-broken.result.0.now c.read_front-walk.result c.text_of-broken.result.1 c.text_of-broken.ensures.longest c.text_of-broken.ensures.broken c.read_front-walk.ensures c.in_err-first.ensures)

pub returns-clause-bad : goal.returns-clause-bad
returns-clause-bad c =
    walk_malformed c.args.line.now c.text_of-broken.result.0.now c.read_front-walk.result c.text_of-broken.result.1 c.in_ok-first.first c.text_of-broken.ensures.longest c.text_of-broken.ensures.broken
    c.read_front-walk.ensures c.in_ok-first.ensures

pub returns-clause-explained : goal.returns-clause-explained
returns-clause-explained c =
    let line = c.args.line.now in
    let text = c.text_of-broken.result.0.now in
    let w = c.read_front-walk.result in
    let first = walk_reason line text w c.text_of-broken.result.1 c.in_ok-first.first c.text_of-broken.ensures.longest c.text_of-broken.ensures.broken c.read_front-walk.ensures c.in_ok-first.ensures in
    let reason = subst (IsReason line w.offset) (sym c.placed.ensures.reason) (c.refined-reason.ensures first) in
    explained_of line text (take w.offset line) w c.placed.result c.text_of-broken.ensures.longest c.read_front-walk.ensures reason refl c.placed.ensures.offset
    c.placed.ensures.column c.placed.ensures.characters c.placed.ensures.bytes
