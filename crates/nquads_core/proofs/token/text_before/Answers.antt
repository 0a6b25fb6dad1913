use Rattle.std.proofs.Common.{◌≡◌, ◌-◌, length, ap, arith, length-append}
use Rattle.std.proofs.lemmas.Str.{IsCharBoundary-at_seam}
use Rattle.nquads_core.proofs.token.text_before.Goals as goal

pub range-requires-clause-end_boundary : goal.range-requires-clause-end_boundary
range-requires-clause-end_boundary c =
    let e : length c.args.text.now - length c.args.rest.now ≡ length c.requires.0 = omega (arith, ap length c.requires.1, length-append c.requires.0 c.args.rest.now) in
    rw e (IsCharBoundary-at_seam c.args.text.now c.requires.0 c.args.rest.now c.requires.1 c.utf8.rest)
