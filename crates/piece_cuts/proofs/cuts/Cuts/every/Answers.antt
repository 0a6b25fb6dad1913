use Rattle.std.proofs.Common.{[]}
use Rattle.std.proofs.lemmas.List.{append-nil}
use Rattle.piece_cuts.proofs.CutLaws.{AreCuts-every}
use Rattle.piece_cuts.proofs.cuts.Cuts.every.Goals as goal

pub returns : goal.returns
returns c =
    let every = rw append-nil at (c.loop-place.invariant.so_far [] c.in_default.ensures.cut) in
    record { places = every; fits = AreCuts-every c.args.doc.now c.args.size 0 c.loop-place.places.items c.requires.some every }
