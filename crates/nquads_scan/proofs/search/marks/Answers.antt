use Rattle.std.proofs.Common.{refl}
use Rattle.nquads_scan.proofs.SearchLaws.{marks_are}
use Rattle.nquads_scan.proofs.search.marks.Goals as goal

pub returns : goal.returns
returns c = marks_are c.args.a c.args.b c.args.lanes _ c.fits-lanes.0 refl
