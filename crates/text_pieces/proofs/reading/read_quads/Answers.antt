use Rattle.std.proofs.Common.{map}
use Rattle.rdf_core.specs.QuadParts.{parts_of}
use Rattle.nquads_core.specs.Lines.{lines}
use Rattle.text_pieces.proofs.AddingLaws.{occur_all, read_by_quads}
use Rattle.text_pieces.proofs.reading.read_quads.Goals as goal

pub number_quads-requires : goal.number_quads-requires
number_quads-requires c = record { occur = occur_all (lines c.args.bytes.now) (map parts_of c.in-Ok.piece.quads.items) c.in-Ok.ensures.quads }

pub returns-in-Ok-number_quads-clause-read : goal.returns-in-Ok-number_quads-clause-read
returns-in-Ok-number_quads-clause-read c =
    read_by_quads c.args.filter.now c.args.dict.now.texts c.args.bytes.now (map parts_of c.in-Ok.piece.quads.items) _ c.in-Ok.ensures.quads c.in-Ok.ensures.lines
    c.in-Ok-number_quads.ensures.numbered c.len.ensures.value
