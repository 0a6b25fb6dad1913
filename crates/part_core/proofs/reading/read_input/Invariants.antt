use Rattle.std.proofs.Common.{◌-◌, ◌^◌, vec_len}
use Rattle.std.specs.Io.KnownBytes.{Consumes}
use Rattle.nquads_core.specs.Device.{Stays}
use Rattle.part_core.proofs.reading.read_input.Given as goal

abbrev pub invariant-loop-bytes : goal.invariant-loop-bytes
invariant-loop-bytes g l = record {
  consumed : Consumes (g.S.Source.left l.initial.reader) (g.S.Source.left l.reader) l.bytes.items;
  count : Stays (g.S.Source.failures l.initial.reader) (g.S.Source.failures l.reader);
}

abbrev pub decreases-loop-bytes : goal.decreases-loop-bytes
decreases-loop-bytes g l = 2 ^ 63 - vec_len l.bytes
