use Rattle.std.proofs.Common.{◌-◌, ◌≤◌, length, take}
use Rattle.std.specs.Io.KnownBytes.{Appends}
use Rattle.nquads_core.specs.Device.{Stays}
use Rattle.nquads_core.proofs.transfer.write_all.Given as goal

abbrev pub invariant-loop-at : goal.invariant-loop-at
invariant-loop-at g l = record {
  within : l.at ≤ length l.text;
  appended : Appends (g.K.Sink.held l.initial.writer) (g.K.Sink.held l.writer) (take l.at l.text);
  count : Stays (g.K.Sink.failures l.initial.writer) (g.K.Sink.failures l.writer);
}

abbrev pub decreases-loop-at : goal.decreases-loop-at
decreases-loop-at g l = length l.text - l.at
