use Rattle.std.proofs.Common.{take}
use Rattle.std.specs.Io.KnownBytes.{Appends}
use Rattle.nquads_core.specs.Device.{Stays}
use Rattle.result_json.specs.Results.{joined_blocks}
use Rattle.spq_core.proofs.program.write_blocks.Given as goal

abbrev pub invariant-loop-block : goal.invariant-loop-block
invariant-loop-block g l = record {
  appended : Appends (g.K.Sink.held l.initial.writer) (g.K.Sink.held l.writer) (joined_blocks (take l.block-index l.blocks));
  count : Stays (g.K.Sink.failures l.initial.writer) (g.K.Sink.failures l.writer);
}
