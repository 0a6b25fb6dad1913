use Rattle.std.proofs.Common.{[]}
use Rattle.nquads_core.specs.Device.{Stays}
use Rattle.nquads_core.specs.Transfer.{IsReadInPart}
use Rattle.dataset_load.specs.Ahead.{IsSpent}
use Rattle.dataset_load.proofs.rest.skip_rest.Given as goal

abbrev pub invariant-loop : goal.invariant-loop
invariant-loop g l = record {
  part : IsReadInPart (g.S.Source.left l.fn.reader) (g.S.Source.left l.reader);
  spent : IsSpent l.counter (g.S.Source.left l.fn.reader) (g.S.Source.left l.reader) [];
  failures : Stays (g.S.Source.failures l.fn.reader) (g.S.Source.failures l.reader);
}
