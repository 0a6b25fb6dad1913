use Rattle.nquads_core.proofs.TransferSteps.{Consumes-start, Consumes-more, Stays-start, Stays-stays, fault_counts, in-part-more}
use Rattle.part_core.proofs.reading.read_input.Goals as goal

pub loop-bytes-init : goal.loop-bytes-init
loop-bytes-init g c = record {
  consumed = rw c.new-bytes.ensures.items (Consumes-start _);
  count = Stays-start _;
}

pub loop-bytes-preserved : goal.loop-bytes-preserved
loop-bytes-preserved g c =
    let was = c.loop-bytes.invariant in
    let more = c.in-Ok.ensures.more in record {
      consumed = rw more.appended (Consumes-more _ _ _ c.loop-bytes.bytes.items more.added was.consumed more.consumed);
      count = Stays-stays _ _ _ was.count c.in-Ok.ensures.count;
    }

pub returns-in-Ok-eq0 : goal.returns-in-Ok-eq0
returns-in-Ok-eq0 g c =
    let was = c.loop-bytes.invariant in
    let more = c.in-Ok-eq0.ensures.more in record {
      bytes = rw more.appended (Consumes-more _ _ _ c.loop-bytes.bytes.items more.added was.consumed more.consumed);
      at_end = more.at_end c.in-Ok-eq0.field-0-test;
      taken = tt;
      count = Stays-stays _ _ _ was.count c.in-Ok-eq0.ensures.count;
    }

pub returns-in-Err-clause-taken : goal.returns-in-Err-clause-taken
returns-in-Err-clause-taken g c = in-part-more _ _ _ c.loop-bytes.bytes.items c.loop-bytes.invariant.consumed c.in-Err.ensures.taken

pub returns-in-Err-clause-count : goal.returns-in-Err-clause-count
returns-in-Err-clause-count g c = fault_counts _ _ _ c.in-Err.fault c.loop-bytes.invariant.count c.in-Err.ensures.count
