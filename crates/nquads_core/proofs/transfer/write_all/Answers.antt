use Rattle.std.proofs.Common.{◌-◌, length, drop, take, inl, inr, arith, rules}
use Rattle.std.proofs.lemmas.List.{take_all, length-drop}
use Rattle.std.specs.Io.KnownBytes.{Appends}
use Rattle.nquads_core.specs.Transfer.{WroteBeginning}
use Rattle.nquads_core.proofs.TransferSteps.{Appends-keeps, Appends-next, Appends-none, Appends-start, Stays-rises, Stays-start, Stays-stays, on_error}
use Rattle.nquads_core.proofs.transfer.write_all.Goals as goal

pub loop-at-init : goal.loop-at-init
loop-at-init g c = record {
  within = omega arith;
  appended = Appends-start _;
  count = Stays-start _;
}

pub loop-at-preserved : goal.loop-at-preserved
loop-at-preserved g c =
    let was = c.loop-at.invariant in record {
      within = search rules;
      appended = Appends-next _ _ _ c.args.text.now c.loop-at.at c.in_ok-n.n was.appended c.in_ok-n.ensures.bytes;
      count = Stays-stays _ _ _ was.count c.in_ok-n.ensures.count;
    }

pub returns : goal.returns
returns g c =
    let was = c.loop-at.invariant in record {
      ok = rw (take_all c.loop-at.at c.args.text.now c.loop-at-test.false) at was.appended;
      ok_count = was.count;
      failed = tt;
      failed_count = tt;
    }

pub returns-then-n-eq0 : goal.returns-then-n-eq0
returns-then-n-eq0 g c =
    let was = c.loop-at.invariant in
    let text = c.args.text.now in
    let at = c.loop-at.at in
    let written : Appends (g.K.Sink.held c.args.writer.now) (g.K.Sink.held c.write.new.self) (take at text) =
    Appends-none _ _ _ (take at text) was.appended (rw c.if-n-eq0.true at c.in_ok-n.ensures.bytes) in record {
      ok = tt;
      ok_count = tt;
      failed = record { count = at; short = c.loop-at-test.true; appended = written };
      failed_count = inr (
        record {
          before = c.loop-at.writer;
          at = at;
          left = c.loop-at-test.true;
          written = written;
          none = rw (take_all (length text - at) (drop at text) (omega (arith, length-drop at text)), c.if-n-eq0.true) at c.in_ok-n.ensures.gives;
        },
        Stays-stays _ _ _ was.count c.in_ok-n.ensures.count,
      );
    }

pub returns-in_err-n-clause-failed : goal.returns-in_err-n-clause-failed
returns-in_err-n-clause-failed g c =
    let was = c.loop-at.invariant in
    let wrote : WroteBeginning (g.K.Sink.held c.args.writer.now) (g.K.Sink.held c.write.new.self) c.args.text.now =
    record { count = c.loop-at.at; short = c.loop-at-test.true; appended = Appends-keeps _ _ _ (take c.loop-at.at c.args.text.now) was.appended c.in_err-n.ensures.bytes } in
    on_error _ _ wrote

pub returns-in_err-n-clause-failed_count : goal.returns-in_err-n-clause-failed_count
returns-in_err-n-clause-failed_count g c =
    on_error _ _ (inl (Stays-rises _ _ _ c.loop-at.invariant.count c.in_err-n.ensures.count))
