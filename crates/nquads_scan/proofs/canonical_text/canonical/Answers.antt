use Rattle.std.proofs.Common.{sym, ◌∙◌}
use Rattle.nquads_scan.proofs.FormSteps.{found_same}
use Rattle.nquads_scan.proofs.canonical_text.canonical.Goals as goal

pub returns-then-eq-clause-found : goal.returns-then-eq-clause-found
returns-then-eq-clause-found c =
    let put = rw c.if-not-branch.false at c.in_ok-put_canonical.ensures.put in
    found_same c.args.raw.now c.args.out.now.items c.put_canonical.new.out.items c.deref.result.now c.as_bytes.result.now c.truncate.new.self.items put.0 c.len-start.result
    put.1 put.2 (c.len-start.ensures ∙ c.args.out.now.ok.0) c.deref.ensures.value (sym c.if-eq.ensures) c.as_bytes.ensures.value c.truncate.ensures.items

pub returns-then-not-branch-clause-complete : goal.returns-then-not-branch-clause-complete
returns-then-not-branch-clause-complete c = c.in_ok-put_canonical.ensures.complete c.if-not-branch.true
