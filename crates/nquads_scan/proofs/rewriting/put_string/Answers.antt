use Rattle.std.proofs.Common.{List, ℕ, ◌∷◌, get_or, sym, ap, ◌∙◌, arith}
use Rattle.nquads_core.proofs.CutLaws.{after_byte}
use Rattle.nquads_scan.proofs.PlainLaws.{first_then}
use Rattle.nquads_scan.proofs.RewritingSteps.{put_close, put_none, put_then}
use Rattle.nquads_scan.proofs.rewriting.put_string.Goals as goal

pub loop-rest-init : goal.loop-rest-init
loop-rest-init c = put_none c.args.text.now c.args.out.now.items c.utf8.text

pub loop-rest-preserved : goal.loop-rest-preserved
loop-rest-preserved c =
    put_then c.args.text.now c.args.out.now.items c.loop-rest.out.items c.put_part.new.out.items c.loop-rest.rest.now c.in-Some.after.now c.loop-rest.invariant (rw c.in-Some.is at c.in_ok-after.ensures.put)

pub range_from-requires : goal.range_from-requires
range_from-requires c =
    λ _. after_byte c.loop-rest.rest.now 0 34 c.loop-rest.invariant.utf8 (sym (ap (λ (y : List ℕ). get_or y 0 0) c.as_bytes.ensures.value) ∙ c.if-as_bytes-eq34.true) (omega arith) (omega arith)

pub returns-then-as_bytes-eq34-clause-put : goal.returns-then-as_bytes-eq34-clause-put
returns-then-as_bytes-eq34-clause-put c =
    put_close c.args.text.now c.args.out.now.items c.loop-rest.out.items c.loop-rest.rest.now c.range_from.result.now c.loop-rest.invariant
    (first_then c.loop-rest.rest.now 34 (omega arith) (sym (ap (λ (y : List ℕ). get_or y 0 0) c.as_bytes.ensures.value) ∙ c.if-as_bytes-eq34.true) ∙ ap (λ (y : List ℕ). 34 ∷ y) (sym c.range_from.ensures.value))
    c.range_from.utf8
