use Rattle.std.proofs.Common.{◌≡◌, ◌≤◌, ◌+◌, length, set, take, ap, sym, subst, ◌∙◌, arith}
use Rattle.std.proofs.lemmas.List.{take_all}
use Rattle.keyed_hash.specs.Hashing.{hash_of}
use Rattle.text_dict.specs.Slots.{AreReached, IsPlace, slot_of}
use Rattle.text_dict.proofs.SlotLaws.{reached_next, reached_none}
use Rattle.text_dict.proofs.slots.table_of.Goals as goal

pub loop-n-init : goal.loop-n-init
loop-n-init c = reached_none (hash_of c.args.state) c.in_ok-slots.slots.items

pub loop-n-preserved : goal.loop-n-preserved
loop-n-preserved c =
    let hash = hash_of c.args.state in
    let slots = c.loop-n.slots.items in
    let here : IsPlace slots (hash c.text.result.now) c.in-Some.place =
    subst (λ h. IsPlace slots h c.in-Some.place) c.hash_of-hash.ensures (subst (λ l. IsPlace l c.hash_of-hash.result c.in-Some.place) c.as_slice.ensures.value c.in-Some.ensures.place) in
    let slot : slot_of (hash c.text.result.now) c.loop-n.n ≡ c.slot_of.result =
    ap (λ h. slot_of h c.loop-n.n) (sym c.hash_of-hash.ensures) ∙ sym c.slot_of.ensures.value in
    subst (λ s. AreReached hash (take (c.loop-n.n + 1) c.args.texts.now) (set slots c.in-Some.place s)) slot
    (reached_next hash c.args.texts.now slots c.loop-n.n c.in-Some.place c.text.result.now c.text.ensures.value c.loop-n.invariant here)

pub returns : goal.returns
returns c =
    let done : length c.args.texts.now ≤ c.loop-n.n = omega (arith, c.len-n-end.ensures.value, c.loop-n-test.false) in
    record { reached = subst (λ ts. AreReached (hash_of c.args.state) ts c.loop-n.slots.items) (take_all c.loop-n.n c.args.texts.now done) c.loop-n.invariant }
