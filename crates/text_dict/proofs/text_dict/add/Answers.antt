use Rattle.std.proofs.Common.{◌≡◌, ◌++◌, ◌∷◌, [], length, set, slice_get, Some, ap, sym, subst, ◌∙◌, arith}
use Rattle.std.proofs.lemmas.List.{length_push}
use Rattle.keyed_hash.specs.Hashing.{hash_of}
use Rattle.text_dict.specs.Forms.{AreForms}
use Rattle.text_dict.specs.Slots.{AreReached, IsPlace, slot_of}
use Rattle.text_dict.proofs.FormLaws.{forms-push}
use Rattle.text_dict.proofs.SlotLaws.{get-last, reached_more}
use Rattle.text_dict.proofs.text_dict.add.Goals as goal

pub returns-clause-table : goal.returns-clause-table
returns-clause-table c =
    let hash = hash_of c.args.state in
    let slots = c.args.slots.now.items in
    let texts = c.args.texts.now in
    let text = c.args.text.now in
    let here : IsPlace slots (hash text) c.args.place = subst (λ h. IsPlace slots h c.args.place) c.requires.hashed c.requires.place in
    let slot : slot_of (hash text) c.len-n.result ≡ c.slot_of.result = ap (λ h. slot_of h c.len-n.result) (sym c.requires.hashed) ∙ sym c.slot_of.ensures.value in
    let pushed : c.push.new.self ≡ texts ++ text ∷ [] = c.in_ok-push.ensures.pushed in record {
      few = omega (arith, ap length pushed, length_push texts text, c.len-n.ensures.value, c.if-n-gt-MOST_NUMBERS.false);
      forms = subst AreForms (sym pushed) (forms-push texts text c.requires.table.forms c.requires.form);
      reached = subst (λ ts. AreReached hash ts (set slots c.args.place c.slot_of.result)) (sym pushed)
          (subst (λ s. AreReached hash (texts ++ text ∷ []) (set slots c.args.place s)) slot
          (reached_more hash texts slots c.args.place text c.len-n.result c.requires.table.reached here c.len-n.ensures.value));
    }

pub returns-clause-number : goal.returns-clause-number
returns-clause-number c =
    subst (λ ts. slice_get ts c.len-n.result ≡ Some c.args.text.now) (sym c.in_ok-push.ensures.pushed) (get-last c.args.texts.now c.args.text.now c.len-n.result c.len-n.ensures.value)
