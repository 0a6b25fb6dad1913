-- A table with the slots of another one.
use Rattle.std.proofs.Common.{◌≡◌, ◌⊎◌, inl, inr, ℕ, suc, ◌+◌, ◌-◌, ◌/◌, ◌%◌, ◌^◌, ◌<◌, ◌≤◌, List, [], ◌∷◌, ◌++◌, length, get_or, drop, take, set, slice_get, Some, refl, sym, ap, ◌∙◌, subst, arith}
use Rattle.std.proofs.lemmas.List.{length-set, take_more}
use Rattle.std.proofs.lemmas.Nat.{and_le_r, and_mod}
use Rattle.std.proofs.lemmas.Option.{slice_get_within}
use Rattle.std.proofs.Math.Nat.{mod-eq_of_lt}
use Rattle.std.specs.Prelude.{bit_and}
use Rattle.text_dict.specs.Slots.{AreMoved, AreReached, IsPlace, IsPut, Leads, most_numbers, path, slot_of, start_of, tags}
use Rattle.text_dict.proofs.SlotLaws.{get-drop, get-push, get-take, leads_set, slot_tag, slot_used, start_kept}

-- ---- the tag gives the start

and_low : (h m : ℕ) → m < tags → bit_and (h % tags) m ≡ bit_and h m
and_low h m low =
    let le = and_le_r h m in
    let same : bit_and h m % 2 ^ 30 ≡ bit_and h m = mod-eq_of_lt (omega (arith, le, low)) in
    let mask : m % 2 ^ 30 ≡ m = mod-eq_of_lt low in
    sym (sym same ∙ and_mod h m 30 ∙ ap (bit_and (h % 2 ^ 30)) mask)

start_by_tag : (h : ℕ) (slots : List ℕ) → length slots ≤ tags → start_of (h % tags) slots ≡ start_of h slots
start_by_tag h slots short = and_low h (length slots - 1) (omega (arith, short))

-- ---- one slot

pub put_none : (slots : List ℕ) (slot : ℕ) → slot ≡ 0 → IsPut slots slot slots
put_none slots slot none = record {
  len = refl;
  kept = λ s start used l. l;
  found = λ h n low e. absurd (slot_used h n (sym e ∙ none));
}

pub put_at : (slots : List ℕ) (slot place : ℕ) → length slots ≤ tags → IsPlace slots (slot / most_numbers) place → IsPut slots slot (set slots place slot)
put_at slots slot place short here = record {
  len = length-set slots place slot;
  kept = λ s start used l. leads_set slots place slot start s here.0 used l;
  found = λ h n low e.
      let tag : slot / most_numbers ≡ h % tags = ap (λ s. s / most_numbers) e ∙ slot_tag h n low in
      let start : start_of (slot / most_numbers) slots ≡ start_of h (set slots place slot) =
      ap (λ t. start_of t slots) tag ∙ start_by_tag h slots short ∙ sym (start_kept h slots place slot) in
      subst (λ s. Leads slot (path (set slots place slot) s)) start (here.1 slot);
}

-- ---- all slots

pub moved_more : (slots longer later : List ℕ) (i : ℕ) → i < length slots → AreMoved (take i slots) longer → IsPut longer (get_or slots i 0) later
    → AreMoved (take (i + 1) slots) later
moved_more slots longer later i low was put h n j few at =
    by (get-push (take i slots) (get_or slots i 0) (slot_of h n) j (subst (λ l. slice_get l j ≡ Some (slot_of h n)) (take_more slots i 0 low) at))
  where
    by : (slice_get (take i slots) j ≡ Some (slot_of h n)) ⊎ ((j ≡ length (take i slots)) × (slot_of h n ≡ get_or slots i 0))
        → Leads (slot_of h n) (path later (start_of h later))
    by (inl e) =
        let start : start_of h longer ≡ start_of h later = ap (λ k. bit_and h (k - 1)) (sym put.len) in
        subst (λ s. Leads (slot_of h n) (path later s)) start (put.kept (slot_of h n) (start_of h longer) (slot_used h n) (was h n j few e))
    by (inr e) = subst (λ s. Leads s (path later (start_of h later))) (sym e.1) (put.found h n few (sym e.1))

-- ---- all texts

-- a slot to which a path leads is in the list
leads_get : (slot : ℕ) (l : List ℕ) → Leads slot l → (i : ℕ) × (slice_get l i ≡ Some slot)
leads_get slot [] h = absurd h
leads_get slot (s ∷ l) (inl e) = (0, ap Some e)
leads_get slot (s ∷ l) (inr q) = let p = leads_get slot l q.1 in (suc p.0, p.1)

leads_part : (slot : ℕ) (xs ys : List ℕ) → Leads slot (xs ++ ys) → ((i : ℕ) × (slice_get xs i ≡ Some slot)) ⊎ ((i : ℕ) × (slice_get ys i ≡ Some slot))
leads_part slot [] ys h = inr (leads_get slot ys h)
leads_part slot (x ∷ xs) ys (inl e) = inl (0, ap Some e)
leads_part slot (x ∷ xs) ys (inr q) = by (leads_part slot xs ys q.1)
  where
    by : ((i : ℕ) × (slice_get xs i ≡ Some slot)) ⊎ ((i : ℕ) × (slice_get ys i ≡ Some slot))
        → ((i : ℕ) × (slice_get (x ∷ xs) i ≡ Some slot)) ⊎ ((i : ℕ) × (slice_get ys i ≡ Some slot))
    by (inl p) = inl (suc p.0, p.1)
    by (inr p) = inr p

leads_slot : (slot start : ℕ) (slots : List ℕ) → Leads slot (path slots start) → (i : ℕ) × (slice_get slots i ≡ Some slot)
leads_slot slot start slots h = by (leads_part slot (drop start slots) (take start slots) h)
  where
    by : ((i : ℕ) × (slice_get (drop start slots) i ≡ Some slot)) ⊎ ((i : ℕ) × (slice_get (take start slots) i ≡ Some slot)) → (i : ℕ) × (slice_get slots i ≡ Some slot)
    by (inl p) = (start + p.0, get-drop start p.0 slot slots p.1)
    by (inr p) = (p.0, get-take start p.0 slot slots p.1)

-- texts that are reached by slots are reached by the moved slots
pub reached_moved : (hash : List ℕ → ℕ) (texts : List (List ℕ)) (slots longer : List ℕ) → length texts < most_numbers → AreReached hash texts slots → AreMoved slots longer
    → AreReached hash texts longer
reached_moved hash texts slots longer few reached moved n text at =
    let low = slice_get_within texts n text at in
    let p = leads_slot (slot_of (hash text) n) (start_of (hash text) slots) slots (reached n text at) in
    moved (hash text) n p.0 (omega (arith, low, few)) p.1
