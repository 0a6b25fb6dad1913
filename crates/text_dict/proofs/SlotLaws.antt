-- Searches through a table.
use Rattle.std.proofs.Common.{◌≡◌, ◌≢◌, ◌⊎◌, inl, inr, ℕ, zero, suc, ◌+◌, ◌-◌, ◌/◌, ◌%◌, ◌<◌, List, [], ◌∷◌, ◌++◌, length, get_or, drop, take, set, slice_get, Option, None, Some, refl, sym, ap, ◌∙◌, subst, arith, append_assoc, append-nil}
use Rattle.std.proofs.lemmas.List.{length-set, length-take, drop-set-add, drop-set-lt, set_split, take_more}
use Rattle.std.proofs.lemmas.Option.{slice_get_within, get_or_from_slice_get}
use Rattle.std.specs.Prelude.{bit_and}
use Rattle.std.specs.Option.{IfSome, MatchOption}
use Rattle.text_dict.specs.declared.slots.Search.{Search}
use Rattle.text_dict.specs.declared.slots.Search.TheVariants.{Found, Free, Full}
use Rattle.text_dict.specs.Slots.{AreReached, AreUsed, ArePassed, IsNowhere, IsPlace, IsProbe, IsSearch, Leads, most_numbers, path, slot_of, start_of, tags}

-- ---- a slot

pub slot_tag : (h n : ℕ) → n + 1 < most_numbers → slot_of h n / most_numbers ≡ h % tags
slot_tag h n low = omega arith

pub slot_place : (h n : ℕ) → n + 1 < most_numbers → slot_of h n % most_numbers ≡ n + 1
slot_place h n low = omega arith

pub slot_used : (h n : ℕ) → slot_of h n ≢ 0
slot_used h n e = omega (arith, e)

-- ---- lists

pub get-drop : (n i x : ℕ) (l : List ℕ) → slice_get (drop n l) i ≡ Some x → slice_get l (n + i) ≡ Some x
get-drop zero i x l h = let e : i ≡ 0 + i = omega arith in subst (λ k. slice_get l k ≡ Some x) e h
get-drop (suc n) i x [] h = let w = slice_get_within [] i x h in absurd (omega (arith, w))
get-drop (suc n) i x (y ∷ l) h =
    let e : suc (n + i) ≡ suc n + i = omega arith in subst (λ k. slice_get (y ∷ l) k ≡ Some x) e (get-drop n i x l h)

pub get-take : (n i x : ℕ) (l : List ℕ) → slice_get (take n l) i ≡ Some x → slice_get l i ≡ Some x
get-take zero i x l h = let w = slice_get_within [] i x h in absurd (omega (arith, w))
get-take (suc n) i x [] h = h
get-take (suc n) zero x (y ∷ l) h = h
get-take (suc n) (suc i) x (y ∷ l) h = get-take n i x l h

take-set_at : (n i x : ℕ) (l : List ℕ) → take n (set l i x) ≡ set (take n l) i x
take-set_at zero i x l = refl
take-set_at (suc n) i x [] = refl
take-set_at (suc n) zero x (y ∷ l) = refl
take-set_at (suc n) (suc i) x (y ∷ l) = ap (λ t. y ∷ t) (take-set_at n i x l)

split_get : (l : List ℕ) (i x : ℕ) → slice_get l i ≡ Some x → l ≡ take i l ++ x ∷ drop (suc i) l
split_get [] i x h = let w = slice_get_within [] i x h in absurd (omega (arith, w))
split_get (y ∷ l) zero x h = let e : y ≡ x = cc in ap (λ z. z ∷ l) e
split_get (y ∷ l) (suc i) x h = ap (λ t. y ∷ t) (split_get l i x h)

pub get-push : {A : Type 0} → (xs : List A) (y t : A) (m : ℕ) → slice_get (xs ++ y ∷ []) m ≡ Some t
    → (slice_get xs m ≡ Some t) ⊎ ((m ≡ length xs) × (t ≡ y))
get-push [] y t zero h = let e : t ≡ y = cc in inr (refl, e)
get-push [] y t (suc m) h = let w = slice_get_within [] m t h in absurd (omega (arith, w))
get-push (x ∷ xs) y t zero h = inl h
get-push (x ∷ xs) y t (suc m) h = by (get-push xs y t m h)
  where
    by : (slice_get xs m ≡ Some t) ⊎ ((m ≡ length xs) × (t ≡ y)) → (slice_get xs m ≡ Some t) ⊎ ((suc m ≡ suc (length xs)) × (t ≡ y))
    by (inl e) = inl e
    by (inr e) = inr (ap suc e.0, e.1)

-- ---- paths

leads_used : (slot : ℕ) (used rest : List ℕ) → AreUsed used → Leads slot rest → Leads slot (used ++ rest)
leads_used slot [] rest u h = h
leads_used slot (s ∷ used) rest u h = inr (u.0, leads_used slot used rest u.1 h)

leads_here : (slot : ℕ) (used rest : List ℕ) → AreUsed used → Leads slot (used ++ slot ∷ rest)
leads_here slot used rest u = leads_used slot used (slot ∷ rest) u (inl refl)

leads_front : (slot : ℕ) (front back : List ℕ) → Leads slot front → Leads slot (front ++ back)
leads_front slot [] back h = absurd h
leads_front slot (s ∷ front) back (inl e) = inl e
leads_front slot (s ∷ front) back (inr p) = inr (p.0, leads_front slot front back p.1)

pub used_passed : (texts : List (List ℕ)) (text : List ℕ) (h : ℕ) (slots : List ℕ) → ArePassed texts text h slots → AreUsed slots
used_passed texts text h [] p = tt
used_passed texts text h (s ∷ slots) p = (p.0, used_passed texts text h slots p.2)

pub used_push : (slots : List ℕ) (s : ℕ) → AreUsed slots → s ≢ 0 → AreUsed (slots ++ s ∷ [])
used_push [] s u h = (h, tt)
used_push (x ∷ slots) s u h = (u.0, used_push slots s u.1 h)

pub used_more : (slots : List ℕ) (i : ℕ) → i < length slots → AreUsed (take i slots) → get_or slots i 0 ≢ 0 → AreUsed (take (i + 1) slots)
used_more slots i low u h = subst AreUsed (sym (take_more slots i 0 low)) (used_push (take i slots) (get_or slots i 0) u h)

module _ (texts : List (List ℕ)) (text : List ℕ) (h : ℕ) where
  pub passed_push : (slots : List ℕ) (s : ℕ) → ArePassed texts text h slots → s ≢ 0 → ((n : ℕ) → slice_get texts n ≡ Some text → s ≢ slot_of h n)
      → ArePassed texts text h (slots ++ s ∷ [])
  passed_push [] s p used other = (used, other, tt)
  passed_push (x ∷ slots) s p used other = (p.0, p.1, passed_push slots s p.2 used other)

  pub passed_more : (slots : List ℕ) (i : ℕ) → i < length slots → ArePassed texts text h (take i slots) → get_or slots i 0 ≢ 0
      → ((n : ℕ) → slice_get texts n ≡ Some text → get_or slots i 0 ≢ slot_of h n) → ArePassed texts text h (take (i + 1) slots)
  passed_more slots i low p used other =
      subst (ArePassed texts text h) (sym (take_more slots i 0 low)) (passed_push (take i slots) (get_or slots i 0) p used other)

  -- a slot with other bits of the hash
  pub other_tag : length texts < most_numbers → (slot : ℕ) → slot / most_numbers ≢ h % tags → (n : ℕ) → slice_get texts n ≡ Some text → slot ≢ slot_of h n
  other_tag few slot apart n at e =
      let low = slice_get_within texts n text at in
      apart (ap (λ s. s / most_numbers) e ∙ slot_tag h n (omega (arith, low, few)))

  -- a slot of another text
  pub other_text : length texts < most_numbers → (slot place : ℕ) → place ≡ slot % most_numbers → ((n : ℕ) → place ≡ n + 1 → slice_get texts n ≢ Some text)
      → (n : ℕ) → slice_get texts n ≡ Some text → slot ≢ slot_of h n
  other_text few slot place place_is not n at e =
      let low = slice_get_within texts n text at in
      not n (place_is ∙ ap (λ s. s % most_numbers) e ∙ slot_place h n (omega (arith, low, few))) at

  through : (used rest : List ℕ) → ArePassed texts text h used → (n : ℕ) → slice_get texts n ≡ Some text → Leads (slot_of h n) (used ++ rest) → Leads (slot_of h n) rest
  through [] rest p n at l = l
  through (s ∷ used) rest p n at (inl e) = absurd (p.1 n at e)
  through (s ∷ used) rest p n at (inr q) = through used rest p.2 n at q.1

  stops : (rest : List ℕ) (n : ℕ) → Leads (slot_of h n) (0 ∷ rest) → ⊥
  stops rest n (inl e) = slot_used h n (sym e)
  stops rest n (inr q) = q.0 refl

  nowhere_back : (slots : List ℕ) (i : ℕ) → let start = start_of h slots in slice_get (drop start slots) i ≡ Some 0 → ArePassed texts text h (take i (drop start slots))
      → IsNowhere texts text h slots
  nowhere_back slots i at p n known l =
      let start = start_of h slots in
      let back = drop start slots in
      let whole : back ++ take start slots ≡ take i back ++ 0 ∷ (drop (suc i) back ++ take start slots)
      = ap (λ b. b ++ take start slots) (split_get back i 0 at) ∙ append_assoc (take i back) (0 ∷ drop (suc i) back) (take start slots) in
      stops (drop (suc i) back ++ take start slots) n (through (take i back) (0 ∷ (drop (suc i) back ++ take start slots)) p n known (subst (Leads (slot_of h n)) whole l))

  nowhere_front : (slots : List ℕ) (i : ℕ) → let start = start_of h slots in ArePassed texts text h (drop start slots) → slice_get (take start slots) i ≡ Some 0
      → ArePassed texts text h (take i (take start slots)) → IsNowhere texts text h slots
  nowhere_front slots i back at p n known l =
      let start = start_of h slots in
      let front = take start slots in
      stops (drop (suc i) front) n (through (take i front) (0 ∷ drop (suc i) front) p n known
      (subst (Leads (slot_of h n)) (split_get front i 0 at) (through (drop start slots) front back n known l)))

  nowhere_full : (slots : List ℕ) → let start = start_of h slots in ArePassed texts text h (drop start slots) → ArePassed texts text h (take start slots) → IsNowhere texts text h slots
  nowhere_full slots back front n known l =
      let start = start_of h slots in
      through (take start slots) [] front n known (subst (Leads (slot_of h n)) (sym (append-nil (take start slots))) (through (drop start slots) (take start slots) back n known l))

place_back : (slots : List ℕ) (h i : ℕ) → let start = start_of h slots in slice_get (drop start slots) i ≡ Some 0 → AreUsed (take i (drop start slots)) → IsPlace slots h (start + i)
place_back slots h i at used =
    let start = start_of h slots in
    let back = drop start slots in (
      get-drop start i 0 slots at,
      λ slot. leads_front slot (drop start (set slots (start + i) slot)) (take start (set slots (start + i) slot))
          (subst (Leads slot) (sym (drop-set-add start slots i slot ∙ set_split back i slot (slice_get_within back i 0 at)))
          (leads_here slot (take i back) (drop (suc i) back) used)),
    )

place_front : (slots : List ℕ) (h i : ℕ) → let start = start_of h slots in AreUsed (drop start slots) → slice_get (take start slots) i ≡ Some 0 → AreUsed (take i (take start slots))
    → IsPlace slots h i
place_front slots h i back at used =
    let start = start_of h slots in
    let front = take start slots in
    let within = slice_get_within front i 0 at in
    let low : i < start = omega (arith, within, length-take start slots) in (
      get-take start i 0 slots at,
      λ slot. subst (Leads slot) (λ k. sym (drop-set-lt start slots i slot low) k ++ sym (take-set_at start i slot slots ∙ set_split front i slot within) k)
          (leads_used slot (drop start slots) (take i front ++ slot ∷ drop (suc i) front) back (leads_here slot (take i front) (drop (suc i) front) used)),
    )

-- ---- what the functions say

module _ (slots : List ℕ) (h start : ℕ) (start_is : start ≡ start_of h slots) (back front : List ℕ) (back_is : back ≡ drop start slots) (front_is : front ≡ take start slots) where
  back_of : back ≡ drop (start_of h slots) slots
  back_of = back_is ∙ ap (λ s. drop s slots) start_is

  front_of : front ≡ take (start_of h slots) slots
  front_of = front_is ∙ ap (λ s. take s slots) start_is

  pub free_back : (i : ℕ) → slice_get back i ≡ Some 0 → AreUsed (take i back) → IsPlace slots h (start + i)
  free_back i at used =
      subst (λ s. IsPlace slots h (s + i)) (sym start_is)
      (place_back slots h i (subst (λ l. slice_get l i ≡ Some 0) back_of at) (subst (λ l. AreUsed (take i l)) back_of used))

  pub free_front : (i : ℕ) → AreUsed back → slice_get front i ≡ Some 0 → AreUsed (take i front) → IsPlace slots h i
  free_front i passed at used =
      place_front slots h i (subst AreUsed back_of passed) (subst (λ l. slice_get l i ≡ Some 0) front_of at) (subst (λ l. AreUsed (take i l)) front_of used)

  module _ (texts : List (List ℕ)) (text : List ℕ) where
    pub found_back : (i : ℕ) → IsProbe texts text h back (Free i) → IsSearch texts text h slots (Free (start + i))
    found_back i p = (
      free_back i p.0 (used_passed texts text h (take i back) p.1),
      nowhere_back texts text h slots i (subst (λ l. slice_get l i ≡ Some 0) back_of p.0) (subst (λ l. ArePassed texts text h (take i l)) back_of p.1),
    )

    pub found_front : (s : Search) → ArePassed texts text h back → IsProbe texts text h front s → IsSearch texts text h slots s
    found_front (Found n) passed p = p
    found_front (Free i) passed p = (
      free_front i (used_passed texts text h back passed) p.0 (used_passed texts text h (take i front) p.1),
      nowhere_front texts text h slots i (subst (ArePassed texts text h) back_of passed)
          (subst (λ l. slice_get l i ≡ Some 0) front_of p.0) (subst (λ l. ArePassed texts text h (take i l)) front_of p.1),
    )
    found_front Full passed p =
        nowhere_full texts text h slots (subst (ArePassed texts text h) back_of passed) (subst (ArePassed texts text h) front_of p)

  pub empty_front : (r : Option ℕ) → AreUsed back → MatchOption r (AreUsed front) (λ i. (slice_get front i ≡ Some 0) × AreUsed (take i front)) → IfSome r (IsPlace slots h)
  empty_front None passed p = tt
  empty_front (Some i) passed p = free_front i passed p.0 p.1

-- an empty table
pub nowhere_empty : (texts : List (List ℕ)) (text : List ℕ) (h : ℕ) → IsNowhere texts text h []
nowhere_empty texts text h n at l = by (start_of h []) l
  where
    by : (start : ℕ) → Leads (slot_of h n) (path [] start) → ⊥
    by zero l = l
    by (suc start) l = l

-- ---- one more slot

-- each slot is the same, or was empty
abbrev Fills : List ℕ → List ℕ → Type 0
Fills [] [] = Unit {0}
Fills [] (b ∷ ys) = ⊥
Fills (a ∷ xs) [] = ⊥
Fills (a ∷ xs) (b ∷ ys) = ((a ≡ b) ⊎ (a ≡ 0)) × Fills xs ys

fills_same : (l : List ℕ) → Fills l l
fills_same [] = tt
fills_same (x ∷ l) = (inl refl, fills_same l)

fills_set : (l : List ℕ) (i x : ℕ) → slice_get l i ≡ Some 0 → Fills l (set l i x)
fills_set [] i x h = tt
fills_set (y ∷ l) zero x h = let e : y ≡ 0 = cc in (inr e, fills_same l)
fills_set (y ∷ l) (suc i) x h = (inl refl, fills_set l i x h)

fills_drop : (n : ℕ) (xs ys : List ℕ) → Fills xs ys → Fills (drop n xs) (drop n ys)
fills_drop zero xs ys h = h
fills_drop (suc n) [] [] h = tt
fills_drop (suc n) [] (b ∷ ys) h = absurd h
fills_drop (suc n) (a ∷ xs) [] h = absurd h
fills_drop (suc n) (a ∷ xs) (b ∷ ys) h = fills_drop n xs ys h.1

fills_take : (n : ℕ) (xs ys : List ℕ) → Fills xs ys → Fills (take n xs) (take n ys)
fills_take zero xs ys h = tt
fills_take (suc n) [] [] h = tt
fills_take (suc n) [] (b ∷ ys) h = absurd h
fills_take (suc n) (a ∷ xs) [] h = absurd h
fills_take (suc n) (a ∷ xs) (b ∷ ys) h = (h.0, fills_take n xs ys h.1)

fills_append : (xs ys us vs : List ℕ) → Fills xs ys → Fills us vs → Fills (xs ++ us) (ys ++ vs)
fills_append [] [] us vs h k = k
fills_append [] (b ∷ ys) us vs h k = absurd h
fills_append (a ∷ xs) [] us vs h k = absurd h
fills_append (a ∷ xs) (b ∷ ys) us vs h k = (h.0, fills_append xs ys us vs h.1 k)

leads_fills : (slot : ℕ) → slot ≢ 0 → (xs ys : List ℕ) → Fills xs ys → Leads slot xs → Leads slot ys
leads_fills slot used [] ys h l = absurd l
leads_fills slot used (a ∷ xs) [] h l = absurd h
leads_fills slot used (a ∷ xs) (b ∷ ys) h l = by h.0 l (leads_fills slot used xs ys h.1)
  where
    by : (a ≡ b) ⊎ (a ≡ 0) → Leads slot (a ∷ xs) → (Leads slot xs → Leads slot ys) → Leads slot (b ∷ ys)
    by (inl e) (inl s) rest = inl (sym e ∙ s)
    by (inl e) (inr q) rest = inr ((λ z. q.0 (e ∙ z)), rest q.1)
    by (inr e) (inl s) rest = absurd (used (sym s ∙ e))
    by (inr e) (inr q) rest = absurd (q.0 e)

pub leads_set : (slots : List ℕ) (i x start slot : ℕ) → slice_get slots i ≡ Some 0 → slot ≢ 0 → Leads slot (path slots start) → Leads slot (path (set slots i x) start)
leads_set slots i x start slot at used l =
    let all = fills_set slots i x at in
    leads_fills slot used (path slots start) (path (set slots i x) start)
    (fills_append (drop start slots) (drop start (set slots i x)) (take start slots) (take start (set slots i x)) (fills_drop start slots (set slots i x) all) (fills_take start slots (set slots i x) all)) l

pub start_kept : (h : ℕ) (slots : List ℕ) (i x : ℕ) → start_of h (set slots i x) ≡ start_of h slots
start_kept h slots i x = ap (λ n. bit_and h (n - 1)) (length-set slots i x)

-- a text more is found
pub reached_more : (hash : List ℕ → ℕ) (texts : List (List ℕ)) (slots : List ℕ) (place : ℕ) (text : List ℕ) (n : ℕ) → AreReached hash texts slots
    → IsPlace slots (hash text) place → n ≡ length texts → AreReached hash (texts ++ text ∷ []) (set slots place (slot_of (hash text) n))
reached_more hash texts slots place text n was here n_is m t at = by (get-push texts text t m at)
  where
    new : List ℕ
    new = set slots place (slot_of (hash text) n)

    by : (slice_get texts m ≡ Some t) ⊎ ((m ≡ length texts) × (t ≡ text)) → Leads (slot_of (hash t) m) (path new (start_of (hash t) new))
    by (inl e) =
        subst (λ s. Leads (slot_of (hash t) m) (path new s)) (sym (start_kept (hash t) slots place (slot_of (hash text) n)))
        (leads_set slots place (slot_of (hash text) n) (start_of (hash t) slots) (slot_of (hash t) m) here.0 (slot_used (hash t) m) (was m t e))
    by (inr e) =
        let same : m ≡ n = e.0 ∙ sym n_is in
        subst (λ (u : List ℕ). Leads (slot_of (hash u) m) (path new (start_of (hash u) new))) (sym e.1)
        (subst (λ k. Leads (slot_of (hash text) k) (path new (start_of (hash text) new))) (sym same)
        (subst (λ s. Leads (slot_of (hash text) n) (path new s)) (sym (start_kept (hash text) slots place (slot_of (hash text) n))) (here.1 (slot_of (hash text) n))))

-- the next of the texts is found
pub reached_next : (hash : List ℕ → ℕ) (texts : List (List ℕ)) (slots : List ℕ) (n place : ℕ) (text : List ℕ) → slice_get texts n ≡ Some text
    → AreReached hash (take n texts) slots → IsPlace slots (hash text) place → AreReached hash (take (n + 1) texts) (set slots place (slot_of (hash text) n))
reached_next hash texts slots n place text at was here =
    let low = slice_get_within texts n text at in
    let is : get_or texts n [] ≡ text = get_or_from_slice_get texts n text [] at in
    let more : take (n + 1) texts ≡ take n texts ++ text ∷ [] = take_more texts n [] low ∙ ap (λ t. take n texts ++ t ∷ []) is in
    subst (λ ts. AreReached hash ts (set slots place (slot_of (hash text) n))) (sym more)
    (reached_more hash (take n texts) slots place text n was here (omega (arith, length-take n texts, low)))

pub reached_none : (hash : List ℕ → ℕ) (slots : List ℕ) → AreReached hash [] slots
reached_none hash slots n text at = let w = slice_get_within [] n text at in absurd (omega (arith, w))

-- the last text
pub get-last : (texts : List (List ℕ)) (text : List ℕ) (n : ℕ) → n ≡ length texts → slice_get (texts ++ text ∷ []) n ≡ Some text
get-last texts text n n_is = subst (λ k. slice_get (texts ++ text ∷ []) k ≡ Some text) (sym n_is) (by texts)
  where
    by : (ts : List (List ℕ)) → slice_get (ts ++ text ∷ []) (length ts) ≡ Some text
    by [] = refl
    by (t ∷ ts) = by ts

-- what a search says of the texts
pub absent : (hash : List ℕ → ℕ) (texts : List (List ℕ)) (slots text : List ℕ) (h : ℕ) → AreReached hash texts slots → h ≡ hash text → IsNowhere texts text h slots
    → (n : ℕ) → slice_get texts n ≡ Some text → ⊥
absent hash texts slots text h reached h_is nowhere n at =
    nowhere n at (subst (λ k. Leads (slot_of k n) (path slots (start_of k slots))) (sym h_is) (reached n text at))
