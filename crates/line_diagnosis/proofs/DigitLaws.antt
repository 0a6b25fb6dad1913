-- The digits of an escape: which code points they can still denote.
use Rattle.std.proofs.Common.{◌≡◌, ℕ, zero, suc, ◌+◌, ◌*◌, ◌-◌, ◌≤◌, ◌<◌, Bool, true, false, List, [], ◌∷◌, ◌++◌, length, Some, refl, sym, ap, subst, ◌∙◌, inl, inr, arith}
use Rattle.std.specs.Prelude.{◌/◌, ◌&&◌, ◌||◌, nat_le}
use Rattle.std.specs.Char.{digit_value, IsScalar}
use Rattle.std.proofs.lemmas.Bool.{cases_lt}
use Rattle.std.proofs.lemmas.Bool.Decides.{nat_tests}
use Rattle.std.proofs.lemmas.Option.{some_pair_parts}
use Rattle.rdf_core.specs.Characters.{all_pass, in_ranges, is_hex}
use Rattle.rdf_core.specs.LexicalReading.{hex_at}
use Rattle.rdf_core.proofs.EscapeSteps.{cond_is}
use Rattle.rdf_core.proofs.EscapeLaws.{and_is, and_parts}
use Rattle.nquads_core.proofs.RunLaws.{or_parts}
use Rattle.line_diagnosis.specs.declared.state.Digits.{Digits}
use Rattle.line_diagnosis.specs.Rest.{AreRanges, CanDenote, RestOfDigits, are_code_points, head, is_head}

-- ---- the number without its last digits

pub head_step : (k a : ℕ) → 0 < k → head (k - 1) (a / 16) ≡ head k a
head_step zero a h = absurd (omega arith)
head_step (suc k) a h = let e : suc k - 1 ≡ k = omega arith in rw e refl

pub head_le : (k a b : ℕ) → a ≤ b → head k a ≤ head k b
head_le zero a b h = h
head_le (suc k) a b h = head_le k (a / 16) (b / 16) (omega arith)

pub head_small : (k a : ℕ) → head k a ≤ a
head_small zero a = omega arith
head_small (suc k) a = omega (arith, head_small k (a / 16))

head_commutes : (k a : ℕ) → head k (a / 16) ≡ head k a / 16
head_commutes zero a = refl
head_commutes (suc k) a = head_commutes k (a / 16)

digit_bound : (c : ℕ) → is_hex c ≡ true → digit_value c < 16
digit_bound c h = grind (arith, nat_tests)

-- the digits that are read begin the number of all digits
pub hex_head : (n v : ℕ) (cs : List ℕ) (c : ℕ) (left : List ℕ) → hex_at n v cs ≡ Some (c, left) → head n c ≡ v
unfolding hex_at
hex_head zero v cs c left e = sym (some_pair_parts v c cs left e).0
hex_head (suc n) v [] c left e = absurd cc
hex_head (suc n) v (d ∷ cs) c left e =
    let g = cond_is (is_hex d) (hex_at n (v * 16 + digit_value d) cs) (c, left) e in
    let ih = hex_head n (v * 16 + digit_value d) cs c left g.1 in
    let b = digit_bound d g.0 in
    head_commutes n c ∙ ap (λ (x : ℕ). x / 16) ih ∙ omega (arith, b)

-- ---- digits that denote a number

-- a digit in lower case
hex_char : (d : ℕ) → d < 16 → (c : ℕ) × (is_hex c ≡ true) × (digit_value c ≡ d)
hex_char d h = elim (cases_lt d 10) [
  | inl low ↦ (48 + d, grind (arith, nat_tests), grind (arith, nat_tests))
  | inr high ↦ (87 + d, grind (arith, nat_tests), grind (arith, nat_tests))
]

pub record Spelled (n v c : ℕ) : Type 0 where
  pub digits : List ℕ
  pub count : length digits ≡ n
  pub plain : (p : ℕ → Bool) → ((d : ℕ) → is_hex d ≡ true → p d ≡ true) → all_pass p digits ≡ true
  pub reads : (rest : List ℕ) → hex_at n v (digits ++ rest) ≡ Some (c, rest)

pub hex_step : (n v d w : ℕ) (rest : List ℕ) (c : ℕ) (left : List ℕ) → is_hex d ≡ true → v * 16 + digit_value d ≡ w → hex_at n w rest ≡ Some (c, left) → hex_at (suc n) v (d ∷ rest) ≡ Some (c, left)
unfolding hex_at
hex_step n v d w rest c left h e k = rw (h, e, k) refl

pub hex_none : (v : ℕ) (rest : List ℕ) → hex_at zero v rest ≡ Some (v, rest)
unfolding hex_at
hex_none v rest = refl

pub spelled : (n v c : ℕ) → head n c ≡ v → Spelled n v c
spelled zero v c e = record { digits = []; count = refl; plain = λ p h. refl; reads = λ rest. subst (λ (x : ℕ). hex_at zero v rest ≡ Some (x, rest)) (sym e) (hex_none v rest) }
spelled (suc n) v c e =
    let w = head n c in
    let q : w / 16 ≡ v = sym (head_commutes n c) ∙ e in
    let d = hex_char (w - 16 * (w / 16)) (omega arith) in
    let ih = spelled n w c refl in
    record {
      digits = d.0 ∷ ih.digits;
      count = ap suc ih.count;
      plain = λ p h. and_is (p d.0) (all_pass p ih.digits) (h d.0 d.1) (ih.plain p h);
      reads = λ rest. hex_step n v d.0 w (ih.digits ++ rest) c rest d.1 (omega (arith, d.2, q)) (ih.reads rest);
    }

-- ---- ranges

abbrev Within : ℕ × ℕ → ℕ → Type 0
Within r c = (r.0 ≤ c) × (c ≤ r.1)

pub range_parts : (a b c : ℕ) → (nat_le a c && nat_le c b) ≡ true → (a ≤ c) × (c ≤ b)
range_parts a b c h = (grind (arith, nat_tests), grind (arith, nat_tests))

pub range_is : (a b c : ℕ) → a ≤ c → c ≤ b → (nat_le a c && nat_le c b) ≡ true
range_is a b c h k = grind (arith, nat_tests)

range_first : (a b : ℕ) → (nat_le a b && nat_le b 0x10FFFF) ≡ true → a ≤ b
range_first a b h = (range_parts a 0x10FFFF b h).0

range_last : (a b : ℕ) → (nat_le a b && nat_le b 0x10FFFF) ≡ true → b ≤ 0x10FFFF
range_last a b h = (range_parts a 0x10FFFF b h).1

pub or_first : (a b : Bool) → a ≡ true → (a || b) ≡ true
or_first a b e = rw e refl

pub or_second : (a b : Bool) → b ≡ true → (a || b) ≡ true
or_second true b h = refl
or_second false b h = h

-- a number of one of the ranges has its first digits among the first digits of the range
pub head_of : (ranges : List (ℕ × ℕ)) (more c : ℕ) → in_ranges ranges c ≡ true → is_head ranges more (head more c) ≡ true
head_of [] more c h = h
head_of (r ∷ ranges) more c h = elim (or_parts (nat_le r.0 c && nat_le c r.1) (in_ranges ranges c) h) [
  | inl k ↦
      let p = range_parts r.0 r.1 c k in
      or_first (nat_le (head more r.0) (head more c) && nat_le (head more c) (head more r.1)) (is_head ranges more (head more c))
      (range_is (head more r.0) (head more r.1) (head more c) (head_le more r.0 c p.0) (head_le more c r.1 p.1))
  | inr k ↦ or_second (nat_le (head more r.0) (head more c) && nat_le (head more c) (head more r.1)) (is_head ranges more (head more c)) (head_of ranges more c k)
]

-- a number from a to b begins with each digits between the first digits of a and b
between : (more a b v : ℕ) → a ≤ b → head more a ≤ v → v ≤ head more b → (c : ℕ) × (a ≤ c) × (c ≤ b) × (head more c ≡ v)
between zero a b v h l u = (v, l, u, refl)
between (suc more) a b v h l u =
    let ih = between more (a / 16) (b / 16) v (omega arith) l u in
    elim (cases_lt (16 * ih.0) a) [
      | inl low ↦
          let same : a / 16 ≡ ih.0 = omega (arith, ih.1) in
          (a, omega arith, h, ap (head more) same ∙ ih.3)
      | inr high ↦
          let same : (16 * ih.0) / 16 ≡ ih.0 = omega arith in
          (16 * ih.0, high, omega (arith, ih.2), ap (head more) same ∙ ih.3)
    ]

pub record Named (ranges : List (ℕ × ℕ)) (more v : ℕ) : Type 0 where
  pub c : ℕ
  pub within : in_ranges ranges c ≡ true
  pub begins : head more c ≡ v

pub named : (ranges : List (ℕ × ℕ)) (more v : ℕ) → are_code_points ranges ≡ true → is_head ranges more v ≡ true → Named ranges more v
named [] more v o h = absurd cc
named (r ∷ ranges) more v o h =
    let p = and_parts (nat_le r.0 r.1 && nat_le r.1 0x10FFFF) (are_code_points ranges) o in
    elim (or_parts (nat_le (head more r.0) v && nat_le v (head more r.1)) (is_head ranges more v) h) [
      | inl k ↦
          let q = range_parts (head more r.0) (head more r.1) v k in
          let b = between more r.0 r.1 v (range_first r.0 r.1 p.0) q.0 q.1 in
          record { c = b.0; within = or_first (nat_le r.0 b.0 && nat_le b.0 r.1) (in_ranges ranges b.0) (range_is r.0 r.1 b.0 b.1 b.2); begins = b.3 }
      | inr k ↦
          let ih = named ranges more v p.1 k in
          record { c = ih.c; within = or_second (nat_le r.0 ih.c && nat_le ih.c r.1) (in_ranges ranges ih.c) ih.within; begins = ih.begins }
    ]

-- the first digits of a code point are not above U+10FFFF
pub head_bound : (ranges : List (ℕ × ℕ)) (more v : ℕ) → are_code_points ranges ≡ true → is_head ranges more v ≡ true → v ≤ 0x10FFFF
head_bound [] more v o h = absurd cc
head_bound (r ∷ ranges) more v o h =
    let p = and_parts (nat_le r.0 r.1 && nat_le r.1 0x10FFFF) (are_code_points ranges) o in
    elim (or_parts (nat_le (head more r.0) v && nat_le v (head more r.1)) (is_head ranges more v) h) [
      | inl k ↦
          let q = range_parts (head more r.0) (head more r.1) v k in
          omega (arith, q.1, head_small more r.1, range_last r.0 r.1 p.0)
      | inr k ↦ head_bound ranges more v p.1 k
    ]

pub above_none : (ranges : List (ℕ × ℕ)) (more v d : ℕ) → are_code_points ranges ≡ true → 0x10FFFF < v → is_head ranges more (v * 16 + d) ≡ true → ⊥
above_none ranges more v d o h k = omega (arith, head_bound ranges more (v * 16 + d) o k)

pub hex_parts : (n v c : ℕ) (cs : List ℕ) (w : ℕ) (left : List ℕ) → hex_at (suc n) v (c ∷ cs) ≡ Some (w, left) → (is_hex c ≡ true) × (hex_at n (v * 16 + digit_value c) cs ≡ Some (w, left))
unfolding hex_at
hex_parts n v c cs w left e = cond_is (is_hex c) (hex_at n (v * 16 + digit_value c) cs) (w, left) e

-- ---- one digit more

-- the digits after one more digit
abbrev pub IsNarrowed : Digits → ℕ → Digits → Type 0
IsNarrowed d value e = (e.value ≡ value) × (suc e.more ≡ d.more)

pub digit_forth : (d e : Digits) (c value w : ℕ) (cs : List ℕ) → value ≡ d.value * 16 + digit_value c → IsNarrowed d value e → RestOfDigits d w (c ∷ cs) → RestOfDigits e w cs
digit_forth d e c value w cs v n h =
    let p = hex_parts d.more d.value c cs w h.left h.digits in
    record { left = h.left; digits = rw (n.1, n.0, v) p.1; scalar = h.scalar }

pub digit_back : (d e : Digits) (c value w : ℕ) (cs : List ℕ) → is_hex c ≡ true → value ≡ d.value * 16 + digit_value c → IsNarrowed d value e → RestOfDigits e w cs → RestOfDigits d w (c ∷ cs)
digit_back d e c value w cs x v n h =
    let read : hex_at d.more value cs ≡ Some (w, h.left) = rw (← n.1, ← n.0) h.digits in
    record { left = h.left; digits = hex_step d.more d.value c value cs w h.left x (sym v) read; scalar = h.scalar }

pub last_forth : (d : Digits) (c value w : ℕ) (cs : List ℕ) → value ≡ d.value * 16 + digit_value c → d.more ≡ 0 → RestOfDigits d w (c ∷ cs) → w ≡ value
last_forth d c value w cs v z h =
    let p = hex_parts d.more d.value c cs w h.left h.digits in
    let e : hex_at zero (d.value * 16 + digit_value c) cs ≡ Some (w, h.left) = subst (λ (n : ℕ). hex_at n (d.value * 16 + digit_value c) cs ≡ Some (w, h.left)) z p.1 in
    hex_head zero (d.value * 16 + digit_value c) cs w h.left e ∙ sym v

pub last_back : (d : Digits) (c value : ℕ) (cs : List ℕ) → is_hex c ≡ true → value ≡ d.value * 16 + digit_value c → d.more ≡ 0 → IsScalar value → RestOfDigits d value (c ∷ cs)
last_back d c value cs x v z u =
    let e : hex_at d.more value cs ≡ Some (value, cs) = subst (λ (n : ℕ). hex_at n value cs ≡ Some (value, cs)) (sym z) (hex_none value cs) in
    record { left = cs; digits = hex_step d.more d.value c value cs value cs x (sym v) e; scalar = u }

pub narrowed_can : (test : ℕ → Bool) (ranges : List (ℕ × ℕ)) (d e : Digits) (value : ℕ) → AreRanges ranges test → IsNarrowed d value e → is_head ranges d.more value ≡ true → CanDenote test e
narrowed_can test ranges d e value r n h =
    let m = named ranges d.more value r.ordered h in
    record { c = m.c; allowed = sym (r.same m.c) ∙ m.within; begins = ap (λ (k : ℕ). head k m.c) n.1 ∙ m.begins ∙ sym n.0 }

pub last_allowed : (test : ℕ → Bool) (ranges : List (ℕ × ℕ)) (more value : ℕ) → AreRanges ranges test → more ≡ 0 → is_head ranges more value ≡ true → test value ≡ true
last_allowed test ranges more value r z h =
    let m = named ranges zero value r.ordered (subst (λ (n : ℕ). is_head ranges n value ≡ true) z h) in
    ap test (sym m.begins) ∙ (sym (r.same m.c) ∙ m.within)

pub digits_stop : (test : ℕ → Bool) (ranges : List (ℕ × ℕ)) (d : Digits) (c w : ℕ) (cs : List ℕ) → AreRanges ranges test
    → (is_hex c ≡ true → is_head ranges d.more (d.value * 16 + digit_value c) ≡ true → ⊥) → test w ≡ true → RestOfDigits d w (c ∷ cs) → ⊥
digits_stop test ranges d c w cs r n t h =
    let p = hex_parts d.more d.value c cs w h.left h.digits in
    let same = hex_head d.more (d.value * 16 + digit_value c) cs w h.left p.1 in
    n p.0 (subst (λ (v : ℕ). is_head ranges d.more v ≡ true) same (head_of ranges d.more w (r.same w ∙ t)))
