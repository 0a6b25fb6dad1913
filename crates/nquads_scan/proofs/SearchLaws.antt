-- The bytes at which a search stops, 32 at a time.
use Rattle.std.proofs.Common.{◌≡◌, ℕ, ◌+◌, ◌%◌, ◌^◌, ◌<◌, ◌≤◌, Bool, true, false, cond, eqb, List, [], ◌∷◌, map, length, replicate, refl, sym, ap, ap₂, subst, ◌∙◌, arith}
use Rattle.std.specs.Prelude.{◌||◌, not}
use Rattle.std.specs.List.{prefix_len}
use Rattle.std.proofs.lemmas.List.{length-map}
use Rattle.std.proofs.lemmas.Simd.{zip2_splat, length-chunk, mask_l-mod, none_from_empty_mask, run_in_chunk_fails, trailing_mask_l}
use lib.Bits.{bit_or}
use lib.Count.{count_trailing_zeros}
use lib.Lanes.{zip2, mask_l, top, chunk}
use Rattle.nquads_scan.specs.Ends.{is_sought, IsPassed}
use Rattle.nquads_scan.proofs.NoEnds.{passed_join}

-- the lane of a comparison
abbrev hit : ℕ → ℕ → ℕ
hit x y = cond (eqb x y) 255 0

or_hits : (p q : Bool) → bit_or (cond p 255 0) (cond q 255 0) ≡ cond (p || q) 255 0
or_hits true true = refl
or_hits true false = refl
or_hits false true = refl
or_hits false false = refl

top_hit : (p : Bool) → top 7 (cond p 255 0) ≡ p
top_hit true = refl
top_hit false = refl

abbrev lane : ℕ → ℕ → ℕ → ℕ
lane a b x = bit_or (bit_or (hit x a) (hit x b)) (bit_or (hit x 10) (hit x 13))

lane_is : (a b x : ℕ) → top 7 (lane a b x) ≡ is_sought a b x
lane_is a b x =
    ap (top 7) (ap₂ bit_or (or_hits (eqb x a) (eqb x b)) (or_hits (eqb x 10) (eqb x 13)) ∙ or_hits (eqb x a || eqb x b) (eqb x 10 || eqb x 13))
    ∙ top_hit ((eqb x a || eqb x b) || (eqb x 10 || eqb x 13))

each_lane : (a b : ℕ) (v : List ℕ) → map (top 7) (map (lane a b) v) ≡ map (is_sought a b) v
each_lane a b [] = refl
each_lane a b (x ∷ v) = ap₂ (λ y l. y ∷ l) (lane_is a b x) (each_lane a b v)

zip2-map : (f g : ℕ → ℕ) (v : List ℕ) → zip2 bit_or (map f v) (map g v) ≡ map (λ x. bit_or (f x) (g x)) v
zip2-map f g [] = refl
zip2-map f g (x ∷ v) = ap (λ l. bit_or (f x) (g x) ∷ l) (zip2-map f g v)

either : (f g : ℕ → ℕ) (v : List ℕ) {a b : List ℕ} → a ≡ map f v → b ≡ map g v → zip2 bit_or a b ≡ map (λ x. bit_or (f x) (g x)) v
either f g v p q = ap₂ (zip2 bit_or) p q ∙ zip2-map f g v

-- the bits of 32 bytes
pub marks_are : (a b : ℕ) (v z : List ℕ) → length v ≡ 32
    → z ≡ zip2 bit_or (zip2 bit_or (zip2 hit v (replicate 32 a)) (zip2 hit v (replicate 32 b))) (zip2 bit_or (zip2 hit v (replicate 32 10)) (zip2 hit v (replicate 32 13)))
    → mask_l (map (top 7) z) % 2 ^ 64 ≡ mask_l (map (is_sought a b) v)
marks_are a b v z long z_is =
    let lanes : z ≡ map (lane a b) v =
    z_is ∙ either (λ x. bit_or (hit x a) (hit x b)) (λ x. bit_or (hit x 10) (hit x 13)) v
    (either (λ x. hit x a) (λ x. hit x b) v (zip2_splat hit v 32 a long) (zip2_splat hit v 32 b long))
    (either (λ x. hit x 10) (λ x. hit x 13) v (zip2_splat hit v 32 10 long) (zip2_splat hit v 32 13 long)) in
    ap (λ l. mask_l l % 2 ^ 64) (ap (map (top 7)) lanes ∙ each_lane a b v) ∙ mask_l-mod (map (is_sought a b) v) 64 (omega (arith, length-map v (is_sought a b), long))

module _ (a b : ℕ) (bytes : List ℕ) (from at found : ℕ) (was : IsPassed a b bytes from at) (room : at + 32 ≤ length bytes) (found_is : found ≡ mask_l (map (is_sought a b) (chunk at 32 bytes))) where
  -- no bit is set
  pub passed_over : found ≡ 0 → IsPassed a b bytes from (at + 32)
  passed_over none =
      passed_join a b bytes from at (at + 32) was
      (record { each = λ k low high. none_from_empty_mask (is_sought a b) bytes at 32 0 room (sym found_is ∙ none) k low high })

  -- up to the lowest bit that is set
  pub stopped_at : 0 < found → IsPassed a b bytes from (at + count_trailing_zeros 64 found)
  stopped_at some =
      let p = is_sought a b in
      let here = chunk at 32 bytes in
      let counted : count_trailing_zeros 64 found ≡ prefix_len (λ x. not (p x)) here =
      ap (count_trailing_zeros 64) found_is ∙ trailing_mask_l p 64 here (omega (arith, length-chunk at 32 bytes room)) (subst (λ (n : ℕ). 0 < n) found_is some) in
      passed_join a b bytes from at (at + count_trailing_zeros 64 found) was
      (record { each = λ k low high. run_in_chunk_fails p bytes at 32 (count_trailing_zeros 64 found) 0 room counted k low high })
