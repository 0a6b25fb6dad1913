-- The place in the first bytes of a line is the place in the line, if four bytes follow it.
use Rattle.std.proofs.Common.{◌≡◌, ◌⊎◌, ℕ, ◌+◌, ◌≤◌, ◌<◌, true, List, [], ◌∷◌, ◌++◌, length, take, drop, refl, sym, ap, subst, ◌∙◌, append_assoc, append-nil, length-append, arith, inl, inr, nat_le}
use Rattle.std.specs.Str.{IsUtf8, all_scalars, chars, encode_utf8_all}
use lib.Utf8.{encode, scalar}
use Rattle.std.proofs.Math.Seq.{take-append_seam}
use Rattle.std.proofs.lemmas.Bool.{cases_lt}
use Rattle.std.proofs.lemmas.Bool.Decides.{nat_tests}
use Rattle.std.proofs.lemmas.List.{length-take-le, take-append-drop, take-take, take_all}
use Rattle.std.proofs.lemmas.Str.{chars-append, encodes-append, encodes-chars, length-encode, len_utf8_bounds, scalars-chars}
use Rattle.rdf_core.proofs.EscapeLaws.{and_is, and_parts}
use Rattle.malformed_lines.specs.declared.document_list.MalformedLine.{MalformedLine}
use Rattle.malformed_lines.specs.Malformed.{IsKeptOf, most_kept}
use Rattle.line_diagnosis.specs.Place.{IsPlace, IsLinePrefix, IsWellFormed}

-- text that begins with whole characters goes on with a whole character of at most four bytes
record HasNext (front whole : List ℕ) : Type 0 where
  size : ℕ
  some : 1 ≤ size
  few : size ≤ 4
  short : length front + size ≤ length whole
  utf8 : IsUtf8 (take (length front + size) whole)

all_front : (front back : List ℕ) → all_scalars (front ++ back) ≡ true → all_scalars front ≡ true
all_front [] back h = refl
all_front (c ∷ front) back h =
    let p = and_parts (scalar c) (all_scalars (front ++ back)) h in
    and_is (scalar c) (all_scalars front) p.0 (all_front front back p.1)

next_of : (front whole cs : List ℕ) (c : ℕ) (others : List ℕ) → all_scalars (cs ++ c ∷ others) ≡ true → front ≡ encode_utf8_all cs → whole ≡ encode_utf8_all (cs ++ c ∷ others) → HasNext front whole
next_of front whole cs c others scalars f w =
    let more : List ℕ = cs ++ c ∷ [] in
    let bytes : encode_utf8_all more ≡ front ++ encode c = encodes-append cs (c ∷ []) ∙ ap (λ (x : List ℕ). encode_utf8_all cs ++ x) (append-nil (encode c)) ∙ ap (λ (x : List ℕ). x ++ encode c) (sym f) in
    let parts : cs ++ c ∷ others ≡ more ++ others = sym (append_assoc cs (c ∷ []) others) in
    let split : whole ≡ (front ++ encode c) ++ encode_utf8_all others = w ∙ ap encode_utf8_all parts ∙ encodes-append more others ∙ ap (λ (x : List ℕ). x ++ encode_utf8_all others) bytes in
    let size : length (front ++ encode c) ≡ length front + length (encode c) = length-append front (encode c) in
    let there : take (length front + length (encode c)) whole ≡ front ++ encode c = ap (λ (n : ℕ). take n whole) (sym size) ∙ ap (take (length (front ++ encode c))) split ∙ take-append_seam (front ++ encode c) (encode_utf8_all others) in
    let b = len_utf8_bounds c in
    let e = length-encode c in
    record {
      size = length (encode c);
      some = omega (arith, e, b.0);
      few = omega (arith, e, b.1);
      short = omega (arith, size, ap length split, length-append (front ++ encode c) (encode_utf8_all others));
      utf8 = (more, (all_front more others (ap all_scalars (sym parts) ∙ scalars), bytes ∙ sym there));
    }

has_next : (front whole rest : List ℕ) → IsUtf8 front → IsUtf8 whole → whole ≡ front ++ rest → length front < length whole → HasNext front whole
has_next front whole rest u v e l =
    go (chars rest) (ap chars e ∙ chars-append front rest u)
  where
    go : (more : List ℕ) → chars whole ≡ chars front ++ more → HasNext front whole
    go [] p =
        let same : front ≡ whole = sym (encodes-chars front u) ∙ ap encode_utf8_all (sym (append-nil (chars front)) ∙ sym p) ∙ encodes-chars whole v in
        absurd (omega (arith, l, ap length same))
    go (c ∷ others) p = next_of front whole (chars front) c others (ap all_scalars (sym p) ∙ scalars-chars whole v) (sym (encodes-chars front u)) (sym (encodes-chars whole v) ∙ ap encode_utf8_all p)

-- a beginning of the beginning of a line
earlier : (bytes : List ℕ) (k : ℕ) → IsLinePrefix bytes → IsLinePrefix (take k bytes)
earlier bytes k h = record {
  rest = drop k bytes ++ h.rest;
  whole = subst IsWellFormed (ap (λ (x : List ℕ). x ++ h.rest) (sym (take-append-drop k bytes)) ∙ append_assoc (take k bytes) (drop k bytes) h.rest) h.whole;
}

-- no longer beginning, if none is in the first bytes
none_longer : (line : List ℕ) (n at m : ℕ) → n ≤ length line → IsPlace (take n line) at → at + 4 ≤ n → at < m → m ≤ length line → IsUtf8 (take m line) → IsLinePrefix (take m line) → ⊥
none_longer line n at m l p four o k u h = elim (cases_lt n m) as (λ _. ⊥) [
  | inl far ↦
      let size : length (take at line) ≡ at = length-take-le at line (omega (arith, four, l)) in
      let whole : List ℕ = take m line in
      let front : take at whole ≡ take at line = take-take at m line (omega (arith, o)) in
      let x = has_next (take at line) whole (drop at whole) (subst IsUtf8 (take-take at n line (omega (arith, four))) p.characters) u
      (sym (take-append-drop at whole) ∙ ap (λ (y : List ℕ). y ++ drop at whole) front) (omega (arith, size, length-take-le m line k, o)) in
      let here : length (take at line) + x.size ≡ at + x.size = omega (arith, size) in
      let same : take (length (take at line) + x.size) whole ≡ take (at + x.size) (take n line) =
      ap (λ (y : ℕ). take y whole) here
      ∙ take-take (at + x.size) m line (omega (arith, x.few, four, far))
      ∙ sym (take-take (at + x.size) n line (omega (arith, x.few, four))) in
      p.longest (at + x.size) (omega (arith, x.some)) (omega (arith, length-take-le n line l, x.few, four)) (subst IsUtf8 same x.utf8) (subst IsLinePrefix same (earlier whole (length (take at line) + x.size) h))
  | inr near ↦
      let same : take m line ≡ take m (take n line) = sym (take-take m n line near) in
      p.longest m o (omega (arith, length-take-le n line l, near)) (subst IsUtf8 same u) (subst IsLinePrefix same h)
]

pub place_of_line : (line : List ℕ) (n at : ℕ) → n ≤ length line → IsPlace (take n line) at → at + 4 ≤ n → IsPlace line at
place_of_line line n at l p four =
    let same : take at (take n line) ≡ take at line = take-take at n line (omega (arith, four)) in
    record {
      in_line = omega (arith, four, l);
      characters = subst IsUtf8 same p.characters;
      beginning = subst IsLinePrefix same p.beginning;
      longest = λ m o k u h. none_longer line n at m l p four o k u h;
    }

within : (line : List ℕ) → nat_le (length line) most_kept ≡ true → length line ≤ most_kept
within line h = grind (arith, nat_tests)

-- the place in the bytes that are kept of a line, if it is whole or four bytes follow
pub place_kept : (line bytes : List ℕ) (kept : MalformedLine) (at : ℕ) → IsKeptOf line kept → bytes ≡ kept.bytes.items → IsPlace bytes at → (kept.is_whole ≡ true) ⊎ (at + 4 ≤ length bytes) → IsPlace line at
place_kept line bytes kept at k e p h =
    let first : bytes ≡ take most_kept line = e ∙ k.bytes in
    let q : IsPlace (take most_kept line) at = subst (λ (x : List ℕ). IsPlace x at) first p in
    elim (cases_lt most_kept (length line)) as (λ _. IsPlace line at) [
      | inl long ↦ elim h as (λ _. IsPlace line at) [
        | inl w ↦ absurd (omega (arith, within line (sym k.whole ∙ w), long))
        | inr four ↦ place_of_line line most_kept at (omega (arith, long)) q (omega (arith, four, ap length first, length-take-le most_kept line (omega (arith, long))))
      ]
      | inr short ↦ subst (λ (x : List ℕ). IsPlace x at) (take_all most_kept line short) q
    ]
