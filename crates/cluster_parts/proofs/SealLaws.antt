-- Sealed texts, and lists of numbers, are read in one way only.
use Rattle.std.proofs.Common.{◌≡◌, ℕ, ◌+◌, ◌<◌, ◌≤◌, ◌^◌, List, [], ◌∷◌, ◌++◌, length, get_or, drop, refl, sym, ap, ◌∙◌, arith, append_assoc, length-append}
use Rattle.std.specs.Int.{from_le_bytes, w64}
use Rattle.std.proofs.lemmas.List.{append_cancel_left}
use Rattle.std.proofs.lemmas.List.Elements.{All-cons, All-head, All-nil, All-tail}
use Rattle.std.proofs.lemmas.Nat.{from_le_bytes-to_le_bytes_8}
use Rattle.cluster_parts.specs.Hash.{hash, number_bytes}
use Rattle.cluster_parts.specs.NumberList.{FitInEightBytes}
use Rattle.cluster_parts.specs.Repeated.{numbers_of}
use Rattle.cluster_parts.specs.Seal.{all_sealed, seal_head, sealed}
use Rattle.cluster_parts.specs.Laws.{FrontsAreUnique, ListsAreUnique, SealsAreUnique}
use Rattle.cluster_parts.proofs.NumberListLaws.{numbers_same, split_same}

-- ---- numbers

pub number_long : (n : ℕ) → length (number_bytes n) ≡ 8
unfolding number_bytes
number_long n = refl

pub number_same : (m n : ℕ) → m < 2 ^ 64 → n < 2 ^ 64 → number_bytes m ≡ number_bytes n → m ≡ n
unfolding number_bytes
number_same m n low_m low_n e = sym (from_le_bytes-to_le_bytes_8 m low_m) ∙ ap (from_le_bytes w64) e ∙ from_le_bytes-to_le_bytes_8 n low_n

-- ---- sealed texts

pub opened : (text rest : List ℕ) → sealed text ++ rest ≡ seal_head ++ (number_bytes (length text) ++ (number_bytes (hash text) ++ (text ++ rest)))
opened text rest =
    append_assoc seal_head (number_bytes (length text) ++ (number_bytes (hash text) ++ text)) rest
    ∙ ap (λ l. seal_head ++ l) (append_assoc (number_bytes (length text)) (number_bytes (hash text) ++ text) rest
    ∙ ap (λ l. number_bytes (length text) ++ l) (append_assoc (number_bytes (hash text)) text rest))

pub long : (text rest : List ℕ) → 8 + length text + length rest ≤ length (sealed text ++ rest)
long text rest = omega (
  arith,
  ap length (opened text rest),
  length-append seal_head (number_bytes (length text) ++ (number_bytes (hash text) ++ (text ++ rest))),
  length-append (number_bytes (length text)) (number_bytes (hash text) ++ (text ++ rest)),
  number_long (length text),
  length-append (number_bytes (hash text)) (text ++ rest),
  length-append text rest,
)

pub first_same : (text other rest rest' : List ℕ) → length (sealed text ++ rest) < 2 ^ 64 → sealed text ++ rest ≡ sealed other ++ rest' → (text ≡ other) × (rest ≡ rest')
first_same text other rest rest' low e =
    let low_text : length text < 2 ^ 64 = omega (arith, low, long text rest) in
    let low_other : length other < 2 ^ 64 = omega (arith, low, long other rest', ap length e) in
    let body = append_cancel_left seal_head _ _ (sym (opened text rest) ∙ e ∙ opened other rest') in
    let lengths = split_same (number_bytes (length text)) (number_bytes (length other)) _ _ (number_long (length text) ∙ sym (number_long (length other))) body in
    let checks = split_same (number_bytes (hash text)) (number_bytes (hash other)) _ _ (number_long (hash text) ∙ sym (number_long (hash other))) lengths.1 in
    split_same text other rest rest' (number_same (length text) (length other) low_text low_other lengths.0) checks.1

pub seals_are_unique : SealsAreUnique
seals_are_unique [] [] low e = refl
seals_are_unique [] (o ∷ os) low e = absurd (omega (arith, ap length e, long o (all_sealed os)))
seals_are_unique (t ∷ ts) [] low e = absurd (omega (arith, ap length e, long t (all_sealed ts)))
seals_are_unique (t ∷ ts) (o ∷ os) low e =
    let h = first_same t o (all_sealed ts) (all_sealed os) low e in
    let others = seals_are_unique ts os (omega (arith, low, long t (all_sealed ts))) h.1 in
    (λ i. h.0 i ∷ others i)

pub fronts_are_unique : FrontsAreUnique
fronts_are_unique [] [] rest rest' same low e = (refl, e)
fronts_are_unique [] (o ∷ os) rest rest' same low e = absurd (omega (arith, same))
fronts_are_unique (t ∷ ts) [] rest rest' same low e = absurd (omega (arith, same))
fronts_are_unique (t ∷ ts) (o ∷ os) rest rest' same low e =
    let a = append_assoc (sealed t) (all_sealed ts) rest in
    let b = append_assoc (sealed o) (all_sealed os) rest' in
    let low' : length (sealed t ++ (all_sealed ts ++ rest)) < 2 ^ 64 = omega (arith, low, ap length a) in
    let h = first_same t o (all_sealed ts ++ rest) (all_sealed os ++ rest') low' (sym a ∙ e ∙ b) in
    let others = fronts_are_unique ts os rest rest' (omega (arith, same)) (omega (arith, low', long t (all_sealed ts ++ rest))) h.1 in
    ((λ i. h.0 i ∷ others.0 i), others.1)

-- ---- lists of numbers

pub front_fits : (xs ys : List ℕ) → FitInEightBytes (xs ++ ys) → FitInEightBytes xs × FitInEightBytes ys
front_fits [] ys fit = (All-nil (λ n. n < 2 ^ 64), fit)
front_fits (x ∷ xs) ys fit =
    let rest = front_fits xs ys (All-tail (λ n. n < 2 ^ 64) x (xs ++ ys) fit) in
    (All-cons (λ n. n < 2 ^ 64) x xs (All-head (λ n. n < 2 ^ 64) x (xs ++ ys) fit) rest.0, rest.1)

pub lists_are_unique : ListsAreUnique
lists_are_unique [] [] fit fit' e = refl
lists_are_unique [] (o ∷ os) fit fit' e = absurd (omega (arith, ap length e))
lists_are_unique (l ∷ ls) [] fit fit' e = absurd (omega (arith, ap length e))
lists_are_unique (l ∷ ls) (o ∷ os) fit fit' e =
    let one = front_fits l (numbers_of ls) fit in
    let other = front_fits o (numbers_of os) fit' in
    let first = numbers_same l o one.0 other.0 (ap (λ texts. get_or texts 0 []) e) in
    let others = lists_are_unique ls os one.1 other.1 (ap (λ texts. drop 1 texts) e) in
    (λ i. first i ∷ others i)
