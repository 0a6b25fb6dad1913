-- Quads that a filter keeps.
use Rattle.std.proofs.Common.{◌≡◌, ◌⊎◌, inl, inr, ⊎_elim, ℕ, zero, suc, ◌<◌, Bool, true, List, [], ◌∷◌, ◌++◌, length, get_or, Contains, refl, sym, ap, ◌∙◌, subst, arith}
use Rattle.std.proofs.lemmas.Bool.{false≢true}
use Rattle.rdf_core.specs.QuadParts.{QuadParts}
use Rattle.quad_filter.specs.declared.filter.QuadFilter.TheVariants.{All}
use Rattle.quad_filter.specs.Filter.{keeps}
use Rattle.quad_filter.specs.Kept.{IsKept}

-- ---- lists of which nothing is left out

pub list_is_kept : (keep : QuadParts → Bool) (quads : List QuadParts) → IsKept keep quads quads
list_is_kept keep [] = refl
list_is_kept keep (q ∷ quads) = inl (quads, refl, list_is_kept keep quads)

pub all_is_kept : (quads kept : List QuadParts) → IsKept (keeps All) quads kept → kept ≡ quads
all_is_kept [] kept h = h
all_is_kept (q ∷ quads) kept (inl x) = x.1 ∙ ap (λ l. q ∷ l) (all_is_kept quads x.0 x.2)
all_is_kept (q ∷ quads) kept (inr x) = absurd (false≢true (sym x.0))

-- ---- two lists together

pub kept_joins : (keep : QuadParts → Bool) (a b c d : List QuadParts) → IsKept keep a b → IsKept keep c d → IsKept keep (a ++ c) (b ++ d)
kept_joins keep [] b c d h k = subst (λ l. IsKept keep c (l ++ d)) (sym h) k
kept_joins keep (q ∷ a) b c d (inl x) k = inl (x.0 ++ d, ap (λ l. l ++ d) x.1, kept_joins keep a x.0 c d x.2 k)
kept_joins keep (q ∷ a) b c d (inr x) k = inr (x.0, kept_joins keep a b c d x.1 k)

-- ---- the quads of a list

contains_first : (p : QuadParts) (quads : List QuadParts) (q : QuadParts) → p ≡ q → Contains (p ∷ quads) q
contains_first p quads q same = (0, omega arith, same)

contains_later : (p : QuadParts) (quads : List QuadParts) (q : QuadParts) → Contains quads q → Contains (p ∷ quads) q
contains_later p quads q h = (suc h.0, omega (arith, h.1), h.2)

contains_cases : (p : QuadParts) (quads : List QuadParts) (q : QuadParts) → Contains (p ∷ quads) q → (p ≡ q) ⊎ Contains quads q
contains_cases p quads q h = by h.0 h.1 h.2
  where
    by : (k : ℕ) → k < length (p ∷ quads) → get_or (p ∷ quads) k q ≡ q → (p ≡ q) ⊎ Contains quads q
    by zero low at = inl at
    by (suc k) low at = inr (k, omega (arith, low), at)

-- what is in the rest of one list is in the rest of the other
contains_more : (p : QuadParts) (quads more : List QuadParts) (q : QuadParts) → (Contains quads q → Contains more q) → Contains (p ∷ quads) q → Contains (p ∷ more) q
contains_more p quads more q rest h = ⊎_elim (contains_first p more q) (λ later. contains_later p more q (rest later)) (contains_cases p quads q h)

pub kept_are_listed : (keep : QuadParts → Bool) (quads kept : List QuadParts) (q : QuadParts) → IsKept keep quads kept → Contains kept q → Contains quads q
kept_are_listed keep [] kept q h has = subst (λ l. Contains l q) h has
kept_are_listed keep (p ∷ quads) kept q (inl x) has =
    let rest = λ (later : Contains x.0 q). kept_are_listed keep quads x.0 q x.2 later in
    contains_more p x.0 quads q rest (subst (λ l. Contains l q) x.1 has)
kept_are_listed keep (p ∷ quads) kept q (inr x) has = contains_later p quads q (kept_are_listed keep quads kept q x.1 has)

pub wanted_are_kept : (keep : QuadParts → Bool) (quads kept : List QuadParts) (q : QuadParts) → IsKept keep quads kept → Contains quads q → keep q ≡ true → Contains kept q
wanted_are_kept keep [] kept q h has wanted = subst (λ l. Contains l q) (sym h) has
wanted_are_kept keep (p ∷ quads) kept q (inl x) has wanted =
    let rest = λ (later : Contains quads q). wanted_are_kept keep quads x.0 q x.2 later wanted in
    subst (λ l. Contains l q) (sym x.1) (contains_more p quads x.0 q rest has)
wanted_are_kept keep (p ∷ quads) kept q (inr x) has wanted =
    let rest = λ (later : Contains quads q). wanted_are_kept keep quads kept q x.1 later wanted in
    ⊎_elim (λ (same : p ≡ q). absurd (false≢true (sym x.0 ∙ ap keep same ∙ wanted))) rest (contains_cases p quads q has)
