-- Lists of malformed lines, line after line and piece after piece.
use Rattle.std.proofs.Common.{◌≡◌, ℕ, zero, suc, ◌+◌, List, [], ◌∷◌, ◌++◌, length, map, Option, Some, refl, ap, subst, append-nil, arith, inl, inr}
use Rattle.std.specs.List.{slice_get}
use Rattle.rdf_core.specs.QuadParts.{QuadParts}
use Rattle.nquads_core.specs.Grammar.{HasStatement, IsMalformed}
use Rattle.nquads_core.specs.Pieces.{HaveStatements}
use Rattle.malformed_lines.specs.Malformed.{AreMalformedFrom}

-- ---- the numbers

pub numbers_join : (n : ℕ) (a b : List (List ℕ)) (x y : List ℕ) → AreMalformedFrom n a x → AreMalformedFrom (n + length a) b y → AreMalformedFrom n (a ++ b) (x ++ y)
numbers_join n [] b x y h k = let e : n + 0 ≡ n = omega arith in rw h (subst (λ (m : ℕ). AreMalformedFrom m b y) e k)
numbers_join n (line ∷ a) b x y h k =
    let e : n + suc (length a) ≡ (n + 1) + length a = omega arith in
    let k' = subst (λ (m : ℕ). AreMalformedFrom m b y) e k in
    elim h as (λ h. AreMalformedFrom n ((line ∷ a) ++ b) (x ++ y)) [
      | inl m ↦ inl (m.0, (m.1.0 ++ y, ap (λ (z : List ℕ). z ++ y) m.1.1, numbers_join (n + 1) a b m.1.0 y m.1.2 k'))
      | inr w ↦ inr (w.0, numbers_join (n + 1) a b x y w.1 k')
    ]

-- one more line that is malformed
pub malformed_more : (n : ℕ) (a : List (List ℕ)) (x : List ℕ) (line : List ℕ) (place : ℕ) → AreMalformedFrom n a x → IsMalformed line → place ≡ n + length a → AreMalformedFrom n (a ++ line ∷ []) (x ++ place ∷ [])
malformed_more n a x line place h m e = rw e (numbers_join n a (line ∷ []) x ((n + length a) ∷ []) h (inl (m, ([], refl, refl))))

-- one more line that is well-formed
pub well_formed_more : (n : ℕ) (a : List (List ℕ)) (x : List ℕ) (line : List ℕ) (q : Option QuadParts) → AreMalformedFrom n a x → HasStatement line q → AreMalformedFrom n (a ++ line ∷ []) x
well_formed_more n a x line q h s = subst (λ (z : List ℕ). AreMalformedFrom n (a ++ line ∷ []) z) (append-nil x) (numbers_join n a (line ∷ []) x [] h (inr ((q, s), refl)))

-- no line of valid ones is malformed
pub none_malformed : (n : ℕ) (ls : List (List ℕ)) (quads : List QuadParts) → HaveStatements ls quads → AreMalformedFrom n ls []
none_malformed n [] quads h = refl
none_malformed n (line ∷ ls) quads h = inr ((h.0, h.2), none_malformed (n + 1) ls h.1 h.4)

-- more lines that are well-formed
pub well_formed_many : (n : ℕ) (a : List (List ℕ)) (x : List ℕ) (b : List (List ℕ)) (quads : List QuadParts) → AreMalformedFrom n a x → HaveStatements b quads → AreMalformedFrom n (a ++ b) x
well_formed_many n a x b quads h s = subst (λ (z : List ℕ). AreMalformedFrom n (a ++ b) z) (append-nil x) (numbers_join n a b x [] h (none_malformed (n + length a) b quads s))

-- the same lines counted from another number
pub numbers_from : (m n : ℕ) (a : List (List ℕ)) (x : List ℕ) → AreMalformedFrom n a x → AreMalformedFrom (m + n) a (map (λ k. m + k) x)
numbers_from m n [] x h = rw h refl
numbers_from m n (line ∷ a) x h =
    let e : m + (n + 1) ≡ (m + n) + 1 = omega arith in
    elim h as (λ h. AreMalformedFrom (m + n) (line ∷ a) (map (λ k. m + k) x)) [
      | inl p ↦ inl (p.0, (map (λ k. m + k) p.1.0, ap (map (λ k. m + k)) p.1.1, subst (λ (z : ℕ). AreMalformedFrom z a (map (λ k. m + k) p.1.0)) e (numbers_from m (n + 1) a p.1.0 p.1.2)))
      | inr w ↦ inr (w.0, subst (λ (z : ℕ). AreMalformedFrom z a (map (λ k. m + k) x)) e (numbers_from m (n + 1) a x w.1))
    ]

-- ---- the line at a place

pub still_at : (a b : List (List ℕ)) (k : ℕ) (line : List ℕ) → slice_get a k ≡ Some line → slice_get (a ++ b) k ≡ Some line
still_at [] b k line h = absurd cc
still_at (l ∷ a) b zero line h = h
still_at (l ∷ a) b (suc k) line h = still_at a b k line h

pub after_all : (before after : List (List ℕ)) (k : ℕ) (line : List ℕ) → slice_get after k ≡ Some line → slice_get (before ++ after) (length before + k) ≡ Some line
after_all [] after k line h = let e : 0 + k ≡ k = omega arith in rw e h
after_all (l ∷ before) after k line h = let e : suc (length before) + k ≡ suc (length before + k) = omega arith in rw e (after_all before after k line h)
