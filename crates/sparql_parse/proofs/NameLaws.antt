-- Lists of names without repeats.
use Rattle.std.proofs.Common.{◌≡◌, ℕ, List, [], ◌∷◌, Bool, true, false, ◌||◌, ◌&&◌, not, cond, if◌then◌else◌, nat_eq, refl, sym, ◌∙◌, arith}
use Rattle.std.specs.List.{list_any}
use Rattle.std.specs.Str.{bytes_eq}
use Rattle.std.specs.Ordering.{nat_cmp, is_eq}
use Rattle.std.specs.Cmp.Lexicographic.{pointwise, slice_cmp}
use Rattle.std.specs.BTreeMap.{is_at}
use Rattle.std.proofs.lemmas.Map.Text.{is_eq-slice_cmp}
use Rattle.std.proofs.lemmas.Slice.Eq.{bytes_eq-Decides}
use Rattle.sparql_grammar.specs.Values.{is_distinct}

bytes_eq_sym : (xs ys : List ℕ) → bytes_eq xs ys ≡ bytes_eq ys xs
bytes_eq_sym xs ys = grind (arith, bytes_eq-Decides xs ys, bytes_eq-Decides ys xs)

-- the name is in the set with these keys
abbrev pub is_key : List (List ℕ) → List ℕ → Bool
is_key ks x = list_any (is_at (slice_cmp nat_cmp x)) ks

-- no name occurs twice, and none of them is in the set
abbrev pub is_fresh : List (List ℕ) → List (List ℕ) → Bool
is_fresh ks xs = not (list_any (is_key ks) xs) && is_distinct xs

or_four : (a b c d : Bool) → (cond a true b || (c || d)) ≡ ((a || c) || (b || d))
or_four true b c d = refl
or_four false true true d = refl
or_four false true false d = refl
or_four false false true d = refl
or_four false false false d = refl

-- the name x is added to the set
abbrev pub IsGiven : List (List ℕ) → List ℕ → List (List ℕ) → Type 0
IsGiven old x new = (y : List ℕ) → is_key new y ≡ cond (is_at (slice_cmp nat_cmp x) y) true (is_key old y)

shared : (old new : List (List ℕ)) (x : List ℕ) (xs : List (List ℕ)) → IsGiven old x new
    → list_any (is_key new) xs ≡ (list_any (λ y. pointwise nat_eq y x) xs || list_any (is_key old) xs)
shared old new x [] h = refl
shared old new x (y ∷ ys) h = rw (h y, is_eq-slice_cmp x y, bytes_eq_sym x y, shared old new x ys h) (or_four (bytes_eq y x) (is_key old y) (list_any (λ z. pointwise nat_eq z x) ys) (list_any (is_key old) ys))

and_apart : (a b c : Bool) → (not b && (if a then false else c)) ≡ (not (a || b) && c)
and_apart true true c = refl
and_apart true false c = refl
and_apart false true c = refl
and_apart false false c = refl

-- the set did not have the name before it was added as a new one
is_new : (k : Bool) {b : Bool} → b ≡ not k → b ≡ true → k ≡ false
is_new false e f = refl
is_new true e f = sym f ∙ e

none_is_key : (xs : List (List ℕ)) → list_any (is_key []) xs ≡ false
none_is_key [] = refl
none_is_key (x ∷ xs) = none_is_key xs

pub fresh_first : (ks xs : List (List ℕ)) → ks ≡ [] → is_distinct xs ≡ is_fresh ks xs
fresh_first ks xs e = rw (e, none_is_key xs) refl

pub fresh_more : (old new : List (List ℕ)) (x : List ℕ) (xs : List (List ℕ)) {b : Bool} → b ≡ not (is_key old x) → b ≡ true → IsGiven old x new → is_fresh old (x ∷ xs) ≡ is_fresh new xs
fresh_more old new x xs e f h = rw (is_new (is_key old x) e f, shared old new x xs h) (and_apart (list_any (λ y. pointwise nat_eq y x) xs) (list_any (is_key old) xs) (is_distinct xs))
