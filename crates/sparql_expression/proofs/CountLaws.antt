-- Numbers with an upper bound, and the place of the first element that passes a test.
use Rattle.std.proofs.Common.{◌≡◌, ℕ, suc, ◌+◌, ◌-◌, ◌*◌, ◌<◌, ◌≤◌, List, [], ◌∷◌, Option, Some, None, Bool, true, false, nat_lt, cond, length, drop, get_or, drop-cons, min, refl, ap, ◌∙◌, arith, add-one}
use Rattle.std.proofs.lemmas.Bool.Decides.{nat_tests}
use Rattle.std.proofs.lemmas.List.Sums.{prefix_len-le-length}
use Rattle.std.proofs.lemmas.List.{drop_all}
use Rattle.std.specs.List.{position, position_or_len}
use Rattle.sparql_grammar.specs.Values.{number_of_digits, capped}

grows : (n : ℕ) (cs : List ℕ) → n ≤ number_of_digits n cs
grows n [] = omega arith
grows n (c ∷ cs) = omega (arith, grows (10 * n + (c - 48)) cs)

-- a number above the bound is replaced by the bound, with further digits too
saturates : (m n : ℕ) (cs : List ℕ) → n ≡ min m 18446744073709551615 → min (number_of_digits m cs) 18446744073709551615 ≡ min (number_of_digits n cs) 18446744073709551615
saturates m n cs e = grind (arith, grows m cs, grows n cs)

pub one_more : (text : List ℕ) (i n m d y : ℕ) → i < length text → d ≡ get_or text i y - 48 → m ≡ min (min (n * 10) 18446744073709551615 + d) 18446744073709551615
    → capped text ≡ min (number_of_digits n (drop i text)) 18446744073709551615 → capped text ≡ min (number_of_digits m (drop (i + 1) text)) 18446744073709551615
one_more text i n m d y lt e f h =
    let x = get_or text i y in
    let g : m ≡ min (10 * n + (x - 48)) 18446744073709551615 = omega arith in
    rw add-one (h ∙ ap (λ cs. min (number_of_digits n cs) 18446744073709551615) (drop-cons text i y lt) ∙ saturates (10 * n + (x - 48)) m (drop (suc i) text) g)

pub all_counted : (text : List ℕ) (i n : ℕ) → length text ≤ i → n ≤ 18446744073709551615 → capped text ≡ min (number_of_digits n (drop i text)) 18446744073709551615 → n ≡ capped text
all_counted text i n le b h =
    let e : capped text ≡ min n 18446744073709551615 = h ∙ ap (λ cs. min (number_of_digits n cs) 18446744073709551615) (drop_all i text le) in
    omega arith

some_at : (b : Bool) (m i : ℕ) → Some i ≡ cond b (Some m) None → i ≡ m
some_at true m i e = (cc)
some_at false m i e = absurd (cc)

no_some : {m : ℕ} → None ≡ Some m → ⊥
no_some e = (cc)

none_at : (b : Bool) (m : ℕ) → None ≡ cond b (Some m) None → b ≡ false
none_at true m e = absurd (no_some e)
none_at false m e = refl

not_less : (m n : ℕ) → nat_lt m n ≡ false → m ≤ n → n ≡ m
not_less m n e h = grind (arith, nat_tests)

pub found_at : {X : Type 0} (p : X → Bool) (xs : List X) (i : ℕ) → Some i ≡ position p xs → i ≡ position_or_len p xs
found_at p xs i e = some_at (nat_lt (position_or_len p xs) (length xs)) (position_or_len p xs) i e

pub none_found : {X : Type 0} (p : X → Bool) (xs : List X) → None ≡ position p xs → length xs ≡ position_or_len p xs
none_found p xs e = not_less (position_or_len p xs) (length xs) (none_at (nat_lt (position_or_len p xs) (length xs)) (position_or_len p xs) e) (prefix_len-le-length _ xs)
