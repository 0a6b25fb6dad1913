-- Laws of patterns: the text after them, their first characters, and the longest texts of
-- sequences.
use Rattle.std.proofs.Common.{◌≡◌, ℕ, ◌<◌, ◌≤◌, List, [], ◌∷◌, length, Bool, true, false, ◌||◌, ◌&&◌, refl, sym, ap, ◌∙◌, subst, arith, Option, Some, None, ◌⊎◌, inl, inr, nat_eq}
use Rattle.std.proofs.lemmas.Bool.Decides.{nat_tests}
use Rattle.std.specs.Borrow.{Bor}
use Rattle.sparql_lexer.specs.Colonless.{HasSuffix, here, next}
use Rattle.sparql_lexer.specs.Pattern.{Pattern, nothing, character, ◌▸◌, ◌or◌, many, is, perhaps, Matches, is_nothing, is_character, both, left, right, no_more, one_more, EndsAt, Nowhere, Ends}

-- suffixes of a text

pub suffix_shorter : {ts rest : List ℕ} → HasSuffix ts rest → length rest ≤ length ts
suffix_shorter here = omega arith
suffix_shorter (next d) = let k = suffix_shorter d in omega arith

pub suffix_of_suffix : {ts mid rest : List ℕ} → HasSuffix ts mid → HasSuffix mid rest → HasSuffix ts rest
suffix_of_suffix here e = e
suffix_of_suffix (next d) e = next (suffix_of_suffix d e)

pub same_suffix : {ts r s : List ℕ} → HasSuffix ts r → HasSuffix ts s → length r ≡ length s → r ≡ s
same_suffix here here h = refl
same_suffix here (next d) h = absurd (let k = suffix_shorter d in omega arith)
same_suffix (next d) here h = absurd (let k = suffix_shorter d in omega arith)
same_suffix (next d) (next e) h = same_suffix d e h

pub rest_suffix : {a : Pattern} {ts rest : List ℕ} → Matches a ts rest → HasSuffix ts rest
rest_suffix is_nothing = here
rest_suffix (is_character e) = next here
rest_suffix (both d e) = suffix_of_suffix (rest_suffix d) (rest_suffix e)
rest_suffix (left d) = rest_suffix d
rest_suffix (right d) = rest_suffix d
rest_suffix no_more = here
rest_suffix (one_more d e) = suffix_of_suffix (rest_suffix d) (rest_suffix e)

pub shorter : {a : Pattern} {ts rest : List ℕ} → Matches a ts rest → length rest ≤ length ts
shorter d = suffix_shorter (rest_suffix d)

-- the first character of a text of a pattern

abbrev pub nullable : Pattern → Bool
nullable nothing = true
nullable (character p) = false
nullable (a ▸ b) = nullable a && nullable b
nullable (a or b) = nullable a || nullable b
nullable (many a) = true

abbrev pub first : Pattern → ℕ → Bool
first nothing c = false
first (character p) c = p c
first (a ▸ b) c = first a c || (nullable a && first b c)
first (a or b) c = first a c || first b c
first (many a) c = first a c

pub data Begins (a : Pattern) : List ℕ → List ℕ → Type 0 where
  takes_nothing : {ts : List ℕ} → nullable a ≡ true → Begins a ts ts
  takes_some : {c : ℕ} {ts rest : List ℕ} → first a c ≡ true → HasSuffix ts rest → Begins a (c ∷ ts) rest

pub or_left : (a b : Bool) → a ≡ true → (a || b) ≡ true
or_left a b h = ap (λ x. x || b) h

pub or_right : (a b : Bool) → b ≡ true → (a || b) ≡ true
or_right true b h = refl
or_right false b h = h

pub and_both : (a b : Bool) → a ≡ true → b ≡ true → (a && b) ≡ true
and_both a b h k = ap (λ x. x && b) h ∙ k

begins_both : {a b : Pattern} {ts mid rest : List ℕ} → Begins a ts mid → Begins b mid rest → Begins (a ▸ b) ts rest
begins_both {a = a} {b = b} (takes_nothing n) (takes_nothing m) = takes_nothing (and_both (nullable a) (nullable b) n m)
begins_both {a = a} {b = b} (takes_nothing n) (takes_some {c = c} f h) = takes_some (or_right (first a c) (nullable a && first b c) (and_both (nullable a) (first b c) n f)) h
begins_both {a = a} {b = b} (takes_some {c = c} f h) (takes_nothing m) = takes_some (or_left (first a c) (nullable a && first b c) f) h
begins_both {a = a} {b = b} (takes_some {c = c} f h) (takes_some g k) = takes_some (or_left (first a c) (nullable a && first b c) f) (suffix_of_suffix h (next k))

begins_left : {a b : Pattern} {ts rest : List ℕ} → Begins a ts rest → Begins (a or b) ts rest
begins_left {a = a} {b = b} (takes_nothing n) = takes_nothing (or_left (nullable a) (nullable b) n)
begins_left {a = a} {b = b} (takes_some {c = c} f h) = takes_some (or_left (first a c) (first b c) f) h

begins_right : {a b : Pattern} {ts rest : List ℕ} → Begins b ts rest → Begins (a or b) ts rest
begins_right {a = a} {b = b} (takes_nothing n) = takes_nothing (or_right (nullable a) (nullable b) n)
begins_right {a = a} {b = b} (takes_some {c = c} f h) = takes_some (or_right (first a c) (first b c) f) h

begins_more : {a : Pattern} {ts mid rest : List ℕ} → Begins a ts mid → Begins (many a) mid rest → Begins (many a) ts rest
begins_more (takes_nothing n) k = k
begins_more (takes_some f h) (takes_nothing m) = takes_some f h
begins_more (takes_some f h) (takes_some g k) = takes_some f (suffix_of_suffix h (next k))

pub begins : {a : Pattern} {ts rest : List ℕ} → Matches a ts rest → Begins a ts rest
begins is_nothing = takes_nothing refl
begins (is_character e) = takes_some e here
begins (both d e) = begins_both (begins d) (begins e)
begins (left d) = begins_left (begins d)
begins (right d) = begins_right (begins d)
begins no_more = takes_nothing refl
begins (one_more d e) = begins_more (begins d) (begins e)

true_false : {b : Bool} → b ≡ true → b ≡ false → ⊥
true_false h k = let e = sym h ∙ k in (cc)

pub not_here : {a : Pattern} {c : ℕ} {ts rest : List ℕ} → nullable a ≡ false → first a c ≡ false → Matches a (c ∷ ts) rest → ⊥
not_here n f d = go n f (begins d)
  where
    go : {a : Pattern} {c : ℕ} {ts rest : List ℕ} → nullable a ≡ false → first a c ≡ false → Begins a (c ∷ ts) rest → ⊥
    go n f (takes_nothing m) = true_false m n
    go n f (takes_some g h) = true_false g f

pub not_at_end : {a : Pattern} {rest : List ℕ} → nullable a ≡ false → Matches a [] rest → ⊥
not_at_end n d = go n (begins d)
  where
    go : {a : Pattern} {rest : List ℕ} → nullable a ≡ false → Begins a [] rest → ⊥
    go n (takes_nothing m) = true_false m n

pub strictly : {a : Pattern} {ts rest : List ℕ} → nullable a ≡ false → Matches a ts rest → length rest < length ts
strictly n d = go n (begins d)
  where
    go : {a : Pattern} {ts rest : List ℕ} → nullable a ≡ false → Begins a ts rest → length rest < length ts
    go n (takes_nothing m) = absurd (true_false m n)
    go n (takes_some g h) = let k = suffix_shorter h in omega arith

pub nothing_taken : (a : Pattern) (ts : List ℕ) → nullable a ≡ true → Matches a ts ts
nothing_taken nothing ts h = is_nothing
nothing_taken (character p) ts h = absurd (cc)
nothing_taken (a ▸ b) ts h = go (nullable a) (nullable b) h (nothing_taken a ts) (nothing_taken b ts)
  where
    go : (x y : Bool) → (x && y) ≡ true → (x ≡ true → Matches a ts ts) → (y ≡ true → Matches b ts ts) → Matches (a ▸ b) ts ts
    go true y h f g = both (f refl) (g h)
    go false y h f g = absurd (cc)
nothing_taken (a or b) ts h = go (nullable a) (nullable b) h (nothing_taken a ts) (nothing_taken b ts)
  where
    go : (x y : Bool) → (x || y) ≡ true → (x ≡ true → Matches a ts ts) → (y ≡ true → Matches b ts ts) → Matches (a or b) ts ts
    go true y h f g = left (f refl)
    go false y h f g = right (g h)
nothing_taken (many a) ts h = no_more

-- patterns whose texts at one place all have the same end

pub record Sure (a : Pattern) : Type 0 where
  pub same : (ts r s : List ℕ) → Matches a ts r → Matches a ts s → r ≡ s

pub sure_character : (p : ℕ → Bool) → Sure (character p)
sure_character p = record { same = λ ts r s d e. go d e }
  where
    go : {ts r s : List ℕ} → Matches (character p) ts r → Matches (character p) ts s → r ≡ s
    go (is_character d) (is_character e) = refl

pub sure_then : {a b : Pattern} → Sure a → Sure b → Sure (a ▸ b)
sure_then {a = a} {b = b} f g = record { same = λ ts r s d e. go d e }
  where
    go : {ts r s : List ℕ} → Matches (a ▸ b) ts r → Matches (a ▸ b) ts s → r ≡ s
    go {ts = ts} {r = r} {s = s} (both {mid = m} d e) (both {mid = m'} d' e') =
        let same = f.same ts m m' d d' in g.same m r s e (subst (λ x. Matches b x s) (sym same) e')

-- no place begins a text of both patterns
pub record Apart (a b : Pattern) : Type 0 where
  pub never : (ts r s : List ℕ) → Matches a ts r → Matches b ts s → ⊥

pub apart_first : (a b : Pattern) → nullable a ≡ false → nullable b ≡ false → ((c : ℕ) → first a c ≡ true → first b c ≡ false) → Apart a b
apart_first a b n m h = record { never = λ ts r s d e. go (begins d) (begins e) }
  where
    go : {ts r s : List ℕ} → Begins a ts r → Begins b ts s → ⊥
    go (takes_nothing k) e = true_false k n
    go (takes_some {c = c} f d) (takes_nothing k) = true_false k m
    go (takes_some {c = c} f d) (takes_some g e) = true_false g (h c f)

pub sure_or : {a b : Pattern} → Sure a → Sure b → Apart a b → Sure (a or b)
sure_or {a = a} {b = b} f g apart = record { same = λ ts r s d e. go d e }
  where
    go : {ts r s : List ℕ} → Matches (a or b) ts r → Matches (a or b) ts s → r ≡ s
    go {ts = ts} {r = r} {s = s} (left d) (left e) = f.same ts r s d e
    go {ts = ts} {r = r} {s = s} (left d) (right e) = absurd (apart.never ts r s d e)
    go {ts = ts} {r = r} {s = s} (right d) (left e) = absurd (apart.never ts s r e d)
    go {ts = ts} {r = r} {s = s} (right d) (right e) = g.same ts r s d e

-- the longest text of a sequence of patterns

pub then_none : (a b : Pattern) (ts : List ℕ) → Nowhere a ts → Nowhere (a ▸ b) ts
then_none a b ts h = record { none = λ other d. go other d }
  where
    go : (other : List ℕ) → Matches (a ▸ b) ts other → ⊥
    go other (both {mid = m} d e) = h.none m d

pub then_sure : {a : Pattern} (b : Pattern) {ts mid : List ℕ} (res : Option (Bor (List ℕ))) → Sure a → Matches a ts mid → Ends b mid res → Ends (a ▸ b) ts res
then_sure {a = a} b {ts = ts} {mid = mid} None sure d h = record { none = λ other e. go other e }
  where
    go : (other : List ℕ) → Matches (a ▸ b) ts other → ⊥
    go other (both {mid = m} x y) = h.none other (subst (λ x. Matches b x other) (sure.same ts m mid x d) y)
then_sure {a = a} b {ts = ts} {mid = mid} (Some p) sure d h = record { matches = both d h.matches; longest = λ other e. go other e }
  where
    go : (other : List ℕ) → Matches (a ▸ b) ts other → length p.now ≤ length other
    go other (both {mid = m} x y) = h.longest other (subst (λ x. Matches b x other) (sure.same ts m mid x d) y)

-- a run of a repeated pattern continues where another run ends, if the pattern is Sure
pub many_append : {a : Pattern} {ts mid rest : List ℕ} → Matches (many a) ts mid → Matches (many a) mid rest → Matches (many a) ts rest
many_append no_more e = e
many_append (one_more x d) e = one_more x (many_append d e)

pub along : {a : Pattern} {ts m n : List ℕ} → Sure a → Matches (many a) ts m → Matches (many a) ts n → Matches (many a) m n ⊎ Matches (many a) n m
along sure no_more e = inl e
along sure (one_more x d) no_more = inr (one_more x d)
along {a = a} {ts = ts} {n = n} sure (one_more {mid = k} x d) (one_more {mid = l} y e) =
    along sure d (subst (λ z. Matches (many a) z n) (sym (sure.same ts k l x y)) e)

-- R is followed by the longest run of X; a pattern that begins with no X can follow only that run
pub greedy_then : (X R b : Pattern) {ts mid : List ℕ} (res : Option (Bor (List ℕ))) → Sure X → nullable X ≡ false → ((ms : List ℕ) → Matches R ts ms → Matches (many X) ts ms)
    → ((c : ℕ) → first X c ≡ true → first b c ≡ false) → EndsAt R ts mid → Ends b mid res → Ends (R ▸ b) ts res
greedy_then X R b {ts = ts} {mid = mid} res sure solid inside apart run h = finish res h
  where
    ahead : {m s : List ℕ} → Matches (many X) m mid → Begins b m s → (m ≡ mid) ⊎ ((s ≡ m) × (nullable b ≡ true))
    ahead no_more e = inl refl
    ahead (one_more x d) (takes_nothing n) = inr (refl, n)
    ahead (one_more x d) (takes_some {c = c} f h) = go (begins x) f
      where
        go : {c : ℕ} {us ws : List ℕ} {P : Type 0} → Begins X (c ∷ us) ws → first b c ≡ true → P
        go (takes_nothing n) f = absurd (true_false n solid)
        go (takes_some {c = c} g k) f = absurd (true_false f (apart c g))

    level : {m : List ℕ} → Matches R ts m → Matches (many X) mid m → m ≡ mid
    level {m = m} r d = same_suffix (rest_suffix r) (rest_suffix run.matches) (let k = shorter d in let l = run.longest m r in omega arith)

    where_else : {m s : List ℕ} → Matches R ts m → Matches b m s → (m ≡ mid) ⊎ ((s ≡ m) × (nullable b ≡ true))
    where_else {m = m} {s = s} r d = elim (along sure (inside m r) (inside mid run.matches)) [ inl x ↦ ahead x (begins d) | inr x ↦ inl (level r x) ]

    finish : (res : Option (Bor (List ℕ))) → Ends b mid res → Ends (R ▸ b) ts res
    finish None h = record { none = λ other e. go other e }
      where
        go : (other : List ℕ) → Matches (R ▸ b) ts other → ⊥
        go other (both {mid = m} x y) = elim (where_else x y) [ inl e ↦ h.none other (subst (λ z. Matches b z other) e y) | inr e ↦ h.none mid (nothing_taken b mid e.1) ]
    finish (Some p) h = record { matches = both run.matches h.matches; longest = λ other e. go other e }
      where
        go : (other : List ℕ) → Matches (R ▸ b) ts other → length p.now ≤ length other
        go other (both {mid = m} x y) = elim (where_else x y) [ inl e ↦ h.longest other (subst (λ z. Matches b z other) e y) | inr e ↦ (let k = shorter h.matches in let l = run.longest m x in let q = ap length e.0 in omega arith) ]

-- one character

pub found : (p : ℕ → Bool) (ts us : List ℕ) (c : ℕ) → ts ≡ c ∷ us → p c ≡ true → EndsAt (character p) ts us
found p ts us c is e = subst (λ t. EndsAt (character p) t us) (sym is) (record { matches = is_character e; longest = λ other d. go other d })
  where
    go : (other : List ℕ) → Matches (character p) (c ∷ us) other → length us ≤ length other
    go other (is_character e) = omega arith

pub missing : (p : ℕ → Bool) (ts us : List ℕ) (c : ℕ) → ts ≡ c ∷ us → p c ≡ false → Nowhere (character p) ts
missing p ts us c is e = subst (Nowhere (character p)) (sym is) (record { none = λ other d. go other d })
  where
    go : (other : List ℕ) → Matches (character p) (c ∷ us) other → ⊥
    go other (is_character h) = true_false h e

pub missing_at_end : (p : ℕ → Bool) (ts : List ℕ) → ts ≡ [] → Nowhere (character p) ts
missing_at_end p ts is = subst (Nowhere (character p)) (sym is) (record { none = λ other d. not_at_end refl d })

-- runs of a pattern that is Sure

pub run_more : (a : Pattern) {ts mid rest : List ℕ} → Sure a → Matches a ts mid → EndsAt (many a) mid rest → EndsAt (many a) ts rest
run_more a {ts = ts} {mid = mid} {rest = rest} sure d h = record { matches = one_more d h.matches; longest = λ other e. go other e }
  where
    go : (other : List ℕ) → Matches (many a) ts other → length rest ≤ length other
    go other no_more = let k = shorter h.matches in let l = shorter d in omega arith
    go other (one_more {mid = m} x y) = h.longest other (subst (λ z. Matches (many a) z other) (sure.same ts m mid x d) y)

pub run_ends : (a : Pattern) (ts : List ℕ) → Nowhere a ts → EndsAt (many a) ts ts
run_ends a ts h = record { matches = no_more; longest = λ other e. go other e }
  where
    go : (other : List ℕ) → Matches (many a) ts other → length ts ≤ length other
    go other no_more = omega arith
    go other (one_more {mid = m} x y) = absurd (h.none m x)

pub equal_true : (a b : ℕ) → b ≡ a → nat_eq a b ≡ true
equal_true a b h = grind (arith, nat_tests)

pub moved : {a : Pattern} {x y r : List ℕ} → x ≡ y → Matches a x r → Matches a y r
moved {a = a} {r = r} e d = subst (λ z. Matches a z r) e d

-- choices

pub ends_along : (a b : Pattern) (ts : List ℕ) (res : Option (Bor (List ℕ))) → ((r : List ℕ) → Matches a ts r → Matches b ts r) → ((r : List ℕ) → Matches b ts r → Matches a ts r) → Ends a ts res → Ends b ts res
ends_along a b ts None f g h = record { none = λ r d. h.none r (g r d) }
ends_along a b ts (Some p) f g h = record { matches = f p.now h.matches; longest = λ r d. h.longest r (g r d) }

split_or : {a b : Pattern} {ts r : List ℕ} → Matches (a or b) ts r → Matches a ts r ⊎ Matches b ts r
split_or (left d) = inl d
split_or (right d) = inr d

pub only_left : (a b : Pattern) (ts : List ℕ) (res : Option (Bor (List ℕ))) → Nowhere b ts → Ends a ts res → Ends (a or b) ts res
only_left a b ts res none h = ends_along a (a or b) ts res (λ r d. left d) (λ r d. elim (split_or d) [ inl x ↦ x | inr y ↦ absurd (none.none r y) ]) h

pub only_right : (a b : Pattern) (ts : List ℕ) (res : Option (Bor (List ℕ))) → Nowhere a ts → Ends b ts res → Ends (a or b) ts res
only_right a b ts res none h = ends_along b (a or b) ts res (λ r d. right d) (λ r d. elim (split_or d) [ inl x ↦ absurd (none.none r x) | inr y ↦ y ]) h

pub left_at : (a b : Pattern) (ts r : List ℕ) → Nowhere b ts → EndsAt a ts r → EndsAt (a or b) ts r
left_at a b ts r none h = record { matches = left h.matches; longest = λ other d. elim (split_or d) [ inl x ↦ h.longest other x | inr y ↦ absurd (none.none other y) ] }

pub nearer : (a b : Pattern) (ts p q : List ℕ) → EndsAt a ts p → EndsAt b ts q → length p ≤ length q → EndsAt (a or b) ts p
nearer a b ts p q h k l = record { matches = left h.matches; longest = λ other d. elim (split_or d) [ inl x ↦ h.longest other x | inr y ↦ (let m = k.longest other y in omega arith) ] }

pub other_farther : (a b : Pattern) (ts p q : List ℕ) → EndsAt a ts p → EndsAt b ts q → length q < length p → EndsAt (a or b) ts q
other_farther a b ts p q h k l = record { matches = right k.matches; longest = λ other d. elim (split_or d) [ inl x ↦ (let m = h.longest other x in omega arith) | inr y ↦ k.longest other y ] }

split_then : {a b : Pattern} {ts r : List ℕ} → Matches (a ▸ b) ts r → (mid : List ℕ) × Matches a ts mid × Matches b mid r
split_then (both {mid = m} x y) = (m, x, y)

pub regroup : (a b c : Pattern) (ts : List ℕ) (res : Option (Bor (List ℕ))) → Ends (a ▸ (b ▸ c)) ts res → Ends ((a ▸ b) ▸ c) ts res
regroup a b c ts res h = ends_along (a ▸ (b ▸ c)) ((a ▸ b) ▸ c) ts res
    (λ r d. let x = split_then d in let y = split_then x.2 in both (both x.1 y.1) y.2)
    (λ r d. let x = split_then d in let y = split_then x.1 in both y.1 (both y.2 x.2)) h

pub perhaps_taken : (a b : Pattern) (ts : List ℕ) (res : Option (Bor (List ℕ))) → Nowhere b ts → Ends (a ▸ b) ts res → Ends (perhaps a ▸ b) ts res
perhaps_taken a b ts res none h = ends_along (a ▸ b) (perhaps a ▸ b) ts res (λ r d. let x = split_then d in both (right x.1) x.2) (λ r d. go r d) h
  where
    go : (r : List ℕ) → Matches (perhaps a ▸ b) ts r → Matches (a ▸ b) ts r
    go r (both (left is_nothing) y) = absurd (none.none r y)
    go r (both (right x) y) = both x y

pub perhaps_left_out : (a b : Pattern) (ts : List ℕ) (res : Option (Bor (List ℕ))) → Nowhere a ts → Ends b ts res → Ends (perhaps a ▸ b) ts res
perhaps_left_out a b ts res none h = ends_along b (perhaps a ▸ b) ts res (λ r d. both (left is_nothing) d) (λ r d. go r d) h
  where
    go : (r : List ℕ) → Matches (perhaps a ▸ b) ts r → Matches b ts r
    go r (both (left is_nothing) y) = y
    go r (both (right {rest = m} x) y) = absurd (none.none m x)

-- patterns apart

pub but : (p : ℕ → Bool) (n : ℕ) → p n ≡ false → (c : ℕ) → p c ≡ true → nat_eq n c ≡ false
but p n e c h = go (nat_eq n c) refl
  where
    go : (b : Bool) → nat_eq n c ≡ b → b ≡ false
    go true q = let same : n ≡ c = grind (arith, nat_tests) in absurd (true_false h (ap p (sym same) ∙ e))
    go false q = refl

pub apart_is : (a : Pattern) (n : ℕ) → nullable a ≡ false → first a n ≡ false → Apart a (is n)
apart_is a n solid e = apart_first a (is n) solid refl (λ c h. but (first a) n e c h)

pub apart_then : (a : Pattern) (n : ℕ) (x : Pattern) → nullable a ≡ false → first a n ≡ false → Apart a (is n ▸ x)
apart_then a n x solid e = apart_first a (is n ▸ x) solid refl (λ c h. ap (λ z. z || false) (but (first a) n e c h))

pub apart_or : {a b c : Pattern} → Apart a b → Apart a c → Apart a (b or c)
apart_or f g = record { never = λ ts r s d e. elim (split_or e) [ inl x ↦ f.never ts r s d x | inr y ↦ g.never ts r s d y ] }

pub apart_swap : {a b : Pattern} → Apart a b → Apart b a
apart_swap f = record { never = λ ts r s d e. f.never ts s r e d }

pub nowhere : {a b : Pattern} {ts r : List ℕ} → Apart a b → Matches a ts r → Nowhere b ts
nowhere {ts = ts} {r = r} apart d = record { none = λ other e. apart.never ts r other d e }

-- pieces up to the closing delimiter

pub closes : (a b : Pattern) (ts r : List ℕ) → Apart b a → EndsAt b ts r → EndsAt (many a ▸ b) ts r
closes a b ts r apart h = record { matches = both no_more h.matches; longest = λ other d. go other d }
  where
    go : (other : List ℕ) → Matches (many a ▸ b) ts other → length r ≤ length other
    go other (both no_more y) = h.longest other y
    go other (both (one_more {mid = m} x xs) y) = absurd (apart.never ts r m h.matches x)

pub one_piece : (a b : Pattern) (ts mid : List ℕ) (res : Option (Bor (List ℕ))) → Sure a → Nowhere b ts → Matches a ts mid → Ends (many a ▸ b) mid res → Ends (many a ▸ b) ts res
one_piece a b ts mid res sure none d h = ends_along_from (λ r e. let x = split_then e in both (one_more d x.1) x.2) (λ r e. go r e) res h
  where
    go : (r : List ℕ) → Matches (many a ▸ b) ts r → Matches (many a ▸ b) mid r
    go r (both no_more y) = absurd (none.none r y)
    go r (both (one_more {mid = m} x xs) y) = both (moved (sure.same ts m mid x d) xs) y

    ends_along_from : ((r : List ℕ) → Matches (many a ▸ b) mid r → Matches (many a ▸ b) ts r) → ((r : List ℕ) → Matches (many a ▸ b) ts r → Matches (many a ▸ b) mid r)
        → (res : Option (Bor (List ℕ))) → Ends (many a ▸ b) mid res → Ends (many a ▸ b) ts res
    ends_along_from f g None h = record { none = λ r e. h.none r (g r e) }
    ends_along_from f g (Some p) h = record { matches = f p.now h.matches; longest = λ r e. h.longest r (g r e) }

pub unclosed : (a b : Pattern) (ts : List ℕ) → Nowhere b ts → Nowhere a ts → Nowhere (many a ▸ b) ts
unclosed a b ts nb na = record { none = λ other d. go other d }
  where
    go : (other : List ℕ) → Matches (many a ▸ b) ts other → ⊥
    go other (both no_more y) = nb.none other y
    go other (both (one_more {mid = m} x xs) y) = na.none m x

-- parts with dots between them: ((part | '.')* part)?

abbrev pub tail : Pattern → Pattern
tail part = perhaps (many (part or is 46) ▸ part)

pub tail_inside : {part : Pattern} (ts m : List ℕ) → Matches (tail part) ts m → Matches (many (part or is 46)) ts m
tail_inside ts m (left is_nothing) = no_more
tail_inside ts m (right (both x y)) = many_append x (one_more (left y) no_more)

dots_inside : {part : Pattern} {ts m : List ℕ} → Matches (many (is 46)) ts m → Matches (many (part or is 46)) ts m
dots_inside no_more = no_more
dots_inside (one_more x d) = one_more (right x) (dots_inside d)

past_dots : {part : Pattern} {ts place after s : List ℕ} → Sure part → Apart part (is 46) → Matches (many (is 46)) ts place → Matches part place after → Matches (many (part or is 46) ▸ part) ts s
    → (s ≡ after) ⊎ Matches (many (part or is 46) ▸ part) after s
past_dots {place = place} {after = after} {s = s} sure apart no_more p (both no_more u) = inl (sure.same place s after u p)
past_dots {part = part} {place = place} {after = after} sure apart no_more p (both (one_more {mid = m} (left v) vs) u) =
    inr (both (moved (sure.same place m after v p) vs) u)
past_dots {place = place} {after = after} sure apart no_more p (both (one_more {mid = m} (right v) vs) u) = absurd (apart.never place after m p v)
past_dots {ts = ts} {s = s} sure apart (one_more {mid = k} x d) p (both no_more u) = absurd (apart.never ts s k u x)
past_dots {ts = ts} sure apart (one_more {mid = k} x d) p (both (one_more {mid = m} (left v) vs) u) = absurd (apart.never ts m k v x)
past_dots {part = part} {ts = ts} sure apart (one_more {mid = k} x d) p (both (one_more {mid = m} (right v) vs) u) =
    past_dots sure apart d p (both (moved (dot.same ts m k v x) vs) u)
  where
    dot : Sure (is 46)
    dot = sure_character (nat_eq 46)

pub tail_more : (part : Pattern) {ts place after r : List ℕ} → Sure part → Apart part (is 46) → Matches (many (is 46)) ts place → Matches part place after → EndsAt (tail part) after r → EndsAt (tail part) ts r
tail_more part {ts = ts} {place = place} {after = after} {r = r} sure apart dots p h = record { matches = join h.matches; longest = λ other d. go other d }
  where
    join : {r : List ℕ} → Matches (tail part) after r → Matches (tail part) ts r
    join (left is_nothing) = right (both (dots_inside dots) p)
    join (right (both x y)) = right (both (many_append (dots_inside dots) (one_more (left p) x)) y)

    go : (other : List ℕ) → Matches (tail part) ts other → length r ≤ length other
    go other (left is_nothing) = let k = shorter h.matches in let l = shorter p in let m = shorter dots in omega arith
    go other (right d) = elim (past_dots sure apart dots p d) [ inl e ↦ (let k = shorter h.matches in let q = ap length e in omega arith) | inr x ↦ h.longest other (right x) ]

no_part : {part : Pattern} {ts place s : List ℕ} → Apart part (is 46) → Matches (many (is 46)) ts place → Nowhere (is 46) place → Nowhere part place → Matches (many (part or is 46) ▸ part) ts s → ⊥
no_part {s = s} apart no_more nodot none (both no_more u) = none.none s u
no_part apart no_more nodot none (both (one_more {mid = m} (left v) vs) u) = none.none m v
no_part apart no_more nodot none (both (one_more {mid = m} (right v) vs) u) = nodot.none m v
no_part {ts = ts} {s = s} apart (one_more {mid = k} x d) nodot none (both no_more u) = apart.never ts s k u x
no_part {ts = ts} apart (one_more {mid = k} x d) nodot none (both (one_more {mid = m} (left v) vs) u) = apart.never ts m k v x
no_part {part = part} {ts = ts} apart (one_more {mid = k} x d) nodot none (both (one_more {mid = m} (right v) vs) u) =
    no_part apart d nodot none (both (moved (dot.same ts m k v x) vs) u)
  where
    dot : Sure (is 46)
    dot = sure_character (nat_eq 46)

pub tail_ends : (part : Pattern) (ts place : List ℕ) → Apart part (is 46) → EndsAt (many (is 46)) ts place → Nowhere part place → EndsAt (tail part) ts ts
tail_ends part ts place apart dots none = record { matches = left is_nothing; longest = λ other d. go other d }
  where
    nodot : Nowhere (is 46) place
    nodot = record { none = λ m x. let l = dots.longest m (many_append dots.matches (one_more x no_more)) in let k = strictly refl x in absurd (omega arith) }

    go : (other : List ℕ) → Matches (tail part) ts other → length ts ≤ length other
    go other (left is_nothing) = omega arith
    go other (right d) = absurd (no_part apart dots.matches nodot none d)

pub nowhere_or : (a b : Pattern) (ts : List ℕ) → Nowhere a ts → Nowhere b ts → Nowhere (a or b) ts
nowhere_or a b ts f g = record { none = λ r d. elim (split_or d) [ inl x ↦ f.none r x | inr y ↦ g.none r y ] }

pub spread : (a b x : Pattern) (ts : List ℕ) (res : Option (Bor (List ℕ))) → Ends ((a ▸ x) or (b ▸ x)) ts res → Ends ((a or b) ▸ x) ts res
spread a b x ts res h = ends_along ((a ▸ x) or (b ▸ x)) ((a or b) ▸ x) ts res (λ r d. join d) (λ r d. part d) h
  where
    join : {ts r : List ℕ} → Matches ((a ▸ x) or (b ▸ x)) ts r → Matches ((a or b) ▸ x) ts r
    join (left (both p q)) = both (left p) q
    join (right (both p q)) = both (right p) q

    part : {ts r : List ℕ} → Matches ((a or b) ▸ x) ts r → Matches ((a ▸ x) or (b ▸ x)) ts r
    part (both (left p) q) = left (both p q)
    part (both (right p) q) = right (both p q)

pub sure_from : (a b : Pattern) → ((ts r : List ℕ) → Matches a ts r → Matches b ts r) → Sure b → Sure a
sure_from a b f sure = record { same = λ ts r s d e. sure.same ts r s (f ts r d) (f ts s e) }

pub apart_after : {a b c : Pattern} → Sure a → Apart b c → Apart (a ▸ b) (a ▸ c)
apart_after {a = a} {b = b} {c = c} sure apart = record { never = λ ts r s d e. go ts r s d e }
  where
    go : (ts r s : List ℕ) → Matches (a ▸ b) ts r → Matches (a ▸ c) ts s → ⊥
    go ts r s (both {mid = m} x y) (both {mid = n} v w) = apart.never m r s y (moved (sure.same ts n m v x) w)

pub apart_from : {a b c : Pattern} → ((ts r : List ℕ) → Matches c ts r → Matches b ts r) → Apart a b → Apart a c
apart_from f apart = record { never = λ ts r s d e. apart.never ts r s d (f ts s e) }

pub sure_many_then : {a b : Pattern} → Sure a → Sure b → Apart b a → Sure (many a ▸ b)
sure_many_then {a = a} {b = b} f g apart = record { same = λ ts r s d e. let x = split_then d in let y = split_then e in go x.1 x.2 y.1 y.2 }
  where
    go : {ts m n r s : List ℕ} → Matches (many a) ts m → Matches b m r → Matches (many a) ts n → Matches b n s → r ≡ s
    go {ts = ts} {r = r} {s = s} no_more x no_more y = g.same ts r s x y
    go {ts = ts} {r = r} no_more x (one_more {mid = k} d ds) y = absurd (apart.never ts r k x d)
    go {ts = ts} {s = s} (one_more {mid = k} d ds) x no_more y = absurd (apart.never ts s k y d)
    go {ts = ts} (one_more {mid = k} d ds) x (one_more {mid = l} e es) y = go ds x (moved (f.same ts l k e d) es) y
