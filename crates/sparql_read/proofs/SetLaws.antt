-- Sets of names.
use Rattle.std.proofs.Common.{◌≡◌, ℕ, List, [], ◌∷◌, ◌++◌, Bool, true, false, ◌||◌, cond, refl, sym, ap, ◌∙◌, arith}
use Rattle.std.specs.List.{list_any}
use Rattle.std.specs.Str.{bytes_eq}
use Rattle.std.specs.Ordering.{nat_cmp}
use Rattle.std.specs.Cmp.Lexicographic.{slice_cmp}
use Rattle.std.specs.BTreeMap.{is_at}
use Rattle.std.proofs.lemmas.List.{append_assoc}
use Rattle.std.proofs.lemmas.Map.Text.{is_eq-slice_cmp}
use Rattle.std.proofs.lemmas.List.Folds.{list_any-append}
use Rattle.std.proofs.lemmas.Slice.Eq.{bytes_eq-Decides}
use Rattle.sparql_read.specs.NameSet.{HaveSame, is_among}

pub bytes_eq_sym : (xs ys : List ℕ) → bytes_eq xs ys ≡ bytes_eq ys xs
bytes_eq_sym xs ys = grind (arith, bytes_eq-Decides xs ys, bytes_eq-Decides ys xs)

-- the look-up of the set finds the names that occur in the list
pub found_is_among : (x : List ℕ) (xs : List (List ℕ)) → list_any (is_at (slice_cmp nat_cmp x)) xs ≡ is_among x xs
found_is_among x [] = refl
found_is_among x (y ∷ ys) = rw (is_eq-slice_cmp x y, found_is_among x ys) refl

or_last : (a b : Bool) → cond a true b ≡ (b || (a || false))
or_last true true = refl
or_last true false = refl
or_last false true = refl
or_last false false = refl

pub among_last : (x y : List ℕ) (xs : List (List ℕ)) → cond (is_at (slice_cmp nat_cmp y) x) true (list_any (is_at (slice_cmp nat_cmp x)) xs) ≡ is_among x (xs ++ y ∷ [])
among_last x y xs = rw (is_eq-slice_cmp y x, bytes_eq_sym y x, found_is_among x xs, list_any-append (bytes_eq x) xs (y ∷ [])) (or_last (bytes_eq x y) (is_among x xs))

-- a name is added to a set whose list is xs
pub added : {xs : List (List ℕ)} (old new : List (List ℕ)) (y : List ℕ) → old ≡ xs
    → ((x : List ℕ) → list_any (is_at (slice_cmp nat_cmp x)) new ≡ cond (is_at (slice_cmp nat_cmp y) x) true (list_any (is_at (slice_cmp nat_cmp x)) old))
    → HaveSame new (xs ++ y ∷ [])
added {xs} old new y e h = record { each = λ x. sym (found_is_among x new) ∙ (h x ∙ (among_last x y old ∙ ap (λ zs. is_among x (zs ++ y ∷ [])) e)) }

pub joined : {xs ys : List (List ℕ)} (old other new : List (List ℕ)) → old ≡ xs → other ≡ ys
    → ((x : List ℕ) → list_any (is_at (slice_cmp nat_cmp x)) new ≡ (list_any (is_at (slice_cmp nat_cmp x)) old || list_any (is_at (slice_cmp nat_cmp x)) other))
    → HaveSame new (xs ++ ys)
joined {xs} {ys} old other new e f h = record {
  each = λ x.
      sym (found_is_among x new) ∙ (h x ∙ (rw (found_is_among x old, found_is_among x other, e, f) (sym (list_any-append (bytes_eq x) xs ys))));
}

pub same_refl : {xs : List (List ℕ)} → HaveSame xs xs
same_refl = record { each = λ x. refl }

pub same_sym : {xs ys : List (List ℕ)} → HaveSame xs ys → HaveSame ys xs
same_sym h = record { each = λ x. sym (h.each x) }

pub same_trans : {xs ys zs : List (List ℕ)} → HaveSame xs ys → HaveSame ys zs → HaveSame xs zs
same_trans g h = record { each = λ x. g.each x ∙ h.each x }

pub same_front : {xs ys : List (List ℕ)} (zs : List (List ℕ)) → HaveSame xs ys → HaveSame (xs ++ zs) (ys ++ zs)
same_front {xs} {ys} zs h = record { each = λ x. list_any-append (bytes_eq x) xs zs ∙ (ap (λ b. b || is_among x zs) (h.each x) ∙ sym (list_any-append (bytes_eq x) ys zs)) }

pub same_back : {xs ys : List (List ℕ)} (zs : List (List ℕ)) → HaveSame xs ys → HaveSame (zs ++ xs) (zs ++ ys)
same_back {xs} {ys} zs h = record { each = λ x. list_any-append (bytes_eq x) zs xs ∙ (ap (λ b. is_among x zs || b) (h.each x) ∙ sym (list_any-append (bytes_eq x) zs ys)) }

-- two lists of names are added, one after the other
pub same_then : (xs us vs : List (List ℕ)) {ys zs : List (List ℕ)} → HaveSame ys (xs ++ us) → HaveSame zs (ys ++ vs) → HaveSame zs (xs ++ (us ++ vs))
same_then xs us vs g h = record { each = λ x. h.each x ∙ ((same_front vs g).each x ∙ ap (is_among x) (append_assoc xs us vs)) }

or_turned : (a b : Bool) → (a || b) ≡ (b || a)
or_turned true true = refl
or_turned true false = refl
or_turned false true = refl
or_turned false false = refl

or_swapped : (a b c : Bool) → ((a || b) || c) ≡ ((a || c) || b)
or_swapped true b c = refl
or_swapped false b c = or_turned b c

-- the order of two lists of names does not matter
pub same_turned : (us vs : List (List ℕ)) → HaveSame (us ++ vs) (vs ++ us)
same_turned us vs = record { each = λ x. list_any-append (bytes_eq x) us vs ∙ (or_turned (is_among x us) (is_among x vs) ∙ sym (list_any-append (bytes_eq x) vs us)) }

pub same_swapped : (xs us vs : List (List ℕ)) → HaveSame ((xs ++ us) ++ vs) ((xs ++ vs) ++ us)
same_swapped xs us vs = record {
  each = λ x.
      list_any-append (bytes_eq x) (xs ++ us) vs ∙ (ap (λ b. b || is_among x vs) (list_any-append (bytes_eq x) xs us)
      ∙ (or_swapped (is_among x xs) (is_among x us) (is_among x vs)
      ∙ sym (list_any-append (bytes_eq x) (xs ++ vs) us ∙ ap (λ b. b || is_among x us) (list_any-append (bytes_eq x) xs vs))));
}
