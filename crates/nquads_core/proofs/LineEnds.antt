-- Laws on the lines of a document.
use Rattle.std.proofs.Common.{◌≡◌, ℕ, Bool, true, false, cond, eqb, List, [], ◌∷◌, ◌++◌, refl, sym, ap, ◌∙◌, inl, inr}
use Rattle.std.proofs.lemmas.List.{append_assoc}
use Rattle.nquads_core.specs.Lines.{onto_first, begins_with_lf, lines}
use Rattle.nquads_core.specs.Laws.{LinesJoin}

-- the list has a line, so its first line is not that of the lines after it
abbrev IsSome : List (List ℕ) → Type 0
IsSome ls = (line : List ℕ) × (others : List (List ℕ)) × (ls ≡ line ∷ others)

onto-some : (b : ℕ) (ls : List (List ℕ)) → IsSome (onto_first b ls)
onto-some b [] = (b ∷ [], [], refl)
onto-some b (l ∷ ls) = (b ∷ l, ls, refl)

cond-some : (t : Bool) (xs ys : List (List ℕ)) → IsSome xs → IsSome ys → IsSome (cond t xs ys)
cond-some true xs ys p q = p
cond-some false xs ys p q = q

lines-some : (front : List ℕ) → IsSome (lines (front ++ 10 ∷ []))
unfolding lines
lines-some [] = ([], [], refl)
lines-some (b ∷ front) =
    let rest = lines (front ++ 10 ∷ []) in
    cond-some (eqb b 10) ([] ∷ rest) _ ([], rest, refl)
    (cond-some (eqb b 13) _ (onto_first b rest) (cond-some (begins_with_lf (front ++ 10 ∷ [])) rest ([] ∷ rest) (lines-some front) ([], rest, refl)) (onto-some b rest))

onto-append : (b : ℕ) (xs ys : List (List ℕ)) → IsSome xs → onto_first b (xs ++ ys) ≡ onto_first b xs ++ ys
onto-append b [] ys p = absurd cc
onto-append b (x ∷ xs) ys p = refl

lf-same : (front more : List ℕ) → begins_with_lf (front ++ 10 ∷ more) ≡ begins_with_lf (front ++ 10 ∷ [])
lf-same [] more = refl
lf-same (b ∷ front) more = refl

cond-append : (t : Bool) (xs ys zs : List (List ℕ)) → cond t xs ys ++ zs ≡ cond t (xs ++ zs) (ys ++ zs)
cond-append true xs ys zs = refl
cond-append false xs ys zs = refl

split : (front more : List ℕ) → lines (front ++ 10 ∷ more) ≡ lines (front ++ 10 ∷ []) ++ lines more
unfolding lines
split [] more = refl
split (b ∷ front) more =
    let ih = split front more in
    rw (lf-same front more, ih, onto-append b (lines (front ++ 10 ∷ [])) (lines more) (lines-some front)) (sym (simp cond-append))

pub lines_join : LinesJoin
unfolding lines
lines_join a b (inl e) = rw e refl
lines_join a b (inr h) = rw h.1 (ap lines (append_assoc h.0 (10 ∷ []) b) ∙ split h.0 b)
