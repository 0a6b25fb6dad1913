-- A loop that appends the image of each element of a list.
use Rattle.std.proofs.Common.{◌≡◌, ℕ, suc, ◌+◌, ◌<◌, Bool, true, false, cond, filter, List, [], ◌∷◌, ◌++◌, length, get_or, map, take, drop, drop-cons, add-one, append_assoc, flat_map, sym, ap, ◌∙◌}
use Rattle.std.proofs.Math.Seq.{take-suc}
use Rattle.std.proofs.lemmas.List.{flat_map_more}
use Rattle.std.specs.Str.{bytes_eq}
use Rattle.indexmap.specs.IndexSet.{insert_all}
use Rattle.sparql_algebra.specs.Names.{Name}
use Rattle.sparql_algebra.proofs.RepeatSteps.{insert_all-append}

pub next_element : {A : Type 0} (xs : List A) (i : ℕ) (x : A) (made more all : List A) → i < length xs → x ≡ get_or xs i x
    → more ≡ made ++ x ∷ []
    → made ++ drop i xs ≡ all
    → more ++ drop (i + 1) xs ≡ all
next_element xs i x made more all lt is pushed h =
    rw add-one (ap (λ m. m ++ drop (suc i) xs) pushed ∙ append_assoc made (x ∷ []) (drop (suc i) xs)
    ∙ ap (λ y. made ++ y ∷ drop (suc i) xs) is
    ∙ ap (λ l. made ++ l) (sym (drop-cons xs i x lt)) ∙ h)

pub next_image : {A B : Type 0} (f : A → B) (xs : List A) (i : ℕ) (x : A) (made more all : List B) → i < length xs → x ≡ get_or xs i x
    → more ≡ made ++ f x ∷ []
    → made ++ map f (drop i xs) ≡ all
    → more ++ map f (drop (i + 1) xs) ≡ all
next_image f xs i x made more all lt is pushed h =
    rw add-one (ap (λ m. m ++ map f (drop (suc i) xs)) pushed ∙ append_assoc made (f x ∷ []) (map f (drop (suc i) xs))
    ∙ ap (λ y. made ++ f y ∷ map f (drop (suc i) xs)) is
    ∙ ap (λ l. made ++ map f l) (sym (drop-cons xs i x lt)) ∙ h)

-- the names of one more element of a list are added
pub next_names : {A : Type 0} (f : A → List Name) (xs : List A) (i : ℕ) (x : A) (old names new : List Name) → i < length xs → x ≡ get_or xs i x
    → names ≡ insert_all bytes_eq old (flat_map f (take i xs))
    → new ≡ insert_all bytes_eq names (f x)
    → new ≡ insert_all bytes_eq old (flat_map f (take (i + 1) xs))
next_names f xs i x old names new lt is e added =
    rw add-one (added ∙ ap (λ n. insert_all bytes_eq n (f x)) e ∙ sym (insert_all-append bytes_eq old (flat_map f (take i xs)) (f x))
    ∙ ap (insert_all bytes_eq old) (flat_map_more f [] (take i xs) x ∙ ap (λ y. flat_map f (take i xs ++ y ∷ [])) is
    ∙ ap (flat_map f) (sym (take-suc xs i x lt))))

-- an element is kept, and its image is appended; another is passed over
pub kept_image : {A B : Type 0} (f : A → B) (keep : A → Bool) (xs : List A) (i : ℕ) (x : A) (made more all : List B) → i < length xs → x ≡ get_or xs i x
    → true ≡ keep x
    → more ≡ made ++ f x ∷ []
    → made ++ map f (filter keep (drop i xs)) ≡ all
    → more ++ map f (filter keep (drop (i + 1) xs)) ≡ all
kept_image f keep xs i x made more all lt is kept pushed h =
    let rest = filter keep (drop (suc i) xs) in
    rw add-one (ap (λ m. m ++ map f rest) pushed ∙ append_assoc made (f x ∷ []) (map f rest)
    ∙ ap (λ b. made ++ map f (cond b (x ∷ rest) rest)) kept
    ∙ ap (λ y. made ++ map f (filter keep (y ∷ drop (suc i) xs))) is
    ∙ ap (λ l. made ++ map f (filter keep l)) (sym (drop-cons xs i x lt)) ∙ h)

pub passed_image : {A B : Type 0} (f : A → B) (keep : A → Bool) (xs : List A) (i : ℕ) (x : A) (made more all : List B) → i < length xs → x ≡ get_or xs i x
    → false ≡ keep x
    → more ≡ made
    → made ++ map f (filter keep (drop i xs)) ≡ all
    → more ++ map f (filter keep (drop (i + 1) xs)) ≡ all
passed_image f keep xs i x made more all lt is passed same h =
    let rest = filter keep (drop (suc i) xs) in
    rw add-one (ap (λ m. m ++ map f rest) same
    ∙ ap (λ b. made ++ map f (cond b (x ∷ rest) rest)) passed
    ∙ ap (λ y. made ++ map f (filter keep (y ∷ drop (suc i) xs))) is
    ∙ ap (λ l. made ++ map f (filter keep l)) (sym (drop-cons xs i x lt)) ∙ h)
