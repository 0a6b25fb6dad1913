-- Texts with commas between them, one text after another.
use Rattle.std.proofs.Common.{◌≡◌, ℕ, zero, suc, ◌+◌, ◌<◌, Bool, true, false, ◌||◌, List, [], ◌∷◌, ◌++◌, length, get_or, take, map, flat_map, Option, None, Some, is_some, Vec, Global, arith, refl, sym, ap, ◌∙◌, append_assoc, append-nil, codes}
use Rattle.std.proofs.lemmas.List.{take_more, map-append}
use Rattle.std.proofs.lemmas.List.Concat.{flat_map-append}
use Rattle.rdf_core.specs.declared.term.Term.{Term}
use Rattle.result_json.specs.Ranks.{ranked_cell, ranked_row}
use Rattle.result_json.specs.Results.{Column, member_text, members, row_text, separated, string_text, term_text}
use Rattle.result_json.specs.Texts.{begun, begun_column, begun_member, begun_members, begun_row, comma_texts}

abbrev pub is_cons : {X : Type 0} → List X → Bool
is_cons [] = false
is_cons (x ∷ xs) = true

pub separated-append : (xs ys : List (List ℕ)) → separated (xs ++ ys) ≡ separated xs ++ comma_texts (is_cons xs) ys
separated-append [] ys = refl
separated-append (x ∷ xs) ys = ap (λ r. x ++ r) (flat_map-append (λ y. 44 ∷ y) xs ys) ∙ sym (append_assoc x (flat_map (λ y. 44 ∷ y) xs) (flat_map (λ y. 44 ∷ y) ys))

pub is_cons-append : {X : Type 0} (xs ys : List X) → is_cons (xs ++ ys) ≡ (is_cons xs || is_cons ys)
is_cons-append [] ys = refl
is_cons-append (x ∷ xs) ys = refl

pub is_cons-member : (prefix : List ℕ) (o : Option Term) → is_cons (begun_member prefix o) ≡ is_some o
is_cons-member prefix None = refl
is_cons-member prefix (Some t) = refl

-- with one more column
pub row_more : (terms : List Term) (ranks : List ℕ) (columns : List (Vec ℕ Global × ℕ)) (i : ℕ) (column : Vec ℕ Global × ℕ) (rank : ℕ) (before out out' : List ℕ) (later later' : Bool)
    → i < length columns → column ≡ get_or columns i column → rank ≡ get_or ranks column.1 0
    → out' ≡ out ++ comma_texts later (begun_member column.0.items (ranked_cell terms rank)) → later' ≡ (later || is_some (ranked_cell terms rank))
    → out ≡ before ++ (codes "{" ++ separated (begun_members terms ranks (map begun_column (take i columns)))) → later ≡ is_cons (begun_members terms ranks (map begun_column (take i columns)))
    → (out' ≡ before ++ (codes "{" ++ separated (begun_members terms ranks (map begun_column (take (i + 1) columns))))) × (later' ≡ is_cons (begun_members terms ranks (map begun_column (take (i + 1) columns))))
row_more terms ranks columns i column rank before out out' later later' l at is e f h k =
    let front = begun_members terms ranks (map begun_column (take i columns)) in
    let member = begun_member column.0.items (ranked_cell terms rank) in
    let more : begun_members terms ranks (map begun_column (take (i + 1) columns)) ≡ front ++ member =
    ap (λ (cs : List (Vec ℕ Global × ℕ)). begun_members terms ranks (map begun_column cs)) (take_more columns i column l)
    ∙ ap (begun_members terms ranks) (map-append begun_column (take i columns) (get_or columns i column ∷ []))
    ∙ flat_map-append _ (map begun_column (take i columns)) (begun_column (get_or columns i column) ∷ [])
    ∙ ap (λ r. front ++ r) (append-nil _)
    ∙ ap (λ (c : Vec ℕ Global × ℕ). front ++ begun_member c.0.items (ranked_cell terms (get_or ranks c.1 0))) (sym at)
    ∙ ap (λ n. front ++ begun_member column.0.items (ranked_cell terms n)) (sym is) in (
      e ∙ (λ t. h t ++ comma_texts (k t) member) ∙ append_assoc before (codes "{" ++ separated front) (comma_texts (is_cons front) member)
          ∙ ap (λ s. before ++ (codes "{" ++ s)) (sym (separated-append front member)) ∙ ap (λ ms. before ++ (codes "{" ++ separated ms)) (sym more),
      f ∙ (λ t. k t || sym (is_cons-member column.0.items (ranked_cell terms rank)) t) ∙ sym (is_cons-append front member) ∙ ap is_cons (sym more),
    )

-- ---- a begun row is a row

member_is : (name : List ℕ) (o : Option Term) → begun_member (string_text name ++ 58 ∷ []) o ≡ member_text name o
member_is name None = refl
member_is name (Some t) = ap (λ s. s ∷ []) (append_assoc (string_text name) (58 ∷ []) (term_text t))

ranked_at : (terms : List Term) (ranks : List ℕ) (k : ℕ) → get_or (ranked_row terms ranks) k None ≡ ranked_cell terms (get_or ranks k 0)
ranked_at terms [] k = refl
ranked_at terms (r ∷ ranks) zero = refl
ranked_at terms (r ∷ ranks) (suc k) = ranked_at terms ranks k

members_are : (terms : List Term) (ranks : List ℕ) (cs : List Column) → begun_members terms ranks (map begun cs) ≡ members (ranked_row terms ranks) cs
members_are terms ranks [] = refl
members_are terms ranks (c ∷ cs) =
    λ i. (member_is c.0 (ranked_cell terms (get_or ranks c.1 0)) ∙ ap (member_text c.0) (sym (ranked_at terms ranks c.1))) i ++ members_are terms ranks cs i

pub row_is : (terms : List Term) (cs : List Column) (ranks : List ℕ) → begun_row terms (map begun cs) ranks ≡ row_text cs (ranked_row terms ranks)
row_is terms cs ranks = λ i. codes "{" ++ (separated (members_are terms ranks cs i) ++ codes "}")

pub rows_are : (terms : List Term) (cs : List Column) (rows : List (List ℕ)) → map (begun_row terms (map begun cs)) rows ≡ map (row_text cs) (map (ranked_row terms) rows)
rows_are terms cs [] = refl
rows_are terms cs (r ∷ rows) = λ i. row_is terms cs r i ∷ rows_are terms cs rows i

-- with one more text
pub separated-take : {X : Type 0} (f : X → List ℕ) (xs : List X) (i : ℕ) (d : X) → i < length xs
    → separated (map f (take (i + 1) xs)) ≡ separated (map f (take i xs)) ++ comma_texts (is_cons (take i xs)) (f (get_or xs i d) ∷ [])
separated-take {X} f xs i d l =
    ap (λ ys. separated (map f ys)) (take_more xs i d l) ∙ ap separated (map-append f (take i xs) (get_or xs i d ∷ [])) ∙ separated-append (map f (take i xs)) (f (get_or xs i d) ∷ [])
    ∙ ap (λ b. separated (map f (take i xs)) ++ comma_texts b (f (get_or xs i d) ∷ [])) (same (take i xs))
  where
    same : (ys : List X) → is_cons (map f ys) ≡ is_cons ys
    same [] = refl
    same (y ∷ ys) = refl

-- ---- row by row, and block by block

pub comma_texts-cons : (later : Bool) (x : List ℕ) (xs : List (List ℕ)) → comma_texts later (x ∷ xs) ≡ comma_texts later ([] ∷ []) ++ (x ++ comma_texts true xs)
comma_texts-cons true x xs = refl
comma_texts-cons false x xs = refl

pub comma_texts-append : (later : Bool) (xs ys : List (List ℕ)) → 0 < length xs → comma_texts later (xs ++ ys) ≡ comma_texts later xs ++ comma_texts true ys
comma_texts-append true xs ys l = flat_map-append (λ y. 44 ∷ y) xs ys
comma_texts-append false [] ys l = absurd (omega (arith, l))
comma_texts-append false (x ∷ xs) ys l = ap (λ r. x ++ r) (flat_map-append (λ y. 44 ∷ y) xs ys) ∙ sym (append_assoc x (flat_map (λ y. 44 ∷ y) xs) (flat_map (λ y. 44 ∷ y) ys))
