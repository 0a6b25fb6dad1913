-- Results are read in one way only.
use Rattle.std.proofs.Common.{◌≡◌, ℕ, zero, suc, ◌+◌, ◌<◌, false, List, [], ◌∷◌, ◌++◌, get_or, drop, length, map, flat_map, None, codes, refl, sym, ap, subst, ◌∙◌, arith}
use Rattle.std.specs.Prelude.{⊤}
use Rattle.std.specs.Str.{bytes_eq}
use Rattle.std.proofs.lemmas.List.{append_cancel_left, ext_get_or}
use Rattle.std.proofs.lemmas.List.Sorted.{IsPermutation-map, IsPermutation-sym}
use Rattle.std.proofs.lemmas.Slice.Eq.{bytes_eq-Decides}
use Rattle.algebra_model.specs.Bag.{IsWithoutRepeats}
use Rattle.algebra_model.specs.Renaming.{Each}
use Rattle.algebra_model.proofs.RangeLaws.{Each-IsSameBag}
use Rattle.result_json.specs.Results.{Column, columns, json, members, numbered, row_text, separated, string_text}
use Rattle.row_merge.specs.Merged.{Row, Table}
use Rattle.row_merge.proofs.NestLaws.{once-IsPermutation}
use Rattle.result_merge.specs.Laws.{ResultsAreUnique}
use Rattle.result_merge.specs.Merging.{AreTagged, AreWide}
use Rattle.result_merge.specs.Tags.{HasTagType}
use Rattle.result_merge.proofs.PlaceLaws.{bag, columns_bag, places}
use Rattle.result_merge.proofs.StringLaws.{string_same}
use Rattle.result_merge.proofs.TableLaws.{Agree, head, list_same, members_same, names_of}
use Rattle.result_merge.proofs.TermTextLaws.{framed, framed_two}

-- ---- rows

numbered_names : (k : ℕ) (vars : List (List ℕ)) → names_of (numbered k vars) ≡ vars
numbered_names k [] = refl
numbered_names k (x ∷ vars) = ap (λ l. x ∷ l) (numbered_names (suc k) vars)

pub names_once : (vars : List (List ℕ)) → IsWithoutRepeats bytes_eq vars → IsWithoutRepeats bytes_eq (names_of (columns vars))
names_once vars once =
    once-IsPermutation bytes_eq bytes_eq-Decides (names_of (numbered 0 vars)) (names_of (columns vars))
    (IsPermutation-map (λ (c : Column). c.0) (numbered 0 vars) (columns vars) (columns_bag vars)) (subst (IsWithoutRepeats bytes_eq) (sym (numbered_names 0 vars)) once)

numbered_at : (P : ℕ → Type 0) (k : ℕ) (vars : List (List ℕ)) → Each P (places (numbered k vars)) → (i : ℕ) → i < length vars → P (k + i)
numbered_at P k [] h i l = absurd (omega (arith, l))
numbered_at P k (x ∷ vars) h zero l = let e : k ≡ k + 0 = omega arith in subst P e h.0
numbered_at P k (x ∷ vars) h (suc i) l = let e : suc k + i ≡ k + suc i = omega arith in subst P e (numbered_at P (suc k) vars h.1 i (omega (arith, l)))

-- two rows have the same cell at a place
abbrev AgreeAt : Row → Row → ℕ → Type 0
AgreeAt r s p = get_or r p None ≡ get_or s p None

at_places : (r s : Row) (cs : List Column) → Each (Agree r s) cs → Each (AgreeAt r s) (places cs)
at_places r s [] h = tt
at_places r s (c ∷ cs) h = (h.0, at_places r s cs h.1)

rows_agree : (vars : List (List ℕ)) (r s : Row) → length r ≡ length vars → length s ≡ length vars → Each (Agree r s) (columns vars) → r ≡ s
rows_agree vars r s m n h =
    let all = Each-IsSameBag (AgreeAt r s) (places (columns vars)) (places (numbered 0 vars)) (IsPermutation-sym (places (numbered 0 vars)) (places (columns vars)) (bag vars)) (at_places r s (columns vars) h) in
    ext_get_or None r s (m ∙ sym n) (λ i l. let e : 0 + i ≡ i = omega arith in subst (AgreeAt r s) e (numbered_at (AgreeAt r s) 0 vars all i (omega (arith, l, m))))

-- a row with a cell for each variable
abbrev IsRowOf : List (List ℕ) → Row → Type 0
IsRowOf vars row = (length row ≡ length vars) × Each HasTagType row

row_same : (vars : List (List ℕ)) → IsWithoutRepeats bytes_eq vars → (r s : Row) → IsRowOf vars r → IsRowOf vars s → (a b : List ℕ)
    → row_text (columns vars) r ++ a ≡ row_text (columns vars) s ++ b → (r ≡ s) × (a ≡ b)
row_same vars once r s h k a b e =
    let cs = columns vars in
    let inside = ap (drop 1) (sym (framed (codes "{") (separated (members r cs)) (codes "}") a) ∙ e ∙ framed (codes "{") (separated (members s cs)) (codes "}") b) in
    let m = members_same cs r s false a b (names_once vars once) h.1 k.1 inside in
    (rows_agree vars r s h.0 k.0 m.0, m.1)

pub row_start : (cs : List Column) (r : Row) (a : List ℕ) → head (row_text cs r ++ a) ≡ 93 → ⊥
row_start cs r a e = absurd (omega (arith, e))

-- ---- documents

pub any_name : (xs : List (List ℕ)) → Each (λ _. ⊤) xs
any_name [] = tt
any_name (x ∷ xs) = (tt, any_name xs)

-- the rows of a document, and what follows them
abbrev pub body : List (List ℕ) → Table → List ℕ → List ℕ
body vars rows a = separated (map (row_text (columns vars)) rows) ++ (codes "]}}\n" ++ a)

pub opened : (vars : List (List ℕ)) (rows : Table) (a : List ℕ) → json vars rows ++ a ≡ codes "{\"head\":{\"vars\":[" ++ (separated (map string_text vars) ++ (codes "]},\"results\":{\"bindings\":[" ++ body vars rows a))
unfolding json
opened vars rows a =
    framed_two (codes "{\"head\":{\"vars\":[") (separated (map string_text vars)) (codes "]},\"results\":{\"bindings\":[") (separated (map (row_text (columns vars)) rows)) (codes "]}}\n") a

document_same : (vars names : List (List ℕ)) (rows others : Table) (a b : List ℕ) → IsWithoutRepeats bytes_eq vars → Each (IsRowOf vars) rows → Each (IsRowOf names) others
    → json vars rows ++ a ≡ json names others ++ b → (vars ≡ names) × (rows ≡ others) × (a ≡ b)
document_same vars names rows others a b once h k e =
    let g = codes "},\"results\":{\"bindings\":[" in
    let n = list_same string_text (λ _. ⊤) (λ x y _ _ c d f. string_same x y c d f) (λ x c f. absurd (omega (arith, f))) vars names false (g ++ body vars rows a) (g ++ body names others b) (any_name vars) (any_name names)
    (append_cancel_left (codes "{\"head\":{\"vars\":[") _ _ (sym (opened vars rows a) ∙ e ∙ opened names others b)) in
    let t : body vars rows a ≡ body vars others b = append_cancel_left g _ _ n.1 ∙ (λ i. body (sym n.0 i) others b) in
    let r = list_same (row_text (columns vars)) (IsRowOf vars) (row_same vars once) (row_start (columns vars)) rows others false (codes "}}\n" ++ a) (codes "}}\n" ++ b) h
    (subst (λ v. Each (IsRowOf v) others) (sym n.0) k) t in
    (n.0, r.0, append_cancel_left (codes "}}\n") _ _ r.1)

-- ---- results, one after the other

not_empty : (vars : List (List ℕ)) (rows : Table) (a : List ℕ) → [] ≡ json vars rows ++ a → ⊥
not_empty vars rows a e = absurd (omega (arith, ap head (e ∙ opened vars rows a)))

tables_same : (vars : List (List ℕ)) → IsWithoutRepeats bytes_eq vars → (tables others : List Table) → Each (Each (IsRowOf vars)) tables → Each (Each (IsRowOf vars)) others
    → flat_map (json vars) tables ≡ flat_map (json vars) others → tables ≡ others
tables_same vars once [] [] h k e = refl
tables_same vars once [] (o ∷ others) h k e = absurd (not_empty vars o (flat_map (json vars) others) e)
tables_same vars once (t ∷ tables) [] h k e = absurd (not_empty vars t (flat_map (json vars) tables) (sym e))
tables_same vars once (t ∷ tables) (o ∷ others) h k e =
    let one = document_same vars vars t o (flat_map (json vars) tables) (flat_map (json vars) others) once h.0 k.0 e in
    let more = tables_same vars once tables others h.1 k.1 one.2 in
    (λ i. one.1 i ∷ more i)

of_rows : (vars : List (List ℕ)) (rows : Table) → Each (λ (row : Row). length row ≡ length vars) rows → Each (Each HasTagType) rows → Each (IsRowOf vars) rows
of_rows vars [] h k = tt
of_rows vars (r ∷ rows) h k = ((h.0, k.0), of_rows vars rows h.1 k.1)

of_tables : (vars : List (List ℕ)) (tables : List Table) → AreWide vars tables → AreTagged tables → Each (Each (IsRowOf vars)) tables
of_tables vars [] h k = tt
of_tables vars (t ∷ tables) h k = (of_rows vars t h.0 k.0, of_tables vars tables h.1 k.1)

pub results_are_unique : ResultsAreUnique
results_are_unique vars names table tables [] once wide tagged wide' tagged' e = absurd (not_empty vars table (flat_map (json vars) tables) (sym e))
results_are_unique vars names table tables (o ∷ others) once wide tagged wide' tagged' e =
    let h = of_tables vars (table ∷ tables) wide tagged in
    let k = of_tables names (o ∷ others) wide' tagged' in
    let one = document_same vars names table o (flat_map (json vars) tables) (flat_map (json names) others) once h.0 k.0 e in
    let more = tables_same vars once tables others h.1 (subst (λ v. Each (Each (IsRowOf v)) others) (sym one.0) k.1) (one.2 ∙ (λ i. flat_map (json (sym one.0 i)) others)) in
    (one.0, (λ i. one.1 i ∷ more i))
