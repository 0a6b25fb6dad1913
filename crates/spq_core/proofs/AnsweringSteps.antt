-- What the steps of an answer say together.
use Rattle.std.proofs.Common.{◌≡◌, ℕ, ◌<◌, ◌&&◌, Bool, true, false, nat_lt, List, [], ◌∷◌, length, get_or, map, true≢false, None, Vec, Global, refl, sym, ap, ◌∙◌, subst, arith}
use Rattle.std.specs.List.{list_all}
use Rattle.std.specs.Option.{unwrap_or}
use Rattle.std.specs.Str.{bytes_eq}
use Rattle.std.proofs.lemmas.Bool.Decides.{nat_tests}
use Rattle.std.proofs.lemmas.List.Sums.{passes_at_first}
use Rattle.std.proofs.lemmas.Slice.Eq.{bytes_eq-Decides}
use Rattle.rdf_core.specs.QuadParts.{QuadParts}
use Rattle.rdf_core.specs.declared.term.Term.{Term}
use Rattle.nquads_core.specs.Lines.{lines}
use Rattle.dict_core.specs.NumQuad.{quads_at}
use Rattle.dataset_load.specs.Store.{StoreView}
use Rattle.dataset_load.specs.Loaded.{IsLoaded}
use Rattle.algebra_model.specs.Algebra.{Algebra, Project, is_within}
use Rattle.algebra_model.specs.Bag.{IsSameBag, IsSameSet}
use Rattle.algebra_model.specs.Eval.{eval}
use Rattle.algebra_model.specs.Laws.{BagHasOneList, DatasetIsSet}
use Rattle.algebra_model.specs.RowOrder.{sorted_rows}
use Rattle.algebra_model.specs.Solution.{Solution}
use Rattle.algebra_model.specs.Sorted.{slice}
use Rattle.needed_quads.specs.Laws.{HasNeeded, NeededSuffice}
use Rattle.sparql_tree.specs.QueryTree.{QueryTree}
use Rattle.sparql_algebra.specs.Names.{Name, names_of, number_of, selected_names}
use Rattle.sparql_algebra.specs.Projected.{projected}
use Rattle.sparql_algebra.specs.Translation.{distinct_where, projection, translate, translate_group}
use Rattle.spq_core.specs.Outcome.{IsJsonOf, rows}
use Rattle.result_json.specs.Results.{joined_blocks, json, listed_names}

-- ---- the projected variables and their names

both_hold : (a b : Bool) → (a && b) ≡ true → (a ≡ true) × (b ≡ true)
both_hold true b e = (refl, e)
both_hold false b e = absurd (true≢false (sym e))

projected_below : (w : ℕ) (b : Bool) (vs : List ℕ) (A : Algebra) → is_within w (distinct_where b (Project vs A)) ≡ true → list_all (λ v. nat_lt v w) vs ≡ true
projected_below w true vs A h = (both_hold _ _ h).0
projected_below w false vs A h = (both_hold _ _ h).0

projected_from : (b : Bool) (vs : List ℕ) (A : Algebra) → projected (distinct_where b (Project vs A)) ≡ vs
projected_from true vs A = refl
projected_from false vs A = refl

-- the projected variables of the plan are those of the query
pub projected_is : (q : QueryTree) → projected (translate q).algebra ≡ projection q
projected_is q = projected_from q.distinct (projection q) (translate_group (names_of q) q.group)

below : (n m : ℕ) → nat_lt n m ≡ true → n < m
below n m h = grind (arith, nat_tests)

-- the name at the number of a name is this name
named : (names : List Name) (xs : List Name) → list_all (λ v. nat_lt v (length names)) (map (number_of names) xs) ≡ true → map (λ v. get_or names v []) (map (number_of names) xs) ≡ xs
named names [] h = refl
named names (x ∷ xs) h =
    let both = both_hold (nat_lt (number_of names x) (length names)) (list_all (λ v. nat_lt v (length names)) (map (number_of names) xs)) h in
    let found = passes_at_first (bytes_eq x) names [] (below (number_of names x) (length names) both.0) in
    let same = (bytes_eq-Decides x (get_or names (number_of names x) [])).0 found in
    λ i. sym same i ∷ named names xs both.1 i

-- the names that are printed are those of the selected variables
pub names_are : (q : QueryTree) (names : List Name) (A : Algebra) → names ≡ names_of q → A ≡ (translate q).algebra → is_within (length names) A ≡ true → map (λ v. get_or names v []) (projected A) ≡ selected_names q
names_are q names A n a h =
    let within : is_within (length (names_of q)) (translate q).algebra ≡ true = sym (λ i. is_within (length (n i)) (a i)) ∙ h in
    let below = projected_below (length (names_of q)) q.distinct (projection q) (translate_group (names_of q) q.group) within in
    (λ i. map (λ v. get_or (n i) v []) ((ap projected a ∙ projected_is q) i)) ∙ named (names_of q) (selected_names q) below

-- ---- the rows

-- which quads there are decides the rows, and neither their order nor their repeats
pub same_rows : DatasetIsSet → BagHasOneList → (q : QueryTree) (D E : List QuadParts) → IsSameSet D E → rows q D ≡ rows q E
unfolding rows
same_rows set one q D E same =
    ap (slice (unwrap_or q.offset 0) q.limit)
    (one (projection q) (eval (length (names_of q)) D None (translate q).algebra) (eval (length (names_of q)) E None (translate q).algebra) (set (length (names_of q)) D E same None (translate q).algebra))

-- the rows over the quads that the query needs are its rows
pub needed_rows : NeededSuffice → BagHasOneList → (q : QueryTree) (names : List Name) (A : Algebra) (D E : List QuadParts) → names ≡ names_of q → A ≡ (translate q).algebra
    → is_within (length names) A ≡ true → HasNeeded D E A → rows q D ≡ rows q E
unfolding rows
needed_rows suffice one q names A D E n a within needed =
    let w = length (names_of q) in
    let same : IsSameBag (eval w D None (translate q).algebra) (eval w E None (translate q).algebra) =
    subst (λ (B : Algebra). IsSameBag (eval w D None B) (eval w E None B)) a
    (subst (λ (xs : List Name). IsSameBag (eval (length xs) D None A) (eval (length xs) E None A)) n (suffice (length names) A D E within needed)) in
    ap (slice (unwrap_or q.offset 0) q.limit) (one (projection q) (eval w D None (translate q).algebra) (eval w E None (translate q).algebra) same)

-- the sorted rows of the same bag are the query's
pub rows_are : BagHasOneList → (q : QueryTree) (D : List QuadParts) (names : List Name) (A : Algebra) (S : List (Solution Term)) (vs : List ℕ) (offset : ℕ) → names ≡ names_of q → A ≡ (translate q).algebra
    → IsSameBag S (eval (length names) D None A) → vs ≡ projected A → offset ≡ unwrap_or q.offset 0 → slice offset q.limit (sorted_rows vs S) ≡ rows q D
unfolding rows
rows_are one q D names A S vs offset n a bag v o =
    let w : vs ≡ projection q = v ∙ ap projected a ∙ projected_is q in
    let same : IsSameBag S (eval (length (names_of q)) D None (translate q).algebra) = subst (λ (B : List (Solution Term)). IsSameBag S B) (λ i. eval (length (n i)) D None (a i)) bag in
    (λ i. slice (o i) q.limit (sorted_rows (w i) S)) ∙ ap (slice (unwrap_or q.offset 0) q.limit) (one (projection q) S (eval (length (names_of q)) D None (translate q).algebra) same)

-- what is printed is the JSON of the query's rows
pub printed : BagHasOneList → (q : QueryTree) (D E : List QuadParts) (names given : List Name) (A : Algebra) (S : List (Solution Term)) (vs : List ℕ) (offset : ℕ) (bytes : List ℕ) → names ≡ names_of q → given ≡ names
    → A ≡ (translate q).algebra → is_within (length names) A ≡ true → IsSameBag S (eval (length names) D None A) → D ≡ E → vs ≡ projected A → offset ≡ unwrap_or q.offset 0
    → bytes ≡ json (listed_names given vs) (slice offset q.limit (sorted_rows vs S)) → bytes ≡ json (selected_names q) (rows q E)
printed one q D E names given A S vs offset bytes n g a h bag d v o e =
    let listed : listed_names given vs ≡ selected_names q = (λ i. listed_names (g i) (v i)) ∙ names_are q names A n a h in
    e ∙ (λ i. json (listed i) (rows_are one q D names A S vs offset n a bag v o i)) ∙ ap (λ (F : List QuadParts). json (selected_names q) (rows q F)) d

-- the same of blocks
pub printed_blocks : BagHasOneList → (q : QueryTree) (D E : List QuadParts) (names : List Name) (A : Algebra) (S : List (Solution Term)) → names ≡ names_of q → A ≡ (translate q).algebra
    → is_within (length names) A ≡ true → IsSameBag S (eval (length names) D None A) → D ≡ E → (blocks : List (Vec ℕ Global))
    → joined_blocks blocks ≡ json (listed_names names (projected A)) (slice (unwrap_or q.offset 0) q.limit (sorted_rows (projected A) S))
    → joined_blocks blocks ≡ json (selected_names q) (rows q E)
printed_blocks one q D E names A S n a h bag d blocks e = printed one q D E names names A S (projected A) (unwrap_or q.offset 0) (joined_blocks blocks) n refl a h bag d refl refl e

-- ---- the answer over a document that was loaded

pub json_of_store : DatasetIsSet → BagHasOneList → (q : QueryTree) (doc : List ℕ) (store : StoreView) (bytes : List ℕ) → IsLoaded (lines doc) store
    → bytes ≡ json (selected_names q) (rows q (quads_at store.dict store.index)) → IsJsonOf doc q bytes
json_of_store set one q doc store bytes l e = record {
  quads = l.quads;
  statements = l.statements;
  printed = e ∙ ap (json (selected_names q)) (same_rows set one q (quads_at store.dict store.index) l.quads l.store_of.dataset);
}

-- the same of bytes that were joined from borrowed blocks
pub json_of_blocks : DatasetIsSet → BagHasOneList → (q : QueryTree) (doc : List ℕ) (store : StoreView) (bytes : List ℕ) (borrowed blocks : List (Vec ℕ Global)) → IsLoaded (lines doc) store
    → bytes ≡ joined_blocks borrowed → borrowed ≡ blocks → joined_blocks blocks ≡ json (selected_names q) (rows q (quads_at store.dict store.index)) → IsJsonOf doc q bytes
json_of_blocks set one q doc store bytes borrowed blocks l j v e = json_of_store set one q doc store bytes l (j ∙ ap joined_blocks v ∙ e)
