-- Project, with one more cell and one more row.
use Rattle.std.proofs.Common.{All, ◌≡◌, ℕ, zero, suc, ◌+◌, ◌<◌, ◌==◌, Bool, List, [], ◌∷◌, ◌++◌, length, get_or, take, map, slice_get, None, Some, refl, sym, ap, ◌∙◌, arith, add-one, subst, if◌then◌else◌}
use Rattle.std.specs.List.{list_any}
use Rattle.std.proofs.lemmas.List.{map-append}
use Rattle.algebra_model.specs.Solution.{Solution}
use Rattle.algebra_model.specs.Operators.{project, restrict}
use Rattle.rdf_core.specs.declared.term.Term.{Term}
use Rattle.rdf_core.proofs.TermLaws.{term_eq}
use Rattle.algebra_model.specs.Renaming.{Each}
use Rattle.algebra_model.proofs.OperatorReadingLaws.{project-read}
use Rattle.algebra_model.proofs.RangeLaws.{project-bound}
use Rattle.dict_core.specs.Dict.{term_at}
use Rattle.row_core.specs.RowList.{RowList}
use Rattle.row_core.proofs.TurnLaws.{take_more_get}
use Rattle.sparql_eval.specs.Evaluated.{AreKnown, IsEvaluated}
use Rattle.sparql_eval.proofs.ReadingLaws.{Known, read_by, evaluated}

pub map-take : {X Y : Type 0} (f : X → Y) (xs : List X) (i : ℕ) (x : X) → slice_get xs i ≡ Some x → map f (take (i + 1) xs) ≡ map f (take i xs) ++ f x ∷ []
map-take f xs i x e = ap (map f) (take_more_get xs i x e) ∙ map-append f (take i xs) (x ∷ [])

restrict-take-suc : (keeps : ℕ → Bool) (μ : Solution ℕ) (i : ℕ) → i < length μ → restrict keeps (take (suc i) μ) ≡ restrict keeps (take i μ) ++ (if keeps i then get_or μ i None else None) ∷ []
restrict-take-suc keeps [] i h = absurd (omega arith)
restrict-take-suc keeps (x ∷ μ) zero h = refl
restrict-take-suc keeps (x ∷ μ) (suc i) h = ap (λ r. (if keeps 0 then x else None) ∷ r) (restrict-take-suc (λ k. keeps (suc k)) μ i (omega arith))

pub restrict-take : (keeps : ℕ → Bool) (μ : Solution ℕ) (i : ℕ) → i < length μ → restrict keeps (take (i + 1) μ) ≡ restrict keeps (take i μ) ++ (if keeps i then get_or μ i None else None) ∷ []
restrict-take keeps μ i h = rw add-one (restrict-take-suc keeps μ i h)

restrict-alike : (p q : ℕ → Bool) (μ : Solution ℕ) → ((k : ℕ) → k < length μ → p k ≡ q k) → restrict p μ ≡ restrict q μ
restrict-alike p q [] e = refl
restrict-alike p q (x ∷ μ) e = λ i. (if e 0 (omega arith) i then x else None) ∷ restrict-alike (λ k. p (suc k)) (λ k. q (suc k)) μ (λ k low. e (suc k) (omega arith)) i

-- one more row, if the test agrees with the list of variables below the width
pub project-take : (vs : List ℕ) (p : ℕ → Bool) (w : ℕ) → ((k : ℕ) → k < w → p k ≡ list_any (λ u. u == k) vs) → (A : List (Solution ℕ)) (i : ℕ) (μ : Solution ℕ) → slice_get A i ≡ Some μ → length μ ≡ w
    → project vs (take (i + 1) A) ≡ project vs (take i A) ++ restrict p μ ∷ []
project-take vs p w e A i μ h wide =
    let listed = λ (v : ℕ). list_any (λ (u : ℕ). u == v) vs in
    map-take (restrict listed) A i μ h ∙ ap (λ r. project vs (take i A) ++ r ∷ []) (restrict-alike listed p μ (λ k low. sym (e k (omega arith))))

-- all rows, if the test agrees with the list of variables below the width
pub project-alike : (vs : List ℕ) (p : ℕ → Bool) (w : ℕ) → ((k : ℕ) → k < w → p k ≡ list_any (λ u. u == k) vs) → (A : List (Solution ℕ)) → All (λ μ. length μ ≡ w) A
    → map (restrict p) A ≡ project vs A
project-alike vs p w e [] wide = refl
project-alike vs p w e (μ ∷ A) wide =
    let listed = λ (v : ℕ). list_any (λ (u : ℕ). u == v) vs in
    let long : length μ ≡ w = wide 0 [] (omega arith) in
    λ i. restrict-alike p listed μ (λ k low. e k (omega arith)) i ∷ project-alike vs p w e A (λ k d low. wide (suc k) d (omega arith)) i

pub project_evaluated : (terms : List Term) (vs : List ℕ) (rows made : RowList) → AreKnown terms rows → made.width ≡ rows.width → made.rows ≡ project vs rows.rows → IsEvaluated terms rows.width (project vs (map (read_by terms) rows.rows)) made terms
project_evaluated terms vs rows made known wide e =
    evaluated terms rows.width (project vs (map (read_by terms) rows.rows)) made wide
    (subst (Each (Known terms)) (sym e) (project-bound (λ n. n < length terms) vs rows.rows known))
    (ap (map (read_by terms)) e ∙ sym (project-read (λ x y. term_eq (term_at terms x) (term_at terms y)) term_eq (λ n. Unit {0}) (term_at terms) (λ x y i j. refl) vs rows.rows))
