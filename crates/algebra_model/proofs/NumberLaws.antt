-- Distinct numbers that represent distinct terms.
use Rattle.std.proofs.Common.{◌≡◌, ℕ, ◌<◌, Bool, true, List, [], ◌∷◌, Option, map, nat_eq, refl, sym, ap, ◌∙◌}
use Rattle.std.proofs.lemmas.Bool.Decides.{Decides-eqb}
use Rattle.std.specs.Cmp.{both_ways}
use Rattle.rdf_core.specs.declared.term.Term.{Term}
use Rattle.rdf_core.proofs.TermLaws.{term_eq, term_decides}
use Rattle.algebra_model.specs.Solution.{Solution}
use Rattle.algebra_model.specs.Renaming.{Each, EachBound}
use Rattle.algebra_model.specs.Laws.{IsReading}

-- two numbers represent one term exactly if they are equal
pub equal_when_read : (n : ℕ) (f : ℕ → Term) → IsReading n f → (x y : ℕ) → x < n → y < n → term_eq (f x) (f y) ≡ nat_eq x y
equal_when_read n f h x y i j = both_ways (term_eq (f x) (f y)) (nat_eq x y)
    (λ e. (Decides-eqb x y).1 (h x y i j ((term_decides (f x) (f y)).0 e)))
    (λ e. (term_decides (f x) (f y)).1 (ap f ((Decides-eqb x y).0 e)))

-- a requirement without content is met by each term
pub nothing_asked : (μ : Solution ℕ) → EachBound (λ _. Unit {0}) μ
nothing_asked [] = tt
nothing_asked (Rattle.std.proofs.Common.None ∷ μ) = nothing_asked μ
nothing_asked (Rattle.std.proofs.Common.Some x ∷ μ) = (tt, nothing_asked μ)

pub nothing_asked_of_all : (A : List (Solution ℕ)) → Each (EachBound (λ _. Unit {0})) A
nothing_asked_of_all [] = tt
nothing_asked_of_all (μ ∷ A) = (nothing_asked μ, nothing_asked_of_all A)
