-- Keys of solutions, by which a join leaves out incompatible pairs. Only proofs, laws and private
-- clauses use these definitions; the definitions of the algebra do not.
use Rattle.std.specs.Prelude.{ℕ, Bool, ◌&&◌, ◌||◌, not, List, None, get_or, is_some, filter, ◌++◌}
use Rattle.std.specs.List.{list_all}
use Rattle.std.specs.Option.{option_eq}
use Rattle.algebra_model.specs.Solution.{Solution}

-- every key variable is bound
abbrev pub is_keyed : {T : Type 0} → List ℕ → Solution T → Bool
is_keyed vs μ = list_all (λ v. is_some (get_or μ v None)) vs

module _ {T : Type 0} (same : T → T → Bool) (vs : List ℕ) where
  -- the key variables have the same terms in both
  abbrev pub same_key : Solution T → Solution T → Bool
  same_key μ ν = list_all (λ v. option_eq same (get_or μ v None) (get_or ν v None)) vs

  -- the pair must be compared: a key variable is unbound on some side, or the keys are the same
  abbrev pub may_meet : Solution T → Solution T → Bool
  may_meet μ ν = not (is_keyed vs μ) || (not (is_keyed vs ν) || same_key μ ν)

  -- the solutions of B that have the key of μ, and then those with an unbound key variable
  abbrev pub candidates : Solution T → List (Solution T) → List (Solution T)
  candidates μ B =
      filter (λ ν. is_keyed vs ν && same_key μ ν) B ++ filter (λ ν. not (is_keyed vs ν)) B
