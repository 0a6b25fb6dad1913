use Rattle.std.proofs.Common.{◌≡◌, Bool, true, false, not, ◌||◌}
use Rattle.rdf_core.proofs.TermLaws.{term_eq, term_decides}
use Rattle.algebra_model.specs.Keys.{candidates, may_meet}
use Rattle.algebra_model.proofs.KeyLaws.{may_meet-covers, candidates-are, merges-tried}
use Rattle.algebra_model.proofs.laws.different_keys_are_incompatible.Goals as goal

meets : {x y z : Bool} → x ≡ true → y ≡ true → z ≡ false → (not x || (not y || z)) ≡ false
meets p q r = λ i. not (p i) || (not (q i) || r i)

pub returns-clause-apart : goal.returns-clause-apart
returns-clause-apart c = λ vs μ ν a b e. may_meet-covers term_eq vs μ ν (meets a b e)

pub returns-clause-candidates : goal.returns-clause-candidates
returns-clause-candidates c = λ vs μ B k.
    merges-tried term_eq μ (may_meet term_eq vs μ) (may_meet-covers term_eq vs μ) (candidates term_eq vs μ B) B (candidates-are term_eq vs μ k B) term_decides
