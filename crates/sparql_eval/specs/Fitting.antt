-- Solutions in which the terms of paired variables have one key. A condition that requires the terms,
-- or their texts, to be equal is true of no other solution. Only private clauses use these definitions.
use Rattle.std.specs.Prelude.{◌≡◌, ℕ, Bool, true, ◌&&◌, ◌||◌, List, Option, None, Some, filter, get_or, is_some, nat_eq}
use Rattle.std.specs.List.{list_all}
use Rattle.std.specs.Option.{option_eq}
use Rattle.rdf_core.specs.declared.term.Term.{Term}
use Rattle.rdf_core.specs.Equality.{term_eq}
use Rattle.algebra_model.specs.Bag.{IsSameBag}
use Rattle.algebra_model.specs.Solution.{Solution}
use Rattle.dict_core.specs.Dict.{IsGrown}
use Rattle.row_core.specs.RowList.{RowList}
use Rattle.sparql_eval.specs.Evaluated.{AreKnown, solutions_of}
use Rattle.sparql_eval.specs.KeyedRows.{pairing_key}
use Rattle.sparql_eval.specs.declared.equalities.Equality.{Equality}

-- the keys are the same, and terms without a key are the same term
abbrev pub have_one_key : Term → Term → Bool
have_one_key s t = option_eq nat_eq (pairing_key s) (pairing_key t) && (is_some (pairing_key s) || term_eq s t)

-- not bound to terms with different keys
abbrev pub meet : Option Term → Option Term → Bool
meet None t = true
meet (Some s) None = true
meet (Some s) (Some t) = have_one_key s t

-- the variables of each pair meet
abbrev pub fits : List Equality → Solution Term → Bool
fits pairs ρ = list_all (λ p. meet (get_or ρ p.left.variable None) (get_or ρ p.right.variable None)) pairs

-- every solution that passes the test fits
abbrev pub Requires : (Solution Term → Bool) → List Equality → Type 0
Requires test pairs = (ρ : Solution Term) → test ρ ≡ true → fits pairs ρ ≡ true

-- Rows for solutions A, of which only those that pass the test are needed. Others may be left out.
pub record IsEvaluatedWhere
    (terms : List Term) (width : ℕ) (test : Solution Term → Bool) (A : List (Solution Term))
    (made : RowList) (terms' : List Term) : Type 0 where
  pub grown : IsGrown terms terms'
  pub wide : made.width ≡ width
  pub known : AreKnown terms' made
  pub bag : IsSameBag (filter test (solutions_of terms' made)) (filter test A)

-- the new rows are evaluated for all that the old ones are evaluated for
abbrev pub AreStillEvaluated : List Term → List Equality → RowList → RowList → Type 0
AreStillEvaluated terms pairs old new = (width : ℕ) (A : List (Solution Term)) → IsEvaluatedWhere terms width (fits pairs) A old terms → IsEvaluatedWhere terms width (fits pairs) A new terms
