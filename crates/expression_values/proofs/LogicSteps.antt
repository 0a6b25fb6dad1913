-- Steps of the logic with errors, and of IN.
use Rattle.std.proofs.Common.{◌≡◌, ℕ, suc, ◌+◌, ◌<◌, length, get_or, map, drop, drop-cons, add-one, Bool, true, false, List, [], ◌∷◌, Option, Some, None, option_map, refl, sym, ◌∙◌, ap}
use Rattle.rdf_core.specs.declared.term.Term.{Term}
use Rattle.algebra_model.specs.Solution.{Solution}
use Rattle.algebra_model.specs.BooleanValue.{logical_and, logical_or}
use Rattle.algebra_model.specs.Call.{boolean_term}
use Rattle.algebra_model.specs.Comparison.{equal, compares}
use Rattle.algebra_model.specs.Expression.{Expression, boolean_result, member, truth_of, val, with_values}
use Rattle.expression_values.specs.MemberTruth.{member_truth}

pub or_true : (b : Option Bool) → Some true ≡ logical_or (Some true) b
or_true (Some true) = refl
or_true (Some false) = refl
or_true None = refl

pub or_true_right : (b : Option Bool) → logical_or b (Some true) ≡ Some true
or_true_right (Some true) = refl
or_true_right (Some false) = refl
or_true_right None = refl

pub or_false : (b : Option Bool) → logical_or (Some false) b ≡ b
or_false (Some true) = refl
or_false (Some false) = refl
or_false None = refl

pub or_assoc : (a b c : Option Bool) → logical_or (logical_or a b) c ≡ logical_or a (logical_or b c)
or_assoc (Some true) b c = sym (ap (λ x. logical_or x c) (or_true b)) ∙ sym (or_true c) ∙ or_true (logical_or b c)
or_assoc (Some false) b c = ap (λ x. logical_or x c) (or_false b) ∙ sym (or_false (logical_or b c))
or_assoc None (Some true) c = sym (or_true c) ∙ ap (λ x. logical_or None x) (or_true c)
or_assoc None (Some false) c = ap (λ x. logical_or None x) (sym (or_false c))
or_assoc None None (Some true) = refl
or_assoc None None (Some false) = refl
or_assoc None None None = refl

pub and_false : (b : Option Bool) → Some false ≡ logical_and (Some false) b
and_false (Some true) = refl
and_false (Some false) = refl
and_false None = refl

pub and_true : (b : Option Bool) → logical_and (Some true) b ≡ b
and_true (Some true) = refl
and_true (Some false) = refl
and_true None = refl

pub and_false_right : (b : Option Bool) → logical_and b (Some false) ≡ Some false
and_false_right (Some true) = refl
and_false_right (Some false) = refl
and_false_right None = refl

pub and_assoc : (a b c : Option Bool) → logical_and (logical_and a b) c ≡ logical_and a (logical_and b c)
and_assoc (Some false) b c =
    sym (ap (λ x. logical_and x c) (and_false b)) ∙ sym (and_false c) ∙ and_false (logical_and b c)
and_assoc (Some true) b c = ap (λ x. logical_and x c) (and_true b) ∙ sym (and_true (logical_and b c))
and_assoc None (Some false) c = sym (and_false c) ∙ ap (λ x. logical_and None x) (and_false c)
and_assoc None (Some true) c = ap (λ x. logical_and None x) (sym (and_true c))
and_assoc None None (Some true) = refl
and_assoc None None (Some false) = refl
and_assoc None None None = refl

pub truth_of_result : (b : Option Bool) → truth_of (boolean_result b) ≡ b
truth_of_result (Some true) = refl
truth_of_result (Some false) = refl
truth_of_result None = refl

-- the value of IN
member_value : (x : Expression) (es : List Expression) (μ : Solution Term)
    → boolean_result (member_truth (val x μ) es μ) ≡ val (member x es) μ
member_value x [] μ = refl
member_value x (e ∷ es) μ =
    let rest : member_truth (val x μ) es μ ≡ truth_of (val (member x es) μ) =
    sym (truth_of_result (member_truth (val x μ) es μ)) ∙ ap truth_of (member_value x es μ) in
    let first = sym (truth_of_result (with_values (val x μ) (val e μ) (compares equal))) in
    ap boolean_result (λ i. logical_or (first i) (rest i))

-- the value of IN, from the value of the item and a list with the same members
pub in_value : (item : Option Term) (x whole : Expression) (es fs : List Expression) (μ : Solution Term)
    → item ≡ val x μ → es ≡ fs → whole ≡ member x fs → boolean_result (member_truth item es μ) ≡ val whole μ
in_value item x whole es fs μ p q is =
    ap boolean_result (λ i. member_truth (p i) (q i) μ) ∙ member_value x fs μ ∙ sym (ap (λ e. val e μ) is)

pub member_step : {A : Type 0} (f : A → Expression) (xs : List A) (i : ℕ) (d : A) (x : Option Term) (μ : Solution Term)
    (found equal_here all : Option Bool) → i < length xs → equal_here ≡ with_values x (val (f (get_or xs i d)) μ) (compares equal)
    → logical_or found (member_truth x (map f (drop i xs)) μ) ≡ all
    → logical_or (logical_or found equal_here) (member_truth x (map f (drop (i + 1) xs)) μ) ≡ all
member_step f xs i d x μ found equal_here all lt e h =
    let first = ap (λ ys. logical_or found (member_truth x (map f ys) μ)) (drop-cons xs i d lt) in
    let next = ap (λ b. logical_or (logical_or found b) (member_truth x (map f (drop (suc i) xs)) μ)) e in
    rw add-one (next ∙ or_assoc found _ (member_truth x (map f (drop (suc i) xs)) μ) ∙ sym first ∙ h)

pub member_found : {A : Type 0} (f : A → Expression) (xs : List A) (i : ℕ) (d : A) (x : Option Term) (μ : Solution Term)
    (found equal_here all : Option Bool) → i < length xs → equal_here ≡ with_values x (val (f (get_or xs i d)) μ) (compares equal)
    → logical_or found (member_truth x (map f (drop i xs)) μ) ≡ all → equal_here ≡ Some true → Some true ≡ all
member_found f xs i d x μ found equal_here all lt e h is =
    let all_at = member_step f xs i d x μ found equal_here all lt e h in
    let true_here = ap (λ b. logical_or (logical_or found b) (member_truth x (map f (drop (i + 1) xs)) μ)) is in
    let true_so = ap (λ b. logical_or b (member_truth x (map f (drop (i + 1) xs)) μ)) (or_true_right found) in
    or_true (member_truth x (map f (drop (i + 1) xs)) μ) ∙ sym true_so ∙ sym true_here ∙ all_at
