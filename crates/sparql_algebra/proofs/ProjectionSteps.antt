-- The variables that a query selects.
use Rattle.std.proofs.Common.{◌≡◌, ℕ, Bool, List, [], map, filter, sym, ap, ◌∙◌}
use Rattle.std.proofs.lemmas.List.Elements.{filter_agree}
use Rattle.std.proofs.lemmas.Slice.Eq.{bytes_eq-Decides}
use Rattle.std.specs.Str.{bytes_eq}
use Rattle.indexmap.specs.IndexSet.{insert_all}
use Rattle.algebra_model.specs.Bag.{without_repeats}
use Rattle.algebra_model.proofs.RepeatLaws.{any-without_repeats_is}
use Rattle.algebra_model.specs.Algebra.{Algebra, Project}
use Rattle.sparql_tree.specs.QueryTree.{QueryTree}
use Rattle.sparql_algebra.specs.Names.{Name, is_name_among, names_of, number_of}
use Rattle.sparql_algebra.specs.Translation.{distinct_where, projection, translate, translate_group}
use Rattle.sparql_algebra.proofs.RepeatSteps.{inserted_once}

-- a name is in scope exactly if it was added
noted_is_among : (x : Name) (xs : List Name) → is_name_among x (insert_all bytes_eq [] xs) ≡ is_name_among x xs
noted_is_among x xs = ap (is_name_among x) (inserted_once bytes_eq bytes_eq-Decides xs) ∙ any-without_repeats_is bytes_eq bytes_eq-Decides x xs

pub selected_in_scope : (names noted scope numbers' : List Name) (numbers : List ℕ) → noted ≡ insert_all bytes_eq [] scope → names ≡ numbers'
    → numbers ≡ map (number_of names) (filter (λ x. is_name_among x noted) names)
    → numbers ≡ map (number_of numbers') (filter (λ x. is_name_among x scope) numbers')
selected_in_scope names noted scope numbers' numbers e n h =
    h ∙ ap (map (number_of names)) (filter_agree (λ x. is_name_among x noted) (λ x. is_name_among x scope) (λ x. ap (is_name_among x) e ∙ noted_is_among x scope) names)
    ∙ ap (λ ns. map (number_of ns) (filter (λ x. is_name_among x scope) ns)) n

pub selected_as_listed : (names noted listed numbers' : List Name) (numbers : List ℕ) → noted ≡ insert_all bytes_eq [] listed → names ≡ numbers'
    → numbers ≡ map (number_of names) noted
    → numbers ≡ map (number_of numbers') (without_repeats bytes_eq listed)
selected_as_listed names noted listed numbers' numbers e n h =
    h ∙ ap (map (number_of names)) (e ∙ inserted_once bytes_eq bytes_eq-Decides listed) ∙ ap (λ ns. map (number_of ns) (without_repeats bytes_eq listed)) n

-- the tree of a query, from its parts
pub tree_of_parts : (q : QueryTree) (b : Bool) (names : List Name) (vs : List ℕ) (inner tree : Algebra) → q.distinct ≡ b → names ≡ names_of q → vs ≡ projection q
    → inner ≡ translate_group names q.group → tree ≡ distinct_where b (Project vs inner) → tree ≡ (translate q).algebra
tree_of_parts q b names vs inner tree d n v i t =
    t ∙ ap (λ x. distinct_where x (Project vs inner)) (sym d)
    ∙ ap (λ us. distinct_where q.distinct (Project us inner)) v
    ∙ ap (λ A. distinct_where q.distinct (Project (projection q) A)) (i ∙ ap (λ ns. translate_group ns q.group) n)
