-- A group that is read element by element.
use Rattle.std.proofs.Common.{◌≡◌, ℕ, ◌+◌, ◌<◌, List, [], ◌∷◌, ◌++◌, length, get_or, map, drop, drop-cons, add-one, append_assoc, refl, sym, ap, ◌∙◌}
use Rattle.sparql_tree.specs.ExpressionTree as tree
use Rattle.sparql_tree.specs.ExpressionTree.{ExpressionTree, Expressions}
use Rattle.sparql_tree.specs.GroupTree.{GroupTree, ElementTree, then, onto}
use Rattle.sparql_algebra.specs.Names.{Name}
use Rattle.sparql_algebra.specs.Translation.{Part, add_element, group_part, translate_expression, translate_members}

-- the part with further elements added
abbrev pub part_from : List Name → Part → List ElementTree → Part
part_from names p [] = p
part_from names p (e ∷ es) = part_from names (add_element names p e) es

pub part_onto : (names : List Name) (g : GroupTree) (es : List ElementTree) → group_part names (onto g es) ≡ part_from names (group_part names g) es
part_onto names g [] = refl
part_onto names g (e ∷ es) = part_onto names (then g e) es

pub part_step : {A : Type 0} (f : A → ElementTree) (names : List Name) (xs : List A) (i : ℕ) (d : A) (p all : Part) → i < length xs
    → part_from names p (map f (drop i xs)) ≡ all
    → part_from names (add_element names p (f (get_or xs i d))) (map f (drop (i + 1) xs)) ≡ all
part_step f names xs i d p all lt h =
    rw add-one (sym (ap (λ l. part_from names p (map f l)) (drop-cons xs i d lt)) ∙ h)

members_onto : (names : List Name) (es : Expressions) (xs : List ExpressionTree) → translate_members names (tree.onto es xs) ≡ translate_members names es ++ map (translate_expression names) xs
members_onto names es [] = append_none (translate_members names es)
  where
    append_none : {X : Type 0} (xs : List X) → xs ≡ xs ++ []
    append_none [] = refl
    append_none (x ∷ xs) = ap (λ l. x ∷ l) (append_none xs)
members_onto names es (x ∷ xs) = members_onto names (tree.then es x) xs ∙ append_assoc (translate_members names es) (translate_expression names x ∷ []) (map (translate_expression names) xs)

map-map : {X Y Z : Type 0} (f : Y → Z) (g : X → Y) (xs : List X) → map f (map g xs) ≡ map (λ x. f (g x)) xs
map-map f g [] = refl
map-map f g (x ∷ xs) = ap (λ l. f (g x) ∷ l) (map-map f g xs)

-- the members of a list, each translated
pub members_of : {A : Type 0} (f : A → ExpressionTree) (names : List Name) (xs : List A)
    → translate_members names (tree.onto tree.none (map f xs)) ≡ map (λ x. translate_expression names (f x)) xs
members_of f names xs = members_onto names tree.none (map f xs) ∙ map-map (translate_expression names) f xs
