-- The names of a tree, element by element.
use Rattle.std.proofs.lemmas.Grind.{flat_map-append}
use Rattle.std.proofs.lemmas.List.{take-append-drop}
use Rattle.std.proofs.lemmas.List.Sums.{prefix_len-le-length}
use Rattle.std.proofs.Math.Seq.{take-append_seam, take-append-add}
use Rattle.std.specs.List.{position, position_or_len}
use Rattle.std.proofs.Common.{Vec, Global, Result, Ok, Err, OnErr, Option, Some, None, is_some, nat_lt, not, cond, ◌≤◌, subst, true≢false, arith, ◌≡◌, ℕ, suc, ◌+◌, ◌<◌, Bool, true, false, List, [], ◌∷◌, ◌++◌, length, get_or, map, flat_map, take, drop, drop-cons, append_assoc, refl, sym, ap, ◌∙◌}
use Rattle.std.specs.Str.{bytes_eq}
use Rattle.indexmap.specs.IndexSet.{insert_all}
use Rattle.rdf_core.specs.declared.term.Term.{Term}
use Rattle.sparql_tree.specs.declared.group.Element.{Element}
use Rattle.sparql_tree.specs.declared.group.Element.TheFolds.{fold-roll-Element}
use Rattle.sparql_tree.specs.declared.group.Element.TheOpen.{Element-F}
use Rattle.sparql_tree.specs.declared.group.Element.TheVariants as variants
use Rattle.sparql_tree.specs.GroupTree.{GroupTree, ElementTree, none, then, onto, values, element_of, element_step, group_of}
use Rattle.sparql_tree.specs.Scope.{element_names, group_names}
use Rattle.sparql_algebra.specs.Names.{Name, IsNotedInPart}
use Rattle.algebra_model.specs.Bag.{without_repeats}
use Rattle.sparql_algebra.proofs.RepeatSteps.{insert_all-append, inserted_once}
use Rattle.std.proofs.lemmas.Slice.Eq.{bytes_eq-Decides}

onto_names : (all : Bool) (g : GroupTree) (es : List ElementTree) → group_names all (onto g es) ≡ group_names all g ++ flat_map (element_names all) es
onto_names all g [] = append_none (group_names all g)
  where
    append_none : {X : Type 0} (xs : List X) → xs ≡ xs ++ []
    append_none [] = refl
    append_none (x ∷ xs) = ap (λ l. x ∷ l) (append_none xs)
onto_names all g (e ∷ es) = onto_names all (then g e) es ∙ append_assoc (group_names all g) (element_names all e) (flat_map (element_names all) es)

flat_map-map : {X Y Z : Type 0} (f : Y → List Z) (g : X → Y) (xs : List X) → flat_map f (map g xs) ≡ flat_map (λ x. f (g x)) xs
flat_map-map f g [] = refl
flat_map-map f g (x ∷ xs) = ap (λ l. f (g x) ++ l) (flat_map-map f g xs)

-- the names of a group are those of its elements
pub names_of_group : (all : Bool) (es : List Element) → group_names all (group_of es) ≡ flat_map (λ e. element_names all (element_of e)) es
names_of_group all es = onto_names all none (map element_of es) ∙ flat_map-map (element_names all) element_of es

-- a fact that is true is also true on error
pub at_refusal : {T E P : Type 0} (r : Result T E) → P → OnErr r P
at_refusal (Ok x) p = tt
at_refusal (Err e) p = p

-- a part of the first names is a part of all names
pub noted_first : (xs ys old new : List Name) → IsNotedInPart old xs new → IsNotedInPart old (xs ++ ys) new
noted_first xs ys old new p = (length (take p.0 xs), p.1 ∙ ap (insert_all bytes_eq old) (sym part))
  where
    part : take (length (take p.0 xs)) (xs ++ ys) ≡ take p.0 xs
    part = ap (λ l. take (length (take p.0 xs)) (l ++ ys)) (sym (take-append-drop p.0 xs))
        ∙ ap (take (length (take p.0 xs))) (append_assoc (take p.0 xs) (drop p.0 xs) ys)
        ∙ take-append_seam (take p.0 xs) (drop p.0 xs ++ ys)

-- a part of the later names, after all of the first ones, is a part of all names
pub noted_after : (xs ys old names new : List Name) → names ≡ insert_all bytes_eq old xs → IsNotedInPart names ys new → IsNotedInPart old (xs ++ ys) new
noted_after xs ys old names new e p = (
  length xs + p.0,
  p.1 ∙ ap (λ n. insert_all bytes_eq n (take p.0 ys)) e
      ∙ sym (insert_all-append bytes_eq old xs (take p.0 ys))
      ∙ ap (insert_all bytes_eq old) (sym (take-append-add xs ys p.0)),
)

-- a part of the names of one element, after those of the elements before it, is a part of all names
pub noted_within : {A : Type 0} (f : A → List Name) (xs : List A) (i : ℕ) (x : A) (old names new : List Name) → i < length xs
    → names ≡ insert_all bytes_eq old (flat_map f (take i xs))
    → x ≡ get_or xs i x
    → IsNotedInPart names (f x) new
    → IsNotedInPart old (flat_map f xs) new
noted_within {A} f xs i x old names new lt e is p =
    subst (λ l. IsNotedInPart old l new) whole
    (noted_after (flat_map f (take i xs)) (f x ++ flat_map f (drop (suc i) xs)) old names new e
    (noted_first (f x) (flat_map f (drop (suc i) xs)) names new p))
  where
    whole : flat_map f (take i xs) ++ (f x ++ flat_map f (drop (suc i) xs)) ≡ flat_map f xs
    whole = ap (λ y. flat_map f (take i xs) ++ (f y ++ flat_map f (drop (suc i) xs))) is
        ∙ ap (λ l. flat_map f (take i xs) ++ flat_map f l) (sym (drop-cons xs i x lt))
        ∙ sym (flat_map-append f (take i xs) (drop i xs))
        ∙ ap (flat_map f) (take-append-drop i xs)

-- the element of a table
pub values_stands_for : (xs : Vec Name Global) (rows : Vec (Vec (Option Term) Global) Global)
    → element_of (variants.Values xs rows) ≡ values xs.items (map (λ row. row.items) rows.items)
values_stands_for xs rows = ap element_of (sym (variants.rolls-Values xs rows)) ∙ fold-roll-Element ElementTree element_step (Element-F.Values xs rows)

-- the number of a name that is not found is the number of names
pub placed_none : {X : Type 0} (p : X → Bool) (xs : List X) → None ≡ position p xs → length xs ≡ position_or_len p xs
placed_none p xs h = by (nat_lt (position_or_len p xs) (length xs)) refl h (prefix_len-le-length (λ x. not (p x)) xs)
  where
    by : (b : Bool) → nat_lt (position_or_len p xs) (length xs) ≡ b → None ≡ cond b (Some (position_or_len p xs)) None → position_or_len p xs ≤ length xs → length xs ≡ position_or_len p xs
    by true e n le = absurd (true≢false (subst (λ o. is_some o ≡ false) n refl))
    by false e n le = grind arith

-- three lists of names are added, one after another
pub three_noted : (xs ys zs n₀ n₁ n₂ n₃ : List Name) → n₀ ≡ [] → n₁ ≡ insert_all bytes_eq n₀ xs → n₂ ≡ insert_all bytes_eq n₁ ys → n₃ ≡ insert_all bytes_eq n₂ zs
    → n₃ ≡ without_repeats bytes_eq (xs ++ (ys ++ zs))
three_noted xs ys zs n₀ n₁ n₂ n₃ e₀ e₁ e₂ e₃ =
    e₃ ∙ ap (λ n. insert_all bytes_eq n zs) (e₂ ∙ ap (λ n. insert_all bytes_eq n ys) (e₁ ∙ ap (λ n. insert_all bytes_eq n xs) e₀))
    ∙ sym (insert_all-append bytes_eq (insert_all bytes_eq [] xs) ys zs)
    ∙ sym (insert_all-append bytes_eq [] xs (ys ++ zs))
    ∙ inserted_once bytes_eq bytes_eq-Decides (xs ++ (ys ++ zs))
