-- A function applied to the pieces of a list and concatenated is the function applied to the list.
use Rattle.std.proofs.Common.{◌≡◌, Bool, List, [], ◌∷◌, ◌++◌, map, filter, flat_map, refl, ap, ◌∙◌}
use Rattle.std.proofs.lemmas.List.{map-append}
use Rattle.std.proofs.lemmas.List.Elements.{filter-append}
use Rattle.std.proofs.lemmas.Grind.{flat_map-append}
use Rattle.algebra_model.specs.Pieces.{joined}

pub flat_map-joined : {X Y : Type 0} (f : X → List Y) (pieces : List (List X)) → flat_map f (joined pieces) ≡ joined (map (flat_map f) pieces)
flat_map-joined f [] = refl
flat_map-joined f (p ∷ ps) = flat_map-append f p (joined ps) ∙ ap (λ r. flat_map f p ++ r) (flat_map-joined f ps)

pub map-joined : {X Y : Type 0} (f : X → Y) (pieces : List (List X)) → map f (joined pieces) ≡ joined (map (map f) pieces)
map-joined f [] = refl
map-joined f (p ∷ ps) = map-append f p (joined ps) ∙ ap (λ r. map f p ++ r) (map-joined f ps)

pub filter-joined : {X : Type 0} (q : X → Bool) (pieces : List (List X)) → filter q (joined pieces) ≡ joined (map (filter q) pieces)
filter-joined q [] = refl
filter-joined q (p ∷ ps) = filter-append q p (joined ps) ∙ ap (λ r. filter q p ++ r) (filter-joined q ps)
