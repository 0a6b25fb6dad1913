-- The triples of a basic graph pattern, one after another.
use Rattle.std.proofs.Common.{◌≡◌, ℕ, suc, ◌+◌, ◌<◌, List, [], ◌∷◌, ◌++◌, length, get_or, map, flat_map, drop, drop-cons, add-one, refl, sym, ap, ◌∙◌}
use Rattle.std.specs.Str.{bytes_eq}
use Rattle.std.proofs.lemmas.Slice.Eq.{bytes_eq-Decides}
use Rattle.indexmap.specs.IndexSet.{insert_all}
use Rattle.algebra_model.specs.Bgp as bgp
use Rattle.rdf_core.specs.declared.term.Term.{Term}
use Rattle.sparql_tree.specs.declared.group.Triple.{Triple}
use Rattle.sparql_algebra.specs.Names.{Name}
use Rattle.sparql_algebra.specs.Translation.{labels_of, translate_triple, triple_blanks}
use Rattle.sparql_algebra.proofs.RepeatSteps.{inserted_once}

flat_map-map : {X Y Z : Type 0} (f : Y → List Z) (g : X → Y) (xs : List X) → flat_map f (map g xs) ≡ flat_map (λ x. f (g x)) xs
flat_map-map f g [] = refl
flat_map-map f g (x ∷ xs) = ap (λ l. f (g x) ++ l) (flat_map-map f g xs)

pub labels_noted : {A : Type 0} (view : A → Triple) (ts : List A) → insert_all bytes_eq [] (flat_map (λ t. triple_blanks (view t)) ts) ≡ labels_of (map view ts)
labels_noted view ts =
    ap (insert_all bytes_eq []) (sym (flat_map-map triple_blanks view ts)) ∙ inserted_once bytes_eq bytes_eq-Decides (flat_map triple_blanks (map view ts))

pub converted_step : {A B : Type 0} (view : A → Triple) (shown : B → bgp.TriplePattern Term) (names labels : List Name) (ts : List A) (i : ℕ) (d : A)
    (made : List B) (b : B) (all : List (bgp.TriplePattern Term)) → i < length ts
    → shown b ≡ translate_triple names labels (view (get_or ts i d))
    → map shown made ++ map (translate_triple names labels) (map view (drop i ts)) ≡ all
    → map shown (made ++ b ∷ []) ++ map (translate_triple names labels) (map view (drop (i + 1) ts)) ≡ all
converted_step {A} {B} view shown names labels ts i d made b all lt e h =
    let first = ap (λ l. map shown made ++ map (translate_triple names labels) (map view l)) (drop-cons ts i d lt) in
    let here = ap (λ p. map shown made ++ p ∷ map (translate_triple names labels) (map view (drop (suc i) ts))) e in
    rw add-one (append_one made (map (translate_triple names labels) (map view (drop (suc i) ts))) ∙ here ∙ sym first ∙ h)
  where
    append_one : (xs : List B) (rest : List (bgp.TriplePattern Term)) → map shown (xs ++ b ∷ []) ++ rest ≡ map shown xs ++ shown b ∷ rest
    append_one [] rest = refl
    append_one (x ∷ xs) rest = ap (λ l. shown x ∷ l) (append_one xs rest)
