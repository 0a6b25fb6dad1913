-- The places of the declarations of a text, one after another.
use Rattle.std.proofs.Common.{◌≡◌, ℕ, ◌<◌, String, List, [], ◌∷◌, ◌++◌, length, reverse, Option, Some, None, Bool, true, false, cond, nat_eq, slice_get, string_bytes, refl, sym, ◌∙◌, arith, length-append}
use Rattle.std.specs.BTreeMap.{BTreeMap, get_by_text, UpdatesBy}
use Rattle.std.specs.Ordering.{nat_cmp}
use Rattle.std.specs.Cmp.Lexicographic.{pointwise, slice_cmp}
use Rattle.std.specs.String.{string_cmp}
use Rattle.std.proofs.lemmas.List.{reverse-append}
use Rattle.std.proofs.lemmas.Map.Text.{btree_map_updates_text}
use Rattle.std.proofs.lemmas.Option.{gets}
use Rattle.std.proofs.lemmas.Grind.{common_steps}
use Rattle.sparql_grammar.specs.DeclarationPlaces.{IsDeclarationPlace, AreDeclarationPlaces}
use Rattle.sparql_grammar.specs.Values.{declaration_of}
use Rattle.sparql_grammar.specs.declared.declarations.Declaration.{Declaration}

get-append_left : {X : Type 0} (xs : List X) (x : X) (i : ℕ) → i < length xs → slice_get (xs ++ x ∷ []) i ≡ slice_get xs i
get-append_left xs x i h = grind (arith, common_steps, gets)

get-append_end : {X : Type 0} (xs : List X) (x : X) → slice_get (xs ++ x ∷ []) (length xs) ≡ Some x
get-append_end [] x = refl
get-append_end (y ∷ ys) x = get-append_end ys x

-- one more declaration, which has the prefix or does not have it
place_more : (b : Bool) (ds : List Declaration) (d : Declaration) (found : Option Declaration) (place : Option ℕ)
    → IsDeclarationPlace ds found place → IsDeclarationPlace (ds ++ d ∷ []) (cond b (Some d) found) (cond b (Some (length ds)) place)
place_more true ds d found place h = (omega (arith, length-append ds (d ∷ [])), sym (get-append_end ds d))
place_more false ds d found None h = h
place_more false ds d found (Some i) h = (omega (arith, length-append ds (d ∷ []), h.0), h.1 ∙ sym (get-append_left ds d i h.0))

pub places_more : {Z : Type 0} (ds more : List Declaration) (d : Declaration) (old new : BTreeMap (String Z) ℕ) (key : String Z) (n : ℕ)
    → more ≡ ds ++ d ∷ [] → string_bytes key ≡ d.prefix → n ≡ length ds
    → UpdatesBy string_cmp (λ k. slice_cmp nat_cmp (string_bytes key) (string_bytes k)) old new (Some n)
    → AreDeclarationPlaces ds old → AreDeclarationPlaces more new
places_more ds more d old new key n e f g h places prefix =
    rw (e, reverse-append ds (d ∷ []), btree_map_updates_text (string_bytes key) old new (Some n) h prefix, f, g)
    (place_more (pointwise nat_eq d.prefix prefix) ds d (declaration_of (reverse ds) prefix) (get_by_text old prefix) (places prefix))
