-- Lists of terms with hashes. Where each hash is right, they are compared and inserted as their terms are.
use Rattle.std.proofs.Common.{◌≡◌, ◌≢◌, ℕ, ◌+◌, ◌<◌, Bool, true, false, cond, not, nat_lt, ◌==◌, ◌&&◌, ◌||◌, if◌then◌else◌, Option, Some, None, List, [], ◌∷◌, ◌++◌, length, map, position, get_or, Decides, eq-eqb, refl, sym, ap, ◌∙◌, subst, arith, rules}
use Rattle.std.proofs.lemmas.List.{get_or-map, length-map, map-append}
use Rattle.std.proofs.lemmas.List.Elements.{All-nil, All-cons, All-head, All-tail, All-append}
use Rattle.std.specs.List.{AllPairs, list_any, position_or_len}
use Rattle.indexmap.specs.IndexSet.{insert_key}
use Rattle.rdf_core.specs.declared.term.Term.{Term}
use Rattle.rdf_core.proofs.TermLaws.{term_eq}
use Rattle.keyed_hash.specs.declared.HashState.{HashState}
use Rattle.dict_core.specs.declared.hashed_term.HashedTerm.{HashedTerm}
use Rattle.dict_core.specs.contracts.hashed_term.HashedTermPartialEq.TheImpl as equalities
use Rattle.dict_core.specs.Dict.{AreDistinct}
use Rattle.dict_core.specs.HashedTerms.{hash_of, terms_in, AreHashed, IsHashed}
use Rattle.dict_core.proofs.InsertLaws.{same, insert_key-present, insert_key-absent}

-- what `==` on terms with hashes computes
abbrev pub hashed_eq : HashedTerm → HashedTerm → Bool
hashed_eq = (equalities.ghosts).eq

pub hashed_decides : (x y : HashedTerm) → Decides (hashed_eq x y) (x ≡ y)
hashed_decides x y = Prim.search rules

both : (a b : Bool) → a ≡ true → b ≡ true → (a && b) ≡ true
both a b a_is b_is = λ i. a_is i && b_is i

not_both : (a b : Bool) → b ≡ false → (a && b) ≡ false
not_both true b e = e
not_both false b e = refl

module _ (s : HashState) where
  -- one term has one hash
  same_hash : (x y : HashedTerm) → IsHashed s x → IsHashed s y → x.term ≡ y.term → x.hash ≡ y.hash
  same_hash x y hx hy e = hx ∙ ap (hash_of s) e ∙ sym hy

  pub same_hashed : (x y : HashedTerm) → IsHashed s x → IsHashed s y → x.term ≡ y.term → x ≡ y
  same_hashed x y hx hy e = λ i. record { hash = same_hash x y hx hy e i; term = e i }

  -- so with right hashes two are equal exactly if the terms are
  pub equal_terms : (x y : HashedTerm) → IsHashed s x → IsHashed s y → ((x.hash == y.hash) && term_eq x.term y.term) ≡ term_eq x.term y.term
  equal_terms x y hx hy = by (term_eq x.term y.term) refl
    where
      by : (b : Bool) → term_eq x.term y.term ≡ b → ((x.hash == y.hash) && term_eq x.term y.term) ≡ term_eq x.term y.term
      by true e = both _ _ (eq-eqb x.hash y.hash (same_hash x y hx hy (same x.term y.term e))) e ∙ sym e
      by false e = not_both _ _ e ∙ sym e

  pub any_terms : (x : HashedTerm) (ks : List HashedTerm) → IsHashed s x → AreHashed s ks → list_any (hashed_eq x) ks ≡ list_any (term_eq x.term) (terms_in ks)
  any_terms x [] hx hs = refl
  any_terms x (k ∷ ks) hx hs =
      λ i. equal_terms x k hx (All-head (IsHashed s) k ks hs) i || any_terms x ks hx (All-tail (IsHashed s) k ks hs) i

  pub place_terms : (x : HashedTerm) (ks : List HashedTerm) → IsHashed s x → AreHashed s ks → position_or_len (hashed_eq x) ks ≡ position_or_len (term_eq x.term) (terms_in ks)
  place_terms x [] hx hs = refl
  place_terms x (k ∷ ks) hx hs =
      λ i. cond (not (equal_terms x k hx (All-head (IsHashed s) k ks hs) i)) (1 + place_terms x ks hx (All-tail (IsHashed s) k ks hs) i) 0

  -- where a term with a right hash is
  pub position_terms : (x : HashedTerm) (ks : List HashedTerm) → IsHashed s x → AreHashed s ks → position (hashed_eq x) ks ≡ position (term_eq x.term) (terms_in ks)
  position_terms x ks hx hs =
      λ i. cond (nat_lt (place_terms x ks hx hs i) (sym (length-map ks (λ (t : HashedTerm). t.term)) i)) (Some (place_terms x ks hx hs i)) None

  pub inserted_terms : (x : HashedTerm) (ks : List HashedTerm) → IsHashed s x → AreHashed s ks → terms_in (insert_key hashed_eq ks x) ≡ insert_key term_eq (terms_in ks) x.term
  inserted_terms x ks hx hs = by (list_any (hashed_eq x) ks) refl
    where
      by : (b : Bool) → list_any (hashed_eq x) ks ≡ b → terms_in (if b then ks else ks ++ x ∷ []) ≡ insert_key term_eq (terms_in ks) x.term
      by true e = sym (insert_key-present (terms_in ks) x.term (sym (any_terms x ks hx hs) ∙ e))
      by false e = map-append (λ (t : HashedTerm). t.term) ks (x ∷ []) ∙ sym (insert_key-absent (terms_in ks) x.term (sym (any_terms x ks hx hs) ∙ e))

  pub inserted_hashes : (x : HashedTerm) (ks : List HashedTerm) → IsHashed s x → AreHashed s ks → AreHashed s (insert_key hashed_eq ks x)
  inserted_hashes x ks hx hs = by (list_any (hashed_eq x) ks)
    where
      by : (b : Bool) → AreHashed s (if b then ks else ks ++ x ∷ [])
      by true = hs
      by false = All-append (IsHashed s) ks (x ∷ []) hs (All-cons (IsHashed s) x [] hx (All-nil (IsHashed s)))

  -- distinct with their hashes, and so distinct
  pub distinct_terms : (ks : List HashedTerm) → AreHashed s ks → AllPairs (λ x y. x ≢ y) ks → AreDistinct (terms_in ks)
  distinct_terms ks hs apart i j d lt within e =
      let some : HashedTerm = record { hash = 0; term = d } in
      let long : length (terms_in ks) ≡ length ks = length-map ks (λ (t : HashedTerm). t.term) in
      let last : j < length ks = omega (arith, within, long) in
      let first : i < length ks = omega (arith, lt, last) in
      apart i j some lt last
      (same_hashed (get_or ks i some) (get_or ks j some) (hs i some first) (hs j some last)
      (sym (get_or-map (λ (t : HashedTerm). t.term) ks i some d first) ∙ e ∙ get_or-map (λ (t : HashedTerm). t.term) ks j some d last))

pub hashes_kept : (s t : HashState) (old new : List HashedTerm) → t ≡ s → new ≡ old → AreHashed s old → AreHashed t new
hashes_kept s t old new t_is new_is h = subst (λ u. AreHashed u new) (sym t_is) (subst (AreHashed s) (sym new_is) h)
