-- The steps of the functions that number and merge.
use Rattle.std.proofs.Common.{◌≡◌, ℕ, suc, ◌<◌, Bool, true, false, List, [], ◌∷◌, ◌++◌, length, MatchOption, Option, None, Some, option_to_list, Result, Ok, Err, Vec, Global, map, slice_get, Contains, refl, sym, ap, ◌∙◌, subst, append_assoc, append-nil, arith}
use Rattle.std.specs.List.{AllZip, list_any}
use Rattle.std.proofs.lemmas.Map.Views.{list_any-from_Contains}
use Rattle.indexmap.specs.IndexSet.{insert_key, insert_all}
use Rattle.indexmap.proofs.CallerLemmas.{Contains-list_any}
use Rattle.rdf_core.specs.declared.term.Term.{Term}
use Rattle.rdf_core.specs.QuadParts.{QuadParts}
use Rattle.rdf_core.proofs.TermLaws.{term_eq, term_decides, term_eq_laws}
use Rattle.dict_core.specs.declared.num_quad.NumQuad.{NumQuad}
use Rattle.dict_core.specs.Dict.{AreDistinct, AreNumbersOf}
use Rattle.dict_core.specs.NumQuad.{quad_at, IsBelow}
use Rattle.dict_core.specs.Appearances.{first_appearances}
use Rattle.dict_core.specs.Numbered.{IsNumbered, joined, renamed}
use Rattle.std.specs.declared.alloc.AllocError.{AllocError}
use Rattle.std.specs.Result.{OnOk, IfOk}
use Rattle.dict_core.specs.Inserting.{places_in}
use Rattle.dict_core.proofs.InsertLaws.{Keeps, insert_key-present, insert_key-absent, get-insert_key}
use Rattle.dict_core.proofs.AppearanceLaws.{absorbed_terms}
use Rattle.dict_core.proofs.PlaceLaws.{places_are}
use Rattle.dict_core.proofs.NumberingLaws.{number_reads, absorbed}

-- what `intern` says is one insertion
pub interned : (old new : List Term) (t : Term) → (Contains old t → new ≡ old) → ((Contains old t → ⊥) → new ≡ old ++ t ∷ []) → new ≡ insert_key term_eq old t
interned old new t known fresh = by (list_any (term_eq t) old) refl
  where
    by : (b : Bool) → list_any (term_eq t) old ≡ b → new ≡ insert_key term_eq old t
    by true e = known (Contains-list_any term_eq (λ x y. (term_decides x y).0) old t e) ∙ sym (insert_key-present old t e)
    by false e = fresh (λ h. let clash : true ≡ false = sym (list_any-from_Contains term_eq_laws t old h) ∙ e in cc) ∙ sym (insert_key-absent old t e)

kept_by : (earlier later : List Term) (t : Term) → later ≡ insert_key term_eq earlier t → Keeps earlier later
kept_by earlier later t e n x h = subst (λ l. slice_get l n ≡ Some x) (sym e) (get-insert_key earlier t n x h)

module _ (d1 d2 d3 : List Term) (s p o : Term) (m n k : ℕ) (at_s : slice_get d1 m ≡ Some s) (two : d2 ≡ insert_key term_eq d1 p) (at_p : slice_get d2 n ≡ Some p)
    (three : d3 ≡ insert_key term_eq d2 o) (at_o : slice_get d3 k ≡ Some o) where
  -- a quad of the default graph, its terms interned in turn
  pub quad_unnamed : (g : Option Term) → g ≡ None → let q : NumQuad = record { g = None; s = m; p = n; o = k } in
      IsBelow (length d3) q × (quad_at d3 q ≡ record { s = s; p = p; o = o; g = g })
  quad_unnamed g none =
      let a = number_reads d3 m s (kept_by d2 d3 o three m s (kept_by d1 d2 p two m s at_s)) in
      let b = number_reads d3 n p (kept_by d2 d3 o three n p at_p) in
      let c = number_reads d3 k o at_o in
      ((a.0, b.0, c.0, λ x e. cc), λ i. record { s = a.1 i; p = b.1 i; o = c.1 i; g = sym none i })

  -- a quad of a named graph
  pub quad_named : (d4 : List Term) (name : Term) (j : ℕ) → d4 ≡ insert_key term_eq d3 name → slice_get d4 j ≡ Some name → (g : Option Term) → g ≡ Some name
      → let q : NumQuad = record { g = Some j; s = m; p = n; o = k } in
      IsBelow (length d4) q × (quad_at d4 q ≡ record { s = s; p = p; o = o; g = g })
  quad_named d4 name j four at_g g named =
      let up : Keeps d3 d4 = kept_by d3 d4 name four in
      let a = number_reads d4 m s (up m s (kept_by d2 d3 o three m s (kept_by d1 d2 p two m s at_s))) in
      let b = number_reads d4 n p (up n p (kept_by d2 d3 o three n p at_p)) in
      let c = number_reads d4 k o (up k o at_o) in
      let e = number_reads d4 j name at_g in (
        (a.0, b.0, c.0, λ x is. let same : j ≡ x = cc in subst (λ y. y < length d4) same e.0),
        λ i. record { s = a.1 i; p = b.1 i; o = c.1 i; g = (ap Some e.1 ∙ sym named) i },
      )

  -- a quad of any graph
  pub quad_numbered : (d4 : List Term) (g : Option Term) (j : Option ℕ) → d4 ≡ insert_all term_eq d3 (option_to_list g)
      → MatchOption g (j ≡ None) (λ t. (i : ℕ) × (j ≡ Some i) × (slice_get d4 i ≡ Some t))
      → let q : NumQuad = record { g = j; s = m; p = n; o = k } in
      IsBelow (length d4) q × (quad_at d4 q ≡ record { s = s; p = p; o = o; g = g })
  quad_numbered d4 None j four none =
      subst (λ (x : Option ℕ). let q : NumQuad = record { g = x; s = m; p = n; o = k } in IsBelow (length d4) q × (quad_at d4 q ≡ record { s = s; p = p; o = o; g = None })) (sym none)
      (subst (λ (d : List Term). let q : NumQuad = record { g = None; s = m; p = n; o = k } in IsBelow (length d) q × (quad_at d q ≡ record { s = s; p = p; o = o; g = None })) (sym four)
      (quad_unnamed None refl))
  quad_numbered d4 (Some t) j four some =
      subst (λ (x : Option ℕ). let q : NumQuad = record { g = x; s = m; p = n; o = k } in IsBelow (length d4) q × (quad_at d4 q ≡ record { s = s; p = p; o = o; g = Some t })) (sym some.1)
      (quad_named d4 t some.0 four some.2 (Some t) refl)

-- the terms of a quad, interned in turn
pub terms_in_turn : (d0 d1 d2 d3 d4 : List Term) (s p o : Term) (g : List Term) → d1 ≡ insert_key term_eq d0 s → d2 ≡ insert_key term_eq d1 p → d3 ≡ insert_key term_eq d2 o
    → d4 ≡ insert_all term_eq d3 g → d4 ≡ insert_all term_eq d0 (s ∷ p ∷ o ∷ g)
terms_in_turn d0 d1 d2 d3 d4 s p o g one two three four =
    four ∙ ap (λ d. insert_all term_eq d g) (three ∙ ap (λ d. insert_key term_eq d o) (two ∙ ap (λ d. insert_key term_eq d p) one))

pub length_zipped : {A B : Type 0} (R : A → B → Type 0) (xs : List A) (ys : List B) → AllZip R xs ys → length xs ≡ length ys
length_zipped R [] [] h = refl
length_zipped R [] (y ∷ ys) h = absurd h
length_zipped R (x ∷ xs) [] h = absurd h
length_zipped R (x ∷ xs) (y ∷ ys) h = ap suc (length_zipped R xs ys h.1)

-- one more element moved from what is left to the end of what is done
pub moved_one : {A B : Type 0} (f : A → B) (done new : List B) (left rest : List A) (x : A) (y : B) (whole : List B)
    → new ≡ done ++ y ∷ [] → y ≡ f x → left ≡ x ∷ rest → done ++ map f left ≡ whole → new ++ map f rest ≡ whole
moved_one f done new left rest x y whole new_is y_is left_is was =
    ap (λ l. l ++ map f rest) new_is ∙ append_assoc done (y ∷ []) (map f rest) ∙ ap (λ z. done ++ z ∷ map f rest) y_is
    ∙ ap (λ l. done ++ map f l) (sym left_is) ∙ was

pub joined_all : (done : List QuadParts) (left : List (List QuadParts)) (whole : List QuadParts) → length left ≡ 0 → done ++ joined left ≡ whole → done ≡ whole
joined_all done [] whole none was = sym (append-nil done) ∙ was
joined_all done (piece ∷ left) whole none was = absurd (omega (arith, none))

pub joined_more : (done piece : List QuadParts) (left rest : List (List QuadParts)) (whole : List QuadParts) → left ≡ piece ∷ rest → done ++ joined left ≡ whole
    → (done ++ piece) ++ joined rest ≡ whole
joined_more done piece left rest whole left_is was = append_assoc done piece (joined rest) ∙ ap (λ l. done ++ joined l) (sym left_is) ∙ was

-- a piece that is absorbed
pub merged_piece : (done back piece : List QuadParts) (dict own grown : List Term) (all new mine : List NumQuad) (numbers slice : List ℕ)
    → IsNumbered back own mine → back ≡ piece → grown ≡ first_appearances (dict ++ own) → AreNumbersOf grown own numbers → slice ≡ numbers
    → new ≡ all ++ map (renamed slice) mine → IsNumbered done dict all → IsNumbered (done ++ piece) grown new
merged_piece done back piece dict own grown all new mine numbers slice b back_is grown_is named slice_is new_is h =
    let merged = first_appearances (dict ++ own) in
    let base : IsNumbered (done ++ back) merged (all ++ map (renamed numbers) mine) =
    absorbed done back dict own all mine numbers h b (subst (λ d. AreNumbersOf d own numbers) grown_is named) in
    let listed : all ++ map (renamed numbers) mine ≡ new = ap (λ l. all ++ map (renamed l) mine) (sym slice_is) ∙ sym new_is in
    subst (λ d. IsNumbered (done ++ piece) d new) (sym grown_is)
    (subst (λ l. IsNumbered (done ++ piece) merged l) listed
    (subst (λ q. IsNumbered (done ++ q) merged (all ++ map (renamed numbers) mine)) back_is base))

-- what `absorb` says, from what the insertions say of the fields
pub absorbed_keys : (inside old more other new : List Term) (r : Result (Vec ℕ Global) AllocError)
    → inside ≡ old → more ≡ other → AreDistinct inside → OnOk r (new ≡ insert_all term_eq inside more) → OnOk r (new ≡ first_appearances (old ++ other))
absorbed_keys inside old more other new (Ok v) old_is other_is apart keys = keys ∙ absorbed_terms inside more apart ∙ (λ i. first_appearances (old_is i ++ other_is i))
absorbed_keys inside old more other new (Err e) old_is other_is apart keys = tt

pub absorbed_numbers : (inside old more other new : List Term) (r : Result (Vec ℕ Global) AllocError)
    → inside ≡ old → more ≡ other → OnOk r (new ≡ insert_all term_eq inside more) → IfOk r (λ v. v.items ≡ places_in inside more) → IfOk r (λ v. AreNumbersOf new other v.items)
absorbed_numbers inside old more other new (Ok v) old_is other_is keys places =
    subst (λ l. AreNumbersOf new l v.items) other_is (subst (λ d. AreNumbersOf d more v.items) (sym keys) (subst (λ l. AreNumbersOf (insert_all term_eq inside more) more l) (sym places) (places_are inside more)))
absorbed_numbers inside old more other new (Err e) old_is other_is keys places = tt

pub zipped-push : {A B : Type 0} (R : A → B → Type 0) (xs : List A) (ys : List B) (x : A) (y : B) → AllZip R xs ys → R x y → AllZip R (xs ++ x ∷ []) (ys ++ y ∷ [])
zipped-push R [] [] x y h one = (one, tt)
zipped-push R [] (b ∷ ys) x y h one = absurd h
zipped-push R (a ∷ xs) [] x y h one = absurd h
zipped-push R (a ∷ xs) (b ∷ ys) x y h one = (h.0, zipped-push R xs ys x y h.1 one)

pub appended : {A : Type 0} (new reserved all more : List A) → new ≡ reserved ++ more → reserved ≡ all → new ≡ all ++ more
appended new reserved all more new_is reserved_is = new_is ∙ ap (λ l. l ++ more) reserved_is
