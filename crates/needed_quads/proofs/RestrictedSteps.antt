-- The terms of tables with one variable, and their N-Quads forms.
use Rattle.std.proofs.Common.{◌≡◌, ℕ, ◌+◌, ◌<◌, ◌==◌, Bool, true, ◌||◌, not, List, [], ◌∷◌, ◌++◌, length, map, take, get_or, Option, None, Some, All, Vec, Global, Result, OnOk, refl, sym, ap, ◌∙◌, subst, ⊎_elim, arith, append_assoc}
use Rattle.std.specs.List.{list_any}
use Rattle.std.specs.Option.{option_map}
use Rattle.std.specs.Str.{bytes_eq}
use Rattle.std.proofs.lemmas.Bool.{and_parts, eq-eqb, or_cases, or_left, or_right, false≢true, not_from_true}
use Rattle.std.proofs.lemmas.List.{append-nil, map_more, map_push}
use Rattle.std.proofs.Math.Seq.{take-append_seam}
use Rattle.std.proofs.lemmas.List.Elements.{All-push}
use Rattle.std.proofs.lemmas.Result.{on_ok_weaker}
use Rattle.std.proofs.lemmas.Option.{none-some, same_Some}
use Rattle.std.proofs.lemmas.Slice.Eq.{bytes_eq-Decides}
use Rattle.rdf_core.specs.declared.term.Term.{Term}
use Rattle.rdf_core.specs.Serialization.{serialization}
use Rattle.rdf_core.proofs.TermLaws.{term_eq, term_decides}
use Rattle.quad_filter.specs.Filter.{is_wanted}
use Rattle.quad_filter.specs.declared.filter.Wanted.TheVariants.{OneOf}
use Rattle.algebra_model.specs.Algebra.{Algebra, Join, Table}
use Rattle.needed_quads.specs.Restriction.{Restriction, allows, only_cells, restricted, restrictions}
use Rattle.needed_quads.specs.declared.restricted.Restricted.{Restricted}
use Rattle.needed_quads.specs.Building.{AllowsOnly, AreForms, AreRestricted, Covers}
use Rattle.needed_quads.proofs.BuildingLaws.{allows_left, allows_right}

-- ---- forms

-- a test of what the elements are mapped to
any_mapped : {X Y : Type 0} (f : X → Y) (p : Y → Bool) (xs : List X) → list_any p (map f xs) ≡ list_any (λ x. p (f x)) xs
any_mapped f p [] = refl
any_mapped f p (x ∷ xs) = ap (λ b. p (f x) || b) (any_mapped f p xs)

-- a copy, by which the same terms are wanted
pub copy_same : (copy forms : Vec (Vec ℕ Global) Global) → map (λ (form : Vec ℕ Global). form.items) copy.items ≡ map (λ (form : Vec ℕ Global). form.items) forms.items
    → (t : Term) → is_wanted (OneOf copy) t ≡ is_wanted (OneOf forms) t
copy_same copy forms e t =
    sym (any_mapped (λ (form : Vec ℕ Global). form.items) (bytes_eq (serialization t)) copy.items)
    ∙ ap (list_any (bytes_eq (serialization t))) e
    ∙ any_mapped (λ (form : Vec ℕ Global). form.items) (bytes_eq (serialization t)) forms.items

-- ---- the rows of a table

-- one more form at the end of those of later rows
later_forms : (s t : Term) (o o' : Option (List Term)) → ((forms : List (List ℕ)) → option_map (map serialization) o ≡ Some forms → option_map (map serialization) o' ≡ Some (forms ++ serialization t ∷ []))
    → (forms : List (List ℕ)) → option_map (map serialization) (option_map (λ terms. s ∷ terms) o) ≡ Some forms
    → option_map (map serialization) (option_map (λ terms. s ∷ terms) o') ≡ Some (forms ++ serialization t ∷ [])
later_forms s t None o' next forms h = absurd (none-some forms h)
later_forms s t (Some ts) None next forms h = absurd (none-some (map serialization ts ++ serialization t ∷ []) (next (map serialization ts) refl))
later_forms s t (Some ts) (Some us) next forms h =
    ap (λ (l : List (List ℕ)). Some (serialization s ∷ l)) (same_Some (map serialization us) (map serialization ts ++ serialization t ∷ []) (next (map serialization ts) refl))
    ∙ ap (λ (l : List (List ℕ)). Some (l ++ serialization t ∷ [])) (same_Some (serialization s ∷ map serialization ts) forms h)

-- one more row with one term
more_forms : (rows : List (List (Option Term))) (t : Term) (forms : List (List ℕ)) → option_map (map serialization) (only_cells rows) ≡ Some forms
    → option_map (map serialization) (only_cells (rows ++ (Some t ∷ []) ∷ [])) ≡ Some (forms ++ serialization t ∷ [])
more_forms [] t forms h = ap (λ (l : List (List ℕ)). Some (l ++ serialization t ∷ [])) (same_Some [] forms h)
more_forms ((Some s ∷ []) ∷ rows) t forms h = later_forms s t (only_cells rows) (only_cells (rows ++ (Some t ∷ []) ∷ [])) (λ l e. more_forms rows t l e) forms h
more_forms ([] ∷ rows) t forms h = absurd (none-some forms h)
more_forms ((None ∷ cells) ∷ rows) t forms h = absurd (none-some forms h)
more_forms ((Some s ∷ x ∷ cells) ∷ rows) t forms h = absurd (none-some forms h)

-- the step of the loop over the rows
pub next_form : (rows : List (Vec (Option Term) Global)) (i : ℕ) (row : Vec (Option Term) Global) (t : Term) (form : Vec ℕ Global) (old new : List (Vec ℕ Global))
    → i < length rows → row ≡ get_or rows i row → row.items ≡ Some t ∷ [] → form.items ≡ serialization t → new ≡ old ++ form ∷ []
    → AreForms (map (λ row. row.items) (take i rows)) old → AreForms (map (λ row. row.items) (take (i + 1) rows)) new
next_form rows i row t form old new lt at one is pushed h =
    let items : Vec (Option Term) Global → List (Option Term) = λ row. row.items in
    let bytes : Vec ℕ Global → List ℕ = λ form. form.items in
    let e : map items (take (i + 1) rows) ≡ map items (take i rows) ++ (Some t ∷ []) ∷ [] =
    map_more items rows i row lt ∙ ap (λ x. map items (take i rows) ++ x ∷ []) (ap items (sym at) ∙ one) in
    ap (λ l. option_map (map serialization) (only_cells l)) e
    ∙ more_forms (map items (take i rows)) t (map bytes old) h
    ∙ ap (λ l. Some (map bytes old ++ l ∷ [])) (sym is)
    ∙ ap Some (sym (map_push bytes old form) ∙ sym (ap (map bytes) pushed))

-- ---- a restricted variable

-- a term of the table has one of the forms
form_found : (t : Term) (terms : List Term) (forms : List (Vec ℕ Global)) → map (λ (form : Vec ℕ Global). form.items) forms ≡ map serialization terms
    → list_any (term_eq t) terms ≡ true → list_any (λ (form : Vec ℕ Global). bytes_eq (serialization t) form.items) forms ≡ true
form_found t [] forms e h = absurd (false≢true h)
form_found t (s ∷ terms) [] e h = cc
form_found t (s ∷ terms) (form ∷ forms) e h =
    let head : form.items ≡ serialization s = cc in
    let tail : map (λ (form : Vec ℕ Global). form.items) forms ≡ map serialization terms = cc in
    let here = bytes_eq (serialization t) form.items in
    let later = list_any (λ (form : Vec ℕ Global). bytes_eq (serialization t) form.items) forms in
    ⊎_elim
    (λ (x : term_eq t s ≡ true). or_left here later ((bytes_eq-Decides (serialization t) form.items).1 (ap serialization ((term_decides t s).0 x) ∙ sym head)))
    (λ (y : list_any (term_eq t) terms ≡ true). or_right here later (form_found t terms forms tail y))
    (or_cases (term_eq t s) (list_any (term_eq t) terms) h)

-- what the restriction of a table allows
allowed : (v : ℕ) (t : Term) (terms : List Term) → allows (restricted v (Some terms)) v t ≡ true → list_any (term_eq t) terms ≡ true
allowed v t terms h =
    let p = and_parts (not (v == v) || list_any (term_eq t) terms) true h in
    ⊎_elim
    (λ (x : not (v == v) ≡ true). absurd (false≢true (sym (not_from_true (v == v) (eq-eqb v v refl)) ∙ x)))
    (λ (y : list_any (term_eq t) terms ≡ true). y)
    (or_cases (not (v == v)) (list_any (term_eq t) terms) p.0)

-- a table restricts its variable to what its forms want
table_covers : (v : ℕ) (o : Option (List Term)) (forms : Vec (Vec ℕ Global) Global) (x : Restricted) → x.variable ≡ v → x.terms ≡ OneOf forms
    → option_map (map serialization) o ≡ Some (map (λ (form : Vec ℕ Global). form.items) forms.items)
    → (R : List Restriction) → AllowsOnly (restricted v o) R → Covers R x
table_covers v None forms x is has e R only t a = absurd (none-some (map (λ (form : Vec ℕ Global). form.items) forms.items) e)
table_covers v (Some terms) forms x is has e R only t a =
    ap (λ w. is_wanted w t) has
    ∙ form_found t terms forms.items (sym (same_Some (map serialization terms) (map (λ (form : Vec ℕ Global). form.items) forms.items) e))
    (allowed v t terms (only v t (subst (λ u. allows R u t ≡ true) is a)))

-- ---- lists of restricted variables

-- the variables of two inputs
pub restricted_two : (X Y : List Restriction) (old mid new : List Restricted) → AreRestricted X old mid → AreRestricted Y mid new → AreRestricted (X ++ Y) old new
restricted_two X Y old mid new a b = record {
  more = a.more ++ b.more;
  begins = b.begins ∙ ap (λ l. l ++ b.more) a.begins ∙ append_assoc old a.more b.more;
  covered = λ R only h. b.covered R (λ v t e. allows_right X Y v t (only v t e)) (a.covered R (λ v t e. allows_left X Y v t (only v t e)) h);
}

-- the only variable of a table
pub one_variable : (vs : List ℕ) (v : ℕ) → length vs ≡ 1 → v ≡ get_or vs 0 0 → vs ≡ v ∷ []
one_variable [] v h at = absurd (omega arith)
one_variable (u ∷ []) v h at = ap (λ x. x ∷ []) (sym at)
one_variable (u ∷ w ∷ vs) v h at = absurd (omega arith)

-- the variable of a table
pub restricted_table : (vs : List ℕ) (v : ℕ) (rows : List (List (Option Term))) (forms : Vec (Vec ℕ Global) Global) (x : Restricted) (old new : List Restricted)
    → vs ≡ v ∷ [] → AreForms rows forms.items → x.variable ≡ v → x.terms ≡ OneOf forms → new ≡ old ++ x ∷ []
    → AreRestricted (restrictions (Table vs rows)) old new
restricted_table vs v rows forms x old new one are is has pushed =
    subst (λ l. AreRestricted (restrictions (Table l rows)) old new) (sym one)
    record {
      more = x ∷ [];
      begins = pushed;
      covered = λ R only h. subst (All (Covers R)) (sym pushed) (All-push (Covers R) old x h (table_covers v (only_cells rows) forms x is has are R only));
    }

-- ---- results

-- the same for equal expressions
pub restricted_as : {E : Type 0} (r : Result (Unit {0}) E) (A B : Algebra) (old new : List Restricted) → A ≡ B
    → OnOk r (AreRestricted (restrictions B) old new) → OnOk r (AreRestricted (restrictions A) old new)
restricted_as r A B old new is h = on_ok_weaker r (λ b. subst (λ X. AreRestricted (restrictions X) old new) (sym is) b) h

-- the variables of a Join
pub restricted_join : {E : Type 0} (r : Result (Unit {0}) E) (A L R : Algebra) (old mid new : List Restricted) → A ≡ Join L R
    → AreRestricted (restrictions L) old mid → OnOk r (AreRestricted (restrictions R) mid new) → OnOk r (AreRestricted (restrictions A) old new)
restricted_join r A L R old mid new is a h = restricted_as r A (Join L R) old new is (on_ok_weaker r (λ b. restricted_two (restrictions L) (restrictions R) old mid new a b) h)

-- ---- nothing is added

-- what was added is taken away again
pub nothing_added : (X : List Restriction) (old mid new : List Restricted) (n : ℕ) → n ≡ length old → new ≡ take n mid → AreRestricted X old mid → AreRestricted X old new
nothing_added X old mid new n len cut added =
    let same : new ≡ old = cut ∙ (λ i. take (len i) (added.begins i)) ∙ take-append_seam old added.more in
    record { more = []; begins = same ∙ sym (append-nil old); covered = λ R a c. subst (All (Covers R)) (sym same) c }
