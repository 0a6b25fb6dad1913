-- The texts of rows and of lists are read in one way only.
use Rattle.std.proofs.Common.{◌≡◌, ℕ, zero, suc, ◌||◌, Bool, true, false, List, [], ◌∷◌, ◌++◌, get_or, drop, map, Option, None, Some, refl, sym, ap, ◌∙◌, arith, append_assoc}
use Rattle.std.specs.List.{list_any}
use Rattle.std.specs.Str.{bytes_eq}
use Rattle.std.proofs.lemmas.Bool.{false≢true}
use Rattle.std.proofs.lemmas.List.{append_cancel_left}
use Rattle.std.proofs.lemmas.Slice.Eq.{bytes_eq-Decides}
use Rattle.rdf_core.specs.declared.term.Term.{Term}
use Rattle.algebra_model.specs.Bag.{IsWithoutRepeats}
use Rattle.algebra_model.specs.Renaming.{Each}
use Rattle.result_json.specs.Results.{Column, member_text, members, string_text, term_text}
use Rattle.result_json.specs.Texts.{comma_texts}
use Rattle.result_json.proofs.SeparatedLaws.{comma_texts-cons}
use Rattle.row_merge.specs.Merged.{Row}
use Rattle.result_merge.specs.Reading.{comma}
use Rattle.result_merge.specs.Tags.{HasTagType}
use Rattle.result_merge.proofs.StringLaws.{string_same}
use Rattle.result_merge.proofs.TermTextLaws.{framed, term_same}

abbrev pub head : List ℕ → ℕ
head l = get_or l 0 0

-- ---- members

-- the names of columns
abbrev pub names_of : List Column → List (List ℕ)
names_of cs = map (λ c. c.0) cs

pub opened : (later : Bool) (name : List ℕ) (t : Term) (ms : List (List ℕ)) (a : List ℕ)
    → comma_texts later ((string_text name ++ 58 ∷ term_text t) ∷ ms) ++ a ≡ comma later ++ (string_text name ++ 58 ∷ (term_text t ++ (comma_texts true ms ++ a)))
opened later name t ms a =
    ap (λ l. l ++ a) (comma_texts-cons later (string_text name ++ 58 ∷ term_text t) ms)
    ∙ framed (comma later) (string_text name ++ 58 ∷ term_text t) (comma_texts true ms) a
    ∙ ap (λ r. comma later ++ r) (append_assoc (string_text name) (58 ∷ term_text t) (comma_texts true ms ++ a))

pub cell_at : (row : Row) (i : ℕ) → Each HasTagType row → HasTagType (get_or row i None)
cell_at [] i h = tt
cell_at (o ∷ row) zero h = h.0
cell_at (o ∷ row) (suc i) h = cell_at row i h.1

left_false : (a b : Bool) → (a || b) ≡ false → a ≡ false
left_false true b e = e
left_false false b e = refl

right_false : (a b : Bool) → (a || b) ≡ false → b ≡ false
right_false true b e = absurd (false≢true (sym e))
right_false false b e = e

-- a member with another name, or the end, does not begin with this name
pub no_other : (cs : List Column) (row : Row) (later : Bool) (name x a : List ℕ) → list_any (bytes_eq name) (names_of cs) ≡ false
    → comma later ++ (string_text name ++ x) ≡ comma_texts later (members row cs) ++ 125 ∷ a → ⊥
no_other [] row true name x a h e = absurd (omega (arith, ap head e))
no_other [] row false name x a h e = absurd (omega (arith, ap head e))
no_other (c ∷ cs) row later name x a h e =
    by (get_or row c.1 None) (no_other cs row later name x a (right_false (bytes_eq name c.0) (list_any (bytes_eq name) (names_of cs)) h)) e
  where
    by : (o : Option Term) → (comma later ++ (string_text name ++ x) ≡ comma_texts later (members row cs) ++ 125 ∷ a → ⊥)
        → comma later ++ (string_text name ++ x) ≡ comma_texts later (member_text c.0 o ++ members row cs) ++ 125 ∷ a → ⊥
    by None others e = others e
    by (Some t) others e =
        let s = string_same name c.0 _ _ (append_cancel_left (comma later) _ _ (e ∙ opened later c.0 t (members row cs) (125 ∷ a))) in
        false≢true (sym (left_false (bytes_eq name c.0) (list_any (bytes_eq name) (names_of cs)) h) ∙ (bytes_eq-Decides name c.0).1 s.0)

-- two rows have the same cell in a column
abbrev pub Agree : Row → Row → Column → Type 0
Agree r s c = get_or r c.1 None ≡ get_or s c.1 None

pub members_same : (cs : List Column) (r s : Row) (later : Bool) (a b : List ℕ) → IsWithoutRepeats bytes_eq (names_of cs) → Each HasTagType r → Each HasTagType s
    → comma_texts later (members r cs) ++ 125 ∷ a ≡ comma_texts later (members s cs) ++ 125 ∷ b → Each (Agree r s) cs × (a ≡ b)
members_same [] r s true a b once h k e = (tt, ap (drop 1) e)
members_same [] r s false a b once h k e = (tt, ap (drop 1) e)
members_same (c ∷ cs) r s later a b once h k e =
    by (get_or r c.1 None) (get_or s c.1 None) (cell_at r c.1 h) (cell_at s c.1 k) (λ later a b e. members_same cs r s later a b once.1 h k e) e
  where
    by : (o p : Option Term) → HasTagType o → HasTagType p
        → ((later : Bool) (a b : List ℕ) → comma_texts later (members r cs) ++ 125 ∷ a ≡ comma_texts later (members s cs) ++ 125 ∷ b → Each (Agree r s) cs × (a ≡ b))
        → comma_texts later (member_text c.0 o ++ members r cs) ++ 125 ∷ a ≡ comma_texts later (member_text c.0 p ++ members s cs) ++ 125 ∷ b
        → ((o ≡ p) × Each (Agree r s) cs) × (a ≡ b)
    by None None x y others e = let m = others later a b e in ((refl, m.0), m.1)
    by None (Some u) x y others e = absurd (no_other cs r later c.0 _ a once.0 (sym (opened later c.0 u (members s cs) (125 ∷ b)) ∙ sym e))
    by (Some t) None x y others e = absurd (no_other cs s later c.0 _ b once.0 (sym (opened later c.0 t (members r cs) (125 ∷ a)) ∙ e))
    by (Some t) (Some u) x y others e =
        let n = string_same c.0 c.0 _ _ (append_cancel_left (comma later) _ _ (sym (opened later c.0 t (members r cs) (125 ∷ a)) ∙ e ∙ opened later c.0 u (members s cs) (125 ∷ b))) in
        let v = term_same t u x y _ _ (ap (drop 1) n.1) in
        let m = others true a b v.1 in
        (((λ i. Some (v.0 i)), m.0), m.1)

-- ---- lists

-- one element, and what follows it
pub element : {X : Type 0} (text : X → List ℕ) (later : Bool) (x : X) (xs : List X) (a : List ℕ)
    → comma_texts later (text x ∷ map text xs) ++ a ≡ comma later ++ (text x ++ (comma_texts true (map text xs) ++ a))
element text later x xs a = ap (λ l. l ++ a) (comma_texts-cons later (text x) (map text xs)) ∙ framed (comma later) (text x) (comma_texts true (map text xs)) a

none : (later : Bool) (a : List ℕ) → comma_texts later [] ++ a ≡ a
none true a = refl
none false a = refl

module _ {X : Type 0} (text : X → List ℕ) (Good : X → Type 0) (same : (x y : X) → Good x → Good y → (a b : List ℕ) → text x ++ a ≡ text y ++ b → (x ≡ y) × (a ≡ b))
    (starts : (x : X) (a : List ℕ) → head (text x ++ a) ≡ 93 → ⊥) where
  no_end : (later : Bool) (x : X) (r a : List ℕ) → comma later ++ (text x ++ r) ≡ 93 ∷ a → ⊥
  no_end true x r a e = absurd (omega (arith, ap head e))
  no_end false x r a e = starts x r (ap head e)

  -- the elements, and what follows the list
  pub list_same : (xs ys : List X) (later : Bool) (a b : List ℕ) → Each Good xs → Each Good ys
      → comma_texts later (map text xs) ++ 93 ∷ a ≡ comma_texts later (map text ys) ++ 93 ∷ b → (xs ≡ ys) × (a ≡ b)
  list_same [] [] later a b h k e = (refl, ap (drop 1) (sym (none later (93 ∷ a)) ∙ e ∙ none later (93 ∷ b)))
  list_same [] (y ∷ ys) later a b h k e = absurd (no_end later y _ a (sym (element text later y ys (93 ∷ b)) ∙ sym e ∙ none later (93 ∷ a)))
  list_same (x ∷ xs) [] later a b h k e = absurd (no_end later x _ b (sym (element text later x xs (93 ∷ a)) ∙ e ∙ none later (93 ∷ b)))
  list_same (x ∷ xs) (y ∷ ys) later a b h k e =
      let s = same x y h.0 k.0 _ _ (append_cancel_left (comma later) _ _ (sym (element text later x xs (93 ∷ a)) ∙ e ∙ element text later y ys (93 ∷ b))) in
      let others = list_same xs ys true a b h.1 k.1 s.1 in
      ((λ i. s.0 i ∷ others.0 i), others.1)
