-- One more part of a result that is read.
use Rattle.std.proofs.Common.{◌≡◌, ℕ, zero, suc, ◌+◌, ◌-◌, ◌<◌, ◌≤◌, ◌||◌, Bool, true, false, nat_eq, List, [], ◌∷◌, ◌++◌, length, get_or, take, set, map, flat_map, Option, None, Some, is_some, codes, refl, sym, ap, subst, ◌∙◌, arith, append_assoc, append-nil, eq-eqb, length-append, length-set}
use Rattle.std.specs.List.{list_all, list_any}
use Rattle.std.specs.Str.{bytes_eq}
use Rattle.std.proofs.lemmas.Slice.Eq.{bytes_eq-Decides}
use Rattle.std.proofs.Math.Seq.{take-append_seam}
use Rattle.std.proofs.lemmas.Bool.{false≢true}
use Rattle.std.proofs.lemmas.List.{get_or-set_same, get_or-set_other, take_all, take_more, map-append}
use Rattle.std.proofs.lemmas.List.Concat.{flat_map-append}
use Rattle.rdf_core.specs.Vocabulary.{xsd_string}
use Rattle.rdf_core.specs.declared.term.Term.{Term}
use Rattle.rdf_core.specs.declared.term.Term.TheVariants.{Blank, Iri, Literal}
use Rattle.algebra_model.specs.Bag.{IsWithoutRepeats}
use Rattle.algebra_model.specs.Renaming.{Each}
use Rattle.result_json.specs.Results.{Column, separated, string_text, term_text}
use Rattle.result_json.specs.Texts.{begun_column, begun_member, comma_texts, is_plain}
use Rattle.result_json.proofs.PrintedLaws.{plain_bytes}
use Rattle.result_json.proofs.TermSteps.{plain_text_is}
use Rattle.result_json.proofs.SeparatedLaws.{comma_texts-cons, is_cons, is_cons-append, is_cons-member, separated-append}
use Rattle.row_merge.specs.Merged.{Row}
use Rattle.result_merge.specs.Reading.{CodeColumn, HavePlaces, ReadRow, comma, literal_start, row_members, text_of, texts_of}

-- ---- texts

-- one element after a comma
pub one_text : (later : Bool) (x : List ℕ) → comma_texts later (x ∷ []) ≡ comma later ++ x
one_text later x = comma_texts-cons later x [] ∙ ap (λ l. comma later ++ l) (append-nil x)

-- a member that was read
pub some_member : (bytes prefix term rest after : List ℕ) (later : Bool) → bytes ≡ comma later ++ (prefix ++ rest) → rest ≡ term ++ after
    → bytes ≡ comma_texts later ((prefix ++ term) ∷ []) ++ after
some_member bytes prefix term rest after later e f =
    e ∙ ap (λ r. comma later ++ (prefix ++ r)) f ∙ ap (λ r. comma later ++ r) (sym (append_assoc prefix term after))
    ∙ sym (append_assoc (comma later) (prefix ++ term) after) ∙ ap (λ l. l ++ after) (sym (one_text later (prefix ++ term)))

-- no member
pub no_member : (bytes : List ℕ) (later : Bool) → bytes ≡ comma_texts later [] ++ bytes
no_member bytes true = refl
no_member bytes false = refl

-- one more element of a list
pub one_more : (xs : List (List ℕ)) (x bytes rest next after : List ℕ) (later : Bool) → bytes ≡ separated xs ++ rest → later ≡ is_cons xs → rest ≡ comma later ++ next → next ≡ x ++ after
    → bytes ≡ separated (xs ++ x ∷ []) ++ after
one_more xs x bytes rest next after later e l f g =
    e ∙ ap (λ r. separated xs ++ r) (f ∙ ap (λ r. comma later ++ r) g ∙ sym (append_assoc (comma later) x after) ∙ ap (λ r. r ++ after) (sym (one_text later x)) ∙ ap (λ b. comma_texts b (x ∷ []) ++ after) l)
    ∙ sym (append_assoc (separated xs) (comma_texts (is_cons xs) (x ∷ [])) after) ∙ ap (λ r. r ++ after) (sym (separated-append xs (x ∷ [])))

pub some_after : {X : Type 0} (xs : List X) (x : X) → true ≡ is_cons (xs ++ x ∷ [])
some_after [] x = refl
some_after (y ∷ xs) x = refl

-- what is left is shorter
pub shorter : (rest prefix next x after : List ℕ) → rest ≡ prefix ++ next → next ≡ x ++ after → 0 < length x → length after < length rest
shorter rest prefix next x after e f h =
    let a = ap length e in
    let b = length-append prefix next in
    let c = ap length f in
    let d = length-append x after in
    omega (arith, a, b, c, d, h)

pub string_long : (s : List ℕ) → 0 < length (string_text s)
string_long s = let e = length-append (codes "\"") (flat_map Rattle.result_json.specs.Results.string_byte s ++ codes "\"") in omega (arith, e)

-- ---- the cells of a row

-- places that differ from one
keeps : (p : ℕ) (cell : Option Term) (cells : Row) (cs : List CodeColumn) → Each (λ c. c.1 ≡ p → ⊥) cs
    → row_members (set cells p cell) (map begun_column cs) ≡ row_members cells (map begun_column cs)
keeps p cell cells [] h = refl
keeps p cell cells (c ∷ cs) h =
    λ i. begun_member c.0.items (get_or-set_other cells p c.1 cell None h.0 i) ++ keeps p cell cells cs h.1 i

any_place : (made : List CodeColumn) (i : ℕ) (d : CodeColumn) (n : ℕ) → i < length made → n ≡ (get_or made i d).1 → list_any (nat_eq n) (map (λ c. c.1) made) ≡ true
any_place [] i d n l e = absurd (omega arith)
any_place (c ∷ made) zero d n l e = ap (λ b. b || list_any (nat_eq n) (map (λ c. c.1) made)) (eq-eqb n c.1 e)
any_place (c ∷ made) (suc i) d n l e = right (nat_eq n c.1) (list_any (nat_eq n) (map (λ c. c.1) made)) (any_place made i d n (omega arith) e)
  where
    right : (a b : Bool) → b ≡ true → (a || b) ≡ true
    right true b e = refl
    right false b e = e

others : (made : List CodeColumn) (i : ℕ) (d : CodeColumn) → IsWithoutRepeats nat_eq (map (λ c. c.1) made) → i < length made → Each (λ c. c.1 ≡ (get_or made i d).1 → ⊥) (take i made)
others made zero d h l = tt
others [] (suc i) d h l = absurd (omega arith)
others (c ∷ made) (suc i) d h l =
    (λ e. false≢true (sym h.0 ∙ any_place made i d c.1 (omega arith) e), others made i d h.1 (omega arith))

place_below : (made : List CodeColumn) (i width : ℕ) (d : CodeColumn) → Each (λ c. c.1 < width) made → i < length made → (get_or made i d).1 < width
place_below [] i width d h l = absurd (omega arith)
place_below (c ∷ made) zero width d h l = h.0
place_below (c ∷ made) (suc i) width d h l = place_below made i width d h.1 (omega arith)

pub place_fits : (made : List CodeColumn) (i width : ℕ) (column : CodeColumn) → HavePlaces width made → i < length made → column ≡ get_or made i column → column.1 < width
place_fits made i width column h l e = subst (λ (c : CodeColumn). c.1 < width) (sym e) (place_below made i width column h.1 l)

-- with another cell
pub Each-set : {X : Type 0} (P : X → Type 0) (xs : List X) (i : ℕ) (x : X) → Each P xs → P x → Each P (set xs i x)
Each-set P [] i x h k = tt
Each-set P (y ∷ xs) zero x h k = (k, h.1)
Each-set P (y ∷ xs) (suc i) x h k = (h.0, Each-set P xs i x h.1 k)

-- with one more column
pub row_more : (made : List CodeColumn) (width i : ℕ) (column : CodeColumn) (cells : Row) (cell : Option Term) (bytes rest after : List ℕ) (later later' : Bool)
    → HavePlaces width made → length cells ≡ width → i < length made → column ≡ get_or made i column
    → bytes ≡ codes "{" ++ (separated (row_members cells (map begun_column (take i made))) ++ rest)
    → later ≡ is_cons (row_members cells (map begun_column (take i made)))
    → rest ≡ comma_texts later (begun_member column.0.items cell) ++ after
    → later' ≡ (later || is_some cell)
    → (bytes ≡ codes "{" ++ (separated (row_members (set cells column.1 cell) (map begun_column (take (i + 1) made))) ++ after))
    × (later' ≡ is_cons (row_members (set cells column.1 cell) (map begun_column (take (i + 1) made))))
row_more made width i column cells cell bytes rest after later later' places long l at e k f g =
    let new = set cells column.1 cell in
    let front = row_members cells (map begun_column (take i made)) in
    let member = begun_member column.0.items cell in
    let fits : column.1 < length cells = omega (arith, place_fits made i width column places l at, long) in
    let apart : Each (λ c. c.1 ≡ column.1 → ⊥) (take i made) = subst (λ (c : CodeColumn). Each (λ d. d.1 ≡ c.1 → ⊥) (take i made)) (sym at) (others made i column places.0 l) in
    let more : row_members new (map begun_column (take (i + 1) made)) ≡ front ++ member =
    ap (λ (cs : List CodeColumn). row_members new (map begun_column cs)) (take_more made i column l)
    ∙ ap (row_members new) (map-append begun_column (take i made) (get_or made i column ∷ []))
    ∙ flat_map-append _ (map begun_column (take i made)) (begun_column (get_or made i column) ∷ [])
    ∙ (λ t. keeps column.1 cell cells (take i made) apart t ++ append-nil (begun_member (get_or made i column).0.items (get_or new (get_or made i column).1 None)) t)
    ∙ ap (λ (c : CodeColumn). front ++ begun_member c.0.items (get_or new c.1 None)) (sym at)
    ∙ ap (λ o. front ++ begun_member column.0.items o) (get_or-set_same cells column.1 cell None fits) in (
      e ∙ ap (λ r. codes "{" ++ (separated front ++ r)) (f ∙ ap (λ b. comma_texts b member ++ after) k)
          ∙ ap (λ r. codes "{" ++ r) (sym (append_assoc (separated front) (comma_texts (is_cons front) member) after) ∙ ap (λ r. r ++ after) (sym (separated-append front member)))
          ∙ ap (λ ms. codes "{" ++ (separated ms ++ after)) (sym more),
      g ∙ (λ t. k t || sym (is_cons-member column.0.items cell) t) ∙ sym (is_cons-append front member) ∙ ap is_cons (sym more),
    )

-- ---- strings and terms

-- a text in a frame, and what follows
pub in_frame : (frame text close rest : List ℕ) → frame ++ (text ++ (close ++ rest)) ≡ (frame ++ (text ++ close)) ++ rest
in_frame frame text close rest = ap (λ r. frame ++ r) (sym (append_assoc text close rest)) ∙ sym (append_assoc frame (text ++ close) rest)

pub plain_read : (bytes opened text closing rest t : List ℕ) → bytes ≡ codes "\"" ++ opened → opened ≡ text ++ closing → closing ≡ codes "\"" ++ rest → t ≡ text → list_all is_plain text ≡ true
    → bytes ≡ string_text t ++ rest
plain_read bytes opened text closing rest t e f g h p =
    e ∙ ap (λ r. codes "\"" ++ r) (f ∙ ap (λ r. text ++ r) g) ∙ in_frame (codes "\"") text (codes "\"") rest
    ∙ ap (λ s. (codes "\"" ++ (s ++ codes "\"")) ++ rest) (sym (plain_bytes text p)) ∙ ap (λ s. string_text s ++ rest) (sym h)

pub blank_read : (bytes label after rest : List ℕ) → bytes ≡ codes "{\"type\":\"bnode\",\"value\":" ++ (string_text label ++ after) → after ≡ codes "}" ++ rest → bytes ≡ term_text (Blank label) ++ rest
unfolding term_text
blank_read bytes label after rest e f =
    e ∙ ap (λ r. codes "{\"type\":\"bnode\",\"value\":" ++ (string_text label ++ r)) f ∙ in_frame (codes "{\"type\":\"bnode\",\"value\":") (string_text label) (codes "}") rest

pub iri_read : (bytes text after rest : List ℕ) → bytes ≡ codes "{\"type\":\"uri\",\"value\":" ++ (string_text text ++ after) → after ≡ codes "}" ++ rest → bytes ≡ term_text (Iri text) ++ rest
unfolding term_text
iri_read bytes text after rest e f =
    e ∙ ap (λ r. codes "{\"type\":\"uri\",\"value\":" ++ (string_text text ++ r)) f ∙ in_frame (codes "{\"type\":\"uri\",\"value\":") (string_text text) (codes "}") rest

-- two texts in frames
in_frames : (a s b t close rest : List ℕ) → a ++ (s ++ (b ++ (t ++ (close ++ rest)))) ≡ (a ++ (s ++ (b ++ (t ++ close)))) ++ rest
in_frames a s b t close rest =
    ap (λ r. a ++ (s ++ r)) (in_frame b t close rest) ∙ in_frame a s (b ++ (t ++ close)) rest

pub tagged_read : (bytes lexical datatype tag after last rest : List ℕ) → bytes ≡ literal_start ++ (string_text lexical ++ after) → after ≡ codes ",\"xml:lang\":" ++ (string_text tag ++ last) → last ≡ codes "}" ++ rest
    → bytes ≡ term_text (Literal lexical datatype (Some tag)) ++ rest
unfolding term_text
tagged_read bytes lexical datatype tag after last rest e f g =
    e ∙ ap (λ r. literal_start ++ (string_text lexical ++ r)) (f ∙ ap (λ r. codes ",\"xml:lang\":" ++ (string_text tag ++ r)) g)
    ∙ in_frames literal_start (string_text lexical) (codes ",\"xml:lang\":") (string_text tag) (codes "}") rest

pub plain_term : (lexical datatype : List ℕ) → datatype ≡ xsd_string → term_text (Literal lexical datatype None) ≡ literal_start ++ (string_text lexical ++ codes "}")
plain_term lexical datatype e =
    plain_text_is (Literal lexical datatype None) lexical datatype None true refl refl ((bytes_eq-Decides datatype xsd_string).1 e)

pub literal_read : (bytes lexical after rest : List ℕ) (t : Term) → bytes ≡ literal_start ++ (string_text lexical ++ after) → after ≡ codes "}" ++ rest → term_text t ≡ literal_start ++ (string_text lexical ++ codes "}")
    → bytes ≡ term_text t ++ rest
literal_read bytes lexical after rest t e f g =
    e ∙ ap (λ r. literal_start ++ (string_text lexical ++ r)) f ∙ in_frame literal_start (string_text lexical) (codes "}") rest ∙ ap (λ x. x ++ rest) (sym g)

pub typed_read : (bytes datatype lexical after last rest : List ℕ) → bytes ≡ codes "{\"datatype\":" ++ (string_text datatype ++ after) → after ≡ codes ",\"type\":\"literal\",\"value\":" ++ (string_text lexical ++ last)
    → last ≡ codes "}" ++ rest → bytes_eq datatype xsd_string ≡ false → bytes ≡ term_text (Literal lexical datatype None) ++ rest
typed_read bytes datatype lexical after last rest e f g h =
    e ∙ ap (λ r. codes "{\"datatype\":" ++ (string_text datatype ++ r)) (f ∙ ap (λ r. codes ",\"type\":\"literal\",\"value\":" ++ (string_text lexical ++ r)) g)
    ∙ in_frames (codes "{\"datatype\":") (string_text datatype) (codes ",\"type\":\"literal\",\"value\":") (string_text lexical) (codes "}") rest
    ∙ ap (λ x. x ++ rest) (sym (plain_text_is (Literal lexical datatype None) lexical datatype None false refl refl h))

-- one more row after a comma
pub others_step : (rows : List ReadRow) (i : ℕ) (row : ReadRow) (before old out new : List ℕ) → i < length rows → row ≡ get_or rows i row
    → old ≡ before ++ flat_map (λ text. 44 ∷ text) (texts_of (take i rows)) → out ≡ old ++ 44 ∷ [] → new ≡ out ++ row.1.now
    → new ≡ before ++ flat_map (λ text. 44 ∷ text) (texts_of (take (i + 1) rows))
others_step rows i row before old out new low at was comma put =
    let front = flat_map (λ (text : List ℕ). 44 ∷ text) (texts_of (take i rows)) in
    let next : flat_map (λ (text : List ℕ). 44 ∷ text) (texts_of (take (i + 1) rows)) ≡ front ++ 44 ∷ row.1.now =
    ap (λ (rs : List ReadRow). flat_map (λ (text : List ℕ). 44 ∷ text) (texts_of rs)) (take_more rows i row low)
    ∙ ap (flat_map (λ (text : List ℕ). 44 ∷ text)) (map-append (λ (r : ReadRow). r.1.now) (take i rows) (get_or rows i row ∷ []))
    ∙ flat_map-append (λ (text : List ℕ). 44 ∷ text) (texts_of (take i rows)) ((get_or rows i row).1.now ∷ [])
    ∙ ap (λ l. front ++ l) (append-nil (44 ∷ (get_or rows i row).1.now)) ∙ ap (λ (r : ReadRow). front ++ 44 ∷ r.1.now) (sym at) in
    put ∙ ap (λ l. l ++ row.1.now) (comma ∙ ap (λ l. l ++ 44 ∷ []) was) ∙ append_assoc (before ++ front) (44 ∷ []) row.1.now ∙ append_assoc before front (44 ∷ row.1.now) ∙ ap (λ l. before ++ l) (sym next)

-- what precedes a rest
pub front_is : (whole front rest taken : List ℕ) (n : ℕ) → whole ≡ front ++ rest → n ≡ length whole - length rest → taken ≡ take n whole → taken ≡ front
front_is whole front rest taken n e f g =
    let a = ap length e in
    let b = length-append front rest in
    let c : n ≡ length front = omega (arith, a, b, f) in
    g ∙ (λ i. take (c i) (e i)) ∙ take-append_seam front rest

pub rest_fits : (whole front rest : List ℕ) → whole ≡ front ++ rest → length rest ≤ length whole
rest_fits whole front rest e =
    let a = ap length e in
    let b = length-append front rest in
    omega (arith, a, b)

-- the same, with the cells after one of them is set
pub cells_step : (made : List CodeColumn) (width i : ℕ) (column : CodeColumn) (cells new : Row) (cell : Option Term) (bytes rest after : List ℕ) (later later' : Bool)
    → HavePlaces width made → length cells ≡ width → i < length made → column ≡ get_or made i column
    → bytes ≡ codes "{" ++ (separated (row_members cells (map begun_column (take i made))) ++ rest)
    → later ≡ is_cons (row_members cells (map begun_column (take i made)))
    → rest ≡ comma_texts later (begun_member column.0.items cell) ++ after
    → later' ≡ (later || is_some cell)
    → new ≡ set cells column.1 cell
    → (length new ≡ width)
    × (bytes ≡ codes "{" ++ (separated (row_members new (map begun_column (take (i + 1) made))) ++ after))
    × (later' ≡ is_cons (row_members new (map begun_column (take (i + 1) made))))
cells_step made width i column cells new cell bytes rest after later later' places long l at e k f g is =
    let more = row_more made width i column cells cell bytes rest after later later' places long l at e k f g in (
      ap length is ∙ length-set cells column.1 cell ∙ long,
      more.0 ∙ ap (λ (r : Row). codes "{" ++ (separated (row_members r (map begun_column (take (i + 1) made))) ++ after)) (sym is),
      more.1 ∙ ap (λ (r : Row). is_cons (row_members r (map begun_column (take (i + 1) made)))) (sym is),
    )

-- a row after its last column
pub row_ends : (made : List CodeColumn) (i : ℕ) (cells : Row) (bytes rest after : List ℕ) → length made ≤ i
    → bytes ≡ codes "{" ++ (separated (row_members cells (map begun_column (take i made))) ++ rest) → rest ≡ codes "}" ++ after → bytes ≡ text_of made cells ++ after
row_ends made i cells bytes rest after low e f =
    e ∙ ap (λ cs. codes "{" ++ (separated (row_members cells (map begun_column cs)) ++ rest)) (take_all i made low)
    ∙ ap (λ r. codes "{" ++ (separated (row_members cells (map begun_column made)) ++ r)) f
    ∙ in_frame (codes "{") (separated (row_members cells (map begun_column made))) (codes "}") after
