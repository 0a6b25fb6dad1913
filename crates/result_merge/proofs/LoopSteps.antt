-- One more name, row or document that is read.
use Rattle.std.proofs.Common.{◌≡◌, ℕ, ◌<◌, Bool, true, List, [], ◌∷◌, ◌++◌, length, map, flat_map, codes, sym, ap, ◌∙◌, arith, append_assoc, append-nil, length-append}
use Rattle.std.proofs.lemmas.List.{map-append}
use Rattle.std.proofs.lemmas.List.Concat.{flat_map-append}
use Rattle.algebra_model.specs.Pieces.{joined}
use Rattle.algebra_model.specs.Renaming.{Each}
use Rattle.result_json.specs.Results.{separated, string_text}
use Rattle.result_json.specs.Texts.{begun_column, head_text}
use Rattle.result_json.proofs.SeparatedLaws.{is_cons}
use Rattle.result_merge.specs.Reading.{CodeColumn, IsRead, ReadRow, comma, document_text, row_members, texts_of}
use Rattle.result_merge.proofs.ReadSteps.{in_frame, one_more, some_after}

Each-one : {X : Type 0} (P : X → Type 0) (xs : List X) (x : X) → Each P xs → P x → Each P (xs ++ x ∷ [])
Each-one P [] x h k = (k, tt)
Each-one P (y ∷ xs) x h k = (h.0, Each-one P xs x h.1 k)

pub name_read : (bytes rest next after name : List ℕ) (names new : List (List ℕ)) (later : Bool) → bytes ≡ separated (map string_text names) ++ rest → later ≡ is_cons (map string_text names)
    → rest ≡ comma later ++ next → next ≡ string_text name ++ after → new ≡ names ++ name ∷ [] → (bytes ≡ separated (map string_text new) ++ after) × (true ≡ is_cons (map string_text new))
name_read bytes rest next after name names new later e l f g push =
    let texts : map string_text new ≡ map string_text names ++ string_text name ∷ [] = ap (map string_text) push ∙ map-append string_text names (name ∷ []) in (
      one_more (map string_text names) (string_text name) bytes rest next after later e l f g ∙ ap (λ ts. separated ts ++ after) (sym texts),
      some_after (map string_text names) (string_text name) ∙ ap is_cons (sym texts),
    )

-- the rows of a table that is read so far
abbrev pub IsTable : ℕ → List CodeColumn → List ReadRow → List ReadRow → List ℕ → List ℕ → Bool → Type 0
IsTable width made before read bytes rest later = (table : List ReadRow) × (read ≡ before ++ table) × Each (IsRead width made) table
    × (bytes ≡ separated (texts_of table) ++ rest) × (later ≡ is_cons (texts_of table))

pub row_read : (width : ℕ) (made : List CodeColumn) (before read new : List ReadRow) (row : ReadRow) (bytes rest next after : List ℕ) (later : Bool) → IsTable width made before read bytes rest later
    → rest ≡ comma later ++ next → next ≡ row.1.now ++ after → IsRead width made row → new ≡ read ++ row ∷ [] → IsTable width made before new bytes after true
row_read width made before read new row bytes rest next after later was f g is push =
    let table = was.0 in
    let texts : texts_of (table ++ row ∷ []) ≡ texts_of table ++ row.1.now ∷ [] = map-append (λ (r : ReadRow). r.1.now) table (row ∷ []) in (
      table ++ row ∷ [],
      push ∙ ap (λ l. l ++ row ∷ []) was.1 ∙ append_assoc before table (row ∷ []),
      Each-one (IsRead width made) table row was.2 is,
      one_more (texts_of table) row.1.now bytes rest next after later was.3 was.4 f g ∙ ap (λ ts. separated ts ++ after) (sym texts),
      some_after (texts_of table) row.1.now ∙ ap is_cons (sym texts),
    )

pub row_long : (width : ℕ) (made : List CodeColumn) (row : ReadRow) → IsRead width made row → 0 < length row.1.now
row_long width made row h =
    let e = ap length h.1 in
    let f = length-append (codes "{") (separated (row_members row.0.items (map begun_column made)) ++ codes "}") in
    omega (arith, e, f)

-- the documents that are read so far
abbrev pub AreTables : ℕ → List CodeColumn → List ℕ → List ReadRow → List ℕ → List ℕ → Type 0
AreTables width made head read bytes rest = (tables : List (List ReadRow)) × (read ≡ joined tables) × Each (Each (IsRead width made)) tables
    × (bytes ≡ flat_map (document_text head) tables ++ rest)

abbrev pub IsNewTable : ℕ → List CodeColumn → List ℕ → List ReadRow → List ReadRow → List ℕ → List ℕ → Type 0
IsNewTable width made head read new rest after = (table : List ReadRow) × (new ≡ read ++ table) × Each (IsRead width made) table × (rest ≡ document_text head table ++ after)

pub document_read : (width : ℕ) (made : List CodeColumn) (head : List ℕ) (read new : List ReadRow) (bytes rest after : List ℕ) → AreTables width made head read bytes rest
    → IsNewTable width made head read new rest after → AreTables width made head new bytes after
document_read width made head read new bytes rest after was one =
    let tables = was.0 in
    let table = one.0 in
    let all : joined (tables ++ table ∷ []) ≡ joined tables ++ table = flat_map-append (λ t. t) tables (table ∷ []) ∙ ap (λ l. joined tables ++ l) (append-nil table) in
    let texts : flat_map (document_text head) (tables ++ table ∷ []) ≡ flat_map (document_text head) tables ++ document_text head table =
    flat_map-append (document_text head) tables (table ∷ []) ∙ ap (λ l. flat_map (document_text head) tables ++ l) (append-nil (document_text head table)) in (
      tables ++ table ∷ [],
      one.1 ∙ ap (λ l. l ++ table) was.1 ∙ sym all,
      Each-one (Each (IsRead width made)) tables table was.2 one.2,
      was.3 ∙ ap (λ l. flat_map (document_text head) tables ++ l) one.3 ∙ sym (append_assoc (flat_map (document_text head) tables) (document_text head table) after) ∙ ap (λ l. l ++ after) (sym texts),
    )

pub document_shorter : (width : ℕ) (made : List CodeColumn) (head : List ℕ) (read new : List ReadRow) (rest after : List ℕ) → IsNewTable width made head read new rest after → length after < length rest
document_shorter width made head read new rest after one =
    let e = ap length one.3 in
    let f = length-append (document_text head one.0) after in
    let g = length-append head (separated (texts_of one.0) ++ codes "]}}\n") in
    let h = length-append (separated (texts_of one.0)) (codes "]}}\n") in
    omega (arith, e, f, g, h)

-- a document after its head
pub table_read : (width : ℕ) (made : List CodeColumn) (head : List ℕ) (read new : List ReadRow) (bytes rows rest after : List ℕ) → bytes ≡ head ++ rows
    → ((table : List ReadRow) × (new ≡ read ++ table) × Each (IsRead width made) table × (rows ≡ separated (texts_of table) ++ rest)) → rest ≡ codes "]}}\n" ++ after
    → IsNewTable width made head read new bytes after
table_read width made head read new bytes rows rest after e t f =
    let S = separated (texts_of t.0) in
    (t.0, t.1, t.2, e ∙ ap (λ r. head ++ r) (t.3 ∙ ap (λ r. S ++ r) f ∙ sym (append_assoc S (codes "]}}\n") after)) ∙ sym (append_assoc head (S ++ codes "]}}\n") after))

-- what precedes the rows
pub head_read : (bytes list closing rows : List ℕ) (names : List (List ℕ)) → bytes ≡ codes "{\"head\":{\"vars\":[" ++ list → list ≡ separated (map string_text names) ++ closing
    → closing ≡ codes "]},\"results\":{\"bindings\":[" ++ rows → bytes ≡ head_text names ++ rows
head_read bytes list closing rows names e f g =
    e ∙ ap (λ r. codes "{\"head\":{\"vars\":[" ++ r) (f ∙ ap (λ r. separated (map string_text names) ++ r) g)
    ∙ in_frame (codes "{\"head\":{\"vars\":[") (separated (map string_text names)) (codes "]},\"results\":{\"bindings\":[") rows
