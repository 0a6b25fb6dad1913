-- What was read and is written, as results.
use Rattle.std.proofs.Common.{◌≡◌, ℕ, zero, suc, Bool, subst, List, [], ◌∷◌, ◌++◌, length, take, drop, map, flat_map, get_or, Option, None, Some, codes, refl, sym, ap, ◌∙◌, append_assoc}
use Rattle.std.proofs.lemmas.List.{take-map, drop-map, map-append}
use Rattle.rdf_core.specs.declared.term.Term.{Term}
use Rattle.algebra_model.specs.Pieces.{joined}
use Rattle.algebra_model.specs.Renaming.{Each}
use Rattle.algebra_model.specs.RowOrder.{cells_cmp}
use Rattle.algebra_model.specs.Sorted.{slice, sorted_list}
use Rattle.result_json.specs.Results.{Column, columns, json, member_text, members, row_text, separated, string_text, term_text}
use Rattle.result_json.specs.Texts.{begun, begun_member, head_text}
use Rattle.result_json.proofs.JsonLaws.{json_is}
use Rattle.row_merge.specs.Merged.{Row, kept}
use Rattle.result_merge.specs.Merging.{AreTagged, AreWide, IsMerged}
use Rattle.result_merge.specs.Reading.{AreColumns, CodeColumn, HasText, IsRead, ReadRow, document_text, row_members, rows_of, text_of, texts_of}
use Rattle.result_merge.specs.Tags.{HasTagType}

member_is : (name : List ℕ) (o : Option Term) → begun_member (string_text name ++ 58 ∷ []) o ≡ member_text name o
member_is name None = refl
member_is name (Some t) = ap (λ s. s ∷ []) (append_assoc (string_text name) (58 ∷ []) (term_text t))

members_are : (row : Row) (cs : List Column) → row_members row (map begun cs) ≡ members row cs
members_are row [] = refl
members_are row (c ∷ cs) = λ i. member_is c.0 (get_or row c.1 None) i ++ members_are row cs i

pub text_is : (vars : List (List ℕ)) (made : List CodeColumn) → AreColumns vars made → (row : Row) → text_of made row ≡ row_text (columns vars) row
text_is vars made h row = λ i. codes "{" ++ (separated ((ap (row_members row) h ∙ members_are row (columns vars)) i) ++ codes "}")

texts_are : (vars : List (List ℕ)) (made : List CodeColumn) → AreColumns vars made → (table : List ReadRow) → Each (HasText (text_of made)) table → texts_of table ≡ map (row_text (columns vars)) (rows_of table)
texts_are vars made h [] k = refl
texts_are vars made h (r ∷ table) k = λ i. (k.0 ∙ text_is vars made h r.0.items) i ∷ texts_are vars made h table k.1 i

-- a document is the result of its rows
pub document_is : (vars : List (List ℕ)) (made : List CodeColumn) (head : List ℕ) → head ≡ head_text vars → AreColumns vars made → (table : List ReadRow) → Each (HasText (text_of made)) table
    → document_text head table ≡ json vars (rows_of table)
document_is vars made head e h table k = json_is vars (rows_of table) head (separated (texts_of table)) (codes "]}}\n") e (ap separated (texts_are vars made h table k)) refl

read_texts : (width : ℕ) (made : List CodeColumn) (table : List ReadRow) → Each (IsRead width made) table → Each (HasText (text_of made)) table
read_texts width made [] h = tt
read_texts width made (r ∷ table) h = (h.0.1, read_texts width made table h.1)

read_wide : (width : ℕ) (made : List CodeColumn) (table : List ReadRow) → Each (IsRead width made) table → Each (λ (row : Row). length row ≡ width) (rows_of table)
read_wide width made [] h = tt
read_wide width made (r ∷ table) h = (h.0.0, read_wide width made table h.1)

pub documents_are : (vars : List (List ℕ)) (made : List CodeColumn) (head : List ℕ) → head ≡ head_text vars → AreColumns vars made → (tables : List (List ReadRow)) → Each (Each (IsRead (length vars) made)) tables
    → flat_map (document_text head) tables ≡ flat_map (json vars) (map rows_of tables)
documents_are vars made head e h [] k = refl
documents_are vars made head e h (t ∷ tables) k =
    λ i. document_is vars made head e h t (read_texts (length vars) made t k.0) i ++ documents_are vars made head e h tables k.1 i

pub tables_wide : (vars : List (List ℕ)) (made : List CodeColumn) (tables : List (List ReadRow)) → Each (Each (IsRead (length vars) made)) tables → AreWide vars (map rows_of tables)
tables_wide vars made [] h = tt
tables_wide vars made (t ∷ tables) h = (read_wide (length vars) made t h.0, tables_wide vars made tables h.1)

read_tagged : (width : ℕ) (made : List CodeColumn) (table : List ReadRow) → Each (IsRead width made) table → Each (Each HasTagType) (rows_of table)
read_tagged width made [] h = tt
read_tagged width made (r ∷ table) h = (h.0.2, read_tagged width made table h.1)

tables_tagged : (width : ℕ) (made : List CodeColumn) (tables : List (List ReadRow)) → Each (Each (IsRead width made)) tables → AreTagged (map rows_of tables)
tables_tagged width made [] h = tt
tables_tagged width made (t ∷ tables) h = (read_tagged width made t h.0, tables_tagged width made tables h.1)

Each-joined : (made : List CodeColumn) (xs ys : List ReadRow) → Each (HasText (text_of made)) xs → Each (HasText (text_of made)) ys → Each (HasText (text_of made)) (xs ++ ys)
Each-joined made [] ys h k = k
Each-joined made (x ∷ xs) ys h k = (h.0, Each-joined made xs ys h.1 k)

pub all_texts : (width : ℕ) (made : List CodeColumn) (tables : List (List ReadRow)) → Each (Each (IsRead width made)) tables → Each (HasText (text_of made)) (joined tables)
all_texts width made [] h = tt
all_texts width made (t ∷ tables) h = Each-joined made t (joined tables) (read_texts width made t h.0) (all_texts width made tables h.1)

pub all_rows : (tables : List (List ReadRow)) → rows_of (joined tables) ≡ joined (map rows_of tables)
all_rows [] = refl
all_rows (t ∷ tables) = map-append (λ (r : ReadRow). r.0.items) t (joined tables) ∙ ap (λ l. rows_of t ++ l) (all_rows tables)

-- a part of rows
pub rows_sliced : (offset : ℕ) (limit : Option ℕ) (rows : List ReadRow) → rows_of (slice offset limit rows) ≡ slice offset limit (rows_of rows)
rows_sliced offset None rows = sym (drop-map (λ (r : ReadRow). r.0.items) offset rows)
rows_sliced offset (Some n) rows = sym (take-map (λ (r : ReadRow). r.0.items) n (drop offset rows)) ∙ ap (take n) (sym (drop-map (λ (r : ReadRow). r.0.items) offset rows))

texts-drop : (text : Row → List ℕ) (n : ℕ) (rows : List ReadRow) → Each (HasText text) rows → Each (HasText text) (drop n rows)
texts-drop text zero rows h = h
texts-drop text (suc n) [] h = h
texts-drop text (suc n) (r ∷ rows) h = texts-drop text n rows h.1

texts-take : (text : Row → List ℕ) (n : ℕ) (rows : List ReadRow) → Each (HasText text) rows → Each (HasText text) (take n rows)
texts-take text zero rows h = tt
texts-take text (suc n) [] h = tt
texts-take text (suc n) (r ∷ rows) h = (h.0, texts-take text n rows h.1)

pub texts_sliced : (text : Row → List ℕ) (offset : ℕ) (limit : Option ℕ) (rows : List ReadRow) → Each (HasText text) rows → Each (HasText text) (slice offset limit rows)
texts_sliced text offset None rows h = texts-drop text offset rows h
texts_sliced text offset (Some n) rows h = texts-take text n (drop offset rows) (texts-drop text offset rows h)

-- what was read, ordered and written is merged
pub is_merged : (once : Bool) (offset : ℕ) (limit : Option ℕ) (vars : List (List ℕ)) (made : List CodeColumn) (head input output : List ℕ) (read ordered left : List ReadRow)
    → head ≡ head_text vars → AreColumns vars made
    → ((tables : List (List ReadRow)) × (read ≡ joined tables) × Each (Each (IsRead (length vars) made)) tables × (input ≡ flat_map (document_text head) tables))
    → ((text : Row → List ℕ) → Each (HasText text) read → (rows_of ordered ≡ sorted_list cells_cmp (kept once (rows_of read))) × Each (HasText text) ordered)
    → left ≡ slice offset limit ordered → output ≡ document_text head left → IsMerged once offset limit input output
is_merged once offset limit vars made head input output read ordered left is columns tables order part text =
    let ts = tables.0 in
    let texts : Each (HasText (text_of made)) read = subst (Each (HasText (text_of made))) (sym tables.1) (all_texts (length vars) made ts tables.2) in
    let o = order (text_of made) texts in
    let rows : rows_of read ≡ joined (map rows_of ts) = ap rows_of tables.1 ∙ all_rows ts in
    record {
      vars = vars;
      tables = map rows_of ts;
      wide = tables_wide vars made ts tables.2;
      tagged = tables_tagged (length vars) made ts tables.2;
      read = tables.3 ∙ documents_are vars made head is columns ts tables.2;
      written = text ∙ ap (document_text head) part ∙ document_is vars made head is columns (slice offset limit ordered) (texts_sliced (text_of made) offset limit ordered o.1)
          ∙ ap (json vars) (rows_sliced offset limit ordered ∙ ap (slice offset limit) (o.0 ∙ ap (λ r. sorted_list cells_cmp (kept once r)) rows));
    }
