-- Results that are there are read.
use Rattle.std.proofs.Common.{◌≡◌, ℕ, ◌<◌, ◌==◌, false, List, [], ◌∷◌, ◌++◌, length, map, flat_map, codes, refl, sym, ap, subst, ◌∙◌, arith}
use Rattle.std.proofs.lemmas.Bool.{false≢true}
use Rattle.std.proofs.lemmas.List.{append_cancel_left}
use Rattle.algebra_model.specs.Renaming.{Each}
use Rattle.result_json.specs.Results.{columns, json, row_text, separated, string_text}
use Rattle.result_json.specs.Texts.{head_text}
use Rattle.result_json.proofs.JsonLaws.{json_is}
use Rattle.row_merge.specs.Merged.{Table}
use Rattle.result_merge.specs.Absent.{AreColumnsOnce, AreNoDocuments, AreNoResults, AreNoRows, IsAfterDocument, IsAfterRows, IsNoDocument, IsNoHead, IsReadable, table_text}
use Rattle.result_merge.specs.Encoding.{HasUtf8}
use Rattle.result_merge.specs.Merging.{AreResults, AreTagged, AreUtf8}
use Rattle.result_merge.specs.Reading.{AreColumns, CodeColumn}
use Rattle.result_merge.specs.Tags.{HasTagType}
use Rattle.result_merge.proofs.ListSteps.{heads_same}
use Rattle.result_merge.proofs.TermTextLaws.{framed}
use Rattle.result_merge.proofs.UniqueLaws.{body, opened}

-- ---- one result

-- the rows of a result
abbrev rows_text : List (List ℕ) → Table → List ℕ
rows_text vars table = separated (map (row_text (columns vars)) table)

begun_with : (head bytes rest : List ℕ) (vars : List (List ℕ)) (table : Table) → bytes ≡ table_text head vars table ++ rest → bytes ≡ head ++ (rows_text vars table ++ (codes "]}}\n" ++ rest))
begun_with head bytes rest vars table e = e ∙ framed head (rows_text vars table) (codes "]}}\n") rest

pub no_document_start : (head : List ℕ) (made : List CodeColumn) (bytes : List ℕ) → ((rest : List ℕ) → bytes ≡ head ++ rest → ⊥) → IsNoDocument head made bytes
no_document_start head made bytes h = λ vars w table rest good e. h (rows_text vars table ++ (codes "]}}\n" ++ rest)) (begun_with head bytes rest vars table e)

in_rows : (head bytes rows rest : List ℕ) (vars : List (List ℕ)) (table : Table) → bytes ≡ head ++ rows → bytes ≡ table_text head vars table ++ rest → rows ≡ rows_text vars table ++ (codes "]}}\n" ++ rest)
in_rows head bytes rows rest vars table f e = append_cancel_left head rows (rows_text vars table ++ (codes "]}}\n" ++ rest)) (sym f ∙ begun_with head bytes rest vars table e)

pub no_document_rows : (head : List ℕ) (made : List CodeColumn) (bytes rows : List ℕ) → bytes ≡ head ++ rows → AreNoRows made rows → IsNoDocument head made bytes
no_document_rows head made bytes rows f h = λ vars w table rest good e. h vars w table (codes "}}\n" ++ rest) good (in_rows head bytes rows rest vars table f e)

pub no_document_end : (head : List ℕ) (made : List CodeColumn) (bytes rows closing : List ℕ) → bytes ≡ head ++ rows → IsAfterRows made rows closing → ((rest : List ℕ) → closing ≡ codes "]}}\n" ++ rest → ⊥)
    → IsNoDocument head made bytes
no_document_end head made bytes rows closing f after h = λ vars w table rest good e. h rest (after vars w table (codes "}}\n" ++ rest) good (in_rows head bytes rows rest vars table f e))

pub document_ends : (head : List ℕ) (made : List CodeColumn) (bytes rows closing end : List ℕ) → bytes ≡ head ++ rows → IsAfterRows made rows closing → closing ≡ codes "]}}\n" ++ end → IsAfterDocument head made bytes end
document_ends head made bytes rows closing end f after closed = λ vars w table rest good e.
    append_cancel_left (codes "]}}\n") end rest (sym closed ∙ after vars w table (codes "}}\n" ++ rest) good (in_rows head bytes rows rest vars table f e))

-- ---- results, one after the other

pub some_bytes : (l : List ℕ) → false ≡ (length l == 0) → 0 < length l
some_bytes [] e = absurd (false≢true e)
some_bytes (x ∷ l) e = omega arith

-- results are at the rest, if the bytes are results
abbrev pub AreDocumentsTo : List ℕ → List CodeColumn → List ℕ → List ℕ → Type 0
AreDocumentsTo head made bytes rest = (vars : List (List ℕ)) → AreColumnsOnce vars made → (tables : List Table) → Each (Each IsReadable) tables → bytes ≡ flat_map (table_text head vars) tables
    → (left : List Table) × Each (Each IsReadable) left × (rest ≡ flat_map (table_text head vars) left)

pub documents_begin : (head : List ℕ) (made : List CodeColumn) (bytes : List ℕ) → AreDocumentsTo head made bytes bytes
documents_begin head made bytes = λ vars w tables good e. (tables, good, e)

pub documents_more : (head : List ℕ) (made : List CodeColumn) (bytes rest end : List ℕ) → AreDocumentsTo head made bytes rest → 0 < length rest → IsAfterDocument head made rest end → AreDocumentsTo head made bytes end
documents_more head made bytes rest end was some after = λ vars w tables good e. let r = was vars w tables good e in by vars w r.0 r.1 r.2
  where
    by : (vars : List (List ℕ)) → AreColumnsOnce vars made → (left : List Table) → Each (Each IsReadable) left → rest ≡ flat_map (table_text head vars) left
        → (left' : List Table) × Each (Each IsReadable) left' × (end ≡ flat_map (table_text head vars) left')
    by vars w [] good e = absurd (omega (arith, some, ap length e))
    by vars w (t ∷ left) good e = (left, good.1, after vars w t (flat_map (table_text head vars) left) good.0 e)

pub no_documents : (head : List ℕ) (made : List CodeColumn) (bytes rest : List ℕ) → AreDocumentsTo head made bytes rest → 0 < length rest → IsNoDocument head made rest → AreNoDocuments head made bytes
no_documents head made bytes rest was some none = λ vars w tables good e. let r = was vars w tables good e in by vars w r.0 r.1 r.2
  where
    by : (vars : List (List ℕ)) → AreColumnsOnce vars made → (left : List Table) → Each (Each IsReadable) left → rest ≡ flat_map (table_text head vars) left → ⊥
    by vars w [] good e = omega (arith, some, ap length e)
    by vars w (t ∷ left) good e = none vars w t (flat_map (table_text head vars) left) good.0 e

-- ---- results of variables

all_json : (head : List ℕ) (vars : List (List ℕ)) → head ≡ head_text vars → (tables : List Table) → flat_map (table_text head vars) tables ≡ flat_map (json vars) tables
all_json head vars h [] = refl
all_json head vars h (t ∷ tables) = λ i. json_is vars t head (rows_text vars t) (codes "]}}\n") h refl refl i ++ all_json head vars h tables i

pub no_results : (names : List (List ℕ)) (made : List CodeColumn) (head input : List ℕ) → head ≡ head_text names → AreColumns names made → AreNoDocuments head made input → AreNoResults names input
no_results names made head input h is none = λ once tables good e. none names (is, once) tables good (e ∙ sym (all_json head names h tables))

readable_rows : (rows : Table) → Each (Each HasTagType) rows → Each (Each HasUtf8) rows → Each IsReadable rows
readable_rows [] h k = tt
readable_rows (r ∷ rows) h k = ((h.0, k.0), readable_rows rows h.1 k.1)

readable : (tables : List Table) → AreTagged tables → AreUtf8 tables → Each (Each IsReadable) tables
readable [] h k = tt
readable (t ∷ tables) h k = (readable_rows t h.0 k.0, readable tables h.1 k.1)

-- what results begin with
head_is : (input : List ℕ) (r : AreResults input) → input ≡ head_text r.vars ++ body r.vars r.table (flat_map (json r.vars) r.tables)
head_is input r =
    r.read ∙ opened r.vars r.table (flat_map (json r.vars) r.tables)
    ∙ sym (framed (codes "{\"head\":{\"vars\":[") (separated (map string_text r.vars)) (codes "]},\"results\":{\"bindings\":[") (body r.vars r.table (flat_map (json r.vars) r.tables)))

pub headless : (input : List ℕ) → IsNoHead input → AreResults input → ⊥
headless input h = λ r. h r.vars (body r.vars r.table (flat_map (json r.vars) r.tables)) r.named (head_is input r)

pub no_results_of : (names : List (List ℕ)) (input rest : List ℕ) → input ≡ head_text names ++ rest → AreNoResults names input → AreResults input → ⊥
no_results_of names input rest f none = λ r.
    let same : names ≡ r.vars = heads_same names r.vars rest (body r.vars r.table (flat_map (json r.vars) r.tables)) (sym f ∙ head_is input r) in
    subst (λ (vars : List (List ℕ)). AreNoResults vars input) same none r.once (r.table ∷ r.tables) (readable (r.table ∷ r.tables) r.tagged r.utf8) r.read
