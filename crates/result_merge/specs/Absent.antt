-- Bytes that do not begin with a text. Only private clauses use these definitions.
use Rattle.std.specs.Prelude.{◌≡◌, ℕ, false, IsUtf8, List, ◌∷◌, ◌++◌, flat_map, map, codes, Option, None, Some, IfSome}
use Rattle.std.specs.Str.{bytes_eq}
use Rattle.rdf_core.specs.Vocabulary.{xsd_string}
use Rattle.rdf_core.specs.declared.term.Term.{Term}
use Rattle.algebra_model.specs.Bag.{IsWithoutRepeats}
use Rattle.algebra_model.specs.Renaming.{Each}
use Rattle.result_json.specs.Results.{columns, json, row_text, separated, string_text, term_text}
use Rattle.result_json.specs.Texts.{head_text}
use Rattle.row_merge.specs.Merged.{Row, Table}
use Rattle.result_merge.specs.Encoding.{HasUtf8}
use Rattle.result_merge.specs.Reading.{AreColumns, CodeColumn, literal_start}
use Rattle.result_merge.specs.Tags.{HasTagType}

-- ---- strings and terms

-- no string in UTF-8
abbrev pub IsNoString : List ℕ → Type 0
IsNoString bytes = (s rest : List ℕ) → IsUtf8 s → bytes ≡ string_text s ++ rest → ⊥

-- no string in UTF-8 after this text
abbrev pub IsNoText : List ℕ → List ℕ → Type 0
IsNoText before bytes = (s rest : List ℕ) → IsUtf8 s → bytes ≡ before ++ (string_text s ++ rest) → ⊥

-- no string in UTF-8 between these texts
abbrev pub IsNoFramed : List ℕ → List ℕ → List ℕ → Type 0
IsNoFramed before end bytes = (s rest : List ℕ) → IsUtf8 s → bytes ≡ before ++ (string_text s ++ (end ++ rest)) → ⊥

-- what follows the lexical form of a literal of xsd:string, or of one with a language tag
abbrev pub literal_end : Option (List ℕ) → List ℕ
literal_end None = codes "}"
literal_end (Some tag) = codes ",\"xml:lang\":" ++ (string_text tag ++ codes "}")

-- no literal of xsd:string, and none with a language tag
abbrev pub IsNoLiteral : List ℕ → Type 0
IsNoLiteral bytes = (lexical : List ℕ) (tag : Option (List ℕ)) (rest : List ℕ) → IsUtf8 lexical → IfSome tag IsUtf8
    → bytes ≡ literal_start ++ (string_text lexical ++ (literal_end tag ++ rest)) → ⊥

-- no literal of another datatype
abbrev pub IsNoTyped : List ℕ → Type 0
IsNoTyped bytes = (datatype lexical rest : List ℕ) → IsUtf8 datatype → IsUtf8 lexical → bytes_eq datatype xsd_string ≡ false
    → bytes ≡ codes "{\"datatype\":" ++ (string_text datatype ++ (codes ",\"type\":\"literal\",\"value\":" ++ (string_text lexical ++ (codes "}" ++ rest)))) → ⊥

-- no term
abbrev pub IsNoTerm : List ℕ → Type 0
IsNoTerm bytes = (t : Term) (rest : List ℕ) → HasUtf8 (Some t) → HasTagType (Some t) → bytes ≡ term_text t ++ rest → ⊥

-- ---- rows

-- a row that can be read as it is
abbrev pub IsReadable : Row → Type 0
IsReadable row = Each HasTagType row × Each HasUtf8 row

-- the columns are those of these variables, none of which is listed twice
abbrev pub AreColumnsOnce : List (List ℕ) → List CodeColumn → Type 0
AreColumnsOnce vars made = AreColumns vars made × IsWithoutRepeats bytes_eq vars

-- no row
abbrev pub IsNoRow : List CodeColumn → List ℕ → Type 0
IsNoRow made bytes = (vars : List (List ℕ)) → AreColumnsOnce vars made → (row : Row) (rest : List ℕ) → IsReadable row
    → bytes ≡ row_text (columns vars) row ++ rest → ⊥

-- ---- lists, and the bracket after them

-- no names
abbrev pub AreNoNames : List ℕ → Type 0
AreNoNames bytes = (names : List (List ℕ)) (rest : List ℕ) → Each IsUtf8 names → bytes ≡ separated (map string_text names) ++ 93 ∷ rest → ⊥

-- no rows
abbrev pub AreNoRows : List CodeColumn → List ℕ → Type 0
AreNoRows made bytes = (vars : List (List ℕ)) → AreColumnsOnce vars made → (table : Table) (rest : List ℕ) → Each IsReadable table
    → bytes ≡ separated (map (row_text (columns vars)) table) ++ 93 ∷ rest → ⊥

-- after all rows that the bytes begin with, these bytes are left
abbrev pub IsAfterRows : List CodeColumn → List ℕ → List ℕ → Type 0
IsAfterRows made bytes left = (vars : List (List ℕ)) → AreColumnsOnce vars made → (table : Table) (rest : List ℕ) → Each IsReadable table
    → bytes ≡ separated (map (row_text (columns vars)) table) ++ 93 ∷ rest → left ≡ 93 ∷ rest

-- ---- results

-- no names of variables with what precedes and follows them
abbrev pub IsNoHead : List ℕ → Type 0
IsNoHead bytes = (names : List (List ℕ)) (rest : List ℕ) → Each IsUtf8 names → bytes ≡ head_text names ++ rest → ⊥

-- a result with this head
abbrev pub table_text : List ℕ → List (List ℕ) → Table → List ℕ
table_text head vars table = head ++ (separated (map (row_text (columns vars)) table) ++ codes "]}}\n")

-- no result with this head
abbrev pub IsNoDocument : List ℕ → List CodeColumn → List ℕ → Type 0
IsNoDocument head made bytes = (vars : List (List ℕ)) → AreColumnsOnce vars made → (table : Table) (rest : List ℕ) → Each IsReadable table
    → bytes ≡ table_text head vars table ++ rest → ⊥

-- after a result with this head that the bytes begin with, these bytes are left
abbrev pub IsAfterDocument : List ℕ → List CodeColumn → List ℕ → List ℕ → Type 0
IsAfterDocument head made bytes left = (vars : List (List ℕ)) → AreColumnsOnce vars made → (table : Table) (rest : List ℕ) → Each IsReadable table
    → bytes ≡ table_text head vars table ++ rest → left ≡ rest

-- the bytes are not results with this head
abbrev pub AreNoDocuments : List ℕ → List CodeColumn → List ℕ → Type 0
AreNoDocuments head made bytes = (vars : List (List ℕ)) → AreColumnsOnce vars made → (tables : List Table) → Each (Each IsReadable) tables
    → bytes ≡ flat_map (table_text head vars) tables → ⊥

-- the bytes are not results of these variables
abbrev pub AreNoResults : List (List ℕ) → List ℕ → Type 0
AreNoResults vars bytes = IsWithoutRepeats bytes_eq vars → (tables : List Table) → Each (Each IsReadable) tables → bytes ≡ flat_map (json vars) tables → ⊥
