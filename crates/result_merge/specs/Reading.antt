-- How results are read. Only private clauses use these definitions.
use Rattle.std.specs.Prelude.{◌≡◌, ℕ, ◌<◌, Bool, nat_eq, List, [], ◌∷◌, ◌++◌, length, map, flat_map, get_or, codes, Option, None, Vec}
use Rattle.std.specs.Borrow.{Bor}
use Rattle.std.specs.declared.alloc.Global.{Global}
use Rattle.rdf_core.specs.declared.term.Term.{Term}
use Rattle.algebra_model.specs.Bag.{IsWithoutRepeats}
use Rattle.algebra_model.specs.Renaming.{Each}
use Rattle.result_json.specs.Results.{Column, columns, separated}
use Rattle.result_json.specs.Texts.{begun, begun_column, begun_member, comma_texts}
use Rattle.row_merge.specs.Merged.{Row}
use Rattle.result_merge.specs.Tags.{HasTagType}

-- what precedes the lexical form of a literal of xsd:string, or of one with a language tag
abbrev pub literal_start : List ℕ
literal_start = codes "{\"type\":\"literal\",\"value\":"

-- a comma, or nothing before the first
abbrev pub comma : Bool → List ℕ
comma later = comma_texts later ([] ∷ [])

-- the members of a row, from begun columns
abbrev pub row_members : Row → List Column → List (List ℕ)
row_members row columns = flat_map (λ c. begun_member c.0 (get_or row c.1 None)) columns

-- a begun column of the code
abbrev pub CodeColumn : Type 0
CodeColumn = Vec ℕ Global × ℕ

-- the columns are those of these variables
abbrev pub AreColumns : List (List ℕ) → List CodeColumn → Type 0
AreColumns vars made = map begun_column made ≡ map begun (columns vars)

-- different columns have different places in a row of this width
abbrev pub HavePlaces : ℕ → List CodeColumn → Type 0
HavePlaces width made = IsWithoutRepeats nat_eq (map (λ c. c.1) made) × Each (λ c. c.1 < width) made

-- the text of a row, from the columns of the code
abbrev pub text_of : List CodeColumn → Row → List ℕ
text_of made row = codes "{" ++ (separated (row_members row (map begun_column made)) ++ codes "}")

-- a row of the code: its cells, and its text
abbrev pub ReadRow : Type 0
ReadRow = Vec (Option Term) Global × Bor (List ℕ)

-- the text is that of the cells, of which there are this many, and their literals have the right datatype
abbrev pub IsRead : ℕ → List CodeColumn → ReadRow → Type 0
IsRead width made r = (length r.0.items ≡ width) × (r.1.now ≡ text_of made r.0.items) × Each HasTagType r.0.items

-- the cells of rows
abbrev pub rows_of : List ReadRow → List Row
rows_of read = map (λ r. r.0.items) read

-- the texts of rows
abbrev pub texts_of : List ReadRow → List (List ℕ)
texts_of read = map (λ r. r.1.now) read

-- a result with this head
abbrev pub document_text : List ℕ → List ReadRow → List ℕ
document_text head table = head ++ (separated (texts_of table) ++ codes "]}}\n")

-- the text of a row is that of its cells
abbrev pub HasText : (Row → List ℕ) → ReadRow → Type 0
HasText text r = r.1.now ≡ text r.0.items
