-- Texts of terms, each printed once, and the texts of rows that consist of them. Only private
-- clauses use these definitions.
use Rattle.std.specs.Prelude.{◌≡◌, ◌⊎◌, ℕ, ◌*◌, ◌<◌, ◌≤◌, ◌==◌, nat_le, Bool, true, false, not, ◌&&◌, List, [], ◌∷◌, ◌++◌, length, flat_map, slice_range, get_or, map, Option, None, Some, Vec, codes}
use Rattle.std.specs.Borrow.{Bor}
use Rattle.std.specs.declared.alloc.Global.{Global}
use Rattle.rdf_core.specs.declared.term.Term.{Term}
use Rattle.dict_core.specs.Dict.{term_at}
use Rattle.row_pieces.specs.Pieces.{piece_of}
use Rattle.result_json.specs.declared.ranked_row.RankedRow.{RankedRow}
use Rattle.result_json.specs.RankedRows.{ranks_of}
use Rattle.result_json.specs.Ranks.{ranked_cell}
use Rattle.result_json.specs.Results.{Column, separated, string_text, term_text}

-- the byte needs no escape in a JSON string: it is not a control character, quotation mark or
-- backslash (RFC 8259, section 7)
abbrev pub is_plain : ℕ → Bool
is_plain b = nat_le 32 b && not (b == 34) && not (b == 92)

-- the beginning and the end of a text in a buffer
abbrev pub Span : Type 0
Span = ℕ × ℕ

-- the term is not printed yet, or the span of the buffer is its text
abbrev pub IsSpanOf : List ℕ → Term → Span → Type 0
IsSpanOf printed term span = (span.1 ≤ span.0)
    ⊎ ((span.1 ≤ length printed) × (slice_range printed span.0 span.1 ≡ term_text term))

-- the spans of all terms
abbrev pub ArePrinted : List Term → List ℕ → List Span → Type 0
ArePrinted terms printed spans = (length spans ≡ length terms)
    × ((i : ℕ) → i < length terms → IsSpanOf printed (term_at terms i) (get_or spans i (0, 0)))

-- pieces of `size` terms that hold all terms; the last piece may have fewer
abbrev pub ArePieces : ℕ → List Term → List (List Term) → Type 0
ArePieces size terms pieces = (0 < size)
    × (length terms ≤ length pieces * size)
    × ((i : ℕ) (d : List Term) → i < length pieces → get_or pieces i d ≡ piece_of size i terms)

-- a column of the code: a borrowed name, and a place
abbrev pub column_of : Bor (List ℕ) × ℕ → Column
column_of c = (c.0.now, c.1)

-- the beginning of a column's members, which is the name as a string and a colon, with the column's
-- place
abbrev pub begun : Column → Column
begun c = (string_text c.0 ++ 58 ∷ [], c.1)

-- a begun column of the code
abbrev pub begun_column : Vec ℕ Global × ℕ → Column
begun_column c = (c.0.items, c.1)

-- the member of a begun column, if the cell is bound
abbrev pub begun_member : List ℕ → Option Term → List (List ℕ)
begun_member prefix None = []
begun_member prefix (Some t) = (prefix ++ term_text t) ∷ []

-- the members of a row of ranks
abbrev pub begun_members : List Term → List ℕ → List Column → List (List ℕ)
begun_members terms ranks columns = flat_map (λ c. begun_member c.0 (ranked_cell terms (get_or ranks c.1 0))) columns

-- the text of a row of ranks, from begun columns
abbrev pub begun_row : List Term → List Column → List ℕ → List ℕ
begun_row terms columns ranks = codes "{" ++ (separated (begun_members terms ranks columns) ++ codes "}")

-- texts with a comma before each, or before each except the first
abbrev pub comma_texts : Bool → List (List ℕ) → List ℕ
comma_texts true xs = flat_map (λ y. 44 ∷ y) xs
comma_texts false xs = separated xs

-- the texts of rows of ranks
abbrev pub rank_texts : List Term → List (Vec ℕ Global × ℕ) → List (List ℕ) → List (List ℕ)
rank_texts terms columns rows = map (begun_row terms (map begun_column columns)) rows

-- the texts of rows
abbrev pub row_texts : List Term → List (Vec ℕ Global × ℕ) → List RankedRow → List (List ℕ)
row_texts terms columns rows = rank_texts terms columns (ranks_of rows)

-- piece i of rows of ranks, with `size` rows for each piece, and a comma before each row except the
-- first of all
abbrev pub piece_text : List Term → List (Vec ℕ Global × ℕ) → List (List ℕ) → ℕ → ℕ → List ℕ
piece_text terms columns rows size i = comma_texts (not (i == 0)) (rank_texts terms columns (piece_of size i rows))

-- what precedes the rows of a result
abbrev pub head_text : List (List ℕ) → List ℕ
head_text vars = codes "{\"head\":{\"vars\":[" ++ (separated (map string_text vars) ++ codes "]},\"results\":{\"bindings\":[")

-- ---- texts that are looked up ahead

-- the text is empty, or it is that of the rank's term
abbrev pub IsAhead : List Term → ℕ → List ℕ → Type 0
IsAhead terms rank text = (text ≡ [])
    ⊎ ((t : Term) × (ranked_cell terms rank ≡ Some t) × (text ≡ term_text t))

-- the texts of the cells at a place of rows, row by row
abbrev pub IsColumnAhead : List Term → ℕ → List (List ℕ) → List (List ℕ) → Type 0
IsColumnAhead terms place rows texts = (i : ℕ) → i < length rows → IsAhead terms (get_or (get_or rows i []) place 0) (get_or texts i [])

-- the texts of rows for each column, whose places in a row are listed
abbrev pub AreAhead : List Term → List ℕ → List (List ℕ) → List (List (List ℕ)) → Type 0
AreAhead terms places rows texts = (k : ℕ) → k < length places → IsColumnAhead terms (get_or places k 0) rows (get_or texts k [])

-- for each column the text of the i-th row is that of its cell, or empty
abbrev pub IsRowAhead : List Term → List ℕ → List ℕ → ℕ → List (List (List ℕ)) → Type 0
IsRowAhead terms places ranks i texts = (k : ℕ) → k < length places → IsAhead terms (get_or ranks (get_or places k 0) 0) (get_or (get_or texts k []) i [])

-- the places of begun columns
abbrev pub places_of : List (Vec ℕ Global × ℕ) → List ℕ
places_of columns = map (λ c. c.1) columns

-- the bytes of borrowed texts
abbrev pub borrowed_texts : List (Bor (List ℕ)) → List (List ℕ)
borrowed_texts texts = map (λ t. t.now) texts

-- the same for each column
abbrev pub all_texts : List (Vec (Bor (List ℕ)) Global) → List (List (List ℕ))
all_texts columns = map (λ c. borrowed_texts c.items) columns
