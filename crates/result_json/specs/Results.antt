-- The result of a SELECT query as JSON, byte by byte (SPARQL 1.1 Query Results JSON Format,
-- sections 3.1 and 3.2). Strings are those of RFC 8259, section 7, with the shortest escapes. The
-- only whitespace is the line feed at the end. The byte order of the members is a choice of this
-- project (not fixed by the standard).
use Rattle.std.specs.Prelude.{ℕ, suc, List, [], ◌∷◌, ◌++◌, ◌/◌, ◌%◌, ◌==◌, nat_lt, Option, None, Some, map, flat_map, get_or, Vec, codes, if◌then◌else◌}
use Rattle.std.specs.Char.{digit_char}
use Rattle.std.specs.Ordering.{nat_cmp, ordering_then}
use Rattle.std.specs.Str.{bytes_eq}
use Rattle.std.specs.declared.alloc.Global.{Global}
use Rattle.std.specs.declared.cmp.Ordering.{Ordering}
use Rattle.rdf_core.specs.Order.{bytes_cmp}
use Rattle.rdf_core.specs.Vocabulary.{xsd_string}
use Rattle.rdf_core.specs.declared.term.Term.{Term}
use Rattle.rdf_core.specs.declared.term.Term.TheVariants.{Blank, Iri, Literal}
use Rattle.algebra_model.specs.Sorted.{sorted_list}

-- One byte of a string. A byte below 32 without a short form is written by its two hexadecimal
-- digits.
unfoldable pub string_byte : ℕ → List ℕ
string_byte b =
    if b == 34 then codes "\\\"" else if b == 92 then codes "\\\\"
    else if b == 8 then codes "\\b" else if b == 12 then codes "\\f"
    else if b == 10 then codes "\\n" else if b == 13 then codes "\\r"
    else if b == 9 then codes "\\t"
    else if nat_lt b 32 then codes "\\u00" ++ (digit_char (b / 16) ∷ digit_char (b % 16) ∷ [])
    else b ∷ []

-- a string of RFC 8259
abbrev pub string_text : List ℕ → List ℕ
string_text text = codes "\"" ++ (flat_map string_byte text ++ codes "\"")

-- a literal without a language tag (section 3.2.2)
abbrev pub plain_text : List ℕ → List ℕ → List ℕ
plain_text lexical datatype =
    if bytes_eq datatype xsd_string
    then codes "{\"type\":\"literal\",\"value\":" ++ (string_text lexical ++ codes "}")
    else codes "{\"datatype\":" ++ (string_text datatype ++ (codes ",\"type\":\"literal\",\"value\":" ++ (string_text lexical ++ codes "}")))

-- an RDF term (section 3.2.2)
unfoldable pub term_text : Term → List ℕ
term_text (Blank label) = codes "{\"type\":\"bnode\",\"value\":" ++ (string_text label ++ codes "}")
term_text (Iri text) = codes "{\"type\":\"uri\",\"value\":" ++ (string_text text ++ codes "}")
term_text (Literal lexical datatype None) = plain_text lexical datatype
term_text (Literal lexical datatype (Some tag)) =
    codes "{\"type\":\"literal\",\"value\":" ++ (string_text lexical ++ (codes ",\"xml:lang\":" ++ (string_text tag ++ codes "}")))

-- the texts with commas between them
abbrev pub separated : List (List ℕ) → List ℕ
separated [] = []
separated (x ∷ xs) = x ++ flat_map (λ y. 44 ∷ y) xs

-- A column: the name of a variable, and its place in a row.
abbrev pub Column : Type 0
Column = List ℕ × ℕ

-- the columns of the names, with places from k on
abbrev pub numbered : ℕ → List (List ℕ) → List Column
numbered k [] = []
numbered k (x ∷ xs) = (x, k) ∷ numbered (suc k) xs

-- columns by name, and then by place
abbrev pub column_cmp : Column → Column → Ordering
column_cmp a b = ordering_then (bytes_cmp a.0 b.0) (nat_cmp a.1 b.1)

-- the columns in byte order of their names
unfoldable pub columns : List (List ℕ) → List Column
columns vars = sorted_list column_cmp (numbered 0 vars)

-- the member of a column, if the row binds its variable
abbrev pub member_text : List ℕ → Option Term → List (List ℕ)
member_text name None = []
member_text name (Some t) = (string_text name ++ 58 ∷ term_text t) ∷ []

-- the members of one solution, in the order of the columns
abbrev pub members : List (Option Term) → List Column → List (List ℕ)
members row columns = flat_map (λ c. member_text c.0 (get_or row c.1 None)) columns

-- a row: the object of one solution (section 3.2.1)
abbrev pub row_text : List Column → List (Option Term) → List ℕ
row_text columns row = codes "{" ++ (separated (members row columns) ++ codes "}")

-- the whole document: the names of the variables, and the rows
unfoldable pub json : List (List ℕ) → List (List (Option Term)) → List ℕ
json vars rows =
    codes "{\"head\":{\"vars\":[" ++ (separated (map string_text vars)
    ++ (codes "]},\"results\":{\"bindings\":[" ++ (separated (map (row_text (columns vars)) rows) ++ codes "]}}\n")))

-- concatenated blocks of bytes
abbrev pub joined_blocks : List (Vec ℕ Global) → List ℕ
joined_blocks blocks = flat_map (λ block. block.items) blocks

-- the names of the listed variables, where `names` has each variable's name at its number; a number
-- without a name has the empty name
abbrev pub listed_names : List (List ℕ) → List ℕ → List (List ℕ)
listed_names names vs = map (λ v. get_or names v []) vs
