-- A list that is there is read.
use Rattle.std.proofs.Common.{◌≡◌, ℕ, Bool, true, false, IsUtf8, List, [], ◌∷◌, ◌++◌, map, drop, codes, refl, sym, ap, ◌∙◌, arith}
use Rattle.std.specs.Prelude.{⊤}
use Rattle.std.proofs.lemmas.List.{append_cancel_left}
use Rattle.algebra_model.specs.Renaming.{Each}
use Rattle.result_json.specs.Results.{columns, members, row_text, separated, string_text}
use Rattle.result_json.specs.Texts.{comma_texts, head_text}
use Rattle.result_merge.specs.Absent.{AreColumnsOnce, AreNoNames, AreNoRows, IsAfterRows, IsNoHead, IsNoRow, IsNoString, IsReadable}
use Rattle.result_merge.specs.Reading.{CodeColumn, IsRead, ReadRow, comma}
use Rattle.result_merge.proofs.FinalSteps.{text_is}
use Rattle.result_merge.proofs.StringLaws.{string_same}
use Rattle.result_merge.proofs.TableLaws.{element, head, list_same, members_same}
use Rattle.result_merge.proofs.TermTextLaws.{framed}
use Rattle.result_merge.proofs.UniqueLaws.{any_name, names_once, row_start}

-- ---- lists

module _ {X : Type 0} (text : X → List ℕ) (Good : X → Type 0) where
  -- elements and a bracket are at the rest
  abbrev pub IsListAt : List ℕ → Bool → List ℕ → Type 0
  IsListAt rest later a = (left : List X) × Each Good left × (rest ≡ comma_texts later (map text left) ++ 93 ∷ a)

  -- they are, if the bytes begin with such a list
  abbrev pub IsListTo : List ℕ → List ℕ → Bool → Type 0
  IsListTo bytes rest later = (xs : List X) (a : List ℕ) → Each Good xs → bytes ≡ separated (map text xs) ++ 93 ∷ a → IsListAt rest later a

  pub list_begins : (bytes : List ℕ) → IsListTo bytes bytes false
  list_begins bytes = λ xs a good e. (xs, good, e)

  -- no bracket is at the rest
  abbrev pub IsOpen : List ℕ → Type 0
  IsOpen rest = (a : List ℕ) → rest ≡ 93 ∷ a → ⊥

  -- what follows an element that was read
  abbrev pub IsAfter : List ℕ → List ℕ → Type 0
  IsAfter next after = (x : X) (a : List ℕ) → Good x → next ≡ text x ++ a → after ≡ a

  first_at : (later : Bool) (x : X) (left : List X) (rest next a : List ℕ) → rest ≡ comma_texts later (map text (x ∷ left)) ++ 93 ∷ a → rest ≡ comma later ++ next
      → next ≡ text x ++ (comma_texts true (map text left) ++ 93 ∷ a)
  first_at later x left rest next a e f = append_cancel_left (comma later) next (text x ++ (comma_texts true (map text left) ++ 93 ∷ a)) (sym f ∙ e ∙ element text later x left (93 ∷ a))

  no_element : (later : Bool) (rest a : List ℕ) → IsOpen rest → rest ≡ comma_texts later [] ++ 93 ∷ a → ⊥
  no_element true rest a goes_on e = goes_on a e
  no_element false rest a goes_on e = goes_on a e

  pub list_more : (bytes rest next after : List ℕ) (later : Bool) → IsListTo bytes rest later → IsOpen rest → rest ≡ comma later ++ next → IsAfter next after → IsListTo bytes after true
  list_more bytes rest next after later was goes_on f read = λ xs a good e. let w = was xs a good e in by a w.0 w.1 w.2
    where
      by : (a : List ℕ) (left : List X) → Each Good left → rest ≡ comma_texts later (map text left) ++ 93 ∷ a → IsListAt after true a
      by a [] good e = absurd (no_element later rest a goes_on e)
      by a (x ∷ left) good e = (left, good.1, read x (comma_texts true (map text left) ++ 93 ∷ a) good.0 (first_at later x left rest next a e f))

  -- the bytes do not begin with such a list
  abbrev pub IsNoList : List ℕ → Type 0
  IsNoList bytes = (xs : List X) (a : List ℕ) → Each Good xs → bytes ≡ separated (map text xs) ++ 93 ∷ a → ⊥

  pub no_comma : (bytes rest : List ℕ) (later : Bool) → IsListTo bytes rest later → IsOpen rest → ((next : List ℕ) → rest ≡ comma later ++ next → ⊥) → IsNoList bytes
  no_comma bytes rest later was goes_on h = λ xs a good e. let w = was xs a good e in by a w.0 w.2
    where
      by : (a : List ℕ) (left : List X) → rest ≡ comma_texts later (map text left) ++ 93 ∷ a → ⊥
      by a [] e = no_element later rest a goes_on e
      by a (x ∷ left) e = h (text x ++ (comma_texts true (map text left) ++ 93 ∷ a)) (e ∙ element text later x left (93 ∷ a))

  pub no_more : (bytes rest next : List ℕ) (later : Bool) → IsListTo bytes rest later → IsOpen rest → rest ≡ comma later ++ next → ((x : X) (a : List ℕ) → Good x → next ≡ text x ++ a → ⊥) → IsNoList bytes
  no_more bytes rest next later was goes_on f h = λ xs a good e. let w = was xs a good e in by a w.0 w.1 w.2
    where
      by : (a : List ℕ) (left : List X) → Each Good left → rest ≡ comma_texts later (map text left) ++ 93 ∷ a → ⊥
      by a [] good e = no_element later rest a goes_on e
      by a (x ∷ left) good e = h x (comma_texts true (map text left) ++ 93 ∷ a) good.0 (first_at later x left rest next a e f)

  pub list_ends : (starts : (x : X) (a : List ℕ) → head (text x ++ a) ≡ 93 → ⊥) (bytes rest end : List ℕ) (later : Bool) → IsListTo bytes rest later → rest ≡ 93 ∷ end
      → (xs : List X) (a : List ℕ) → Each Good xs → bytes ≡ separated (map text xs) ++ 93 ∷ a → rest ≡ 93 ∷ a
  list_ends starts bytes rest end later was closed xs a good e = let w = was xs a good e in by later w.0 w.2
    where
      by : (later : Bool) (left : List X) → rest ≡ comma_texts later (map text left) ++ 93 ∷ a → rest ≡ 93 ∷ a
      by true [] f = f
      by false [] f = f
      by true (x ∷ left) f = absurd (omega (arith, ap head (sym closed ∙ f)))
      by false (x ∷ left) f = absurd (starts x (comma_texts true (map text left) ++ 93 ∷ a) (ap head (sym (element text false x left (93 ∷ a)) ∙ sym f ∙ closed)))

-- ---- names

pub name_follows : (next name after : List ℕ) → next ≡ string_text name ++ after → IsAfter string_text IsUtf8 next after
name_follows next name after f = λ s a good e. (string_same name s after a (sym f ∙ e)).1

pub no_name : (next : List ℕ) → IsNoString next → (s a : List ℕ) → IsUtf8 s → next ≡ string_text s ++ a → ⊥
no_name next h s a u e = h s a u e

opened : (names : List (List ℕ)) (bytes a : List ℕ) → bytes ≡ head_text names ++ a → bytes ≡ codes "{\"head\":{\"vars\":[" ++ (separated (map string_text names) ++ (codes "]},\"results\":{\"bindings\":[" ++ a))
opened names bytes a e = e ∙ framed (codes "{\"head\":{\"vars\":[") (separated (map string_text names)) (codes "]},\"results\":{\"bindings\":[") a

pub no_head_start : (bytes : List ℕ) → ((rest : List ℕ) → bytes ≡ codes "{\"head\":{\"vars\":[" ++ rest → ⊥) → IsNoHead bytes
no_head_start bytes h = λ names a good e. h (separated (map string_text names) ++ (codes "]},\"results\":{\"bindings\":[" ++ a)) (opened names bytes a e)

in_list : (bytes list : List ℕ) (names : List (List ℕ)) (a : List ℕ) → bytes ≡ codes "{\"head\":{\"vars\":[" ++ list → bytes ≡ head_text names ++ a
    → list ≡ separated (map string_text names) ++ (codes "]},\"results\":{\"bindings\":[" ++ a)
in_list bytes list names a f e = append_cancel_left (codes "{\"head\":{\"vars\":[") _ _ (sym f ∙ opened names bytes a e)

pub no_head_names : (bytes list : List ℕ) → bytes ≡ codes "{\"head\":{\"vars\":[" ++ list → AreNoNames list → IsNoHead bytes
no_head_names bytes list f h = λ names a good e. h names (codes "},\"results\":{\"bindings\":[" ++ a) good (in_list bytes list names a f e)

-- two lists of names, each before a bracket
pub names_same : (names others : List (List ℕ)) (a b : List ℕ) → separated (map string_text names) ++ 93 ∷ a ≡ separated (map string_text others) ++ 93 ∷ b → (names ≡ others) × (a ≡ b)
names_same names others a b e =
    list_same string_text (λ _. ⊤) (λ x y _ _ c d f. string_same x y c d f) (λ x c f. absurd (omega (arith, f))) names others false a b (any_name names) (any_name others) e

pub no_head_end : (bytes list closing end : List ℕ) (read : List (List ℕ)) → bytes ≡ codes "{\"head\":{\"vars\":[" ++ list → list ≡ separated (map string_text read) ++ closing → closing ≡ 93 ∷ end
    → ((rest : List ℕ) → closing ≡ codes "]},\"results\":{\"bindings\":[" ++ rest → ⊥) → IsNoHead bytes
no_head_end bytes list closing end read f g closed h = λ names a good e.
    let same = names_same read names end (codes "},\"results\":{\"bindings\":[" ++ a) (ap (λ l. separated (map string_text read) ++ l) (sym closed) ∙ sym g ∙ in_list bytes list names a f e) in
    h a (closed ∙ ap (λ l. 93 ∷ l) same.1)

-- the names of two heads
pub heads_same : (names others : List (List ℕ)) (a b : List ℕ) → head_text names ++ a ≡ head_text others ++ b → names ≡ others
heads_same names others a b e =
    (names_same names others (codes "},\"results\":{\"bindings\":[" ++ a) (codes "},\"results\":{\"bindings\":[" ++ b)
    (in_list (head_text names ++ a) (separated (map string_text names) ++ (codes "]},\"results\":{\"bindings\":[" ++ a)) others b (opened names (head_text names ++ a) a refl) e)).0

-- ---- rows

-- rows and a bracket are at the rest, if the bytes begin with them
abbrev pub AreRowsTo : List CodeColumn → List ℕ → List ℕ → Bool → Type 0
AreRowsTo made bytes rest later = (vars : List (List ℕ)) → AreColumnsOnce vars made → IsListTo (row_text (columns vars)) IsReadable bytes rest later

pub rows_begin : (made : List CodeColumn) (bytes : List ℕ) → AreRowsTo made bytes bytes false
rows_begin made bytes = λ vars h. list_begins (row_text (columns vars)) IsReadable bytes

-- what follows two rows
row_follows : (vars : List (List ℕ)) (made : List CodeColumn) (width : ℕ) (row : ReadRow) (next after : List ℕ) → AreColumnsOnce vars made → IsRead width made row → next ≡ row.1.now ++ after
    → IsAfter (row_text (columns vars)) IsReadable next after
row_follows vars made width row next after h is f = λ r a good e.
    let cs = columns vars in
    let both : row_text cs row.0.items ++ after ≡ row_text cs r ++ a = ap (λ l. l ++ after) (sym (is.1 ∙ text_is vars made h.0 row.0.items)) ∙ sym f ∙ e in
    let inner = ap (drop 1) (sym (framed (codes "{") (separated (members row.0.items cs)) (codes "}") after) ∙ both ∙ framed (codes "{") (separated (members r cs)) (codes "}") a) in
    (members_same cs row.0.items r false after a (names_once vars h.1) is.2 good.0 inner).1

pub rows_more : (made : List CodeColumn) (width : ℕ) (row : ReadRow) (bytes rest next after : List ℕ) (later : Bool) → AreRowsTo made bytes rest later → ((a : List ℕ) → rest ≡ 93 ∷ a → ⊥)
    → rest ≡ comma later ++ next → IsRead width made row → next ≡ row.1.now ++ after → AreRowsTo made bytes after true
rows_more made width row bytes rest next after later was goes_on f is g = λ vars h.
    list_more (row_text (columns vars)) IsReadable bytes rest next after later (was vars h) goes_on f (row_follows vars made width row next after h is g)

pub no_row_comma : (made : List CodeColumn) (bytes rest : List ℕ) (later : Bool) → AreRowsTo made bytes rest later → ((a : List ℕ) → rest ≡ 93 ∷ a → ⊥) → ((next : List ℕ) → rest ≡ comma later ++ next → ⊥)
    → AreNoRows made bytes
no_row_comma made bytes rest later was goes_on none = λ vars h. no_comma (row_text (columns vars)) IsReadable bytes rest later (was vars h) goes_on none

pub no_row_more : (made : List CodeColumn) (bytes rest next : List ℕ) (later : Bool) → AreRowsTo made bytes rest later → ((a : List ℕ) → rest ≡ 93 ∷ a → ⊥) → rest ≡ comma later ++ next → IsNoRow made next
    → AreNoRows made bytes
no_row_more made bytes rest next later was goes_on f none = λ vars h.
    no_more (row_text (columns vars)) IsReadable bytes rest next later (was vars h) goes_on f (λ row a good e. none vars h row a good e)

pub rows_end : (made : List CodeColumn) (bytes rest end : List ℕ) (later : Bool) → AreRowsTo made bytes rest later → rest ≡ 93 ∷ end → IsAfterRows made bytes rest
rows_end made bytes rest end later was closed = λ vars h table a good e.
    list_ends (row_text (columns vars)) IsReadable (λ row b f. row_start (columns vars) row b f) bytes rest end later (was vars h) closed table a good e
