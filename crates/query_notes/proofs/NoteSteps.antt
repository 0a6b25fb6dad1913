-- The order of notes, and the texts of a list of notes.
use Rattle.std.proofs.Common.{◌≡◌, ℕ, ◌-◌, ◌≤◌, ◌^◌, List, [], ◌∷◌, ◌++◌, map, length, get_or, All, AllPairs, refl, ap, ◌∙◌, arith}
use Rattle.std.specs.Prelude.{flat_map, string_bytes}
use Rattle.std.proofs.lemmas.List.Elements.{All-map}
use Rattle.std.specs.List.Sorted.{IsNonDecreasingBy}
use Rattle.query_notes.specs.Notes.{AreNotes, IsNote, IsRowNote, most_notes}
use Rattle.query_notes.specs.declared.notes.RowNote.{RowNote}

-- what decides the place of a note
abbrev pub order_of : RowNote → ℕ
order_of note = (2 ^ 64 - 1) - note.rows

pub most_first : (notes : List RowNote) → All IsRowNote notes → IsNonDecreasingBy order_of notes → AllPairs (λ one later. later.rows ≤ one.rows) notes
most_first notes counted up = λ i j d before inside.
    let rises : order_of (get_or notes i d) ≤ order_of (get_or notes j d) = up i j d (omega (arith, before)) inside in
    let small = (counted j d inside).fits in
    omega (arith, rises, small)

pub joined_texts : {S : Type 0} (f : S → List ℕ) (xs : List S) → flat_map f xs ≡ flat_map (λ note. note) (map f xs)
joined_texts f [] = refl
joined_texts f (x ∷ xs) = ap (λ rest. f x ++ rest) (joined_texts f xs)

pub are_notes : {S : Type 0} (f : S → List ℕ) (notes : List S) (rows : List RowNote) → All (λ note. IsNote (f note)) notes → All IsRowNote rows → AllPairs (λ one later. later.rows ≤ one.rows) rows → length rows ≤ most_notes
    → (text : List ℕ) → text ≡ flat_map f notes ++ flat_map (λ note. string_bytes note.text) rows → AreNotes text
are_notes f notes rows one counted order few text whole = record {
  on_query = map f notes;
  on_rows = rows;
  whole = whole ∙ ap (λ front. front ++ flat_map (λ note. string_bytes note.text) rows) (joined_texts f notes);
  notes = All-map IsNote f notes one;
  counted = counted;
  most_first = order;
  few = few;
}
