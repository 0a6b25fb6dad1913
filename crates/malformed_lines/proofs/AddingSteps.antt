-- The list of a document, piece after piece.
use Rattle.std.proofs.Common.{◌≡◌, ◌⊎◌, ℕ, zero, suc, ◌+◌, ◌-◌, ◌≤◌, ◌<◌, List, [], ◌∷◌, ◌++◌, length, map, take, refl, sym, ap, subst, ◌∙◌, append_assoc, append-nil, length-append, arith, inl, inr, get_or}
use Rattle.std.specs.List.{All, AllZip}
use Rattle.std.proofs.lemmas.Bool.{cases_lt}
use Rattle.std.proofs.Math.Seq.{take-append-add}
use Rattle.std.proofs.lemmas.List.{take-take, take-map, length-map, length-take, take_all, take-append-le, map-append, take_more}
use Rattle.std.proofs.lemmas.List.Elements.{All-append}
use Rattle.malformed_lines.specs.declared.piece_list.FoundLine.{FoundLine}
use Rattle.malformed_lines.specs.declared.piece_list.PieceList.{PieceList}
use Rattle.malformed_lines.specs.declared.document_list.MalformedLine.{MalformedLine}
use Rattle.malformed_lines.specs.declared.document_list.MalformedLines.{MalformedLines}
use Rattle.malformed_lines.specs.Malformed.{AreKept, AreMalformedFrom, IsCopy, IsFound, IsListOf, IsListed, IsShown, most_shown}
use Rattle.malformed_lines.specs.Counts.{IsTally, NameLinesFrom, moved}
use Rattle.malformed_lines.proofs.MalformedLaws.{after_all, numbers_join, numbers_from, still_at}
use Rattle.malformed_lines.proofs.TallyLaws.{singles_join}

-- the first lines are copied
pub record IsKeptUpTo (before : ℕ) (piece : PieceList) (old new : List MalformedLine) (i : ℕ) : Type 0 where
  pub copies : List MalformedLine
  pub added : new ≡ old ++ copies
  pub count : length copies ≡ i
  pub each : AllZip (IsCopy before piece) (take i piece.shown.items) copies
  pub few : (length new ≤ most_shown) ⊎ (new ≡ old)

zipped_push : {A B : Type 0} (R : A → B → Type 0) (xs : List A) (ys : List B) (x : A) (y : B) → AllZip R xs ys → R x y → AllZip R (xs ++ x ∷ []) (ys ++ y ∷ [])
zipped_push R [] [] x y h r = (r, tt)
zipped_push R [] (z ∷ ys) x y h r = absurd h
zipped_push R (z ∷ xs) [] x y h r = absurd h
zipped_push R (z ∷ xs) (w ∷ ys) x y h r = (h.0, zipped_push R xs ys x y h.1 r)

length_zipped : {A B : Type 0} (R : A → B → Type 0) (xs : List A) (ys : List B) → AllZip R xs ys → length xs ≡ length ys
length_zipped R [] [] h = refl
length_zipped R [] (y ∷ ys) h = absurd h
length_zipped R (x ∷ xs) [] h = absurd h
length_zipped R (x ∷ xs) (y ∷ ys) h = ap suc (length_zipped R xs ys h.1)

-- one more line is copied
pub kept_more : (before : ℕ) (piece : PieceList) (old new new' : List MalformedLine) (i : ℕ) (d : FoundLine) (s : MalformedLine)
    → IsKeptUpTo before piece old new i → i < length piece.shown.items → length new < most_shown → IsCopy before piece (get_or piece.shown.items i d) s
    → new' ≡ new ++ s ∷ [] → IsKeptUpTo before piece old new' (i + 1)
kept_more before piece old new new' i d s h l room copy e = record {
  copies = h.copies ++ s ∷ [];
  added = e ∙ ap (λ (y : List MalformedLine). y ++ s ∷ []) h.added ∙ append_assoc old h.copies (s ∷ []);
  count = omega (arith, length-append h.copies (s ∷ []), h.count);
  each = subst (λ (y : List FoundLine). AllZip (IsCopy before piece) y (h.copies ++ s ∷ [])) (sym (take_more piece.shown.items i d l))
      (zipped_push (IsCopy before piece) (take i piece.shown.items) h.copies (get_or piece.shown.items i d) s h.each copy);
  few = inl (omega (arith, ap length e, length-append new (s ∷ []), room));
}

-- all lines are copied
pub kept_all : (before : ℕ) (piece : PieceList) (old new : List MalformedLine) (i : ℕ) → IsKeptUpTo before piece old new i
    → (length piece.shown.items ≡ i) ⊎ (most_shown ≤ length new) → AreKept before piece old new
kept_all before piece old new i h e = record {
  copies = h.copies;
  added = h.added;
  each = subst (λ (n : ℕ). AllZip (IsCopy before piece) (take n piece.shown.items) h.copies) (sym h.count) h.each;
  all = elim e as (λ _. (length h.copies ≡ length piece.shown.items) ⊎ (most_shown ≤ length new)) [ inl a ↦ inl (h.count ∙ sym a) | inr b ↦ inr b ];
  few = h.few;
}

-- the numbers of copies
copied_numbers : (before : ℕ) (piece : PieceList) (found : List FoundLine) (copies : List MalformedLine) → AllZip (IsCopy before piece) found copies
    → map (λ s. s.number) copies ≡ map (λ k. (before + 1) + k) (map (λ f. f.place) found)
copied_numbers before piece [] [] h = refl
copied_numbers before piece [] (s ∷ copies) h = absurd h
copied_numbers before piece (f ∷ found) [] h = absurd h
copied_numbers before piece (f ∷ found) (s ∷ copies) h =
    let n : s.number ≡ (before + 1) + f.place = omega (arith, h.0.number) in
    ap (λ (y : ℕ). y ∷ map (λ s. s.number) copies) n ∙ ap (λ (y : List ℕ). ((before + 1) + f.place) ∷ y) (copied_numbers before piece found copies h.1)

-- both have all of a list, or as many of its elements
enough : (y : List ℕ) (c n : ℕ) → (c ≡ n) ⊎ (length y ≤ c) → c ≤ n → take c y ≡ take n y
enough y c n h l = elim h as (λ _. take c y ≡ take n y) [
  | inl e ↦ ap (λ (m : ℕ). take m y) e
  | inr m ↦ take_all c y m ∙ sym (take_all n y (omega (arith, m, l)))
]

-- the first twenty of two lists, one after the other
shown_join : (x y : List ℕ) (c : ℕ) → (c ≡ length (take most_shown y)) ⊎ (most_shown ≤ length (take most_shown x) + c)
    → length (take most_shown x) + c ≤ most_shown → c ≤ length (take most_shown y) → take most_shown x ++ take c (take most_shown y) ≡ take most_shown (x ++ y)
shown_join x y c all few short =
    let nx = length-take most_shown x in
    let ny = length-take most_shown y in
    elim (cases_lt (length x) most_shown) as (λ _. take most_shown x ++ take c (take most_shown y) ≡ take most_shown (x ++ y)) [
      | inl l ↦
          let whole : take most_shown x ≡ x = take_all most_shown x (omega arith) in
          let room : length x + (most_shown - length x) ≡ most_shown = omega (arith, l) in
          let right : take most_shown (x ++ y) ≡ x ++ take (most_shown - length x) y = subst (λ (n : ℕ). take n (x ++ y) ≡ x ++ take (most_shown - length x) y) room (take-append-add x y (most_shown - length x)) in
          let left : take c (take most_shown y) ≡ take c y = take-take c most_shown y (omega (arith, short, ny)) in
          let mid : take c y ≡ take (most_shown - length x) y = enough y c (most_shown - length x) (elim all as (λ _. (c ≡ most_shown - length x) ⊎ (length y ≤ c)) [
            | inl a ↦ elim (cases_lt c (most_shown - length x)) as (λ _. (c ≡ most_shown - length x) ⊎ (length y ≤ c)) [
              | inl m ↦ inr (omega (arith, a, ny, m))
              | inr m ↦ inl (omega (arith, a, ny, m, few, nx, l))
            ]
            | inr b ↦ inl (omega (arith, b, nx, few, l))
          ]) (omega (arith, few, nx, l)) in
          ap (λ (z : List ℕ). z ++ take c (take most_shown y)) whole ∙ ap (λ (z : List ℕ). x ++ z) (left ∙ mid) ∙ sym right
      | inr m ↦
          let none : c ≡ 0 = omega (arith, few, nx, m) in
          ap (λ (n : ℕ). take most_shown x ++ take n (take most_shown y)) none ∙ append-nil (take most_shown x) ∙ sym (take-append-le most_shown x y m)
    ]

single : {X : Type 0} (P : X → Type 0) (x : X) → P x → All P (x ∷ [])
single P x h = λ k d l. let z : k ≡ 0 = omega arith in rw z h

all_taken : {X : Type 0} (P : X → Type 0) (c : ℕ) (xs : List X) → All P xs → All P (take c xs)
all_taken P zero xs h = λ k d l. absurd (omega arith)
all_taken P (suc c) [] h = λ k d l. absurd (omega arith)
all_taken P (suc c) (x ∷ xs) h = All-append P (x ∷ []) (take c xs) (single P x (h 0 x (omega arith))) (all_taken P c xs (λ k d l. h (suc k) d (omega (arith, l))))

-- copies of lines of a piece are lines of the document
all_copies : (before after : List (List ℕ)) (n : ℕ) (piece : PieceList) (found : List FoundLine) (copies : List MalformedLine) → n ≡ length before → AllZip (IsCopy n piece) found copies
    → All (IsFound after) found → All (IsShown (before ++ after)) copies
all_copies before after n piece [] [] e z h = λ k d l. absurd (omega arith)
all_copies before after n piece [] (s ∷ copies) e z h = absurd z
all_copies before after n piece (f ∷ found) [] e z h = absurd z
all_copies before after n piece (f ∷ found) (s ∷ copies) e z h =
    let one : IsShown (before ++ after) s = record {
      place = length before + f.place;
      number = omega (arith, z.0.number, e);
      line = f.bytes.now;
      at_place = after_all before after f.place f.bytes.now (h 0 f (omega arith));
      kept = z.0.kept;
    } in
    All-append (IsShown (before ++ after)) (s ∷ []) copies (single (IsShown (before ++ after)) s one) (all_copies before after n piece found copies e z.1 (λ k d l. h (suc k) d (omega (arith, l))))

still_shown : (a b : List (List ℕ)) (shown : List MalformedLine) → All (IsShown a) shown → All (IsShown (a ++ b)) shown
still_shown a b shown h = λ k d l. let s = h k d l in record {
  place = s.place;
  number = s.number;
  line = s.line;
  at_place = still_at a b s.place s.line s.at_place;
  kept = s.kept;
}

-- the list of a piece, added to that of the lines before
pub doc_join : (before after : List (List ℕ)) (old new : MalformedLines) (piece : PieceList) (h : IsListed before old) (p : IsListOf after piece)
    → AreKept old.lines piece old.shown.items new.shown.items → NameLinesFrom 1 (before ++ after) new.reasons.counts.items
    → IsTally (h.singles ++ map (moved old.lines) p.singles) new.reasons.counts.items
    → new.total ≡ old.total + piece.total → new.lines ≡ old.lines + piece.lines → IsListed (before ++ after) new
doc_join before after old new piece h p k names tally t n =
    let number = λ (s : MalformedLine). s.number in
    let place = λ (f : FoundLine). f.place in
    let later = λ (i : ℕ). (old.lines + 1) + i in
    let y : List ℕ = map later p.places in
    let c : ℕ = length k.copies in
    let front : map number old.shown.items ≡ take most_shown h.numbers = h.shown in
    let piece_shown : map later (map place piece.shown.items) ≡ take most_shown y = ap (map later) p.shown ∙ sym (take-map later most_shown p.places) in
    let back : map number k.copies ≡ take c (take most_shown y) =
    copied_numbers old.lines piece (take c piece.shown.items) k.copies k.each
    ∙ ap (map later) (sym (take-map place c piece.shown.items))
    ∙ sym (take-map later c (map place piece.shown.items))
    ∙ ap (take c) piece_shown in
    let many : length piece.shown.items ≡ length (take most_shown y) = sym (length-map piece.shown.items place) ∙ sym (length-map (map place piece.shown.items) later) ∙ ap length piece_shown in
    let old_many : length old.shown.items ≡ length (take most_shown h.numbers) = sym (length-map old.shown.items number) ∙ ap length front in
    let new_many : length new.shown.items ≡ length old.shown.items + c = ap length k.added ∙ length-append old.shown.items k.copies in
    let taken : length (take c piece.shown.items) ≡ c = length_zipped (IsCopy old.lines piece) (take c piece.shown.items) k.copies k.each in
    let short : c ≤ length (take most_shown y) = omega (arith, taken, length-take c piece.shown.items, many) in
    let x_few = length-take most_shown h.numbers in
    let few : length (take most_shown h.numbers) + c ≤ most_shown = elim k.few as (λ _. length (take most_shown h.numbers) + c ≤ most_shown) [
      | inl a ↦ omega (arith, a, new_many, old_many)
      | inr b ↦ omega (arith, ap length b, new_many, old_many, x_few)
    ] in
    let all = elim k.all as (λ _. (c ≡ length (take most_shown y)) ⊎ (most_shown ≤ length (take most_shown h.numbers) + c)) [
      | inl a ↦ inl (a ∙ many)
      | inr b ↦ inr (omega (arith, b, new_many, old_many))
    ] in
    let first : 1 + length before ≡ (old.lines + 1) + 0 = omega (arith, h.count) in
    record {
      numbers = h.numbers ++ y;
      malformed = numbers_join 1 before after h.numbers y h.malformed (subst (λ (m : ℕ). AreMalformedFrom m after y) (sym first) (numbers_from (old.lines + 1) 0 after p.places p.malformed));
      shown = ap (map number) k.added ∙ map-append number old.shown.items k.copies ∙ ap (λ (z : List ℕ). z ++ map number k.copies) front ∙ ap (λ (z : List ℕ). take most_shown h.numbers ++ z) back ∙ shown_join h.numbers y c all few short;
      each = subst (λ (z : List MalformedLine). All (IsShown (before ++ after)) z) (sym k.added) (All-append (IsShown (before ++ after)) old.shown.items k.copies (still_shown before after old.shown.items h.each) (all_copies before after old.lines piece (take c piece.shown.items) k.copies h.count k.each (all_taken (IsFound after) c piece.shown.items p.found)));
      named = names;
      singles = h.singles ++ map (moved old.lines) p.singles;
      one_each = singles_join old.lines before after h.numbers p.places h.singles p.singles h.count h.one_each p.one_each;
      tally = tally;
      total = omega (arith, t, h.total, p.total, length-append h.numbers y, length-map p.places later);
      count = omega (arith, n, h.count, p.count, length-append before after);
    }
