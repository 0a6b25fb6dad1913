-- Sums of counts, and the lines that counts name.
use Rattle.std.proofs.Common.{◌≡◌, ℕ, ◌+◌, ◌≤◌, ◌<◌, List, ◌++◌, length, get_or, set, sym, subst, ap, ◌∙◌, arith}
use Rattle.std.proofs.lemmas.List.Elements.{All-set}
use Rattle.std.proofs.lemmas.Option.{slice_get_within}
use Rattle.std.proofs.lemmas.List.Sums.{sum_by-set, get_or-le-sum_by}
use Rattle.malformed_lines.specs.Counts.{NameLinesFrom, NamesLineFrom, total_of}
use Rattle.line_diagnosis.specs.declared.summary.Summary.{Summary}
use Rattle.line_diagnosis.specs.Summary.{DifferInFound}
use Rattle.malformed_lines.proofs.MalformedLaws.{after_all, still_at}
use Rattle.malformed_lines.specs.declared.reason_counts.ReasonCount.{ReasonCount}

abbrev count : ReasonCount → ℕ
count r = r.count

-- a count is at most the sum
pub count_fits : (counts : List ReasonCount) (i : ℕ) (r : ReasonCount) → i < length counts → r ≡ get_or counts i r → r.count ≤ total_of counts
count_fits counts i r l e = subst (λ (n : ℕ). n ≤ total_of counts) (sym (ap count e)) (get_or-le-sum_by count counts i r l)

-- a count that grows makes the sum grow
pub count_grows : (counts : List ReasonCount) (i : ℕ) (r y : ReasonCount) (m : ℕ) → i < length counts → r ≡ get_or counts i r → y.count ≡ r.count + m → total_of (set counts i y) ≡ total_of counts + m
count_grows counts i r y m l e k =
    let s = sum_by-set count counts i y r l in
    let g : r.count ≡ (get_or counts i r).count = ap count e in
    omega (arith, s, g, k)

-- a count that grows names the same line
pub named_grows : (counts : List ReasonCount) (i : ℕ) (r y : ReasonCount) (n : ℕ) (lines : List (List ℕ)) → i < length counts → r ≡ get_or counts i r
    → y.first ≡ r.first → y.column ≡ r.column → y.counted ≡ r.counted → y.reason ≡ r.reason → NameLinesFrom n lines counts → NameLinesFrom n lines (set counts i y)
named_grows counts i r y n lines l e f c u s h =
    let a : NamesLineFrom n lines r = subst (NamesLineFrom n lines) (sym e) (h i r l) in
    All-set (NamesLineFrom n lines) counts i y (record {
      place = a.place;
      number = f ∙ a.number;
      line = a.line;
      at_place = a.at_place;
      malformed = a.malformed;
      diagnosis = a.diagnosis;
      explained = a.explained;
      column = c ∙ a.column;
      counted = u ∙ a.counted;
      reason = subst (λ (x : Summary). DifferInFound a.diagnosis.reason x.reason) (sym s) a.reason;
    }) h

-- the number that a count names is within the lines
pub named_within : (lines : List (List ℕ)) (c : ReasonCount) → NamesLineFrom 0 lines c → c.first < length lines
named_within lines c a = let w = slice_get_within lines a.place a.line a.at_place in omega (arith, a.number, w)

-- the line of a piece is that of a document
pub named_moved : (front back : List (List ℕ)) (before : ℕ) (old new : ReasonCount) → before ≡ length front → NamesLineFrom 0 back old
    → new.first ≡ before + old.first + 1 → new.column ≡ old.column → new.counted ≡ old.counted → new.reason ≡ old.reason → NamesLineFrom 1 (front ++ back) new
named_moved front back before old new e a f c u s = record {
  place = length front + a.place;
  number = omega (arith, f, e, a.number);
  line = a.line;
  at_place = after_all front back a.place a.line a.at_place;
  malformed = a.malformed;
  diagnosis = a.diagnosis;
  explained = a.explained;
  column = c ∙ a.column;
  counted = u ∙ a.counted;
  reason = subst (λ (x : Summary). DifferInFound a.diagnosis.reason x.reason) (sym s) a.reason;
}

-- more lines follow
pub named_still : (n : ℕ) (a b : List (List ℕ)) (counts : List ReasonCount) → NameLinesFrom n a counts → NameLinesFrom n (a ++ b) counts
named_still n a b counts h = λ k d l. let s = h k d l in record {
  place = s.place;
  number = s.number;
  line = s.line;
  at_place = still_at a b s.place s.line s.at_place;
  malformed = s.malformed;
  diagnosis = s.diagnosis;
  explained = s.explained;
  column = s.column;
  counted = s.counted;
  reason = s.reason;
}
