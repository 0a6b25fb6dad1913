-- The list of a piece, line after line.
use Rattle.std.proofs.Common.{◌≡◌, ℕ, ◌+◌, ◌≤◌, ◌<◌, List, [], ◌∷◌, ◌++◌, length, map, take, Option, Some, refl, sym, ap, subst, ◌∙◌, append_assoc, append-nil, length-append, arith, inl, inr}
use Rattle.std.specs.Prelude.{Vec}
use Rattle.std.specs.Global.{Global}
use Rattle.std.specs.List.{All, slice_get}
use Rattle.std.proofs.lemmas.List.{length-map, length-take, take_all, take-append-le, map-append}
use Rattle.std.proofs.lemmas.List.Elements.{All-append}
use Rattle.rdf_core.specs.QuadParts.{QuadParts}
use Rattle.nquads_core.specs.Grammar.{HasStatement, IsMalformed}
use Rattle.nquads_core.specs.Lines.{lines}
use Rattle.nquads_core.specs.Pieces.{HaveStatements}
use Rattle.nquads_scan.specs.PlainLines.{AreLinesBefore}
use Rattle.line_diagnosis.specs.declared.diagnosis.Diagnosis.{Diagnosis}
use Rattle.line_diagnosis.specs.Explained.{IsExplained}
use Rattle.malformed_lines.specs.declared.reason_counts.ReasonCount.{ReasonCount}
use Rattle.malformed_lines.specs.declared.piece_list.FoundLine.{FoundLine}
use Rattle.malformed_lines.specs.declared.piece_list.PieceList.{PieceList}
use Rattle.line_diagnosis.specs.Summary.{DifferInFound}
use Rattle.malformed_lines.specs.Counts.{IsTally, NameLinesFrom, NamesLineFrom}
use Rattle.malformed_lines.specs.Malformed.{AreMalformedFrom, AreSingles, IsFound, IsKept, IsListOf, most_shown}
use Rattle.malformed_lines.proofs.CountLaws.{named_still}
use Rattle.malformed_lines.proofs.MalformedLaws.{malformed_more, still_at, well_formed_many, well_formed_more}
use Rattle.malformed_lines.proofs.TallyLaws.{singles_more, singles_still}

pub at_end : (a : List (List ℕ)) (line : List ℕ) (b : List (List ℕ)) → slice_get (a ++ line ∷ b) (length a) ≡ Some line
at_end [] line b = refl
at_end (l ∷ a) line b = at_end a line b

pub still_found : (a b : List (List ℕ)) (fs : List FoundLine) → All (IsFound a) fs → All (IsFound (a ++ b)) fs
still_found a b fs h = λ k d l. still_at a b _ _ (h k d l)

pub shown_more : (xs : List ℕ) (x : ℕ) → length (take most_shown xs) < most_shown → take most_shown (xs ++ x ∷ []) ≡ take most_shown xs ++ x ∷ []
shown_more xs x l =
    let n = length-take most_shown xs in
    let s : length xs < most_shown = omega (arith, n) in
    let m = length-append xs (x ∷ []) in
    take_all most_shown (xs ++ x ∷ []) (omega (arith, m)) ∙ ap (λ (y : List ℕ). y ++ x ∷ []) (sym (take_all most_shown xs (omega (arith, s))))

pub shown_full : (xs : List ℕ) (x : ℕ) → most_shown ≤ length (take most_shown xs) → take most_shown (xs ++ x ∷ []) ≡ take most_shown xs
shown_full xs x l =
    let n = length-take most_shown xs in
    take-append-le most_shown xs (x ∷ []) (omega (arith, n))

one_found : (before : List (List ℕ)) (line : List ℕ) (f : FoundLine) → f.place ≡ length before → f.bytes.now ≡ line → All (IsFound (before ++ line ∷ [])) (f ∷ [])
one_found before line f p b = λ k d l.
    let z : k ≡ 0 = omega arith in
    rw (z, p, b) (at_end before line [])

-- a new count names the line after these
pub named_here : (before : List (List ℕ)) (line : List ℕ) (old : PieceList) (d : Diagnosis) (c : ReasonCount) → IsListOf before old → IsMalformed line → IsExplained line d
    → c.first ≡ old.lines → c.column ≡ d.column → c.counted ≡ d.counted → DifferInFound d.reason c.reason.reason → NamesLineFrom 0 (before ++ line ∷ []) c
named_here before line old d c h m x f o u s = record {
  place = length before;
  number = omega (arith, f, h.count);
  line = line;
  at_place = at_end before line [];
  malformed = m;
  diagnosis = d;
  explained = x;
  column = o;
  counted = u;
  reason = s;
}

-- the line after these is malformed
pub one_malformed : (before : List (List ℕ)) (line : List ℕ) (old new : PieceList) (c : ReasonCount) (h : IsListOf before old) → IsMalformed line
    → IsKept old.shown.items old.lines line new.shown.items → NameLinesFrom 0 (before ++ line ∷ []) new.reasons.counts.items
    → c.count ≡ 1 → c.first ≡ old.lines → NamesLineFrom 0 (before ++ line ∷ []) c → IsTally (h.singles ++ c ∷ []) new.reasons.counts.items
    → new.total ≡ old.total + 1 → new.lines ≡ old.lines + 1 → IsListOf (before ++ line ∷ []) new
one_malformed before line old new c h m k names one number name tally t n =
    let place = λ (f : FoundLine). f.place in
    let places' : List ℕ = h.places ++ old.lines ∷ [] in
    let here : old.lines ≡ 0 + length before = omega (arith, h.count) in
    let bad : AreMalformedFrom 0 (before ++ line ∷ []) places' = malformed_more 0 before h.places line old.lines h.malformed m here in
    let total : new.total ≡ length places' = omega (arith, t, h.total, length-append h.places (old.lines ∷ [])) in
    let count : new.lines ≡ length (before ++ line ∷ []) = omega (arith, n, h.count, length-append before (line ∷ [])) in
    let same : length old.shown.items ≡ length (take most_shown h.places) = sym (length-map old.shown.items place) ∙ ap length h.shown in
    let still = still_found before (line ∷ []) old.shown.items h.found in
    let each : AreSingles 0 (before ++ line ∷ []) places' (h.singles ++ c ∷ []) =
    subst (λ (x : ℕ). AreSingles 0 (before ++ line ∷ []) (h.places ++ x ∷ []) (h.singles ++ c ∷ [])) number (singles_more 0 before line h.places h.singles c h.one_each one name) in
    elim k as (λ k. IsListOf (before ++ line ∷ []) new) [
      | inl a ↦ record {
        places = places';
        malformed = bad;
        shown = ap (map place) a.1.1 ∙ map-append place old.shown.items (a.1.0 ∷ []) ∙ ap (λ (y : List ℕ). y ++ place a.1.0 ∷ []) h.shown ∙ ap (λ (y : ℕ). take most_shown h.places ++ y ∷ []) a.1.2 ∙ sym (shown_more h.places old.lines (subst (λ (y : ℕ). y < most_shown) same a.0));
        found = subst (λ (y : List FoundLine). All (IsFound (before ++ line ∷ [])) y) (sym a.1.1) (All-append (IsFound (before ++ line ∷ [])) old.shown.items (a.1.0 ∷ []) still (one_found before line a.1.0 (a.1.2 ∙ h.count) a.1.3));
        named = names;
        singles = h.singles ++ c ∷ [];
        one_each = each;
        tally = tally;
        total = total;
        count = count;
      }
      | inr b ↦ record {
        places = places';
        malformed = bad;
        shown = ap (map place) b.1 ∙ h.shown ∙ sym (shown_full h.places old.lines (subst (λ (y : ℕ). most_shown ≤ y) same b.0));
        found = subst (λ (y : List FoundLine). All (IsFound (before ++ line ∷ [])) y) (sym b.1) still;
        named = names;
        singles = h.singles ++ c ∷ [];
        one_each = each;
        tally = tally;
        total = total;
        count = count;
      }
    ]

-- the line after these is well-formed
pub one_well_formed : (before : List (List ℕ)) (line : List ℕ) (q : Option QuadParts) (old new : PieceList) → IsListOf before old → HasStatement line q
    → new.shown ≡ old.shown → new.reasons.counts.items ≡ old.reasons.counts.items → new.total ≡ old.total → new.lines ≡ old.lines + 1 → IsListOf (before ++ line ∷ []) new
one_well_formed before line q old new h s e r t n =
    let items = λ (v : Vec FoundLine Global). v.items in
    let i : new.shown.items ≡ old.shown.items = ap items e in
    record {
      places = h.places;
      malformed = well_formed_more 0 before h.places line q h.malformed s;
      shown = ap (map (λ (f : FoundLine). f.place)) i ∙ h.shown;
      found = subst (λ (y : List FoundLine). All (IsFound (before ++ line ∷ [])) y) (sym i) (still_found before (line ∷ []) old.shown.items h.found);
      named = subst (NameLinesFrom 0 (before ++ line ∷ [])) (sym r) (named_still 0 before (line ∷ []) old.reasons.counts.items h.named);
      singles = h.singles;
      one_each = singles_still 0 before (line ∷ []) h.places h.singles h.one_each;
      tally = subst (IsTally h.singles) (sym r) h.tally;
      total = t ∙ h.total;
      count = omega (arith, n, h.count, length-append before (line ∷ []));
    }

-- the lines after these are well-formed
pub many_well_formed : (before after : List (List ℕ)) (quads : List QuadParts) (old new : PieceList) → IsListOf before old → HaveStatements after quads
    → new.shown ≡ old.shown → new.reasons.counts.items ≡ old.reasons.counts.items → new.total ≡ old.total → new.lines ≡ old.lines + length after → IsListOf (before ++ after) new
many_well_formed before after quads old new h s e r t n =
    let items = λ (v : Vec FoundLine Global). v.items in
    let i : new.shown.items ≡ old.shown.items = ap items e in
    record {
      places = h.places;
      malformed = well_formed_many 0 before h.places after quads h.malformed s;
      shown = ap (map (λ (f : FoundLine). f.place)) i ∙ h.shown;
      found = subst (λ (y : List FoundLine). All (IsFound (before ++ after)) y) (sym i) (still_found before after old.shown.items h.found);
      named = subst (NameLinesFrom 0 (before ++ after)) (sym r) (named_still 0 before after old.reasons.counts.items h.named);
      singles = h.singles;
      one_each = singles_still 0 before after h.places h.singles h.one_each;
      tally = subst (IsTally h.singles) (sym r) h.tally;
      total = t ∙ h.total;
      count = omega (arith, n, h.count, length-append before after);
    }

-- the lines before the rest are listed
pub record IsListedUpTo (list : PieceList) (rest all : List ℕ) : Type 0 where
  pub before : List (List ℕ)
  pub parts : lines all ≡ before ++ lines rest
  pub listed : IsListOf before list
  pub short : list.lines + length rest ≤ length all

-- one more line is listed
pub one_more : (old new : PieceList) (rest after all line : List ℕ) → IsListedUpTo old rest all → lines rest ≡ line ∷ lines after → length after < length rest
    → ((before : List (List ℕ)) → IsListOf before old → IsListOf (before ++ line ∷ []) new) → new.lines ≡ old.lines + 1 → IsListedUpTo new after all
one_more old new rest after all line h e l step n = record {
  before = h.before ++ line ∷ [];
  parts = h.parts ∙ ap (λ (y : List (List ℕ)). h.before ++ y) e ∙ sym (append_assoc h.before (line ∷ []) (lines after));
  listed = step h.before h.listed;
  short = omega (arith, h.short, n);
}

-- the well-formed lines before a rest of the rest are listed
pub block_more : (old new : PieceList) (count : ℕ) (rest after all : List ℕ) (quads : List QuadParts) → IsListedUpTo old rest all → AreLinesBefore quads count after rest → count + length after ≤ length rest
    → ((before more : List (List ℕ)) (quads : List QuadParts) → IsListOf before old → HaveStatements more quads → length more ≡ count → IsListOf (before ++ more) new)
    → new.lines ≡ old.lines + count → IsListedUpTo new after all
block_more old new count rest after all quads h b l step n = record {
  before = h.before ++ b.before;
  parts = h.parts ∙ ap (λ (y : List (List ℕ)). h.before ++ y) b.parts ∙ sym (append_assoc h.before b.before (lines after));
  listed = step h.before b.before quads h.listed b.statements b.number;
  short = omega (arith, h.short, n, l);
}

lines_nil : lines [] ≡ []
unfolding lines
lines_nil = refl

pub all_listed : (list : PieceList) (rest all : List ℕ) → IsListedUpTo list rest all → rest ≡ [] → IsListOf (lines all) list
all_listed list rest all h e =
    let whole : lines all ≡ h.before = h.parts ∙ ap (λ (y : List (List ℕ)). h.before ++ y) (ap lines e ∙ lines_nil) ∙ append-nil h.before in
    subst (λ (y : List (List ℕ)). IsListOf y list) (sym whole) h.listed

-- whether the piece ends inside of a line changes nothing else
pub still_listed : (all : List (List ℕ)) (old new : PieceList) → IsListOf all old → new.shown ≡ old.shown
    → new.reasons.counts.items ≡ old.reasons.counts.items → new.total ≡ old.total → new.lines ≡ old.lines → IsListOf all new
still_listed all old new h s r t n =
    let i : new.shown.items ≡ old.shown.items = ap (λ (v : Vec FoundLine Global). v.items) s in
    record {
      places = h.places;
      malformed = h.malformed;
      shown = ap (map (λ (f : FoundLine). f.place)) i ∙ h.shown;
      found = subst (λ (y : List FoundLine). All (IsFound all) y) (sym i) h.found;
      named = subst (NameLinesFrom 0 all) (sym r) h.named;
      singles = h.singles;
      one_each = h.one_each;
      tally = subst (IsTally h.singles) (sym r) h.tally;
      total = t ∙ h.total;
      count = n ∙ h.count;
    }

-- the plain lines at the front are listed
pub plain_listed : (list : PieceList) (count : ℕ) (rest all : List ℕ) (quads : List QuadParts) → AreLinesBefore quads count rest all
    → ((before : List (List ℕ)) (quads : List QuadParts) → HaveStatements before quads → length before ≡ count → IsListOf before list)
    → list.lines ≡ count → count + length rest ≤ length all → IsListedUpTo list rest all
plain_listed list count rest all quads h list_of lines_are short = record {
  before = h.before;
  parts = h.parts;
  listed = list_of h.before quads h.statements h.number;
  short = omega (arith, lines_are, short);
}
