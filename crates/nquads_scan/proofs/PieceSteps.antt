-- Lines split into slices, one after the other.
use Rattle.std.proofs.Common.{◌≡◌, ℕ, ◌+◌, ◌≤◌, ◌<◌, List, [], ◌∷◌, ◌++◌, length, Option, Some, None, refl, sym, ap, subst, ◌∙◌, append_assoc, append-nil, length-append, arith}
use Rattle.std.specs.Prelude.{option_to_list}
use Rattle.std.specs.Str.{IsUtf8}
use Rattle.rdf_core.specs.QuadParts.{QuadParts}
use Rattle.nquads_core.specs.declared.slices.RawStatement.{RawStatement}
use Rattle.nquads_core.specs.Lines.{lines}
use Rattle.nquads_core.specs.Pieces.{HaveStatements}
use Rattle.nquads_core.specs.Splitting.{DenotesQuad, DenoteAll, AreStatements}
use Rattle.nquads_core.proofs.PieceLaws.{statements_more, lines_nil}
use Rattle.nquads_scan.specs.Layout.{IsLineThen}
use Rattle.nquads_scan.specs.PlainLines.{AreLinesBefore, FirstLine}
use Rattle.nquads_scan.proofs.LineSteps.{blank_line, first_statement}

record DenotesLast (raws : List RawStatement) (raw : RawStatement) (quads : List QuadParts) : Type 0 where
  front : List QuadParts
  q : QuadParts
  parts : quads ≡ front ++ q ∷ []
  others : DenoteAll raws front
  last : DenotesQuad raw q

denote_last : (raws : List RawStatement) (raw : RawStatement) (quads : List QuadParts) → DenoteAll (raws ++ raw ∷ []) quads → DenotesLast raws raw quads
denote_last [] raw quads d = record { front = []; q = d.0; parts = d.2 ∙ ap (λ (y : List QuadParts). d.0 ∷ y) d.4; others = refl; last = d.3 }
denote_last (r ∷ raws) raw quads d =
    let p = denote_last raws raw d.1 d.4 in
    record { front = d.0 ∷ p.front; q = p.q; parts = d.2 ∙ ap (λ (y : List QuadParts). d.0 ∷ y) p.parts; others = (d.0, p.front, refl, d.3, p.others); last = p.last }

pub line_more : (quads : List QuadParts) (q : Option QuadParts) (count : ℕ) (rest all after : List ℕ) → AreLinesBefore quads count rest all → FirstLine rest after q → AreLinesBefore (quads ++ option_to_list q) (count + 1) after all
line_more quads q count rest all after h f =
    record {
      before = h.before ++ f.line ∷ [];
      parts = h.parts ∙ ap (λ (y : List (List ℕ)). h.before ++ y) f.parts ∙ sym (append_assoc h.before (f.line ∷ []) (lines after));
      statements = statements_more h.before quads f.line q h.statements f.statement;
      number = omega (arith, length-append h.before (f.line ∷ []), h.number);
    }

-- the lines before the rest are this many, and hold what the slices of these statements denote
pub record SplitLines (raws : List RawStatement) (count : ℕ) (rest all : List ℕ) : Type 0 where
  pub utf8 : IsUtf8 rest
  pub short : count + length rest ≤ length all
  pub before : List (List ℕ)
  pub parts : lines all ≡ before ++ lines rest
  pub number : length before ≡ count
  pub statements : AreStatements before raws

all_left : (all : List ℕ) → IsUtf8 all → SplitLines [] 0 all all
all_left all u = record { utf8 = u; short = omega arith; before = []; parts = refl; number = refl; statements = λ quads d. d }

pub split_none : (text all : List ℕ) → text ≡ all → IsUtf8 all → SplitLines [] 0 text all
split_none text all e u = subst (λ (y : List ℕ). SplitLines [] 0 y all) (sym e) (all_left all u)

-- one more line
parts_more : (before : List (List ℕ)) (line rest after all : List ℕ) → lines all ≡ before ++ lines rest → lines rest ≡ line ∷ lines after → lines all ≡ (before ++ line ∷ []) ++ lines after
parts_more before line rest after all e f = e ∙ ap (λ (y : List (List ℕ)). before ++ y) f ∙ sym (append_assoc before (line ∷ []) (lines after))

pub split_more : (raws raws' : List RawStatement) (statement : Option RawStatement) (count : ℕ) (rest all after : List ℕ) → SplitLines raws count rest all → 0 < length rest → IsUtf8 after → length after < length rest
    → IsLineThen rest statement after → raws' ≡ raws ++ option_to_list statement → SplitLines raws' (count + 1) after all
split_more raws raws' None count rest all after h l u s t e =
    let f = blank_line rest after h.utf8 l t in
    record {
      utf8 = u;
      short = omega (arith, h.short, s);
      before = h.before ++ f.line ∷ [];
      parts = parts_more h.before f.line rest after all h.parts f.parts;
      number = omega (arith, length-append h.before (f.line ∷ []), h.number);
      statements = λ quads d.
          let old = h.statements quads (subst (λ (y : List RawStatement). DenoteAll y quads) (e ∙ append-nil raws) d) in
          subst (HaveStatements (h.before ++ f.line ∷ [])) (append-nil quads) (statements_more h.before quads f.line None old f.statement);
    }
split_more raws raws' (Some raw) count rest all after h l u s t e =
    let f = first_statement rest raw after h.utf8 l t in
    record {
      utf8 = u;
      short = omega (arith, h.short, s);
      before = h.before ++ f.line ∷ [];
      parts = parts_more h.before f.line rest after all h.parts f.parts;
      number = omega (arith, length-append h.before (f.line ∷ []), h.number);
      statements = λ quads d.
          let p = denote_last raws raw quads (subst (λ (y : List RawStatement). DenoteAll y quads) e d) in
          subst (HaveStatements (h.before ++ f.line ∷ [])) (sym p.parts) (statements_more h.before p.front f.line (Some p.q) (h.statements p.front p.others) (f.statement p.q p.last));
    }

pub split_all : (raws : List RawStatement) (count : ℕ) (rest all : List ℕ) → SplitLines raws count rest all → rest ≡ [] → AreStatements (lines all) raws × (count ≡ length (lines all))
split_all raws count rest all h e =
    let whole : lines all ≡ h.before = h.parts ∙ ap (λ (y : List (List ℕ)). h.before ++ y) (ap lines e ∙ lines_nil) ∙ append-nil h.before in
    (subst (λ (y : List (List ℕ)). AreStatements y raws) (sym whole) h.statements, sym h.number ∙ ap (λ (y : List (List ℕ)). length y) (sym whole))
