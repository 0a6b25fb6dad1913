-- Lines one after the other.
use Rattle.std.proofs.Common.{◌≡◌, ℕ, zero, suc, ◌+◌, ◌≤◌, ◌<◌, true, false, eqb, List, [], ◌∷◌, ◌++◌, length, take, drop, get_or, Option, refl, sym, ap, subst, ◌∙◌, append_assoc, append-nil, length-append, arith}
use Rattle.std.specs.Prelude.{option_to_list}
use Rattle.rdf_core.specs.QuadParts.{QuadParts}
use Rattle.nquads_core.specs.declared.fault.PieceFault.TheVariants.{BadLine}
use Rattle.memchr.specs.Find.{is_byte2}
use Rattle.nquads_core.specs.Grammar.{HasStatement, IsMalformed}
use Rattle.nquads_core.specs.Lines.{lines, onto_first, begins_with_lf}
use Rattle.nquads_core.specs.Pieces.{HaveStatements, IsFirstMalformed}
use Rattle.std.proofs.lemmas.List.{take-append-drop, drop_more, take_all}
use Rattle.std.proofs.lemmas.Bool.{eqb-true}
use Rattle.rdf_core.proofs.EscapeSteps.{eqb_no}
use Rattle.nquads_core.proofs.RunLaws.{or_no}

-- no byte is LF or CR
abbrev pub NoEnds : List ℕ → Type 0
NoEnds [] = Unit {0}
NoEnds (b ∷ bytes) = (eqb b 10 ≡ false) × (eqb b 13 ≡ false) × NoEnds bytes

pub plain_front : (front rest : List ℕ) (others : List (List ℕ)) → NoEnds front → (line : List ℕ) → lines rest ≡ line ∷ others → lines (front ++ rest) ≡ (front ++ line) ∷ others
unfolding lines
plain_front [] rest others h line e = e
plain_front (b ∷ front) rest others h line e = rw (h.0, h.1) (ap (onto_first b) (plain_front front rest others h.2 line e))

pub last_line : (b : ℕ) (front : List ℕ) → NoEnds (b ∷ front) → lines (b ∷ front) ≡ (b ∷ front) ∷ []
unfolding lines
last_line b [] h = rw (h.0, h.1) refl
last_line b (c ∷ front) h = rw (h.0, h.1) (ap (onto_first b) (last_line c front h.2))

at_lf : (rest : List ℕ) → lines (10 ∷ rest) ≡ [] ∷ lines rest
unfolding lines
at_lf rest = refl

at_cr : (rest : List ℕ) → begins_with_lf rest ≡ false → lines (13 ∷ rest) ≡ [] ∷ lines rest
unfolding lines
at_cr rest h = rw h refl

at_crlf : (rest : List ℕ) → lines (13 ∷ 10 ∷ rest) ≡ [] ∷ lines rest
unfolding lines
at_crlf rest = refl

pub line_lf : (front rest : List ℕ) → NoEnds front → lines (front ++ 10 ∷ rest) ≡ front ∷ lines rest
line_lf front rest h = plain_front front (10 ∷ rest) (lines rest) h [] (at_lf rest) ∙ ap (λ (y : List ℕ). y ∷ lines rest) (append-nil front)

pub line_cr : (front rest : List ℕ) → NoEnds front → begins_with_lf rest ≡ false → lines (front ++ 13 ∷ rest) ≡ front ∷ lines rest
line_cr front rest h k = plain_front front (13 ∷ rest) (lines rest) h [] (at_cr rest k) ∙ ap (λ (y : List ℕ). y ∷ lines rest) (append-nil front)

pub line_crlf : (front rest : List ℕ) → NoEnds front → lines (front ++ 13 ∷ 10 ∷ rest) ≡ front ∷ lines rest
line_crlf front rest h = plain_front front (13 ∷ 10 ∷ rest) (lines rest) h [] (at_crlf rest) ∙ ap (λ (y : List ℕ). y ∷ lines rest) (append-nil front)

-- ---- quads of lines

pub statements_more : (ls : List (List ℕ)) (quads : List QuadParts) (line : List ℕ) (q : Option QuadParts) → HaveStatements ls quads → HasStatement line q → HaveStatements (ls ++ line ∷ []) (quads ++ option_to_list q)
statements_more [] quads line q h s = (q, [], s, rw h (sym (append-nil (option_to_list q))), refl)
statements_more (l ∷ ls) quads line q h s =
    (h.0, h.1 ++ option_to_list q, h.2, rw h.3 (append_assoc (option_to_list h.0) h.1 (option_to_list q)), statements_more ls h.1 line q h.4 s)

pub malformed_after : (ls : List (List ℕ)) (quads : List QuadParts) (line : List ℕ) (more : List (List ℕ)) → HaveStatements ls quads → IsMalformed line → IsFirstMalformed (ls ++ line ∷ more) (length ls)
malformed_after [] quads line more h b = b
malformed_after (l ∷ ls) quads line more h b = ((h.0, h.2), malformed_after ls h.1 line more h.4 b)

-- count lines of all are read, and rest is left
pub record ReadLines (quads : List QuadParts) (count : ℕ) (rest all : List ℕ) : Type 0 where
  pub before : List (List ℕ)
  pub parts : lines all ≡ before ++ lines rest
  pub statements : HaveStatements before quads
  pub number : length before ≡ count
  pub short : count + length rest ≤ length all

pub one_more : (quads quads' : List QuadParts) (count : ℕ) (rest all line after : List ℕ) (q : Option QuadParts) → ReadLines quads count rest all → lines rest ≡ line ∷ lines after → length after < length rest → HasStatement line q → quads' ≡ quads ++ option_to_list q → ReadLines quads' (count + 1) after all
one_more quads quads' count rest all line after q h e l s k =
    record {
      before = h.before ++ line ∷ [];
      parts = h.parts ∙ ap (λ (y : List (List ℕ)). h.before ++ y) e ∙ sym (append_assoc h.before (line ∷ []) (lines after));
      statements = rw k (statements_more h.before quads line q h.statements s);
      number = omega (arith, length-append h.before (line ∷ []), h.number);
      short = omega (arith, h.short);
    }

same_place : (n k : ℕ) → BadLine n ≡ BadLine k → n ≡ k
same_place n k e = cc

pub bad_here : (quads : List QuadParts) (count : ℕ) (rest all line after : List ℕ) → ReadLines quads count rest all → lines rest ≡ line ∷ lines after → IsMalformed line → IsFirstMalformed (lines all) count
bad_here quads count rest all line after h e b =
    rw (h.parts, e, ← h.number) (malformed_after h.before quads line (lines after) h.statements b)

pub bad_line : (quads : List QuadParts) (count : ℕ) (rest all line after : List ℕ) → ReadLines quads count rest all → lines rest ≡ line ∷ lines after → IsMalformed line → (k : ℕ) → BadLine count ≡ BadLine k → IsFirstMalformed (lines all) k
bad_line quads count rest all line after h e b k same = subst (λ (y : ℕ). IsFirstMalformed (lines all) y) (same_place count k same) (bad_here quads count rest all line after h e b)

pub lines_nil : lines [] ≡ []
unfolding lines
lines_nil = refl

pub all_read : (quads : List QuadParts) (count : ℕ) (rest all : List ℕ) → ReadLines quads count rest all → rest ≡ [] → HaveStatements (lines all) quads × (count ≡ length (lines all))
all_read quads count rest all h e =
    let whole : lines all ≡ h.before = h.parts ∙ ap (λ (y : List (List ℕ)). h.before ++ y) (ap lines e ∙ lines_nil) ∙ append-nil h.before in
    (subst (λ (y : List (List ℕ)). HaveStatements y quads) (sym whole) h.statements, sym h.number ∙ ap (λ (y : List (List ℕ)). length y) (sym whole))

-- ---- the first line end

test_no : (b : ℕ) → (is_byte2 10 13 b ≡ true → ⊥) → (eqb b 10 ≡ false) × (eqb b 13 ≡ false)
test_no b h = (eqb_no b 10 (λ e. h (rw e refl)), eqb_no b 13 (λ e. h (rw e refl)))

pub no_ends : (bytes : List ℕ) (n : ℕ) → n ≤ length bytes → ((k : ℕ) → k < n → is_byte2 10 13 (get_or bytes k 0) ≡ true → ⊥) → NoEnds (take n bytes)
no_ends bytes zero l h = tt
no_ends [] (suc n) l h = tt
no_ends (b ∷ bytes) (suc n) l h =
    let t = test_no b (h 0 (omega arith)) in
    (t.0, t.1, no_ends bytes n (omega arith) (λ k m. h (suc k) (omega arith)))

pub one_line : (bytes : List ℕ) → 0 < length bytes → ((k : ℕ) → k < length bytes → is_byte2 10 13 (get_or bytes k 0) ≡ true → ⊥) → lines bytes ≡ bytes ∷ []
one_line [] l h = absurd (omega arith)
one_line (b ∷ bytes) l h =
    let n = no_ends (b ∷ bytes) (length (b ∷ bytes)) (omega arith) h in
    last_line b bytes (subst NoEnds (take_all (length (b ∷ bytes)) (b ∷ bytes) (omega arith)) n)

-- where the first line ends
pub record EndsAt (text : List ℕ) (end : ℕ) : Type 0 where
  pub inside : end < length text
  pub before : NoEnds (take end text)
  pub byte : is_byte2 10 13 (get_or text end 0) ≡ true

cut : (text : List ℕ) (end : ℕ) → end < length text → text ≡ take end text ++ get_or text end 0 ∷ drop (end + 1) text
cut text end l = sym (take-append-drop end text) ∙ ap (λ (y : List ℕ). take end text ++ y) (drop_more text end 0 l)

pub lf_line : (text : List ℕ) (end : ℕ) (rest : List ℕ) → EndsAt text end → get_or text end 0 ≡ 10 → rest ≡ drop (end + 1) text → lines text ≡ take end text ∷ lines rest
lf_line text end rest h b e =
    ap lines (cut text end h.inside ∙ ap (λ (y : ℕ). take end text ++ y ∷ drop (end + 1) text) b) ∙ line_lf (take end text) (drop (end + 1) text) h.before ∙ ap (λ (y : List ℕ). take end text ∷ lines y) (sym e)

is_cr : (b : ℕ) → is_byte2 10 13 b ≡ true → (b ≡ 10 → ⊥) → b ≡ 13
is_cr b h n = eqb-true b 13 (or_no (eqb b 10) (eqb b 13) h (eqb_no b 10 n))

pub cr_line : (text : List ℕ) (end : ℕ) (rest : List ℕ) → EndsAt text end → (get_or text end 0 ≡ 10 → ⊥) → rest ≡ drop (end + 1) text → begins_with_lf rest ≡ false → lines text ≡ take end text ∷ lines rest
cr_line text end rest h n e k =
    let b = is_cr (get_or text end 0) h.byte n in
    ap lines (cut text end h.inside ∙ ap (λ (y : ℕ). take end text ++ y ∷ drop (end + 1) text) b) ∙ line_cr (take end text) (drop (end + 1) text) h.before (ap begins_with_lf (sym e) ∙ k) ∙ ap (λ (y : List ℕ). take end text ∷ lines y) (sym e)

lf_first : (rest : List ℕ) → begins_with_lf rest ≡ true → rest ≡ 10 ∷ drop 1 rest
lf_first [] h = absurd cc
lf_first (b ∷ rest) h = ap (λ (y : ℕ). y ∷ rest) (eqb-true b 10 h)

pub crlf_line : (text : List ℕ) (end : ℕ) (rest after : List ℕ) → EndsAt text end → (get_or text end 0 ≡ 10 → ⊥) → rest ≡ drop (end + 1) text → begins_with_lf rest ≡ true → after ≡ drop 1 rest → lines text ≡ take end text ∷ lines after
crlf_line text end rest after h n e k a =
    let b = is_cr (get_or text end 0) h.byte n in
    let r : drop (end + 1) text ≡ 10 ∷ drop 1 rest = sym e ∙ lf_first rest k in
    ap lines (cut text end h.inside ∙ ap (λ (y : ℕ). take end text ++ y ∷ drop (end + 1) text) b ∙ ap (λ (y : List ℕ). take end text ++ 13 ∷ y) r) ∙ line_crlf (take end text) (drop 1 rest) h.before ∙ ap (λ (y : List ℕ). take end text ∷ lines y) (sym a)

-- ---- counting

-- count lines of all are counted, and rest is left
pub record CountedLines (count : ℕ) (rest all : List ℕ) : Type 0 where
  pub number : length (lines all) ≡ count + length (lines rest)
  pub short : count + length rest ≤ length all

pub counted_one : (count : ℕ) (rest all line after : List ℕ) → CountedLines count rest all → lines rest ≡ line ∷ lines after → length after < length rest → CountedLines (count + 1) after all
counted_one count rest all line after h e l =
    record { number = omega (arith, h.number, ap length e); short = omega (arith, h.short, l) }

pub counted_all : (count : ℕ) (rest all : List ℕ) → CountedLines count rest all → rest ≡ [] → count ≡ length (lines all)
counted_all count rest all h e =
    let none : length (lines rest) ≡ 0 = ap (λ (y : List ℕ). length (lines y)) e ∙ ap length lines_nil in
    omega (arith, h.number, none)
