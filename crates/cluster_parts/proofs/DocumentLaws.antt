-- Documents of statements: their lines, and what these hold.
use Rattle.std.proofs.Common.{◌≡◌, ◌⊎◌, ℕ, suc, ◌<◌, List, [], ◌∷◌, ◌++◌, length, map, Option, None, Some, refl, sym, ap, subst, ◌∙◌, inl, inr, append_assoc, append-nil, arith, codes}
use Rattle.std.specs.Prelude.{option_to_list, slice_index, ◌≢◌}
use Rattle.std.specs.List.{AllZip}
use Rattle.std.specs.Option.{unwrap_or}
use Rattle.std.specs.Str.{bytes_eq}
use Rattle.rdf_core.specs.declared.term.Term.{Term}
use Rattle.rdf_core.specs.QuadParts.{QuadParts}
use Rattle.rdf_core.specs.Serialization.{serialization}
use Rattle.rdf_core.proofs.EscapeSteps.{eqb_no}
use Rattle.rdf_core.proofs.TermLaws.{term_eq, term_decides}
use Rattle.nquads_core.specs.Grammar.{HasStatement}
use Rattle.nquads_core.specs.Lines.{lines, EndsLine}
use Rattle.nquads_core.specs.Pieces.{HaveStatements}
use Rattle.nquads_core.specs.Laws.{object_line, quad_line, with_object, IsNQuadsTerm}
use Rattle.nquads_core.proofs.PieceLaws.{NoEnds, line_lf, lines_nil}
use Rattle.nquads_core.proofs.LineEnds.{lines_join}
use Rattle.nquads_core.proofs.Forms.{forms_are_distinct}
use Rattle.nquads_core.proofs.Meaning.{one_meaning}
use Rattle.nquads_core.proofs.Again.{lines_round_trip, terms_round_trip}
use Rattle.dict_core.specs.Appearances.{terms_of, terms_of_quad}
use Rattle.dict_core.specs.Numbered.{joined}
use Rattle.quad_index.specs.Laws.{same_parts}
use Rattle.quad_index.proofs.ReadingLaws.{parts_decides}
use Rattle.cluster_parts.specs.Seal.{joined_texts}
use Rattle.cluster_parts.specs.Parts.{quad_document}
use Rattle.cluster_parts.specs.Terms.{term_lines}
use Rattle.cluster_parts.specs.Laws.{AreWholeLines, BlocksJoin}
use Rattle.cluster_parts.proofs.Each.{Each, Each-append}
use Rattle.cluster_parts.proofs.SetCounts.{same_text}

-- ---- one line

no_ends : (line : List ℕ) → ((i : ℕ) → i < length line → (slice_index line i ≢ 10) × (slice_index line i ≢ 13)) → NoEnds line
no_ends [] h = tt
no_ends (b ∷ line) h =
    (eqb_no b 10 (h 0 (omega arith)).0, eqb_no b 13 (h 0 (omega arith)).1, no_ends line (λ i below. h (suc i) (omega arith)))

-- a line that holds a statement, and then others
first_line : (line rest : List ℕ) (q : Option QuadParts) → HasStatement line q → lines ((line ++ 10 ∷ []) ++ rest) ≡ line ∷ lines rest
first_line line rest q h = ap lines (append_assoc line (10 ∷ []) rest) ∙ line_lf line rest (no_ends line h.one_line)

-- ---- documents

no_ends_before : (xs ys : List ℕ) → NoEnds (xs ++ ys) → NoEnds xs
no_ends_before [] ys h = tt
no_ends_before (x ∷ xs) ys h = (h.0, h.1, no_ends_before xs ys h.2)

no_ends_after : (xs ys : List ℕ) → NoEnds (xs ++ ys) → NoEnds ys
no_ends_after [] ys h = h
no_ends_after (x ∷ xs) ys h = no_ends_after xs ys h.2

-- the N-Quads form of a term has no line end
form_line : (t : Term) → IsNQuadsTerm t → NoEnds (serialization t)
form_line t h =
    let holds : HasStatement (object_line t) (Some (with_object t)) = terms_round_trip h.0 h.1 t h.2 h.3 in
    no_ends_before (serialization t) (codes " .") (no_ends_after (codes "<a:> <a:> ") (serialization t ++ codes " .") (no_ends (object_line t) holds.one_line))

-- terms that are listed on lines
pub lines_of_terms : (ts : List Term) → Each IsNQuadsTerm ts → lines (term_lines ts) ≡ map serialization ts
lines_of_terms [] h = lines_nil
lines_of_terms (t ∷ ts) h =
    ap lines (append_assoc (serialization t) (10 ∷ []) (term_lines ts)) ∙ line_lf (serialization t) (term_lines ts) (form_line t h.0) ∙ ap (λ l. serialization t ∷ l) (lines_of_terms ts h.1)

-- a quad of some line
abbrev pub IsOfLine : QuadParts → Type 0
IsOfLine q = (line : List ℕ) × HasStatement line (Some q)

-- quads that are listed on lines
pub lines_of_quads : (qs : List QuadParts) → Each IsOfLine qs → lines (quad_document qs) ≡ map quad_line qs
lines_of_quads [] h = lines_nil
lines_of_quads (q ∷ qs) h =
    first_line (quad_line q) (quad_document qs) (Some q) (lines_round_trip h.0.0 q h.0.1) ∙ ap (λ l. quad_line q ∷ l) (lines_of_quads qs h.1)

-- different quads have different lines
pub line_eq : (q r : QuadParts) → IsOfLine q → IsOfLine r → bytes_eq (quad_line q) (quad_line r) ≡ same_parts q r
line_eq q r good fine =
    same_text same_parts parts_decides quad_line q r
    (λ e. some_is (one_meaning (quad_line r) (Some q) (Some r) (subst (λ l. HasStatement l (Some q)) e (lines_round_trip good.0 q good.1)) (lines_round_trip fine.0 r fine.1)))
  where
    some_is : Some q ≡ Some r → q ≡ r
    some_is e = ap (λ o. unwrap_or o q) e

-- different terms have different forms
pub form_eq : (t u : Term) → IsNQuadsTerm t → IsNQuadsTerm u → bytes_eq (serialization t) (serialization u) ≡ term_eq t u
form_eq t u good fine = same_text term_eq term_decides serialization t u (forms_are_distinct t u good fine)

-- ---- what lines hold

pub quads_of_lines : (ls : List (List ℕ)) (D : List QuadParts) → HaveStatements ls D → Each IsOfLine D
quads_of_lines [] D h = subst (Each IsOfLine) (sym h) tt
quads_of_lines (l ∷ ls) D h = subst (Each IsOfLine) (sym h.3) (Each-append IsOfLine (option_to_list h.0) h.1 (one h.0 h.2) (quads_of_lines ls h.1 h.4))
  where
    one : (q : Option QuadParts) → HasStatement l q → Each IsOfLine (option_to_list q)
    one None k = tt
    one (Some q) k = ((l, k), tt)

pub terms_of_lines : (D : List QuadParts) → Each IsOfLine D → Each IsNQuadsTerm (terms_of D)
terms_of_lines [] h = tt
terms_of_lines (q ∷ qs) h =
    Each-append IsNQuadsTerm (terms_of_quad q) (terms_of qs)
    ((h.0.0, q, h.0.1, inl refl), ((h.0.0, q, h.0.1, inr (inl refl)), ((h.0.0, q, h.0.1, inr (inr (inl refl))), name q.g refl)))
    (terms_of_lines qs h.1)
  where
    name : (g : Option Term) → q.g ≡ g → Each IsNQuadsTerm (option_to_list g)
    name None e = tt
    name (Some t) e = ((h.0.0, q, h.0.1, inr (inr (inr e))), tt)

-- ---- blocks

pub statements-append : (xs ys : List (List ℕ)) (qs rs : List QuadParts) → HaveStatements xs qs → HaveStatements ys rs → HaveStatements (xs ++ ys) (qs ++ rs)
statements-append [] ys qs rs h k = rw h k
statements-append (x ∷ xs) ys qs rs h k =
    (h.0, h.1 ++ rs, h.2, rw h.3 (append_assoc (option_to_list h.0) h.1 rs), statements-append xs ys h.1 rs h.4 k)

pub blocks_join : BlocksJoin
blocks_join blocks quads h = by blocks quads h.whole h.statements
  where
    lines_of : (b : List ℕ) (bs : List (List ℕ)) → (EndsLine b ⊎ (bs ≡ [])) → lines (b ++ joined_texts bs) ≡ lines b ++ lines (joined_texts bs)
    lines_of b bs (inl ends) = lines_join b (joined_texts bs) ends
    lines_of b bs (inr last) =
        ap (λ l. lines (b ++ joined_texts l)) last ∙ ap lines (append-nil b)
        ∙ sym (ap (λ l. lines b ++ lines (joined_texts l)) last ∙ ap (λ l. lines b ++ l) lines_nil ∙ append-nil (lines b))

    by : (bs : List (List ℕ)) (qs : List (List QuadParts)) → AreWholeLines bs → AllZip (λ block qs. HaveStatements (lines block) qs) bs qs → HaveStatements (lines (joined_texts bs)) (joined qs)
    by [] [] w s = subst (λ ls. HaveStatements ls []) (sym lines_nil) refl
    by [] (q ∷ qs) w s = absurd s
    by (b ∷ bs) [] w s = absurd s
    by (b ∷ bs) (q ∷ qs) w s =
        subst (λ ls. HaveStatements ls (q ++ joined qs)) (sym (lines_of b bs w.0)) (statements-append (lines b) (lines (joined_texts bs)) q (joined qs) s.0 (by bs qs w.1 s.1))

-- the quads of blocks are of lines
pub block_quads : (bs : List (List ℕ)) (qs : List (List QuadParts)) → AllZip (λ block qs. HaveStatements (lines block) qs) bs qs → Each (Each IsOfLine) qs
block_quads [] [] s = tt
block_quads [] (q ∷ qs) s = absurd s
block_quads (b ∷ bs) [] s = absurd s
block_quads (b ∷ bs) (q ∷ qs) s = (quads_of_lines (lines b) q s.0, block_quads bs qs s.1)
