-- Lines whose slices denote terms.
use Rattle.std.proofs.Common.{◌≡◌, ◌≢◌, ℕ, suc, ◌+◌, ◌-◌, ◌≤◌, ◌<◌, Bool, true, false, cond, eqb, List, [], ◌∷◌, ◌++◌, length, get_or, take, drop, Option, Some, None, refl, sym, ap, subst, ◌∙◌, append-nil, length-drop, arith, inr}
use Rattle.std.specs.Prelude.{option_copied}
use Rattle.std.specs.Borrow.{Bor}
use Rattle.std.proofs.lemmas.Bool.{eqb-true}
use Rattle.std.proofs.lemmas.List.{get_or-drop, get_or-take, length-take, take-append-drop, take_more}
use Rattle.rdf_core.specs.declared.term.Term.{Term}
use Rattle.rdf_core.specs.declared.term.Term.TheVariants.{Blank, Iri, Literal}
use Rattle.rdf_core.specs.QuadFacts.{is_iri, is_node}
use Rattle.rdf_core.specs.QuadParts.{QuadParts}
use Rattle.rdf_core.specs.Serialization.{serialization}
use Rattle.nquads_core.specs.declared.slices.RawStatement.{RawStatement}
use Rattle.nquads_core.specs.Grammar.{HasStatement}
use Rattle.nquads_core.specs.Lines.{begins_with_lf, lines, onto_first}
use Rattle.nquads_core.specs.Pieces.{HaveStatements}
use Rattle.nquads_core.specs.Slices.{Denotes}
use Rattle.nquads_core.specs.Splitting.{DenoteAll, DenotesGraph, DenotesQuad}
use Rattle.nquads_core.proofs.LineEnds.{lines_join}
use Rattle.nquads_core.proofs.PieceLaws.{lines_nil}
use Rattle.nquads_scan.specs.Canonical.{HasForm}

-- ---- slices

-- the form of the term of a slice begins with the byte with which this text begins
pub begins_form : (raw text bytes : List ℕ) (first : ℕ) → HasForm raw text → bytes ≡ text → first ≡ get_or bytes 0 0 → (t : Term) × Denotes raw t × (get_or (serialization t) 0 0 ≡ first)
begins_form raw text bytes first h e f = (h.term, h.denotes, sym (f ∙ ap (λ (y : List ℕ). get_or y 0 0) (e ∙ h.form)))

node_by_first : (t : Term) → get_or (serialization t) 0 0 ≢ 34 → is_node t ≡ true
node_by_first (Blank label) h = refl
node_by_first (Iri text) h = refl
node_by_first (Literal lexical datatype tag) h = absurd (h refl)

iri_by_first : (t : Term) → get_or (serialization t) 0 0 ≡ 60 → is_iri t ≡ true
iri_by_first (Blank label) h = absurd (omega (arith, h))
iri_by_first (Iri text) h = refl
iri_by_first (Literal lexical datatype tag) h = absurd (omega (arith, h))

pub term_iri : (raw : List ℕ) (first : ℕ) → ((t : Term) × Denotes raw t × (get_or (serialization t) 0 0 ≡ first)) → first ≡ 60 → (t : Term) × Denotes raw t × (is_iri t ≡ true)
term_iri raw first h e = (h.0, h.1, iri_by_first h.0 (h.2 ∙ e))

pub term_node : (raw : List ℕ) (first : ℕ) → ((t : Term) × Denotes raw t × (get_or (serialization t) 0 0 ≡ first)) → first ≢ 34 → (t : Term) × Denotes raw t × (is_node t ≡ true)
term_node raw first h n = (h.0, h.1, node_by_first h.0 (λ e. n (sym h.2 ∙ e)))

-- ---- statements

module _ (raw : RawStatement) (s : (t : Term) × Denotes raw.subject.now t × (is_node t ≡ true)) (p : (t : Term) × Denotes raw.predicate.now t × (is_iri t ≡ true)) (o : (t : Term) × Denotes raw.object.now t) where
  pub unnamed_quad : raw.graph ≡ None → (q : QuadParts) × DenotesQuad raw q
  unnamed_quad none = (
    record { s = s.0; p = p.0; o = o.0; g = None },
    record {
      subject = s.1;
      predicate = p.1;
      object = o.1;
      graph = subst (λ (g : Option (Bor (List ℕ))). DenotesGraph (option_copied g) None) (sym none) tt;
      node = s.2;
      iri = p.2;
      graph_name = refl;
    },
  )

  pub named_quad : (name : Bor (List ℕ)) → raw.graph ≡ Some name → ((t : Term) × Denotes name.now t × (is_node t ≡ true)) → (q : QuadParts) × DenotesQuad raw q
  named_quad name some g = (
    record { s = s.0; p = p.0; o = o.0; g = Some g.0 },
    record {
      subject = s.1;
      predicate = p.1;
      object = o.1;
      graph = subst (λ (x : Option (Bor (List ℕ))). DenotesGraph (option_copied x) (Some g.0)) (sym some) g.1;
      node = s.2;
      iri = p.2;
      graph_name = g.2;
    },
  )

denote_push : (raws : List RawStatement) (quads : List QuadParts) (raw : RawStatement) (q : QuadParts) → DenoteAll raws quads → DenotesQuad raw q → DenoteAll (raws ++ raw ∷ []) (quads ++ q ∷ [])
denote_push [] quads raw q h k = (q, [], ap (λ (l : List QuadParts). l ++ q ∷ []) h, k, refl)
denote_push (r ∷ raws) quads raw q h k = (h.0, h.1 ++ q ∷ [], ap (λ (l : List QuadParts). l ++ q ∷ []) h.2, h.3, denote_push raws h.1 raw q h.4 k)

-- one more statement denotes a quad
pub denote_more : (raws : List RawStatement) (i : ℕ) (d : RawStatement) → i < length raws → ((quads : List QuadParts) × DenoteAll (take i raws) quads) → ((q : QuadParts) × DenotesQuad (get_or raws i d) q)
    → (quads : List QuadParts) × DenoteAll (take (i + 1) raws) quads
denote_more raws i d l h k =
    (h.0 ++ k.0 ∷ [], subst (λ (y : List RawStatement). DenoteAll y (h.0 ++ k.0 ∷ [])) (sym (take_more raws i d l)) (denote_push (take i raws) h.0 (get_or raws i d) k.0 h.1 k.1))

-- ---- lines

differ : (c : ℕ) (rest : List ℕ) (ls : List (List ℕ)) → (c ∷ rest) ∷ [] ≡ [] ∷ ls → ⊥
differ c rest ls e = cc

at_lf : (b : ℕ) (rest : List ℕ) → eqb b 10 ≡ true → lines (b ∷ rest) ≡ [] ∷ lines rest
unfolding lines
at_lf b rest h = rw h refl

at_cr : (b : ℕ) (rest : List ℕ) → eqb b 10 ≡ false → eqb b 13 ≡ true → lines (b ∷ rest) ≡ cond (begins_with_lf rest) (lines rest) ([] ∷ lines rest)
unfolding lines
at_cr b rest h k = rw (h, k) refl

at_other : (b : ℕ) (rest : List ℕ) → eqb b 10 ≡ false → eqb b 13 ≡ false → lines (b ∷ rest) ≡ onto_first b (lines rest)
unfolding lines
at_other b rest h k = rw (h, k) refl

cond_some : (t : Bool) (xs ys : List (List ℕ)) → 1 ≤ length xs → 1 ≤ length ys → 1 ≤ length (cond t xs ys)
cond_some true xs ys h k = h
cond_some false xs ys h k = k

onto_some : (b : ℕ) (ls : List (List ℕ)) → 1 ≤ length (onto_first b ls)
onto_some b [] = omega arith
onto_some b (l ∷ ls) = omega arith

onto_same : (b : ℕ) (ls : List (List ℕ)) → 1 ≤ length ls → length (onto_first b ls) ≡ length ls
onto_same b [] h = absurd (omega (arith, h))
onto_same b (l ∷ ls) h = refl

-- a text that is not empty has a line
some_line : (b : ℕ) (rest : List ℕ) → 1 ≤ length (lines (b ∷ rest))
unfolding lines
some_line b [] = cond_some (eqb b 10) ([] ∷ []) _ (omega arith) (cond_some (eqb b 13) ([] ∷ []) ((b ∷ []) ∷ []) (omega arith) (omega arith))
some_line b (c ∷ rest) =
    let more = lines (c ∷ rest) in
    cond_some (eqb b 10) ([] ∷ more) _ (omega arith)
    (cond_some (eqb b 13) _ (onto_first b more) (cond_some (eqb c 10) more ([] ∷ more) (some_line c rest) (omega arith)) (onto_some b more))

abbrev last_of : List ℕ → ℕ
last_of [] = 0
last_of (b ∷ []) = b
last_of (b ∷ c ∷ rest) = last_of (c ∷ rest)

last_at : (text : List ℕ) → get_or text (length text - 1) 0 ≡ last_of text
last_at [] = refl
last_at (b ∷ []) = refl
last_at (b ∷ c ∷ rest) =
    let e : length (b ∷ c ∷ rest) - 1 ≡ suc (length (c ∷ rest) - 1) = omega arith in
    ap (λ (k : ℕ). get_or (b ∷ c ∷ rest) k 0) e ∙ last_at (c ∷ rest)

-- a text of one line that does not end with a line end is that line
single : (text : List ℕ) → length (lines text) ≡ 1 → last_of text ≢ 10 → last_of text ≢ 13 → lines text ≡ text ∷ []
single [] h m n = absurd (let e : length (lines []) ≡ 0 = ap length lines_nil in omega (arith, h, e))
single (b ∷ []) h m n = by (eqb b 10) (eqb b 13) refl refl
  where
    by : (x y : Bool) → eqb b 10 ≡ x → eqb b 13 ≡ y → lines (b ∷ []) ≡ (b ∷ []) ∷ []
    by true y p q = absurd (m (eqb-true b 10 p))
    by false true p q = absurd (n (eqb-true b 13 q))
    by false false p q = at_other b [] p q ∙ ap (onto_first b) lines_nil
single (b ∷ c ∷ rest) h m n = by (λ k. single (c ∷ rest) k m n) (eqb b 10) (eqb b 13) (eqb c 10) refl refl refl
  where
    many : List (List ℕ) → Type 0
    many ls = length ls ≡ 1

    by : (length (lines (c ∷ rest)) ≡ 1 → lines (c ∷ rest) ≡ (c ∷ rest) ∷ []) → (x y z : Bool) → eqb b 10 ≡ x → eqb b 13 ≡ y → eqb c 10 ≡ z → lines (b ∷ c ∷ rest) ≡ (b ∷ c ∷ rest) ∷ []
    by more true y z p q r = absurd (omega (arith, subst many (at_lf b (c ∷ rest) p) h, some_line c rest))
    by more false true true p q r =
        let e : lines (b ∷ c ∷ rest) ≡ lines (c ∷ rest) = at_cr b (c ∷ rest) p q ∙ ap (λ (t : Bool). cond t (lines (c ∷ rest)) ([] ∷ lines (c ∷ rest))) r in
        let one = more (subst many e h) in
        let two = at_lf c rest r in
        absurd (differ c rest (lines rest) (sym one ∙ two))
    by more false true false p q r =
        let e : lines (b ∷ c ∷ rest) ≡ [] ∷ lines (c ∷ rest) = at_cr b (c ∷ rest) p q ∙ ap (λ (t : Bool). cond t (lines (c ∷ rest)) ([] ∷ lines (c ∷ rest))) r in
        absurd (omega (arith, subst many e h, some_line c rest))
    by more false false z p q r =
        let e = at_other b (c ∷ rest) p q in
        let one = more (omega (arith, subst many e h, onto_same b (lines (c ∷ rest)) (some_line c rest))) in
        e ∙ ap (onto_first b) one

-- the statement of such a text
pub one_statement : (line : List ℕ) (count last : ℕ) → count ≡ length (lines line) → count ≡ 1 → last ≡ get_or line (length line - 1) 0 → last ≢ 10 → last ≢ 13
    → ((quads : List QuadParts) × HaveStatements (lines line) quads) → (q : Option QuadParts) × HasStatement line q
one_statement line count last n one l lf cr d =
    let e = single line (omega (arith, n, one)) (λ k. lf (l ∙ last_at line ∙ k)) (λ k. cr (l ∙ last_at line ∙ k)) in
    let has : HaveStatements (line ∷ []) d.0 = subst (λ (y : List (List ℕ)). HaveStatements y d.0) e d.1 in
    (has.0, has.2)

-- ---- blocks of lines

cond_most : (t : Bool) (xs ys : List (List ℕ)) (n : ℕ) → length xs ≤ n → length ys ≤ n → length (cond t xs ys) ≤ n
cond_most true xs ys n h k = h
cond_most false xs ys n h k = k

onto_most : (b : ℕ) (ls : List (List ℕ)) (n : ℕ) → length ls ≤ n → length (onto_first b ls) ≤ n + 1
onto_most b [] n h = omega arith
onto_most b (l ∷ ls) n h = omega (arith, h)

-- a text has no more lines than bytes
pub few_lines : (text : List ℕ) → length (lines text) ≤ length text
unfolding lines
few_lines [] = omega arith
few_lines (b ∷ rest) =
    let more = lines rest in
    let n = length rest in
    let h : length more ≤ n = few_lines rest in
    let least : length more ≤ n + 1 = omega (arith, h) in
    let one : length ([] ∷ more) ≤ n + 1 = omega (arith, h) in
    let e = cond_most (eqb b 10) ([] ∷ more) _ (n + 1) one (cond_most (eqb b 13) _ (onto_first b more) (n + 1) (cond_most (begins_with_lf rest) more ([] ∷ more) (n + 1) least one) (onto_most b more n h)) in
    omega (arith, e)

-- a text and nothing after it
pub whole_text : (text : List ℕ) → lines text ≡ lines text ++ lines []
whole_text text = sym (ap (λ (y : List (List ℕ)). lines text ++ y) lines_nil ∙ append-nil (lines text))

-- a text that is cut after a line feed
pub cut_text : (text front rest : List ℕ) (at : ℕ) → at < length text → get_or text at 0 ≡ 10 → front ≡ take (at + 1) text → rest ≡ drop (at + 1) text → lines text ≡ lines front ++ lines rest
cut_text text front rest at l e f r =
    let joined : text ≡ front ++ rest = sym (take-append-drop (at + 1) text) ∙ ap (λ (y : List ℕ). y ++ drop (at + 1) text) (sym f) ∙ ap (λ (y : List ℕ). front ++ y) (sym r) in
    let ended : front ≡ take at text ++ 10 ∷ [] = f ∙ take_more text at 0 l ∙ ap (λ (b : ℕ). take at text ++ b ∷ []) e in
    ap lines joined ∙ lines_join front rest (inr (take at text, ended))

-- the same, if the line feed is the byte at this place of a part of the text
pub cut_after : (text front rest : List ℕ) (size end at : ℕ) → size ≤ end → end ≤ length text → at < length (take (end - size) (drop size text)) → eqb (get_or (take (end - size) (drop size text)) at 0) 10 ≡ true
    → front ≡ take (size + at + 1) text → rest ≡ drop (size + at + 1) text → lines text ≡ lines front ++ lines rest
cut_after text front rest size end at rising within l e f r =
    let part : at < end - size = omega (arith, l, rising, within, length-take (end - size) (drop size text), length-drop size text) in
    let same : get_or (take (end - size) (drop size text)) at 0 ≡ get_or (drop size text) at 0 = get_or-take (end - size) (drop size text) at 0 part in
    let here : get_or text (size + at) 0 ≡ 10 = sym (get_or-drop size text at 0) ∙ sym same ∙ eqb-true _ _ e in
    cut_text text front rest (size + at) (omega (arith, part, rising, within)) here f r
