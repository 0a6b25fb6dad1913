-- A text that begins with a line as laid out has the statement of its slices in its first line.
use Rattle.std.proofs.Common.{◌≡◌, ℕ, zero, suc, ◌<◌, true, false, eqb, List, [], ◌∷◌, ◌++◌, length, get_or, Option, Some, None, refl, sym, ap, subst, ◌∙◌, append_assoc, append-nil, length-append, arith, lit<, inl, inr, ◌⊎◌}
use Rattle.std.specs.Prelude.{option_copied}
use Rattle.std.specs.List.{list_all}
use Rattle.std.specs.Str.{IsUtf8, chars}
use Rattle.std.proofs.Math.Seq.{take-append_seam}
use Rattle.std.proofs.lemmas.Bool.{eqb-true}
use Rattle.std.proofs.lemmas.Str.{chars-append, chars-nil, IsCharBoundary-before_ascii, IsUtf8-append, IsUtf8-nil, IsUtf8-take}
use Rattle.rdf_core.specs.declared.term.Term.{Term}
use Rattle.rdf_core.specs.QuadParts.{QuadParts}
use Rattle.rdf_core.specs.QuadFacts.{is_node, is_iri, is_graph_name}
use Rattle.rdf_core.specs.Characters.{all_pass}
use Rattle.rdf_core.proofs.EscapeSteps.{eqb_no}
use Rattle.rdf_core.proofs.EscapeLaws.{and_is, and_parts}
use Rattle.nquads_core.specs.declared.slices.RawStatement.{RawStatement}
use Rattle.nquads_core.specs.Terminal.{Terminal, dot, is_blank}
use Rattle.nquads_core.specs.Grammar.{IsEnd, Splits, Subject, iri_subject, blank_subject, Predicate, iri_predicate, Object, iri_object, blank_object, plain_object, typed_object, tagged_object, GraphLabel, no_graph, iri_graph, blank_graph, HasStatement}
use Rattle.nquads_core.specs.Lines.{lines}
use Rattle.nquads_core.specs.Slices.{Denotes}
use Rattle.nquads_core.specs.Splitting.{DenotesGraph, DenotesQuad}
use Rattle.nquads_core.proofs.LineLaws.{run_then}
use Rattle.nquads_core.proofs.Meaning.{OneLine}
use Rattle.nquads_core.proofs.PieceLaws.{NoEnds, last_line, line_lf, line_cr, line_crlf, lines_nil}
use Rattle.nquads_core.proofs.RunLaws.{or_parts}
use Rattle.nquads_core.proofs.TerminalLaws.{at_dot}
use Rattle.nquads_scan.specs.Ends.{HasNoEnd, IsApart}
use Rattle.nquads_scan.specs.Layout.{IsBlanksThen, IsComment, IsCut, IsGraphCut, IsLaidOut, IsLineEndThen, at_text_end, lf, cr, crlf, IsTail, IsStatementThen}
use Rattle.nquads_scan.specs.PlainLines.{FirstLine}
use Rattle.nquads_scan.proofs.ByteLaws.{apart_front, apart_here, blank_ascii, chars_blanks, chars_cons, one_utf8, utf8_after}
use Rattle.nquads_scan.proofs.NoEnds.{no_end, no_end_join}
use Rattle.nquads_scan.proofs.RunSteps.{begins_with, object_runs}

false_true : false ≡ true → ⊥
false_true e = cc

-- ---- terminals after blanks

all_join : (xs ys : List ℕ) → list_all is_blank xs ≡ true → all_pass is_blank ys ≡ true → all_pass is_blank (xs ++ ys) ≡ true
all_join [] ys h k = k
all_join (x ∷ xs) ys h k = let p = and_parts (is_blank x) (list_all is_blank xs) h in and_is (is_blank x) (all_pass is_blank (xs ++ ys)) p.0 (all_join xs ys p.1 k)

after_blanks : (blanks cs : List ℕ) (ks : List Terminal) → list_all is_blank blanks ≡ true → Splits cs ks → Splits (blanks ++ cs) ks
after_blanks blanks cs [] h s = record {
  blanks = blanks ++ s.blanks;
  comment = s.comment;
  parts = ap (λ (y : List ℕ). blanks ++ y) s.parts ∙ sym (append_assoc blanks s.blanks s.comment);
  all_blank = all_join blanks s.blanks h s.all_blank;
  hash = s.hash;
}
after_blanks blanks cs (k ∷ ks) h s =
    let b = s.1 in (
      s.0,
      record {
        blanks = blanks ++ b.blanks;
        word = b.word;
        parts = ap (λ (y : List ℕ). blanks ++ y) b.parts ∙ sym (append_assoc blanks b.blanks (b.word ++ s.0));
        all_blank = all_join blanks b.blanks h b.all_blank;
        terminal = b.terminal;
        longest = b.longest;
      },
      s.2,
    )

blanks_split : (text rest : List ℕ) (ks : List Terminal) → IsBlanksThen text rest → Splits (chars rest) ks → Splits (chars text) ks
blanks_split text rest ks b s =
    subst (λ (y : List ℕ). Splits y ks) (sym (ap chars b.parts ∙ chars_blanks b.blanks rest b.all_blank)) (after_blanks b.blanks (chars rest) ks b.all_blank s)

cut_splits : (text raw rest : List ℕ) (t : Term) (more : List Terminal) (d : Denotes raw t) → IsUtf8 text → IsCut text raw rest → Splits (chars rest) more → Splits (chars text) (d.terminals ++ more)
cut_splits text raw rest t more d u c s =
    let after = utf8_after raw c.after (subst IsUtf8 c.parts u) d.utf8 in
    let e : chars text ≡ chars raw ++ chars c.after = ap chars c.parts ∙ chars-append raw c.after d.utf8 in
    subst (λ (y : List ℕ). Splits y (d.terminals ++ more)) (sym e)
    (run_then (chars raw ++ chars c.after) d.terminals (chars c.after) more (object_runs d.object (chars raw) (chars c.after) d.joins (apart_here raw c.after after c.apart))
    (blanks_split c.after rest more c.blanks s))

dot_splits : (tail : List ℕ) → IsEnd (chars tail) → Splits (chars (46 ∷ tail)) (dot ∷ [])
dot_splits tail h =
    subst (λ (y : List ℕ). Splits y (dot ∷ [])) (sym (chars_cons 46 tail (lit< tt)))
    (chars tail, begins_with (46 ∷ []) (46 ∷ []) [] (chars tail) dot refl refl (at_dot (chars tail)), h)

blanks_utf8 : (blanks : List ℕ) → list_all is_blank blanks ≡ true → IsUtf8 blanks
blanks_utf8 [] h = IsUtf8-nil
blanks_utf8 (b ∷ blanks) h =
    let p = and_parts (is_blank b) (list_all is_blank blanks) h in
    IsUtf8-append (b ∷ []) blanks (one_utf8 b (blank_ascii b p.0)) (blanks_utf8 blanks p.1)

-- what follows a slice and the blanks after it is UTF-8 too
utf8_blanks : (text rest : List ℕ) → IsBlanksThen text rest → IsUtf8 text → IsUtf8 rest
utf8_blanks text rest b u = utf8_after b.blanks rest (subst IsUtf8 b.parts u) (blanks_utf8 b.blanks b.all_blank)

utf8_cut : (text raw rest : List ℕ) (t : Term) → Denotes raw t → IsUtf8 text → IsCut text raw rest → IsUtf8 rest
utf8_cut text raw rest t d u c = utf8_blanks c.after rest c.blanks (utf8_after raw c.after (subst IsUtf8 c.parts u) d.utf8)

-- ---- the places of a statement

subject_of : {ks : List Terminal} {t : Term} → Object ks t → is_node t ≡ true → Subject ks t
subject_of iri_object h = iri_subject
subject_of blank_object h = blank_subject
subject_of plain_object h = absurd cc
subject_of typed_object h = absurd cc
subject_of tagged_object h = absurd cc

predicate_of : {ks : List Terminal} {t : Term} → Object ks t → is_iri t ≡ true → Predicate ks t
predicate_of iri_object h = iri_predicate
predicate_of blank_object h = absurd cc
predicate_of plain_object h = absurd cc
predicate_of typed_object h = absurd cc
predicate_of tagged_object h = absurd cc

graph_label_of : {ks : List Terminal} {t : Term} → Object ks t → is_node t ≡ true → GraphLabel ks (Some t)
graph_label_of iri_object h = iri_graph
graph_label_of blank_object h = blank_graph
graph_label_of plain_object h = absurd cc
graph_label_of typed_object h = absurd cc
graph_label_of tagged_object h = absurd cc

record GraphSplits (text : List ℕ) (name : Option Term) : Type 0 where
  label : List Terminal
  names : GraphLabel label name
  splits : Splits (chars text) (label ++ dot ∷ [])

graph_splits : (graph : Option (List ℕ)) (name : Option Term) (text tail : List ℕ) → IsUtf8 text → IsGraphCut graph text tail → DenotesGraph graph name → is_graph_name name ≡ true → IsEnd (chars tail) → GraphSplits text name
graph_splits None None text tail u c d n h = record { label = []; names = no_graph; splits = subst (λ (y : List ℕ). Splits (chars y) (dot ∷ [])) (sym c) (dot_splits tail h) }
graph_splits None (Some name) text tail u c d n h = absurd d
graph_splits (Some raw) None text tail u c d n h = absurd d
graph_splits (Some raw) (Some name) text tail u c d n h =
    record { label = d.terminals; names = graph_label_of d.object n; splits = cut_splits text raw (46 ∷ tail) name (dot ∷ []) d u c (dot_splits tail h) }

-- ---- a line that is laid out

ten_ends : (b : ℕ) → no_end b ≡ true → b ≡ 10 → ⊥
ten_ends b h e = false_true (ap no_end (sym e) ∙ h)

thirteen_ends : (b : ℕ) → no_end b ≡ true → b ≡ 13 → ⊥
thirteen_ends b h e = false_true (ap no_end (sym e) ∙ h)

-- a line without line ends, by its bytes
one_line_at : (line : List ℕ) (i : ℕ) → HasNoEnd line → i < length line → no_end (get_or line i 0) ≡ true
one_line_at [] i h l = absurd (omega (arith, l))
one_line_at (b ∷ line) zero h l = (and_parts (no_end b) (list_all no_end line) h).0
one_line_at (b ∷ line) (suc i) h l = one_line_at line i (and_parts (no_end b) (list_all no_end line) h).1 (omega (arith, l))

one_line_of : (line : List ℕ) → HasNoEnd line → OneLine line
one_line_of line h = λ i l. (ten_ends (get_or line i 0) (one_line_at line i h l), thirteen_ends (get_or line i 0) (one_line_at line i h l))

pub laid_out_statement : (line : List ℕ) (start : List ℕ) (raw : RawStatement) (tail : List ℕ) (q : QuadParts) → IsUtf8 line → IsBlanksThen line start → IsLaidOut start raw tail → IsEnd (chars tail) → HasNoEnd line → DenotesQuad raw q → HasStatement line (Some q)
laid_out_statement line start raw tail q u b h end n d =
    let u0 = utf8_blanks line start b u in
    let u1 = utf8_cut start raw.subject.now h.predicate q.s d.subject u0 h.s in
    let u2 = utf8_cut h.predicate raw.predicate.now h.object q.p d.predicate u1 h.p in
    let u3 = utf8_cut h.object raw.object.now h.graph q.o d.object u2 h.o in
    let g = graph_splits (option_copied raw.graph) q.g h.graph tail u3 h.g d.graph d.graph_name end in
    let ks_o = d.object.terminals ++ (g.label ++ dot ∷ []) in
    let ks_p = d.predicate.terminals ++ ks_o in
    let ks = d.subject.terminals ++ ks_p in
    let o_splits = cut_splits h.object raw.object.now h.graph q.o (g.label ++ dot ∷ []) d.object u2 h.o g.splits in
    let p_splits = cut_splits h.predicate raw.predicate.now h.object q.p ks_o d.predicate u1 h.p o_splits in
    let s_splits = cut_splits start raw.subject.now h.predicate q.s ks_p d.subject u0 h.s p_splits in
    record {
      utf8 = u;
      one_line = one_line_of line n;
      terminals = ks;
      splits = blanks_split line start ks b s_splits;
      derives = record {
        s = d.subject.terminals;
        p = d.predicate.terminals;
        o = d.object.terminals;
        g = g.label;
        parts = refl;
        subject = subject_of d.subject.object d.node;
        predicate = predicate_of d.predicate.object d.iri;
        object = d.object.object;
        graph = g.names;
      };
    }

-- ---- a text that begins with the line

blanks_in : (text rest l end : List ℕ) → IsBlanksThen text rest → rest ≡ l ++ end → (line : List ℕ) × (text ≡ line ++ end) × IsBlanksThen line l
blanks_in text rest l end b e =
    (b.blanks ++ l, b.parts ∙ ap (λ (y : List ℕ). b.blanks ++ y) e ∙ sym (append_assoc b.blanks l end), record { blanks = b.blanks; parts = refl; all_blank = b.all_blank })

cut_in : (text raw rest l end : List ℕ) → IsCut text raw rest → rest ≡ l ++ end → (line : List ℕ) × (text ≡ line ++ end) × IsCut line raw l
cut_in text raw rest l end c e =
    let b = blanks_in c.after rest l end c.blanks e in (
      raw ++ b.0,
      c.parts ∙ ap (λ (y : List ℕ). raw ++ y) b.1 ∙ sym (append_assoc raw b.0 end),
      record { after = b.0; parts = refl; apart = apart_front raw b.0 end (subst (IsApart raw) b.1 c.apart); kept = c.kept; blanks = b.2 },
    )

graph_in : (graph : Option (List ℕ)) (text rest l end : List ℕ) → IsGraphCut graph text rest → rest ≡ l ++ end → (line : List ℕ) × (text ≡ line ++ end) × IsGraphCut graph line l
graph_in None text rest l end c e = (46 ∷ l, c ∙ ap (λ (y : List ℕ). 46 ∷ y) e, refl)
graph_in (Some raw) text rest l end c e = cut_in text raw (46 ∷ rest) (46 ∷ l) end c (ap (λ (y : List ℕ). 46 ∷ y) e)

laid_out_in : (text : List ℕ) (raw : RawStatement) (rest l end : List ℕ) → IsLaidOut text raw rest → rest ≡ l ++ end → (line : List ℕ) × (text ≡ line ++ end) × IsLaidOut line raw l
laid_out_in text raw rest l end h e =
    let g = graph_in (option_copied raw.graph) h.graph rest l end h.g e in
    let o = cut_in h.object raw.object.now h.graph g.0 end h.o g.1 in
    let p = cut_in h.predicate raw.predicate.now h.object o.0 end h.p o.1 in
    let s = cut_in text raw.subject.now h.predicate p.0 end h.s p.1 in
    (s.0, s.1, record { predicate = p.0; object = o.0; graph = g.0; s = s.2; p = p.2; o = o.2; g = g.2 })

-- ---- no line end in the line

blanks_kept : (blanks : List ℕ) → list_all is_blank blanks ≡ true → HasNoEnd blanks
blanks_kept [] h = refl
blanks_kept (b ∷ blanks) h =
    let p = and_parts (is_blank b) (list_all is_blank blanks) h in
    no_end_join (b ∷ []) blanks (elim (or_parts (eqb b 32) (eqb b 9) p.0) [ inl e ↦ rw (eqb-true b 32 e) refl | inr e ↦ rw (eqb-true b 9 e) refl ]) (blanks_kept blanks p.1)

before_kept : (text rest : List ℕ) → IsBlanksThen text rest → HasNoEnd rest → HasNoEnd text
before_kept text rest b h = subst HasNoEnd (sym b.parts) (no_end_join b.blanks rest (blanks_kept b.blanks b.all_blank) h)

cut_kept : (text raw rest : List ℕ) → IsCut text raw rest → HasNoEnd rest → HasNoEnd text
cut_kept text raw rest c h = subst HasNoEnd (sym c.parts) (no_end_join raw c.after c.kept (before_kept c.after rest c.blanks h))

dot_kept : (tail : List ℕ) → HasNoEnd tail → HasNoEnd (46 ∷ tail)
dot_kept tail h = no_end_join (46 ∷ []) tail refl h

graph_kept : (graph : Option (List ℕ)) (text tail : List ℕ) → IsGraphCut graph text tail → HasNoEnd tail → HasNoEnd text
graph_kept None text tail c h = subst HasNoEnd (sym c) (dot_kept tail h)
graph_kept (Some raw) text tail c h = cut_kept text raw (46 ∷ tail) c (dot_kept tail h)

laid_out_kept : (text : List ℕ) (raw : RawStatement) (tail : List ℕ) → IsLaidOut text raw tail → HasNoEnd tail → HasNoEnd text
laid_out_kept text raw tail h n =
    let g = graph_kept (option_copied raw.graph) h.graph tail h.g n in
    let o = cut_kept h.object raw.object.now h.graph h.o g in
    let p = cut_kept h.predicate raw.predicate.now h.object h.p o in
    cut_kept text raw.subject.now h.predicate h.s p

-- ---- the end of the line

-- the text is the rest of a line, which has no statement, and then the line end
record EndsLineHere (text rest : List ℕ) : Type 0 where
  line : List ℕ
  eol : List ℕ
  parts : text ≡ line ++ eol
  kept : HasNoEnd line
  end : IsEnd (chars line)
  closes : IsLineEndThen eol rest

comment_kept : (comment : List ℕ) → IsComment comment → HasNoEnd comment
comment_kept comment (inl e) = subst HasNoEnd (sym e) refl
comment_kept comment (inr h) = subst HasNoEnd (sym h.1) (no_end_join (35 ∷ []) h.0 refl h.2)

hash_chars : (comment : List ℕ) → IsComment comment → (chars comment ≡ []) ⊎ ((words : List ℕ) × (chars comment ≡ 35 ∷ words))
hash_chars comment (inl e) = inl (ap chars e ∙ chars-nil)
hash_chars comment (inr h) = inr (chars h.0, ap chars h.1 ∙ chars_cons 35 h.0 (lit< tt))

blank_pass : (blanks : List ℕ) → list_all is_blank blanks ≡ true → all_pass is_blank blanks ≡ true
blank_pass blanks h = ap (all_pass is_blank) (sym (append-nil blanks)) ∙ all_join blanks [] h refl

tail_ends : (text rest : List ℕ) → IsTail text rest → EndsLineHere text rest
tail_ends text rest t =
    let b = t.first in
    let c = t.second in
    record {
      line = b.blanks ++ c.comment;
      eol = t.eol;
      parts = b.parts ∙ ap (λ (y : List ℕ). b.blanks ++ y) c.parts ∙ sym (append_assoc b.blanks c.comment t.eol);
      kept = no_end_join b.blanks c.comment (blanks_kept b.blanks b.all_blank) (comment_kept c.comment c.is);
      end = record { blanks = b.blanks; comment = chars c.comment; parts = chars_blanks b.blanks c.comment b.all_blank; all_blank = blank_pass b.blanks b.all_blank; hash = hash_chars c.comment c.is };
      closes = t.third;
    }

-- ---- lines

ends_kept : (line : List ℕ) → HasNoEnd line → NoEnds line
ends_kept [] h = tt
ends_kept (b ∷ line) h =
    let p = and_parts (no_end b) (list_all no_end line) h in
    (eqb_no b 10 (ten_ends b p.0), eqb_no b 13 (thirteen_ends b p.0), ends_kept line p.1)

-- the lines of a text that begins with this line
lines_then : (line eol rest : List ℕ) → HasNoEnd line → IsLineEndThen eol rest → 0 < length (line ++ eol) → lines (line ++ eol) ≡ line ∷ lines rest
lines_then [] eol rest n at_text_end l = absurd (omega (arith, l))
lines_then (b ∷ line) eol rest n at_text_end l =
    ap lines (append-nil (b ∷ line)) ∙ last_line b line (ends_kept (b ∷ line) n) ∙ ap (λ (y : List (List ℕ)). (b ∷ line) ∷ y) (sym lines_nil)
lines_then line eol rest n lf l = line_lf line rest (ends_kept line n)
lines_then line eol rest n (cr h) l = line_cr line rest (ends_kept line n) h
lines_then line eol rest n crlf l = line_crlf line rest (ends_kept line n)

seam : (line : List ℕ) (b : ℕ) (rest : List ℕ) → get_or (line ++ b ∷ rest) (length line) 0 ≡ b
seam [] b rest = refl
seam (c ∷ line) b rest = seam line b rest

-- the text up to an ASCII byte
utf8_before : (line : List ℕ) (b : ℕ) (rest : List ℕ) → b < 128 → IsUtf8 (line ++ b ∷ rest) → IsUtf8 line
utf8_before line b rest l u =
    let inside : length line < length (line ++ b ∷ rest) = omega (arith, length-append line (b ∷ rest)) in
    let here : get_or (line ++ b ∷ rest) (length line) 0 ≡ b = seam line b rest in
    let boundary = IsCharBoundary-before_ascii (line ++ b ∷ rest) (length line) inside (rw here l) in
    subst IsUtf8 (take-append_seam line (b ∷ rest)) (IsUtf8-take (line ++ b ∷ rest) (length line) u boundary)

utf8_line : (line eol rest : List ℕ) → IsLineEndThen eol rest → IsUtf8 (line ++ eol) → IsUtf8 line
utf8_line line eol rest at_text_end u = subst IsUtf8 (append-nil line) u
utf8_line line eol rest lf u = utf8_before line 10 rest (lit< tt) u
utf8_line line eol rest (cr h) u = utf8_before line 13 rest (lit< tt) u
utf8_line line eol rest crlf u = utf8_before line 13 (10 ∷ rest) (lit< tt) u

pub blank_line : (text rest : List ℕ) → IsUtf8 text → 0 < length text → IsTail text rest → FirstLine text rest None
blank_line text rest u l t =
    let e = tail_ends text rest t in
    let utf8 = utf8_line e.line e.eol rest e.closes (subst IsUtf8 e.parts u) in
    record {
      line = e.line;
      parts = ap lines e.parts ∙ lines_then e.line e.eol rest e.kept e.closes (subst (λ (y : List ℕ). 0 < length y) e.parts l);
      statement = record { utf8 = utf8; one_line = one_line_of e.line e.kept; terminals = []; splits = e.end; derives = refl };
    }

-- the first line of the text, and what it holds if the slices denote terms
pub record FirstStatement (text rest : List ℕ) (raw : RawStatement) : Type 0 where
  pub line : List ℕ
  pub parts : lines text ≡ line ∷ lines rest
  pub statement : (q : QuadParts) → DenotesQuad raw q → HasStatement line (Some q)

pub first_statement : (text : List ℕ) (raw : RawStatement) (rest : List ℕ) → IsUtf8 text → 0 < length text → IsStatementThen text raw rest → FirstStatement text rest raw
first_statement text raw rest u l h =
    let e = tail_ends h.tail rest h.end in
    let s = laid_out_in h.start raw h.tail e.line e.eol h.layout e.parts in
    let b = blanks_in text h.start s.0 e.eol h.lead s.1 in
    let whole = subst IsUtf8 b.1 u in
    let utf8 = utf8_line b.0 e.eol rest e.closes whole in
    let kept = before_kept b.0 s.0 b.2 (laid_out_kept s.0 raw e.line s.2 e.kept) in
    record {
      line = b.0;
      parts = ap lines b.1 ∙ lines_then b.0 e.eol rest kept e.closes (subst (λ (y : List ℕ). 0 < length y) b.1 l);
      statement = λ q d. laid_out_statement b.0 s.0 raw e.line q utf8 b.2 s.2 e.end kept d;
    }

pub statement_line : (text : List ℕ) (raw : RawStatement) (rest : List ℕ) (q : QuadParts) → IsUtf8 text → 0 < length text → IsStatementThen text raw rest → DenotesQuad raw q → FirstLine text rest (Some q)
statement_line text raw rest q u l h d =
    let f = first_statement text raw rest u l h in
    record { line = f.line; parts = f.parts; statement = f.statement q d }
