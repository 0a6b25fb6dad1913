-- A beginning of a line that is read, and the exact place after it.
use Rattle.std.proofs.Common.{◌≡◌, ℕ, ◌+◌, ◌<◌, ◌≤◌, true, false, eqb, List, [], ◌∷◌, ◌++◌, length, take, drop, slice_index, Option, Some, None, refl, sym, ap, subst, ◌∙◌, inl, inr, ◌⊎◌, arith, append_assoc, length-append}
use Rattle.std.specs.Prelude.{MatchOption}
use Rattle.std.specs.Str.{IsUtf8, IsValidUpTo, NonePass, all_scalars, chars, encode_utf8_all}
use lib.Utf8.{scalar, encode}
use Rattle.std.proofs.lemmas.Bool.{cases_lt, eqb-true}
use Rattle.std.proofs.lemmas.List.{append-nil, length-drop, length-take-le, take-append-le, take-append-drop, get_or-append-add}
use Rattle.std.proofs.lemmas.Str.{NoCharPasses-byte, chars-append, chars-encodes, encode_ascii, encodes-append, encodes-chars, length-encode, len_utf8_bounds, scalars-chars}
use Rattle.std.proofs.Math.Seq.{take-append_seam, drop-append_seam, drop-length, take-length}
use Rattle.std.proofs.lemmas.Option.{same_Some, slice_get_within}
use Rattle.rdf_core.proofs.EscapeSteps.{which}
use Rattle.rdf_core.proofs.EscapeLaws.{and_is, and_parts}
use Rattle.rdf_core.specs.QuadParts.{QuadParts}
use Rattle.nquads_core.specs.Grammar.{HasStatement, IsMalformed}
use Rattle.nquads_core.specs.LineParser.{line_at}
use Rattle.nquads_core.proofs.LineLaws.{Reads, line_sound}
use Rattle.nquads_core.proofs.Meaning.{OneLine, read_again}
use Rattle.nquads_core.proofs.RunLaws.{or_parts}
use Rattle.line_diagnosis.specs.declared.diagnosis.Counted.TheVariants.{Bytes, Characters}
use Rattle.line_diagnosis.specs.declared.diagnosis.Diagnosis.{Diagnosis}
use Rattle.line_diagnosis.specs.declared.diagnosis.Walk.{Walk}
use Rattle.line_diagnosis.specs.declared.reason.Next.TheVariants as next
use Rattle.line_diagnosis.specs.declared.reason.Reason.{Reason}
use Rattle.line_diagnosis.specs.declared.reason.Reason.TheVariants.{InvalidUtf8, CutCharacter, ByteOrderMark, Utf16, Packed}
use Rattle.line_diagnosis.specs.declared.state.State.{State}
use Rattle.line_diagnosis.specs.declared.state.State.TheVariants as state
use Rattle.line_diagnosis.specs.Column.{column_of}
use Rattle.line_diagnosis.specs.Explained.{IsExplained}
use Rattle.line_diagnosis.specs.Front.{IsEndReason, IsFirstReason, IsLongestText, IsStopped, IsTextEnd, IsWalk}
use Rattle.line_diagnosis.specs.StateAfter.{IsStateAfter, is_line_break}
use Rattle.line_diagnosis.specs.Place.{IsPlace, IsLinePrefix, IsWellFormed}
use Rattle.line_diagnosis.specs.Reasons.{IsBroken, IsReason, IsTextReason}
use Rattle.line_diagnosis.specs.Rest.{Accepts, IsStep}
use Rattle.line_diagnosis.specs.Says.{Says}
use Rattle.line_diagnosis.specs.Turn.{part, Completes}
use Rattle.line_diagnosis.proofs.LineTurns.{line_completes, line_read}
use Rattle.line_diagnosis.proofs.LiveLaws.{live}
use Rattle.line_diagnosis.proofs.EndLaws.{does_not_end, ends}

-- ---- line breaks, in bytes and in characters

break_parts : (c : ℕ) → is_line_break c ≡ true → (c ≡ 10) ⊎ (c ≡ 13)
break_parts c h = elim (or_parts (eqb c 10) (eqb c 13) h) [
  | inl e ↦ inl (eqb-true c 10 e)
  | inr e ↦ inr (eqb-true c 13 e)
]

first_byte : (c : ℕ) (cs : List ℕ) → c < 128 → slice_index (encode_utf8_all (c ∷ cs)) 0 ≡ c
first_byte c cs h = rw (encode_ascii c h) refl

no_break : (c : ℕ) (cs : List ℕ) → OneLine (encode_utf8_all (c ∷ cs)) → is_line_break c ≡ false
no_break c cs o = elim (which (is_line_break c)) [
  | inl h ↦
      let long : 0 < length (encode_utf8_all (c ∷ cs)) = omega (arith, length-append (encode c) (encode_utf8_all cs), length-encode c, len_utf8_bounds c) in
      elim (break_parts c h) [
        | inl e ↦ absurd ((o 0 long).0 (first_byte c cs (omega (arith, e)) ∙ e))
        | inr e ↦ absurd ((o 0 long).1 (first_byte c cs (omega (arith, e)) ∙ e))
      ]
  | inr h ↦ h
]

one_line_rest : (front rest : List ℕ) → OneLine (front ++ rest) → OneLine rest
one_line_rest front rest o = λ i l.
    let inside : length front + i < length (front ++ rest) = omega (arith, length-append front rest) in
    let p = o (length front + i) inside in
    let same : slice_index (front ++ rest) (length front + i) ≡ slice_index rest i = get_or-append-add front rest i 0 in
    (λ e. p.0 (same ∙ e), λ e. p.1 (same ∙ e))

plain_chars : (cs : List ℕ) → OneLine (encode_utf8_all cs) → NonePass is_line_break cs
plain_chars [] o = tt
plain_chars (c ∷ cs) o = (no_break c cs o, plain_chars cs (one_line_rest (encode c) (encode_utf8_all cs) o))

one_line_of : (line cs : List ℕ) → encode_utf8_all cs ≡ line → NonePass is_line_break cs → OneLine line
one_line_of line cs e n = λ i l. (
  λ k. let t = NoCharPasses-byte is_line_break line i (cs, e, n) l (omega (arith, k)) in let no : ⊥ = cc (sym t ∙ ap is_line_break k) in no,
  λ k. let t = NoCharPasses-byte is_line_break line i (cs, e, n) l (omega (arith, k)) in let no : ⊥ = cc (sym t ∙ ap is_line_break k) in no,
)

plain_more : (front rest : List ℕ) → NonePass is_line_break front → NonePass is_line_break rest → NonePass is_line_break (front ++ rest)
plain_more [] rest h r = r
plain_more (c ∷ front) rest h r = (h.0, plain_more front rest h.1 r)

plain_rest : (front rest : List ℕ) → NonePass is_line_break (front ++ rest) → NonePass is_line_break rest
plain_rest [] rest h = h
plain_rest (c ∷ front) rest h = plain_rest front rest h.1

-- ---- beginnings of lines

abbrev Starts : List ℕ → Type 0
Starts cs = Accepts (state.Between next.Subject) cs

-- what follows the characters of a beginning in some line
record Continued (front : List ℕ) : Type 0 where
  rest : List ℕ
  plain : NonePass is_line_break (chars front ++ rest)
  starts : Starts (chars front ++ rest)

continued : (front : List ℕ) → IsUtf8 front → IsLinePrefix front → Continued front
continued front u h =
    let s = h.whole.statement in
    let parts = chars-append front h.rest u in
    let start = line_completes (chars (front ++ h.rest)) h.whole.meaning (read_again (front ++ h.rest) h.whole.meaning s) in
    let one : OneLine (encode_utf8_all (chars (front ++ h.rest))) = subst OneLine (sym (encodes-chars (front ++ h.rest) s.utf8)) s.one_line in
    record {
      rest = chars h.rest;
      plain = subst (NonePass is_line_break) parts (plain_chars (chars (front ++ h.rest)) one);
      starts = subst (Completes (part next.Subject)) parts start;
    }

scalars_join : (front rest : List ℕ) → all_scalars front ≡ true → all_scalars rest ≡ true → all_scalars (front ++ rest) ≡ true
scalars_join [] rest h r = r
scalars_join (c ∷ front) rest h r =
    let p = and_parts (scalar c) (all_scalars front) h in
    and_is (scalar c) (all_scalars (front ++ rest)) p.0 (scalars_join front rest p.1 r)

well_formed : (cs : List ℕ) → all_scalars cs ≡ true → NonePass is_line_break cs → Starts cs → IsWellFormed (encode_utf8_all cs)
well_formed cs u n s =
    let line = encode_utf8_all cs in
    let same : chars line ≡ cs = chars-encodes cs u in
    let y = line_read cs s in
    let r : Reads (chars line) y.0 = line_sound (chars line) y.0 (ap line_at same ∙ y.1) in
    record {
      meaning = y.0;
      statement = record { utf8 = (cs, (u, refl)); one_line = one_line_of line cs refl n; terminals = r.terminals; splits = r.splits; derives = r.derives };
    }

begins_line : (front rest : List ℕ) → all_scalars front ≡ true → all_scalars rest ≡ true → NonePass is_line_break front → NonePass is_line_break rest → Starts (front ++ rest) → IsLinePrefix (encode_utf8_all front)
begins_line front rest u v n m s = record {
  rest = encode_utf8_all rest;
  whole = subst IsWellFormed (encodes-append front rest) (well_formed (front ++ rest) (scalars_join front rest u v) (plain_more front rest n m) s);
}

-- ---- the steps of the walk

start_after : IsStateAfter [] (state.Between next.Subject)
start_after = record { plain = tt; forth = λ cs h. h; back = λ cs h. h; can_end = tt }

plain_last : (front : List ℕ) (c : ℕ) → NonePass is_line_break front → is_line_break c ≡ false → NonePass is_line_break (front ++ c ∷ [])
plain_last [] c h b = (b, tt)
plain_last (d ∷ front) c h b = (h.0, plain_last front c h.1 b)

step_after : (front : List ℕ) (c : ℕ) (s t : State) → is_line_break c ≡ false → IsStep (Accepts s) c t → IsStateAfter front s → IsStateAfter (front ++ c ∷ []) t
step_after front c s t b h a = record {
  plain = plain_last front c a.plain b;
  forth = λ cs g. h.forth cs (a.forth (c ∷ cs) (subst Starts (append_assoc front (c ∷ []) cs) g));
  back = λ cs g. subst Starts (sym (append_assoc front (c ∷ []) cs)) (a.back (c ∷ cs) (h.back cs g));
  can_end = h.can_end;
}

-- the text up to here is read
pub record IsFront (text rest : List ℕ) (s : State) : Type 0 where
  pub utf8 : IsUtf8 rest
  pub front : List ℕ
  pub parts : chars text ≡ front ++ chars rest
  pub after : IsStateAfter front s

pub front_first : (text : List ℕ) → IsUtf8 text → IsFront text text (state.Between next.Subject)
front_first text u = record { utf8 = u; front = []; parts = refl; after = start_after }

pub front_next : (text rest new : List ℕ) (c : ℕ) (s t : State) → IsUtf8 new → chars rest ≡ c ∷ chars new → (is_line_break c ≡ false) × IsStep (Accepts s) c t → IsFront text rest s → IsFront text new t
front_next text rest new c s t u e h f = record {
  utf8 = u;
  front = f.front ++ c ∷ [];
  parts = f.parts ∙ ap (λ (y : List ℕ). f.front ++ y) e ∙ sym (append_assoc f.front (c ∷ []) (chars new));
  after = step_after f.front c s t h.0 h.1 f.after;
}

pub front_length : (text rest : List ℕ) (s : State) → IsUtf8 text → (f : IsFront text rest s) → length (encode_utf8_all f.front) + length rest ≡ length text
front_length text rest s u f =
    let whole : text ≡ encode_utf8_all f.front ++ rest =
    sym (encodes-chars text u) ∙ ap encode_utf8_all f.parts ∙ encodes-append f.front (chars rest) ∙ ap (λ (y : List ℕ). encode_utf8_all f.front ++ y) (encodes-chars rest f.utf8) in
    omega (arith, ap length whole, length-append (encode_utf8_all f.front) rest)

first_same : (a b : ℕ) (xs ys : List ℕ) → ◌≡◌ {A = List ℕ} (a ∷ xs) (b ∷ ys) → a ≡ b
first_same a b xs ys e = cc

stopped_at : (s : State) (c : ℕ) (others back : List ℕ) (o : Option Reason) (r : Reason) → o ≡ Some r → back ≡ c ∷ others → Says s (Some c) r → IsStopped s back o
stopped_at s c others back o r e h k = subst (IsStopped s back) (sym e) (c, others, h, k)

stopped_never : (s : State) (back : List ℕ) (o : Option Reason) → o ≡ None → back ≡ [] → IsStopped s back o
stopped_never s back o e h = subst (IsStopped s back) (sym e) h

pub walk_stops : (text rest new : List ℕ) (c : ℕ) (w : Walk) (r : Reason) → IsUtf8 text → chars rest ≡ c ∷ chars new → (f : IsFront text rest w.state) → w.offset + length rest ≡ length text
    → w.reason ≡ Some r → Says w.state (Some c) r → ((cs : List ℕ) → NonePass is_line_break (c ∷ cs) → Accepts w.state (c ∷ cs) → ⊥) → IsWalk text w
walk_stops text rest new c w r u e f o x y n = record {
  front = f.front;
  back = chars rest;
  parts = f.parts;
  offset = omega (arith, front_length text rest w.state u f);
  after = f.after;
  stops = λ d others cs k p g.
      let same = first_same d c others (chars new) (sym k ∙ e) in
      n cs (subst (λ (z : ℕ). NonePass is_line_break (z ∷ cs)) same p) (subst (λ (z : ℕ). Accepts w.state (z ∷ cs)) same g);
  stopped = stopped_at w.state c (chars new) (chars rest) w.reason r x e y;
}

no_first : (d : ℕ) (others : List ℕ) → ◌≡◌ {A = List ℕ} [] (d ∷ others) → ⊥
no_first d others e = cc

pub walk_ends : (text rest : List ℕ) (w : Walk) → IsUtf8 text → chars rest ≡ [] → (f : IsFront text rest w.state) → w.offset ≡ length text → w.reason ≡ None → IsWalk text w
walk_ends text rest w u e f o x =
    let empty : length rest ≡ 0 = ap length (sym (encodes-chars rest f.utf8)) ∙ ap (λ (y : List ℕ). length (encode_utf8_all y)) e in
    record {
      front = f.front;
      back = chars rest;
      parts = f.parts;
      offset = omega (arith, front_length text rest w.state u f);
      after = f.after;
      stops = λ d others cs k p g. no_first d others (sym e ∙ k);
      stopped = stopped_never w.state (chars rest) w.reason x e;
    }

-- ---- the exact place

whole_prefix : (line : List ℕ) (q : Option QuadParts) → HasStatement line q → IsLinePrefix line
whole_prefix line q s = record { rest = []; whole = subst IsWellFormed (sym (append-nil line)) (record { meaning = q; statement = s }) }

front_text : (text front back : List ℕ) → IsUtf8 text → chars text ≡ front ++ back → text ≡ encode_utf8_all front ++ encode_utf8_all back
front_text text front back u e = sym (encodes-chars text u) ∙ ap encode_utf8_all e ∙ encodes-append front back

scalars_front : (front back : List ℕ) → all_scalars (front ++ back) ≡ true → all_scalars front ≡ true
scalars_front [] back h = refl
scalars_front (c ∷ front) back h =
    let p = and_parts (scalar c) (all_scalars (front ++ back)) h in
    and_is (scalar c) (all_scalars front) p.0 (scalars_front front back p.1)

-- one more character of the longer of two beginnings
record Longer (front back ps tail : List ℕ) : Type 0 where
  c : ℕ
  others : List ℕ
  longer : ps ≡ front ++ c ∷ others
  next : back ≡ c ∷ others ++ tail

cons_parts : (a b : ℕ) (xs ys : List ℕ) → ◌≡◌ {A = List ℕ} (a ∷ xs) (b ∷ ys) → (a ≡ b) × (xs ≡ ys)
cons_parts a b xs ys e = (cc, cc)

-- the same after one character that both have
longer_after : {f c : ℕ} {front back ps tail : List ℕ} → f ≡ c → Longer front back ps tail → Longer (f ∷ front) back (c ∷ ps) tail
longer_after {f} {c} {front} {back} {ps} {tail} e m = record {
  c = m.c;
  others = m.others;
  longer = ap (λ (y : List ℕ). c ∷ y) m.longer ∙ ap (λ (x : ℕ). x ∷ front ++ m.c ∷ m.others) (sym e);
  next = m.next;
}

longer : (front back ps tail : List ℕ) → front ++ back ≡ ps ++ tail → length (encode_utf8_all front) < length (encode_utf8_all ps) → Longer front back ps tail
longer [] back [] tail e l = absurd (omega arith)
longer [] back (c ∷ ps) tail e l = record { c = c; others = ps; longer = refl; next = e }
longer (f ∷ front) back [] tail e l = absurd (omega arith)
longer (f ∷ front) back (c ∷ ps) tail e l =
    let p = cons_parts f c (front ++ back) (ps ++ tail) e in
    let size : length (encode f) ≡ length (encode c) = ap (λ (x : ℕ). length (encode x)) p.0 in
    longer_after p.0
    (longer front back ps tail p.1 (omega (arith, size, l, length-append (encode f) (encode_utf8_all front), length-append (encode c) (encode_utf8_all ps))))

in_text : (line text : List ℕ) (n : ℕ) → IsLongestText line text → n ≤ length line → IsUtf8 (take n line) → n ≤ length text
in_text line text n t l u = elim (cases_lt (length text) n) [
  | inl long ↦ absurd (t.longest n long l u)
  | inr short ↦ short
]

-- the characters of a text, split in two ways
both_parts : (text front back P rest : List ℕ) → chars text ≡ front ++ back → text ≡ P ++ rest → IsUtf8 P → front ++ back ≡ chars P ++ chars rest
both_parts text front back P rest parts whole u = sym parts ∙ ap chars whole ∙ chars-append P rest u

-- no line begins with more of a text than the walk has read
no_longer_front : (P rest text : List ℕ) (w : Walk) → IsWalk text w → text ≡ P ++ rest → IsUtf8 P → w.offset < length P → IsLinePrefix P → ⊥
no_longer_front P rest text w k whole u o h =
    let more = longer k.front k.back (chars P) (chars rest) (both_parts text k.front k.back P rest k.parts whole u)
    (omega (arith, k.offset, ap length (encodes-chars P u), o)) in
    let c = continued P u h in
    let moved : chars P ++ c.rest ≡ k.front ++ more.c ∷ (more.others ++ c.rest) = ap (λ (y : List ℕ). y ++ c.rest) more.longer ∙ append_assoc k.front (more.c ∷ more.others) c.rest in
    k.stops more.c (more.others ++ chars rest) (more.others ++ c.rest) more.next
    (plain_rest k.front (more.c ∷ (more.others ++ c.rest)) (subst (NonePass is_line_break) moved c.plain))
    (k.after.forth (more.c ∷ (more.others ++ c.rest)) (subst Starts moved c.starts))

no_longer : (line text : List ℕ) (w : Walk) (n : ℕ) → IsLongestText line text → IsWalk text w → w.offset < n → n ≤ length line → IsUtf8 (take n line) → IsLinePrefix (take n line) → ⊥
no_longer line text w n t k o l u h =
    let same : take n line ≡ take n text = ap (take n) t.parts ∙ take-append-le n text t.rest (in_text line text n t l u) in
    let whole : text ≡ take n line ++ drop n text = sym (take-append-drop n text) ∙ ap (λ (y : List ℕ). y ++ drop n text) (sym same) in
    no_longer_front (take n line) (drop n text) text w k whole u (omega (arith, length-take-le n line l, o)) h

pub walk_place : (line text : List ℕ) (w : Walk) → IsLongestText line text → IsWalk text w → IsPlace line w.offset
walk_place line text w t k =
    let front : List ℕ = encode_utf8_all k.front in
    let parts : text ≡ front ++ encode_utf8_all k.back = front_text text k.front k.back t.utf8 k.parts in
    let split : line ≡ front ++ (encode_utf8_all k.back ++ t.rest) = t.parts ∙ ap (λ (y : List ℕ). y ++ t.rest) parts ∙ append_assoc front (encode_utf8_all k.back) t.rest in
    let taken : take w.offset line ≡ front = ap (λ (n : ℕ). take n line) k.offset ∙ ap (take (length front)) split ∙ take-append_seam front (encode_utf8_all k.back ++ t.rest) in
    let scalars : all_scalars k.front ≡ true = scalars_front k.front k.back (ap all_scalars (sym k.parts) ∙ scalars-chars text t.utf8) in
    let l = live w.state k.after.can_end in
    record {
      in_line = omega (arith, k.offset, ap length split, length-append front (encode_utf8_all k.back ++ t.rest));
      characters = subst IsUtf8 (sym taken) (k.front, (scalars, refl));
      beginning = subst IsLinePrefix (sym taken) (begins_line k.front l.text scalars l.scalars k.after.plain l.plain (k.after.back l.text l.is));
      longest = λ n o m u h. no_longer line text w n t k o m u h;
    }

-- the longest beginning that is UTF-8, as the bytes up to the place of the error
pub front_of : (line text : List ℕ) (n : ℕ) → IsValidUpTo line n → text ≡ take n line → IsLongestText line text
front_of line text n v e =
    let size : length text ≡ n = ap length e ∙ length-take-le n line (omega (arith, v.short)) in
    record {
      rest = drop n line;
      parts = sym (take-append-drop n line) ∙ ap (λ (y : List ℕ). y ++ drop n line) (sym e);
      utf8 = subst IsUtf8 (sym e) v.front;
      longest = λ m h k u. v.longest m (omega (arith, size, h)) u;
    }

-- ---- the reason

-- what a reason of text says is a reason of the line
text_reason : (line : List ℕ) (offset : ℕ) (r : Reason) → IsTextReason line offset r → IsReason line offset r
text_reason line offset (InvalidUtf8 byte) t = absurd t.says
text_reason line offset CutCharacter t = absurd t.says
text_reason line offset ByteOrderMark t = absurd t.says
text_reason line offset Utf16 t = absurd t.says
text_reason line offset (Packed packing) t = absurd t.says
text_reason line offset _ t = t

broken_reason : (line : List ℕ) (offset : ℕ) (r : Reason) → IsBroken line offset r → IsReason line offset r
broken_reason line offset (InvalidUtf8 byte) b = b
broken_reason line offset CutCharacter b = b
broken_reason line offset _ b = absurd b

-- the line, split at the place
record Split (line text : List ℕ) (w : Walk) (k : IsWalk text w) : Type 0 where
  rest : List ℕ
  before : take w.offset line ≡ encode_utf8_all k.front
  after : drop w.offset line ≡ encode_utf8_all k.back ++ rest

split_at : (line text : List ℕ) (w : Walk) → IsLongestText line text → (k : IsWalk text w) → Split line text w k
split_at line text w t k =
    let front : List ℕ = encode_utf8_all k.front in
    let parts : text ≡ front ++ encode_utf8_all k.back = front_text text k.front k.back t.utf8 k.parts in
    let split : line ≡ front ++ (encode_utf8_all k.back ++ t.rest) = t.parts ∙ ap (λ (y : List ℕ). y ++ t.rest) parts ∙ append_assoc front (encode_utf8_all k.back) t.rest in
    record {
      rest = t.rest;
      before = ap (λ (n : ℕ). take n line) k.offset ∙ ap (take (length front)) split ∙ take-append_seam front (encode_utf8_all k.back ++ t.rest);
      after = ap (λ (n : ℕ). drop n line) k.offset ∙ ap (drop (length front)) split ∙ drop-append_seam front (encode_utf8_all k.back ++ t.rest);
    }

at_end : (line text : List ℕ) (w : Walk) → IsLongestText line text → (k : IsWalk text w) → k.back ≡ [] → w.offset ≡ length text
at_end line text w t k e =
    let parts : text ≡ encode_utf8_all k.front ++ encode_utf8_all k.back = front_text text k.front k.back t.utf8 k.parts in
    omega (arith, k.offset, ap length parts, length-append (encode_utf8_all k.front) (encode_utf8_all k.back), ap (λ (y : List ℕ). length (encode_utf8_all y)) e)

-- the first reason, of these
abbrev IsFirst : State → Option Reason → Option Reason → Option Reason → Type 0
IsFirst s o broken result = MatchOption o (MatchOption broken (IsEndReason s result) (λ r. result ≡ Some r)) (λ r. result ≡ Some r)

-- the reason, by that of the walk and that of the bytes after the text
reason_by : (line text : List ℕ) (w : Walk) (t : IsLongestText line text) (k : IsWalk text w) (o broken : Option Reason) (r : Reason)
    → IsStopped w.state k.back o → IsTextEnd line text broken → IsFirst w.state o broken (Some r) → IsReason line w.offset r
reason_by line text w t k (Some x) broken r h b f =
    let s = split_at line text w t k in
    let here : drop w.offset line ≡ encode h.0 ++ (encode_utf8_all h.1 ++ s.rest) =
    s.after ∙ ap (λ (y : List ℕ). encode_utf8_all y ++ s.rest) h.2 ∙ append_assoc (encode h.0) (encode_utf8_all h.1) s.rest in
    subst (IsReason line w.offset) (same_Some x r (sym f)) (text_reason line w.offset x (record {
      front = k.front;
      before = s.before;
      state = w.state;
      after = k.after;
      at = Some h.0;
      follows = (encode_utf8_all h.1 ++ s.rest, here);
      says = h.3;
    }))
reason_by line text w t k None (Some x) r h b f =
    subst (IsReason line w.offset) (same_Some x r (sym f)) (broken_reason line w.offset x (subst (λ (n : ℕ). IsBroken line n x) (sym (at_end line text w t k h)) b))
reason_by line text w t k None None r h b f =
    let s = split_at line text w t k in
    let whole : w.offset ≡ length line = at_end line text w t k h ∙ ap length b in
    text_reason line w.offset r (record {
      front = k.front;
      before = s.before;
      state = w.state;
      after = k.after;
      at = None;
      follows = ap (λ (n : ℕ). drop n line) whole ∙ drop-length line;
      says = f.1;
    })

pub walk_reason : (line text : List ℕ) (w : Walk) (broken : Option Reason) (r : Reason) → IsLongestText line text → IsTextEnd line text broken → IsWalk text w → IsFirstReason w broken (Some r) → IsReason line w.offset r
walk_reason line text w broken r t b k f = reason_by line text w t k w.reason broken r k.stopped b f

-- ---- whether the line is well-formed

no_utf8_longer : (line text : List ℕ) → IsLongestText line text → length text < length line → IsMalformed line
no_utf8_longer line text t h q s = t.longest (length line) h (omega arith) (subst IsUtf8 (sym (take-length line)) s.utf8)

-- bytes that are no character follow the text
broken_longer : (line : List ℕ) (n : ℕ) (r : Reason) → IsBroken line n r → n < length line
broken_longer line n (InvalidUtf8 byte) b = slice_get_within line n byte b.0
broken_longer line n CutCharacter b = b.0
broken_longer line n _ b = absurd b

-- a line that goes on after the place
stops_before : (line text : List ℕ) (w : Walk) → IsLongestText line text → IsWalk text w → w.offset < length line → IsMalformed line
stops_before line text w t k h q s =
    let whole = take-length line in
    no_longer line text w (length line) t k h (omega arith) (subst IsUtf8 (sym whole) s.utf8) (subst IsLinePrefix (sym whole) (whole_prefix line q s))

-- the characters of a line that is read to its end
whole_front : (line text : List ℕ) (w : Walk) → IsLongestText line text → (k : IsWalk text w) → k.back ≡ [] → text ≡ line → line ≡ encode_utf8_all k.front
whole_front line text w t k e f =
    let parts : text ≡ encode_utf8_all k.front ++ encode_utf8_all k.back = front_text text k.front k.back t.utf8 k.parts in
    sym f ∙ parts ∙ ap (λ (y : List ℕ). encode_utf8_all k.front ++ encode_utf8_all y) e ∙ append-nil (encode_utf8_all k.front)

front_scalars : (line text : List ℕ) (w : Walk) → IsLongestText line text → (k : IsWalk text w) → all_scalars k.front ≡ true
front_scalars line text w t k = scalars_front k.front k.back (ap all_scalars (sym k.parts) ∙ scalars-chars text t.utf8)

formed_by : (line text : List ℕ) (w : Walk) (t : IsLongestText line text) (k : IsWalk text w) (o broken : Option Reason)
    → IsStopped w.state k.back o → IsTextEnd line text broken → IsFirst w.state o broken None → IsWellFormed line
formed_by line text w t k (Some x) broken h b f = absurd cc
formed_by line text w t k None (Some x) h b f = absurd cc
formed_by line text w t k None None h b f =
    let starts = subst Starts (append-nil k.front) (k.after.back [] (ends w.state f)) in
    subst IsWellFormed (sym (whole_front line text w t k h b)) (well_formed k.front (front_scalars line text w t k) k.after.plain starts)

pub walk_formed : (line text : List ℕ) (w : Walk) (broken : Option Reason) → IsLongestText line text → IsTextEnd line text broken → IsWalk text w → IsFirstReason w broken None → IsWellFormed line
walk_formed line text w broken t b k f = formed_by line text w t k w.reason broken k.stopped b f

malformed_by : (line text : List ℕ) (w : Walk) (t : IsLongestText line text) (k : IsWalk text w) (o broken : Option Reason) (r : Reason)
    → IsStopped w.state k.back o → IsTextEnd line text broken → IsFirst w.state o broken (Some r) → IsMalformed line
malformed_by line text w t k (Some x) broken r h b f =
    let s = split_at line text w t k in
    let here : drop w.offset line ≡ encode h.0 ++ (encode_utf8_all h.1 ++ s.rest) =
    s.after ∙ ap (λ (y : List ℕ). encode_utf8_all y ++ s.rest) h.2 ∙ append_assoc (encode h.0) (encode_utf8_all h.1) s.rest in
    let size : w.offset < length line = omega (arith, ap length here, length-append (encode h.0) (encode_utf8_all h.1 ++ s.rest), length-encode h.0, len_utf8_bounds h.0, length-drop w.offset line) in
    stops_before line text w t k size
malformed_by line text w t k None (Some x) r h b f = no_utf8_longer line text t (broken_longer line (length text) x b)
malformed_by line text w t k None None r h b f = λ q s.
    let whole = whole_front line text w t k h b in
    let same : chars line ≡ k.front = ap chars whole ∙ chars-encodes k.front (front_scalars line text w t k) in
    let starts = subst Starts (same ∙ sym (append-nil k.front)) (line_completes (chars line) q (read_again line q s)) in
    does_not_end w.state f.0 (k.after.forth [] starts)

pub walk_malformed : (line text : List ℕ) (w : Walk) (broken : Option Reason) (r : Reason) → IsLongestText line text → IsTextEnd line text broken → IsWalk text w → IsFirstReason w broken (Some r) → IsMalformed line
walk_malformed line text w broken r t b k f = malformed_by line text w t k w.reason broken r k.stopped b f

pub explained_of : (line text front : List ℕ) (w : Walk) (d : Diagnosis) → IsLongestText line text → IsWalk text w → IsReason line w.offset d.reason → front ≡ take w.offset line → d.offset ≡ length front
    → d.column ≡ column_of d.counted front → (d.counted ≡ Characters → IsUtf8 line) → (d.counted ≡ Bytes → IsUtf8 line → ⊥) → IsExplained line d
explained_of line text front w d t k r e o c u b =
    let p = walk_place line text w t k in
    let same : d.offset ≡ w.offset = o ∙ ap length e ∙ length-take-le w.offset line p.in_line in
    record {
      place = subst (IsPlace line) (sym same) p;
      reason = subst (λ (n : ℕ). IsReason line n d.reason) (sym same) r;
      column = c ∙ ap (column_of d.counted) (e ∙ ap (λ (n : ℕ). take n line) (sym same));
      characters = u;
      bytes = b;
    }
