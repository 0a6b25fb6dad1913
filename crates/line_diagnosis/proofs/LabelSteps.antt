-- The steps in a label.
use Rattle.std.proofs.Common.{◌≡◌, ◌≢◌, ℕ, Bool, true, false, eqb, List, [], ◌∷◌, Some, None, Result, Ok, Err, refl, sym, ap, subst, ◌∙◌, inl, inr, ◌⊎◌}
use Rattle.std.specs.Prelude.{IsErr, MatchResult}
use Rattle.std.specs.Str.{encode_utf8_all}
use Rattle.std.proofs.lemmas.Bool.{eq-eqb, ne_eqb}
use Rattle.std.proofs.lemmas.Option.{some_pair_parts, same_Some}
use Rattle.rdf_core.specs.Characters.{is_label_char, is_label_start, is_name_start, is_pn_chars_base}
use Rattle.rdf_core.proofs.EscapeLaws.{none_some}
use Rattle.nquads_core.specs.LineParser.{after_char, label_at, label_tail_at, take_dot}
use Rattle.line_diagnosis.specs.declared.reason.Next.TheVariants as next
use Rattle.line_diagnosis.specs.declared.reason.Reason.{Reason}
use Rattle.line_diagnosis.specs.declared.state.Part.{Part}
use Rattle.line_diagnosis.specs.declared.state.State.{State}
use Rattle.line_diagnosis.specs.declared.state.State.TheVariants as state
use Rattle.line_diagnosis.specs.Turn.{Turn, part, suffix, after_dot, Completes}
use Rattle.line_diagnosis.specs.Rest.{Accepts, IsStep, IsStuck, RestAfter, RestAfterDots, RestOfLabel, Steps, after}
use Rattle.line_diagnosis.proofs.TurnLaws.{dot_back, dot_forth, dot_stuck}

-- ---- one state for another

pub steps_same : (old new : List ℕ → Type 0) (c : ℕ) (r : Result State Reason) → ((cs : List ℕ) → old (c ∷ cs) → new (c ∷ cs)) → ((cs : List ℕ) → new (c ∷ cs) → old (c ∷ cs)) → Steps new c r → Steps old c r
steps_same old new c (Ok s) f g h = record { forth = λ cs x. h.forth cs (f cs x); back = λ cs x. g cs (h.back cs x); can_end = h.can_end }
steps_same old new c (Err e) f g h = λ cs x. h cs (f cs x)

-- ---- one expected character

char_same : (c : ℕ) → eqb c c ≡ true
char_same c = eq-eqb c c refl

after_is : (c : ℕ) (cs : List ℕ) → after_char c (c ∷ cs) ≡ Some cs
after_is c cs = rw (char_same c) refl

pub after_forth : (c : ℕ) (rest_is : List ℕ → Type 0) (cs : List ℕ) → RestAfter c rest_is (c ∷ cs) → rest_is cs
after_forth c rest_is cs h = subst rest_is (sym (same_Some cs h.rest (sym (after_is c cs) ∙ h.after))) h.is

pub after_back : (c : ℕ) (rest_is : List ℕ → Type 0) (cs : List ℕ) → rest_is cs → RestAfter c rest_is (c ∷ cs)
after_back c rest_is cs h = record { rest = cs; after = after_is c cs; is = h }

after_no : (c d : ℕ) (cs : List ℕ) → d ≢ c → after_char c (d ∷ cs) ≡ None
after_no c d cs n = rw (ne_eqb d c n) refl

pub after_stuck : (c d : ℕ) (rest_is : List ℕ → Type 0) → d ≢ c → IsStuck (RestAfter c rest_is) d
after_stuck c d rest_is n cs h = none_some h.rest (sym (after_no c d cs n) ∙ h.after)

pub caret_step : IsStep (Accepts state.Caret) 94 (state.Between next.Datatype)
caret_step = record { forth = λ cs h. after_forth 94 (Completes (part next.Datatype)) cs h; back = λ cs h. after_back 94 (Completes (part next.Datatype)) cs h; can_end = tt }

pub colon_step : (p : Part) → IsStep (Accepts (state.Underscore p)) 58 (state.LabelStart p)
colon_step p = record { forth = λ cs h. after_forth 58 (RestOfLabel p) cs h; back = λ cs h. after_back 58 (RestOfLabel p) cs h; can_end = tt }

-- ---- the first character of a label

start_is : (c : ℕ) (cs : List ℕ) → is_label_start c ≡ true → label_at (c ∷ cs) ≡ Some (encode_utf8_all (c ∷ (label_tail_at cs).0), (label_tail_at cs).1)
unfolding label_at
start_is c cs h = rw h refl

start_no : (c : ℕ) (cs : List ℕ) → is_label_start c ≡ false → label_at (c ∷ cs) ≡ None
unfolding label_at
start_no c cs h = rw h refl

pub start_step : (p : Part) (c : ℕ) → is_label_start c ≡ true → IsStep (Accepts (state.LabelStart p)) c (state.Label p)
start_step p c h = record {
  forth = λ cs g.
      let q = some_pair_parts (encode_utf8_all (c ∷ (label_tail_at cs).0)) g.label (label_tail_at cs).1 g.rest (sym (start_is c cs h) ∙ g.read) in
      subst (λ (y : List ℕ). Completes (part (after p)) y) (sym q.1) g.more;
  back = λ cs g. record { label = encode_utf8_all (c ∷ (label_tail_at cs).0); rest = (label_tail_at cs).1; read = start_is c cs h; more = g };
  can_end = tt;
}

pub start_stuck : (p : Part) (c : ℕ) → is_label_start c ≡ false → IsStuck (Accepts (state.LabelStart p)) c
start_stuck p c h cs g = none_some (g.label, g.rest) (sym (start_no c cs h) ∙ g.read)

-- ---- the tail of a label

tail_nothing : label_tail_at [] ≡ ([], [])
unfolding label_tail_at
tail_nothing = refl

tail_char : (c : ℕ) (cs : List ℕ) → is_label_char c ≡ true → label_tail_at (c ∷ cs) ≡ (c ∷ (label_tail_at cs).0, (label_tail_at cs).1)
unfolding label_tail_at
tail_char c cs h = rw h refl

tail_stop : (c : ℕ) (cs : List ℕ) → is_label_char c ≡ false → c ≢ 46 → label_tail_at (c ∷ cs) ≡ ([], c ∷ cs)
unfolding label_tail_at
tail_stop c cs h n = rw (h, ne_eqb c 46 n) refl

no_dot : is_label_char 46 ≡ false
unfolding is_label_char is_label_start is_name_start is_pn_chars_base
no_dot = refl

tail_dot : (cs : List ℕ) → label_tail_at (46 ∷ cs) ≡ take_dot 46 cs (label_tail_at cs).0 (label_tail_at cs).1
unfolding label_tail_at
tail_dot cs = rw no_dot refl

dot_alone : (cs rest : List ℕ) → label_tail_at cs ≡ ([], rest) → label_tail_at (46 ∷ cs) ≡ ([], 46 ∷ cs)
dot_alone cs rest e = tail_dot cs ∙ rw e refl

dot_inside : (cs : List ℕ) (x : ℕ) (xs rest : List ℕ) → label_tail_at cs ≡ (x ∷ xs, rest) → label_tail_at (46 ∷ cs) ≡ (46 ∷ x ∷ xs, rest)
dot_inside cs x xs rest e = tail_dot cs ∙ rw e refl

-- a dot at the end is no part of the label
pub dot_last : (label_tail_at (46 ∷ [])).1 ≡ 46 ∷ []
dot_last = ap (λ (y : List ℕ × List ℕ). y.1) (dot_alone [] [] tail_nothing)

abbrev IsRest : Part → List ℕ → Type 0
IsRest p cs = Completes (part (after p)) cs

pub label_goes : (p : Part) (c : ℕ) → is_label_char c ≡ true → IsStep (Accepts (state.Label p)) c (state.Label p)
label_goes p c h = record {
  forth = λ cs g. subst (λ (y : List ℕ × List ℕ). IsRest p y.1) (tail_char c cs h) g;
  back = λ cs g. subst (λ (y : List ℕ × List ℕ). IsRest p y.1) (sym (tail_char c cs h)) g;
  can_end = tt;
}

pub label_dot : (p : Part) → IsStep (Accepts (state.Label p)) 46 (state.LabelDot p)
label_dot p = record { forth = λ cs g. g; back = λ cs g. g; can_end = tt }

pub label_ends : (p : Part) (c : ℕ) (r : Result State Reason) → is_label_char c ≡ false → c ≢ 46 → Steps (Accepts (state.Between (after p))) c r → Steps (Accepts (state.Label p)) c r
label_ends p c r h n = steps_same (Accepts (state.Label p)) (Accepts (state.Between (after p))) c r
    (λ cs g. subst (λ (y : List ℕ × List ℕ). IsRest p y.1) (tail_stop c cs h n) g)
    (λ cs g. subst (λ (y : List ℕ × List ℕ). IsRest p y.1) (sym (tail_stop c cs h n)) g)

-- ---- dots

dot_turn : (t : Turn) → (after_dot t ≡ None) ⊎ (after_dot t ≡ Some (part next.End))
dot_turn (part next.Subject) = inl refl
dot_turn (part next.Predicate) = inl refl
dot_turn (part next.Object) = inl refl
dot_turn (part next.Datatype) = inl refl
dot_turn (part next.Graph) = inr refl
dot_turn (part next.Dot) = inr refl
dot_turn (part next.End) = inl refl
dot_turn suffix = inr refl

-- no line has two dots after a term
two_dots : (t : Turn) (cs : List ℕ) → Completes t (46 ∷ 46 ∷ cs) → ⊥
two_dots t cs m = elim (dot_turn t) [
  | inl e ↦ dot_stuck t e (46 ∷ cs) m
  | inr e ↦ dot_stuck (part next.End) refl cs (dot_forth t (part next.End) (46 ∷ cs) e m)
]

char_after_dot : (c : ℕ) (cs : List ℕ) → is_label_char c ≡ true → (label_tail_at (46 ∷ c ∷ cs)).1 ≡ (label_tail_at cs).1
char_after_dot c cs h = ap (λ (y : List ℕ × List ℕ). y.1) (dot_inside (c ∷ cs) c (label_tail_at cs).0 (label_tail_at cs).1 (tail_char c cs h))

pub dot_char : (p : Part) (c : ℕ) → is_label_char c ≡ true → IsStep (Accepts (state.LabelDot p)) c (state.Label p)
dot_char p c h = record {
  forth = λ cs g. subst (IsRest p) (char_after_dot c cs h) g;
  back = λ cs g. subst (IsRest p) (sym (char_after_dot c cs h)) g;
  can_end = tt;
}

dots_forth : (p : Part) (cs xs rest : List ℕ) → label_tail_at cs ≡ (xs, rest) → IsRest p (label_tail_at (46 ∷ 46 ∷ cs)).1 → RestAfterDots p cs
dots_forth p cs [] rest e g =
    let both : label_tail_at (46 ∷ 46 ∷ cs) ≡ ([], 46 ∷ 46 ∷ cs) = dot_alone (46 ∷ cs) (46 ∷ cs) (dot_alone cs rest e) in
    absurd (two_dots (part (after p)) cs (subst (λ (y : List ℕ × List ℕ). IsRest p y.1) both g))
dots_forth p cs (x ∷ xs) rest e g =
    let both : label_tail_at (46 ∷ 46 ∷ cs) ≡ (46 ∷ 46 ∷ x ∷ xs, rest) = dot_inside (46 ∷ cs) 46 (x ∷ xs) rest (dot_inside cs x xs rest e) in
    record { c = x; tail = xs; rest = rest; read = e; more = subst (λ (y : List ℕ × List ℕ). IsRest p y.1) both g }

dots_back : (p : Part) (cs : List ℕ) → RestAfterDots p cs → IsRest p (label_tail_at (46 ∷ 46 ∷ cs)).1
dots_back p cs h =
    let both : label_tail_at (46 ∷ 46 ∷ cs) ≡ (46 ∷ 46 ∷ h.c ∷ h.tail, h.rest) = dot_inside (46 ∷ cs) 46 (h.c ∷ h.tail) h.rest (dot_inside cs h.c h.tail h.rest h.read) in
    subst (λ (y : List ℕ × List ℕ). IsRest p y.1) (sym both) h.more

pub dot_dot : (p : Part) → IsStep (Accepts (state.LabelDot p)) 46 (state.LabelDots p)
dot_dot p = record {
  forth = λ cs g. dots_forth p cs (label_tail_at cs).0 (label_tail_at cs).1 refl g;
  back = λ cs g. dots_back p cs g;
  can_end = tt;
}

end_after_dot : (c : ℕ) (cs : List ℕ) → is_label_char c ≡ false → c ≢ 46 → label_tail_at (46 ∷ c ∷ cs) ≡ ([], 46 ∷ c ∷ cs)
end_after_dot c cs h n = dot_alone (c ∷ cs) (c ∷ cs) (tail_stop c cs h n)

pub dot_ends : (p : Part) (c : ℕ) (r : Result State Reason) → is_label_char c ≡ false → c ≢ 46 → after_dot (part (after p)) ≡ Some (part next.End)
    → Steps (Accepts (state.Between next.End)) c r → Steps (Accepts (state.LabelDot p)) c r
dot_ends p c r h n e = steps_same (Accepts (state.LabelDot p)) (Accepts (state.Between next.End)) c r
    (λ cs g. dot_forth (part (after p)) (part next.End) (c ∷ cs) e (subst (λ (y : List ℕ × List ℕ). IsRest p y.1) (end_after_dot c cs h n) g))
    (λ cs g. subst (λ (y : List ℕ × List ℕ). IsRest p y.1) (sym (end_after_dot c cs h n)) (dot_back (part (after p)) (part next.End) (c ∷ cs) e g))

pub dot_stops : (p : Part) (c : ℕ) → is_label_char c ≡ false → c ≢ 46 → after_dot (part (after p)) ≡ None → IsStuck (Accepts (state.LabelDot p)) c
dot_stops p c h n e cs g = dot_stuck (part (after p)) e (c ∷ cs) (subst (λ (y : List ℕ × List ℕ). IsRest p y.1) (end_after_dot c cs h n) g)

pair_second : (a b : List ℕ × List ℕ) → a ≡ b → a.1 ≡ b.1
pair_second a b e = ap (λ (y : List ℕ × List ℕ). y.1) e

pub dots_char : (p : Part) (c : ℕ) → is_label_char c ≡ true → IsStep (Accepts (state.LabelDots p)) c (state.Label p)
dots_char p c h = record {
  forth = λ cs g. subst (IsRest p) (sym (ap (λ (y : List ℕ × List ℕ). y.1) (sym (tail_char c cs h) ∙ g.read))) g.more;
  back = λ cs g. record { c = c; tail = (label_tail_at cs).0; rest = (label_tail_at cs).1; read = tail_char c cs h; more = g };
  can_end = tt;
}

pub no_tail : (x : ℕ) (xs rest other : List ℕ) → ◌≡◌ {A = List ℕ × List ℕ} ([], rest) (x ∷ xs, other) → ⊥
no_tail x xs rest other e = let k : [] ≡ x ∷ xs = ap (λ (y : List ℕ × List ℕ). y.0) e in cc

more_dots_forth : (p : Part) (cs xs rest : List ℕ) → label_tail_at cs ≡ (xs, rest) → RestAfterDots p (46 ∷ cs) → RestAfterDots p cs
more_dots_forth p cs [] rest e g = absurd (no_tail g.c g.tail (46 ∷ cs) g.rest (sym (dot_alone cs rest e) ∙ g.read))
more_dots_forth p cs (x ∷ xs) rest e g =
    let same : rest ≡ g.rest = ap (λ (y : List ℕ × List ℕ). y.1) (sym (dot_inside cs x xs rest e) ∙ g.read) in
    record { c = x; tail = xs; rest = rest; read = e; more = subst (IsRest p) (sym same) g.more }

pub dots_dot : (p : Part) → IsStep (Accepts (state.LabelDots p)) 46 (state.LabelDots p)
dots_dot p = record {
  forth = λ cs g. more_dots_forth p cs (label_tail_at cs).0 (label_tail_at cs).1 refl g;
  back = λ cs g. record { c = 46; tail = g.c ∷ g.tail; rest = g.rest; read = dot_inside cs g.c g.tail g.rest g.read; more = g.more };
  can_end = tt;
}

pub dots_stop : (p : Part) (c : ℕ) → is_label_char c ≡ false → c ≢ 46 → IsStuck (Accepts (state.LabelDots p)) c
dots_stop p c h n cs g = no_tail g.c g.tail (c ∷ cs) g.rest (sym (tail_stop c cs h n) ∙ g.read)

-- ---- a character that is known

pub at_char : (old : List ℕ → Type 0) (c d : ℕ) (s : State) → c ≡ d → IsStep old d s → IsStep old c s
at_char old c d s e h = subst (λ (x : ℕ). IsStep old x s) (sym e) h

pub stuck_char : (old : List ℕ → Type 0) (c d : ℕ) → c ≡ d → IsStuck old d → IsStuck old c
stuck_char old c d e h = subst (λ (x : ℕ). IsStuck old x) (sym e) h

-- ---- a test that decides

pub expected : (old : List ℕ → Type 0) (c : ℕ) (allowed : Bool) (s : State) (r : Result State Reason) → MatchResult r (λ new. (allowed ≡ true) × (new ≡ s)) (λ reason. allowed ≡ false)
    → (allowed ≡ true → IsStep old c s) → (allowed ≡ false → IsStuck old c) → Steps old c r
expected old c allowed s (Ok new) h f g = subst (λ (x : State). IsStep old c x) (sym h.1) (f h.0)
expected old c allowed s (Err e) h f g = g h

pub at_state : (s t : State) (c : ℕ) (r : Result State Reason) → s ≡ t → Steps (Accepts t) c r → Steps (Accepts s) c r
at_state s t c r e h = subst (λ (x : State). Steps (Accepts x) c r) (sym e) h

pub err_steps : (old : List ℕ → Type 0) (c : ℕ) (r : Result State Reason) → IsErr r → IsStuck old c → Steps old c r
err_steps old c (Ok s) e h = absurd cc
err_steps old c (Err reason) e h = h
