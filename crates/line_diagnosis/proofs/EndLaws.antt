-- The states in which a line may end: those that accept the empty text.
use Rattle.std.proofs.Common.{◌≡◌, ℕ, suc, true, false, List, [], Some, None, refl, sym, ap, subst, ◌∙◌}
use Rattle.rdf_core.specs.LexicalReading.{escape_at, hex_at, parts_at, string_escape_at, uchar_at}
use Rattle.rdf_core.specs.declared.lexical.escapes.Inside.TheVariants as inside
use Rattle.nquads_core.specs.LineParser.{label_at, label_tail_at, next, skip_blanks, subtags_at, tag_tail_at, terminal_at}
use Rattle.line_diagnosis.specs.declared.reason.Next.{Next}
use Rattle.line_diagnosis.specs.declared.reason.Next.TheVariants as next
use Rattle.line_diagnosis.specs.declared.state.Part.{Part}
use Rattle.line_diagnosis.specs.declared.state.Part.TheVariants as position
use Rattle.line_diagnosis.specs.declared.state.State.{State}
use Rattle.line_diagnosis.specs.declared.state.State.TheVariants as state
use Rattle.line_diagnosis.specs.Rest.{Accepts, after, is_before_dot, may_end}
use Rattle.line_diagnosis.specs.Turn.{Turn, Completes, after_dot, ended, goes, is_last, part, suffix}
use Rattle.line_diagnosis.proofs.LabelSteps.{dot_last, no_tail}
use Rattle.line_diagnosis.proofs.TurnLaws.{dot_back, dot_stuck}

-- ---- between terminals

nothing_read : next [] ≡ None
unfolding skip_blanks terminal_at
nothing_read = refl

last : (t : Turn) → is_last t ≡ true → Completes t []
unfolding skip_blanks
last t h = ended h refl

not_last : (t : Turn) → is_last t ≡ false → Completes t [] → ⊥
not_last t n (ended h e) = cc
not_last t n (goes k rest after e f more) = let no : ⊥ = cc (sym nothing_read ∙ e) in no

-- ---- inside terminals

no_parts_iri : (n : ℕ) → parts_at inside.Iri (Some 62) n [] ≡ None
unfolding parts_at
no_parts_iri n = refl

no_parts_string : (n : ℕ) → parts_at inside.Quoted (Some 34) n [] ≡ None
unfolding parts_at
no_parts_string n = refl

no_iri_escape : escape_at inside.Iri [] ≡ None
unfolding escape_at uchar_at
no_iri_escape = refl

no_string_escape : escape_at inside.Quoted [] ≡ None
unfolding escape_at string_escape_at
no_string_escape = refl

no_digits : (n v : ℕ) → hex_at (suc n) v [] ≡ None
unfolding hex_at
no_digits n v = refl

no_label : label_at [] ≡ None
unfolding label_at
no_label = refl

tail_ends : label_tail_at [] ≡ ([], [])
unfolding label_tail_at
tail_ends = refl

tag_ends : (tag_tail_at []).1 ≡ []
unfolding tag_tail_at
tag_ends = refl

subtags_end : (subtags_at []).1 ≡ []
unfolding subtags_at
subtags_end = refl

abbrev Leaves : Next → List ℕ → Type 0
Leaves n cs = Completes (part n) cs

after_term : (p : Part) → is_last (part (after p)) ≡ false
after_term position.Subject = refl
after_term position.Predicate = refl
after_term position.Object = refl
after_term position.Datatype = refl
after_term position.Graph = refl

dot_turn : (n : Next) → is_before_dot n ≡ true → after_dot (part n) ≡ Some (part next.End)
dot_turn next.Subject h = absurd cc
dot_turn next.Predicate h = absurd cc
dot_turn next.Object h = absurd cc
dot_turn next.Datatype h = absurd cc
dot_turn next.Graph h = refl
dot_turn next.Dot h = refl
dot_turn next.End h = absurd cc

no_dot_turn : (n : Next) → is_before_dot n ≡ false → after_dot (part n) ≡ None
no_dot_turn next.Subject h = refl
no_dot_turn next.Predicate h = refl
no_dot_turn next.Object h = refl
no_dot_turn next.Datatype h = refl
no_dot_turn next.Graph h = absurd cc
no_dot_turn next.Dot h = absurd cc
no_dot_turn next.End h = refl

-- ---- each state

pub ends : (s : State) → may_end s ≡ true → Accepts s []
ends (state.Between n) h = last (part n) h
ends state.AfterString h = absurd cc
ends state.Comment h = tt
ends (state.Iri p s) h = absurd cc
ends (state.IriBackslash p s) h = absurd cc
ends (state.IriDigits p s d) h = absurd cc
ends state.String h = absurd cc
ends state.StringBackslash h = absurd cc
ends (state.StringDigits d) h = absurd cc
ends state.Caret h = absurd cc
ends state.At h = absurd cc
ends state.Tag h = absurd cc
ends state.Hyphen h = absurd cc
ends state.Subtag h = absurd cc
ends (state.Underscore p) h = absurd cc
ends (state.LabelStart p) h = absurd cc
ends (state.Label p) h = absurd cc
ends (state.LabelDot p) h =
    subst (Leaves (after p)) (sym dot_last) (dot_back (part (after p)) (part next.End) [] (dot_turn (after p) h) (last (part next.End) refl))
ends (state.LabelDots p) h = absurd cc

pub does_not_end : (s : State) → may_end s ≡ false → Accepts s [] → ⊥
does_not_end (state.Between n) h a = not_last (part n) h a
does_not_end state.AfterString h a = not_last suffix refl a
does_not_end state.Comment h a = absurd cc
does_not_end (state.Iri p s) h a = let e = sym (no_parts_iri 0) ∙ a.read in let no : ⊥ = cc e in no
does_not_end (state.IriBackslash p s) h a = let e = sym no_iri_escape ∙ a.escape in let no : ⊥ = cc e in no
does_not_end (state.IriDigits p s d) h a = let e = sym (no_digits d.more d.value) ∙ a.digits.digits in let no : ⊥ = cc e in no
does_not_end state.String h a = let e = sym (no_parts_string 0) ∙ a.read in let no : ⊥ = cc e in no
does_not_end state.StringBackslash h a = let e = sym no_string_escape ∙ a.escape in let no : ⊥ = cc e in no
does_not_end (state.StringDigits d) h a = let e = sym (no_digits d.more d.value) ∙ a.digits.digits in let no : ⊥ = cc e in no
does_not_end state.Caret h a = let e = a.after in let no : ⊥ = cc e in no
does_not_end state.At h a = let e = a.0 in let no : ⊥ = cc e in no
does_not_end state.Tag h a = not_last (part next.Graph) refl (subst (Leaves next.Graph) tag_ends a)
does_not_end state.Hyphen h a = let e = a.0 in let no : ⊥ = cc e in no
does_not_end state.Subtag h a = not_last (part next.Graph) refl (subst (Leaves next.Graph) subtags_end a)
does_not_end (state.Underscore p) h a = let e = a.after in let no : ⊥ = cc e in no
does_not_end (state.LabelStart p) h a = let e = sym no_label ∙ a.read in let no : ⊥ = cc e in no
does_not_end (state.Label p) h a = not_last (part (after p)) (after_term p) (subst (Leaves (after p)) (ap (λ (y : List ℕ × List ℕ). y.1) tail_ends) a)
does_not_end (state.LabelDot p) h a = dot_stuck (part (after p)) (no_dot_turn (after p) h) [] (subst (Leaves (after p)) dot_last a)
does_not_end (state.LabelDots p) h a = no_tail a.c a.tail [] a.rest (sym tail_ends ∙ a.read)
