-- The steps in a language tag.
use Rattle.std.proofs.Common.{◌≡◌, ◌≢◌, ℕ, true, false, List, ◌∷◌, Result, refl, sym, subst, ◌∙◌, inl, inr}
use Rattle.std.specs.Char.{is_ascii_alphabetic, is_ascii_alphanumeric}
use Rattle.std.proofs.lemmas.Bool.{ne_eqb}
use Rattle.rdf_core.specs.Characters.{begins}
use Rattle.rdf_core.proofs.EscapeSteps.{which}
use Rattle.nquads_core.specs.LineParser.{subtags_at, tag_tail_at}
use Rattle.line_diagnosis.specs.declared.reason.Next.TheVariants as next
use Rattle.line_diagnosis.specs.declared.reason.Reason.{Reason}
use Rattle.line_diagnosis.specs.declared.state.State.{State}
use Rattle.line_diagnosis.specs.declared.state.State.TheVariants as state
use Rattle.line_diagnosis.specs.Turn.{part, Completes}
use Rattle.line_diagnosis.specs.Rest.{Accepts, IsStep, IsStuck, Steps}
use Rattle.line_diagnosis.proofs.TurnLaws.{other_stuck}
use Rattle.line_diagnosis.proofs.LabelSteps.{steps_same}

abbrev IsRest : List ℕ → Type 0
IsRest cs = Completes (part next.Graph) cs

-- ---- the first part

tail_letter : (c : ℕ) (cs : List ℕ) → is_ascii_alphabetic c ≡ true → (tag_tail_at (c ∷ cs)).1 ≡ (tag_tail_at cs).1
unfolding tag_tail_at
tail_letter c cs h = rw h refl

tail_hyphen : (cs : List ℕ) → begins is_ascii_alphanumeric cs ≡ true → (tag_tail_at (45 ∷ cs)).1 ≡ (subtags_at cs).1
unfolding tag_tail_at
tail_hyphen cs h = rw h refl

tail_minus : (cs : List ℕ) → begins is_ascii_alphanumeric cs ≡ false → (tag_tail_at (45 ∷ cs)).1 ≡ 45 ∷ cs
unfolding tag_tail_at
tail_minus cs h = rw h refl

tail_stop : (c : ℕ) (cs : List ℕ) → is_ascii_alphabetic c ≡ false → c ≢ 45 → (tag_tail_at (c ∷ cs)).1 ≡ c ∷ cs
unfolding tag_tail_at
tail_stop c cs h n = rw (h, ne_eqb c 45 n) refl

pub at_step : (c : ℕ) → is_ascii_alphabetic c ≡ true → IsStep (Accepts state.At) c state.Tag
at_step c h = record {
  forth = λ cs g. subst IsRest (tail_letter c cs h) g.1;
  back = λ cs g. (h, subst IsRest (sym (tail_letter c cs h)) g);
  can_end = tt;
}

pub at_stuck : (c : ℕ) → is_ascii_alphabetic c ≡ false → IsStuck (Accepts state.At) c
at_stuck c h cs g = let no : ⊥ = cc (sym g.0 ∙ h) in no

pub tag_step : (c : ℕ) → is_ascii_alphabetic c ≡ true → IsStep (Accepts state.Tag) c state.Tag
tag_step c h = record {
  forth = λ cs g. subst IsRest (tail_letter c cs h) g;
  back = λ cs g. subst IsRest (sym (tail_letter c cs h)) g;
  can_end = tt;
}

minus_stuck : IsStuck IsRest 45
minus_stuck = other_stuck (part next.Graph) 45 refl (λ e. refl) (λ e. cc) (λ e. cc) (λ e. cc) (λ e. cc) (λ e. cc) (λ e. cc)

pub tag_hyphen : IsStep (Accepts state.Tag) 45 state.Hyphen
tag_hyphen = record {
  forth = λ cs g. elim (which (begins is_ascii_alphanumeric cs)) [
    | inl h ↦ (h, subst IsRest (tail_hyphen cs h) g)
    | inr h ↦ absurd (minus_stuck cs (subst IsRest (tail_minus cs h) g))
  ];
  back = λ cs g. subst IsRest (sym (tail_hyphen cs g.0)) g.1;
  can_end = tt;
}

pub tag_ends : (c : ℕ) (r : Result State Reason) → is_ascii_alphabetic c ≡ false → c ≢ 45 → Steps (Accepts (state.Between next.Graph)) c r → Steps (Accepts state.Tag) c r
tag_ends c r h n = steps_same (Accepts state.Tag) (Accepts (state.Between next.Graph)) c r
    (λ cs g. subst IsRest (tail_stop c cs h n) g)
    (λ cs g. subst IsRest (sym (tail_stop c cs h n)) g)

-- ---- the other parts

sub_char : (c : ℕ) (cs : List ℕ) → is_ascii_alphanumeric c ≡ true → (subtags_at (c ∷ cs)).1 ≡ (subtags_at cs).1
unfolding subtags_at
sub_char c cs h = rw h refl

sub_hyphen : (cs : List ℕ) → begins is_ascii_alphanumeric cs ≡ true → (subtags_at (45 ∷ cs)).1 ≡ (subtags_at cs).1
unfolding subtags_at
sub_hyphen cs h = rw h refl

sub_minus : (cs : List ℕ) → begins is_ascii_alphanumeric cs ≡ false → (subtags_at (45 ∷ cs)).1 ≡ 45 ∷ cs
unfolding subtags_at
sub_minus cs h = rw h refl

sub_stop : (c : ℕ) (cs : List ℕ) → is_ascii_alphanumeric c ≡ false → c ≢ 45 → (subtags_at (c ∷ cs)).1 ≡ c ∷ cs
unfolding subtags_at
sub_stop c cs h n = rw (h, ne_eqb c 45 n) refl

pub hyphen_step : (c : ℕ) → is_ascii_alphanumeric c ≡ true → IsStep (Accepts state.Hyphen) c state.Subtag
hyphen_step c h = record {
  forth = λ cs g. subst IsRest (sub_char c cs h) g.1;
  back = λ cs g. (h, subst IsRest (sym (sub_char c cs h)) g);
  can_end = tt;
}

pub hyphen_stuck : (c : ℕ) → is_ascii_alphanumeric c ≡ false → IsStuck (Accepts state.Hyphen) c
hyphen_stuck c h cs g = let no : ⊥ = cc (sym g.0 ∙ h) in no

pub subtag_step : (c : ℕ) → is_ascii_alphanumeric c ≡ true → IsStep (Accepts state.Subtag) c state.Subtag
subtag_step c h = record {
  forth = λ cs g. subst IsRest (sub_char c cs h) g;
  back = λ cs g. subst IsRest (sym (sub_char c cs h)) g;
  can_end = tt;
}

pub subtag_hyphen : IsStep (Accepts state.Subtag) 45 state.Hyphen
subtag_hyphen = record {
  forth = λ cs g. elim (which (begins is_ascii_alphanumeric cs)) [
    | inl h ↦ (h, subst IsRest (sub_hyphen cs h) g)
    | inr h ↦ absurd (minus_stuck cs (subst IsRest (sub_minus cs h) g))
  ];
  back = λ cs g. subst IsRest (sym (sub_hyphen cs g.0)) g.1;
  can_end = tt;
}

pub subtag_ends : (c : ℕ) (r : Result State Reason) → is_ascii_alphanumeric c ≡ false → c ≢ 45 → Steps (Accepts (state.Between next.Graph)) c r → Steps (Accepts state.Subtag) c r
subtag_ends c r h n = steps_same (Accepts state.Subtag) (Accepts (state.Between next.Graph)) c r
    (λ cs g. subst IsRest (sub_stop c cs h n) g)
    (λ cs g. subst IsRest (sym (sub_stop c cs h n)) g)
