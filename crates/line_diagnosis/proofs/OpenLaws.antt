-- What may begin where a part of the statement comes next.
use Rattle.std.proofs.Common.{◌≡◌, ◌≢◌, ℕ, true, false, eqb, None, Result, refl, sym, ◌∙◌, inl, inr}
use Rattle.std.proofs.lemmas.Bool.{eq-eqb, eqb-true, ne_eqb}
use Rattle.rdf_core.proofs.EscapeSteps.{which}
use Rattle.nquads_core.specs.Terminal.{is_blank}
use Rattle.line_diagnosis.specs.declared.reason.Next.{Next}
use Rattle.line_diagnosis.specs.declared.reason.Next.TheVariants as next
use Rattle.line_diagnosis.specs.declared.reason.Reason.{Reason}
use Rattle.line_diagnosis.specs.declared.state.State.{State}
use Rattle.line_diagnosis.specs.declared.state.State.TheVariants as state
use Rattle.line_diagnosis.specs.Turn.{part, after_dot, is_last, Completes}
use Rattle.line_diagnosis.specs.Rest.{Accepts, IsStep, IsStuck, Steps}
use Rattle.line_diagnosis.proofs.TurnLaws.{carets_stuck, comment_again, dot_stuck, other_stuck, string_stuck, suffix_back, suffix_forth, tag_stuck}
use Rattle.line_diagnosis.proofs.LabelSteps.{steps_same, stuck_char}

pub no_string : (n : Next) → n ≢ next.Object → IsStuck (Accepts (state.Between n)) 34
no_string next.Subject h = string_stuck (part next.Subject) refl
no_string next.Predicate h = string_stuck (part next.Predicate) refl
no_string next.Object h = absurd (h refl)
no_string next.Datatype h = string_stuck (part next.Datatype) refl
no_string next.Graph h = string_stuck (part next.Graph) refl
no_string next.Dot h = string_stuck (part next.Dot) refl
no_string next.End h = string_stuck (part next.End) refl

pub dot_none : (n : Next) → n ≢ next.Graph → n ≢ next.Dot → after_dot (part n) ≡ None
dot_none next.Subject h k = refl
dot_none next.Predicate h k = refl
dot_none next.Object h k = refl
dot_none next.Datatype h k = refl
dot_none next.Graph h k = absurd (h refl)
dot_none next.Dot h k = absurd (k refl)
dot_none next.End h k = refl

pub no_dot : (n : Next) → n ≢ next.Graph → n ≢ next.Dot → IsStuck (Accepts (state.Between n)) 46
no_dot n h k = dot_stuck (part n) (dot_none n h k)

hash_stuck : (n : Next) → is_last (part n) ≡ false → IsStuck (Accepts (state.Between n)) 35
hash_stuck n l = other_stuck (part n) 35 refl (λ e. l) (λ e. cc) (λ e. cc) (λ e. cc) (λ e. cc) (λ e. cc) (λ e. cc)

pub no_comment : (n : Next) → n ≢ next.Subject → n ≢ next.End → IsStuck (Accepts (state.Between n)) 35
no_comment next.Subject h k = absurd (h refl)
no_comment next.Predicate h k = hash_stuck next.Predicate refl
no_comment next.Object h k = hash_stuck next.Object refl
no_comment next.Datatype h k = hash_stuck next.Datatype refl
no_comment next.Graph h k = hash_stuck next.Graph refl
no_comment next.Dot h k = hash_stuck next.Dot refl
no_comment next.End h k = absurd (k refl)

pub comment_opens : (n : Next) → is_last (part n) ≡ true → IsStep (Accepts (state.Between n)) 35 state.Comment
comment_opens n l = record { forth = λ cs m. tt; back = λ cs m. comment_again (part n) cs l; can_end = tt }

pub not_blank : (c : ℕ) → c ≢ 32 → c ≢ 9 → is_blank c ≡ false
not_blank c a b = rw (ne_eqb c 32 a, ne_eqb c 9 b) refl

eqb_ne : (a b : ℕ) → eqb a b ≡ false → a ≢ b
eqb_ne a b h e = let no : ⊥ = cc (sym h ∙ eq-eqb a b e) in no

pub nothing_opens : (n : Next) (c : ℕ) → c ≢ 32 → c ≢ 9 → c ≢ 60 → c ≢ 95 → c ≢ 34 → c ≢ 46 → c ≢ 35 → IsStuck (Accepts (state.Between n)) c
nothing_opens n c a b d e f g h = elim (which (eqb c 64)) [
  | inl k ↦ stuck_char (Completes (part n)) c 64 (eqb-true c 64 k) (tag_stuck n)
  | inr k ↦ elim (which (eqb c 94)) [
    | inl j ↦ stuck_char (Completes (part n)) c 94 (eqb-true c 94 j) (carets_stuck n)
    | inr j ↦ other_stuck (part n) c (not_blank c a b) (λ x. absurd (h x)) d f e (eqb_ne c 64 k) (eqb_ne c 94 j) g
  ]
]

-- after a string and its blanks
pub suffix_goes : (c : ℕ) (r : Result State Reason) → c ≢ 32 → c ≢ 9 → c ≢ 64 → c ≢ 94 → Steps (Accepts (state.Between next.Graph)) c r → Steps (Accepts state.AfterString) c r
suffix_goes c r a b d e = steps_same (Accepts state.AfterString) (Accepts (state.Between next.Graph)) c r
    (λ cs m. suffix_forth c cs (not_blank c a b) d e m)
    (λ cs m. suffix_back c cs (not_blank c a b) d e m)
