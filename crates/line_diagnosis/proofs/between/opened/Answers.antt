use Rattle.std.proofs.Common.{◌≡◌, ℕ, Option, None, refl, sym, subst, inl, inr, rules}
use Rattle.std.specs.Prelude.{MatchOption}
use Rattle.line_diagnosis.specs.Rest.{Accepts, IsStep, IsStuck}
use Rattle.line_diagnosis.specs.declared.state.State.{State}
use Rattle.line_diagnosis.specs.declared.state.State.TheVariants as state
use Rattle.line_diagnosis.specs.declared.reason.Next.TheVariants as next
use Rattle.line_diagnosis.specs.declared.reason.Next.{Next}
use Rattle.line_diagnosis.specs.Turn.{part}
use Rattle.line_diagnosis.proofs.TurnLaws.{iri_stuck, label_opens, label_stuck}
use Rattle.line_diagnosis.proofs.IriSteps.{iri_opens}
use Rattle.line_diagnosis.proofs.StringSteps.{string_opens}
use Rattle.line_diagnosis.proofs.LabelSteps.{at_char, stuck_char}
use Rattle.line_diagnosis.proofs.LiveLaws.{dot_step}
use Rattle.line_diagnosis.proofs.OpenLaws.{comment_opens, no_comment, no_dot, no_string, nothing_opens}
use Rattle.line_diagnosis.proofs.between.opened.Goals as goal
use Rattle.line_diagnosis.proofs.between.opened.Goals.{in-Object, in_default-matches, in-Graph, in_default-matches-2, in-Subject, in_default-matches-3}

-- nothing may come
none_opens : (n : Next) (c : ℕ) (o : Option State) → o ≡ None → IsStuck (Accepts (state.Between n)) c → MatchOption o (IsStuck (Accepts (state.Between n)) c) (λ s. IsStep (Accepts (state.Between n)) c s)
none_opens n c o e h = subst (λ (x : Option State). MatchOption x (IsStuck (Accepts (state.Between n)) c) (λ s. IsStep (Accepts (state.Between n)) c s)) (sym e) h

pub returns-in_err-iri_part-in-60 : goal.returns-in_err-iri_part-in-60
returns-in_err-iri_part-in-60 c =
    none_opens c.args.next c.args.c c.from_residual.result c.from_residual.ensures
    (stuck_char (Accepts (state.Between c.args.next)) c.args.c 60 c.in-60.is (iri_stuck (part c.args.next) c.in_err-iri_part-in-60.ensures))

pub returns-in_err-blank_part-in-95 : goal.returns-in_err-blank_part-in-95
returns-in_err-blank_part-in-95 c =
    none_opens c.args.next c.args.c c.from_residual-in_err-blank_part-in-95.result c.from_residual-in_err-blank_part-in-95.ensures
    (stuck_char (Accepts (state.Between c.args.next)) c.args.c 95 c.in-95.is (label_stuck c.args.next c.in_err-blank_part-in-95.ensures))

pub returns-in_ok-iri_part-in-60 : goal.returns-in_ok-iri_part-in-60
returns-in_ok-iri_part-in-60 c = at_char (Accepts (state.Between c.args.next)) c.args.c 60 _ c.in-60.is (iri_opens c.args.next c.in_ok-iri_part-in-60.field-0 c.in_ok-iri_part-in-60.ensures)

pub returns-in_ok-blank_part-in-95 : goal.returns-in_ok-blank_part-in-95
returns-in_ok-blank_part-in-95 c = at_char (Accepts (state.Between c.args.next)) c.args.c 95 _ c.in-95.is (label_opens c.args.next c.in_ok-blank_part-in-95.field-0 c.in_ok-blank_part-in-95.ensures)

string_at : (n : Next) (c : ℕ) → c ≡ 34 → n ≡ next.Object → IsStep (Accepts (state.Between n)) c state.String
string_at n c e f = at_char (Accepts (state.Between n)) c 34 state.String e (subst (λ (x : Next). IsStep (Accepts (state.Between x)) 34 state.String) (sym f) string_opens)

pub returns-in-34 : goal.returns-in-34
returns-in-34 c = elim c.match-matches.branch [
  | in-Object w ↦ string_at c.args.next c.args.c c.in-34.is w.in-Object.is
  | in_default-matches w ↦ absurd cc
]

pub returns-in_default : goal.returns-in_default
returns-in_default c = elim c.match-matches.branch [
  | in-Object w ↦ absurd cc
  | in_default-matches w ↦ stuck_char (Accepts (state.Between c.args.next)) c.args.c 34 c.in-34.is (no_string c.args.next w.in_default-matches.not-Object)
]

pub returns-in-46 : goal.returns-in-46
returns-in-46 c = elim c.match-matches-2.branch [
  | in-Graph w ↦ at_char (Accepts (state.Between c.args.next)) c.args.c 46 _ c.in-46.is (dot_step c.args.next (elim w.in-Graph.is [ inl e ↦ rw e refl | inr e ↦ rw e refl ]))
  | in_default-matches-2 w ↦ absurd cc
]

pub returns-in_default-2 : goal.returns-in_default-2
returns-in_default-2 c = elim c.match-matches-2.branch [
  | in-Graph w ↦ absurd cc
  | in_default-matches-2 w ↦ stuck_char (Accepts (state.Between c.args.next)) c.args.c 46 c.in-46.is (no_dot c.args.next w.in_default-matches-2.not-Graph w.in_default-matches-2.not-Dot)
]

pub returns-in-35 : goal.returns-in-35
returns-in-35 c = elim c.match-matches-3.branch [
  | in-Subject w ↦ at_char (Accepts (state.Between c.args.next)) c.args.c 35 _ c.in-35.is (comment_opens c.args.next (elim w.in-Subject.is [ inl e ↦ rw e refl | inr e ↦ rw e refl ]))
  | in_default-matches-3 w ↦ absurd cc
]

pub returns-in_default-3 : goal.returns-in_default-3
returns-in_default-3 c = elim c.match-matches-3.branch [
  | in-Subject w ↦ absurd cc
  | in_default-matches-3 w ↦ stuck_char (Accepts (state.Between c.args.next)) c.args.c 35 c.in-35.is (no_comment c.args.next w.in_default-matches-3.not-Subject w.in_default-matches-3.not-End)
]

pub returns-in_default-4 : goal.returns-in_default-4
returns-in_default-4 c =
    nothing_opens c.args.next c.args.c c.requires.0 c.requires.1 (search rules) (search rules) (search rules) (search rules) (search rules)
