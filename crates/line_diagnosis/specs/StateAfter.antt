-- The state of a line after its first characters (a choice of this project, not fixed by the standard).
use Rattle.std.specs.Prelude.{ℕ, Bool, ◌||◌, List, ◌++◌, ◌==◌}
use Rattle.std.specs.Str.{NonePass}
use Rattle.line_diagnosis.specs.declared.reason.Next.TheVariants as next
use Rattle.line_diagnosis.specs.declared.state.State.{State}
use Rattle.line_diagnosis.specs.declared.state.State.TheVariants as state
use Rattle.line_diagnosis.specs.Rest.{Accepts, CanEnd}

-- LF and CR, of which a line has none
abbrev pub is_line_break : ℕ → Bool
is_line_break c = c == 10 || c == 13

-- After these characters of a line the reader is in this state: the texts that complete the line
-- after them are those that the state accepts.
pub record IsStateAfter (front : List ℕ) (s : State) : Type 0 where
  pub plain : NonePass is_line_break front
  pub forth : (cs : List ℕ) → Accepts (state.Between next.Subject) (front ++ cs) → Accepts s cs
  pub back : (cs : List ℕ) → Accepts s cs → Accepts (state.Between next.Subject) (front ++ cs)
  pub can_end : CanEnd s
