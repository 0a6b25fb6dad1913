-- How far a text is read. Only private clauses use these definitions; what is promised is in Place.
use Rattle.std.specs.Prelude.{◌≡◌, true, false, ℕ, ◌<◌, ◌≤◌, List, [], ◌∷◌, ◌++◌, length, take, Option, Some, None, MatchOption}
use Rattle.std.specs.Str.{IsUtf8, NonePass, chars, encode_utf8_all}
use Rattle.line_diagnosis.specs.declared.diagnosis.Walk.{Walk}
use Rattle.line_diagnosis.specs.declared.reason.Reason.{Reason}
use Rattle.line_diagnosis.specs.declared.state.State.{State}
use Rattle.line_diagnosis.specs.Reasons.{IsBroken}
use Rattle.line_diagnosis.specs.Rest.{Accepts, may_end}
use Rattle.line_diagnosis.specs.Says.{Says}
use Rattle.line_diagnosis.specs.StateAfter.{IsStateAfter, is_line_break}

-- the reason is true of the state and of the first of these characters; without a reason there are none
abbrev pub IsStopped : State → List ℕ → Option Reason → Type 0
IsStopped s back reason = MatchOption reason (back ≡ [])
    (λ r. (c : ℕ) × (others : List ℕ) × (back ≡ c ∷ others) × Says s (Some c) r)

-- the text is read up to this place: no line goes on with the character after it
pub record IsWalk (text : List ℕ) (walk : Walk) : Type 0 where
  pub front : List ℕ
  pub back : List ℕ
  pub parts : chars text ≡ front ++ back
  pub offset : walk.offset ≡ length (encode_utf8_all front)
  pub after : IsStateAfter front walk.state
  pub stops : (c : ℕ) (others cs : List ℕ)
      → back ≡ c ∷ others → NonePass is_line_break (c ∷ cs) → Accepts walk.state (c ∷ cs) → ⊥
  pub stopped : IsStopped walk.state back walk.reason

-- the longest beginning of the line that is UTF-8
pub record IsLongestText (line text : List ℕ) : Type 0 where
  pub rest : List ℕ
  pub parts : line ≡ text ++ rest
  pub utf8 : IsUtf8 text
  pub longest : (n : ℕ) → length text < n → n ≤ length line → IsUtf8 (take n line) → ⊥

-- the text is the whole line, or the reason is true of the bytes after it
abbrev pub IsTextEnd : List ℕ → List ℕ → Option Reason → Type 0
IsTextEnd line text broken = MatchOption broken (text ≡ line) (IsBroken line (length text))

-- the line may end in the state, or the reason is true of it and of the end of the line
abbrev pub IsEndReason : State → Option Reason → Type 0
IsEndReason s result = MatchOption result (may_end s ≡ true) (λ r. (may_end s ≡ false) × Says s None r)

-- The reason is that of the walk, or else that of the bytes after the text, or else that of the end of the line.
abbrev pub IsFirstReason : Walk → Option Reason → Option Reason → Type 0
IsFirstReason walk broken result = MatchOption walk.reason
    (MatchOption broken (IsEndReason walk.state result) (λ r. result ≡ Some r)) (λ r. result ≡ Some r)
