-- The reason of a line, without what was found in the line (a choice of this project, not fixed by the standard).
use Rattle.std.specs.Prelude.{◌≡◌, ◌⊎◌, ℕ}
use Rattle.line_diagnosis.specs.declared.reason.Found.{Found}
use Rattle.line_diagnosis.specs.declared.reason.Next.TheVariants.{Dot, Graph}
use Rattle.line_diagnosis.specs.declared.reason.Reason.{Reason}
use Rattle.line_diagnosis.specs.declared.reason.Reason.TheVariants.{InvalidUtf8, Unexpected, NoScheme, UnknownEscape, NoDigit, NoColon, LabelStart, NoTag, NoSubtag, OneCaret}

-- The two reasons differ at most in what was found. A dot that is missing after a graph name counts as one that is missing
-- without it.
abbrev pub DifferInFound : Reason → Reason → Type 0
DifferInFound (InvalidUtf8 byte) r = (other : ℕ) × (r ≡ InvalidUtf8 other)
DifferInFound (Unexpected next found) r = (other : Found) × ((r ≡ Unexpected next other) ⊎ ((next ≡ Dot) × (r ≡ Unexpected Graph other)))
DifferInFound (NoScheme found) r = (other : Found) × (r ≡ NoScheme other)
DifferInFound (UnknownEscape found) r = (other : Found) × (r ≡ UnknownEscape other)
DifferInFound (NoDigit found) r = (other : Found) × (r ≡ NoDigit other)
DifferInFound (NoColon found) r = (other : Found) × (r ≡ NoColon other)
DifferInFound (LabelStart found) r = (other : Found) × (r ≡ LabelStart other)
DifferInFound (NoTag found) r = (other : Found) × (r ≡ NoTag other)
DifferInFound (NoSubtag found) r = (other : Found) × (r ≡ NoSubtag other)
DifferInFound (OneCaret found) r = (other : Found) × (r ≡ OneCaret other)
DifferInFound same r = r ≡ same
