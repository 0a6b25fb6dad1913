-- What the devices of a run have left, and which error they keep (choices of this project).
use Rattle.std.specs.Prelude.{◌≡◌, Bool, true, false, ℕ, List, [], Option, Some, Result, Ok, Err, unwrap_or}
use Rattle.nquads_core.specs.declared.device.DeviceFailed.{DeviceFailed}

-- what the reader has left, and nothing after its end was read
abbrev pub left_of : Bool → Option (List ℕ) → Option (List ℕ)
left_of true left = Some []
left_of false left = left

-- The first error is kept: a call that succeeds keeps what was kept, and one that fails keeps its error if none was kept.
abbrev pub KeepsFirst : {E : Type 0} → Option E → Result ℕ DeviceFailed → Option E → Type 0
KeepsFirst before (Ok count) after = after ≡ before
KeepsFirst {E} before (Err failed) after = (error : E) × (after ≡ Some (unwrap_or before error))
