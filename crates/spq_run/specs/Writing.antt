-- Why a text was not written whole.
use Rattle.std.specs.Prelude.{◌≡◌, ◌⊎◌, ◌<◌, ◌++◌, ℕ, List, length, Option, Result, Ok}
use Rattle.std.specs.Io.KnownBytes.{Appends}
use Rattle.nquads_core.specs.Device.{Rises, Stays}
use Rattle.nquads_core.specs.declared.device.DeviceFailed.{DeviceFailed}

-- The device is as a write left it that was given some bytes of the text and took none of them. They are
-- the next bytes of the text: exactly `front`, which precedes them, was written. `held` is what the device
-- held before any of the text was written, and `held'` is what it holds now. The bytes after them are `back`.
pub record TookNoneOf {K : Type 0} (write_gives : K → List ℕ → Result ℕ DeviceFailed → K → Type 0)
    (held held' : Option (List ℕ)) (text : List ℕ) (device : K) : Type 0 where
  pub before : K
  pub front : List ℕ
  pub given : List ℕ
  pub back : List ℕ
  pub parts : text ≡ front ++ (given ++ back)
  pub some : 0 < length given
  pub written : Appends held held' front
  pub none : write_gives before given (Ok 0) device

-- The writer failed, or it is as a write left it that took none of the next bytes of the text, and then
-- no call of it failed.
abbrev pub WriterFailed : {K : Type 0} → (K → List ℕ → Result ℕ DeviceFailed → K → Type 0) → Option ℕ → Option ℕ → Option (List ℕ) → Option (List ℕ) → List ℕ → K → Type 0
WriterFailed write_gives failures failures' held held' text writer' = Rises failures failures' ⊎ (TookNoneOf write_gives held held' text writer' × Stays failures failures')
