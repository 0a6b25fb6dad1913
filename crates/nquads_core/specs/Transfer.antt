-- What reading to the end and writing a whole text leave in a device.
use Rattle.std.specs.Prelude.{◌≡◌, ℕ, ◌<◌, List, length, take, drop, ◌++◌, Option, Result, Ok, Err}
use Rattle.std.specs.Io.KnownBytes.{Consumes, Appends, IsAtEnd}
use Rattle.nquads_core.specs.declared.device.DeviceFailed.{DeviceFailed}
use Rattle.nquads_core.specs.declared.transfer.ReadFault.{ReadFault}
use Rattle.nquads_core.specs.declared.transfer.ReadFault.TheVariants.{Read, Memory}
use Rattle.nquads_core.specs.Device.{Rises, Stays}

-- One more read: what it added to the bytes is what it took from the reader, and nothing at the
-- end alone.
pub record ReadsMore (left left' : Option (List ℕ)) (old new : List ℕ) (n : ℕ) : Type 0 where
  pub added : List ℕ
  pub count : length added ≡ n
  pub appended : new ≡ old ++ added
  pub consumed : Consumes left left' added
  pub at_end : n ≡ 0 → IsAtEnd left'

-- A beginning of what was left was taken: perhaps none of it, and perhaps all.
pub record IsReadInPart (left left' : Option (List ℕ)) : Type 0 where
  pub taken : List ℕ
  pub consumed : Consumes left left' taken

-- The count of failures rises exactly where the reader failed.
abbrev pub CountsRead : {T : Type 0} → Option ℕ → Option ℕ → Result T ReadFault → Type 0
CountsRead old new (Ok v) = Stays old new
CountsRead old new (Err Read) = Rises old new
CountsRead old new (Err Memory) = Stays old new

-- A beginning of the text was written, and less than all of it.
pub record WroteBeginning (held held' : Option (List ℕ)) (text : List ℕ) : Type 0 where
  pub count : ℕ
  pub short : count < length text
  pub appended : Appends held held' (take count text)

-- The device is as a write left it that took none of what was left of the text, which was not empty.
-- Exactly what precedes that was written: `held` is what the device held before any of the text was
-- written, and `held'` is what it holds now.
pub record TookNone {K : Type 0} (write_gives : K → List ℕ → Result ℕ DeviceFailed → K → Type 0)
    (held held' : Option (List ℕ)) (text : List ℕ) (device : K) : Type 0 where
  pub before : K
  pub at : ℕ
  pub left : at < length text
  pub written : Appends held held' (take at text)
  pub none : write_gives before (drop at text) (Ok 0) device
