-- What a run did to its reader and its writer, and why it failed.
use Rattle.std.specs.Prelude.{◌⊎◌, ℕ, ⊤, List, Option, Result}
use Rattle.std.specs.Io.KnownBytes.{Appends, Consumes, IsAtEnd}
use Rattle.nquads_core.specs.Device.{Rises, Stays}
use Rattle.nquads_core.specs.Transfer.{TookNone, WroteBeginning}
use Rattle.nquads_core.specs.declared.device.DeviceFailed.{DeviceFailed}
use Rattle.part_core.specs.Faults.{IsFault}
use Rattle.part_core.specs.Output.{IsOutput}
use Rattle.part_core.specs.declared.command.Command.{Command}
use Rattle.part_core.specs.declared.fault.PartFault.{PartFault}
use Rattle.part_core.specs.declared.fault.PartFault.TheVariants.{Memory, Read, Write}

-- The reader was read to its end, and this is the output for what was read.
pub record IsComposed (command : Command) (left left' : Option (List ℕ)) (output : List ℕ) : Type 0 where
  pub input : List ℕ
  pub consumed : Consumes left left' input
  pub at_end : IsAtEnd left'
  pub is_output : IsOutput command input output

-- The output for what was read was written, and nothing else.
pub record IsDone (command : Command) (left left' held held' : Option (List ℕ)) : Type 0 where
  pub output : List ℕ
  pub composed : IsComposed command left left' output
  pub written : Appends held held' output

-- A beginning of the output for what was read was written, and not all of it: the writer failed, or it took no byte of the
-- rest, and then no call of it failed.
pub record IsWrittenInPart {K : Type 0} (command : Command) (left left' : Option (List ℕ))
    (held : K → Option (List ℕ)) (failures : K → Option ℕ)
    (gives : K → List ℕ → Result ℕ DeviceFailed → K → Type 0) (writer writer' : K) : Type 0 where
  pub output : List ℕ
  pub composed : IsComposed command left left' output
  pub part : WroteBeginning (held writer) (held writer') output
  pub failed : Rises (failures writer) (failures writer')
      ⊎ (TookNone gives (held writer) (held writer') output writer' × Stays (failures writer) (failures writer'))

-- The reader was read to its end, and for this reason the command has no output for what was read.
pub record IsUnanswered (command : Command) (left left' : Option (List ℕ)) (fault : PartFault) : Type 0 where
  pub input : List ℕ
  pub consumed : Consumes left left' input
  pub at_end : IsAtEnd left'
  pub reason : IsFault command input fault

-- Why a run failed. Memory, the reader and the writer say nothing about what was read.
abbrev pub HasFault : Command → Option (List ℕ) → Option (List ℕ) → PartFault → Type 0
HasFault command left left' Memory = ⊤
HasFault command left left' Read = ⊤
HasFault command left left' Write = ⊤
HasFault command left left' fault = IsUnanswered command left left' fault
