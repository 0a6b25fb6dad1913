-- Why a command has no output for what it reads (choices of this project).
use Rattle.std.specs.Prelude.{◌≤◌, ⊤, ℕ, List, length}
use Rattle.cluster_parts.specs.Input.{AreListAndMarks, AreSealedLists, BeginWithLists}
use Rattle.cluster_parts.specs.Seal.{AreSealed, HasOtherHead}
use Rattle.cluster_parts.specs.declared.sealing.SealFault.{SealFault}
use Rattle.cluster_parts.specs.declared.sealing.SealFault.TheVariants as seal
use Rattle.nquads_core.specs.declared.fault.PieceFault.{PieceFault}
use Rattle.nquads_core.specs.declared.fault.PieceFault.TheVariants as piece
use Rattle.nquads_core.specs.declared.transfer.ReadFault.{ReadFault}
use Rattle.nquads_core.specs.declared.transfer.ReadFault.TheVariants as reading
use Rattle.result_merge.specs.Merging.{AreResults}
use Rattle.result_merge.specs.declared.fault.MergeFault.{MergeFault}
use Rattle.result_merge.specs.declared.fault.MergeFault.TheVariants as merging
use Rattle.part_core.specs.Output.{IsBadInput}
use Rattle.part_core.specs.Refused.{IsRefusedInput}
use Rattle.part_core.specs.declared.command.Command.{Command}
use Rattle.part_core.specs.declared.command.Command.TheVariants.{Count, Repeated, Again, First, Keep, Needed, Unseal, Merge}
use Rattle.part_core.specs.declared.fault.PartFault.{PartFault}
use Rattle.part_core.specs.declared.fault.PartFault.TheVariants as fault

-- The input is what the command reads: sealed texts, lists or marks, the results of parts, or this many bytes and more. A block
-- may have any bytes, and so may a query.
abbrev pub IsWhole : Command → List ℕ → Type 0
IsWhole Count input = AreSealed input
IsWhole First input = AreSealed input
IsWhole Unseal input = AreSealed input
IsWhole Repeated input = AreSealedLists input
IsWhole (Again partitions) input = BeginWithLists partitions input
IsWhole Keep input = AreListAndMarks input
IsWhole (Needed count) input = count ≤ length input
IsWhole (Merge m) input = AreResults input
IsWhole _ input = ⊤

-- Why the command has no output for this input. Memory says nothing about it.
abbrev pub IsFault : Command → List ℕ → PartFault → Type 0
IsFault command input (fault.BadLine k) = IsBadInput command input k
IsFault command input fault.Version = HasOtherHead input × (IsWhole command input → ⊥)
IsFault command input fault.Damaged = IsWhole command input → ⊥
IsFault command input fault.Memory = ⊤
IsFault command input fault.Read = ⊥
IsFault command input fault.Write = ⊥
IsFault command input fault.Line = ⊥
IsFault command input fault.Query = IsRefusedInput command input fault.Query
IsFault command input fault.Split = IsRefusedInput command input fault.Split
IsFault command input fault.Sum = IsRefusedInput command input fault.Sum
IsFault command input fault.Offset = IsRefusedInput command input fault.Offset

-- ---- faults of the crates below, under the same names

abbrev pub of_piece : PieceFault → PartFault
of_piece (piece.BadLine k) = fault.BadLine k
of_piece piece.Memory = fault.Memory

abbrev pub of_seal : SealFault → PartFault
of_seal seal.Version = fault.Version
of_seal seal.Damaged = fault.Damaged
of_seal seal.Memory = fault.Memory

abbrev pub of_merge : MergeFault → PartFault
of_merge merging.Damaged = fault.Damaged
of_merge merging.Memory = fault.Memory

abbrev pub of_read : ReadFault → PartFault
of_read reading.Read = fault.Read
of_read reading.Memory = fault.Memory
