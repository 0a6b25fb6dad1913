-- The faults of the crates below are those of a command.
use Rattle.std.proofs.Common.{◌≡◌, ℕ, inl, inr, List, Option, refl, sym, subst}
use Rattle.std.specs.Prelude.{◌⊎◌, Result, Err}
use Rattle.nquads_core.specs.Device.{Rises, Stays}
use Rattle.nquads_core.specs.Transfer.{CountsRead}
use Rattle.nquads_core.specs.declared.fault.PieceFault.{PieceFault}
use Rattle.nquads_core.specs.declared.fault.PieceFault.TheVariants as piece
use Rattle.nquads_core.specs.declared.transfer.ReadFault.{ReadFault}
use Rattle.nquads_core.specs.declared.transfer.ReadFault.TheVariants as reading
use Rattle.cluster_parts.specs.Seal.{IsFaultOf}
use Rattle.cluster_parts.specs.declared.sealing.SealFault.{SealFault}
use Rattle.cluster_parts.specs.declared.sealing.SealFault.TheVariants as seal
use Rattle.query_plan.specs.Refused.{IsRefusal}
use Rattle.query_plan.specs.declared.planning.PlanFault.{PlanFault}
use Rattle.query_plan.specs.declared.planning.PlanFault.TheVariants as reason
use Rattle.query_split.specs.declared.split.Split.{Split}
use Rattle.result_merge.specs.declared.fault.MergeFault.{MergeFault}
use Rattle.result_merge.specs.declared.fault.MergeFault.TheVariants as merging
use Rattle.part_core.specs.Faults.{IsFault, IsWhole, of_merge, of_piece, of_read, of_seal}
use Rattle.part_core.specs.Output.{IsBadInput}
use Rattle.part_core.specs.Refused.{IsNoQuery, IsNoQueryBefore, fault_of}
use Rattle.part_core.specs.Run.{HasFault, IsUnanswered}
use Rattle.part_core.specs.declared.command.Command.{Command}
use Rattle.part_core.specs.declared.command.Command.TheVariants.{Needed, Plan}
use Rattle.part_core.specs.declared.fault.PartFault.{PartFault}
use Rattle.part_core.specs.declared.fault.PartFault.TheVariants as fault

pub block_fault : (command : Command) (input : List ℕ) (f : PieceFault) → ((k : ℕ) → f ≡ piece.BadLine k → IsBadInput command input k) → IsFault command input (of_piece f)
block_fault command input (piece.BadLine k) h = h k refl
block_fault command input piece.Memory h = tt

pub seal_fault : (command : Command) (input : List ℕ) (f : SealFault) → IsFaultOf (IsWhole command input) input f → IsFault command input (of_seal f)
seal_fault command input seal.Version h = h
seal_fault command input seal.Damaged h = h
seal_fault command input seal.Memory h = tt

pub merge_fault : (command : Command) (input : List ℕ) (f : MergeFault) → (f ≡ merging.Damaged → IsWhole command input → ⊥) → IsFault command input (of_merge f)
merge_fault command input merging.Damaged h = h refl
merge_fault command input merging.Memory h = tt

pub plan_fault : (split : Split) (input : List ℕ) (f : PlanFault) → IsRefusal split input f → IsFault (Plan split) input (fault_of f)
plan_fault split input reason.Query h = inr (reason.Query, h, refl)
plan_fault split input reason.Condition h = inr (reason.Condition, h, refl)
plan_fault split input reason.Sum h = inr (reason.Sum, h, refl)
plan_fault split input reason.Offset h = inr (reason.Offset, h, refl)
plan_fault split input reason.Memory h = tt

pub query_fault : (count : ℕ) (input text : List ℕ) (f : PartFault) → (IsNoQuery text f → IsNoQueryBefore count input f) → (f ≡ fault.Memory) ⊎ IsNoQuery text f → IsFault (Needed count) input f
query_fault count input text f before (inl e) = subst (IsFault (Needed count) input) (sym e) tt
query_fault count input text f before (inr x) =
    let no = before x in
    subst (IsFault (Needed count) input) (sym x.1) (subst (IsNoQueryBefore count input) x.1 no)

-- ---- of a run

pub read_fault : (command : Command) (left left' : Option (List ℕ)) (f : ReadFault) → HasFault command left left' (of_read f)
read_fault command left left' reading.Read = tt
read_fault command left left' reading.Memory = tt

pub unanswered : (command : Command) (left left' : Option (List ℕ)) (f : PartFault) → IsUnanswered command left left' f → HasFault command left left' f
unanswered command left left' (fault.BadLine k) h = h
unanswered command left left' fault.Version h = h
unanswered command left left' fault.Damaged h = h
unanswered command left left' fault.Memory h = tt
unanswered command left left' fault.Read h = tt
unanswered command left left' fault.Write h = tt
unanswered command left left' fault.Line h = h
unanswered command left left' fault.Query h = h
unanswered command left left' fault.Split h = h
unanswered command left left' fault.Sum h = h
unanswered command left left' fault.Offset h = h

-- the input was not read to its end
module _ {T : Type 0} (V : Type 0) (old new : Option ℕ) (r : PartFault) (result : Result T PartFault) (returned : result ≡ Err r) where
  pub read_rises : (f : ReadFault) → CountsRead {T = V} old new (Err f) → r ≡ of_read f → result ≡ Err fault.Read → Rises old new
  read_rises reading.Read h is e = h
  read_rises reading.Memory h is e = absurd (cc)

  pub read_stays : (f : ReadFault) → CountsRead {T = V} old new (Err f) → r ≡ of_read f → (result ≡ Err fault.Read → ⊥) → Stays old new
  read_stays reading.Read h is other = absurd (other (cc))
  read_stays reading.Memory h is other = h

module _ {T : Type 0} (r : PartFault) (result : Result T PartFault) (returned : result ≡ Err r) where
  pub read_no_write : (f : ReadFault) → r ≡ of_read f → result ≡ Err fault.Write → ⊥
  read_no_write reading.Read is e = absurd (cc)
  read_no_write reading.Memory is e = absurd (cc)

  -- nor does a command fail so
  pub no_read : (command : Command) (input : List ℕ) → IsFault command input r → result ≡ Err fault.Read → ⊥
  no_read command input h e = let same : r ≡ fault.Read = cc in subst (IsFault command input) same h

  pub no_write : (command : Command) (input : List ℕ) → IsFault command input r → result ≡ Err fault.Write → ⊥
  no_write command input h e = let same : r ≡ fault.Write = cc in subst (IsFault command input) same h
