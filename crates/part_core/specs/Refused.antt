-- Why `plan` has no plan for what it reads, and `needed` no query (choices of this project).
use Rattle.std.specs.Prelude.{◌≡◌, ◌⊎◌, ℕ, List, ◌++◌, length, IsUtf8}
use Rattle.std.specs.Str.{chars}
use Rattle.sparql_read.specs.Rejection.{IsRejectedBy}
use Rattle.sparql_read.specs.declared.fault.QueryFault.{QueryFault}
use Rattle.query_split.specs.declared.split.Split.{Split}
use Rattle.query_plan.specs.Refused.{IsRefusal}
use Rattle.query_plan.specs.declared.planning.PlanFault.{PlanFault}
use Rattle.query_plan.specs.declared.planning.PlanFault.TheVariants as reason
use Rattle.part_core.specs.declared.command.Command.{Command}
use Rattle.part_core.specs.declared.command.Command.TheVariants.{Needed, Plan}
use Rattle.part_core.specs.declared.fault.PartFault.{PartFault}
use Rattle.part_core.specs.declared.fault.PartFault.TheVariants as fault

-- the fault of a text without a plan
abbrev pub fault_of : PlanFault → PartFault
fault_of reason.Query = fault.Query
fault_of reason.Condition = fault.Split
fault_of reason.Sum = fault.Sum
fault_of reason.Offset = fault.Offset
fault_of reason.Memory = fault.Memory

-- The text is not UTF-8, or it has no plan for this reason.
abbrev pub IsUnplanned : Split → List ℕ → PartFault → Type 0
IsUnplanned split text found =
    (¬ (IsUtf8 text) × (found ≡ fault.Query)) ⊎ ((r : PlanFault) × IsRefusal split text r × (found ≡ fault_of r))

-- The text is not UTF-8, or this rule rejects it.
abbrev pub IsNoQuery : List ℕ → PartFault → Type 0
IsNoQuery text found = (¬ (IsUtf8 text) ⊎ ((r : QueryFault) × IsRejectedBy (chars text) r)) × (found ≡ fault.Query)

-- so it is of the first bytes, of which there are `count`
pub record IsNoQueryBefore (count : ℕ) (input : List ℕ) (found : PartFault) : Type 0 where
  pub text : List ℕ
  pub block : List ℕ
  pub first : length text ≡ count
  pub read : input ≡ text ++ block
  pub rejected : IsNoQuery text found

-- only `plan` and `needed` have such a fault
abbrev pub IsRefusedInput : Command → List ℕ → PartFault → Type 0
IsRefusedInput (Plan split) input found = IsUnplanned split input found
IsRefusedInput (Needed count) input found = IsNoQueryBefore count input found
IsRefusedInput _ input found = ⊥
