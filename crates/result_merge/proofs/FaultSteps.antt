-- What is returned after an error.
use Rattle.std.proofs.Common.{◌≡◌, Result, Ok, Err, IfErr, ◌∙◌, sym}
use Rattle.std.specs.Result.{IsErrAnd}
use Rattle.std.proofs.lemmas.Result.{IfErr-weaker}
use Rattle.result_merge.specs.declared.fault.MergeFault.{MergeFault}
use Rattle.result_merge.specs.declared.fault.MergeFault.TheVariants.{Damaged, Memory}

-- what holds of every error
pub on_error : {X : Type 0} (r : Result X MergeFault) (P : Type 0) → P → IfErr r (λ fault. fault ≡ Damaged → P)
on_error (Ok x) P p = tt
on_error (Err fault) P p = λ damaged. p

-- what holds if the error of a call is `Damaged`
pub on_fault : {X : Type 0} (r : Result X MergeFault) (fault : MergeFault) (P : Type 0) → IsErrAnd r (λ e. e ≡ fault) → (fault ≡ Damaged → P) → IfErr r (λ fault. fault ≡ Damaged → P)
on_fault (Ok x) fault P h k = tt
on_fault (Err e) fault P h k = λ damaged. k (sym h ∙ damaged)

-- out of memory is not damaged
pub only_memory : (fault : MergeFault) (P : Type 0) → fault ≡ Memory → fault ≡ Damaged → P
only_memory fault P m d = let no : ⊥ = cc in absurd no

pub if_memory : {X : Type 0} (r : Result X MergeFault) (P : Type 0) → IfErr r (λ fault. fault ≡ Memory) → IfErr r (λ fault. fault ≡ Damaged → P)
if_memory r P h = IfErr-weaker r (λ fault. fault ≡ Memory) (λ fault. fault ≡ Damaged → P) (λ fault m d. only_memory fault P m d) h

-- a weaker fact of the error of a call that is returned as it is
pub if_fault : {X : Type 0} (r : Result X MergeFault) (P Q : Type 0) → (P → Q) → IfErr r (λ fault. fault ≡ Damaged → P) → IfErr r (λ fault. fault ≡ Damaged → Q)
if_fault r P Q f h = IfErr-weaker r (λ fault. fault ≡ Damaged → P) (λ fault. fault ≡ Damaged → Q) (λ fault k damaged. f (k damaged)) h
