-- A prefix of two texts that follow each other.
use Rattle.std.proofs.Common.{◌≡◌, ◌⊎◌, inl, inr, ℕ, ◌+◌, ◌^◌, ◌-◌, ◌≤◌, List, [], ◌++◌, length, min, take, drop, Option, None, Some, Result, OnOk, OnErr, sym, ap, ◌∙◌, subst, arith, append_assoc, append-nil, length-drop}
use Rattle.std.proofs.Math.Seq.{take-append-add}
use Rattle.std.proofs.lemmas.List.{take-append-le, take-append-drop, length-append}
use Rattle.std.specs.Io.KnownBytes.{Appends}
use Rattle.nquads_core.proofs.TransferSteps.{Appends-more}
use Rattle.nquads_core.specs.Device.{Rises, Stays}
use Rattle.nquads_core.specs.Transfer.{TookNone, WroteBeginning}
use Rattle.nquads_core.specs.declared.device.DeviceFailed.{DeviceFailed}
use Rattle.spq_run.specs.Report.{fault_line}
use Rattle.spq_run.specs.Writing.{WriterFailed}
use Rattle.spq_run.specs.declared.fault.RunFault.{RunFault}

pub front_begun : (a b : Option (List ℕ)) (front back : List ℕ) → WroteBeginning a b front → WroteBeginning a b (front ++ back)
front_begun a b front back w =
    let l = length-append front back in
    let s = w.short in
    let k : w.count ≤ length front = omega arith in
    record { count = w.count; short = omega arith; appended = subst (λ (t : List ℕ). Appends a b t) (sym (take-append-le w.count front back k)) w.appended }

pub back_begun : (a b c : Option (List ℕ)) (front back : List ℕ) → Appends a b front → WroteBeginning b c back → WroteBeginning a c (front ++ back)
back_begun a b c front back h w =
    let l = length-append front back in
    let s = w.short in
    record { count = length front + w.count; short = omega arith; appended = subst (λ (t : List ℕ). Appends a c t) (sym (take-append-add front back w.count)) (Appends-more a b c front (take w.count back) h w.appended) }

-- ---- counts of failures, one step after the other

pub stays_stays : (a b c : Option ℕ) → Stays a b → Stays b c → Stays a c
stays_stays None b c h k = tt
stays_stays (Some n) None c h k = absurd h
stays_stays (Some n) (Some m) None h k = absurd k
stays_stays (Some n) (Some m) (Some l) h k = k ∙ h

pub stays_rises : (a b c : Option ℕ) → Stays a b → Rises b c → Rises a c
stays_rises None b c h k = tt
stays_rises (Some n) None c h k = absurd h
stays_rises (Some n) (Some m) None h k = absurd k
stays_rises (Some n) (Some m) (Some l) h k = k ∙ ap (λ (x : ℕ). min (x + 1) (2 ^ 64 - 1)) h

-- ---- why a text was not written whole

pub text_failed : {K : Type 0} (gives : K → List ℕ → Result ℕ DeviceFailed → K → Type 0) (a b : Option ℕ) (p q : Option (List ℕ)) (text : List ℕ) (writer : K)
    → Rises a b ⊎ (TookNone gives p q text writer × Stays a b) → WriterFailed gives a b p q text writer
text_failed gives a b p q text writer (inl h) = inl h
text_failed gives a b p q text writer (inr h) =
    let at = h.0.at in
    let l = length-drop at text in
    let w = h.0.left in
    inr (
      record {
        before = h.0.before;
        front = take at text;
        given = drop at text;
        back = [];
        parts = sym (take-append-drop at text) ∙ ap (λ (x : List ℕ). take at text ++ x) (sym (append-nil (drop at text)));
        some = omega arith;
        written = h.0.written;
        none = h.0.none;
      },
      h.1,
    )

pub front_failed : {K : Type 0} (gives : K → List ℕ → Result ℕ DeviceFailed → K → Type 0) (a b : Option ℕ) (p q : Option (List ℕ)) (front back : List ℕ) (writer : K)
    → WriterFailed gives a b p q front writer → WriterFailed gives a b p q (front ++ back) writer
front_failed gives a b p q front back writer (inl h) = inl h
front_failed gives a b p q front back writer (inr h) =
    let t = h.0 in
    inr (
      record {
        before = t.before;
        front = t.front;
        given = t.given;
        back = t.back ++ back;
        parts = ap (λ (x : List ℕ). x ++ back) t.parts ∙ append_assoc t.front (t.given ++ t.back) back ∙ ap (λ (x : List ℕ). t.front ++ x) (append_assoc t.given t.back back);
        some = t.some;
        written = t.written;
        none = t.none;
      },
      h.1,
    )

pub back_failed : {K : Type 0} (gives : K → List ℕ → Result ℕ DeviceFailed → K → Type 0) (a b c : Option ℕ) (p q r : Option (List ℕ)) (front back : List ℕ) (writer : K)
    → Stays a b → Appends p q front → WriterFailed gives b c q r back writer → WriterFailed gives a c p r (front ++ back) writer
back_failed gives a b c p q r front back writer s h (inl w) = inl (stays_rises a b c s w)
back_failed gives a b c p q r front back writer s h (inr w) =
    let t = w.0 in
    inr (
      record {
        before = t.before;
        front = front ++ t.front;
        given = t.given;
        back = t.back;
        parts = ap (λ (x : List ℕ). front ++ x) t.parts ∙ sym (append_assoc front t.front (t.given ++ t.back));
        some = t.some;
        written = Appends-more p q r front t.front h t.written;
        none = t.none;
      },
      stays_stays a b c s w.1,
    )

-- ---- a text that is the line of a fault

module _ {T K : Type 0} (gives : K → List ℕ → Result ℕ DeviceFailed → K → Type 0) (f g : RunFault) (is : f ≡ g) (result : Result T DeviceFailed) where
  pub line_written : (a b : Option (List ℕ)) → OnOk result (Appends a b (fault_line g)) → OnOk result (Appends a b (fault_line f))
  line_written a b h = subst (λ (x : RunFault). OnOk result (Appends a b (fault_line x))) (sym is) h

  pub line_begun : (a b : Option (List ℕ)) → OnErr result (WroteBeginning a b (fault_line g)) → OnErr result (WroteBeginning a b (fault_line f))
  line_begun a b h = subst (λ (x : RunFault). OnErr result (WroteBeginning a b (fault_line x))) (sym is) h

  pub line_failed : (a b : Option ℕ) (p q : Option (List ℕ)) (writer : K) → OnErr result (WriterFailed gives a b p q (fault_line g) writer) → OnErr result (WriterFailed gives a b p q (fault_line f) writer)
  line_failed a b p q writer h = subst (λ (x : RunFault). OnErr result (WriterFailed gives a b p q (fault_line x) writer)) (sym is) h
