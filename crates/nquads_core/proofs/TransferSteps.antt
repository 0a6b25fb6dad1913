-- One step after another on known bytes and counts.
use Rattle.std.proofs.Common.{ℕ, ◌+◌, ◌-◌, List, [], ◌++◌, length, take, drop, Option, Some, None, Result, Ok, Err, append_assoc, arith, ap, sym, ◌∙◌, refl}
use Rattle.std.proofs.lemmas.List.{append-nil, take_all, length-drop}
use Rattle.std.specs.Prelude.{OnErr}
use Rattle.std.specs.Io.KnownBytes.{Consumes, Appends, Keeps}
use Rattle.std.proofs.Math.Seq.{take-add}
use Rattle.nquads_core.specs.Device.{Stays, Rises}
use Rattle.nquads_core.specs.Transfer.{CountsRead, IsReadInPart}
use Rattle.nquads_core.specs.declared.transfer.ReadFault.{ReadFault}
use Rattle.nquads_core.specs.declared.transfer.ReadFault.TheVariants.{Read, Memory}

pub Consumes-more : (a b c : Option (List ℕ)) (xs ys : List ℕ) → Consumes a b xs → Consumes b c ys → Consumes a c (xs ++ ys)
Consumes-more None b c xs ys h k = tt
Consumes-more (Some a) None c xs ys h k = absurd h
Consumes-more (Some a) (Some b) None xs ys h k = absurd k
Consumes-more (Some a) (Some b) (Some c) xs ys h k = h ∙ ap (λ zs. xs ++ zs) k ∙ sym (append_assoc xs ys c)

pub Consumes-start : (a : Option (List ℕ)) → Consumes a a []
Consumes-start None = tt
Consumes-start (Some a) = refl

pub Consumes-kept : (a b : Option (List ℕ)) → Keeps a b → Consumes a b []
Consumes-kept None b h = tt
Consumes-kept (Some a) None h = absurd h
Consumes-kept (Some a) (Some b) h = sym h

-- what was taken before an Err is a beginning
pub in-part-none : (a : Option (List ℕ)) → IsReadInPart a a
in-part-none a = record { taken = []; consumed = Consumes-start a }

pub in-part-kept : (a b : Option (List ℕ)) → Keeps a b → IsReadInPart a b
in-part-kept a b h = record { taken = []; consumed = Consumes-kept a b h }

pub in-part-more : (a b c : Option (List ℕ)) (xs : List ℕ) → Consumes a b xs → IsReadInPart b c → IsReadInPart a c
in-part-more a b c xs h k = record { taken = xs ++ k.taken; consumed = Consumes-more a b c xs k.taken h k.consumed }

pub Appends-more : (a b c : Option (List ℕ)) (xs ys : List ℕ) → Appends a b xs → Appends b c ys → Appends a c (xs ++ ys)
Appends-more None b c xs ys h k = tt
Appends-more (Some a) None c xs ys h k = absurd h
Appends-more (Some a) (Some b) None xs ys h k = absurd k
Appends-more (Some a) (Some b) (Some c) xs ys h k = k ∙ ap (λ zs. zs ++ ys) h ∙ append_assoc a xs ys

pub Appends-start : (a : Option (List ℕ)) → Appends a a []
Appends-start None = tt
Appends-start (Some a) = sym (append-nil a)

pub Appends-keeps : (a b c : Option (List ℕ)) (xs : List ℕ) → Appends a b xs → Keeps b c → Appends a c xs
Appends-keeps None b c xs h k = tt
Appends-keeps (Some a) None c xs h k = absurd h
Appends-keeps (Some a) (Some b) None xs h k = absurd k
Appends-keeps (Some a) (Some b) (Some c) xs h k = k ∙ h

pub Appends-none : (a b c : Option (List ℕ)) (xs : List ℕ) → Appends a b xs → Appends b c [] → Appends a c xs
Appends-none None b c xs h k = tt
Appends-none (Some a) None c xs h k = absurd h
Appends-none (Some a) (Some b) None xs h k = absurd k
Appends-none (Some a) (Some b) (Some c) xs h k = k ∙ append-nil b ∙ h

pub Stays-start : (a : Option ℕ) → Stays a a
Stays-start None = tt
Stays-start (Some a) = refl

pub Stays-stays : (a b c : Option ℕ) → Stays a b → Stays b c → Stays a c
Stays-stays None b c h k = tt
Stays-stays (Some a) None c h k = absurd h
Stays-stays (Some a) (Some b) None h k = absurd k
Stays-stays (Some a) (Some b) (Some c) h k = k ∙ h

pub Stays-rises : (a b c : Option ℕ) → Stays a b → Rises b c → Rises a c
Stays-rises None b c h k = tt
Stays-rises (Some a) None c h k = absurd h
Stays-rises (Some a) (Some b) None h k = absurd k
Stays-rises (Some a) (Some b) (Some c) h k = rw (← h) k

-- a failure after reads that did not fail
pub fault_counts : (a b c : Option ℕ) (fault : ReadFault) → Stays a b → CountsRead {T = ℕ} b c (Err fault) → CountsRead {T = ℕ} a c (Err fault)
fault_counts a b c Read h k = Stays-rises a b c h k
fault_counts a b c Memory h k = Stays-stays a b c h k

-- what is true is true of an error
pub on_error : {T E : Type 0} (r : Result T E) (P : Type 0) → P → OnErr r P
on_error (Ok v) P p = tt
on_error (Err e) P p = p

-- the next n of the bytes from at on
pub Appends-next : (a b c : Option (List ℕ)) (xs : List ℕ) (at n : ℕ) → Appends a b (take at xs) → Appends b c (take n (take (length xs - at) (drop at xs))) → Appends a c (take (at + n) xs)
Appends-next a b c xs at n h k =
    rw (take-add at n xs) (Appends-more a b c (take at xs) (take n (drop at xs)) h (rw (take_all (length xs - at) (drop at xs) (omega (arith, length-drop at xs))) at k))
