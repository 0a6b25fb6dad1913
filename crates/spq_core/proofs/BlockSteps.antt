-- A prefix of blocks that follow each other.
use Rattle.std.proofs.Common.{◌≡◌, ℕ, suc, ◌+◌, ◌<◌, List, [], ◌∷◌, ◌++◌, length, get_or, take, drop, Option, Result, Vec, Global, sym, ap, ◌∙◌, subst, append-nil}
use Rattle.std.specs.Io.KnownBytes.{Appends}
use Rattle.std.proofs.Math.Seq.{drop-cons}
use Rattle.std.proofs.lemmas.List.{take_more, take-append-drop}
use Rattle.std.proofs.lemmas.List.Concat.{flat_map-append}
use Rattle.nquads_core.specs.Transfer.{WroteBeginning}
use Rattle.result_json.specs.Results.{joined_blocks}
use Rattle.nquads_core.specs.Device.{Stays}
use Rattle.nquads_core.specs.declared.device.DeviceFailed.{DeviceFailed}
use Rattle.spq_run.specs.Writing.{WriterFailed}
use Rattle.spq_run.proofs.ReportSteps.{back_begun, back_failed, front_begun, front_failed}

-- the blocks before a block, the block, and the blocks after it
joined_split : (blocks : List (Vec ℕ Global)) (i : ℕ) (block : Vec ℕ Global) → i < length blocks → block ≡ get_or blocks i block
    → joined_blocks blocks ≡ joined_blocks (take i blocks) ++ (block.items ++ joined_blocks (drop (suc i) blocks))
joined_split blocks i block low at =
    let e : drop i blocks ≡ block ∷ drop (suc i) blocks = drop-cons blocks i block low ∙ ap (λ (b : Vec ℕ Global). b ∷ drop (suc i) blocks) (sym at) in
    ap joined_blocks (sym (take-append-drop i blocks)) ∙ flat_map-append (λ (b : Vec ℕ Global). b.items) (take i blocks) (drop i blocks)
    ∙ ap (λ (bs : List (Vec ℕ Global)). joined_blocks (take i blocks) ++ joined_blocks bs) e

-- all blocks before this one were written, and of its text a beginning
pub block_begun : (a b c : Option (List ℕ)) (blocks : List (Vec ℕ Global)) (i : ℕ) (block : Vec ℕ Global) (text : List ℕ) → i < length blocks → block ≡ get_or blocks i block → text ≡ block.items
    → Appends a b (joined_blocks (take i blocks)) → WroteBeginning b c text → WroteBeginning a c (joined_blocks blocks)
block_begun a b c blocks i block text low at is h w =
    let back = joined_blocks (drop (suc i) blocks) in
    let begun : WroteBeginning b c block.items = subst (λ (t : List ℕ). WroteBeginning b c t) is w in
    subst (λ (t : List ℕ). WroteBeginning a c t) (sym (joined_split blocks i block low at))
    (back_begun a b c (joined_blocks (take i blocks)) (block.items ++ back) h (front_begun b c block.items back begun))

-- and the writer failed in this block
pub block_failed : {K : Type 0} (gives : K → List ℕ → Result ℕ DeviceFailed → K → Type 0) (a b c : Option ℕ) (p q r : Option (List ℕ)) (blocks : List (Vec ℕ Global)) (i : ℕ) (block : Vec ℕ Global) (text : List ℕ) (writer : K) → i < length blocks
    → block ≡ get_or blocks i block → text ≡ block.items → Stays a b → Appends p q (joined_blocks (take i blocks)) → WriterFailed gives b c q r text writer → WriterFailed gives a c p r (joined_blocks blocks) writer
block_failed gives a b c p q r blocks i block text writer low at is s h w =
    let back = joined_blocks (drop (suc i) blocks) in
    let failed : WriterFailed gives b c q r block.items writer = subst (λ (t : List ℕ). WriterFailed gives b c q r t writer) is w in
    subst (λ (t : List ℕ). WriterFailed gives a c p r t writer) (sym (joined_split blocks i block low at))
    (back_failed gives a b c p q r (joined_blocks (take i blocks)) (block.items ++ back) writer s h (front_failed gives b c q r block.items back writer failed))

-- one more block is joined
pub block_joined : (blocks : List (Vec ℕ Global)) (i : ℕ) (block : Vec ℕ Global) (text bytes bytes' : List ℕ) → i < length blocks → block ≡ get_or blocks i block → text ≡ block.items
    → bytes ≡ joined_blocks (take i blocks) → bytes' ≡ bytes ++ text → bytes' ≡ joined_blocks (take (i + 1) blocks)
block_joined blocks i block text bytes bytes' low at is was more =
    let e : take (i + 1) blocks ≡ take i blocks ++ block ∷ [] = take_more blocks i block low ∙ ap (λ (b : Vec ℕ Global). take i blocks ++ b ∷ []) (sym at) in
    more ∙ (λ k. was k ++ is k) ∙ ap (λ (x : List ℕ). joined_blocks (take i blocks) ++ x) (sym (append-nil block.items))
    ∙ sym (flat_map-append (λ (b : Vec ℕ Global). b.items) (take i blocks) (block ∷ [])) ∙ ap joined_blocks (sym e)
