-- Lists of hashes.
use Rattle.std.proofs.Common.{◌≡◌, ℕ, ◌+◌, ◌<◌, List, [], ◌∷◌, ◌++◌, length, map, get_or, take, slice_get, Some, sym, ap, ◌∙◌, arith}
use Rattle.std.proofs.lemmas.List.{get_or-map, length-map, map-append, take_more}
use Rattle.std.proofs.lemmas.Option.{get_or_from_slice_get, slice_get_within}
use Rattle.keyed_hash.specs.declared.HashState.{HashState}
use Rattle.nquads_core.specs.declared.slices.RawStatement.{RawStatement}
use Rattle.text_pieces.specs.declared.hashes.SliceHashes.{SliceHashes}
use Rattle.text_pieces.specs.Hashes.{hashes_of}

-- the hash of one more text
pub hashes_more : (f : List ℕ → ℕ) (texts : List (List ℕ)) (n : ℕ) (text : List ℕ) (hashes more : List ℕ) → hashes ≡ map f (take n texts) → slice_get texts n ≡ Some text
    → more ≡ hashes ++ f text ∷ [] → more ≡ map f (take (n + 1) texts)
hashes_more f texts n text hashes more was at pushed =
    let low = slice_get_within texts n text at in
    let is : get_or texts n [] ≡ text = get_or_from_slice_get texts n text [] at in
    let longer : take (n + 1) texts ≡ take n texts ++ text ∷ [] = take_more texts n [] low ∙ ap (λ t. take n texts ++ t ∷ []) is in
    pushed ∙ ap (λ l. l ++ f text ∷ []) was ∙ sym (map-append f (take n texts) (text ∷ [])) ∙ ap (map f) (sym longer)

-- the hash of the text with a number
pub hash_at : (f : List ℕ → ℕ) (texts : List (List ℕ)) (n : ℕ) (text : List ℕ) (hashes : List ℕ) → hashes ≡ map f texts → slice_get texts n ≡ Some text → get_or hashes n 0 ≡ f text
hash_at f texts n text hashes is at =
    ap (λ l. get_or l n 0) is ∙ get_or-map f texts n [] 0 (slice_get_within texts n text at) ∙ ap f (get_or_from_slice_get texts n text [] at)

-- as many hashes as there are texts
pub hash_within : (f : List ℕ → ℕ) (texts : List (List ℕ)) (n : ℕ) (hashes : List ℕ) → hashes ≡ map f texts → n < length texts → n < length hashes
hash_within f texts n hashes is low = omega (arith, ap length is, length-map texts f, low)

-- the same of statements
pub statement_hashes_at : (state : HashState) (raws : List RawStatement) (i : ℕ) (d : RawStatement) (e : SliceHashes) (hashes : List SliceHashes) → hashes ≡ map (hashes_of state) raws
    → i < length raws → get_or hashes i e ≡ hashes_of state (get_or raws i d)
statement_hashes_at state raws i d e hashes is low = ap (λ l. get_or l i e) is ∙ get_or-map (hashes_of state) raws i d e low

pub statement_hashes_within : (state : HashState) (raws : List RawStatement) (i : ℕ) (hashes : List SliceHashes) → hashes ≡ map (hashes_of state) raws → i < length raws → i < length hashes
statement_hashes_within state raws i hashes is low = omega (arith, ap length is, length-map raws (hashes_of state), low)
