-- Sealed texts: what the programs of a cluster send to each other (a choice of this project).
use Rattle.std.specs.Prelude.{◌≡◌, ℕ, List, ◌++◌, length, codes, ⊤}
use Rattle.std.specs.List.{flat_map}
use Rattle.cluster_parts.specs.Hash.{hash, number_bytes}
use Rattle.cluster_parts.specs.declared.sealing.SealFault.{SealFault}
use Rattle.cluster_parts.specs.declared.sealing.SealFault.TheVariants.{Version, Damaged, Memory}

-- the name of the format, its number, and the version of the program
unfoldable pub seal_head : List ℕ
seal_head = codes "spq-part 2 0.1.0\n"

-- the head, the length of the text, its hash as a checksum, and the text
abbrev pub sealed : List ℕ → List ℕ
sealed text = seal_head ++ (number_bytes (length text) ++ (number_bytes (hash text) ++ text))

-- sealed texts, one after the other
abbrev pub all_sealed : List (List ℕ) → List ℕ
all_sealed texts = flat_map sealed texts

-- the texts themselves, one after the other
abbrev pub joined_texts : List (List ℕ) → List ℕ
joined_texts texts = flat_map (λ text. text) texts

-- the bytes are sealed texts, one after the other
abbrev pub AreSealed : List ℕ → Type 0
AreSealed bytes = (texts : List (List ℕ)) × (bytes ≡ all_sealed texts)

-- the bytes do not begin with the head
abbrev pub HasNoHead : List ℕ → Type 0
HasNoHead bytes = (after : List ℕ) → bytes ≡ seal_head ++ after → ⊥

-- after some sealed texts, perhaps none, the bytes do not go on with the head
pub record HasOtherHead (bytes : List ℕ) : Type 0 where
  pub texts : List (List ℕ)
  pub rest : List ℕ
  pub read : bytes ≡ all_sealed texts ++ rest
  pub other : HasNoHead rest

-- A fault says that the bytes are not what is to be read (`Whole`). `Version` also says that they have another head.
abbrev pub IsFaultOf : Type 0 → List ℕ → SealFault → Type 0
IsFaultOf Whole bytes Version = HasOtherHead bytes × (Whole → ⊥)
IsFaultOf Whole bytes Damaged = Whole → ⊥
IsFaultOf Whole bytes Memory = ⊤
