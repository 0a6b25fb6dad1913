-- Terms with keys. Only private clauses use these definitions.
use Rattle.std.specs.Prelude.{ℕ, List, map, flat_map, Vec}
use Rattle.std.specs.declared.alloc.Global.{Global}
use Rattle.result_json.specs.Ranks.{Entry}

-- a key, and an entry
abbrev pub Keyed : Type 0
Keyed = (ℕ × ℕ) × Entry

-- the entries without their keys
abbrev pub entries_of : List Keyed → List Entry
entries_of keyed = map (λ k. k.1) keyed

-- the entries of concatenated pieces
abbrev pub joined_entries : List (Vec Keyed Global) → List Entry
joined_entries pieces = flat_map (λ p. entries_of p.items) pieces
