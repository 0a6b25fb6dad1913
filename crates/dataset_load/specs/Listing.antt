-- The malformed lines of what a reader gave (RDF 1.1 N-Quads, grammar). That they are listed is a choice of this project.
use Rattle.std.specs.Prelude.{◌≡◌, ℕ, List, true, Option, None, Some}
use Rattle.std.specs.Io.KnownBytes.{Consumes, IsAtEnd}
use Rattle.nquads_core.specs.Lines.{lines}
use Rattle.malformed_lines.specs.Malformed.{IsListed}
use Rattle.malformed_lines.specs.declared.document_list.MalformedLines.{MalformedLines}
use Rattle.dataset_load.specs.declared.load_notes.Listing.{Listing}

-- The reader was read to its end, and this is the list of the malformed lines of what was read.
pub record IsListedFrom (left left' : Option (List ℕ)) (list : MalformedLines) : Type 0 where
  pub doc : List ℕ
  pub consumed : Consumes left left' doc
  pub at_end : IsAtEnd left'
  pub listed : IsListed (lines doc) list

-- There is a list, and if it is complete, it is that of what was read.
abbrev pub IsListing : Option (List ℕ) → Option (List ℕ) → Option Listing → Type 0
IsListing left left' (Some listing) = listing.is_complete ≡ true → IsListedFrom left left' listing.list
IsListing left left' None = ⊥
