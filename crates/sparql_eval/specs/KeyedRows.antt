-- Rows with further cells: the key numbers of some of their terms. Only private clauses use these
-- definitions.
use Rattle.std.specs.Prelude.{◌≡◌, ℕ, ◌+◌, ◌*◌, ◌%◌, ◌^◌, List, ◌++◌, fold, length, map, Option, Some, None, get_or, option_map}
use Rattle.rdf_core.specs.declared.term.Term.{Term}
use Rattle.rdf_core.specs.declared.term.Term.TheVariants.{Blank, Iri, Literal}
use Rattle.algebra_model.specs.Solution.{Solution}
use Rattle.dict_core.specs.Dict.{term_at}
use Rattle.term_values.specs.EqualityKey.{form_key}

-- a number of the bytes of a text
abbrev pub text_hash : List ℕ → ℕ
text_hash bytes = fold (λ hash byte. ((hash * 31) % 2 ^ 64 + byte) % 2 ^ 64) 0 bytes

-- the key, or else the other number
abbrev pub key_or : Option ℕ → ℕ → ℕ
key_or None other = other
key_or (Some key) other = key

-- the key of the number or the boolean with this form, or else a number of its bytes
abbrev pub text_key : List ℕ → ℕ
text_key text = key_or (form_key text) (text_hash text)

-- the key of the text that STR returns for a term, whatever the datatype of a literal is
abbrev pub pairing_key : Term → Option ℕ
pairing_key (Blank label) = None
pairing_key (Iri text) = Some (text_key text)
pairing_key (Literal lexical datatype tag) = Some (text_key lexical)

-- the keys are the same, and terms without a key are the same term
abbrev pub ArePaired : Term → Term → Type 0
ArePaired s t = (pairing_key s ≡ pairing_key t) × (pairing_key s ≡ None → s ≡ t)

-- the key among n numbers, or the number itself if there is no key
abbrev pub key_among : ℕ → ℕ → Option ℕ → ℕ
key_among n number None = number
key_among n number (Some key) = key % n

-- the key number of the term with this number
abbrev pub key_number : List Term → ℕ → ℕ
key_number terms number = key_among (length terms) number (pairing_key (term_at terms number))

-- the key numbers of the terms of these variables
abbrev pub keys_of : List Term → List ℕ → Solution ℕ → List (Option ℕ)
keys_of terms vs μ = map (λ v. option_map (key_number terms) (get_or μ v None)) vs

-- the solution, followed by these key numbers
abbrev pub with_keys : List Term → List ℕ → Solution ℕ → Solution ℕ
with_keys terms vs μ = μ ++ keys_of terms vs μ
