-- IRIs and strings, as the tokens are read.
use Rattle.std.proofs.Common.{◌≡◌, ℕ, true, false, List, [], ◌∷◌, ◌++◌, Option, Some, None, MatchOption, refl, subst}
use Rattle.std.specs.Str.{encode_utf8_all}
use Rattle.rdf_core.specs.Escapes.{IsIriPart, IsStringPart, Writes, IsEnclosed}
use Rattle.rdf_core.specs.Lexical.{has_scheme}
use Rattle.rdf_core.specs.LexicalReading.{parts_at, with_bytes}
use Rattle.rdf_core.specs.declared.lexical.escapes.Inside.TheVariants.{Iri, Quoted}
use Rattle.rdf_core.proofs.EnclosedLaws.{iri_apart, quoted_apart, enclosed_again, enclosed_missing}
use Rattle.nquads_core.specs.LineParser.{iri_at, string_at}

pub iri_body_again : (cs body rest : List ℕ) → Writes IsIriPart body cs → with_bytes [] (parts_at Iri (Some 62) 0 (body ++ 62 ∷ rest)) ≡ Some (encode_utf8_all cs, rest)
iri_body_again cs body rest w =
    enclosed_again Iri 62 (body ++ 62 ∷ rest) (encode_utf8_all cs) rest iri_apart (record { body = body; parts = refl; written = record { chars = cs; writes = w; utf8 = refl } })

pub string_body_again : (cs body rest : List ℕ) → Writes IsStringPart body cs → with_bytes [] (parts_at Quoted (Some 34) 0 (body ++ 34 ∷ rest)) ≡ Some (encode_utf8_all cs, rest)
string_body_again cs body rest w =
    enclosed_again Quoted 34 (body ++ 34 ∷ rest) (encode_utf8_all cs) rest quoted_apart (record { body = body; parts = refl; written = record { chars = cs; writes = w; utf8 = refl } })

pub iri_read : (cs bytes rest : List ℕ) → IsEnclosed IsIriPart 62 cs bytes rest → has_scheme bytes ≡ true → iri_at cs ≡ Some (bytes, rest)
unfolding iri_at
iri_read cs bytes rest e s = rw (enclosed_again Iri 62 cs bytes rest iri_apart e, s) refl

pub iri_relative : (cs bytes rest : List ℕ) → IsEnclosed IsIriPart 62 cs bytes rest → has_scheme bytes ≡ false → iri_at cs ≡ None
unfolding iri_at
iri_relative cs bytes rest e s = rw (enclosed_again Iri 62 cs bytes rest iri_apart e, s) refl

pub iri_missing : (cs : List ℕ) → ((bytes rest : List ℕ) → IsEnclosed IsIriPart 62 cs bytes rest → ⊥) → iri_at cs ≡ None
unfolding iri_at
iri_missing cs h = rw (enclosed_missing Iri 62 cs h) refl

pub string_read : (cs bytes rest : List ℕ) → IsEnclosed IsStringPart 34 cs bytes rest → string_at cs ≡ Some (bytes, rest)
unfolding string_at
string_read cs bytes rest e = enclosed_again Quoted 34 cs bytes rest quoted_apart e

pub string_missing : (cs : List ℕ) → ((bytes rest : List ℕ) → IsEnclosed IsStringPart 34 cs bytes rest → ⊥) → string_at cs ≡ None
unfolding string_at
string_missing cs h = enclosed_missing Quoted 34 cs h

-- ---- what was found, by the cases of a match

pub match_some : {X : Type 0} (P : Type 0) (Q : X → Type 0) (found : Option X) (x : X) → found ≡ Some x → MatchOption found P Q → Q x
match_some {X} P Q found x e h = subst (λ (y : Option X). MatchOption y P Q) e h

pub match_none : {X : Type 0} (P : Type 0) (Q : X → Type 0) (found : Option X) → found ≡ None → MatchOption found P Q → P
match_none {X} P Q found e h = subst (λ (y : Option X). MatchOption y P Q) e h
