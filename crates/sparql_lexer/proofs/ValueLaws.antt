-- The functions that decode a text, by the laws of rdf_core.
use Rattle.std.proofs.Common.{◌≡◌, ◌↔◌, ℕ, ◌-◌, List, [], ◌∷◌, ◌++◌, length, take, refl, sym, ap, ◌∙◌, arith, length-append, Option, Some, None}
use Rattle.std.proofs.lemmas.List.{drop_at, take_at}
use Rattle.std.specs.Prelude.{MatchOption}
use Rattle.std.specs.Str.{IsUtf8, chars}
use Rattle.std.proofs.lemmas.Str.{chars_from_encodes}
use lib.Utf8.{encodes}
use Rattle.rdf_core.specs.declared.lexical.escapes.Inside.{Inside}
use Rattle.rdf_core.specs.Escapes.{IsPart, IsWritten}
use Rattle.rdf_core.specs.LexicalReading.{parts_at, with_bytes}
use Rattle.rdf_core.proofs.EnclosedLaws.{parts_again, written_found}
use Rattle.sparql_lexer.specs.Values.{between, decoded, whole_of}

no_more : (xs : List ℕ) → xs ++ [] ≡ xs
no_more [] = refl
no_more (x ∷ xs) = ap (λ us. x ∷ us) (no_more xs)

none_missing : (k : Inside) (cs : List ℕ) (read : Option (List ℕ × List ℕ)) → read ≡ with_bytes [] (parts_at k None 0 cs) → ((bytes : List ℕ) → IsWritten (IsPart k) cs bytes → ⊥) → whole_of read ≡ None
none_missing k cs None e h = refl
none_missing k cs (Some x) e h = absurd (h x.0 (written_found k cs x.0 x.1 (sym e)))

decoded_as : (k : Inside) (cs : List ℕ) (found : Option (List ℕ)) → MatchOption found ((bytes : List ℕ) → IsWritten (IsPart k) cs bytes → ⊥) (λ bytes. IsWritten (IsPart k) cs bytes) → found ≡ decoded k cs
unfolding decoded
decoded_as k cs None h = sym (none_missing k cs (with_bytes [] (parts_at k None 0 cs)) refl h)
decoded_as k cs (Some bytes) h =
    let again : parts_at k None 0 cs ≡ Some (h.chars, []) = ap (parts_at k None 0) (sym (no_more cs)) ∙ parts_again k None h.chars cs [] tt (λ _. refl) h.writes in
    sym (ap (λ read. whole_of (with_bytes [] read)) again ∙ ap (λ (bs : List ℕ). Some bs) (sym h.utf8))

pub value_from : (k : Inside) (cs bytes : List ℕ) (found : Option (List ℕ)) → IsUtf8 bytes → bytes ≡ encodes cs → MatchOption found ((bs : List ℕ) → IsWritten (IsPart k) (chars bytes) bs → ⊥) (λ bs. IsWritten (IsPart k) (chars bytes) bs) → found ≡ decoded k cs
value_from k cs bytes found u e h = decoded_as k (chars bytes) found h ∙ ap (decoded k) (sym (chars_from_encodes cs bytes u (sym e)))

-- The decoded bytes are exactly those that the text writes.

whole_some : (read : Option (List ℕ × List ℕ)) (bytes : List ℕ) → whole_of read ≡ Some bytes → (rest : List ℕ) × (read ≡ Some (bytes, rest))
whole_some None bytes e = absurd (cc)
whole_some (Some x) bytes e = (x.1, (let p : x.0 ≡ bytes = cc in ap (λ (bs : List ℕ). Some (bs, x.1)) p))

decoded_found : (k : Inside) (cs bytes : List ℕ) → decoded k cs ≡ Some bytes → IsWritten (IsPart k) cs bytes
unfolding decoded
decoded_found k cs bytes e =
    let w = whole_some (with_bytes [] (parts_at k None 0 cs)) bytes e in
    written_found k cs bytes w.0 w.1

pub decoded_is_written : (k : Inside) (cs bytes : List ℕ) → (decoded k cs ≡ Some bytes) ↔ IsWritten (IsPart k) cs bytes
decoded_is_written k cs bytes = (decoded_found k cs bytes, λ w. sym (decoded_as k cs (Some bytes) w))

-- a text without n characters on each side
between_sides : (n : ℕ) (front body back : List ℕ) → length front ≡ n → length back ≡ n → between n (front ++ (body ++ back)) ≡ body
between_sides n front body back f b =
    ap (λ (z : List ℕ). take (length z - n) z) (drop_at front (body ++ back) n f) ∙ take_at body back (length (body ++ back) - n) (omega (arith, length-append body back))

pub between_is_written : (k : Inside) (n : ℕ) (front body back bytes : List ℕ) → length front ≡ n → length back ≡ n → (decoded k (between n (front ++ (body ++ back))) ≡ Some bytes) ↔ IsWritten (IsPart k) body bytes
between_is_written k n front body back bytes f b = rw (between_sides n front body back f b) (decoded_is_written k body bytes)
