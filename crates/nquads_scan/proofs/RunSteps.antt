-- The terminals of a slice that is apart from what follows it.
use Rattle.std.proofs.Common.{◌≡◌, ℕ, Bool, true, false, eqb, List, [], ◌∷◌, ◌++◌, Some, refl, sym, ap, subst, ◌∙◌, append_assoc, append-nil, eq-eqb, inl, inr}
use Rattle.std.specs.Prelude.{◌||◌}
use Rattle.std.specs.Char.{is_ascii_alphabetic}
use Rattle.std.proofs.lemmas.Bool.{eqb-true}
use Rattle.rdf_core.specs.declared.term.Term.{Term}
use Rattle.rdf_core.specs.Characters.{all_pass, begins, is_label_char, is_label_start, is_name_start, is_pn_chars_base}
use Rattle.rdf_core.specs.Lexical.{is_tag_tail}
use Rattle.rdf_core.proofs.EscapeLaws.{and_parts}
use Rattle.nquads_core.specs.Terminal.{Terminal, iri_ref, blank_label, quoted, lang_tag, carets, IsTerminal, IsBlankLabel, IsLangTag, IsQuoted}
use Rattle.nquads_core.specs.Grammar.{Begins, Object, iri_object, blank_object, plain_object, typed_object, tagged_object}
use Rattle.nquads_core.specs.Slices.{Joins}
use Rattle.nquads_core.specs.LineParser.{label_tail_at, terminal_at}
use Rattle.nquads_core.proofs.TerminalLaws.{iri_scanned, string_scanned, at_carets, took_longest}
use Rattle.nquads_core.proofs.LineLaws.{Run}
use Rattle.nquads_core.proofs.RunLaws.{or_parts}
use Rattle.nquads_scan.specs.Ends.{is_close}
use Rattle.nquads_scan.proofs.EndLaws.{is_label_part, is_tag_part, label_here, label_parts, label_stop, last_passes, tag_here, tag_parts, tag_stops}
use Rattle.nquads_scan.proofs.ByteLaws.{IsApartHere, by_close, by_label, by_tag}

false_true : false ≡ true → ⊥
false_true e = cc

first_same : (a b : ℕ) (xs ys : List ℕ) → a ∷ xs ≡ b ∷ ys → a ≡ b
first_same a b xs ys e = cc

other_byte : (a b : ℕ) (xs ys : List ℕ) → eqb a b ≡ false → a ∷ xs ≡ b ∷ ys → ⊥
other_byte a b xs ys n e = false_true (sym n ∙ eq-eqb a b (first_same a b xs ys e))

-- what passes no test of a label does not close a slice
no_close : (p : ℕ → Bool) (z : ℕ) → p 62 ≡ false → p 34 ≡ false → p z ≡ true → is_close z ≡ true → ⊥
no_close p z a b h k =
    elim (or_parts (eqb z 62) (eqb z 34) k) [
      | inl e ↦ false_true (sym a ∙ ap p (sym (eqb-true z 62 e)) ∙ h)
      | inr e ↦ false_true (sym b ∙ ap p (sym (eqb-true z 34 e)) ∙ h)
    ]

label_last : (z : ℕ) → is_label_part z ≡ true → is_close z ≡ true → ⊥
unfolding is_label_char is_label_start is_name_start is_pn_chars_base
label_last z = no_close is_label_part z refl refl

label_first : (cs : List ℕ) → all_pass is_label_part cs ≡ true → all_pass is_label_part (95 ∷ 58 ∷ cs) ≡ true
unfolding is_label_char is_label_start is_name_start is_pn_chars_base
label_first cs h = h

-- a slice that is a label does not go on in what follows
label_apart : (cs rest word bytes : List ℕ) → cs ≡ word → IsBlankLabel word bytes → IsApartHere cs rest → label_tail_at rest ≡ ([], rest)
label_apart cs rest word bytes e t (by_close front close is k) =
    absurd (label_last close (last_passes is_label_part (95 ∷ 58 ∷ t.label) front close (label_first t.label (label_parts t.label t.right)) (sym (e ∙ t.parts) ∙ is)) k)
label_apart cs rest word bytes e t (by_label more is stops) = label_stop rest stops
label_apart cs rest word bytes e t (by_tag more is stops) = absurd (other_byte 95 34 (58 ∷ t.label) more refl (sym (e ∙ t.parts) ∙ is))

-- the last character of a tag after @
abbrev is_tag_char : ℕ → Bool
is_tag_char c = is_tag_part c || eqb c 64

tag_chars : (cs : List ℕ) → all_pass is_tag_part cs ≡ true → all_pass is_tag_char cs ≡ true
tag_chars [] h = refl
tag_chars (c ∷ cs) h = let p = and_parts (is_tag_part c) (all_pass is_tag_part cs) h in rw (p.0, tag_chars cs p.1) refl

tail_is : (a b : ℕ) (xs ys : List ℕ) → a ∷ xs ≡ b ∷ ys → xs ≡ ys
tail_is a b xs ys e = cc

long : (ys : List ℕ) (x : ℕ) (xs : List ℕ) → ys ++ (x ∷ xs) ≡ [] → ⊥
long [] x xs e = absurd cc
long (a ∷ ys) x xs e = absurd cc

-- the end of a list is the end of what it ends with
end_of : (ys xs front : List ℕ) (x z : ℕ) → ys ++ (x ∷ xs) ≡ front ++ z ∷ [] → (p : ℕ → Bool) → all_pass p (x ∷ xs) ≡ true → p z ≡ true
end_of [] xs front x z e p h = last_passes p (x ∷ xs) front z h e
end_of (a ∷ ys) xs [] x z e p h = absurd (long ys x xs (tail_is a z (ys ++ (x ∷ xs)) [] e))
end_of (a ∷ ys) xs (f ∷ front) x z e p h = end_of ys xs front x z (tail_is a f (ys ++ (x ∷ xs)) (front ++ z ∷ []) e) p h

-- a slice that ends with a tag does not go on in what follows
tag_apart : (cs rest word bytes lexical first : List ℕ) → cs ≡ first ++ word → IsQuoted first lexical → IsLangTag word bytes → IsApartHere cs rest → tag_stops rest ≡ true
tag_apart cs rest word bytes lexical first e q t (by_close front' close is k) =
    let parts = and_parts (begins is_ascii_alphabetic t.tag) (is_tag_tail t.tag) t.right in
    let passes : all_pass is_tag_char (64 ∷ t.tag) ≡ true = tag_chars t.tag (tag_parts t.tag parts.1) in
    absurd (no_close is_tag_char close refl refl (end_of first t.tag front' 64 close (ap (λ (y : List ℕ). first ++ y) (sym t.parts) ∙ sym e ∙ is) is_tag_char passes) k)
tag_apart cs rest word bytes lexical first e q t (by_label more is stops) =
    absurd (other_byte 34 95 ((q.body ++ 34 ∷ []) ++ word) more refl (ap (λ (y : List ℕ). y ++ word) (sym q.parts) ∙ sym e ∙ is))
tag_apart cs rest word bytes lexical first e q t (by_tag more is stops) = stops

-- ---- the terminals of a slice

label_scanned : (word bytes remaining : List ℕ) → IsBlankLabel word bytes → label_tail_at remaining ≡ ([], remaining) → terminal_at (word ++ remaining) ≡ Some (blank_label bytes, remaining)
unfolding terminal_at
label_scanned word bytes remaining t e =
    let whole : word ++ remaining ≡ 95 ∷ 58 ∷ (t.label ++ remaining) = ap (λ (y : List ℕ). y ++ remaining) t.parts in
    rw (whole, label_here t.label remaining t.right e, ← t.utf8) refl

tag_scanned : (word bytes remaining : List ℕ) → IsLangTag word bytes → tag_stops remaining ≡ true → terminal_at (word ++ remaining) ≡ Some (lang_tag bytes, remaining)
unfolding terminal_at
tag_scanned word bytes remaining t e =
    let whole : word ++ remaining ≡ 64 ∷ (t.tag ++ remaining) = ap (λ (y : List ℕ). y ++ remaining) t.parts in
    rw (whole, tag_here t.tag remaining t.right e, ← t.lower) refl

carets_scanned : (word remaining : List ℕ) → IsTerminal word carets → terminal_at (word ++ remaining) ≡ Some (carets, remaining)
carets_scanned word remaining t = ap (λ (y : List ℕ). terminal_at (y ++ remaining)) t ∙ at_carets remaining

-- the terminal at the front of a text, and what follows the text
pub begins_with : (text word more remaining : List ℕ) (k : Terminal) → text ≡ word ++ more → IsTerminal word k → terminal_at (word ++ (more ++ remaining)) ≡ Some (k, more ++ remaining) → Begins (text ++ remaining) k (more ++ remaining)
begins_with text word more remaining k e t read =
    record {
      blanks = [];
      word = word;
      parts = ap (λ (y : List ℕ). y ++ remaining) e ∙ append_assoc word more remaining;
      all_blank = refl;
      terminal = t;
      longest = took_longest word (more ++ remaining) k read;
    }

none_left : (more rest : List ℕ) → more ≡ [] → more ++ rest ≡ rest
none_left more rest e = ap (λ (y : List ℕ). y ++ rest) e

only : (word more : List ℕ) → more ≡ [] → word ++ more ≡ word
only word more e = ap (λ (y : List ℕ). word ++ y) e ∙ append-nil word

pub object_runs : {ks : List Terminal} {t : Term} → Object ks t → (cs rest : List ℕ) → Joins cs ks [] → IsApartHere cs rest → Run (cs ++ rest) ks rest
object_runs (iri_object {text}) cs rest j a =
    (j.1 ++ rest, begins_with cs j.0 j.1 rest (iri_ref text) j.2 j.3 (iri_scanned j.0 text (j.1 ++ rest) j.3), none_left j.1 rest j.4)
object_runs (blank_object {label}) cs rest j a =
    let stops = label_apart cs rest j.0 label (j.2 ∙ only j.0 j.1 j.4) j.3 a in
    let here : label_tail_at (j.1 ++ rest) ≡ ([], j.1 ++ rest) = subst (λ (y : List ℕ). label_tail_at y ≡ ([], y)) (sym (none_left j.1 rest j.4)) stops in
    (j.1 ++ rest, begins_with cs j.0 j.1 rest (blank_label label) j.2 j.3 (label_scanned j.0 label (j.1 ++ rest) j.3 here), none_left j.1 rest j.4)
object_runs (plain_object {lexical}) cs rest j a =
    (j.1 ++ rest, begins_with cs j.0 j.1 rest (quoted lexical) j.2 j.3 (string_scanned j.0 lexical (j.1 ++ rest) j.3), none_left j.1 rest j.4)
object_runs (typed_object {lexical} {datatype}) cs rest j a =
    let c = j.4 in
    let d = c.4 in (
      j.1 ++ rest,
      begins_with cs j.0 j.1 rest (quoted lexical) j.2 j.3 (string_scanned j.0 lexical (j.1 ++ rest) j.3),
      (
        c.1 ++ rest,
        begins_with j.1 c.0 c.1 rest carets c.2 c.3 (carets_scanned c.0 (c.1 ++ rest) c.3),
        (d.1 ++ rest, begins_with c.1 d.0 d.1 rest (iri_ref datatype) d.2 d.3 (iri_scanned d.0 datatype (d.1 ++ rest) d.3), none_left d.1 rest d.4),
      ),
    )
object_runs (tagged_object {lexical} {tag}) cs rest j a =
    let c = j.4 in
    let stops = tag_apart cs rest c.0 tag lexical j.0 (j.2 ∙ ap (λ (y : List ℕ). j.0 ++ y) (c.2 ∙ only c.0 c.1 c.4)) j.3 c.3 a in
    let here : tag_stops (c.1 ++ rest) ≡ true = subst (λ (y : List ℕ). tag_stops y ≡ true) (sym (none_left c.1 rest c.4)) stops in (
      j.1 ++ rest,
      begins_with cs j.0 j.1 rest (quoted lexical) j.2 j.3 (string_scanned j.0 lexical (j.1 ++ rest) j.3),
      (c.1 ++ rest, begins_with j.1 c.0 c.1 rest (lang_tag tag) c.2 c.3 (tag_scanned c.0 tag (c.1 ++ rest) c.3 here), none_left c.1 rest c.4),
    )
