-- Reading a delimited text finds its parts if and only if the text is made of them.
use Rattle.std.proofs.Common.{◌≡◌, ◌≢◌, ℕ, zero, suc, Bool, true, false, eqb, List, [], ◌∷◌, ◌++◌, length, drop, Option, Some, None, Result, Ok, Err, refl, sym, ap, subst, ◌∙◌, append_assoc, append-nil, inl, inr, not}
use Rattle.std.specs.Prelude.{IfOk, MatchOption}
use Rattle.std.specs.Str.{encode_utf8_all}
use Rattle.std.proofs.lemmas.Bool.{eqb-true, eqb-false}
use Rattle.std.proofs.lemmas.List.{drop_at}
use Rattle.std.proofs.lemmas.Option.{some_pair_parts, option_and_then_some}
use Rattle.rdf_core.specs.declared.lexical.escapes.Inside.{Inside}
use Rattle.rdf_core.specs.declared.lexical.escapes.Inside.TheVariants.{Iri, Quoted, Any}
use Rattle.rdf_core.specs.Escapes.{Writes, IsUchar, IsEchar, IsPart, IsWritten, IsEnclosed}
use Rattle.rdf_core.specs.LexicalReading.{Finds, escape_at, is_close, is_raw, with_char, at_text_end, parts_at, with_bytes}
use Rattle.rdf_core.proofs.EscapeSteps.{which, eqb_no, eqb_yes}
use Rattle.rdf_core.proofs.EnclosedSteps.{at_raw, at_escape}
use Rattle.rdf_core.proofs.EscapeLaws.{escape_takes, iri_again, quoted_again, any_again, none_some}

-- the closing delimiter, if there is one, and the text after it
abbrev pub closing : Option ℕ → List ℕ → List ℕ
closing None rest = rest
closing (Some close) rest = close ∷ rest

-- ---- soundness: the characters that are read are written in the text

pub record TookParts (k : Inside) (cl : Option ℕ) (cs v rest : List ℕ) : Type 0 where
  pub body : List ℕ
  pub parts : cs ≡ body ++ closing cl rest
  pub writes : Writes (IsPart k) body v
  pub whole : cl ≡ None → rest ≡ []

not_true : (b : Bool) → not b ≡ true → b ≡ true → ⊥
not_true true h e = absurd cc
not_true false h e = absurd cc

pub raw_part : (k : Inside) (c : ℕ) → is_raw k c ≡ true → IsPart k (c ∷ []) c
raw_part Iri c h = (h, inl refl)
raw_part Quoted c h = inl (h, refl)
raw_part Any c h = inl (λ e. not_true (eqb c 92) h (eqb_yes c 92 e), refl)

with_char_some : (c : ℕ) (read : Option (List ℕ × List ℕ)) (v rest : List ℕ) → with_char c read ≡ Some (v, rest) → (u : List ℕ) × (read ≡ Some (u, rest)) × (v ≡ c ∷ u)
with_char_some c None v rest e = absurd cc
with_char_some c (Some x) v rest e =
    let p = some_pair_parts (c ∷ x.0) v x.1 rest e in
    (x.0, ap (λ (y : List ℕ). Some (x.0, y)) p.1, sym p.0)

one_more : (k : Inside) (cl : Option ℕ) (one : List ℕ) (c : ℕ) (cs v rest : List ℕ) → IsPart k one c → TookParts k cl cs v rest → TookParts k cl (one ++ cs) (c ∷ v) rest
one_more k cl one c cs v rest p t =
    record { body = one ++ t.body; parts = ap (λ (y : List ℕ). one ++ y) t.parts ∙ sym (append_assoc one t.body (closing cl rest)); writes = (one, t.body, refl, p, t.writes); whole = t.whole }

took_end : (k : Inside) (cl : Option ℕ) (v rest : List ℕ) → at_text_end cl ≡ Some (v, rest) → TookParts k cl [] v rest
took_end k None v rest e =
    let p = some_pair_parts [] v [] rest e in
    record { body = []; parts = p.1; writes = subst (λ (y : List ℕ). Writes (IsPart k) [] y) p.0 refl; whole = λ _. sym p.1 }
took_end k (Some close) v rest e = absurd (none_some (v, rest) e)

took_close : (k : Inside) (cl : Option ℕ) (c : ℕ) (cs v rest : List ℕ) → is_close cl c ≡ true → ◌≡◌ {A = Option (List ℕ × List ℕ)} (Some ([], cs)) (Some (v, rest)) → TookParts k cl (c ∷ cs) v rest
took_close k None c cs v rest h e = absurd cc
took_close k (Some close) c cs v rest h e =
    let p = some_pair_parts [] v cs rest e in
    record { body = []; parts = rw (eqb-true c close h, p.1) refl; writes = subst (λ (y : List ℕ). Writes (IsPart k) [] y) p.0 refl; whole = λ e. absurd cc }

pub parts_take : (k : Inside) (cl : Option ℕ) (n : ℕ) (cs v rest : List ℕ) → parts_at k cl n cs ≡ Some (v, rest) → TookParts k cl (drop n cs) v rest
unfolding parts_at
parts_take k cl zero [] v rest e = took_end k cl v rest e
parts_take k cl (suc n) [] v rest e = took_end k cl v rest e
parts_take k cl (suc n) (c ∷ cs) v rest e = parts_take k cl n cs v rest e
parts_take k cl zero (c ∷ cs) v rest e =
    elim (which (is_close cl c)) [
      | inl h ↦ took_close k cl c cs v rest h (rw h at e)
      | inr h ↦ elim (which (eqb c 92)) [
        | inl j ↦ option_and_then_some (λ m. with_char m.0 (parts_at k cl m.1 cs)) (escape_at k cs) (v, rest) (rw (h, j) at e) (λ m is more.
            let w = with_char_some m.0 (parts_at k cl m.1 cs) v rest more in
            let t = escape_takes k cs m.0 m.1 is in
            let b = parts_take k cl m.1 cs w.0 rest w.1 in
            let left : drop m.1 cs ≡ t.rest = ap (λ (y : List ℕ). drop m.1 y) t.parts ∙ drop_at t.word t.rest m.1 t.count in
            let all = one_more k cl (92 ∷ t.word) m.0 t.rest w.0 rest t.part (subst (λ (y : List ℕ). TookParts k cl y w.0 rest) left b) in
            let whole : (92 ∷ t.word) ++ t.rest ≡ c ∷ cs = ap (λ (y : List ℕ). 92 ∷ y) (sym t.parts) ∙ ap (λ (y : ℕ). y ∷ cs) (sym (eqb-true c 92 j)) in
            subst (λ (y : List ℕ). TookParts k cl y v rest) whole (rw w.2 all))
        | inr j ↦ elim (which (is_raw k c)) [
          | inl r ↦
              let w = with_char_some c (parts_at k cl 0 cs) v rest (rw (h, j, r) at e) in
              rw w.2 (one_more k cl (c ∷ []) c cs w.0 rest (raw_part k c r) (parts_take k cl 0 cs w.0 rest w.1))
          | inr r ↦ absurd (none_some (v, rest) (rw (h, j, r) at e))
        ]
      ]
    ]

-- ---- completeness: the characters that are written in the text are read

-- no part begins with the closing delimiter, if there is one
abbrev pub IsApart : Inside → Option ℕ → Type 0
IsApart k None = Unit {0}
IsApart k (Some close) = (is_raw k close ≡ false) × (92 ≢ close)

false_true : false ≡ true → ⊥
false_true e = cc

raw_ne : (k : Inside) (c d : ℕ) → is_raw k d ≡ false → is_raw k c ≡ true → c ≡ d → ⊥
raw_ne k c d n h e = false_true (sym n ∙ ap (is_raw k) (sym e) ∙ h)

no_raw_backslash : (k : Inside) → is_raw k 92 ≡ false
no_raw_backslash Iri = refl
no_raw_backslash Quoted = refl
no_raw_backslash Any = refl

raw_stays : (k : Inside) (cl : Option ℕ) (c : ℕ) → IsApart k cl → is_raw k c ≡ true → is_close cl c ≡ false
raw_stays k None c a h = refl
raw_stays k (Some close) c a h = eqb_no c close (raw_ne k c close a.0 h)

backslash_stays : (k : Inside) (cl : Option ℕ) → IsApart k cl → is_close cl 92 ≡ false
backslash_stays k None a = refl
backslash_stays k (Some close) a = eqb_no 92 close a.1

raw_again : (k : Inside) (cl : Option ℕ) (c : ℕ) (t : List ℕ) → IsApart k cl → is_raw k c ≡ true → parts_at k cl 0 (c ∷ t) ≡ with_char c (parts_at k cl 0 t)
raw_again k cl c t a h = at_raw k cl c (c ∷ t) t refl (raw_stays k cl c a h) (raw_ne k c 92 (no_raw_backslash k) h) h

escape_again : (k : Inside) (cl : Option ℕ) (word : List ℕ) (c : ℕ) (t : List ℕ) → IsApart k cl → escape_at k (word ++ t) ≡ Some (c, length word) → parts_at k cl 0 (92 ∷ word ++ t) ≡ with_char c (parts_at k cl 0 t)
escape_again k cl word c t a e =
    at_escape k cl 92 (92 ∷ word ++ t) (word ++ t) c (length word) refl (backslash_stays k cl a) refl e ∙ ap (λ (y : List ℕ). with_char c (parts_at k cl 0 y)) (drop_at word t (length word) refl)

uchar_word : (one : List ℕ) (c : ℕ) (u : IsUchar one c) → IsUchar (92 ∷ u.letter ∷ u.digits) c
uchar_word one c u = record { letter = u.letter; digits = u.digits; parts = refl; count = u.count; hex = u.hex; names = u.names; scalar = u.scalar }

echar_word : (one : List ℕ) (c : ℕ) (u : IsEchar one c) → IsEchar (92 ∷ u.letter ∷ []) c
echar_word one c u = record { letter = u.letter; parts = refl; names = u.names }

any_raw : (c : ℕ) → c ≢ 92 → is_raw Any c ≡ true
any_raw c h = ap not (eqb_no c 92 h)

pub part_again : (k : Inside) (cl : Option ℕ) (one : List ℕ) (c : ℕ) (t : List ℕ) → IsApart k cl → IsPart k one c → parts_at k cl 0 (one ++ t) ≡ with_char c (parts_at k cl 0 t)
part_again Iri cl one c t a (h, inl e) = rw e (raw_again Iri cl c t a h)
part_again Iri cl one c t a (h, inr u) = rw u.parts (escape_again Iri cl (u.letter ∷ u.digits) c t a (iri_again (u.letter ∷ u.digits) c t h (uchar_word one c u)))
part_again Quoted cl one c t a (inl h) = rw h.1 (raw_again Quoted cl c t a h.0)
part_again Quoted cl one c t a (inr (inl u)) = rw u.parts (escape_again Quoted cl (u.letter ∷ []) c t a (quoted_again (u.letter ∷ []) c t (inl (echar_word one c u))))
part_again Quoted cl one c t a (inr (inr u)) = rw u.parts (escape_again Quoted cl (u.letter ∷ u.digits) c t a (quoted_again (u.letter ∷ u.digits) c t (inr (uchar_word one c u))))
part_again Any cl one c t a (inl h) = rw h.1 (raw_again Any cl c t a (any_raw c h.0))
part_again Any cl one c t a (inr (inl u)) = rw u.parts (escape_again Any cl (u.letter ∷ []) c t a (any_again (u.letter ∷ []) c t (inl (echar_word one c u))))
part_again Any cl one c t a (inr (inr u)) = rw u.parts (escape_again Any cl (u.letter ∷ u.digits) c t a (any_again (u.letter ∷ u.digits) c t (inr (uchar_word one c u))))

close_again : (k : Inside) (cl : Option ℕ) (rest : List ℕ) → (cl ≡ None → rest ≡ []) → parts_at k cl 0 (closing cl rest) ≡ Some ([], rest)
unfolding parts_at
close_again k None rest w = rw (w refl) refl
close_again k (Some close) rest w = rw (eqb_yes close close refl) refl

pub parts_again : (k : Inside) (cl : Option ℕ) (v b rest : List ℕ) → IsApart k cl → (cl ≡ None → rest ≡ []) → Writes (IsPart k) b v → parts_at k cl 0 (b ++ closing cl rest) ≡ Some (v, rest)
parts_again k cl [] b rest a w h = rw h (close_again k cl rest w)
parts_again k cl (c ∷ v) b rest a w h =
    let one = h.0 in
    let more = h.1 in
    let whole : b ++ closing cl rest ≡ one ++ (more ++ closing cl rest) = ap (λ (y : List ℕ). y ++ closing cl rest) h.2 ∙ append_assoc one more (closing cl rest) in
    ap (parts_at k cl 0) whole ∙ part_again k cl one c (more ++ closing cl rest) a h.3 ∙ ap (with_char c) (parts_again k cl v more rest a w h.4)

-- ---- the delimiters of an IRI and of a string, and texts without a delimiter

pub iri_apart : IsApart Iri (Some 62)
iri_apart = (refl, λ e. eqb-false 92 62 refl e)

pub quoted_apart : IsApart Quoted (Some 34)
quoted_apart = (refl, λ e. eqb-false 92 34 refl e)

pub with_bytes_some : (read : Option (List ℕ × List ℕ)) (v rest : List ℕ) → with_bytes [] read ≡ Some (v, rest) → (chars : List ℕ) × (read ≡ Some (chars, rest)) × (v ≡ encode_utf8_all chars)
with_bytes_some None v rest e = absurd (none_some (v, rest) e)
with_bytes_some (Some x) v rest e =
    let p = some_pair_parts (encode_utf8_all x.0) v x.1 rest e in
    (x.0, ap (λ (y : List ℕ). Some (x.0, y)) p.1, sym p.0)

with_bytes_again : (read : Option (List ℕ × List ℕ)) (chars rest bytes : List ℕ) → read ≡ Some (chars, rest) → bytes ≡ encode_utf8_all chars → with_bytes [] read ≡ Some (bytes, rest)
with_bytes_again read chars rest bytes e u = rw (e, u) refl

pub option_none : {X : Type 0} (o : Option X) → ((x : X) → o ≡ Some x → ⊥) → o ≡ None
option_none None h = refl
option_none (Some x) h = absurd (h x refl)

pub enclosed_found : (k : Inside) (close : ℕ) (cs bytes rest : List ℕ) → with_bytes [] (parts_at k (Some close) 0 cs) ≡ Some (bytes, rest) → IsEnclosed (IsPart k) close cs bytes rest
enclosed_found k close cs bytes rest e =
    let w = with_bytes_some (parts_at k (Some close) 0 cs) bytes rest e in
    let t = parts_take k (Some close) 0 cs w.0 rest w.1 in
    record { body = t.body; parts = t.parts; written = record { chars = w.0; writes = t.writes; utf8 = w.2 } }

pub enclosed_again : (k : Inside) (close : ℕ) (cs bytes rest : List ℕ) → IsApart k (Some close) → IsEnclosed (IsPart k) close cs bytes rest → with_bytes [] (parts_at k (Some close) 0 cs) ≡ Some (bytes, rest)
enclosed_again k close cs bytes rest a h =
    rw h.parts (with_bytes_again (parts_at k (Some close) 0 (h.body ++ close ∷ rest)) h.written.chars rest bytes (parts_again k (Some close) h.written.chars h.body rest a (λ e. absurd cc) h.written.writes) h.written.utf8)

pub enclosed_none : (k : Inside) (close : ℕ) (cs : List ℕ) → IsApart k (Some close) → with_bytes [] (parts_at k (Some close) 0 cs) ≡ None → (bytes rest : List ℕ) → IsEnclosed (IsPart k) close cs bytes rest → ⊥
enclosed_none k close cs a e bytes rest h = none_some (bytes, rest) (sym e ∙ enclosed_again k close cs bytes rest a h)

-- what a function found is the text up to the closing delimiter, and without one it found none
pub enclosed_result : {B E : Type 0} (at : B → List ℕ) (k : Inside) (close : ℕ) (cs : List ℕ) → IsApart k (Some close) → (result : Result (Option (List ℕ × B)) E) → IfOk result (λ found. Finds (λ x. (x.0, at x.1)) found (with_bytes [] (parts_at k (Some close) 0 cs))) → IfOk result (λ found. MatchOption found ((bytes rest : List ℕ) → IsEnclosed (IsPart k) close cs bytes rest → ⊥) (λ x. IsEnclosed (IsPart k) close cs x.0 (at x.1)))
enclosed_result at k close cs a (Err e) h = tt
enclosed_result at k close cs a (Ok None) h = enclosed_none k close cs a h
enclosed_result at k close cs a (Ok (Some x)) h = enclosed_found k close cs x.0 (at x.1) h

pub enclosed_missing : (k : Inside) (close : ℕ) (cs : List ℕ) → ((bytes rest : List ℕ) → IsEnclosed (IsPart k) close cs bytes rest → ⊥) → with_bytes [] (parts_at k (Some close) 0 cs) ≡ None
enclosed_missing k close cs h =
    option_none (with_bytes [] (parts_at k (Some close) 0 cs)) (λ x e. h x.0 x.1 (enclosed_found k close cs x.0 x.1 e))

pub written_found : (k : Inside) (cs bytes rest : List ℕ) → with_bytes [] (parts_at k None 0 cs) ≡ Some (bytes, rest) → IsWritten (IsPart k) cs bytes
written_found k cs bytes rest e =
    let w = with_bytes_some (parts_at k None 0 cs) bytes rest e in
    let t = parts_take k None 0 cs w.0 rest w.1 in
    let all : cs ≡ t.body = t.parts ∙ ap (λ (y : List ℕ). t.body ++ y) (t.whole refl) ∙ append-nil t.body in
    record { chars = w.0; writes = subst (λ (y : List ℕ). Writes (IsPart k) y w.0) (sym all) t.writes; utf8 = w.2 }

pub written_none : (k : Inside) (cs : List ℕ) → with_bytes [] (parts_at k None 0 cs) ≡ None → (bytes : List ℕ) → IsWritten (IsPart k) cs bytes → ⊥
written_none k cs e bytes h =
    let again = parts_again k None h.chars cs [] tt (λ _. refl) h.writes in
    let all = ap (parts_at k None 0) (sym (append-nil cs)) ∙ again in
    none_some (bytes, []) (sym e ∙ with_bytes_again (parts_at k None 0 cs) h.chars [] bytes all h.utf8)
