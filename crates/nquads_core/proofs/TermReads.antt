-- The term that is read is the one that the slice denotes, and the only one.
use Rattle.std.proofs.Common.{◌≡◌, ℕ, true, false, List, [], ◌∷◌, ◌++◌, Some, None, refl, sym, ap, subst, ◌∙◌, append-nil, arith, inl, inr}
use Rattle.std.specs.Str.{IsUtf8, chars}
use Rattle.std.proofs.lemmas.List.{nil_from_length}
use Rattle.std.proofs.lemmas.Option.{same_Some}
use Rattle.rdf_core.specs.declared.term.Term.{Term}
use Rattle.rdf_core.specs.declared.term.Term.TheVariants.{Blank, Iri, Literal}
use Rattle.rdf_core.specs.Vocabulary.{xsd_string, rdf_lang_string}
use Rattle.rdf_core.proofs.EscapeSteps.{cond_is, which}
use Rattle.rdf_core.proofs.EscapeLaws.{none_some}
use Rattle.nquads_core.specs.Terminal.{Terminal, iri_ref, blank_label, quoted, lang_tag, carets, dot, IsTerminal}
use Rattle.nquads_core.specs.Grammar.{Object, iri_object, blank_object, plain_object, typed_object, tagged_object}
use Rattle.nquads_core.specs.Slices.{Joins, Denotes}
use Rattle.nquads_core.specs.declared.fault.LineFault.{LineFault}
use Rattle.nquads_core.specs.declared.fault.LineFault.TheVariants.{Bad}
use Rattle.nquads_core.specs.LineParser.{Fails, terminal_at, iri_of, is_over, alone, suffix_alone, literal_alone, object_alone, term_at}
use Rattle.nquads_core.proofs.TerminalLaws.{at_carets, bind_some, reaches, string_scanned, terminal_takes}
use Rattle.nquads_core.proofs.LineLaws.{iri_is}
use Rattle.nquads_core.proofs.Meaning.{fails_bad}

over_nil : (rest : List ℕ) → is_over rest ≡ true → rest ≡ []
over_nil [] h = refl
over_nil (c ∷ rest) h = absurd cc

alone_is : (t : Term) (rest : List ℕ) (y : Term) → alone t rest ≡ Some y → (t ≡ y) × (rest ≡ [])
alone_is t rest y e =
    let g = cond_is {A = Term} (is_over rest) (Some t) y e in
    (same_Some t y g.1, over_nil rest g.0)

-- the terminals of the object after the first
record Others (k : Terminal) (rest : List ℕ) (t : Term) : Type 0 where
  others : List Terminal
  joins : Joins rest others []
  object : Object (k ∷ others) t

others_none : (k : Terminal) (made : Term) (rest : List ℕ) (t : Term) → Object (k ∷ []) made → alone made rest ≡ Some t → Others k rest t
others_none k made rest t o e =
    let a = alone_is made rest t e in
    subst (λ (y : Term). Others k rest y) a.0 (record { others = []; joins = a.1; object = o })

joins_one : (cs : List ℕ) (x : Terminal × List ℕ) (ks : List Terminal) → terminal_at cs ≡ Some x → Joins x.1 ks [] → Joins cs (x.0 ∷ ks) []
joins_one cs x ks e j = let t = terminal_takes cs x.0 x.1 e in (t.word, x.1, t.parts, t.terminal, j)

suffix_sound : (lexical : List ℕ) (x : Terminal × List ℕ) (rest : List ℕ) (t : Term) → terminal_at rest ≡ Some x → suffix_alone lexical x ≡ Some t → Others (quoted lexical) rest t
suffix_sound lexical (lang_tag tag, more) rest t r e =
    let a = alone_is (Literal lexical rdf_lang_string (Some tag)) more t e in
    subst (λ (y : Term). Others (quoted lexical) rest y) a.0
    (record { others = lang_tag tag ∷ []; joins = joins_one rest (lang_tag tag, more) [] r a.1; object = tagged_object })
suffix_sound lexical (carets, more) rest t r e =
    let d = bind_some (terminal_at more) _ t e in
    let i = bind_some (iri_of d.0.0) _ t d.2 in
    let a = alone_is (Literal lexical i.0 None) d.0.1 t i.2 in
    let is = iri_is d.0.0 i.0 i.1 in
    let second : Joins more (iri_ref i.0 ∷ []) [] = subst (λ (y : Terminal). Joins more (y ∷ []) []) is (joins_one more d.0 [] d.1 a.1) in
    subst (λ (y : Term). Others (quoted lexical) rest y) a.0
    (record { others = carets ∷ iri_ref i.0 ∷ []; joins = joins_one rest (carets, more) (iri_ref i.0 ∷ []) r second; object = typed_object })
suffix_sound lexical (iri_ref text, more) rest t r e = absurd (none_some t e)
suffix_sound lexical (blank_label label, more) rest t r e = absurd (none_some t e)
suffix_sound lexical (quoted other, more) rest t r e = absurd (none_some t e)
suffix_sound lexical (dot, more) rest t r e = absurd (none_some t e)

literal_sound : (lexical rest : List ℕ) (t : Term) → literal_alone lexical rest ≡ Some t → Others (quoted lexical) rest t
literal_sound lexical rest t e =
    elim (which (is_over rest)) [
      | inl h ↦
          let same : Literal lexical xsd_string None ≡ t = same_Some (Literal lexical xsd_string None) t (rw h at e) in
          subst (λ (y : Term). Others (quoted lexical) rest y) same (record { others = []; joins = over_nil rest h; object = plain_object })
      | inr h ↦
          let b = bind_some (terminal_at rest) (suffix_alone lexical) t (rw h at e) in
          suffix_sound lexical b.0 rest t b.1 b.2
    ]

object_sound : (x : Terminal × List ℕ) (t : Term) → object_alone x ≡ Some t → Others x.0 x.1 t
object_sound (iri_ref text, rest) t e = others_none (iri_ref text) (Iri text) rest t iri_object e
object_sound (blank_label label, rest) t e = others_none (blank_label label) (Blank label) rest t blank_object e
object_sound (quoted lexical, rest) t e = literal_sound lexical rest t e
object_sound (lang_tag tag, rest) t e = absurd (none_some t e)
object_sound (carets, rest) t e = absurd (none_some t e)
object_sound (dot, rest) t e = absurd (none_some t e)

pub term_denotes : (raw : List ℕ) (t : Term) → IsUtf8 raw → term_at (chars raw) ≡ Some t → Denotes raw t
unfolding term_at
term_denotes raw t u e =
    let b = bind_some (terminal_at (chars raw)) object_alone t e in
    let o = object_sound b.0 t b.2 in
    record { utf8 = u; terminals = b.0.0 ∷ o.others; joins = joins_one (chars raw) b.0 o.others b.1 o.joins; object = o.object }

-- ---- the term that a slice denotes is read

-- a terminal that is the whole text
last_again : (word : List ℕ) (k : Terminal) → IsTerminal word k → terminal_at word ≡ Some (k, [])
last_again word k t =
    let r = reaches word [] k t in
    let none : r.left ≡ [] = nil_from_length r.left (omega (arith, r.short)) in
    ap terminal_at (sym (append-nil word)) ∙ r.is ∙ rw (r.same none, none) refl

only_again : (cs word more : List ℕ) (k : Terminal) → cs ≡ word ++ more → more ≡ [] → IsTerminal word k → terminal_at cs ≡ Some (k, [])
only_again cs word more k e n t = ap terminal_at (e ∙ ap (λ (y : List ℕ). word ++ y) n ∙ append-nil word) ∙ last_again word k t

nil_none : terminal_at [] ≡ None
unfolding terminal_at
nil_none = refl

not_over : (cs : List ℕ) (x : Terminal × List ℕ) → terminal_at cs ≡ Some x → is_over cs ≡ false
not_over [] x e = absurd (none_some x (sym nil_none ∙ e))
not_over (c ∷ cs) x e = refl

object_again : {ks : List Terminal} {t : Term} → Object ks t → (cs : List ℕ) → Joins cs ks [] → term_at cs ≡ Some t
unfolding term_at
object_again (iri_object {text}) cs j = rw (only_again cs j.0 j.1 (iri_ref text) j.2 j.4 j.3) refl
object_again (blank_object {label}) cs j = rw (only_again cs j.0 j.1 (blank_label label) j.2 j.4 j.3) refl
object_again (plain_object {lexical}) cs j = rw (only_again cs j.0 j.1 (quoted lexical) j.2 j.4 j.3) refl
object_again (typed_object {lexical} {datatype}) cs j =
    let c = j.4 in
    let d = c.4 in
    let first : terminal_at cs ≡ Some (quoted lexical, j.1) = ap terminal_at j.2 ∙ string_scanned j.0 lexical j.1 j.3 in
    let second : terminal_at j.1 ≡ Some (carets, c.1) = ap terminal_at (c.2 ∙ ap (λ (y : List ℕ). y ++ c.1) c.3) ∙ at_carets c.1 in
    let third = only_again c.1 d.0 d.1 (iri_ref datatype) d.2 d.4 d.3 in
    rw first (rw (not_over j.1 (carets, c.1) second) (rw second (rw third refl)))
object_again (tagged_object {lexical} {tag}) cs j =
    let c = j.4 in
    let first : terminal_at cs ≡ Some (quoted lexical, j.1) = ap terminal_at j.2 ∙ string_scanned j.0 lexical j.1 j.3 in
    let second = only_again j.1 c.0 c.1 (lang_tag tag) c.2 c.4 c.3 in
    rw first (rw (not_over j.1 (lang_tag tag, []) second) (rw second refl))

pub term_again : (raw : List ℕ) (t : Term) → Denotes raw t → term_at (chars raw) ≡ Some t
term_again raw t d = object_again d.object (chars raw) d.joins

-- a slice denotes at most one term
pub one_denoted : (raw : List ℕ) (t u : Term) → term_at (chars raw) ≡ Some u → Denotes raw t → Some u ≡ Some t
one_denoted raw t u e d = sym e ∙ term_again raw t d

pub none_denoted : {A : Type 0} (raw : List ℕ) (t : Term) (e : LineFault) → e ≡ Bad → Fails e (term_at (chars raw)) → Denotes raw t → A
none_denoted raw t e b f d = absurd (none_some t (sym (fails_bad e (term_at (chars raw)) b f) ∙ term_again raw t d))
