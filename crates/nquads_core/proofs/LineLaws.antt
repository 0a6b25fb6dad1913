-- A line is read exactly if it is well-formed: a statement, or blanks and a comment.
use Rattle.std.proofs.Common.{◌≡◌, ℕ, Bool, true, false, eqb, List, [], ◌∷◌, ◌++◌, Option, Some, None, refl, sym, ap, subst, ◌∙◌, inl, inr, ◌⊎◌}
use Rattle.std.proofs.lemmas.Bool.{eqb-true}
use Rattle.std.proofs.lemmas.Option.{same_Some}
use Rattle.rdf_core.specs.declared.term.Term.{Term}
use Rattle.rdf_core.specs.QuadParts.{QuadParts}
use Rattle.rdf_core.specs.declared.term.Term.TheVariants.{Blank, Iri, Literal}
use Rattle.rdf_core.specs.Characters.{all_pass}
use Rattle.nquads_core.specs.Terminal.{is_blank}
use Rattle.nquads_core.specs.Terminal.{Terminal, iri_ref, blank_label, quoted, lang_tag, carets, dot}
use Rattle.rdf_core.specs.Vocabulary.{xsd_string, rdf_lang_string}
use Rattle.nquads_core.specs.Grammar.{IsEnd, Begins, Splits, Subject, iri_subject, blank_subject, Predicate, iri_predicate, Object, iri_object, blank_object, plain_object, typed_object, tagged_object, GraphLabel, no_graph, iri_graph, blank_graph, Statement, OptionalStatement}
use Rattle.nquads_core.specs.LineParser.{◌>>=◌, terminal_at, skip_blanks, is_end, next, node_of, iri_of, literal_of, object_of, graph_dot, graph_of, whole, statement_at, line_at}
use Rattle.rdf_core.proofs.EscapeSteps.{cond_is}
use Rattle.rdf_core.proofs.EscapeSteps.{which}
use Rattle.rdf_core.proofs.EscapeLaws.{and_is, and_parts, none_some}
use Rattle.nquads_core.proofs.RunLaws.{or_parts}
use Rattle.nquads_core.proofs.TerminalLaws.{bind_some, terminal_takes, terminal_again, took_longest}

-- ---- blanks and ends

record Skipped (cs : List ℕ) : Type 0 where
  blanks : List ℕ
  parts : cs ≡ blanks ++ skip_blanks cs
  all_blank : all_pass is_blank blanks ≡ true

skipped : (cs : List ℕ) → Skipped cs
unfolding skip_blanks
skipped [] = record { blanks = []; parts = refl; all_blank = refl }
skipped (c ∷ cs) =
    elim (which (is_blank c)) [
      | inl h ↦
          let s = skipped cs in
          record { blanks = c ∷ s.blanks; parts = rw h (ap (λ (y : List ℕ). c ∷ y) s.parts); all_blank = and_is (is_blank c) (all_pass is_blank s.blanks) h s.all_blank }
      | inr h ↦ record { blanks = []; parts = rw h refl; all_blank = refl }
    ]

skip_over : (blanks rest : List ℕ) → all_pass is_blank blanks ≡ true → skip_blanks (blanks ++ rest) ≡ skip_blanks rest
unfolding skip_blanks
skip_over [] rest h = refl
skip_over (b ∷ blanks) rest h = let p = and_parts (is_blank b) (all_pass is_blank blanks) h in rw p.0 (skip_over blanks rest p.1)

-- no terminal begins with a blank or with #
no_blank : (c : ℕ) (cs : List ℕ) → is_blank c ≡ true → terminal_at (c ∷ cs) ≡ None
unfolding terminal_at
no_blank c cs h =
    elim (or_parts (eqb c 32) (eqb c 9) h) [
      | inl e ↦ rw (eqb-true c 32 e) refl
      | inr e ↦ rw (eqb-true c 9 e) refl
    ]

no_hash : (c : ℕ) (cs : List ℕ) → eqb c 35 ≡ true → terminal_at (c ∷ cs) ≡ None
unfolding terminal_at
no_hash c cs e = rw (eqb-true c 35 e) refl

no_nil : terminal_at [] ≡ None
unfolding terminal_at
no_nil = refl

skip_at : (cs : List ℕ) (x : Terminal × List ℕ) → terminal_at cs ≡ Some x → skip_blanks cs ≡ cs
unfolding skip_blanks
skip_at [] x e = refl
skip_at (c ∷ cs) x e =
    elim (which (is_blank c)) [
      | inl h ↦ absurd (none_some x (sym (no_blank c cs h) ∙ e))
      | inr h ↦ rw h refl
    ]

not_end : (cs : List ℕ) (x : Terminal × List ℕ) → terminal_at cs ≡ Some x → is_end cs ≡ false
not_end [] x e = absurd (none_some x (sym no_nil ∙ e))
not_end (c ∷ cs) x e =
    elim (which (eqb c 35)) [
      | inl h ↦ absurd (none_some x (sym (no_hash c cs h) ∙ e))
      | inr h ↦ h
    ]

end_comment : (cs : List ℕ) → is_end cs ≡ true → (cs ≡ []) ⊎ ((words : List ℕ) × (cs ≡ 35 ∷ words))
end_comment [] h = inl refl
end_comment (c ∷ cs) h = inr (cs, ap (λ (y : ℕ). y ∷ cs) (eqb-true c 35 h))

pub end_sound : (cs : List ℕ) → is_end (skip_blanks cs) ≡ true → IsEnd cs
end_sound cs h =
    let s = skipped cs in
    record { blanks = s.blanks; comment = skip_blanks cs; parts = s.parts; all_blank = s.all_blank; hash = end_comment (skip_blanks cs) h }

skip_nil : is_end (skip_blanks []) ≡ true
unfolding skip_blanks
skip_nil = refl

skip_hash : (words : List ℕ) → is_end (skip_blanks (35 ∷ words)) ≡ true
unfolding skip_blanks
skip_hash words = refl

pub end_again : (cs : List ℕ) → IsEnd cs → is_end (skip_blanks cs) ≡ true
end_again cs h =
    let e : skip_blanks cs ≡ skip_blanks h.comment = ap skip_blanks h.parts ∙ skip_over h.blanks h.comment h.all_blank in
    elim h.hash [
      | inl k ↦ ap is_end (e ∙ ap skip_blanks k) ∙ skip_nil
      | inr k ↦ ap is_end (e ∙ ap skip_blanks k.1) ∙ skip_hash k.0
    ]

-- ---- the next terminal

pub next_sound : (cs : List ℕ) (x : Terminal × List ℕ) → next cs ≡ Some x → Begins cs x.0 x.1
next_sound cs x e =
    let s = skipped cs in
    let t = terminal_takes (skip_blanks cs) x.0 x.1 e in
    record {
      blanks = s.blanks;
      word = t.word;
      parts = s.parts ∙ ap (λ (y : List ℕ). s.blanks ++ y) t.parts;
      all_blank = s.all_blank;
      terminal = t.terminal;
      longest = took_longest t.word x.1 x.0 (ap terminal_at (sym t.parts) ∙ e);
    }

pub next_again : (cs : List ℕ) (k : Terminal) (rest : List ℕ) → Begins cs k rest → next cs ≡ Some (k, rest)
next_again cs k rest b =
    let read = terminal_again b.word rest k b.terminal b.longest in
    let e : skip_blanks cs ≡ b.word ++ rest = ap skip_blanks b.parts ∙ skip_over b.blanks (b.word ++ rest) b.all_blank ∙ skip_at (b.word ++ rest) (k, rest) read in
    ap terminal_at e ∙ read

-- ---- runs of terminals

abbrev pub Run : List ℕ → List Terminal → List ℕ → Type 0
Run cs [] rest = cs ≡ rest
Run cs (k ∷ ks) rest = (mid : List ℕ) × Begins cs k mid × Run mid ks rest

pub run_then : (cs : List ℕ) (ks : List Terminal) (rest : List ℕ) (more : List Terminal) → Run cs ks rest → Splits rest more → Splits cs (ks ++ more)
run_then cs [] rest more r s = subst (λ (y : List ℕ). Splits y more) (sym r) s
run_then cs (k ∷ ks) rest more r s = (r.0, r.1, run_then r.0 ks rest more r.2 s)

run_end : (cs : List ℕ) (ks : List Terminal) (rest : List ℕ) → Run cs ks rest → IsEnd rest → Splits cs ks
run_end cs [] rest r s = subst (λ (y : List ℕ). IsEnd y) (sym r) s
run_end cs (k ∷ ks) rest r s = (r.0, r.1, run_end r.0 ks rest r.2 s)

-- ---- what is read is in the line

node_subject : (k : Terminal) (t : Term) → node_of k ≡ Some t → Subject (k ∷ []) t
node_subject (iri_ref text) t e = subst (λ (y : Term). Subject (iri_ref text ∷ []) y) (same_Some (Iri text) t e) iri_subject
node_subject (blank_label label) t e = subst (λ (y : Term). Subject (blank_label label ∷ []) y) (same_Some (Blank label) t e) blank_subject
node_subject (quoted lexical) t e = absurd (none_some t e)
node_subject (lang_tag tag) t e = absurd (none_some t e)
node_subject carets t e = absurd (none_some t e)
node_subject dot t e = absurd (none_some t e)

pub iri_is : (k : Terminal) (text : List ℕ) → iri_of k ≡ Some text → k ≡ iri_ref text
iri_is (iri_ref other) text e = ap iri_ref (same_Some other text e)
iri_is (blank_label label) text e = absurd (none_some text e)
iri_is (quoted lexical) text e = absurd (none_some text e)
iri_is (lang_tag tag) text e = absurd (none_some text e)
iri_is carets text e = absurd (none_some text e)
iri_is dot text e = absurd (none_some text e)

iri_predicate_is : (k : Terminal) (text : List ℕ) → iri_of k ≡ Some text → Predicate (k ∷ []) (Iri text)
iri_predicate_is k text e = rw (iri_is k text e) iri_predicate

-- the object's other terminals, and the first terminal after the object
record ReadObject (k : Terminal) (cs : List ℕ) (x : Term × (Terminal × List ℕ)) : Type 0 where
  others : List Terminal
  object : Object (k ∷ others) x.0
  mid : List ℕ
  run : Run cs others mid
  remaining : Begins mid x.1.0 x.1.1

alone : (k : Terminal) (t : Term) (w : Terminal × List ℕ) (cs : List ℕ) (x : Term × (Terminal × List ℕ)) → Object (k ∷ []) t → Begins cs w.0 w.1 → ◌≡◌ {A = Option (Term × (Terminal × List ℕ))} (Some (t, w)) (Some x) → ReadObject k cs x
alone k t w cs x o b e = subst (λ (y : Term × (Terminal × List ℕ)). ReadObject k cs y) (same_Some (t, w) x e) (record { others = []; object = o; mid = cs; run = refl; remaining = b })

literal_sound : (lexical : List ℕ) (w : Terminal × List ℕ) (cs : List ℕ) (x : Term × (Terminal × List ℕ)) → Begins cs w.0 w.1 → literal_of lexical w ≡ Some x → ReadObject (quoted lexical) cs x
literal_sound lexical (carets, rest) cs x b e =
    let d = bind_some (next rest) _ x e in
    let i = bind_some (iri_of d.0.0) _ x d.2 in
    let w = bind_some (next d.0.1) _ x i.2 in
    let is = iri_is d.0.0 i.0 i.1 in
    let second : Begins rest (iri_ref i.0) d.0.1 = subst (λ (y : Terminal). Begins rest y d.0.1) is (next_sound rest d.0 d.1) in
    subst (λ (y : Term × (Terminal × List ℕ)). ReadObject (quoted lexical) cs y) (same_Some (Literal lexical i.0 None, w.0) x w.2)
    (record { others = carets ∷ iri_ref i.0 ∷ []; object = typed_object; mid = d.0.1; run = (rest, b, (d.0.1, second, refl)); remaining = next_sound d.0.1 w.0 w.1 })
literal_sound lexical (lang_tag tag, rest) cs x b e =
    let w = bind_some (next rest) _ x e in
    subst (λ (y : Term × (Terminal × List ℕ)). ReadObject (quoted lexical) cs y) (same_Some (Literal lexical rdf_lang_string (Some tag), w.0) x w.2)
    (record { others = lang_tag tag ∷ []; object = tagged_object; mid = rest; run = (rest, b, refl); remaining = next_sound rest w.0 w.1 })
literal_sound lexical (iri_ref text, rest) cs x b e = alone (quoted lexical) _ (iri_ref text, rest) cs x plain_object b e
literal_sound lexical (blank_label label, rest) cs x b e = alone (quoted lexical) _ (blank_label label, rest) cs x plain_object b e
literal_sound lexical (quoted other, rest) cs x b e = alone (quoted lexical) _ (quoted other, rest) cs x plain_object b e
literal_sound lexical (dot, rest) cs x b e = alone (quoted lexical) _ (dot, rest) cs x plain_object b e

object_sound : (k : Terminal) (w : Terminal × List ℕ) (cs : List ℕ) (x : Term × (Terminal × List ℕ)) → Begins cs w.0 w.1 → object_of k w ≡ Some x → ReadObject k cs x
object_sound (iri_ref text) w cs x b e = alone (iri_ref text) _ w cs x iri_object b e
object_sound (blank_label label) w cs x b e = alone (blank_label label) _ w cs x blank_object b e
object_sound (quoted lexical) w cs x b e = literal_sound lexical w cs x b e
object_sound (lang_tag tag) w cs x b e = absurd (none_some x e)
object_sound carets w cs x b e = absurd (none_some x e)
object_sound dot w cs x b e = absurd (none_some x e)

record ReadGraph (cs : List ℕ) (x : Option Term × List ℕ) : Type 0 where
  label : List Terminal
  graph : GraphLabel label x.0
  run : Run cs (label ++ dot ∷ []) x.1

graph_dot_is : (g : Term) (w : Terminal × List ℕ) (x : Option Term × List ℕ) → graph_dot g w ≡ Some x → (w.0 ≡ dot) × ((Some g, w.1) ≡ x)
graph_dot_is g (dot, rest) x e = (refl, same_Some (Some g, rest) x e)
graph_dot_is g (iri_ref text, rest) x e = absurd (none_some x e)
graph_dot_is g (blank_label label, rest) x e = absurd (none_some x e)
graph_dot_is g (quoted lexical, rest) x e = absurd (none_some x e)
graph_dot_is g (lang_tag tag, rest) x e = absurd (none_some x e)
graph_dot_is g (carets, rest) x e = absurd (none_some x e)

named_graph : (k : Terminal) (g : Term) (rest cs : List ℕ) (x : Option Term × List ℕ) → GraphLabel (k ∷ []) (Some g) → Begins cs k rest → (next rest >>= graph_dot g) ≡ Some x → ReadGraph cs x
named_graph k g rest cs x l b e =
    let d = bind_some (next rest) (graph_dot g) x e in
    let p = graph_dot_is g d.0 x d.2 in
    let second : Begins rest dot d.0.1 = subst (λ (y : Terminal). Begins rest y d.0.1) p.0 (next_sound rest d.0 d.1) in
    subst (λ (y : Option Term × List ℕ). ReadGraph cs y) p.1 (record { label = k ∷ []; graph = l; run = (rest, b, (d.0.1, second, refl)) })

graph_sound : (w : Terminal × List ℕ) (cs : List ℕ) (x : Option Term × List ℕ) → Begins cs w.0 w.1 → graph_of w ≡ Some x → ReadGraph cs x
graph_sound (dot, rest) cs x b e = subst (λ (y : Option Term × List ℕ). ReadGraph cs y) (same_Some (None, rest) x e) (record { label = []; graph = no_graph; run = (rest, b, refl) })
graph_sound (iri_ref text, rest) cs x b e = named_graph (iri_ref text) (Iri text) rest cs x iri_graph b e
graph_sound (blank_label label, rest) cs x b e = named_graph (blank_label label) (Blank label) rest cs x blank_graph b e
graph_sound (quoted lexical, rest) cs x b e = absurd (none_some x e)
graph_sound (lang_tag tag, rest) cs x b e = absurd (none_some x e)
graph_sound (carets, rest) cs x b e = absurd (none_some x e)

pub record Reads (cs : List ℕ) (q : Option QuadParts) : Type 0 where
  pub terminals : List Terminal
  pub splits : Splits cs terminals
  pub derives : OptionalStatement terminals q

whole_some : (q : QuadParts) (rest : List ℕ) (y : Option QuadParts) → whole q rest ≡ Some y → (is_end (skip_blanks rest) ≡ true) × (Some q ≡ y)
whole_some q rest y e =
    let g = cond_is {A = Option QuadParts} (is_end (skip_blanks rest)) (Some (Some q)) y e in
    (g.0, same_Some (Some q) y g.1)

statement_sound : (cs : List ℕ) (y : Option QuadParts) → statement_at cs ≡ Some y → Reads cs y
unfolding statement_at
statement_sound cs y e =
    let b1 = bind_some (next cs) _ y e in
    let b2 = bind_some (node_of b1.0.0) _ y b1.2 in
    let b3 = bind_some (next b1.0.1) _ y b2.2 in
    let b4 = bind_some (iri_of b3.0.0) _ y b3.2 in
    let b5 = bind_some (next b3.0.1) _ y b4.2 in
    let b6 = bind_some (next b5.0.1) _ y b5.2 in
    let b7 = bind_some (object_of b5.0.0 b6.0) _ y b6.2 in
    let b8 = bind_some (graph_of b7.0.1) _ y b7.2 in
    let o = object_sound b5.0.0 b6.0 b5.0.1 b7.0 (next_sound b5.0.1 b6.0 b6.1) b7.1 in
    let g = graph_sound b7.0.1 o.mid b8.0 o.remaining b8.1 in
    let q : QuadParts = record { s = b2.0; p = Iri b4.0; o = b7.0.0; g = b8.0.0 } in
    let w = whole_some q b8.0.1 y b8.2 in
    let tail = run_then b5.0.1 o.others o.mid (g.label ++ dot ∷ []) o.run (run_end o.mid (g.label ++ dot ∷ []) b8.0.1 g.run (end_sound b8.0.1 w.0)) in
    subst (λ (z : Option QuadParts). Reads cs z) w.1
    (record {
      terminals = b1.0.0 ∷ b3.0.0 ∷ b5.0.0 ∷ (o.others ++ (g.label ++ dot ∷ []));
      splits = (b1.0.1, next_sound cs b1.0 b1.1, (b3.0.1, next_sound b1.0.1 b3.0 b3.1, (b5.0.1, next_sound b3.0.1 b5.0 b5.1, tail)));
      derives = record {
        s = b1.0.0 ∷ [];
        p = b3.0.0 ∷ [];
        o = b5.0.0 ∷ o.others;
        g = g.label;
        parts = refl;
        subject = node_subject b1.0.0 b2.0 b2.1;
        predicate = iri_predicate_is b3.0.0 b4.0 b4.1;
        object = o.object;
        graph = g.graph;
      };
    })

pub line_sound : (cs : List ℕ) (y : Option QuadParts) → line_at cs ≡ Some y → Reads cs y
unfolding line_at
line_sound cs y e =
    elim (which (is_end (skip_blanks cs))) [
      | inl h ↦
          let same : None ≡ y = same_Some None y (rw h at e) in
          subst (λ (z : Option QuadParts). Reads cs z) same (record { terminals = []; splits = end_sound cs h; derives = refl })
      | inr h ↦ statement_sound cs y (rw h at e)
    ]

-- ---- what is in the line is read

-- not what goes on with a literal
abbrev after_object : Terminal → Bool
after_object (iri_ref text) = true
after_object (blank_label label) = true
after_object (quoted lexical) = true
after_object (lang_tag tag) = false
after_object carets = false
after_object dot = true

record NodeAgain (cs : List ℕ) (t : Term) (more : List Terminal) : Type 0 where
  k : Terminal
  rest : List ℕ
  is : next cs ≡ Some (k, rest)
  node : node_of k ≡ Some t
  splits : Splits rest more

subject_again : {s : List Terminal} {t : Term} → Subject s t → (cs : List ℕ) (more : List Terminal) → Splits cs (s ++ more) → NodeAgain cs t more
subject_again (iri_subject {text}) cs more h = record { k = iri_ref text; rest = h.0; is = next_again cs (iri_ref text) h.0 h.1; node = refl; splits = h.2 }
subject_again (blank_subject {label}) cs more h = record { k = blank_label label; rest = h.0; is = next_again cs (blank_label label) h.0 h.1; node = refl; splits = h.2 }

record IriAgain (cs : List ℕ) (t : Term) (more : List Terminal) : Type 0 where
  k : Terminal
  rest : List ℕ
  text : List ℕ
  is : next cs ≡ Some (k, rest)
  iri : iri_of k ≡ Some text
  named : t ≡ Iri text
  splits : Splits rest more

predicate_again : {p : List Terminal} {t : Term} → Predicate p t → (cs : List ℕ) (more : List Terminal) → Splits cs (p ++ more) → IriAgain cs t more
predicate_again (iri_predicate {text}) cs more h = record { k = iri_ref text; rest = h.0; text = text; is = next_again cs (iri_ref text) h.0 h.1; iri = refl; named = refl; splits = h.2 }

record ObjectAgain (cs : List ℕ) (t : Term) (first : Terminal) (more : List Terminal) : Type 0 where
  k : Terminal
  rest : List ℕ
  w : Terminal × List ℕ
  is : next cs ≡ Some (k, rest)
  second : next rest ≡ Some w
  remaining : List ℕ
  object : object_of k w ≡ Some (t, (first, remaining))
  splits : Splits remaining more

plain_again : (lexical : List ℕ) (first : Terminal) (rest : List ℕ) → after_object first ≡ true → literal_of lexical (first, rest) ≡ Some (Literal lexical xsd_string None, (first, rest))
plain_again lexical (iri_ref text) rest h = refl
plain_again lexical (blank_label label) rest h = refl
plain_again lexical (quoted other) rest h = refl
plain_again lexical (lang_tag tag) rest h = absurd cc
plain_again lexical carets rest h = absurd cc
plain_again lexical dot rest h = refl

object_again : {o : List Terminal} {t : Term} → Object o t → (cs : List ℕ) (first : Terminal) (more : List Terminal) → after_object first ≡ true → Splits cs (o ++ first ∷ more) → ObjectAgain cs t first more
object_again (iri_object {text}) cs first more b h =
    record { k = iri_ref text; rest = h.0; w = (first, h.2.0); is = next_again cs (iri_ref text) h.0 h.1; second = next_again h.0 first h.2.0 h.2.1; remaining = h.2.0; object = refl; splits = h.2.2 }
object_again (blank_object {label}) cs first more b h =
    record { k = blank_label label; rest = h.0; w = (first, h.2.0); is = next_again cs (blank_label label) h.0 h.1; second = next_again h.0 first h.2.0 h.2.1; remaining = h.2.0; object = refl; splits = h.2.2 }
object_again (plain_object {lexical}) cs first more b h =
    record { k = quoted lexical; rest = h.0; w = (first, h.2.0); is = next_again cs (quoted lexical) h.0 h.1; second = next_again h.0 first h.2.0 h.2.1; remaining = h.2.0; object = plain_again lexical first h.2.0 b; splits = h.2.2 }
object_again (typed_object {lexical} {datatype}) cs first more b h =
    let third = h.2.2 in
    let fourth = third.2 in
    record {
      k = quoted lexical;
      rest = h.0;
      w = (carets, h.2.0);
      is = next_again cs (quoted lexical) h.0 h.1;
      second = next_again h.0 carets h.2.0 h.2.1;
      remaining = fourth.0;
      object = rw (next_again h.2.0 (iri_ref datatype) third.0 third.1) (rw (next_again third.0 first fourth.0 fourth.1) refl);
      splits = fourth.2;
    }
object_again (tagged_object {lexical} {tag}) cs first more b h =
    let third = h.2.2 in
    record {
      k = quoted lexical;
      rest = h.0;
      w = (lang_tag tag, h.2.0);
      is = next_again cs (quoted lexical) h.0 h.1;
      second = next_again h.0 (lang_tag tag) h.2.0 h.2.1;
      remaining = third.0;
      object = rw (next_again h.2.0 first third.0 third.1) refl;
      splits = third.2;
    }

record GraphAgain (label : List Terminal) (g : Option Term) : Type 0 where
  first : Terminal
  more : List Terminal
  parts : label ++ dot ∷ [] ≡ first ∷ more
  remaining : after_object first ≡ true
  again : (rest : List ℕ) → Splits rest more → (left : List ℕ) × (graph_of (first, rest) ≡ Some (g, left)) × IsEnd left

graph_again : {label : List Terminal} {g : Option Term} → GraphLabel label g → GraphAgain label g
graph_again no_graph = record { first = dot; more = []; parts = refl; remaining = refl; again = λ rest h. (rest, refl, h) }
graph_again (iri_graph {text}) = record { first = iri_ref text; more = dot ∷ []; parts = refl; remaining = refl; again = λ rest h. (h.0, rw (next_again rest dot h.0 h.1) refl, h.2) }
graph_again (blank_graph {label}) = record { first = blank_label label; more = dot ∷ []; parts = refl; remaining = refl; again = λ rest h. (h.0, rw (next_again rest dot h.0 h.1) refl, h.2) }

whole_again : (q : QuadParts) (rest : List ℕ) → IsEnd rest → whole q rest ≡ Some (Some q)
whole_again q rest h = rw (end_again rest h) refl

statement_again : (cs : List ℕ) (ks : List Terminal) (q : QuadParts) → Splits cs ks → Statement ks q → statement_at cs ≡ Some (Some q)
unfolding statement_at
statement_again cs ks q h st =
    let g = graph_again st.graph in
    let s = subject_again st.subject cs (st.p ++ (st.o ++ (st.g ++ (dot ∷ [])))) (subst (Splits cs) st.parts h) in
    let p = predicate_again st.predicate s.rest (st.o ++ (st.g ++ (dot ∷ []))) s.splits in
    let o = object_again st.object p.rest g.first g.more g.remaining (subst (λ (y : List Terminal). Splits p.rest (st.o ++ y)) g.parts p.splits) in
    let e = g.again o.remaining o.splits in
    rw (s.is) (rw (s.node) (rw (p.is) (rw (p.iri) (rw (o.is) (rw (o.second) (rw (o.object) (rw (e.1) (rw (← p.named) (whole_again q e.0 e.2)))))))))

statement_next : (cs : List ℕ) (ks : List Terminal) (q : QuadParts) → Splits cs ks → Statement ks q → is_end (skip_blanks cs) ≡ false
statement_next cs ks q h st =
    let s = subject_again st.subject cs (st.p ++ (st.o ++ (st.g ++ (dot ∷ [])))) (subst (Splits cs) st.parts h) in
    not_end (skip_blanks cs) (s.k, s.rest) s.is

pub line_again : (cs : List ℕ) (ks : List Terminal) (y : Option QuadParts) → Splits cs ks → OptionalStatement ks y → line_at cs ≡ Some y
unfolding line_at
line_again cs ks None h d = rw (end_again cs (subst (Splits cs) d h)) refl
line_again cs ks (Some q) h d = rw (statement_next cs ks q h d) (statement_again cs ks q h d)
