-- A line is read exactly if its turns complete it.
use Rattle.std.proofs.Common.{◌≡◌, ℕ, true, false, eqb, List, [], ◌∷◌, Option, Some, None, refl, sym, ap, subst, ◌∙◌, inl, inr}
use Rattle.std.proofs.lemmas.Bool.{eqb-true}
use Rattle.std.proofs.lemmas.Option.{same_Some}
use Rattle.rdf_core.specs.QuadParts.{QuadParts}
use Rattle.rdf_core.specs.Vocabulary.{xsd_string, rdf_lang_string}
use Rattle.rdf_core.specs.declared.term.Term.{Term}
use Rattle.rdf_core.specs.declared.term.Term.TheVariants.{Blank, Iri, Literal}
use Rattle.rdf_core.proofs.EscapeSteps.{cond_is, which}
use Rattle.rdf_core.proofs.EscapeLaws.{none_some}
use Rattle.nquads_core.specs.Terminal.{Terminal, iri_ref, blank_label, quoted, lang_tag, carets, dot}
use Rattle.nquads_core.specs.LineParser.{◌>>=◌, graph_dot, graph_of, iri_of, is_end, line_at, literal_of, next, node_of, object_of, skip_blanks, statement_at, terminal_at}
use Rattle.nquads_core.proofs.LineLaws.{iri_is}
use Rattle.nquads_core.proofs.TerminalLaws.{bind_some}
use Rattle.line_diagnosis.specs.declared.reason.Next.TheVariants.{Subject, Predicate, Object, Datatype, Graph, Dot, End}
use Rattle.line_diagnosis.specs.Turn.{Turn, part, suffix, after_blank, after_dot, after_iri, follows, Completes, ended, goes}

-- ---- what is read completes the line

abbrev Ends : List ℕ → Type 0
Ends cs = is_end (skip_blanks cs) ≡ true

graph_dot_is : (g : Term) (w : Terminal × List ℕ) (x : Option Term × List ℕ) → graph_dot g w ≡ Some x → (w.0 ≡ dot) × ((Some g, w.1) ≡ x)
graph_dot_is g (dot, rest) x e = (refl, same_Some (Some g, rest) x e)
graph_dot_is g (iri_ref text, rest) x e = absurd (none_some x e)
graph_dot_is g (blank_label label, rest) x e = absurd (none_some x e)
graph_dot_is g (quoted lexical, rest) x e = absurd (none_some x e)
graph_dot_is g (lang_tag tag, rest) x e = absurd (none_some x e)
graph_dot_is g (carets, rest) x e = absurd (none_some x e)

dot_completes : (t : Turn) (k : Terminal) (cs rest : List ℕ) → after_dot t ≡ Some (part End) → k ≡ dot → next cs ≡ Some (k, rest) → Ends rest → Completes t cs
unfolding follows
dot_completes t k cs rest a e n h = goes dot rest (part End) (n ∙ ap (λ (y : Terminal). Some (y, rest)) e) a (ended refl h)

named_completes : (g : Term) (rest : List ℕ) (x : Option Term × List ℕ) → (next rest >>= graph_dot g) ≡ Some x → Ends x.1 → Completes (part Dot) rest
named_completes g rest x e h =
    let d = bind_some (next rest) (graph_dot g) x e in
    let p = graph_dot_is g d.0 x d.2 in
    dot_completes (part Dot) d.0.0 rest d.0.1 refl p.0 d.1 (subst (λ (y : Option Term × List ℕ). Ends y.1) (sym p.1) h)

-- the turn goes on as one where a graph name or the dot may come
abbrev IsGraphTurn : Turn → Type 0
IsGraphTurn t = (after_iri t ≡ Some (part Dot)) × (after_blank t ≡ Some (part Dot)) × (after_dot t ≡ Some (part End))

graph_completes : (t : Turn) (w : Terminal × List ℕ) (cs : List ℕ) (x : Option Term × List ℕ) → IsGraphTurn t → next cs ≡ Some w → graph_of w ≡ Some x → Ends x.1 → Completes t cs
unfolding follows
graph_completes t (dot, rest) cs x a n e h = dot_completes t dot cs rest a.2 refl n (subst (λ (y : Option Term × List ℕ). Ends y.1) (sym (same_Some (None, rest) x e)) h)
graph_completes t (iri_ref text, rest) cs x a n e h = goes (iri_ref text) rest (part Dot) n a.0 (named_completes (Iri text) rest x e h)
graph_completes t (blank_label label, rest) cs x a n e h = goes (blank_label label) rest (part Dot) n a.1 (named_completes (Blank label) rest x e h)
graph_completes t (quoted lexical, rest) cs x a n e h = absurd (none_some x e)
graph_completes t (lang_tag tag, rest) cs x a n e h = absurd (none_some x e)
graph_completes t (carets, rest) cs x a n e h = absurd (none_some x e)

graph_turn : IsGraphTurn (part Graph)
graph_turn = (refl, refl, refl)

suffix_turn : IsGraphTurn suffix
suffix_turn = (refl, refl, refl)

iri_completes : (t u : Turn) (k : Terminal) (text cs rest : List ℕ) → after_iri t ≡ Some u → iri_of k ≡ Some text → next cs ≡ Some (k, rest) → Completes u rest → Completes t cs
unfolding follows
iri_completes t u k text cs rest a i n m = goes (iri_ref text) rest u (n ∙ ap (λ (y : Terminal). Some (y, rest)) (iri_is k text i)) a m

-- an object, and the first terminal after it
abbrev Found : Type 0
Found = Term × (Terminal × List ℕ)

graph_after : (t : Turn) (w : Terminal × List ℕ) (o : Term) (cs : List ℕ) (x : Found) (g : Option Term × List ℕ) → IsGraphTurn t → next cs ≡ Some w → ◌≡◌ {A = Option Found} (Some (o, w)) (Some x) → graph_of x.1 ≡ Some g → Ends g.1 → Completes t cs
graph_after t w o cs x g a n e h k = graph_completes t w cs g a n (subst (λ (y : Found). graph_of y.1 ≡ Some g) (sym (same_Some (o, w) x e)) h) k

literal_completes : (lexical : List ℕ) (w : Terminal × List ℕ) (cs : List ℕ) (x : Found) (g : Option Term × List ℕ) → next cs ≡ Some w → literal_of lexical w ≡ Some x → graph_of x.1 ≡ Some g → Ends g.1 → Completes suffix cs
unfolding follows
literal_completes lexical (carets, rest) cs x g n e h k =
    let d = bind_some (next rest) _ x e in
    let i = bind_some (iri_of d.0.0) _ x d.2 in
    let w = bind_some (next d.0.1) _ x i.2 in
    goes carets rest (part Datatype) n refl
    (iri_completes (part Datatype) (part Graph) d.0.0 i.0 rest d.0.1 refl i.1 d.1
    (graph_after (part Graph) w.0 (Literal lexical i.0 None) d.0.1 x g graph_turn w.1 w.2 h k))
literal_completes lexical (lang_tag tag, rest) cs x g n e h k =
    let w = bind_some (next rest) _ x e in
    goes (lang_tag tag) rest (part Graph) n refl (graph_after (part Graph) w.0 (Literal lexical rdf_lang_string (Some tag)) rest x g graph_turn w.1 w.2 h k)
literal_completes lexical (iri_ref text, rest) cs x g n e h k = graph_after suffix (iri_ref text, rest) (Literal lexical xsd_string None) cs x g suffix_turn n e h k
literal_completes lexical (blank_label label, rest) cs x g n e h k = graph_after suffix (blank_label label, rest) (Literal lexical xsd_string None) cs x g suffix_turn n e h k
literal_completes lexical (quoted other, rest) cs x g n e h k = graph_after suffix (quoted other, rest) (Literal lexical xsd_string None) cs x g suffix_turn n e h k
literal_completes lexical (dot, rest) cs x g n e h k = graph_after suffix (dot, rest) (Literal lexical xsd_string None) cs x g suffix_turn n e h k

object_completes : (k : Terminal) (rest : List ℕ) (w : Terminal × List ℕ) (cs : List ℕ) (x : Found) (g : Option Term × List ℕ) → next cs ≡ Some (k, rest) → next rest ≡ Some w → object_of k w ≡ Some x → graph_of x.1 ≡ Some g → Ends g.1 → Completes (part Object) cs
unfolding follows
object_completes (iri_ref text) rest w cs x g n m e h k = goes (iri_ref text) rest (part Graph) n refl (graph_after (part Graph) w (Iri text) rest x g graph_turn m e h k)
object_completes (blank_label label) rest w cs x g n m e h k = goes (blank_label label) rest (part Graph) n refl (graph_after (part Graph) w (Blank label) rest x g graph_turn m e h k)
object_completes (quoted lexical) rest w cs x g n m e h k = goes (quoted lexical) rest suffix n refl (literal_completes lexical w rest x g m e h k)
object_completes (lang_tag tag) rest w cs x g n m e h k = absurd (none_some x e)
object_completes carets rest w cs x g n m e h k = absurd (none_some x e)
object_completes dot rest w cs x g n m e h k = absurd (none_some x e)

subject_completes : (k : Terminal) (rest : List ℕ) (t : Term) (cs : List ℕ) → node_of k ≡ Some t → next cs ≡ Some (k, rest) → Completes (part Predicate) rest → Completes (part Subject) cs
unfolding follows
subject_completes (iri_ref text) rest t cs e n m = goes (iri_ref text) rest (part Predicate) n refl m
subject_completes (blank_label label) rest t cs e n m = goes (blank_label label) rest (part Predicate) n refl m
subject_completes (quoted lexical) rest t cs e n m = absurd (none_some t e)
subject_completes (lang_tag tag) rest t cs e n m = absurd (none_some t e)
subject_completes carets rest t cs e n m = absurd (none_some t e)
subject_completes dot rest t cs e n m = absurd (none_some t e)

statement_completes : (cs : List ℕ) (y : Option QuadParts) → statement_at cs ≡ Some y → Completes (part Subject) cs
unfolding statement_at
statement_completes cs y e =
    let b1 = bind_some (next cs) _ y e in
    let b2 = bind_some (node_of b1.0.0) _ y b1.2 in
    let b3 = bind_some (next b1.0.1) _ y b2.2 in
    let b4 = bind_some (iri_of b3.0.0) _ y b3.2 in
    let b5 = bind_some (next b3.0.1) _ y b4.2 in
    let b6 = bind_some (next b5.0.1) _ y b5.2 in
    let b7 = bind_some (object_of b5.0.0 b6.0) _ y b6.2 in
    let b8 = bind_some (graph_of b7.0.1) _ y b7.2 in
    let q : QuadParts = record { s = b2.0; p = Iri b4.0; o = b7.0.0; g = b8.0.0 } in
    let w = cond_is {A = Option QuadParts} (is_end (skip_blanks b8.0.1)) (Some (Some q)) y b8.2 in
    subject_completes b1.0.0 b1.0.1 b2.0 cs b2.1 b1.1
    (iri_completes (part Predicate) (part Object) b3.0.0 b4.0 b1.0.1 b3.0.1 refl b4.1 b3.1
    (object_completes b5.0.0 b5.0.1 b6.0 b3.0.1 b7.0 b8.0 b5.1 b6.1 b7.1 b8.1 w.0))

pub line_completes : (cs : List ℕ) (y : Option QuadParts) → line_at cs ≡ Some y → Completes (part Subject) cs
unfolding line_at
line_completes cs y e = elim (which (is_end (skip_blanks cs))) [
  | inl h ↦ ended refl h
  | inr h ↦ statement_completes cs y (rw h at e)
]

-- ---- what completes the line is read

no_more : (k : Terminal) (u : Turn) → follows (part End) k ≡ Some u → ⊥
unfolding follows
no_more (iri_ref text) u f = none_some u f
no_more (blank_label label) u f = none_some u f
no_more (quoted lexical) u f = none_some u f
no_more (lang_tag tag) u f = none_some u f
no_more carets u f = none_some u f
no_more dot u f = none_some u f

end_read : (cs : List ℕ) → Completes (part End) cs → Ends cs
end_read cs (ended l h) = h
end_read cs (goes k rest u n f m) = absurd (no_more k u f)

in_turn : (t u : Turn) (rest : List ℕ) → ◌≡◌ {A = Option Turn} (Some t) (Some u) → Completes u rest → Completes t rest
in_turn t u rest e m = subst (λ (y : Turn). Completes y rest) (sym (same_Some t u e)) m

record DotRead (cs : List ℕ) : Type 0 where
  rest : List ℕ
  reads : next cs ≡ Some (dot, rest)
  ends : Ends rest

dot_terminal : (cs : List ℕ) (k : Terminal) (rest : List ℕ) (u : Turn) → next cs ≡ Some (k, rest) → follows (part Dot) k ≡ Some u → Completes u rest → DotRead cs
unfolding follows
dot_terminal cs dot rest u n f m = record { rest = rest; reads = n; ends = end_read rest (in_turn (part End) u rest f m) }
dot_terminal cs (iri_ref text) rest u n f m = absurd (none_some u f)
dot_terminal cs (blank_label label) rest u n f m = absurd (none_some u f)
dot_terminal cs (quoted lexical) rest u n f m = absurd (none_some u f)
dot_terminal cs (lang_tag tag) rest u n f m = absurd (none_some u f)
dot_terminal cs carets rest u n f m = absurd (none_some u f)

dot_read : (cs : List ℕ) → Completes (part Dot) cs → DotRead cs
dot_read cs (ended l h) = absurd cc
dot_read cs (goes k rest u n f m) = dot_terminal cs k rest u n f m

record GraphRead (cs : List ℕ) : Type 0 where
  w : Terminal × List ℕ
  g : Option Term × List ℕ
  reads : next cs ≡ Some w
  graph : graph_of w ≡ Some g
  literal : (lexical : List ℕ) → literal_of lexical w ≡ Some (Literal lexical xsd_string None, w)
  ends : Ends g.1

named_read : (cs rest : List ℕ) (k : Terminal) (t : Term) → next cs ≡ Some (k, rest) → graph_of (k, rest) ≡ (next rest >>= graph_dot t)
    → ((lexical : List ℕ) → literal_of lexical (k, rest) ≡ Some (Literal lexical xsd_string None, (k, rest))) → Completes (part Dot) rest → GraphRead cs
named_read cs rest k t n e l m =
    let d = dot_read rest m in
    record { w = (k, rest); g = (Some t, d.rest); reads = n; graph = e ∙ rw d.reads refl; literal = l; ends = d.ends }

graph_terminal : (cs : List ℕ) (k : Terminal) (rest : List ℕ) (u : Turn) → next cs ≡ Some (k, rest) → follows (part Graph) k ≡ Some u → Completes u rest → GraphRead cs
unfolding follows
graph_terminal cs dot rest u n f m = record { w = (dot, rest); g = (None, rest); reads = n; graph = refl; literal = λ lexical. refl; ends = end_read rest (in_turn (part End) u rest f m) }
graph_terminal cs (iri_ref text) rest u n f m = named_read cs rest (iri_ref text) (Iri text) n refl (λ lexical. refl) (in_turn (part Dot) u rest f m)
graph_terminal cs (blank_label label) rest u n f m = named_read cs rest (blank_label label) (Blank label) n refl (λ lexical. refl) (in_turn (part Dot) u rest f m)
graph_terminal cs (quoted lexical) rest u n f m = absurd (none_some u f)
graph_terminal cs (lang_tag tag) rest u n f m = absurd (none_some u f)
graph_terminal cs carets rest u n f m = absurd (none_some u f)

graph_read : (cs : List ℕ) → Completes (part Graph) cs → GraphRead cs
graph_read cs (ended l h) = absurd cc
graph_read cs (goes k rest u n f m) = graph_terminal cs k rest u n f m

record IriRead (u : Turn) (cs : List ℕ) : Type 0 where
  text : List ℕ
  rest : List ℕ
  reads : next cs ≡ Some (iri_ref text, rest)
  more : Completes u rest

datatype_terminal : (cs : List ℕ) (k : Terminal) (rest : List ℕ) (u : Turn) → next cs ≡ Some (k, rest) → follows (part Datatype) k ≡ Some u → Completes u rest → IriRead (part Graph) cs
unfolding follows
datatype_terminal cs (iri_ref text) rest u n f m = record { text = text; rest = rest; reads = n; more = in_turn (part Graph) u rest f m }
datatype_terminal cs (blank_label label) rest u n f m = absurd (none_some u f)
datatype_terminal cs (quoted lexical) rest u n f m = absurd (none_some u f)
datatype_terminal cs (lang_tag tag) rest u n f m = absurd (none_some u f)
datatype_terminal cs carets rest u n f m = absurd (none_some u f)
datatype_terminal cs dot rest u n f m = absurd (none_some u f)

datatype_read : (cs : List ℕ) → Completes (part Datatype) cs → IriRead (part Graph) cs
datatype_read cs (ended l h) = absurd cc
datatype_read cs (goes k rest u n f m) = datatype_terminal cs k rest u n f m

predicate_terminal : (cs : List ℕ) (k : Terminal) (rest : List ℕ) (u : Turn) → next cs ≡ Some (k, rest) → follows (part Predicate) k ≡ Some u → Completes u rest → IriRead (part Object) cs
unfolding follows
predicate_terminal cs (iri_ref text) rest u n f m = record { text = text; rest = rest; reads = n; more = in_turn (part Object) u rest f m }
predicate_terminal cs (blank_label label) rest u n f m = absurd (none_some u f)
predicate_terminal cs (quoted lexical) rest u n f m = absurd (none_some u f)
predicate_terminal cs (lang_tag tag) rest u n f m = absurd (none_some u f)
predicate_terminal cs carets rest u n f m = absurd (none_some u f)
predicate_terminal cs dot rest u n f m = absurd (none_some u f)

predicate_read : (cs : List ℕ) → Completes (part Predicate) cs → IriRead (part Object) cs
predicate_read cs (ended l h) = absurd cc
predicate_read cs (goes k rest u n f m) = predicate_terminal cs k rest u n f m

-- what follows an object of which the first terminal is read
record ObjectRead (k : Terminal) (rest : List ℕ) : Type 0 where
  w : Terminal × List ℕ
  x : Found
  g : Option Term × List ℕ
  reads : next rest ≡ Some w
  object : object_of k w ≡ Some x
  graph : graph_of x.1 ≡ Some g
  ends : Ends g.1

suffix_terminal : (lexical cs : List ℕ) (k : Terminal) (rest : List ℕ) (u : Turn) → next cs ≡ Some (k, rest) → follows suffix k ≡ Some u → Completes u rest → ObjectRead (quoted lexical) cs
unfolding follows
suffix_terminal lexical cs carets rest u n f m =
    let d = datatype_read rest (in_turn (part Datatype) u rest f m) in
    let r = graph_read d.rest d.more in
    record { w = (carets, rest); x = (Literal lexical d.text None, r.w); g = r.g; reads = n; object = rw (d.reads, r.reads) refl; graph = r.graph; ends = r.ends }
suffix_terminal lexical cs (lang_tag tag) rest u n f m =
    let r = graph_read rest (in_turn (part Graph) u rest f m) in
    record { w = (lang_tag tag, rest); x = (Literal lexical rdf_lang_string (Some tag), r.w); g = r.g; reads = n; object = rw r.reads refl; graph = r.graph; ends = r.ends }
suffix_terminal lexical cs dot rest u n f m =
    let r = graph_terminal cs dot rest u n f m in
    record { w = r.w; x = (Literal lexical xsd_string None, r.w); g = r.g; reads = r.reads; object = r.literal lexical; graph = r.graph; ends = r.ends }
suffix_terminal lexical cs (iri_ref text) rest u n f m =
    let r = graph_terminal cs (iri_ref text) rest u n f m in
    record { w = r.w; x = (Literal lexical xsd_string None, r.w); g = r.g; reads = r.reads; object = r.literal lexical; graph = r.graph; ends = r.ends }
suffix_terminal lexical cs (blank_label label) rest u n f m =
    let r = graph_terminal cs (blank_label label) rest u n f m in
    record { w = r.w; x = (Literal lexical xsd_string None, r.w); g = r.g; reads = r.reads; object = r.literal lexical; graph = r.graph; ends = r.ends }
suffix_terminal lexical cs (quoted other) rest u n f m = absurd (none_some u f)

suffix_read : (lexical cs : List ℕ) → Completes suffix cs → ObjectRead (quoted lexical) cs
suffix_read lexical cs (ended l h) = absurd cc
suffix_read lexical cs (goes k rest u n f m) = suffix_terminal lexical cs k rest u n f m

record ObjectFirst (cs : List ℕ) : Type 0 where
  k : Terminal
  rest : List ℕ
  reads : next cs ≡ Some (k, rest)
  others : ObjectRead k rest

object_terminal : (cs : List ℕ) (k : Terminal) (rest : List ℕ) (u : Turn) → next cs ≡ Some (k, rest) → follows (part Object) k ≡ Some u → Completes u rest → ObjectFirst cs
unfolding follows
object_terminal cs (iri_ref text) rest u n f m =
    let r = graph_read rest (in_turn (part Graph) u rest f m) in
    record { k = iri_ref text; rest = rest; reads = n; others = record { w = r.w; x = (Iri text, r.w); g = r.g; reads = r.reads; object = refl; graph = r.graph; ends = r.ends } }
object_terminal cs (blank_label label) rest u n f m =
    let r = graph_read rest (in_turn (part Graph) u rest f m) in
    record { k = blank_label label; rest = rest; reads = n; others = record { w = r.w; x = (Blank label, r.w); g = r.g; reads = r.reads; object = refl; graph = r.graph; ends = r.ends } }
object_terminal cs (quoted lexical) rest u n f m = record { k = quoted lexical; rest = rest; reads = n; others = suffix_read lexical rest (in_turn suffix u rest f m) }
object_terminal cs (lang_tag tag) rest u n f m = absurd (none_some u f)
object_terminal cs carets rest u n f m = absurd (none_some u f)
object_terminal cs dot rest u n f m = absurd (none_some u f)

object_read : (cs : List ℕ) → Completes (part Object) cs → ObjectFirst cs
object_read cs (ended l h) = absurd cc
object_read cs (goes k rest u n f m) = object_terminal cs k rest u n f m

no_nil : terminal_at [] ≡ None
unfolding terminal_at
no_nil = refl

no_hash : (cs : List ℕ) → terminal_at (35 ∷ cs) ≡ None
unfolding terminal_at
no_hash cs = refl

not_end : (cs : List ℕ) (x : Terminal × List ℕ) → terminal_at cs ≡ Some x → is_end cs ≡ false
not_end [] x e = absurd (none_some x (sym no_nil ∙ e))
not_end (c ∷ cs) x e = elim (which (eqb c 35)) [
  | inl h ↦ absurd (none_some x (sym (no_hash cs) ∙ subst (λ (y : ℕ). terminal_at (y ∷ cs) ≡ Some x) (eqb-true c 35 h) e))
  | inr h ↦ h
]

abbrev Line : List ℕ → Type 0
Line cs = (y : Option QuadParts) × (line_at cs ≡ Some y)

statement_read : (cs : List ℕ) (k : Terminal) (rest : List ℕ) (s : Term) → next cs ≡ Some (k, rest) → node_of k ≡ Some s → Completes (part Predicate) rest → Line cs
unfolding line_at statement_at
statement_read cs k rest s n e m =
    let p = predicate_read rest m in
    let o = object_read p.rest p.more in
    let r = o.others in
    (Some (record { s = s; p = Iri p.text; o = r.x.0; g = r.g.0 }), rw (not_end (skip_blanks cs) (k, rest) n) (rw n (rw e (rw p.reads (rw o.reads (rw r.reads (rw r.object (rw r.graph (rw r.ends refl)))))))))

subject_terminal : (cs : List ℕ) (k : Terminal) (rest : List ℕ) (u : Turn) → next cs ≡ Some (k, rest) → follows (part Subject) k ≡ Some u → Completes u rest → Line cs
unfolding follows
subject_terminal cs (iri_ref text) rest u n f m = statement_read cs (iri_ref text) rest (Iri text) n refl (in_turn (part Predicate) u rest f m)
subject_terminal cs (blank_label label) rest u n f m = statement_read cs (blank_label label) rest (Blank label) n refl (in_turn (part Predicate) u rest f m)
subject_terminal cs (quoted lexical) rest u n f m = absurd (none_some u f)
subject_terminal cs (lang_tag tag) rest u n f m = absurd (none_some u f)
subject_terminal cs carets rest u n f m = absurd (none_some u f)
subject_terminal cs dot rest u n f m = absurd (none_some u f)

empty_line : (cs : List ℕ) → Ends cs → Line cs
unfolding line_at
empty_line cs h = (None, rw h refl)

pub line_read : (cs : List ℕ) → Completes (part Subject) cs → Line cs
line_read cs (ended l h) = empty_line cs h
line_read cs (goes k rest u n f m) = subject_terminal cs k rest u n f m
