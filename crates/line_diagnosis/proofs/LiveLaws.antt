-- Some text completes the line after each state.
use Rattle.std.proofs.Common.{◌≡◌, ℕ, suc, Bool, true, false, eqb, List, [], ◌∷◌, ◌++◌, length, Option, Some, Ok, refl, sym, ap, ◌∙◌, inl}
use Rattle.std.specs.Prelude.{◌&&◌, ◌||◌, not}
use Rattle.std.specs.Char.{is_ascii_alphanumeric}
use Rattle.std.specs.Str.{NonePass, all_scalars}
use lib.Utf8.{scalar}
use Rattle.std.proofs.lemmas.Bool.Decides.{nat_tests}
use Rattle.std.proofs.Common.{arith}
use Rattle.rdf_core.specs.Characters.{all_pass, is_hex, is_label_char, is_label_start, is_name_start, is_pn_chars_base}
use Rattle.rdf_core.specs.LexicalReading.{parts_at}
use Rattle.rdf_core.specs.declared.lexical.escapes.Inside.{Inside}
use Rattle.rdf_core.specs.declared.lexical.escapes.Inside.TheVariants as inside
use Rattle.rdf_core.proofs.EscapeLaws.{and_is, and_parts}
use Rattle.nquads_core.specs.LineParser.{skip_blanks}
use Rattle.nquads_core.specs.Terminal.{is_blank}
use Rattle.line_diagnosis.specs.declared.reason.Next.{Next}
use Rattle.line_diagnosis.specs.declared.reason.Next.TheVariants as next
use Rattle.line_diagnosis.specs.declared.state.Digits.{Digits}
use Rattle.line_diagnosis.specs.declared.state.Part.{Part}
use Rattle.line_diagnosis.specs.declared.state.Part.TheVariants as position
use Rattle.line_diagnosis.specs.declared.state.Scheme.{Scheme}
use Rattle.line_diagnosis.specs.declared.state.Scheme.TheVariants as scheme
use Rattle.line_diagnosis.specs.declared.state.State.{State}
use Rattle.line_diagnosis.specs.declared.state.State.TheVariants as state
use Rattle.line_diagnosis.specs.StateAfter.{is_line_break}
use Rattle.line_diagnosis.specs.Turn.{Turn, part, suffix, after_dot, Completes, ended}
use Rattle.line_diagnosis.specs.Rest.{Accepts, CanDenote, CanEnd, IsStep, RestOfDigits, RestOfIri, RestOfString, after, completes_scheme, may_come}
use Rattle.line_diagnosis.proofs.SchemeLaws.{may_be}
use Rattle.line_diagnosis.proofs.DigitLaws.{Spelled, spelled}
use Rattle.line_diagnosis.proofs.EscapeOpens.{opened_can}
use Rattle.line_diagnosis.proofs.TurnLaws.{blank_back, blank_forth, dot_back, dot_forth}
use Rattle.line_diagnosis.proofs.IriSteps.{iri_closes, iri_goes, iri_letter, iri_opens}
use Rattle.line_diagnosis.proofs.StringSteps.{string_closes, string_short}
use Rattle.line_diagnosis.proofs.LabelSteps.{caret_step, colon_step, dot_char, dots_char, label_ends, start_step}
use Rattle.line_diagnosis.proofs.TagSteps.{at_step, hyphen_step, subtag_ends, tag_ends}

-- this text completes the line
pub record IsLive (accepts : List ℕ → Type 0) : Type 0 where
  pub text : List ℕ
  pub scalars : all_scalars text ≡ true
  pub plain : NonePass is_line_break text
  pub is : accepts text

abbrev Live : State → Type 0
Live s = IsLive (Accepts s)

-- a character before the text
live_step : (s t : State) (c : ℕ) → scalar c ≡ true → is_line_break c ≡ false → IsStep (Accepts s) c t → Live t → Live s
live_step s t c u b h l = record { text = c ∷ l.text; scalars = and_is (scalar c) (all_scalars l.text) u l.scalars; plain = (b, l.plain); is = h.back l.text l.is }

-- ---- between terminals

nothing : (t : Turn) → (Completes t []) → IsLive (Completes t)
nothing t m = record { text = []; scalars = refl; plain = tt; is = m }

end_nothing : Completes (part next.End) []
unfolding skip_blanks
end_nothing = ended refl refl

subject_nothing : Completes (part next.Subject) []
unfolding skip_blanks
subject_nothing = ended refl refl

live_end : Live (state.Between next.End)
live_end = nothing (part next.End) end_nothing

pub dot_step : (n : Next) → after_dot (part n) ≡ Some (part next.End) → IsStep (Accepts (state.Between n)) 46 (state.Between next.End)
dot_step n e = record { forth = λ cs m. dot_forth (part n) (part next.End) cs e m; back = λ cs m. dot_back (part n) (part next.End) cs e m; can_end = tt }

string_dot : IsStep (Accepts state.AfterString) 46 (state.Between next.End)
string_dot = record { forth = λ cs m. dot_forth suffix (part next.End) cs refl m; back = λ cs m. dot_back suffix (part next.End) cs refl m; can_end = tt }

pub blank_step : (n : Next) (c : ℕ) → is_blank c ≡ true → IsStep (Accepts (state.Between n)) c (state.Between n)
blank_step n c h = record { forth = λ cs m. blank_forth (part n) c cs h m; back = λ cs m. blank_back (part n) c cs h m; can_end = tt }

live_dot : Live (state.Between next.Dot)
live_dot = live_step (state.Between next.Dot) (state.Between next.End) 46 refl refl (dot_step next.Dot refl) live_end

live_graph : Live (state.Between next.Graph)
live_graph = live_step (state.Between next.Graph) (state.Between next.End) 46 refl refl (dot_step next.Graph refl) live_end

live_suffix : Live state.AfterString
live_suffix = live_step state.AfterString (state.Between next.End) 46 refl refl string_dot live_end

-- the end of an IRI: the colon after its scheme, and >
live_read : (p : Part) → Live (state.Between (after p)) → Live (state.Iri p scheme.Read)
live_read p l = live_step (state.Iri p scheme.Read) (state.Between (after p)) 62 refl refl (iri_closes p) l

live_begun : (p : Part) → Live (state.Between (after p)) → Live (state.Iri p scheme.Begun)
live_begun p l = live_step (state.Iri p scheme.Begun) (state.Iri p scheme.Read) 58 refl refl (iri_goes p scheme.Begun scheme.Read 58 refl (λ cs. refl)) (live_read p l)

live_unread : (p : Part) → Live (state.Between (after p)) → Live (state.Iri p scheme.Unread)
live_unread p l = live_step (state.Iri p scheme.Unread) (state.Iri p scheme.Begun) 97 refl refl (iri_goes p scheme.Unread scheme.Begun 97 refl (λ cs. refl)) (live_begun p l)

live_datatype : Live (state.Between next.Datatype)
live_datatype = live_step (state.Between next.Datatype) (state.Iri position.Datatype scheme.Unread) 60 refl refl (iri_opens next.Datatype position.Datatype refl) (live_unread position.Datatype live_graph)

live_object : Live (state.Between next.Object)
live_object = live_step (state.Between next.Object) (state.Iri position.Object scheme.Unread) 60 refl refl (iri_opens next.Object position.Object refl) (live_unread position.Object live_graph)

live_predicate : Live (state.Between next.Predicate)
live_predicate = live_step (state.Between next.Predicate) (state.Iri position.Predicate scheme.Unread) 60 refl refl (iri_opens next.Predicate position.Predicate refl) (live_unread position.Predicate live_object)

live_after : (p : Part) → Live (state.Between (after p))
live_after position.Subject = live_predicate
live_after position.Predicate = live_object
live_after position.Object = live_graph
live_after position.Datatype = live_graph
live_after position.Graph = live_dot

live_between : (n : Next) → Live (state.Between n)
live_between next.Subject = nothing (part next.Subject) subject_nothing
live_between next.Predicate = live_predicate
live_between next.Object = live_object
live_between next.Datatype = live_datatype
live_between next.Graph = live_graph
live_between next.Dot = live_dot
live_between next.End = live_end

-- ---- escapes

-- the first characters of the text are read
skip_all : (k : Inside) (close : Option ℕ) (front rest : List ℕ) → parts_at k close (length front) (front ++ rest) ≡ parts_at k close 0 rest
unfolding parts_at
skip_all k close [] rest = refl
skip_all k close (c ∷ front) rest = skip_all k close front rest

hex_scalar : (c : ℕ) → is_hex c ≡ true → scalar c ≡ true
hex_scalar c h = grind (arith, nat_tests)

hex_plain : (c : ℕ) → is_hex c ≡ true → not (is_line_break c) ≡ true
hex_plain c h = grind (arith, nat_tests)

not_true : (b : Bool) → not b ≡ true → b ≡ false
not_true true e = cc
not_true false e = refl

scalars_join : (front rest : List ℕ) → all_pass scalar front ≡ true → all_scalars rest ≡ true → all_scalars (front ++ rest) ≡ true
scalars_join [] rest h r = r
scalars_join (c ∷ front) rest h r =
    let p = and_parts (scalar c) (all_pass scalar front) h in
    and_is (scalar c) (all_scalars (front ++ rest)) p.0 (scalars_join front rest p.1 r)

plain_join : (front rest : List ℕ) → all_pass (λ c. not (is_line_break c)) front ≡ true → NonePass is_line_break rest → NonePass is_line_break (front ++ rest)
plain_join [] rest h r = r
plain_join (c ∷ front) rest h r =
    let p = and_parts (not (is_line_break c)) (all_pass (λ (d : ℕ). not (is_line_break d)) front) h in
    (not_true (is_line_break c) p.0, plain_join front rest p.1 r)

-- digits that denote the character, and then a text of the state after them
live_digits : (d : Digits) (c : ℕ) (accepts : List ℕ → Type 0) (follows : List ℕ → Type 0) → Spelled (suc d.more) d.value c → IsLive follows
    → ((digits : List ℕ) (rest : List ℕ) → length digits ≡ suc d.more → RestOfDigits d c (digits ++ rest) → follows rest → accepts (digits ++ rest)) → scalar c ≡ true → IsLive accepts
live_digits d c accepts follows s l f u = record {
  text = s.digits ++ l.text;
  scalars = scalars_join s.digits l.text (s.plain scalar hex_scalar) l.scalars;
  plain = plain_join s.digits l.text (s.plain (λ x. not (is_line_break x)) hex_plain) l.plain;
  is = f s.digits l.text s.count (record { left = l.text; digits = s.reads l.text; scalar = u }) l.is;
}

iri_colon : (p : Part) (rest : List ℕ) → Completes (part (after p)) rest → parts_at inside.Iri (Some 62) 0 (58 ∷ 62 ∷ rest) ≡ Some (58 ∷ [], rest)
unfolding parts_at
iri_colon p rest m = refl

or_mid : (a b : Bool) → (a || b) ≡ true → (a || (b && true)) ≡ true
or_mid true b h = refl
or_mid false b h = and_is b true h refl

colon_completes : (s : Scheme) (c : ℕ) → may_come s c ≡ true → completes_scheme s (c ∷ 58 ∷ []) ≡ true
colon_completes scheme.Unread c h = rw h refl
colon_completes scheme.Begun c h = or_mid (eqb c 58) (is_ascii_alphanumeric c || eqb c 43 || eqb c 45 || eqb c 46) h
colon_completes scheme.Read c h = refl

-- : and > and what follows the IRI
abbrev Closes : Part → List ℕ → Type 0
Closes p cs = (rest : List ℕ) × (cs ≡ 58 ∷ 62 ∷ rest) × Completes (part (after p)) rest

live_closes : (p : Part) → IsLive (Closes p)
live_closes p = let l = live_after p in record { text = 58 ∷ 62 ∷ l.text; scalars = l.scalars; plain = (refl, (refl, l.plain)); is = (l.text, refl, l.is) }

iri_rest : (p : Part) (s : Scheme) (c n : ℕ) (digits rest : List ℕ) → may_come s c ≡ true → length digits ≡ n → Closes p rest → RestOfIri p s (c ∷ []) n (digits ++ rest)
iri_rest p s c n digits rest h e k = record {
  chars = 58 ∷ [];
  rest = k.0;
  read = ap (λ (m : ℕ). parts_at inside.Iri (Some 62) m (digits ++ rest)) (sym e) ∙ skip_all inside.Iri (Some 62) digits rest ∙ ap (parts_at inside.Iri (Some 62) 0) k.1 ∙ iri_colon p k.0 k.2;
  scheme = colon_completes s c h;
  more = k.2;
}

live_iri_digits : (p : Part) (s : Scheme) (d : Digits) → CanDenote (may_come s) d → Live (state.IriDigits p s d)
live_iri_digits p s d h =
    let b = may_be s h.c h.allowed in
    live_digits d h.c (Accepts (state.IriDigits p s d)) (Closes p) (spelled (suc d.more) d.value h.c h.begins) (live_closes p)
    (λ digits rest e r k. record { c = h.c; digits = r; allowed = b.0; iri = iri_rest p s h.c (suc d.more) digits rest h.allowed e k }) b.1

-- a quote and what follows the string
abbrev Quotes : List ℕ → Type 0
Quotes cs = (rest : List ℕ) × (cs ≡ 34 ∷ rest) × Completes suffix rest

live_quotes : IsLive Quotes
live_quotes = record { text = 34 ∷ live_suffix.text; scalars = live_suffix.scalars; plain = (refl, live_suffix.plain); is = (live_suffix.text, refl, live_suffix.is) }

string_quote : (rest : List ℕ) → parts_at inside.Quoted (Some 34) 0 (34 ∷ rest) ≡ Some ([], rest)
unfolding parts_at
string_quote rest = refl

string_rest : (n : ℕ) (digits rest : List ℕ) → length digits ≡ n → Quotes rest → RestOfString n (digits ++ rest)
string_rest n digits rest e k = record {
  chars = [];
  rest = k.0;
  read = ap (λ (m : ℕ). parts_at inside.Quoted (Some 34) m (digits ++ rest)) (sym e) ∙ skip_all inside.Quoted (Some 34) digits rest ∙ ap (parts_at inside.Quoted (Some 34) 0) k.1 ∙ string_quote k.0;
  more = k.2;
}

live_string_digits : (d : Digits) → CanDenote scalar d → Live (state.StringDigits d)
live_string_digits d h =
    live_digits d h.c (Accepts (state.StringDigits d)) Quotes (spelled (suc d.more) d.value h.c h.begins) live_quotes
    (λ digits rest e r k. record { c = h.c; digits = r; string = string_rest (suc d.more) digits rest e k }) h.allowed

-- ---- each state

u_digits : Digits
u_digits = record { value = 0; more = 3 }

a_may_come : (s : Scheme) → may_come s 97 ≡ true
a_may_come scheme.Unread = refl
a_may_come scheme.Begun = refl
a_may_come scheme.Read = refl

live_backslash : (p : Part) (s : Scheme) → Live (state.IriBackslash p s)
unfolding u_digits
live_backslash p s =
    live_step (state.IriBackslash p s) (state.IriDigits p s u_digits) 117 refl refl (iri_letter p s 117 u_digits (refl, inl (refl, refl)))
    (live_iri_digits p s u_digits (opened_can (may_come s) 117 u_digits (a_may_come s) (refl, inl (refl, refl))))

live_iri : (p : Part) (s : Scheme) → Live (state.Iri p s)
live_iri p scheme.Unread = live_unread p (live_after p)
live_iri p scheme.Begun = live_begun p (live_after p)
live_iri p scheme.Read = live_read p (live_after p)

no_blank : is_label_char 32 ≡ false
unfolding is_label_char is_label_start is_name_start is_pn_chars_base
no_blank = refl

a_starts : is_label_start 97 ≡ true
unfolding is_label_start is_name_start is_pn_chars_base
a_starts = refl

a_is_char : is_label_char 97 ≡ true
unfolding is_label_char is_label_start is_name_start is_pn_chars_base
a_is_char = refl

live_label : (p : Part) → Live (state.Label p)
live_label p = live_step (state.Label p) (state.Between (after p)) 32 refl refl (label_ends p 32 (Ok (state.Between (after p))) no_blank (λ e. cc) (blank_step (after p) 32 refl)) (live_after p)

live_start : (p : Part) → Live (state.LabelStart p)
live_start p = live_step (state.LabelStart p) (state.Label p) 97 refl refl (start_step p 97 a_starts) (live_label p)

live_string : Live state.String
live_string = live_step state.String state.AfterString 34 refl refl string_closes live_suffix

live_subtag : Live state.Subtag
live_subtag = live_step state.Subtag (state.Between next.End) 46 refl refl (subtag_ends 46 (Ok (state.Between next.End)) refl (λ e. cc) (dot_step next.Graph refl)) live_end

live_tag : Live state.Tag
live_tag = live_step state.Tag (state.Between next.End) 46 refl refl (tag_ends 46 (Ok (state.Between next.End)) refl (λ e. cc) (dot_step next.Graph refl)) live_end

pub live : (s : State) → CanEnd s → IsLive (Accepts s)
live (state.Between n) h = live_between n
live state.AfterString h = live_suffix
live state.Comment h = record { text = []; scalars = refl; plain = tt; is = tt }
live (state.Iri p s) h = live_iri p s
live (state.IriBackslash p s) h = live_backslash p s
live (state.IriDigits p s d) h = live_iri_digits p s d h
live state.String h = live_string
live state.StringBackslash h = live_step state.StringBackslash state.String 110 refl refl (string_short 110 10 refl) live_string
live (state.StringDigits d) h = live_string_digits d h
live state.Caret h = live_step state.Caret (state.Between next.Datatype) 94 refl refl caret_step live_datatype
live state.At h = live_step state.At state.Tag 97 refl refl (at_step 97 refl) live_tag
live state.Tag h = live_tag
live state.Hyphen h = live_step state.Hyphen state.Subtag 97 refl refl (hyphen_step 97 refl) live_subtag
live state.Subtag h = live_subtag
live (state.Underscore p) h = live_step (state.Underscore p) (state.LabelStart p) 58 refl refl (colon_step p) (live_start p)
live (state.LabelStart p) h = live_start p
live (state.Label p) h = live_label p
live (state.LabelDot p) h = live_step (state.LabelDot p) (state.Label p) 97 refl refl (dot_char p 97 a_is_char) (live_label p)
live (state.LabelDots p) h = live_step (state.LabelDots p) (state.Label p) 97 refl refl (dots_char p 97 a_is_char) (live_label p)
