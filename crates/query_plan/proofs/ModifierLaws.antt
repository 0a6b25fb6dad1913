-- A query with other numbers after LIMIT and OFFSET.
use Rattle.std.proofs.Common.{◌≡◌, ⊎_elim, ℕ, zero, suc, ◌<◌, Bool, true, false, if◌then◌else◌, ◌&&◌, List, [], ◌∷◌, ◌++◌, length, Option, None, Some, is_none, refl, sym, ap, subst, ◌∙◌, arith}
use Rattle.std.specs.Prelude.{⊤}
use Rattle.sparql_lexer.specs.declared.token.Kind.{Kind}
use Rattle.sparql_lexer.specs.declared.token.Kind.TheVariants as kind
use Rattle.sparql_lexer.specs.declared.token.Keyword.TheVariants as w
use Rattle.sparql_lexer.specs.declared.token.Sign.TheVariants as s
use Rattle.sparql_lexer.specs.Terminal.{Terminal, terminal}
use Rattle.sparql_lexer.specs.Values.{iri_value}
use Rattle.sparql_tree.specs.GroupTree.{GroupTree}
use Rattle.sparql_grammar.specs.Class.{Picked, count, count_of, exactly, reference, variable, variable_of}
use Rattle.sparql_grammar.specs.Values.{Names}
use Rattle.sparql_grammar.specs.Symbol.{Symbol, Value, Select}
use Rattle.sparql_grammar.specs.Symbol as the
use Rattle.sparql_grammar.specs.Form.{Form, give, take, last, choice, word, sign}
use Rattle.sparql_grammar.specs.Productions.{right_side}
use Rattle.sparql_grammar.specs.Derivation.{Derivation, takes, parts, lasts, firsts, seconds}
use Rattle.sparql_grammar.specs.Mentioned.{and_name, mentioned}
use Rattle.sparql_grammar.specs.Prologue.{and_declared, declaration_at, declared, declared_onto, is_namespace, is_prefix_word, is_reference}
use Rattle.query_plan.proofs.ContextLaws.{front, unchoice, ungive, unlast, unpart, untake}

-- ---- the terminals of LIMIT and OFFSET

-- a terminal that is no variable, and no part of a declaration
abbrev pub IsPlain : Terminal → Type 0
IsPlain (terminal k x) = (is_prefix_word k ≡ false) × (is_namespace k ≡ false) × (is_reference k ≡ false) × (variable_of k x ≡ None)

abbrev pub ArePlain : List Terminal → Type 0
ArePlain [] = ⊤
ArePlain (t ∷ ts) = IsPlain t × ArePlain ts

limit_plain : (k : Kind) (x : List ℕ) → k ≡ kind.Keyword w.Limit → IsPlain (terminal k x)
limit_plain k x e = subst (λ l. IsPlain (terminal l x)) (sym e) (refl, refl, refl, refl)

offset_plain : (k : Kind) (x : List ℕ) → k ≡ kind.Keyword w.Offset → IsPlain (terminal k x)
offset_plain k x e = subst (λ l. IsPlain (terminal l x)) (sym e) (refl, refl, refl, refl)

count_plain : (k : Kind) (x : List ℕ) (n : ℕ) → count_of k x ≡ Some n → IsPlain (terminal k x)
count_plain kind.IriRef x n e = absurd (cc)
count_plain kind.Variable x n e = absurd (cc)
count_plain kind.PrefixedNamespace x n e = absurd (cc)
count_plain kind.PrefixedName x n e = absurd (cc)
count_plain kind.BlankLabel x n e = absurd (cc)
count_plain kind.Anonymous x n e = absurd (cc)
count_plain kind.LanguageTag x n e = absurd (cc)
count_plain kind.Integer x n e = (refl, refl, refl, refl)
count_plain kind.Decimal x n e = absurd (cc)
count_plain kind.Double x n e = absurd (cc)
count_plain kind.SignedInteger x n e = absurd (cc)
count_plain kind.SignedDecimal x n e = absurd (cc)
count_plain kind.SignedDouble x n e = absurd (cc)
count_plain kind.ShortString x n e = absurd (cc)
count_plain kind.LongString x n e = absurd (cc)
count_plain (kind.Keyword l) x n e = absurd (cc)
count_plain kind.Word x n e = absurd (cc)
count_plain (kind.Sign s) x n e = absurd (cc)

-- LIMIT and OFFSET are plain, and their number is that of their values
pub record AreModifiers (ts : List Terminal) (m : Option ℕ × Option ℕ) : Type 0 where
  pub plain : ArePlain ts
  pub long : (o : ℕ) → m.1 ≡ Some o → length ts ≡ (if is_none m.0 then 2 else 4)

abbrev Modifiers : Names → List Terminal → Option ℕ × Option ℕ → Type 0
Modifiers ns ts m = Derivation ns the.modifiers (right_side the.modifiers) ts m []

module _ (ns : Names) where
  no_offset : (m : Option ℕ × Option ℕ) (n : Option ℕ) (o : ℕ) → m ≡ (n, None) → m.1 ≡ Some o → ⊥
  no_offset m n o e f = let g : None ≡ Some o = sym (ap (λ p. p.1) e) ∙ f in absurd (cc)

  -- what follows LIMIT and its number
  after_limit : (n : ℕ) (ts : List Terminal) (m : Option ℕ × Option ℕ) → Derivation ns (the.after_limit n) (right_side (the.after_limit n)) ts m []
      → ArePlain ts × ((o : ℕ) → m.1 ≡ Some o → (length ts ≡ 2) × (is_none m.0 ≡ false))
  after_limit n ts m d = ⊎_elim
      (λ (a : Derivation ns (the.after_limit n) (word w.Offset (take count (λ o. give (Some n, Some o)))) ts m []).
      let t = untake {f = λ _. take count (λ o. give (Some n, Some o))} a in
      let c = untake {f = λ o. give (Some n, Some o)} t.6 in
      let g = ungive c.6 in
      let whole : ts ≡ terminal t.0 t.1 ∷ terminal c.0 c.1 ∷ [] = t.4 ∙ ap (λ l. terminal t.0 t.1 ∷ l) (c.4 ∙ ap (λ l. terminal c.0 c.1 ∷ l) g.1) in (
        subst ArePlain (sym whole) (offset_plain t.0 t.1 t.5, (count_plain c.0 c.1 c.3 c.5, tt)),
        λ o e. (ap length whole, ap (λ p. is_none p.0) g.0),
      ))
      (λ (b : Derivation ns (the.after_limit n) (give (Some n, None)) ts m []).
      let g = ungive b in (subst ArePlain (sym g.1) tt, λ o e. absurd (no_offset m (Some n) o g.0 e)))
      (unchoice d)

  -- what follows OFFSET and its number
  after_offset : (n : ℕ) (ts : List Terminal) (m : Option ℕ × Option ℕ) → Derivation ns (the.after_offset n) (right_side (the.after_offset n)) ts m []
      → ArePlain ts × (length ts ≡ (if is_none m.0 then 0 else 2))
  after_offset n ts m d = ⊎_elim
      (λ (a : Derivation ns (the.after_offset n) (word w.Limit (take count (λ l. give (Some l, Some n)))) ts m []).
      let t = untake {f = λ _. take count (λ l. give (Some l, Some n))} a in
      let c = untake {f = λ l. give (Some l, Some n)} t.6 in
      let g = ungive c.6 in
      let whole : ts ≡ terminal t.0 t.1 ∷ terminal c.0 c.1 ∷ [] = t.4 ∙ ap (λ l. terminal t.0 t.1 ∷ l) (c.4 ∙ ap (λ l. terminal c.0 c.1 ∷ l) g.1) in (
        subst ArePlain (sym whole) (limit_plain t.0 t.1 t.5, (count_plain c.0 c.1 c.3 c.5, tt)),
        ap length whole ∙ sym (ap (λ p. if is_none p.0 then 0 else 2) g.0),
      ))
      (λ (b : Derivation ns (the.after_offset n) (give (None, Some n)) ts m []).
      let g = ungive b in (subst ArePlain (sym g.1) tt, ap length g.1 ∙ sym (ap (λ p. if is_none p.0 then 0 else 2) g.0)))
      (unchoice d)

  pub modifiers : (ts : List Terminal) (m : Option ℕ × Option ℕ) → Modifiers ns ts m → AreModifiers ts m
  modifiers ts m d = ⊎_elim
      (λ (a : Derivation ns the.modifiers (word w.Limit (take count (λ n. last (the.after_limit n) (λ p. p)))) ts m []).
      let t = untake {f = λ _. take count (λ n. last (the.after_limit n) (λ p. p))} a in
      let c = untake {f = λ n. last (the.after_limit n) (λ p. p)} t.6 in
      let l = unlast {g = λ p. p} c.6 in
      let rest = after_limit c.3 c.2 l.0 l.1 in
      let whole : ts ≡ terminal t.0 t.1 ∷ terminal c.0 c.1 ∷ c.2 = t.4 ∙ ap (λ l. terminal t.0 t.1 ∷ l) c.4 in
      record {
        plain = subst ArePlain (sym whole) (limit_plain t.0 t.1 t.5, (count_plain c.0 c.1 c.3 c.5, rest.0));
        long = λ o e.
            let r = rest.1 o (sym (ap (λ p. p.1) l.2) ∙ e) in
            ap length whole ∙ ap (λ n. suc (suc n)) r.0 ∙ sym (ap (λ b. if b then 2 else 4) (ap (λ p. is_none p.0) l.2 ∙ r.1));
      })
      (λ (b : Derivation ns the.modifiers (choice (word w.Offset (take count (λ n. last (the.after_offset n) (λ p. p)))) (give (None, None))) ts m []).
      ⊎_elim
      (λ (a : Derivation ns the.modifiers (word w.Offset (take count (λ n. last (the.after_offset n) (λ p. p)))) ts m []).
      let t = untake {f = λ _. take count (λ n. last (the.after_offset n) (λ p. p))} a in
      let c = untake {f = λ n. last (the.after_offset n) (λ p. p)} t.6 in
      let l = unlast {g = λ p. p} c.6 in
      let rest = after_offset c.3 c.2 l.0 l.1 in
      let whole : ts ≡ terminal t.0 t.1 ∷ terminal c.0 c.1 ∷ c.2 = t.4 ∙ ap (λ l. terminal t.0 t.1 ∷ l) c.4 in
      record {
        plain = subst ArePlain (sym whole) (offset_plain t.0 t.1 t.5, (count_plain c.0 c.1 c.3 c.5, rest.0));
        long = λ o e. ap length whole ∙ ap (λ n. suc (suc n)) rest.1 ∙ two (is_none l.0.0) ∙ sym (ap (λ p. if is_none p.0 then 2 else 4) l.2);
      })
      (λ (c : Derivation ns the.modifiers (give (None, None)) ts m []).
      let g = ungive c in record { plain = subst ArePlain (sym g.1) tt; long = λ o e. absurd (no_offset m None o g.0 e) })
      (unchoice b))
      (unchoice d)
    where
      two : (b : Bool) → suc (suc (if b then 0 else 2)) ≡ (if b then 2 else 4)
      two true = refl
      two false = refl

-- ---- declarations and variables before them

mentioned_plain : (ts : List Terminal) → ArePlain ts → mentioned ts ≡ []
mentioned_plain [] h = refl
mentioned_plain (terminal k x ∷ ts) h = (λ i. and_name (h.0.3 i) (mentioned_plain ts h.1 i))

pub mentioned_front : (us ts : List Terminal) → ArePlain ts → mentioned (us ++ ts) ≡ mentioned us
mentioned_front [] ts h = mentioned_plain ts h
mentioned_front (terminal k x ∷ us) ts h = ap (and_name (variable_of k x)) (mentioned_front us ts h)

and_false : (a : Bool) → (a && false) ≡ false
and_false true = refl
and_false false = refl

-- a declaration that would begin at the end of the terminals before them
second_plain : (t : Terminal) (ts : List Terminal) → ArePlain ts → declaration_at (t ∷ ts) ≡ None
second_plain (terminal k x) [] h = refl
second_plain (terminal k x) (terminal l y ∷ []) h = refl
second_plain (terminal k x) (terminal l y ∷ terminal m z ∷ ts) h =
    let d = declared y (iri_value z) in
    (λ i. if is_prefix_word k && (h.0.1 i && is_reference m) then d else None) ∙ ap (λ b. if b then d else None) (and_false (is_prefix_word k))

third_plain : (t u : Terminal) (ts : List Terminal) → ArePlain ts → declaration_at (t ∷ u ∷ ts) ≡ None
third_plain (terminal k x) (terminal l y) [] h = refl
third_plain (terminal k x) (terminal l y) (terminal m z ∷ ts) h =
    let d = declared y (iri_value z) in
    (λ i. if is_prefix_word k && (is_namespace l && h.0.2 i) then d else None)
    ∙ ap (λ b. if is_prefix_word k && b then d else None) (and_false (is_namespace l)) ∙ ap (λ b. if b then d else None) (and_false (is_prefix_word k))

first_same : (t : Terminal) (us ts ts' : List Terminal) → ArePlain ts → ArePlain ts' → declaration_at (t ∷ (us ++ ts)) ≡ declaration_at (t ∷ (us ++ ts'))
first_same t [] ts ts' h h' = second_plain t ts h ∙ sym (second_plain t ts' h')
first_same t (u ∷ []) ts ts' h h' = third_plain t u ts h ∙ sym (third_plain t u ts' h')
first_same (terminal k x) (terminal l y ∷ terminal m z ∷ us) ts ts' h h' = refl

onto_plain : (ns : Names) (ts : List Terminal) → ArePlain ts → declared_onto ns ts ≡ ns
onto_plain ns [] h = refl
onto_plain ns (t ∷ ts) h = ap (λ d. declared_onto (and_declared d ns) ts) (second_plain t ts h.1) ∙ onto_plain ns ts h.1

pub declared_front : (ns : Names) (us ts ts' : List Terminal) → ArePlain ts → ArePlain ts' → declared_onto ns (us ++ ts) ≡ declared_onto ns (us ++ ts')
declared_front ns [] ts ts' h h' = onto_plain ns ts h ∙ sym (onto_plain ns ts' h')
declared_front ns (u ∷ us) ts ts' h h' =
    ap (λ d. declared_onto (and_declared d ns) (us ++ ts)) (first_same u us ts ts' h h')
    ∙ declared_front (and_declared (declaration_at (u ∷ (us ++ ts'))) ns) us ts ts' h h'

-- ---- a query with other modifiers

abbrev pub with_modifiers : Select → Option ℕ × Option ℕ → Select
with_modifiers v m = record { distinct = v.distinct; selection = v.selection; group = v.group; limit = m.0; offset = m.1 }

-- the terminals end with modifiers, and with others of the same number they are those of the query with these
pub record Ends (ns : Names) (R : List Terminal → Select → Type 0) (ts : List Terminal) (v : Select) : Type 0 where
  pub used : List Terminal
  pub mid : List Terminal
  pub m : Option ℕ × Option ℕ
  pub is : ts ≡ used ++ mid
  pub derived : Modifiers ns mid m
  pub limit : v.limit ≡ m.0
  pub offset : v.offset ≡ m.1
  pub again : (other : List Terminal) (n : Option ℕ × Option ℕ) → length other ≡ length mid → Modifiers ns other n → R (used ++ other) (with_modifiers v n)

module _ (ns : Names) where
  after : (R S : List Terminal → Select → Type 0) (k : Kind) (x : List ℕ) (us ts : List Terminal) (v : Select) → ts ≡ terminal k x ∷ us
      → ((vs : List Terminal) (u : Select) → R vs u → S (terminal k x ∷ vs) u) → Ends ns R us v → Ends ns S ts v
  after R S k x us ts v e step h = record {
    used = terminal k x ∷ h.used;
    mid = h.mid;
    m = h.m;
    is = e ∙ ap (λ l. terminal k x ∷ l) h.is;
    derived = h.derived;
    limit = h.limit;
    offset = h.offset;
    again = λ other n same d. step (h.used ++ other) (with_modifiers v n) (h.again other n same d);
  }

  within : (R S : List Terminal → Select → Type 0) (ts : List Terminal) (v : Select) → ((vs : List Terminal) (u : Select) → R vs u → S vs u) → Ends ns R ts v → Ends ns S ts v
  within R S ts v step h = record {
    used = h.used;
    mid = h.mid;
    m = h.m;
    is = h.is;
    derived = h.derived;
    limit = h.limit;
    offset = h.offset;
    again = λ other n same d. step (h.used ++ other) (with_modifiers v n) (h.again other n same d);
  }

  abbrev Group : Bool → Option (List (List ℕ)) → List Terminal → Select → Type 0
  Group d xs ts v = Derivation ns (the.pattern_group d xs) (right_side (the.pattern_group d xs)) ts v []

  abbrev Pattern : Bool → Option (List (List ℕ)) → List Terminal → Select → Type 0
  Pattern d xs ts v = Derivation ns (the.pattern d xs) (right_side (the.pattern d xs)) ts v []

  abbrev Selected : Bool → List (List ℕ) → List Terminal → Select → Type 0
  Selected d xs ts v = Derivation ns (the.selected d xs) (right_side (the.selected d xs)) ts v []

  abbrev Selects : Bool → List Terminal → Select → Type 0
  Selects d ts v = Derivation ns (the.select d) (right_side (the.select d)) ts v []

  abbrev SelectQuery : List Terminal → Select → Type 0
  SelectQuery ts v = Derivation ns the.select_query (right_side the.select_query) ts v []

  abbrev Declared : List Terminal → Select → Type 0
  Declared ts v = Derivation ns the.declared (right_side the.declared) ts v []

  abbrev pub Query : List Terminal → Select → Type 0
  Query ts v = Derivation ns the.query (right_side the.query) ts v []

  abbrev whole : Bool → Option (List (List ℕ)) → GroupTree → Option ℕ × Option ℕ → Select
  whole d xs es m = record { distinct = d; selection = xs; group = es; limit = m.0; offset = m.1 }

  group_ends : (d : Bool) (xs : Option (List (List ℕ))) (ts : List Terminal) (v : Select) → Group d xs ts v → Ends ns (Group d xs) ts v
  group_ends d xs ts v h =
      let p = unpart {f = λ es. last the.modifiers (λ m. whole d xs es m)} h in
      let l = unlast {g = λ m. whole d xs p.0 m} p.3 in
      let f = front p.2 in
      record {
        used = f.used;
        mid = p.1;
        m = l.0;
        is = f.is;
        derived = l.1;
        limit = ap (λ u. u.limit) l.2;
        offset = ap (λ u. u.offset) l.2;
        again = λ other n same e.
            subst (λ u. Group d xs (f.used ++ other) u) (sym (ap (λ u. with_modifiers u n) l.2))
            (parts {f = λ es. last the.modifiers (λ m. whole d xs es m)} (f.again other same) (lasts {g = λ m. whole d xs p.0 m} e));
      }

  pattern_ends : (d : Bool) (xs : Option (List (List ℕ))) (ts : List Terminal) (v : Select) → Pattern d xs ts v → Ends ns (Pattern d xs) ts v
  pattern_ends d xs ts v h = ⊎_elim
      (λ (a : Derivation ns (the.pattern d xs) (word w.Where (last (the.pattern_group d xs) (λ q. q))) ts v []).
      let t = untake {f = λ _. last (the.pattern_group d xs) (λ q. q)} a in
      let l = unlast {g = λ q. q} t.6 in
      after (Group d xs) (Pattern d xs) t.0 t.1 t.2 ts v t.4 (λ vs u g. firsts (takes {f = λ _. last (the.pattern_group d xs) (λ q. q)} t.3 t.5 (lasts {g = λ q. q} g)))
      (subst (Ends ns (Group d xs) t.2) (sym l.2) (group_ends d xs t.2 l.0 l.1)))
      (λ (b : Derivation ns (the.pattern d xs) (last (the.pattern_group d xs) (λ q. q)) ts v []).
      let l = unlast {g = λ q. q} b in
      within (Group d xs) (Pattern d xs) ts v (λ vs u g. seconds (lasts {g = λ q. q} g)) (subst (Ends ns (Group d xs) ts) (sym l.2) (group_ends d xs ts l.0 l.1)))
      (unchoice h)

  selected_ends : (n : ℕ) (d : Bool) (xs : List (List ℕ)) (ts : List Terminal) (v : Select) → length ts < n → Selected d xs ts v → Ends ns (Selected d xs) ts v
  selected_ends zero d xs ts v low h = absurd (omega (arith, low))
  selected_ends (suc n) d xs ts v low h = ⊎_elim
      (λ (a : Derivation ns (the.selected d xs) (take variable (λ x. last (the.selected d (xs ++ x ∷ [])) (λ q. q))) ts v []).
      let t = untake {f = λ x. last (the.selected d (xs ++ x ∷ [])) (λ q. q)} a in
      let l = unlast {g = λ q. q} t.6 in
      let more = xs ++ t.3 ∷ [] in
      let less : length t.2 < n = omega (arith, low, ap length t.4) in
      after (Selected d more) (Selected d xs) t.0 t.1 t.2 ts v t.4 (λ vs u g. firsts (takes {f = λ x. last (the.selected d (xs ++ x ∷ [])) (λ q. q)} t.3 t.5 (lasts {g = λ q. q} g)))
      (subst (Ends ns (Selected d more) t.2) (sym l.2) (selected_ends n d more t.2 l.0 less l.1)))
      (λ (b : Derivation ns (the.selected d xs) (last (the.pattern d (Some xs)) (λ q. q)) ts v []).
      let l = unlast {g = λ q. q} b in
      within (Pattern d (Some xs)) (Selected d xs) ts v (λ vs u g. seconds (lasts {g = λ q. q} g)) (subst (Ends ns (Pattern d (Some xs)) ts) (sym l.2) (pattern_ends d (Some xs) ts l.0 l.1)))
      (unchoice h)

  select_ends : (d : Bool) (ts : List Terminal) (v : Select) → Selects d ts v → Ends ns (Selects d) ts v
  select_ends d ts v h = ⊎_elim
      (λ (a : Derivation ns (the.select d) (sign s.Star (last (the.pattern d None) (λ q. q))) ts v []).
      let t = untake {f = λ _. last (the.pattern d None) (λ q. q)} a in
      let l = unlast {g = λ q. q} t.6 in
      after (Pattern d None) (Selects d) t.0 t.1 t.2 ts v t.4 (λ vs u g. firsts (takes {f = λ _. last (the.pattern d None) (λ q. q)} t.3 t.5 (lasts {g = λ q. q} g)))
      (subst (Ends ns (Pattern d None) t.2) (sym l.2) (pattern_ends d None t.2 l.0 l.1)))
      (λ (b : Derivation ns (the.select d) (take variable (λ x. last (the.selected d (x ∷ [])) (λ q. q))) ts v []).
      let t = untake {f = λ x. last (the.selected d (x ∷ [])) (λ q. q)} b in
      let l = unlast {g = λ q. q} t.6 in
      let xs = t.3 ∷ [] in
      after (Selected d xs) (Selects d) t.0 t.1 t.2 ts v t.4 (λ vs u g. seconds (takes {f = λ x. last (the.selected d (x ∷ [])) (λ q. q)} t.3 t.5 (lasts {g = λ q. q} g)))
      (subst (Ends ns (Selected d xs) t.2) (sym l.2) (selected_ends (suc (length t.2)) d xs t.2 l.0 (omega arith) l.1)))
      (unchoice h)

  abbrev Distincts : List Terminal → Select → Type 0
  Distincts ts v =
      Derivation ns the.select_query (choice (word w.Distinct (last (the.select true) (λ q. q))) (last (the.select false) (λ q. q))) ts v []

  distinct_ends : (ts : List Terminal) (v : Select) → Distincts ts v → Ends ns Distincts ts v
  distinct_ends ts v h = ⊎_elim
      (λ (a : Derivation ns the.select_query (word w.Distinct (last (the.select true) (λ q. q))) ts v []).
      let t = untake {f = λ _. last (the.select true) (λ q. q)} a in
      let l = unlast {g = λ q. q} t.6 in
      after (Selects true) Distincts t.0 t.1 t.2 ts v t.4 (λ vs u g. firsts (takes {f = λ _. last (the.select true) (λ q. q)} t.3 t.5 (lasts {g = λ q. q} g)))
      (subst (Ends ns (Selects true) t.2) (sym l.2) (select_ends true t.2 l.0 l.1)))
      (λ (b : Derivation ns the.select_query (last (the.select false) (λ q. q)) ts v []).
      let l = unlast {g = λ q. q} b in
      within (Selects false) Distincts ts v (λ vs u g. seconds (lasts {g = λ q. q} g)) (subst (Ends ns (Selects false) ts) (sym l.2) (select_ends false ts l.0 l.1)))
      (unchoice h)

  select_query_ends : (ts : List Terminal) (v : Select) → SelectQuery ts v → Ends ns SelectQuery ts v
  select_query_ends ts v h =
      let f : Picked (exactly (kind.Keyword w.Select)) → Form Select = λ _. choice (word w.Distinct (last (the.select true) (λ q. q))) (last (the.select false) (λ q. q)) in
      let t = untake {s = the.select_query} {f = f} h in
      after Distincts SelectQuery t.0 t.1 t.2 ts v t.4 (λ vs u g. takes {f = f} t.3 t.5 g) (distinct_ends t.2 v t.6)

  pub query_ends : (n : ℕ) (ts : List Terminal) (v : Select) → length ts < n → Query ts v → Ends ns Query ts v
  query_ends zero ts v low h = absurd (omega (arith, low))
  query_ends (suc n) ts v low h = ⊎_elim
      (λ (a : Derivation ns the.query (word w.Prefix (last the.declared (λ q. q))) ts v []).
      let t = untake {f = λ _. last the.declared (λ q. q)} a in
      let l = unlast {g = λ q. q} t.6 in
      let inner : Picked reference → Form Select = λ _. last the.query (λ q. q) in
      let outer : Picked (exactly kind.PrefixedNamespace) → Form Select = λ _. take reference inner in
      let p = untake {s = the.declared} {f = outer} l.1 in
      let r = untake {s = the.declared} {f = inner} p.6 in
      let k = unlast {g = λ q. q} r.6 in
      let less : length r.2 < n = omega (arith, low, ap length t.4, ap length p.4, ap length r.4) in
      let last_query : Ends ns Query r.2 k.0 = query_ends n r.2 k.0 less k.1 in
      let with_reference : Ends ns (λ us u. Derivation ns the.declared (take reference inner) us u []) p.2 k.0 =
      after Query (λ us u. Derivation ns the.declared (take reference inner) us u []) r.0 r.1 r.2 p.2 k.0 r.4 (λ vs u g. takes {f = inner} r.3 r.5 (lasts {g = λ q. q} g)) last_query in
      let with_namespace : Ends ns Declared t.2 k.0 =
      after (λ us u. Derivation ns the.declared (take reference inner) us u []) Declared p.0 p.1 p.2 t.2 k.0 p.4 (λ vs u g. takes {f = outer} p.3 p.5 g) with_reference in
      subst (Ends ns Query ts) (sym (l.2 ∙ k.2))
      (after Declared Query t.0 t.1 t.2 ts k.0 t.4 (λ vs u g. firsts (takes {f = λ _. last the.declared (λ q. q)} t.3 t.5 (lasts {g = λ q. q} g))) with_namespace))
      (λ (b : Derivation ns the.query (last the.select_query (λ q. q)) ts v []).
      let l = unlast {g = λ q. q} b in
      within SelectQuery Query ts v (λ vs u g. seconds (lasts {g = λ q. q} g)) (subst (Ends ns SelectQuery ts) (sym l.2) (select_query_ends ts l.0 l.1)))
      (unchoice h)
