-- The steps of a reader, from left to right. Each step relates the rest of the form that the reader
-- has to read before it to the rest after it.
use Rattle.std.proofs.Common.{Result, Ok, Err, ◌≡◌, ℕ, ◌<◌, List, [], ◌∷◌, length, Bool, true, false, if◌then◌else◌, refl, sym, ap, ◌∙◌, subst}
use Rattle.sparql_lexer.specs.declared.token.Kind.{Kind}
use Rattle.sparql_lexer.specs.Terminal.{Terminal, terminal}
use Rattle.sparql_grammar.specs.Class.{Class, Picked, Picks, exactly}
use Rattle.sparql_grammar.specs.Values.{Names}
use Rattle.sparql_grammar.specs.Symbol.{Symbol, Value}
use Rattle.sparql_grammar.specs.Form.{Form, give, count_following, take, part, last, choice, when}
use Rattle.sparql_grammar.specs.Productions.{right_side}
use Rattle.sparql_grammar.specs.Derivation.{Derivation, gives, counts, takes, parts, lasts, firsts, seconds, whens}
use Rattle.sparql_grammar.specs.Follow.{reach, next_level, heads}
use Rattle.sparql_grammar.proofs.FormLaws.{begins, ends, in_class, Good}
use Rattle.sparql_grammar.proofs.ClassLaws.{picks_in, one_value, is_kind}
use Rattle.sparql_grammar.proofs.ProductionLaws.{good}
use Rattle.sparql_grammar.proofs.MatchLaws.{Starts, empty, headed, starts, follow, apart_starts, lower}
use Rattle.sparql_expression.specs.declared.fault.ParseFault.{ParseFault}
use Rattle.sparql_expression.specs.declared.fault.ParseFault.TheVariants.{Syntax, Memory}
use Rattle.sparql_expression.specs.ParseResult.{ParseResult, ParsesForm, Parses}
use Rattle.sparql_expression.specs.Front.{Taken, Untaken}

-- a result with another value
abbrev pub mapped : {A B : Type 0} → (A → B) → Result (A × List Terminal) ParseFault → Result (B × List Terminal) ParseFault
mapped g (Ok p) = Ok (g p.0, p.1)
mapped g (Err e) = Err e

pub mapped_same : {A : Type 0} (answer : Result (A × List Terminal) ParseFault) → mapped (λ v. v) answer ≡ answer
mapped_same (Ok p) = refl
mapped_same (Err e) = refl

-- A reader of the symbol s has read the terminals before mid, and `form` is the rest of the form
-- that it has to read. This rest belongs to s itself, or to a symbol u at the end of s. A result
-- for the rest is a result for s.
pub record Left (names : Names) (s : Symbol) (ts : List Terminal) (u : Symbol) (g : Value u → Value s) (form : Form (Value u)) (mid : List Terminal) : Type 0 where
  pub good : Good (reach u) form
  pub goes : (answer : ParseResult u) → ParsesForm names u form mid answer → Parses names s ts (mapped g answer)

-- the whole production

begin_goes : {names : Names} {s : Symbol} {ts : List Terminal} (answer : ParseResult s) → Parses names s ts answer → Parses names s ts (mapped (λ v. v) answer)
begin_goes (Ok p) h = h
begin_goes (Err e) h = h

pub begin : (names : Names) (s : Symbol) (ts : List Terminal) → Left names s ts s (λ v. v) (right_side s) ts
begin names s ts = record { good = good s; goes = λ answer h. begin_goes answer h }

-- a terminal

untake_at : {names : Names} {u : Symbol} {c : Class} {f : Picked c → Form (Value u)} {k : Kind} {x : List ℕ} {after rest : List Terminal} {p : Picked c} {v : Value u}
    → Picks names c k x p → Derivation names u (take c f) (terminal k x ∷ after) v rest → Derivation names u (f p) after v rest
untake_at {names = names} {u = u} {c = c} {f = f} {k = k} {x = x} {after = after} {rest = rest} {p = p} {v = v} h (takes q i m) =
    subst (λ p. Derivation names u (f p) after v rest) (one_value names c k x q p i h) m

untake : {names : Names} {u : Symbol} {c : Class} {f : Picked c → Form (Value u)} {ts after rest : List Terminal} {p : Picked c} {v : Value u}
    → Taken names c ts p after → Derivation names u (take c f) ts v rest → Derivation names u (f p) after v rest
untake {names = names} {u = u} {c = c} {f = f} {rest = rest} {v = v} t d = untake_at t.picks (subst (λ ts. Derivation names u (take c f) ts v rest) t.first d)

retake : {names : Names} {u : Symbol} {c : Class} {f : Picked c → Form (Value u)} {ts after rest : List Terminal} {p : Picked c} {v : Value u}
    → Taken names c ts p after → Derivation names u (f p) after v rest → Derivation names u (take c f) ts v rest
retake {names = names} {u = u} {c = c} {f = f} {rest = rest} {p = p} {v = v} t d = subst (λ ts. Derivation names u (take c f) ts v rest) (sym t.first) (takes p t.picks d)

take_reading : {names : Names} {u : Symbol} {c : Class} {f : Picked c → Form (Value u)} {ts after : List Terminal} {p : Picked c}
    → Taken names c ts p after → (answer : ParseResult u) → ParsesForm names u (f p) after answer → ParsesForm names u (take c f) ts answer
take_reading {u = u} {f = f} {p = p} t (Ok q) h = record { is = (retake {f = f} t h.is.0, λ v rest d b. h.is.1 v rest (untake {f = f} t d) b) }
take_reading {f = f} t (Err Syntax) h = record { is = λ v rest d b. h.is v rest (untake {f = f} t d) b }
take_reading t (Err Memory) h = record { is = tt }

pub took : {names : Names} {s : Symbol} {ts : List Terminal} {u : Symbol} {g : Value u → Value s} {c : Class} {f : Picked c → Form (Value u)} {mid after : List Terminal} {p : Picked c}
    → Left names s ts u g (take c f) mid → Taken names c mid p after → Left names s ts u g (f p) after
took {f = f} {p = p} l t = record { good = l.good p; goes = λ answer h. l.goes answer (take_reading {f = f} t answer h) }

untaken_at : {names : Names} {u : Symbol} {c : Class} {f : Picked c → Form (Value u)} {ts rest : List Terminal} {v : Value u}
    → Untaken names c ts → Derivation names u (take c f) ts v rest → ⊥
untaken_at n (takes {k = k} {x = x} {ts = ts} p i m) = n.none p ts record { kind = k; text = x; first = refl; picks = i }

-- if the first terminal is not of the class, the form derives nothing
pub takes_nothing : {names : Names} {u : Symbol} {c : Class} {f : Picked c → Form (Value u)} {ts : List Terminal} → Untaken names c ts → ParsesForm names u (take c f) ts (Err Syntax)
takes_nothing n = record { is = λ v rest d b. untaken_at n d }

-- a part

split : {names : Names} {u w : Symbol} {f : Value w → Form (Value u)} {ts mid rest : List Terminal} {a : Value w} {v : Value u}
    → Good (reach u) (part w f) → Parses names w ts (Ok (a, mid)) → Derivation names u (part w f) ts v rest → reach u < next_level rest → Derivation names u (f a) mid v rest
split {names = names} {u = u} {w = w} {f = f} {mid = mid} {rest = rest} {a = a} {v = v} q r (parts {mid = m} {a = b} d e) below =
    let x = r.is.1 b m d (follow (reach w) (reach u) (q.1 b).1 (q.1 b).0 below e) in
    subst (λ a. Derivation names u (f a) mid v rest) x.0 (subst (λ t. Derivation names u (f b) t v rest) x.1 e)

part_reading : {names : Names} {u w : Symbol} {f : Value w → Form (Value u)} {ts mid : List Terminal} {a : Value w}
    → Good (reach u) (part w f) → Parses names w ts (Ok (a, mid)) → (answer : ParseResult u) → ParsesForm names u (f a) mid answer → ParsesForm names u (part w f) ts answer
part_reading {f = f} q r (Ok p) h = record { is = (parts {f = f} r.is.0 h.is.0, λ v rest d b. h.is.1 v rest (split {f = f} q r d b) b) }
part_reading {f = f} q r (Err Syntax) h = record { is = λ v rest d b. h.is v rest (split {f = f} q r d b) b }
part_reading q r (Err Memory) h = record { is = tt }

pub then_read : {names : Names} {s : Symbol} {ts : List Terminal} {u : Symbol} {g : Value u → Value s} {w : Symbol} {f : Value w → Form (Value u)} {mid after : List Terminal} {a : Value w}
    → Left names s ts u g (part w f) mid → Parses names w mid (Ok (a, after)) → Left names s ts u g (f a) after
then_read {f = f} {a = a} l r = record { good = (l.good.1 a).1; goes = λ answer h. l.goes answer (part_reading {f = f} l.good r answer h) }

no_part : {names : Names} {u w : Symbol} {f : Value w → Form (Value u)} {ts rest : List Terminal} {v : Value u}
    → Good (reach u) (part w f) → Parses names w ts (Err Syntax) → Derivation names u (part w f) ts v rest → reach u < next_level rest → ⊥
no_part {u = u} {w = w} q r (parts {mid = m} {a = b} d e) below = r.is b m d (follow (reach w) (reach u) (q.1 b).1 (q.1 b).0 below e)

part_fault : {names : Names} {u w : Symbol} {f : Value w → Form (Value u)} {ts : List Terminal}
    → Good (reach u) (part w f) → (e : ParseFault) → Parses names w ts (Err e) → ParsesForm names u (part w f) ts (Err e)
part_fault {f = f} q Syntax r = record { is = λ v rest d b. no_part {f = f} q r d b }
part_fault q Memory r = record { is = tt }

pub part_fails : {names : Names} {s : Symbol} {ts : List Terminal} {u : Symbol} {g : Value u → Value s} {w : Symbol} {f : Value w → Form (Value u)} {mid : List Terminal} {e : ParseFault}
    → Left names s ts u g (part w f) mid → Parses names w mid (Err e) → Parses names s ts (Err e)
part_fails {f = f} {e = e} l r = l.goes (Err e) (part_fault {f = f} l.good e r)

-- the last part

unlast : {names : Names} {u w : Symbol} {h : Value w → Value u} {ts rest : List Terminal} {v : Value u}
    → Derivation names u (last w h) ts v rest → (a : Value w) × Derivation names w (right_side w) ts a rest × (v ≡ h a)
unlast (lasts {a = a} d) = (a, d, refl)

last_reading : {names : Names} {u w : Symbol} {h : Value w → Value u} {ts : List Terminal}
    → Good (reach u) (last w h) → (answer : ParseResult w) → Parses names w ts answer → ParsesForm names u (last w h) ts (mapped h answer)
last_reading {u = u} {w = w} {h = h} q (Ok p) r = record {
  is = (
    lasts {g = h} r.is.0,
    λ v rest d b.
        let x = unlast {h = h} d in
        let e = r.is.1 x.0 rest x.1 (lower (reach u) w rest q b) in
        (x.2 ∙ ap h e.0, e.1),
  );
}
last_reading {u = u} {w = w} {h = h} q (Err Syntax) r = record {
  is = λ v rest d b.
      let x = unlast {h = h} d in r.is x.0 rest x.1 (lower (reach u) w rest q b);
}
last_reading q (Err Memory) r = record { is = tt }

enter_goes : {names : Names} {s : Symbol} {ts : List Terminal} {u : Symbol} {g : Value u → Value s} {w : Symbol} {h : Value w → Value u} {mid : List Terminal}
    → Left names s ts u g (last w h) mid → (answer : ParseResult w) → Parses names w mid answer → Parses names s ts (mapped (λ v. g (h v)) answer)
enter_goes {h = h} l (Ok p) r = l.goes (Ok (h p.0, p.1)) (last_reading {h = h} l.good (Ok p) r)
enter_goes {h = h} l (Err e) r = l.goes (Err e) (last_reading {h = h} l.good (Err e) r)

-- the rest of the form is the production of its last symbol
pub enter : {names : Names} {s : Symbol} {ts : List Terminal} {u : Symbol} {g : Value u → Value s} {w : Symbol} {h : Value w → Value u} {mid : List Terminal}
    → Left names s ts u g (last w h) mid → Left names s ts w (λ v. g (h v)) (right_side w) mid
enter {w = w} l = record { good = good w; goes = λ answer r. enter_goes l answer r }

pub last_reads : {names : Names} {s : Symbol} {ts : List Terminal} {u : Symbol} {g : Value u → Value s} {w : Symbol} {h : Value w → Value u} {mid after : List Terminal} {a : Value w} {b : Value s}
    → Left names s ts u g (last w h) mid → Parses names w mid (Ok (a, after)) → b ≡ g (h a) → Parses names s ts (Ok (b, after))
last_reads {names = names} {s = s} {ts = ts} {after = after} {a = a} l r e = subst (λ b. Parses names s ts (Ok (b, after))) (sym e) (enter_goes l (Ok (a, after)) r)

-- the same, if the reader returns the result unchanged
pub last_same : {names : Names} {s : Symbol} {ts : List Terminal} {u : Symbol} {g : Value u → Value s} {w : Symbol} {h : Value w → Value u} {mid : List Terminal} {answer : ParseResult w} {whole : ParseResult s}
    → Left names s ts u g (last w h) mid → Parses names w mid answer → mapped (λ v. g (h v)) answer ≡ whole → Parses names s ts whole
last_same {names = names} {s = s} {ts = ts} {answer = answer} l r e = subst (λ a. Parses names s ts a) e (enter_goes l answer r)

pub last_fails : {names : Names} {s : Symbol} {ts : List Terminal} {u : Symbol} {g : Value u → Value s} {w : Symbol} {h : Value w → Value u} {mid : List Terminal} {e : ParseFault}
    → Left names s ts u g (last w h) mid → Parses names w mid (Err e) → Parses names s ts (Err e)
last_fails {e = e} l r = enter_goes l (Err e) r

-- nothing more

only_given : {names : Names} {u : Symbol} {a v : Value u} {ts rest : List Terminal} → Derivation names u (give a) ts v rest → (v ≡ a) × (rest ≡ ts)
only_given gives = (refl, refl)

pub done : {names : Names} {s : Symbol} {ts : List Terminal} {u : Symbol} {g : Value u → Value s} {a : Value u} {mid : List Terminal} {b : Value s}
    → Left names s ts u g (give a) mid → b ≡ g a → Parses names s ts (Ok (b, mid))
done {names = names} {s = s} {ts = ts} {a = a} {mid = mid} l e =
    subst (λ b. Parses names s ts (Ok (b, mid))) (sym e) (l.goes (Ok (a, mid)) record { is = (gives, λ v rest d b. only_given d) })

only_counted : {names : Names} {u : Symbol} {h : ℕ → Value u} {v : Value u} {ts rest : List Terminal} → Derivation names u (count_following h) ts v rest → (v ≡ h (length ts)) × (rest ≡ ts)
only_counted counts = (refl, refl)

pub done_counted : {names : Names} {s : Symbol} {ts : List Terminal} {u : Symbol} {g : Value u → Value s} {h : ℕ → Value u} {mid : List Terminal} {b : Value s}
    → Left names s ts u g (count_following h) mid → b ≡ g (h (length mid)) → Parses names s ts (Ok (b, mid))
done_counted {names = names} {s = s} {ts = ts} {h = h} {mid = mid} l e =
    subst (λ b. Parses names s ts (Ok (b, mid))) (sym e) (l.goes (Ok (h (length mid), mid)) record { is = (counts, λ v rest d b. only_counted d) })

-- if the rest of the form derives nothing, the whole form derives nothing
pub fails : {names : Names} {s : Symbol} {ts : List Terminal} {u : Symbol} {g : Value u → Value s} {form : Form (Value u)} {mid : List Terminal}
    → Left names s ts u g form mid → ParsesForm names u form mid (Err Syntax) → Parses names s ts (Err Syntax)
fails l r = l.goes (Err Syntax) r

pub take_fails : {names : Names} {s : Symbol} {ts : List Terminal} {u : Symbol} {g : Value u → Value s} {c : Class} {f : Picked c → Form (Value u)} {mid : List Terminal}
    → Left names s ts u g (take c f) mid → Untaken names c mid → Parses names s ts (Err Syntax)
take_fails {f = f} l n = fails l (takes_nothing {f = f} n)

pub out_of_memory : {names : Names} {s : Symbol} {ts : List Terminal} → Parses names s ts (Err Memory)
out_of_memory = record { is = tt }

-- a condition

unwhen : {names : Names} {u : Symbol} {c : Bool} {f : Form (Value u)} {ts rest : List Terminal} {v : Value u} → Derivation names u (when c f) ts v rest → (c ≡ true) × Derivation names u f ts v rest
unwhen (whens h d) = (h, d)

when_reading : {names : Names} {u : Symbol} {c : Bool} {f : Form (Value u)} {ts : List Terminal} → c ≡ true → (answer : ParseResult u) → ParsesForm names u f ts answer → ParsesForm names u (when c f) ts answer
when_reading i (Ok p) h = record { is = (whens i h.is.0, λ v rest d b. h.is.1 v rest (unwhen d).1 b) }
when_reading i (Err Syntax) h = record { is = λ v rest d b. h.is v rest (unwhen d).1 b }
when_reading i (Err Memory) h = record { is = tt }

pub where_true : {names : Names} {s : Symbol} {ts : List Terminal} {u : Symbol} {g : Value u → Value s} {c : Bool} {f : Form (Value u)} {mid : List Terminal}
    → Left names s ts u g (when c f) mid → c ≡ true → Left names s ts u g f mid
where_true l i = record { good = l.good; goes = λ answer h. l.goes answer (when_reading i answer h) }

not_true : {c : Bool} → c ≡ false → c ≡ true → ⊥
not_true i j = (cc)

pub where_false : {names : Names} {s : Symbol} {ts : List Terminal} {u : Symbol} {g : Value u → Value s} {c : Bool} {f : Form (Value u)} {mid : List Terminal}
    → Left names s ts u g (when c f) mid → c ≡ false → Parses names s ts (Err Syntax)
where_false l i = l.goes (Err Syntax) record { is = λ v rest d b. not_true i (unwhen d).0 }

-- one of several alternatives

pub data Branch {A : Type 0} : Form A → Form A → Type 0 where
  here : {f : Form A} → Branch f f
  left : {l r f : Form A} → Branch l f → Branch (choice l r) f
  right : {l r f : Form A} → Branch r f → Branch (choice l r) f

either_left : (a b : Bool) → a ≡ true → (if a then true else b) ≡ true
either_left true b h = refl
either_left false b h = absurd (cc)

either_right : (a b : Bool) → b ≡ true → (if a then true else b) ≡ true
either_right true b h = refl
either_right false b h = h

never : {B : Type 0} → false ≡ true → B
never h = absurd (cc)

pub heads_more : (p q : Kind → Bool) (ts : List Terminal) → ((k : Kind) → p k ≡ true → q k ≡ true) → heads p ts ≡ true → heads q ts ≡ true
heads_more p q [] i h = never h
heads_more p q (terminal k x ∷ ts) i h = i k h

starts_with : {A : Type 0} (form : Form A) (ts rest : List Terminal) → heads (begins form) ts ≡ true → Starts form ts rest
starts_with form [] rest h = never h
starts_with form (terminal k x ∷ ts) rest h = headed k x ts refl h

only_left : {names : Names} {u : Symbol} {l r : Form (Value u)} {ts rest : List Terminal} {v : Value u}
    → Good (reach u) (choice l r) → heads (begins l) ts ≡ true → Derivation names u (choice l r) ts v rest → reach u < next_level rest → Derivation names u l ts v rest
only_left q h (firsts d) below = d
only_left {u = u} {l = l} {r = r} {ts = ts} {rest = rest} q h (seconds d) below =
    absurd (apart_starts (reach u) l r q.2 below below (starts_with l ts rest h) (starts (reach u) q.1 d))

only_right : {names : Names} {u : Symbol} {l r : Form (Value u)} {ts rest : List Terminal} {v : Value u}
    → Good (reach u) (choice l r) → heads (begins r) ts ≡ true → Derivation names u (choice l r) ts v rest → reach u < next_level rest → Derivation names u r ts v rest
only_right {u = u} {l = l} {r = r} {ts = ts} {rest = rest} q h (firsts d) below =
    absurd (apart_starts (reach u) l r q.2 below below (starts (reach u) q.0 d) (starts_with r ts rest h))
only_right q h (seconds d) below = d

left_reading : {names : Names} {u : Symbol} {l r : Form (Value u)} {ts : List Terminal}
    → Good (reach u) (choice l r) → heads (begins l) ts ≡ true → (answer : ParseResult u) → ParsesForm names u l ts answer → ParsesForm names u (choice l r) ts answer
left_reading {l = l} {r = r} q h (Ok p) i = record { is = (firsts i.is.0, λ v rest d b. i.is.1 v rest (only_left {l = l} {r = r} q h d b) b) }
left_reading {l = l} {r = r} q h (Err Syntax) i = record { is = λ v rest d b. i.is v rest (only_left {l = l} {r = r} q h d b) b }
left_reading q h (Err Memory) i = record { is = tt }

right_reading : {names : Names} {u : Symbol} {l r : Form (Value u)} {ts : List Terminal}
    → Good (reach u) (choice l r) → heads (begins r) ts ≡ true → (answer : ParseResult u) → ParsesForm names u r ts answer → ParsesForm names u (choice l r) ts answer
right_reading {l = l} {r = r} q h (Ok p) i = record { is = (seconds i.is.0, λ v rest d b. i.is.1 v rest (only_right {l = l} {r = r} q h d b) b) }
right_reading {l = l} {r = r} q h (Err Syntax) i = record { is = λ v rest d b. i.is v rest (only_right {l = l} {r = r} q h d b) b }
right_reading q h (Err Memory) i = record { is = tt }

branch_heads : {A : Type 0} {form b : Form A} → Branch form b → (k : Kind) → begins b k ≡ true → begins form k ≡ true
branch_heads here k h = h
branch_heads (left {l = l} {r = r} p) k h = either_left (begins l k) (begins r k) (branch_heads p k h)
branch_heads (right {l = l} {r = r} p) k h = either_right (begins l k) (begins r k) (branch_heads p k h)

-- the alternative that begins with the next terminal
pub branch : {names : Names} {s : Symbol} {ts : List Terminal} {u : Symbol} {g : Value u → Value s} {form b : Form (Value u)} {mid : List Terminal}
    → Left names s ts u g form mid → Branch form b → heads (begins b) mid ≡ true → Left names s ts u g b mid
branch l here h = l
branch {b = b} {mid = mid} l (left {l = f} p) h =
    let i = heads_more (begins b) (begins f) mid (branch_heads p) h in
    branch record { good = l.good.0; goes = λ answer r. l.goes answer (left_reading l.good i answer r) } p h
branch {b = b} {mid = mid} l (right {r = f} p) h =
    let i = heads_more (begins b) (begins f) mid (branch_heads p) h in
    branch record { good = l.good.1; goes = λ answer r. l.goes answer (right_reading l.good i answer r) } p h

pub taken_heads : {names : Names} {c : Class} {ts after : List Terminal} {v : Picked c} → Taken names c ts v after → heads (in_class c) ts ≡ true
taken_heads {names = names} {c = c} {v = v} t = ap (heads (in_class c)) t.first ∙ picks_in names c t.kind t.text v t.picks

-- the alternative whose first terminal was read
pub took_branch : {names : Names} {s : Symbol} {ts : List Terminal} {u : Symbol} {g : Value u → Value s} {form : Form (Value u)} {c : Class} {f : Picked c → Form (Value u)} {mid after : List Terminal} {p : Picked c}
    → Left names s ts u g form mid → Branch form (take c f) → Taken names c mid p after → Left names s ts u g (f p) after
took_branch {f = f} l b t = took {f = f} (branch {b = take _ f} l b (taken_heads t)) t

-- an alternative that derives nothing

passed_reading : {names : Names} {u : Symbol} {l r : Form (Value u)} {ts : List Terminal} → ParsesForm names u l ts (Err Syntax) → (answer : ParseResult u) → ParsesForm names u r ts answer → ParsesForm names u (choice l r) ts answer
passed_reading n (Ok p) i = record { is = (seconds i.is.0, λ v rest d b. elim d [ firsts e ↦ absurd (n.is v rest e b) | seconds e ↦ i.is.1 v rest e b ]) }
passed_reading n (Err Syntax) i = record { is = λ v rest d b. elim d [ firsts e ↦ n.is v rest e b | seconds e ↦ i.is v rest e b ] }
passed_reading n (Err Memory) i = record { is = tt }

pub passed : {names : Names} {s : Symbol} {ts : List Terminal} {u : Symbol} {g : Value u → Value s} {l r : Form (Value u)} {mid : List Terminal}
    → Left names s ts u g (choice l r) mid → ParsesForm names u l mid (Err Syntax) → Left names s ts u g r mid
passed q n = record { good = q.good.1; goes = λ answer i. q.goes answer (passed_reading n answer i) }

pub skipped : {names : Names} {s : Symbol} {ts : List Terminal} {u : Symbol} {g : Value u → Value s} {c : Class} {f : Picked c → Form (Value u)} {r : Form (Value u)} {mid : List Terminal}
    → Left names s ts u g (choice (take c f) r) mid → Untaken names c mid → Left names s ts u g r mid
skipped {f = f} l n = passed l (takes_nothing {f = f} n)

-- a form that does not begin with the next terminal
unheaded_at : {A : Type 0} (form : Form A) (ts rest : List Terminal) → ends form ≡ false → heads (begins form) ts ≡ false → Starts form ts rest → ⊥
unheaded_at form ts rest e h (empty i j) = not_true e i
unheaded_at form ts rest e h (headed k x us i b) = not_true (sym (ap (heads (begins form)) i) ∙ h) b

pub unheaded : {names : Names} {u : Symbol} {form : Form (Value u)} {ts : List Terminal} → Good (reach u) form → ends form ≡ false → heads (begins form) ts ≡ false → ParsesForm names u form ts (Err Syntax)
unheaded {u = u} {form = form} {ts = ts} q e h = record { is = λ v rest d b. unheaded_at form ts rest e h (starts (reach u) q d) }

pub passed_by : {names : Names} {s : Symbol} {ts : List Terminal} {u : Symbol} {g : Value u → Value s} {l r : Form (Value u)} {mid : List Terminal}
    → Left names s ts u g (choice l r) mid → ends l ≡ false → heads (begins l) mid ≡ false → Left names s ts u g r mid
passed_by q e h = passed q (unheaded q.good.0 e h)

-- a sign or keyword that is not the next terminal
pub untaken_heads : {names : Names} {k : Kind} {ts : List Terminal} → Untaken names (exactly k) ts → heads (in_class (exactly k)) ts ≡ false
untaken_heads {ts = []} n = refl
untaken_heads {k = k} {ts = terminal l x ∷ us} n = elim (in_class (exactly k) l) as (λ b. in_class (exactly k) l ≡ b → b ≡ false) [ true ↦ λ e. absurd (n.none tt us record { kind = l; text = x; first = refl; picks = sym (is_kind k l e) }) | false ↦ λ e. refl ] refl
