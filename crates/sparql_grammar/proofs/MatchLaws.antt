-- A text that a form derives begins with a first terminal of the form, and the form derives at most
-- one value of it.
use Rattle.std.proofs.Common.{◌≡◌, ℕ, suc, ◌<◌, ◌≤◌, List, [], ◌∷◌, Bool, true, false, if◌then◌else◌, nat_eq, nat_lt, refl, sym, ap, ◌∙◌, subst, arith, lit<}
use Rattle.std.proofs.lemmas.Bool.Decides.{nat_tests}
use Rattle.sparql_lexer.specs.declared.token.Kind.{Kind}
use Rattle.sparql_lexer.specs.Terminal.{Terminal, terminal}
use Rattle.sparql_grammar.specs.Class.{Class, Picked, Picks}
use Rattle.sparql_grammar.specs.Values.{Names}
use Rattle.sparql_grammar.specs.Symbol.{Symbol, Value}
use Rattle.sparql_grammar.specs.Form.{Form, give, count_following, take, part, last, choice, when}
use Rattle.sparql_grammar.specs.Follow.{level, reach, next_level}
use Rattle.sparql_grammar.specs.Productions.{right_side}
use Rattle.sparql_grammar.specs.Derivation.{Derivation, gives, counts, takes, parts, lasts, firsts, seconds, whens}
use Rattle.sparql_grammar.proofs.KindLaws.{every, every_at}
use Rattle.sparql_grammar.proofs.ClassLaws.{picks_in, one_value}
use Rattle.sparql_grammar.proofs.FormLaws.{begins, ends, first, nullable, above, follows, apart_by, apart, Good}
use Rattle.sparql_grammar.proofs.ProductionLaws.{good, first_right, nullable_right}

-- the terminals before rest: none, or a list that begins with a first terminal of the form
pub data Starts {A : Type 0} (form : Form A) (ts rest : List Terminal) : Type 0 where
  empty : ends form ≡ true → ts ≡ rest → Starts form ts rest
  headed : (k : Kind) (x : List ℕ) (us : List Terminal) → ts ≡ terminal k x ∷ us → begins form k ≡ true → Starts form ts rest

not_both : {B : Type 0} {b : Bool} → b ≡ false → b ≡ true → B
not_both h k = absurd (cc)

either_left : (a b : Bool) → a ≡ true → (if a then true else b) ≡ true
either_left true b h = refl
either_left false b h = absurd (cc)

either_right : (a b : Bool) → b ≡ true → (if a then true else b) ≡ true
either_right true b h = refl
either_right false b h = h

starts_part : {A : Type 0} (u : Symbol) (f : Value u → Form A) {ts mid rest : List Terminal} → nullable u ≡ false → Starts (right_side u) ts mid → Starts (part u f) ts rest
starts_part u f n (empty e h) = not_both n (nullable_right u e)
starts_part u f n (headed k x us h b) = headed k x us h (first_right u k b)

starts_last : {A : Type 0} (u : Symbol) (g : Value u → A) {ts rest : List Terminal} → Starts (right_side u) ts rest → Starts (last u g) ts rest
starts_last u g (empty e h) = empty (nullable_right u e) h
starts_last u g (headed k x us h b) = headed k x us h (first_right u k b)

starts_left : {A : Type 0} (l r : Form A) {ts rest : List Terminal} → Starts l ts rest → Starts (choice l r) ts rest
starts_left l r (empty e h) = empty (either_left (ends l) (ends r) e) h
starts_left l r (headed k x us h b) = headed k x us h (either_left (begins l k) (begins r k) b)

starts_right : {A : Type 0} (l r : Form A) {ts rest : List Terminal} → Starts r ts rest → Starts (choice l r) ts rest
starts_right l r (empty e h) = empty (either_right (ends l) (ends r) e) h
starts_right l r (headed k x us h b) = headed k x us h (either_right (begins l k) (begins r k) b)

starts_when : {A : Type 0} (b : Bool) (f : Form A) {ts rest : List Terminal} → Starts f ts rest → Starts (when b f) ts rest
starts_when b f (empty e h) = empty e h
starts_when b f (headed k x us h c) = headed k x us h c

pub starts : {ns : Names} {s : Symbol} {form : Form (Value s)} {ts rest : List Terminal} {v : Value s} (n : ℕ) → Good n form → Derivation ns s form ts v rest → Starts form ts rest
starts n g gives = empty refl refl
starts n g counts = empty refl refl
starts {ns = ns} n g (takes {c = c} {k = k} {x = x} {ts = ts} p h m) = headed k x ts refl (picks_in ns c k x p h)
starts n g (parts {u = u} {f = f} d e) = starts_part u f g.0 (starts (reach u) (good u) d)
starts n g (lasts {u = u} {g = h} d) = starts_last u h (starts (reach u) (good u) d)
starts n g (firsts {l = l} {r = r} m) = starts_left l r (starts n g.0 m)
starts n g (seconds {l = l} {r = r} m) = starts_right l r (starts n g.1 m)
starts n g (whens {b = b} {f = f} h m) = starts_when b f (starts n g m)

-- the terminals after a part

both_left : (a b : Bool) → (if a then b else false) ≡ true → a ≡ true
both_left true b h = refl
both_left false b h = absurd (cc)

both_right : (a b : Bool) → (if a then b else false) ≡ true → b ≡ true
both_right true b h = h
both_right false b h = absurd (cc)

above_less : (b : Bool) (m n : ℕ) → above b m n ≡ true → b ≡ true → m < n
above_less true m n h e = grind (arith, nat_tests)
above_less false m n h e = absurd (cc)

between : {l m n : ℕ} → l < suc m → m < n → l < n
between h k = omega arith

headed_level : {k : Kind} {x : List ℕ} {ts us : List Terminal} → ts ≡ terminal k x ∷ us → next_level ts ≡ level k
headed_level h = ap next_level h

follow_from : {A : Type 0} (m n : ℕ) (form : Form A) (ts rest : List Terminal) → follows m n form ≡ true → n < next_level rest → Starts form ts rest → m < next_level ts
follow_from m n form ts rest f s (empty e h) =
    subst (λ t. m < next_level t) (sym h) (between (above_less (ends form) m (suc n) (both_right (every (λ k. above (begins form k) m (level k))) (above (ends form) m (suc n)) f) e) s)
follow_from m n form ts rest f s (headed k x us h b) =
    subst (λ l. m < l) (sym (headed_level h)) (above_less (begins form k) m (level k) (every_at (λ k. above (begins form k) m (level k)) (both_left (every (λ k. above (begins form k) m (level k))) (above (ends form) m (suc n)) f) k) b)

pub follow : {ns : Names} {s : Symbol} {form : Form (Value s)} {ts rest : List Terminal} {v : Value s} (m n : ℕ) → Good n form → follows m n form ≡ true → n < next_level rest → Derivation ns s form ts v rest → m < next_level ts
follow {form = form} {ts = ts} {rest = rest} m n g f s d = follow_from m n form ts rest f s (starts n g d)

-- two forms that the next terminal distinguishes

apart_heads : (bl br el er : Bool) (m n : ℕ) → apart_by bl br el er m n ≡ true → bl ≡ true → br ≡ true → ⊥
apart_heads true true el er m n h a b = (cc)
apart_heads true false el er m n h a b = (cc)
apart_heads false br el er m n h a b = (cc)

apart_end-r : (bl br el er : Bool) (m n : ℕ) → apart_by bl br el er m n ≡ true → bl ≡ true → er ≡ true → m < suc n
apart_end-r true true el er m n h a b = absurd (cc)
apart_end-r true false el er m n h a b = above_less er m (suc n) h b
apart_end-r false br el er m n h a b = absurd (cc)

apart_end-l : (bl br el er : Bool) (m n : ℕ) → apart_by bl br el er m n ≡ true → br ≡ true → el ≡ true → m < suc n
apart_end-l true true el er m n h a b = absurd (cc)
apart_end-l true false el er m n h a b = absurd (cc)
apart_end-l false true el er m n h a b = above_less el m (suc n) h b
apart_end-l false false el er m n h a b = absurd (cc)

not_ends : (el er : Bool) → (if el then (if er then false else true) else true) ≡ true → el ≡ true → er ≡ true → ⊥
not_ends true true h a b = (cc)
not_ends true false h a b = (cc)
not_ends false er h a b = (cc)

apart_at : {A : Type 0} (n : ℕ) (l r : Form A) → apart n l r ≡ true → (k : Kind) → apart_by (begins l k) (begins r k) (ends l) (ends r) (level k) n ≡ true
apart_at n l r h k = every_at (λ k. apart_by (begins l k) (begins r k) (ends l) (ends r) (level k) n) (both_left (every (λ k. apart_by (begins l k) (begins r k) (ends l) (ends r) (level k) n)) (if ends l then (if ends r then false else true) else true) h) k

same_kind : {k l : Kind} {x y : List ℕ} {ts us vs : List Terminal} → ts ≡ terminal k x ∷ us → ts ≡ terminal l y ∷ vs → k ≡ l
same_kind h i = (cc)

too_low : {m n : ℕ} → m < suc n → n < m → ⊥
too_low h k = omega arith

at_level : {n : ℕ} {k : Kind} {x : List ℕ} {ts us rest : List Terminal} → n < next_level rest → ts ≡ rest → ts ≡ terminal k x ∷ us → n < level k
at_level {n = n} s h i = subst (λ l. n < l) (headed_level i) (subst (λ t. n < next_level t) (sym h) s)

pub apart_starts : {A : Type 0} (n : ℕ) (l r : Form A) {ts rest rest' : List Terminal} → apart n l r ≡ true → n < next_level rest → n < next_level rest' → Starts l ts rest → Starts r ts rest' → ⊥
apart_starts n l r h s s' (empty e i) (empty e' i') = not_ends (ends l) (ends r) (both_right (every (λ k. apart_by (begins l k) (begins r k) (ends l) (ends r) (level k) n)) (if ends l then (if ends r then false else true) else true) h) e e'
apart_starts n l r h s s' (empty e i) (headed k x us i' b) = too_low (apart_end-l (begins l k) (begins r k) (ends l) (ends r) (level k) n (apart_at n l r h k) b e) (at_level s i i')
apart_starts n l r h s s' (headed k x us i b) (empty e i') = too_low (apart_end-r (begins l k) (begins r k) (ends l) (ends r) (level k) n (apart_at n l r h k) b e) (at_level s' i' i)
apart_starts n l r h s s' (headed k x us i b) (headed k' x' us' i' b') =
    apart_heads (begins l k) (begins r k) (ends l) (ends r) (level k) n (apart_at n l r h k) b (subst (λ k. begins r k ≡ true) (sym (same_kind i i')) b')

-- at most one value

pub record Same {A : Type 0} (v w : A) (rest rest' : List Terminal) : Type 0 where
  pub value : v ≡ w
  pub same_rest : rest ≡ rest'

moved : {A : Type 0} (P : A → List Terminal → Type 0) {v w : A} {r r' : List Terminal} → Same v w r r' → P w r' → P v r
moved P {v = v} {w = w} {r = r} {r' = r'} s x = subst (λ a. P a r) (sym s.value) (subst (λ t. P w t) (sym s.same_rest) x)

pub lower : (n : ℕ) (u : Symbol) (rest : List Terminal) → nat_lt (reach u) (suc n) ≡ true → n < next_level rest → reach u < next_level rest
lower n u rest h s = between (above_less true (reach u) (suc n) h refl) s

pub unique : {ns : Names} {s : Symbol} {form : Form (Value s)} {ts r r' : List Terminal} {v w : Value s} (n : ℕ) → Good n form
    → Derivation ns s form ts v r → n < next_level r → Derivation ns s form ts w r' → n < next_level r' → Same v w r r'
unique n g gives s gives s' = record { value = refl; same_rest = refl }
unique n g counts s counts s' = record { value = refl; same_rest = refl }
unique {ns = ns} {s = y} {r' = r'} {w = w} n g (takes {c = c} {f = f} {k = k} {x = x} {ts = ts} p h m) s (takes p' h' m') s' =
    unique n (g p) m s (subst (λ p. Derivation ns y (f p) ts w r') (one_value ns c k x p' p h' h) m') s'
unique {ns = ns} {s = y} {r' = r'} {w = w} n g (parts {u = u} {f = f} {a = a} d e) s (parts {a = a'} d' e') s' =
    let q = g.1 in
    let m = unique (reach u) (good u) d (follow (reach u) n (q a).1 (q a).0 s e) d' (follow (reach u) n (q a').1 (q a').0 s' e') in
    unique n (q a).1 e s (moved (λ a t. Derivation ns y (f a) t w r') m e') s'
unique n g (lasts {u = u} {g = h} d) s (lasts d') s' =
    let m = unique (reach u) (good u) d (lower n u _ g s) d' (lower n u _ g s') in
    record { value = ap h m.value; same_rest = m.same_rest }
unique n g (firsts m) s (firsts m') s' = unique n g.0 m s m' s'
unique n g (firsts {l = l} {r = r} m) s (seconds m') s' = absurd (apart_starts n l r g.2 s s' (starts n g.0 m) (starts n g.1 m'))
unique n g (seconds {l = l} {r = r} m) s (firsts m') s' = absurd (apart_starts n l r g.2 s' s (starts n g.0 m') (starts n g.1 m))
unique n g (seconds m) s (seconds m') s' = unique n g.1 m s m' s'
unique n g (whens h m) s (whens h' m') s' = unique n g m s m' s'

pub ends_low : 8 < next_level []
ends_low = lit< tt
