-- What a derivation does with the terminals that follow it: their number alone decides its value.
use Rattle.std.proofs.Common.{◌≡◌, ◌⊎◌, ℕ, ◌+◌, List, [], ◌∷◌, ◌++◌, length, refl, sym, ap, subst, ◌∙◌, inl, inr, append_assoc, length-append}
use Rattle.sparql_lexer.specs.declared.token.Kind.{Kind}
use Rattle.sparql_lexer.specs.Terminal.{Terminal, terminal}
use Rattle.sparql_grammar.specs.Class.{Class, Picked, Picks}
use Rattle.sparql_grammar.specs.Values.{Names}
use Rattle.sparql_grammar.specs.Symbol.{Symbol, Value}
use Rattle.sparql_grammar.specs.Form.{Form, give, count_following, take, part, last, choice}
use Rattle.sparql_grammar.specs.Productions.{right_side}
use Rattle.sparql_grammar.specs.Derivation.{Derivation, gives, counts, takes, parts, lasts, firsts, seconds, whens}

-- ---- the last step of a derivation

pub unchoice : {ns : Names} {s : Symbol} {l r : Form (Value s)} {ts rest : List Terminal} {v : Value s}
    → Derivation ns s (choice l r) ts v rest → Derivation ns s l ts v rest ⊎ Derivation ns s r ts v rest
unchoice (firsts d) = inl d
unchoice (seconds d) = inr d

pub untake : {ns : Names} {s : Symbol} {c : Class} {f : Picked c → Form (Value s)} {ts rest : List Terminal} {v : Value s}
    → Derivation ns s (take c f) ts v rest
    → (k : Kind) × (x : List ℕ) × (us : List Terminal) × (p : Picked c) × (ts ≡ terminal k x ∷ us) × Picks ns c k x p × Derivation ns s (f p) us v rest
untake (takes {k = k} {x = x} {ts = us} p h d) = (k, x, us, p, refl, h, d)

pub unpart : {ns : Names} {s u : Symbol} {f : Value u → Form (Value s)} {ts rest : List Terminal} {v : Value s}
    → Derivation ns s (part u f) ts v rest
    → (a : Value u) × (mid : List Terminal) × Derivation ns u (right_side u) ts a mid × Derivation ns s (f a) mid v rest
unpart (parts {mid = mid} {a = a} d e) = (a, mid, d, e)

pub unlast : {ns : Names} {s u : Symbol} {g : Value u → Value s} {ts rest : List Terminal} {v : Value s}
    → Derivation ns s (last u g) ts v rest → (a : Value u) × Derivation ns u (right_side u) ts a rest × (v ≡ g a)
unlast (lasts {a = a} d) = (a, d, refl)

pub ungive : {ns : Names} {s : Symbol} {w : Value s} {ts rest : List Terminal} {v : Value s} → Derivation ns s (give w) ts v rest → (v ≡ w) × (ts ≡ rest)
ungive gives = (refl, refl)

-- ---- other terminals after a derivation

pub record Front (ns : Names) (s : Symbol) (form : Form (Value s)) (ts : List Terminal) (v : Value s) (rest : List Terminal) : Type 0 where
  pub used : List Terminal
  pub is : ts ≡ used ++ rest
  pub again : (other : List Terminal) → length other ≡ length rest → Derivation ns s form (used ++ other) v other

pub front : {ns : Names} {s : Symbol} {form : Form (Value s)} {ts rest : List Terminal} {v : Value s} → Derivation ns s form ts v rest → Front ns s form ts v rest
front gives = record { used = []; is = refl; again = λ other e. gives }
front {ns = ns} {s = s} (counts {g = g}) = record {
  used = [];
  is = refl;
  again = λ other e. subst (λ n. Derivation ns s (count_following g) other (g n) other) e counts;
}
front (takes {c = c} {f = f} {k = k} {x = x} p h d) =
    let m = front d in record {
      used = terminal k x ∷ m.used;
      is = ap (λ l. terminal k x ∷ l) m.is;
      again = λ other e. takes {f = f} p h (m.again other e);
    }
front {ns = ns} {s = s} (parts {u = u} {f = f} {mid = mid} {rest = rest} {v = v} d e) =
    let m = front d in let n = front e in record {
      used = m.used ++ n.used;
      is = m.is ∙ ap (λ l. m.used ++ l) n.is ∙ sym (append_assoc m.used n.used rest);
      again = λ other same.
          subst (λ ts. Derivation ns s (part u f) ts v other) (sym (append_assoc m.used n.used other))
          (parts {f = f}
          (m.again (n.used ++ other) (length-append n.used other ∙ ap (λ k. length n.used + k) same ∙ sym (length-append n.used rest) ∙ ap length (sym n.is)))
          (n.again other same));
    }
front (lasts {g = g} d) = let m = front d in record { used = m.used; is = m.is; again = λ other e. lasts {g = g} (m.again other e) }
front (firsts d) = let m = front d in record { used = m.used; is = m.is; again = λ other e. firsts (m.again other e) }
front (seconds d) = let m = front d in record { used = m.used; is = m.is; again = λ other e. seconds (m.again other e) }
front (whens h d) = let m = front d in record { used = m.used; is = m.is; again = λ other e. whens h (m.again other e) }
