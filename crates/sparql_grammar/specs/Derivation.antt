-- The lists of terminals that the productions derive.
use Rattle.std.specs.Prelude.{◌≡◌, ℕ, List, ◌∷◌, length, Bool, true}
use Rattle.sparql_lexer.specs.declared.token.Kind.{Kind}
use Rattle.sparql_lexer.specs.Terminal.{Terminal, terminal}
use Rattle.sparql_grammar.specs.Class.{Class, Picked, Picks}
use Rattle.sparql_grammar.specs.Values.{Names}
use Rattle.sparql_grammar.specs.Symbol.{Symbol, Value}
use Rattle.sparql_grammar.specs.Form.{Form, give, count_following, take, part, last, choice, when}
use Rattle.sparql_grammar.specs.Productions.{right_side}

-- `Derivation names s form ts v rest`: the list ts is a text of the form, whose value is v, followed
-- by rest. A symbol is replaced by its right side. The form is the right side of the symbol s, or a
-- later part of it.
pub data Derivation (names : Names) : (s : Symbol) → Form (Value s) → List Terminal → Value s → List Terminal → Type 0 where
  gives : {s : Symbol} {v : Value s} {ts : List Terminal} → Derivation names s (give v) ts v ts
  counts : {s : Symbol} {g : ℕ → Value s} {ts : List Terminal} → Derivation names s (count_following g) ts (g (length ts)) ts
  takes : {s : Symbol} {c : Class} {f : Picked c → Form (Value s)} {k : Kind} {x : List ℕ} {ts rest : List Terminal} {v : Value s}
      → (p : Picked c) → Picks names c k x p → Derivation names s (f p) ts v rest → Derivation names s (take c f) (terminal k x ∷ ts) v rest
  parts : {s u : Symbol} {f : Value u → Form (Value s)} {ts mid rest : List Terminal} {a : Value u} {v : Value s}
      → Derivation names u (right_side u) ts a mid → Derivation names s (f a) mid v rest → Derivation names s (part u f) ts v rest
  lasts : {s u : Symbol} {g : Value u → Value s} {ts rest : List Terminal} {a : Value u}
      → Derivation names u (right_side u) ts a rest → Derivation names s (last u g) ts (g a) rest
  firsts : {s : Symbol} {l r : Form (Value s)} {ts rest : List Terminal} {v : Value s}
      → Derivation names s l ts v rest → Derivation names s (choice l r) ts v rest
  seconds : {s : Symbol} {l r : Form (Value s)} {ts rest : List Terminal} {v : Value s}
      → Derivation names s r ts v rest → Derivation names s (choice l r) ts v rest
  whens : {s : Symbol} {b : Bool} {f : Form (Value s)} {ts rest : List Terminal} {v : Value s}
      → b ≡ true → Derivation names s f ts v rest → Derivation names s (when b f) ts v rest
