-- The conclusions from the first token, if it is of a class and if it is not.
use Rattle.std.proofs.Common.{◌≡◌, ◌<◌, ℕ, List, length, Option, Some, None, subst}
use Rattle.std.specs.Option.{IfSome}
use Rattle.std.specs.Borrow.{Bor}
use Rattle.sparql_lexer.specs.declared.token.Token.{Token}
use Rattle.sparql_lexer.specs.Terminal.{Terminal, terminals}
use Rattle.sparql_grammar.specs.Class.{Class, Picked}
use Rattle.sparql_grammar.specs.Values.{Names}
use Rattle.sparql_expression.specs.Front.{Taken, Untaken, Accepts, accepted}

pub some_taken : {names : Names} {c : Class} {ts : List Terminal} {o : Option (Picked c × Bor (List Token))} {v : Picked c} {after : Bor (List Token)}
    → Accepts names c ts (accepted o) → o ≡ Some (v, after) → Taken names c ts v (terminals after.now)
some_taken {names = names} {c = c} {ts = ts} h e = subst (λ o. Accepts names c ts (accepted o)) e h

pub none_untaken : {names : Names} {c : Class} {ts : List Terminal} {o : Option (Picked c × Bor (List Token))}
    → Accepts names c ts (accepted o) → o ≡ None → Untaken names c ts
none_untaken {names = names} {c = c} {ts = ts} h e = subst (λ o. Accepts names c ts (accepted o)) e h

pub some_shorter : {A : Type 0} {o : Option (A × Bor (List Token))} {v : A} {after : Bor (List Token)} {n : ℕ} → IfSome o (λ p. length p.1.now < n) → o ≡ Some (v, after) → length after.now < n
some_shorter {n = n} h e = subst (λ o. IfSome o (λ p. length p.1.now < n)) e h
