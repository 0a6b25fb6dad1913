-- The loop that collects the declarations.
use Rattle.std.proofs.Common.{◌≡◌, ◌+◌, ◌-◌, ◌<◌, ℕ, suc, List, [], ◌∷◌, length, length-drop, take, drop, get_or, Option, refl, sym, ap, ◌∙◌, drop-cons, arith}
use Rattle.std.proofs.lemmas.List.{take_all}
use Rattle.sparql_lexer.specs.declared.token.Token.{Token}
use Rattle.sparql_lexer.specs.Terminal.{terminals}
use Rattle.sparql_grammar.specs.declared.declarations.Declaration.{Declaration}
use Rattle.sparql_grammar.specs.Values.{Names}
use Rattle.sparql_grammar.specs.Prologue.{and_declared, declaration_at, declared_onto}

from_cons : (us vs : List Token) (u : Token) (ns : Names) → us ≡ u ∷ vs → declared_onto ns (terminals us) ≡ declared_onto (and_declared (declaration_at (terminals us)) ns) (terminals vs)
from_cons us vs u ns e = rw e refl

declared_more : (ts : List Token) (i : ℕ) (ns : Names) → i < length ts
    → declared_onto ns (terminals (drop i ts)) ≡ declared_onto (and_declared (declaration_at (terminals (drop i ts))) ns) (terminals (drop (i + 1) ts))
declared_more [] i ns below = absurd (omega arith)
declared_more (t ∷ ts) i ns below =
    let e : suc i ≡ i + 1 = omega arith in
    from_cons (drop i (t ∷ ts)) (drop (i + 1) (t ∷ ts)) (get_or (t ∷ ts) i t) ns (drop-cons (t ∷ ts) i t below ∙ ap (λ n. get_or (t ∷ ts) i t ∷ drop n (t ∷ ts)) e)

-- the terminals from a place on
from_place : (ts : List Token) (i : ℕ) → take (length ts - i) (drop i ts) ≡ drop i ts
from_place ts i = take_all (length ts - i) (drop i ts) (grind (arith, length-drop))

-- a declaration begins at a place, or none does
pub declared_next : (ts : List Token) (i : ℕ) (old new : Names) (found : Option Declaration) → i < length ts
    → new ≡ and_declared found old → found ≡ declaration_at (terminals (take (length ts - i) (drop i ts)))
    → declared_onto new (terminals (drop (i + 1) ts)) ≡ declared_onto old (terminals (drop i ts))
declared_next ts i old new found below e f =
    ap (λ ns. declared_onto ns (terminals (drop (i + 1) ts))) (e ∙ ap (λ d. and_declared d old) (f ∙ ap (λ us. declaration_at (terminals us)) (from_place ts i)))
    ∙ sym (declared_more ts i old below)
