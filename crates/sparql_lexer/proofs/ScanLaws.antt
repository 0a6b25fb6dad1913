-- Terminals are not empty, and a scan may begin with one more terminal.
use Rattle.std.proofs.Common.{◌≡◌, ℕ, ◌<◌, List, [], ◌∷◌, ◌++◌, length, refl, sym, ap, ◌∙◌, subst, arith}
use Rattle.sparql_lexer.specs.declared.token.Kind.{Kind}
use Rattle.sparql_lexer.specs.declared.token.Kind.TheVariants as kind
use Rattle.sparql_lexer.specs.declared.token.Sign.{Sign}
use Rattle.sparql_lexer.specs.declared.token.Token.{Token}
use Rattle.sparql_lexer.specs.Blanks.{after_blanks}
use Rattle.sparql_lexer.specs.Colonless.{HasSuffix, here, next}
use Rattle.sparql_lexer.specs.Scan.{Reads, Longest, Unreadable, Scans, stops, reads}
use Rattle.sparql_lexer.specs.Signs.{IsSign, one, two}
use Rattle.sparql_lexer.specs.Terminal.{Terminal, terminal, terminals}
use Rattle.sparql_lexer.specs.Words.{taken}
use Rattle.sparql_lexer.proofs.PatternLaws.{rest_suffix, strictly}

sign_suffix : {s : Sign} {ts r : List ℕ} → IsSign s ts r → HasSuffix ts r
sign_suffix (one e) = next here
sign_suffix (two e) = next (next here)

pub reads_suffix : (k : Kind) (ts r : List ℕ) → Reads k ts r → HasSuffix ts r
reads_suffix (kind.Keyword k) ts r d = rest_suffix d.letters
reads_suffix kind.Word ts r d = rest_suffix d.letters
reads_suffix (kind.Sign s) ts r d = sign_suffix d
reads_suffix _ ts r d = rest_suffix d

sign_shorter : {s : Sign} {ts r : List ℕ} → IsSign s ts r → length r < length ts
sign_shorter (one e) = omega arith
sign_shorter (two e) = omega arith

pub reads_shorter : (k : Kind) (ts r : List ℕ) → Reads k ts r → length r < length ts
reads_shorter (kind.Keyword k) ts r d = strictly refl d.letters
reads_shorter kind.Word ts r d = strictly refl d.letters
reads_shorter (kind.Sign s) ts r d = sign_shorter d
reads_shorter _ ts r d = strictly refl d

one_more : (xs : List Token) (t : Token) (ts : List Terminal) → terminals (xs ++ t ∷ []) ++ ts ≡ terminals xs ++ (terminal t.kind t.text.now ∷ ts)
one_more [] t ts = refl
one_more (x ∷ xs) t ts = ap (λ us. terminal x.kind x.text.now ∷ us) (one_more xs t ts)

no_more : (xs : List Terminal) → xs ++ [] ≡ xs
no_more [] = refl
no_more (x ∷ xs) = ap (λ us. x ∷ us) (no_more xs)

pub scans_stop : (text rest place : List ℕ) (xs : List Terminal) → ((ts : List Terminal) (end : List ℕ) → Scans rest ts end → Scans text (xs ++ ts) end) → place ≡ after_blanks rest → Unreadable place → Scans text xs place
scans_stop text rest place xs inv is none = subst (λ ts. Scans text ts place) (no_more xs) (inv [] place (stops (sym is) none))

pub scans_read : (text rest place remaining : List ℕ) (xs ys : List Token) (t : Token) → ((ts : List Terminal) (end : List ℕ) → Scans rest ts end → Scans text (terminals xs ++ ts) end) → place ≡ after_blanks rest → Longest t.kind place remaining
    → t.text.now ≡ taken place remaining → ys ≡ xs ++ t ∷ [] → (ts : List Terminal) (end : List ℕ) → Scans remaining ts end → Scans text (terminals ys ++ ts) end
scans_read text rest place remaining xs ys t inv is longest spanned pushed ts end d =
    subst (λ us. Scans text us end) (sym (ap (λ ys. terminals ys ++ ts) pushed ∙ one_more xs t ts))
    (inv (terminal t.kind t.text.now ∷ ts) end (subst (λ w. Scans rest (terminal t.kind w ∷ ts) end) (sym spanned) (reads (sym is) longest d)))

pub scans_start : (text : List ℕ) (xs : List Token) → xs ≡ [] → (ts : List Terminal) (end : List ℕ) → Scans text ts end → Scans text (terminals xs ++ ts) end
scans_start text xs is ts end d = subst (λ ys. Scans text (terminals ys ++ ts) end) (sym is) d
