-- A string that is there is read.
use Rattle.std.proofs.Common.{◌≡◌, ℕ, suc, ◌<◌, ◌&&◌, Bool, true, false, nat_lt, MatchBool, IsUtf8, List, [], ◌∷◌, ◌++◌, length, get_or, take, drop, drop-cons, take_all, length-append, flat_map, codes, refl, sym, ap, subst, ◌∙◌, arith, append_assoc, append-nil}
use Rattle.std.specs.List.{list_all}
use Rattle.std.proofs.lemmas.Bool.{false≢true, ltb-false, ltb-true}
use Rattle.result_json.specs.Results.{string_byte, string_text}
use Rattle.result_json.specs.Texts.{is_plain}
use Rattle.result_merge.specs.Absent.{IsNoString}
use Rattle.result_merge.proofs.ReadSteps.{plain_read}
use Rattle.result_merge.proofs.StringLaws.{head_of, no_quote, opened, string_same}

-- the content of a string, and what follows it
abbrev pub content : List ℕ → List ℕ → List ℕ
content s a = flat_map string_byte s ++ 34 ∷ a

content-cons : (x : ℕ) (s a : List ℕ) → content (x ∷ s) a ≡ string_byte x ++ content s a
content-cons x s a = append_assoc (string_byte x) (flat_map string_byte s) (34 ∷ a)

content-some : (s a : List ℕ) → 0 < length (content s a)
content-some s a = let e = length-append (flat_map string_byte s) (34 ∷ a) in omega (arith, e)

-- what `starts_with` ensures
pub begins : (r : Bool) (bytes prefix : List ℕ) → (r ≡ true → bytes ≡ prefix ++ drop (length prefix) bytes) × ((rest : List ℕ) → bytes ≡ prefix ++ rest → r ≡ true)
    → MatchBool r ((rest : List ℕ) × (bytes ≡ prefix ++ rest)) ((rest : List ℕ) → bytes ≡ prefix ++ rest → ⊥)
begins true bytes prefix h = (drop (length prefix) bytes, h.0 refl)
begins false bytes prefix h = λ rest e. false≢true (h.1 rest e)

-- ---- byte by byte

-- if the bytes begin with the content of a string, its front is this text, and the others are at the rest
abbrev pub IsReadTo : List ℕ → List ℕ → List ℕ → Type 0
IsReadTo bytes text rest = (s a : List ℕ) → bytes ≡ content s a → (left : List ℕ) × (s ≡ text ++ left) × (rest ≡ content left a)

pub nothing_read : (bytes : List ℕ) → IsReadTo bytes [] bytes
nothing_read bytes = λ s a e. (s, refl, e)

pub byte_more : (bytes text new rest next : List ℕ) (byte : ℕ) → IsReadTo bytes text rest → (head_of rest ≡ 34 → ⊥)
    → ((x : ℕ) (r : List ℕ) → rest ≡ string_byte x ++ r → (byte ≡ x) × (next ≡ r)) → new ≡ text ++ byte ∷ [] → IsReadTo bytes new next
byte_more bytes text new rest next byte was other read push = λ s a e. let w = was s a e in by s a w.0 w.1 w.2
  where
    by : (s a left : List ℕ) → s ≡ text ++ left → rest ≡ content left a → (left' : List ℕ) × (s ≡ new ++ left') × (next ≡ content left' a)
    by s a [] p f = absurd (other (ap head_of f))
    by s a (x ∷ left) p f =
        let r = read x (content left a) (f ∙ content-cons x left a) in
        (left, p ∙ sym (append_assoc text (x ∷ []) left) ∙ ap (λ t. t ++ left) (ap (λ y. text ++ y ∷ []) (sym r.0) ∙ sym push), r.1)

pub all_read : (bytes text rest : List ℕ) → IsReadTo bytes text rest → head_of rest ≡ 34 → (s a : List ℕ) → bytes ≡ content s a → text ≡ s
all_read bytes text rest was quote = λ s a e. let w = was s a e in by s a w.0 w.1 w.2
  where
    by : (s a left : List ℕ) → s ≡ text ++ left → rest ≡ content left a → text ≡ s
    by s a [] p f = sym (p ∙ append-nil text)
    by s a (x ∷ left) p f = absurd (no_quote x (content left a) (sym quote ∙ ap head_of (f ∙ content-cons x left a)))

pub not_empty : (bytes text rest : List ℕ) → IsReadTo bytes text rest → length rest ≡ 0 → (s a : List ℕ) → bytes ≡ content s a → ⊥
not_empty bytes text rest was nothing = λ s a e.
    let w = was s a e in
    let same = ap length w.2 in
    let some = content-some w.0 a in
    absurd (omega (arith, same, some, nothing))

-- ---- with escapes

-- what follows the first quotation mark
pub inside : (bytes opened' s a : List ℕ) → bytes ≡ codes "\"" ++ opened' → bytes ≡ string_text s ++ a → opened' ≡ content s a
inside bytes opened' s a f e = ap (drop 1) (sym f ∙ e ∙ opened s a)

pub no_opening : (bytes : List ℕ) → ((rest : List ℕ) → bytes ≡ codes "\"" ++ rest → ⊥) → IsNoString bytes
no_opening bytes h = λ s a u e. h (content s a) (e ∙ opened s a)

pub no_content : (bytes opened' : List ℕ) → bytes ≡ codes "\"" ++ opened' → ((s a : List ℕ) → opened' ≡ content s a → ⊥) → IsNoString bytes
no_content bytes opened' f h = λ s a u e. h s a (inside bytes opened' s a f e)

-- the text is what the string means
abbrev pub Means : List ℕ → List ℕ → Type 0
Means opened' text = (s a : List ℕ) → opened' ≡ content s a → text ≡ s

pub no_utf8 : (bytes opened' text : List ℕ) → bytes ≡ codes "\"" ++ opened' → Means opened' text → (IsUtf8 text → ⊥) → IsNoString bytes
no_utf8 bytes opened' text f means h = λ s a u e. h (subst IsUtf8 (sym (means s a (inside bytes opened' s a f e))) u)

pub not_printed : (bytes opened' text printed : List ℕ) → bytes ≡ codes "\"" ++ opened' → Means opened' text → printed ≡ string_text text → ((rest : List ℕ) → bytes ≡ printed ++ rest → ⊥) → IsNoString bytes
not_printed bytes opened' text printed f means is h = λ s a u e.
    h a (e ∙ ap (λ t. string_text t ++ a) (sym (means s a (inside bytes opened' s a f e))) ∙ ap (λ p. p ++ a) (sym is))

-- ---- without escapes

no_plain_quote : (l a : List ℕ) → list_all is_plain (l ++ 34 ∷ a) ≡ true → ⊥
no_plain_quote [] a e = false≢true e
no_plain_quote (x ∷ l) a e = no_plain_quote l a (right (is_plain x) (list_all is_plain (l ++ 34 ∷ a)) e)
  where
    right : (b c : Bool) → (b && c) ≡ true → c ≡ true
    right true c e = e
    right false c e = absurd (false≢true e)

pub no_closing : (bytes opened' text closing : List ℕ) (k : ℕ) → bytes ≡ codes "\"" ++ opened' → text ≡ take k opened' → closing ≡ drop k opened' → (k < length opened' → get_or opened' k 0 ≡ 34)
    → list_all is_plain text ≡ true → ((rest : List ℕ) → closing ≡ codes "\"" ++ rest → ⊥) → IsNoString bytes
no_closing bytes opened' text closing k f front back quote plain h = λ s a u e. by (nat_lt k (length opened')) refl s a (inside bytes opened' s a f e)
  where
    by : (b : Bool) → nat_lt k (length opened') ≡ b → (s a : List ℕ) → opened' ≡ content s a → ⊥
    by true e s a is =
        let below = ltb-true k (length opened') e in
        h (drop (suc k) opened') (back ∙ drop-cons opened' k 0 below ∙ ap (λ x. x ∷ drop (suc k) opened') (quote below))
    by false e s a is =
        no_plain_quote (flat_map string_byte s) a
        (ap (list_all is_plain) (sym is ∙ sym (take_all k opened' (ltb-false k (length opened') e)) ∙ sym front) ∙ plain)

pub no_plain_utf8 : (bytes opened' text closing rest : List ℕ) → bytes ≡ codes "\"" ++ opened' → opened' ≡ text ++ closing → closing ≡ codes "\"" ++ rest → list_all is_plain text ≡ true → (IsUtf8 text → ⊥)
    → IsNoString bytes
no_plain_utf8 bytes opened' text closing rest f g c plain h = λ s a u e.
    let same = string_same text s rest a (sym (plain_read bytes opened' text closing rest text f g c refl plain) ∙ e) in
    h (subst IsUtf8 (sym same.0) u)
