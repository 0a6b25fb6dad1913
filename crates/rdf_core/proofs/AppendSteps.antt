-- Texts that are appended one after the other.
use Rattle.std.proofs.Common.{◌≡◌, List, ℕ, ◌++◌, Result, Ok, Err, ap, ◌∙◌, append_assoc}
use Rattle.std.specs.Prelude.{OnErr}

pub two : (old a b xs ys : List ℕ) → a ≡ old ++ xs → b ≡ a ++ ys → b ≡ old ++ (xs ++ ys)
two old a b xs ys e f = f ∙ ap (λ zs. zs ++ ys) e ∙ append_assoc old xs ys

pub three : (old a b c xs ys zs : List ℕ) → a ≡ old ++ xs → b ≡ a ++ ys → c ≡ b ++ zs → c ≡ old ++ (xs ++ (ys ++ zs))
three old a b c xs ys zs e f g = two old a c xs (ys ++ zs) e (two a b c ys zs f g)

pub four : (old a b c d xs ys zs ws : List ℕ) → a ≡ old ++ xs → b ≡ a ++ ys → c ≡ b ++ zs → d ≡ c ++ ws → d ≡ old ++ (xs ++ (ys ++ (zs ++ ws)))
four old a b c d xs ys zs ws e f g h = two old a d xs (ys ++ (zs ++ ws)) e (three a b c d ys zs ws f g h)

-- an error after some bytes
pub error_after : {T E : Type 0} (r : Result T E) (old new more : List ℕ) → new ≡ old ++ more → OnErr r ((more : List ℕ) × (new ≡ old ++ more))
error_after (Ok v) old new more e = tt
error_after (Err f) old new more e = (more, e)
