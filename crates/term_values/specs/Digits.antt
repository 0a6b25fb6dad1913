-- How two numbers are compared digit by digit, without arithmetic on large numbers. Only private
-- clauses use these definitions. proofs/NumberLaws proves that this is the order of numbers.
use Rattle.std.specs.Prelude.{ℕ, List, [], ◌∷◌, ◌==◌, if◌then◌else◌, length}
use Rattle.std.specs.Ordering.{nat_cmp, ordering_then}
use Rattle.std.specs.Cmp.Lexicographic.{slice_cmp}
use Rattle.std.specs.declared.cmp.Ordering.{Ordering}
use Rattle.std.specs.declared.cmp.Ordering.TheVariants.{Equal}

-- the digit 0, #x30
abbrev pub zero_digit : ℕ
zero_digit = 48

-- the digits from the first one on that is not 0
abbrev pub without_leading_zeros : List ℕ → List ℕ
without_leading_zeros [] = []
without_leading_zeros (c ∷ cs) = if c == zero_digit then without_leading_zeros cs else c ∷ cs

-- digits before the decimal point, without leading zeros: fewer digits are a smaller number
abbrev pub whole_order : List ℕ → List ℕ → Ordering
whole_order v w = ordering_then (nat_cmp (length v) (length w)) (slice_cmp nat_cmp v w)

-- digits after the decimal point: the shorter list is continued with zeros
abbrev pub fraction_order : List ℕ → List ℕ → Ordering
fraction_order [] [] = Equal
fraction_order [] (d ∷ ds) = ordering_then (nat_cmp zero_digit d) (fraction_order [] ds)
fraction_order (c ∷ cs) [] = ordering_then (nat_cmp c zero_digit) (fraction_order cs [])
fraction_order (c ∷ cs) (d ∷ ds) = ordering_then (nat_cmp c d) (fraction_order cs ds)

-- the numbers v.f and w.g without their signs
abbrev pub size_order : List ℕ → List ℕ → List ℕ → List ℕ → Ordering
size_order v f w g =
    ordering_then (whole_order (without_leading_zeros v) (without_leading_zeros w)) (fraction_order f g)
