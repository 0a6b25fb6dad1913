-- Parts of a list of quads, which are counted by themselves.
use Rattle.std.specs.Prelude.{ℕ, zero, suc, ◌+◌, ◌/◌, ◌%◌, ◌^◌, Bool, List, length, filter, nat_eq}
use Rattle.algebra_model.specs.Bag.{without_repeats}
use Rattle.dict_core.specs.declared.num_quad.NumQuad.{NumQuad}
use Rattle.dict_core.specs.Equality.{quad_eq}

-- the number of parts
abbrev pub parts : ℕ
parts = 8

-- the part of a quad: a choice of this project, on which no count depends
abbrev pub part_of : NumQuad → ℕ
part_of q = (q.s % 2 ^ 32 + q.o % 2 ^ 32) / 256 % parts

-- the quad is in this part
abbrev pub is_in : ℕ → NumQuad → Bool
is_in part q = nat_eq (part_of q) part

-- the number of distinct quads in a part
abbrev pub count_in_part : ℕ → List NumQuad → ℕ
count_in_part part quads = length (without_repeats quad_eq (filter (is_in part) quads))

-- the sum of f at 0, 1, .. up to n - 1
abbrev pub sum_below : (ℕ → ℕ) → ℕ → ℕ
sum_below f zero = 0
sum_below f (suc n) = sum_below f n + f n
