-- The condition on a basic graph pattern, over the triples of the code, and the first of two names.
use Rattle.std.proofs.Common.{◌≡◌, ◌&&◌, false, nat_eq, List, [], ◌∷◌, Option, None, Some, length, map, refl, ap}
use Rattle.std.specs.List.{list_all}
use Rattle.std.specs.Option.{option_map, option_or}
use Rattle.std.proofs.lemmas.Bool.{false≢true}
use Rattle.sparql_algebra.specs.AlgebraOf.{pattern_term_of, triple_pattern_of}
use Rattle.sparql_algebra.specs.declared.operator.TriplePattern.{TriplePattern}
use Rattle.query_split.specs.Condition.{Key, is_apart_pattern, is_key_variable}
use Rattle.query_split.specs.declared.split.Split.TheVariants as by

all_of_map : (key : Key) (ts : List TriplePattern) → list_all (λ (t : TriplePattern). is_key_variable key (pattern_term_of t.subject)) ts ≡ list_all (λ t. is_key_variable key t.s) (map triple_pattern_of ts)
all_of_map key [] = refl
all_of_map key (t ∷ ts) = ap (λ b. is_key_variable key (pattern_term_of t.subject) && b) (all_of_map key ts)

-- some triples, each with the key as subject
pub key_triples : (key : Key) (ts : List TriplePattern) → false ≡ nat_eq (length ts) 0
    → list_all (λ (t : TriplePattern). is_key_variable key (pattern_term_of t.subject)) ts ≡ is_apart_pattern by.Subject key (map triple_pattern_of ts)
key_triples key [] e = absurd (false≢true e)
key_triples key (t ∷ ts) e = ap (λ b. is_key_variable key (pattern_term_of t.subject) && b) (all_of_map key ts)

-- the first of two values, mapped
pub first_mapped : {X Y : Type 0} (f : X → Y) (a b : Option X) → option_map f (option_or a b) ≡ option_or (option_map f a) (option_map f b)
first_mapped f None b = refl
first_mapped f (Some x) b = refl
