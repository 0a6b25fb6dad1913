-- Parts of a dataset (choices of this project).
use Rattle.std.specs.Prelude.{◌≡◌, List, [], ◌∷◌, Option, Some, None, ⊤}
use Rattle.rdf_core.specs.declared.term.Term.{Term}
use Rattle.rdf_core.specs.QuadParts.{QuadParts}
use Rattle.algebra_model.specs.Bag.{IsSameSet}
use Rattle.algebra_model.specs.Dataset.{graph}
use Rattle.algebra_model.specs.Pieces.{joined}
use Rattle.algebra_model.specs.Renaming.{Each}
use Rattle.query_split.specs.declared.split.Split.{Split}
use Rattle.query_split.specs.declared.split.Split.TheVariants as by

-- no quad of the one dataset meets a quad of the other
abbrev pub NoneMeets : (QuadParts → QuadParts → Type 0) → List QuadParts → List QuadParts → Type 0
NoneMeets Meets D E = Each (λ q. Each (λ r. Meets q r → ⊥) E) D

-- the quads are in the same named graph
abbrev pub HaveOneName : QuadParts → QuadParts → Type 0
HaveOneName q r = (name : Term) × (q.g ≡ Some name) × (r.g ≡ Some name)

-- Nothing of the one dataset is in the other: no quad, no subject or no named graph.
abbrev pub AreApart : Split → List QuadParts → List QuadParts → Type 0
AreApart by.Lines D E = NoneMeets (λ q r. q ≡ r) D E
AreApart by.Subject D E = NoneMeets (λ q r. q.s ≡ r.s) D E
AreApart by.Graph D E = NoneMeets HaveOneName D E
AreApart by.GraphWithDefault D E = NoneMeets HaveOneName D E × IsSameSet (graph D None) (graph E None)

-- Parts in which nothing is twice: each is apart from all after it. There is at least one.
abbrev pub AreParts : Split → List QuadParts → List (List QuadParts) → Type 0
AreParts split part [] = ⊤
AreParts split part (p ∷ parts) = AreApart split part (joined (p ∷ parts)) × AreParts split p parts
