-- The partitions of a dataset by subject and by graph, as parts (choices of this project).
use Rattle.std.specs.Prelude.{ℕ, zero, suc, Bool, List, [], ◌∷◌, ◌++◌, filter, is_none, map}
use Rattle.rdf_core.specs.QuadParts.{QuadParts}
use Rattle.nquads_core.specs.Lines.{lines}
use Rattle.nquads_core.specs.Pieces.{HaveStatements}
use Rattle.algebra_model.specs.Bag.{IsSameSet}
use Rattle.algebra_model.specs.Pieces.{joined}
use Rattle.cluster_parts.specs.Hash.{graph_key, subject_key}
use Rattle.cluster_parts.specs.Laws.{AreBlocks}
use Rattle.cluster_parts.specs.Parts.{quad_document, quads_in}
use Rattle.cluster_parts.specs.Seal.{joined_texts}
use Rattle.query_split.specs.declared.split.Split.TheVariants as by
use Rattle.query_split.specs.Parts.{AreParts}

-- the quads of a partition by subject
abbrev pub subject_part : ℕ → List QuadParts → ℕ → List QuadParts
subject_part partitions D n = quads_in subject_key partitions n D

-- the quads of a partition by graph, with the whole default graph
abbrev pub graph_part : ℕ → List QuadParts → ℕ → List QuadParts
graph_part partitions D n = filter (λ q. is_none (graph_key q)) D ++ quads_in graph_key partitions n D

-- the quads of a partition by graph; the first one has the default graph, too
abbrev pub name_part : ℕ → List QuadParts → ℕ → List QuadParts
name_part partitions D zero = graph_part partitions D 0
name_part partitions D (suc n) = quads_in graph_key partitions (suc n) D

-- the parts n, n + 1, .., of which there are m
abbrev pub parts_of : (ℕ → List QuadParts) → ℕ → ℕ → List (List QuadParts)
parts_of f n zero = []
parts_of f n (suc m) = f n ∷ parts_of f (suc n) m

-- No subject is in two partitions by subject, and all together have the quads of the dataset.
abbrev pub SubjectsAreParts : Type 0
SubjectsAreParts = (partitions : ℕ) (D : List QuadParts)
    → AreParts by.Subject (subject_part (suc partitions) D 0) (parts_of (subject_part (suc partitions) D) 1 partitions)
    × IsSameSet D (joined (parts_of (subject_part (suc partitions) D) 0 (suc partitions)))

-- No named graph is in two partitions by graph, each has the default graph, and all together have the quads of the dataset.
abbrev pub GraphsAreParts : Type 0
GraphsAreParts = (partitions : ℕ) (D : List QuadParts)
    → AreParts by.GraphWithDefault (graph_part (suc partitions) D 0) (parts_of (graph_part (suc partitions) D) 1 partitions)
    × IsSameSet D (joined (parts_of (graph_part (suc partitions) D) 0 (suc partitions)))

-- No named graph is in two partitions by graph, and all together have the quads of the dataset.
abbrev pub NamesAreParts : Type 0
NamesAreParts = (partitions : ℕ) (D : List QuadParts)
    → AreParts by.Graph (name_part (suc partitions) D 0) (parts_of (name_part (suc partitions) D) 1 partitions)
    × IsSameSet D (joined (parts_of (name_part (suc partitions) D) 0 (suc partitions)))

-- Some quads of each block in canonical form, one block after the other, are a document of these quads of the whole.
abbrev pub ChosenQuadsJoin : Type 0
ChosenQuadsJoin = (blocks : List (List ℕ)) (quads : List (List QuadParts)) (chosen : QuadParts → Bool) → AreBlocks blocks quads
    → HaveStatements (lines (joined_texts (map (λ qs. quad_document (filter chosen qs)) quads))) (filter chosen (joined quads))
