-- The results of the functions that collect blank node labels in a group. Only private clauses use
-- these definitions.
use Rattle.std.specs.Prelude.{◌≡◌, ◌++◌, ◌∷◌, [], ℕ, List, Bool, true, false, flat_map, cond}
use Rattle.std.specs.List.{list_any}
use Rattle.sparql_tree.specs.declared.group.Triple.{Triple}
use Rattle.sparql_read.specs.NameSet.{HaveSame, is_among}
use Rattle.sparql_tree.specs.GroupTree.{ElementTree, triples, group, union, optional, minus, graph, filter, bind, values}
use Rattle.sparql_tree.specs.BlankReuse.{ends_run, labels_of, open_after, patterns_inside, shares_labels}

-- The labels before and after those of the patterns are added. The result is true if no label
-- occurs in two patterns.
abbrev pub AddsPatterns : List (List Triple) → Bool → List (List ℕ) → List (List ℕ) → Type 0
AddsPatterns ps true xs ys = (shares_labels xs ps ≡ false) × HaveSame ys (xs ++ flat_map labels_of ps)
AddsPatterns ps false xs ys = shares_labels xs ps ≡ true

-- one of the labels occurs in an earlier pattern
abbrev pub occurs_among : List (List ℕ) → List (List ℕ) → Bool
occurs_among before ls = list_any (λ l. is_among l before) ls

-- The labels of the open pattern before and after others are added. The result is true if none of
-- the others occurs in an earlier pattern.
abbrev pub AddsLabels : List (List ℕ) → List (List ℕ) → Bool → List (List ℕ) → List (List ℕ) → Type 0
AddsLabels before ls true xs ys = (occurs_among before ls ≡ false) × HaveSame ys (xs ++ ls)
AddsLabels before ls false xs ys = occurs_among before ls ≡ true

-- the triples with which an element continues the run before it
abbrev pub run_of : ElementTree → List Triple
run_of (triples ts) = ts
run_of _ = []

-- the patterns that an element closes, where us is the run before it
abbrev pub closed_by : List Triple → ElementTree → List (List Triple)
closed_by us e = cond (ends_run e) (us ∷ patterns_inside e) []

-- these are the labels of the run, and none of them occurs in an earlier pattern
pub record IsOpenRun (earlier labels : List (List ℕ)) (us : List Triple) : Type 0 where
  pub same : HaveSame labels (labels_of us)
  pub apart : occurs_among earlier (labels_of us) ≡ false

-- the labels of the earlier patterns and of the run, before and after an element
abbrev pub AddsElement : ElementTree → Bool → List (List ℕ) → List (List ℕ) → List (List ℕ) → List (List ℕ) → Type 0
AddsElement e true xs ls ys ms = (us : List Triple) → IsOpenRun xs ls us → AddsPatterns (closed_by us e) true xs ys × IsOpenRun ys ms (open_after us e)
AddsElement e false xs ls ys ms = (us : List Triple) → IsOpenRun xs ls us → shares_labels xs (closed_by us e ++ open_after us e ∷ []) ≡ true
