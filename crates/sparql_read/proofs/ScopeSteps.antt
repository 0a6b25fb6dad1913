-- The functions that collect the variables in scope.
use Rattle.std.proofs.Common.{◌≡◌, ◌+◌, ◌<◌, ℕ, List, [], ◌∷◌, ◌++◌, Bool, true, false, ◌||◌, Some, length, take, drop, map, get_or, refl, sym, ap, ◌∙◌, subst}
use Rattle.sparql_tree.specs.declared.group.Element.{Element}
use Rattle.sparql_tree.specs.declared.group.VarOrIri.{VarOrIri}
use Rattle.sparql_tree.specs.GroupTree.{GroupTree, ElementTree, then, onto, triples, group, union, optional, minus, graph, filter, bind, values, element_of, group_of}
use Rattle.sparql_tree.specs.Scope.{Name, element_names, graph_names}
use Rattle.sparql_read.specs.NameSet.{HaveSame}
use Rattle.sparql_read.specs.BindScope.{binds_among, breaks_bind_scope, breaks_inside}
use Rattle.sparql_read.specs.ScopeSteps.{AddsScope, IsScopeOf}
use Rattle.sparql_read.proofs.GroupLaws.{group_more, group_rest}
use Rattle.sparql_read.proofs.SetLaws.{same_back, same_front, same_then, same_trans, same_turned}

pub binds_same : {xs ys : List Name} → HaveSame xs ys → (e : ElementTree) → binds_among xs e ≡ binds_among ys e
binds_same h (bind e x) = h.each x
binds_same h (triples ts) = refl
binds_same h (group g) = refl
binds_same h (union e g) = refl
binds_same h (optional g) = refl
binds_same h (minus g) = refl
binds_same h (graph i g) = refl
binds_same h (filter e) = refl
binds_same h (values xs rows) = refl

fits : (a b c : Bool) → a ≡ false → b ≡ false → c ≡ false → (a || (b || c)) ≡ false
fits a b c e f g = rw (e, f, g) refl

second : (a b c : Bool) → b ≡ true → (a || (b || c)) ≡ true
second true b c f = refl
second false b c f = rw f refl

third : (a b c : Bool) → c ≡ true → (a || (b || c)) ≡ true
third true b c f = refl
third false true c f = refl
third false false c f = f

first : (a b : Bool) → a ≡ true → (a || b) ≡ true
first a b f = rw f refl

either_false : {a b : Bool} → a ≡ false → b ≡ false → (a || b) ≡ false
either_false e f = rw (e, f) refl

either_true : (a : Bool) {b : Bool} → b ≡ true → (a || b) ≡ true
either_true true f = refl
either_true false f = f

stays_broken : (g : GroupTree) (es : List ElementTree) → breaks_bind_scope g ≡ true → breaks_bind_scope (onto g es) ≡ true
stays_broken g [] h = h
stays_broken g (e ∷ es) h = stays_broken (then g e) es (first (breaks_bind_scope g) _ h)

-- a group breaks the rule if its first elements break it
broken : (es : List Element) (i : ℕ) → breaks_bind_scope (group_of (take i es)) ≡ true → breaks_bind_scope (group_of es) ≡ true
broken es i h = ap breaks_bind_scope (group_rest es i) ∙ stays_broken (group_of (take i es)) (map element_of (drop i es)) h

pub scope_more : (es : List Element) (i : ℕ) (e : Element) (xs ys : List Name) → i < length es → e ≡ get_or es i e
    → IsScopeOf (group_of (take i es)) (Some xs) → false ≡ binds_among xs (element_of e) → AddsScope (element_of e) true xs ys
    → IsScopeOf (group_of (take (i + 1) es)) (Some ys)
scope_more es i e xs ys below is h apart more =
    let g = group_of (take i es) in
    subst (λ g. IsScopeOf g (Some ys)) (sym (group_more es i e below is)) (
      fits (breaks_bind_scope g) _ (breaks_inside (element_of e)) h.0 (sym (binds_same h.1 (element_of e)) ∙ sym apart) more.0,
      same_trans more.1 (same_front (element_names false (element_of e)) h.1),
    )

pub scope_bound : (es : List Element) (i : ℕ) (e : Element) (xs : List Name) → i < length es → e ≡ get_or es i e
    → IsScopeOf (group_of (take i es)) (Some xs) → true ≡ binds_among xs (element_of e) → breaks_bind_scope (group_of es) ≡ true
scope_bound es i e xs below is h bound =
    broken es (i + 1) (ap breaks_bind_scope (group_more es i e below is) ∙ second (breaks_bind_scope (group_of (take i es))) _ (breaks_inside (element_of e)) (sym (binds_same h.1 (element_of e)) ∙ sym bound))

pub scope_broken : (es : List Element) (i : ℕ) (e : Element) → i < length es → e ≡ get_or es i e
    → breaks_inside (element_of e) ≡ true → breaks_bind_scope (group_of es) ≡ true
scope_broken es i e below is inside =
    broken es (i + 1) (ap breaks_bind_scope (group_more es i e below is) ∙ third (breaks_bind_scope (group_of (take i es))) _ (breaks_inside (element_of e)) inside)

-- the group after UNION adds its names, and then the left side of the UNION adds its names
pub scope_before : (b : Bool) (e : ElementTree) (g : GroupTree) (xs ys zs : List Name) → AddsScope (group g) true xs ys → AddsScope e b ys zs → AddsScope (union e g) b xs zs
scope_before true e g xs ys zs h k = (
  either_false k.0 h.0,
  same_trans (same_then xs (element_names false (group g)) (element_names false e) h.1 k.1) (same_back xs (same_turned (element_names false (group g)) (element_names false e))),
)
scope_before false e g xs ys zs h k = first (breaks_inside e) _ k

pub scope_after_broken : (e : ElementTree) (g : GroupTree) → breaks_bind_scope g ≡ true → breaks_inside (union e g) ≡ true
scope_after_broken e g h = either_true (breaks_inside e) h

pub scope_named : (b : Bool) (i : VarOrIri) (g : GroupTree) (xs ys zs : List Name) → HaveSame ys (xs ++ graph_names i) → AddsScope (group g) b ys zs → AddsScope (graph i g) b xs zs
scope_named true i g xs ys zs h k = (k.0, same_then xs (graph_names i) (element_names false (group g)) h k.1)
scope_named false i g xs ys zs h k = k

pub scope_joined : (g : GroupTree) (inner xs ys : List Name) → IsScopeOf g (Some inner) → HaveSame ys (xs ++ inner) → AddsScope (group g) true xs ys
scope_joined g inner xs ys h k = (h.0, same_trans k (same_back xs h.1))
