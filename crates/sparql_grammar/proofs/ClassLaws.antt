-- The kinds of a class, and the uniqueness of a terminal's value in it.
use Rattle.std.proofs.Common.{◌≡◌, ℕ, List, Option, Some, None, is_some, Bool, true, false, nat_eq, refl, sym, ap, ◌∙◌, subst, arith}
use Rattle.std.proofs.lemmas.Bool.Decides.{nat_tests}
use lib.Utf8.{encodes}
use Rattle.rdf_core.specs.declared.term.Term.TheVariants.{Literal}
use Rattle.sparql_lexer.specs.declared.token.Kind.{Kind}
use Rattle.sparql_lexer.specs.declared.token.Kind.TheVariants as kind
use Rattle.sparql_grammar.specs.Class.{Class, Picked, Picks, exactly, comparison, function, variable, blank, name, reference, string, language, number, boolean, count, comparison_of, function_of, number_type, boolean_of}
use Rattle.sparql_grammar.specs.Values.{Names}
use Rattle.sparql_grammar.proofs.KindLaws.{place, one_place}
use Rattle.sparql_grammar.proofs.FormLaws.{in_class, is}

nat_same : (n : ℕ) → nat_eq n n ≡ true
nat_same n = grind (arith, nat_tests)

some_is : {A : Type 0} (o : Option A) (v : A) → o ≡ Some v → is_some o ≡ true
some_is None v h = (cc)
some_is (Some x) v h = refl

none_some : {A : Type 0} {B : Type 0} {v : A} → None ≡ Some v → B
none_some h = absurd (cc)

number_in : {A B : Type 0} (f : A → B) {v : B} (o : Option A) → elim o [ None ↦ None | Some d ↦ Some (f d) ] ≡ Some v → is_some o ≡ true
number_in f None h = none_some h
number_in f (Some d) h = refl

pub picks_in : (ns : Names) (c : Class) (k : Kind) (x : List ℕ) (v : Picked c) → Picks ns c k x v → in_class c k ≡ true
picks_in ns (exactly l) k x v h = ap (λ k. nat_eq (place l) (place k)) h ∙ nat_same (place l)
picks_in ns comparison k x v h = some_is (comparison_of k) v h
picks_in ns function k x v h = some_is (function_of k) v h
picks_in ns variable kind.Variable x v h = refl
picks_in ns variable _ x v h = none_some h
picks_in ns blank kind.BlankLabel x v h = refl
picks_in ns blank _ x v h = none_some h
picks_in ns name kind.IriRef x v h = refl
picks_in ns name kind.PrefixedName x v h = refl
picks_in ns name kind.PrefixedNamespace x v h = refl
picks_in ns name _ x v h = none_some h
picks_in ns reference kind.IriRef x v h = refl
picks_in ns reference _ x v h = none_some h
picks_in ns string kind.ShortString x v h = refl
picks_in ns string kind.LongString x v h = refl
picks_in ns string _ x v h = none_some h
picks_in ns language kind.LanguageTag x v h = refl
picks_in ns language _ x v h = none_some h
picks_in ns number k x v h = number_in (λ d. Literal (encodes x) d None) (number_type k) h
picks_in ns boolean k x v h = some_is (boolean_of k) v h
picks_in ns count kind.Integer x v h = refl
picks_in ns count _ x v h = none_some h

same_some : {A : Type 0} {o : Option A} {v w : A} → o ≡ Some v → o ≡ Some w → v ≡ w
same_some h k = (cc)

one_unit : (a b : Unit {0}) → a ≡ b
one_unit a b = refl

pub one_value : (ns : Names) (c : Class) (k : Kind) (x : List ℕ) (v w : Picked c) → Picks ns c k x v → Picks ns c k x w → v ≡ w
one_value ns (exactly l) k x v w h i = one_unit v w
one_value ns comparison k x v w h i = same_some h i
one_value ns function k x v w h i = same_some h i
one_value ns variable k x v w h i = same_some h i
one_value ns blank k x v w h i = same_some h i
one_value ns name k x v w h i = same_some h i
one_value ns reference k x v w h i = same_some h i
one_value ns string k x v w h i = same_some h i
one_value ns language k x v w h i = same_some h i
one_value ns number k x v w h i = same_some h i
one_value ns boolean k x v w h i = same_some h i
one_value ns count k x v w h i = same_some h i

pub is_same : (k : Kind) → is k k ≡ true
is_same k = nat_same (place k)

same_nat : (m n : ℕ) → nat_eq m n ≡ true → m ≡ n
same_nat m n h = grind (arith, nat_tests)

pub is_kind : (k l : Kind) → is k l ≡ true → k ≡ l
is_kind k l h = one_place k l (same_nat (place k) (place l) h)
