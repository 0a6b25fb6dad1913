-- The result of the check of a derived query. Only private clauses use this definition.
use Rattle.std.specs.Prelude.{◌≡◌, List, true, false, Result, Ok, Err}
use Rattle.sparql_lexer.specs.Terminal.{Terminal}
use Rattle.sparql_tree.specs.GroupTree.{GroupTree}
use Rattle.sparql_read.specs.declared.fault.QueryFault.{QueryFault}
use Rattle.sparql_read.specs.declared.fault.QueryFault.TheVariants.{Syntax, UndefinedPrefix, RelativeIri, BindScope, BlankReuse, TooDeep, Memory}
use Rattle.sparql_grammar.specs.Prologue.{has_undefined_prefix}
use Rattle.sparql_read.specs.RelativeIri.{has_relative_iri}
use Rattle.sparql_read.specs.BindScope.{breaks_bind_scope}
use Rattle.sparql_tree.specs.BlankReuse.{reuses_blank}

-- the first rule that rejects the query of these terminals and this group, or none
abbrev pub IsChecked : List Terminal → GroupTree → Result (Unit {0}) QueryFault → Type 0
IsChecked ts g (Ok u) = (has_undefined_prefix ts ≡ false) × (has_relative_iri ts ≡ false) × (breaks_bind_scope g ≡ false) × (reuses_blank g ≡ false)
IsChecked ts g (Err UndefinedPrefix) = has_undefined_prefix ts ≡ true
IsChecked ts g (Err RelativeIri) = (has_undefined_prefix ts ≡ false) × (has_relative_iri ts ≡ true)
IsChecked ts g (Err BindScope) = (has_undefined_prefix ts ≡ false) × (has_relative_iri ts ≡ false) × (breaks_bind_scope g ≡ true)
IsChecked ts g (Err BlankReuse) = (has_undefined_prefix ts ≡ false) × (has_relative_iri ts ≡ false) × (breaks_bind_scope g ≡ false) × (reuses_blank g ≡ true)
IsChecked ts g (Err Syntax) = ⊥
IsChecked ts g (Err TooDeep) = ⊥
IsChecked ts g (Err Memory) = Unit {0}
