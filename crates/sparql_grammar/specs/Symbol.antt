-- The symbols of the grammar, and the type of the value of each. A symbol that continues a list or
-- a chain has the part before it as an argument.
use Rattle.std.specs.Prelude.{ℕ, List, Bool, Option}
use Rattle.rdf_core.specs.declared.term.Term.{Term}
use Rattle.sparql_tree.specs.declared.group.VarOrIri.{VarOrIri}
use Rattle.sparql_tree.specs.declared.group.VarOrTerm.{VarOrTerm}
use Rattle.sparql_tree.specs.declared.group.Triple.{Triple}
use Rattle.sparql_tree.specs.ExpressionTree.{ExpressionTree, Expressions}
use Rattle.sparql_tree.specs.GroupTree.{GroupTree, ElementTree}

-- a query without the list of its variables
pub record Select : Type 0 where
  pub distinct : Bool
  pub selection : Option (List (List ℕ))
  pub group : GroupTree
  pub limit : Option ℕ
  pub offset : Option ℕ

-- the symbols, by the part of the grammar; Productions.antt has the standard's name and number of
-- each
pub data Symbol : Type 0 where
  -- expressions
  disjunction : Symbol
  more_or : ExpressionTree → Symbol
  conjunction : Symbol
  more_and : ExpressionTree → Symbol
  relation : Symbol
  unary : Symbol
  primary : Symbol
  bracket : Symbol
  call : Symbol
  bound : Symbol
  same_term : Symbol
  members : Symbol
  more_members : Expressions → Symbol
  -- terms
  term : Symbol
  literal : List ℕ → Symbol
  pattern_term : Symbol
  verb : Symbol
  -- triples
  objects : VarOrTerm → VarOrTerm → List Triple → Symbol
  more_objects : VarOrTerm → VarOrTerm → List Triple → Symbol
  property : VarOrTerm → List Triple → Symbol
  after_semicolon : VarOrTerm → List Triple → Symbol
  more_properties : VarOrTerm → List Triple → Symbol
  same_subject : List Triple → Symbol
  triples : List Triple → Symbol
  after_subject : List Triple → Symbol
  more_triples : List Triple → Symbol
  -- groups
  group : Symbol
  body : GroupTree → Symbol
  others : GroupTree → Symbol
  after_other : GroupTree → Symbol
  other : Symbol
  unions : Symbol
  simple : Symbol
  more_union : ElementTree → Symbol
  named_graph : Symbol
  graph_name : Symbol
  condition : Symbol
  binding : Symbol
  -- VALUES
  data_block : Symbol
  cell : Symbol
  column : List ℕ → Symbol
  more_column : List ℕ → List (List (Option Term)) → Symbol
  heading : Symbol
  more_heading : List (List ℕ) → Symbol
  rows : List (List ℕ) → Symbol
  more_rows : List (List ℕ) → List (List (Option Term)) → Symbol
  row : Symbol
  more_cells : List (Option Term) → Symbol
  -- the query
  query : Symbol
  declared : Symbol
  select_query : Symbol
  select : Bool → Symbol
  selected : Bool → List (List ℕ) → Symbol
  pattern : Bool → Option (List (List ℕ)) → Symbol
  pattern_group : Bool → Option (List (List ℕ)) → Symbol
  modifiers : Symbol
  after_limit : ℕ → Symbol
  after_offset : ℕ → Symbol

-- the type of the value of a text of the symbol
abbrev pub Value : Symbol → Type 0
Value disjunction = ExpressionTree
Value (more_or e) = ExpressionTree
Value conjunction = ExpressionTree
Value (more_and e) = ExpressionTree
Value relation = ExpressionTree
Value unary = ExpressionTree
Value primary = ExpressionTree
Value bracket = ExpressionTree
Value call = ExpressionTree
Value bound = ExpressionTree
Value same_term = ExpressionTree
Value members = Expressions
Value (more_members es) = Expressions
Value term = Term
Value (literal v) = Term
Value pattern_term = VarOrTerm
Value verb = VarOrTerm
Value (objects s v ts) = List Triple
Value (more_objects s v ts) = List Triple
Value (property s ts) = List Triple
Value (after_semicolon s ts) = List Triple
Value (more_properties s ts) = List Triple
Value (same_subject ts) = List Triple
Value (triples ts) = List Triple
Value (after_subject ts) = List Triple
Value (more_triples ts) = List Triple
Value group = GroupTree
Value (body es) = GroupTree
Value (others es) = GroupTree
Value (after_other es) = GroupTree
Value other = ElementTree
Value unions = ElementTree
Value simple = ElementTree
Value (more_union e) = ElementTree
Value named_graph = ElementTree
Value graph_name = VarOrIri
Value condition = ExpressionTree
Value binding = ElementTree
Value data_block = ElementTree
Value cell = Option Term
Value (column v) = ElementTree
Value (more_column v rs) = ElementTree
Value heading = List (List ℕ)
Value (more_heading vs) = List (List ℕ)
Value (rows vs) = ElementTree
Value (more_rows vs rs) = ElementTree
Value row = List (Option Term)
Value (more_cells cs) = List (Option Term)
Value query = Select
Value declared = Select
Value select_query = Select
Value (select d) = Select
Value (selected d xs) = Select
Value (pattern d xs) = Select
Value (pattern_group d xs) = Select
Value modifiers = Option ℕ × Option ℕ
Value (after_limit n) = Option ℕ × Option ℕ
Value (after_offset n) = Option ℕ × Option ℕ
