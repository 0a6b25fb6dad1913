-- The productions (SPARQL 1.1 Query Language, section 19.8), without the parts that this reader
-- leaves out. The standard's production is above each right side, with its number and name. It
-- lists only the alternatives that the reader has. [140] PNAME_NS, [139] IRIREF,
-- [142] BLANK_NODE_LABEL, [145] LANGTAG, [146] INTEGER, [163] ANON, [130] NumericLiteral,
-- [134] BooleanLiteral, [135] String, [136] iri, [137] PrefixedName and [108] Var are terminals or classes
-- of terminals (Class.antt).
use Rattle.std.specs.Prelude.{◌≡◌, ℕ, List, [], ◌∷◌, ◌++◌, Bool, true, false, Option, Some, None, length, ◌==◌, map}
use Rattle.rdf_core.specs.Vocabulary.{xsd_string, rdf_lang_string, rdf_type}
use Rattle.rdf_core.specs.declared.term.Term.{Term}
use Rattle.rdf_core.specs.declared.term.Term.TheVariants as rdf
use Rattle.sparql_lexer.specs.declared.token.Kind.TheVariants as kind
use Rattle.sparql_lexer.specs.declared.token.Keyword.TheVariants as w
use Rattle.sparql_lexer.specs.declared.token.Sign.TheVariants as s
use Rattle.sparql_tree.specs.declared.group.VarOrIri.TheVariants as graph_name
use Rattle.sparql_tree.specs.declared.group.VarOrTerm.{VarOrTerm}
use Rattle.sparql_tree.specs.declared.group.VarOrTerm.TheVariants as place
use Rattle.sparql_tree.specs.declared.group.Triple.{Triple}
use Rattle.sparql_tree.specs.ExpressionTree as x
use Rattle.sparql_tree.specs.GroupTree as g
use Rattle.sparql_grammar.specs.Class.{exactly, comparison, function, variable, blank, name, reference, string, language, number, boolean, count}
use Rattle.sparql_grammar.specs.Values.{anonymous_label, is_distinct}
use Rattle.sparql_grammar.specs.Symbol.{Symbol, Value, Select}
use Rattle.sparql_grammar.specs.Symbol as the
use Rattle.sparql_grammar.specs.Form.{Form, give, count_following, take, part, last, choice, when, this, sign, word}

-- the triples before, and one more
abbrev pub and_triple : List Triple → VarOrTerm → VarOrTerm → VarOrTerm → List Triple
and_triple ts a b c = ts ++ record { subject = a; predicate = b; object = c } ∷ []

-- a literal without a language tag, and one with a tag
abbrev pub plain : List ℕ → List ℕ → Term
plain lexical datatype = rdf.Literal lexical datatype None

-- a literal with a language tag
abbrev pub tagged : List ℕ → List ℕ → Term
tagged lexical tag = rdf.Literal lexical rdf_lang_string (Some tag)

-- the right side of the production of a symbol
abbrev pub right_side : (s : Symbol) → Form (Value s)
-- [111] ConditionalOrExpression ::= ConditionalAndExpression ('||' ConditionalAndExpression)*
right_side the.disjunction = part the.conjunction (λ a. last (the.more_or a) (λ e. e))
right_side (the.more_or a) = choice
    (sign s.Or (part the.conjunction (λ b. last (the.more_or (x.either a b)) (λ e. e))))
    (give a)
-- [112] ConditionalAndExpression ::= ValueLogical ('&&' ValueLogical)*
-- [113] ValueLogical ::= RelationalExpression
right_side the.conjunction = part the.relation (λ a. last (the.more_and a) (λ e. e))
right_side (the.more_and a) = choice
    (sign s.And (part the.relation (λ b. last (the.more_and (x.both a b)) (λ e. e))))
    (give a)
-- [114] RelationalExpression ::= UnaryExpression
--     (('=' | '!=' | '<' | '>' | '<=' | '>=') UnaryExpression | 'NOT'? 'IN' ExpressionList)?
right_side the.relation = part the.unary (λ a. choice
    (take comparison (λ op. last the.unary (λ b. x.comparison op a b)))
    (choice (word w.In (last the.members (λ es. x.member a es)))
    (choice (word w.Not (word w.In (last the.members (λ es. x.negation (x.member a es)))))
    (give a))))
-- [118] UnaryExpression ::= '!' PrimaryExpression | PrimaryExpression
right_side the.unary = choice
    (sign s.Not (last the.primary (λ a. x.negation a)))
    (last the.primary (λ a. a))
-- [119] PrimaryExpression ::= BrackettedExpression | BuiltInCall | Var
--     | iri | RDFLiteral | NumericLiteral | BooleanLiteral
right_side the.primary = choice (last the.bracket (λ e. e))
    (choice (last the.call (λ e. e))
    (choice (take variable (λ v. give (x.variable v)))
    (last the.term (λ t. x.constant t))))
-- [120] BrackettedExpression ::= '(' Expression ')'
-- [110] Expression ::= ConditionalOrExpression
right_side the.bracket = sign s.OpenParenthesis (part the.disjunction (λ e. sign s.CloseParenthesis (give e)))
-- [121] BuiltInCall ::=
--     ('STR' | 'LANG' | 'DATATYPE' | 'isIRI' | 'isBLANK' | 'isLITERAL') '(' Expression ')'
--     | 'BOUND' '(' Var ')' | 'sameTerm' '(' Expression ',' Expression ')'
right_side the.call = choice
    (take function (λ f. last the.bracket (λ e. x.call f e)))
    (choice (word w.Bound (last the.bound (λ e. e)))
    (word w.SameTerm (last the.same_term (λ e. e))))
right_side the.bound = sign s.OpenParenthesis (take variable (λ v. sign s.CloseParenthesis (give (x.bound v))))
right_side the.same_term = sign s.OpenParenthesis (part the.disjunction (λ a.
    sign s.Comma (part the.disjunction (λ b. sign s.CloseParenthesis (give (x.same_term a b))))))
-- [72] ExpressionList ::= '(' (Expression (',' Expression)*)? ')'
right_side the.members = sign s.OpenParenthesis (choice
    (sign s.CloseParenthesis (give x.none))
    (last (the.more_members x.none) (λ es. es)))
right_side (the.more_members es) = part the.disjunction (λ e. choice
    (sign s.Comma (last (the.more_members (x.then es e)) (λ es. es)))
    (sign s.CloseParenthesis (give (x.then es e))))
-- the constant terms: iri | NumericLiteral | BooleanLiteral | RDFLiteral
-- [129] RDFLiteral ::= String (LANGTAG | '^^' iri)?
right_side the.term = choice (take name (λ i. give (rdf.Iri i)))
    (choice (take number (λ t. give t))
    (choice (take boolean (λ t. give t))
    (take string (λ v. last (the.literal v) (λ t. t)))))
right_side (the.literal v) = choice (take language (λ l. give (tagged v l)))
    (choice (sign s.Carets (take name (λ i. give (plain v i))))
    (give (plain v xsd_string)))
-- [106] VarOrTerm ::= Var | GraphTerm
-- [109] GraphTerm ::= iri | RDFLiteral | NumericLiteral | BooleanLiteral | BlankNode
-- [138] BlankNode ::= BLANK_NODE_LABEL | ANON
-- An ANON is a label that occurs nowhere else. `;` and `,` repeat it as they repeat any subject.
right_side the.pattern_term = choice (take variable (λ v. give (place.Variable v)))
    (choice (take blank (λ b. give (place.Blank b)))
    (choice (this kind.Anonymous (count_following (λ n. place.Blank (anonymous_label n))))
    (last the.term (λ t. place.Term t))))
-- [78] Verb ::= VarOrIri | 'a'
-- [107] VarOrIri ::= Var | iri
right_side the.verb = choice (take variable (λ v. give (place.Variable v)))
    (choice (take name (λ i. give (place.Term (rdf.Iri i))))
    (word w.A (give (place.Term (rdf.Iri rdf_type)))))
-- [79] ObjectList ::= Object (',' Object)*
-- [80] Object ::= GraphNode
-- [104] GraphNode ::= VarOrTerm
right_side (the.objects a b ts) = part the.pattern_term (λ c. last (the.more_objects a b (and_triple ts a b c)) (λ us. us))
right_side (the.more_objects a b ts) = choice (sign s.Comma (last (the.objects a b ts) (λ us. us))) (give ts)
-- [75] TriplesSameSubject ::= VarOrTerm PropertyListNotEmpty
-- [77] PropertyListNotEmpty ::= Verb ObjectList (';' (Verb ObjectList)?)*
right_side (the.property a ts) = part the.verb (λ b. last (the.objects a b ts) (λ us. us))
right_side (the.same_subject ts) = part the.pattern_term (λ a. part (the.property a ts) (λ us. last (the.more_properties a us) (λ vs. vs)))
right_side (the.more_properties a ts) = choice
    (sign s.Semicolon (last (the.after_semicolon a ts) (λ us. us)))
    (give ts)
right_side (the.after_semicolon a ts) = choice
    (part (the.property a ts) (λ us. last (the.more_properties a us) (λ vs. vs)))
    (last (the.more_properties a ts) (λ us. us))
-- [55] TriplesBlock ::= TriplesSameSubject ('.' TriplesBlock?)?
right_side (the.triples ts) = part (the.same_subject ts) (λ us. last (the.after_subject us) (λ vs. vs))
right_side (the.after_subject ts) = choice (sign s.Dot (last (the.more_triples ts) (λ us. us))) (give ts)
right_side (the.more_triples ts) = choice (last (the.triples ts) (λ us. us)) (give ts)
-- [53] GroupGraphPattern ::= '{' GroupGraphPatternSub '}'
-- [54] GroupGraphPatternSub ::= TriplesBlock? (GraphPatternNotTriples '.'? TriplesBlock?)*
right_side the.group = sign s.OpenBrace (last (the.body g.none) (λ es. es))
right_side (the.body es) = choice
    (part (the.triples []) (λ ts. last (the.others (g.then es (g.triples ts))) (λ fs. fs)))
    (last (the.others es) (λ fs. fs))
right_side (the.others es) = choice
    (sign s.CloseBrace (give es))
    (part the.other (λ e. last (the.after_other (g.then es e)) (λ fs. fs)))
right_side (the.after_other es) = choice
    (sign s.Dot (last (the.body es) (λ fs. fs)))
    (last (the.body es) (λ fs. fs))
-- [56] GraphPatternNotTriples ::= GroupOrUnionGraphPattern | OptionalGraphPattern | MinusGraphPattern
--     | GraphGraphPattern | Filter | Bind | InlineData
-- [67] GroupOrUnionGraphPattern ::= GroupGraphPattern ('UNION' GroupGraphPattern)*
-- [57] OptionalGraphPattern ::= 'OPTIONAL' GroupGraphPattern
-- [66] MinusGraphPattern ::= 'MINUS' GroupGraphPattern
-- [58] GraphGraphPattern ::= 'GRAPH' VarOrIri GroupGraphPattern
-- [68] Filter ::= 'FILTER' Constraint
-- [69] Constraint ::= BrackettedExpression | BuiltInCall
-- [60] Bind ::= 'BIND' '(' Expression 'AS' Var ')'
-- [61] InlineData ::= 'VALUES' DataBlock
right_side the.other = choice (last the.unions (λ e. e))
    (choice (word w.Optional (last the.group (λ es. g.optional es)))
    (choice (word w.Minus (last the.group (λ es. g.minus es)))
    (choice (word w.Graph (last the.named_graph (λ e. e)))
    (last the.simple (λ e. e)))))
right_side the.simple = choice (word w.Filter (last the.condition (λ e. g.filter e)))
    (choice (word w.Bind (last the.binding (λ e. e)))
    (word w.Values (last the.data_block (λ e. e))))
right_side the.unions = part the.group (λ es. last (the.more_union (g.group es)) (λ e. e))
right_side (the.more_union e) = choice
    (word w.Union (part the.group (λ es. last (the.more_union (g.union e es)) (λ f. f))))
    (give e)
right_side the.named_graph = part the.graph_name (λ n. last the.group (λ es. g.graph n es))
right_side the.graph_name = choice
    (take variable (λ v. give (graph_name.Variable v)))
    (take name (λ i. give (graph_name.Iri i)))
right_side the.condition = choice (last the.bracket (λ e. e)) (last the.call (λ e. e))
right_side the.binding = sign s.OpenParenthesis (part the.disjunction (λ e.
    word w.As (take variable (λ v. sign s.CloseParenthesis (give (g.bind e v))))))
-- [62] DataBlock ::= InlineDataOneVar | InlineDataFull
-- [63] InlineDataOneVar ::= Var '{' DataBlockValue* '}'
-- [64] InlineDataFull ::= '(' Var* ')' '{' ('(' DataBlockValue* ')')* '}'
-- No variable occurs twice in the list, and each row is as long as the list.
right_side the.data_block = choice
    (take variable (λ v. last (the.column v) (λ e. e)))
    (part the.heading (λ vs. when (is_distinct vs) (last (the.rows vs) (λ e. e))))
right_side (the.column v) = sign s.OpenBrace (last (the.more_column v []) (λ e. e))
right_side (the.more_column v rs) = choice
    (sign s.CloseBrace (give (g.values (v ∷ []) rs)))
    (part the.cell (λ c. last (the.more_column v (rs ++ (c ∷ []) ∷ [])) (λ e. e)))
right_side the.heading = sign s.OpenParenthesis (last (the.more_heading []) (λ vs. vs))
right_side (the.more_heading vs) = choice
    (sign s.CloseParenthesis (give vs))
    (take variable (λ v. last (the.more_heading (vs ++ v ∷ [])) (λ us. us)))
right_side (the.rows vs) = sign s.OpenBrace (last (the.more_rows vs []) (λ e. e))
right_side (the.more_rows vs rs) = choice
    (sign s.CloseBrace (give (g.values vs rs)))
    (part the.row (λ cs. when (length cs == length vs) (last (the.more_rows vs (rs ++ cs ∷ [])) (λ e. e))))
right_side the.row = sign s.OpenParenthesis (last (the.more_cells []) (λ cs. cs))
right_side (the.more_cells cs) = choice
    (sign s.CloseParenthesis (give cs))
    (part the.cell (λ c. last (the.more_cells (cs ++ c ∷ [])) (λ ds. ds)))
-- [65] DataBlockValue ::= iri | RDFLiteral | NumericLiteral | BooleanLiteral | 'UNDEF'
right_side the.cell = choice (word w.Undef (give None)) (last the.term (λ t. Some t))
-- [2] Query ::= Prologue SelectQuery
-- [4] Prologue ::= PrefixDecl*
-- [6] PrefixDecl ::= 'PREFIX' PNAME_NS IRIREF
-- [7] SelectQuery ::= SelectClause WhereClause SolutionModifier
-- [9] SelectClause ::= 'SELECT' 'DISTINCT'? (Var+ | '*')
-- [17] WhereClause ::= 'WHERE'? GroupGraphPattern
right_side the.query = choice (word w.Prefix (last the.declared (λ q. q))) (last the.select_query (λ q. q))
right_side the.declared = this kind.PrefixedNamespace (take reference (λ _. last the.query (λ q. q)))
right_side the.select_query = word w.Select (choice
    (word w.Distinct (last (the.select true) (λ q. q)))
    (last (the.select false) (λ q. q)))
right_side (the.select d) = choice
    (sign s.Star (last (the.pattern d None) (λ q. q)))
    (take variable (λ v. last (the.selected d (v ∷ [])) (λ q. q)))
right_side (the.selected d vs) = choice
    (take variable (λ v. last (the.selected d (vs ++ v ∷ [])) (λ q. q)))
    (last (the.pattern d (Some vs)) (λ q. q))
right_side (the.pattern d vs) = choice
    (word w.Where (last (the.pattern_group d vs) (λ q. q)))
    (last (the.pattern_group d vs) (λ q. q))
right_side (the.pattern_group d vs) = part the.group (λ es. last the.modifiers (λ m.
    record { distinct = d; selection = vs; group = es; limit = m.0; offset = m.1 }))
-- [18] SolutionModifier ::= LimitOffsetClauses?
-- [25] LimitOffsetClauses ::= LimitClause OffsetClause? | OffsetClause LimitClause?
-- [26] LimitClause ::= 'LIMIT' INTEGER
-- [27] OffsetClause ::= 'OFFSET' INTEGER
right_side the.modifiers = choice (word w.Limit (take count (λ n. last (the.after_limit n) (λ m. m))))
    (choice (word w.Offset (take count (λ n. last (the.after_offset n) (λ m. m))))
    (give (None, None)))
right_side (the.after_limit n) = choice (word w.Offset (take count (λ m. give (Some n, Some m)))) (give (Some n, None))
right_side (the.after_offset n) = choice (word w.Limit (take count (λ m. give (Some m, Some n)))) (give (None, Some n))
