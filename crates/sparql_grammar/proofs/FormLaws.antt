-- The first terminals of a form, and the condition under which the next terminal decides each
-- choice.
use Rattle.std.proofs.Common.{◌≡◌, ℕ, suc, ◌<◌, ◌≤◌, List, [], ◌∷◌, Option, Some, None, is_some, Bool, true, false, if◌then◌else◌, nat_eq, nat_lt, refl, sym, ap, ◌∙◌, subst, arith}
use Rattle.sparql_lexer.specs.declared.token.Kind.{Kind}
use Rattle.sparql_lexer.specs.declared.token.Kind.TheVariants as kind
use Rattle.sparql_lexer.specs.declared.token.Keyword.TheVariants as word
use Rattle.sparql_lexer.specs.declared.token.Sign.TheVariants as sign
use Rattle.sparql_grammar.specs.Class.{Class, Picked, Picks, exactly, comparison, function, variable, blank, name, reference, string, language, number, boolean, count, comparison_of, function_of, number_type, boolean_of}
use Rattle.sparql_grammar.specs.Symbol.{Symbol, Value}
use Rattle.sparql_grammar.specs.Symbol as the
use Rattle.sparql_grammar.specs.Form.{Form, give, count_following, take, part, last, choice, when}
use Rattle.sparql_grammar.specs.Follow.{level, reach, is_call, is_verb, is_place}
use Rattle.sparql_grammar.proofs.KindLaws.{place, every}

abbrev pub is : Kind → Kind → Bool
is k l = nat_eq (place k) (place l)

abbrev pub either : Bool → Bool → Bool
either a b = if a then true else b

abbrev pub is_variable : Kind → Bool
is_variable = is kind.Variable

abbrev pub is_name : Kind → Bool
is_name k = either (is kind.IriRef k) (either (is kind.PrefixedName k) (is kind.PrefixedNamespace k))

abbrev pub in_class : Class → Kind → Bool
in_class (exactly k) l = is k l
in_class comparison l = is_some (comparison_of l)
in_class function l = is_some (function_of l)
in_class variable l = is_variable l
in_class blank l = is kind.BlankLabel l
in_class name l = is_name l
in_class reference l = is kind.IriRef l
in_class string l = either (is kind.ShortString l) (is kind.LongString l)
in_class language l = is kind.LanguageTag l
in_class number l = is_some (number_type l)
in_class boolean l = is_some (boolean_of l)
in_class count l = is kind.Integer l

abbrev pub is_sign : Kind → Kind → Bool
is_sign k l = is k l

abbrev pub is_term : Kind → Bool
is_term k = either (is_name k) (either (in_class number k) (either (in_class boolean k) (in_class string k)))

abbrev pub is_primary : Kind → Bool
is_primary k = either (is (kind.Sign sign.OpenParenthesis) k) (either (is_call k) (either (is_variable k) (is_term k)))

abbrev pub is_expression : Kind → Bool
is_expression k = either (is (kind.Sign sign.Not) k) (is_primary k)

abbrev pub is_simple : Kind → Bool
is_simple k = either (is (kind.Keyword word.Filter) k) (either (is (kind.Keyword word.Bind) k) (is (kind.Keyword word.Values) k))

abbrev pub is_other : Kind → Bool
is_other k = either (is (kind.Sign sign.OpenBrace) k) (either (is (kind.Keyword word.Optional) k) (either (is (kind.Keyword word.Minus) k)
    (either (is (kind.Keyword word.Graph) k) (is_simple k))))

abbrev pub is_cell : Kind → Bool
is_cell k = either (is (kind.Keyword word.Undef) k) (is_term k)

-- the terminals that a symbol may begin with
abbrev pub first : Symbol → Kind → Bool
first the.disjunction k = is_expression k
first (the.more_or e) k = is (kind.Sign sign.Or) k
first the.conjunction k = is_expression k
first (the.more_and e) k = is (kind.Sign sign.And) k
first the.relation k = is_expression k
first the.unary k = is_expression k
first the.primary k = is_primary k
first the.bracket k = is (kind.Sign sign.OpenParenthesis) k
first the.call k = is_call k
first the.bound k = is (kind.Sign sign.OpenParenthesis) k
first the.same_term k = is (kind.Sign sign.OpenParenthesis) k
first the.members k = is (kind.Sign sign.OpenParenthesis) k
first (the.more_members es) k = is_expression k
first the.term k = is_term k
first (the.literal v) k = either (in_class language k) (is (kind.Sign sign.Carets) k)
first the.pattern_term k = is_place k
first the.verb k = is_verb k
first (the.objects a b ts) k = is_place k
first (the.more_objects a b ts) k = is (kind.Sign sign.Comma) k
first (the.property a ts) k = is_verb k
first (the.after_semicolon a ts) k = either (is_verb k) (is (kind.Sign sign.Semicolon) k)
first (the.more_properties a ts) k = is (kind.Sign sign.Semicolon) k
first (the.same_subject ts) k = is_place k
first (the.triples ts) k = is_place k
first (the.after_subject ts) k = is (kind.Sign sign.Dot) k
first (the.more_triples ts) k = is_place k
first the.group k = is (kind.Sign sign.OpenBrace) k
first (the.body es) k = either (is_place k) (either (is_other k) (is (kind.Sign sign.CloseBrace) k))
first (the.others es) k = either (is_other k) (is (kind.Sign sign.CloseBrace) k)
first (the.after_other es) k = either (is (kind.Sign sign.Dot) k) (either (is_place k) (either (is_other k) (is (kind.Sign sign.CloseBrace) k)))
first the.other k = is_other k
first the.unions k = is (kind.Sign sign.OpenBrace) k
first the.simple k = is_simple k
first (the.more_union e) k = is (kind.Keyword word.Union) k
first the.named_graph k = either (is_variable k) (is_name k)
first the.graph_name k = either (is_variable k) (is_name k)
first the.condition k = either (is (kind.Sign sign.OpenParenthesis) k) (is_call k)
first the.binding k = is (kind.Sign sign.OpenParenthesis) k
first the.data_block k = either (is_variable k) (is (kind.Sign sign.OpenParenthesis) k)
first the.cell k = is_cell k
first (the.column v) k = is (kind.Sign sign.OpenBrace) k
first (the.more_column v rs) k = either (is (kind.Sign sign.CloseBrace) k) (is_cell k)
first the.heading k = is (kind.Sign sign.OpenParenthesis) k
first (the.more_heading vs) k = either (is (kind.Sign sign.CloseParenthesis) k) (is_variable k)
first (the.rows vs) k = is (kind.Sign sign.OpenBrace) k
first (the.more_rows vs rs) k = either (is (kind.Sign sign.CloseBrace) k) (is (kind.Sign sign.OpenParenthesis) k)
first the.row k = is (kind.Sign sign.OpenParenthesis) k
first (the.more_cells cs) k = either (is (kind.Sign sign.CloseParenthesis) k) (is_cell k)
first the.query k = either (is (kind.Keyword word.Prefix) k) (is (kind.Keyword word.Select) k)
first the.declared k = is kind.PrefixedNamespace k
first the.select_query k = is (kind.Keyword word.Select) k
first (the.select d) k = either (is (kind.Sign sign.Star) k) (is_variable k)
first (the.selected d vs) k = either (is_variable k) (either (is (kind.Keyword word.Where) k) (is (kind.Sign sign.OpenBrace) k))
first (the.pattern d vs) k = either (is (kind.Keyword word.Where) k) (is (kind.Sign sign.OpenBrace) k)
first (the.pattern_group d vs) k = is (kind.Sign sign.OpenBrace) k
first the.modifiers k = either (is (kind.Keyword word.Limit) k) (is (kind.Keyword word.Offset) k)
first (the.after_limit n) k = is (kind.Keyword word.Offset) k
first (the.after_offset n) k = is (kind.Keyword word.Limit) k

-- the symbols that derive the empty list, among others
abbrev pub nullable : Symbol → Bool
nullable (the.more_or e) = true
nullable (the.more_and e) = true
nullable (the.more_properties a ts) = true
nullable (the.after_semicolon a ts) = true
nullable (the.more_triples ts) = true
nullable (the.after_subject ts) = true
nullable (the.more_objects a b ts) = true
nullable (the.more_union e) = true
nullable (the.literal v) = true
nullable the.modifiers = true
nullable (the.after_limit n) = true
nullable (the.after_offset n) = true
nullable _ = false

abbrev pub begins : {A : Type 0} → Form A → Kind → Bool
begins (give v) k = false
begins (count_following g) k = false
begins (take c f) k = in_class c k
begins (part u f) k = first u k
begins (last u g) k = first u k
begins (choice l r) k = either (begins l k) (begins r k)
begins (when b f) k = begins f k

abbrev pub ends : {A : Type 0} → Form A → Bool
ends (give v) = true
ends (count_following g) = true
ends (take c f) = false
ends (part u f) = false
ends (last u g) = nullable u
ends (choice l r) = either (ends l) (ends r)
ends (when b f) = ends f

-- the condition on the level of the terminal after a symbol, before this form
abbrev pub above : Bool → ℕ → ℕ → Bool
above b m n = if b then nat_lt m n else true

abbrev pub follows : {A : Type 0} → ℕ → ℕ → Form A → Bool
follows m n form = if every (λ k. above (begins form k) m (level k)) then above (ends form) m (suc n) else false

-- two forms that the next terminal distinguishes
abbrev pub apart_by : Bool → Bool → Bool → Bool → ℕ → ℕ → Bool
apart_by true true ends_l ends_r m n = false
apart_by true false ends_l ends_r m n = above ends_r m (suc n)
apart_by false true ends_l ends_r m n = above ends_l m (suc n)
apart_by false false ends_l ends_r m n = true

abbrev pub apart : {A : Type 0} → ℕ → Form A → Form A → Bool
apart n l r = if every (λ k. apart_by (begins l k) (begins r k) (ends l) (ends r) (level k) n) then (if ends l then (if ends r then false else true) else true) else false

-- the next terminal decides each choice in a form, if the terminal after the form has a level above
-- n
abbrev pub Good : {A : Type 0} → ℕ → Form A → Type 0
Good n (give v) = Unit {0}
Good n (count_following g) = Unit {0}
Good n (take c f) = (p : Picked c) → Good n (f p)
Good n (part u f) = (nullable u ≡ false) × ((a : Value u) → (follows (reach u) n (f a) ≡ true) × Good n (f a))
Good n (last u g) = nat_lt (reach u) (suc n) ≡ true
Good n (choice l r) = Good n l × Good n r × (apart n l r ≡ true)
Good n (when b f) = Good n f
