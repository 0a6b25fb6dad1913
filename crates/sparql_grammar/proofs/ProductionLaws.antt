-- The next terminal decides each choice of the productions.
use Rattle.std.proofs.Common.{◌≡◌, ℕ, ◌<◌, ◌≤◌, List, [], ◌∷◌, Bool, true, false, if◌then◌else◌, nat_eq, nat_lt, refl, sym, ap, ◌∙◌, subst, arith}
use Rattle.sparql_lexer.specs.declared.token.Kind.{Kind}
use Rattle.sparql_grammar.specs.Symbol.{Symbol, Value}
use Rattle.sparql_grammar.specs.Symbol as the
use Rattle.sparql_grammar.specs.Form.{Form}
use Rattle.sparql_grammar.specs.Productions.{right_side}
use Rattle.sparql_grammar.specs.Follow.{reach}
use Rattle.sparql_grammar.proofs.KindLaws.{every, every_at}
use Rattle.sparql_grammar.proofs.FormLaws.{begins, ends, first, nullable, Good}

pub good : (u : Symbol) → Good (reach u) (right_side u)
good the.disjunction = (refl, λ _. (refl, refl))
good (the.more_or e) = ((λ _. (refl, λ _. (refl, refl))), tt, refl)
good the.conjunction = (refl, λ _. (refl, refl))
good (the.more_and e) = ((λ _. (refl, λ _. (refl, refl))), tt, refl)
good the.relation = (refl, λ _. (refl, ((λ _. refl), ((λ _. refl), ((λ _. (λ _. refl)), tt, refl), refl), refl)))
good the.unary = ((λ _. refl), refl, refl)
good the.primary = (refl, (refl, ((λ _. tt), refl, refl), refl), refl)
good the.bracket = (λ _. (refl, λ _. (refl, (λ _. tt))))
good the.call = ((λ _. refl), ((λ _. refl), (λ _. refl), refl), refl)
good the.bound = (λ _. (λ _. (λ _. tt)))
good the.same_term = (λ _. (refl, λ _. (refl, (λ _. (refl, λ _. (refl, (λ _. tt)))))))
good the.members = (λ _. ((λ _. tt), refl, refl))
good (the.more_members es) = (refl, λ _. (refl, ((λ _. refl), (λ _. tt), refl)))
good the.term = ((λ _. tt), ((λ _. tt), ((λ _. tt), (λ _. refl), refl), refl), refl)
good (the.literal v) = ((λ _. tt), ((λ _. (λ _. tt)), tt, refl), refl)
good the.pattern_term = ((λ _. tt), ((λ _. tt), ((λ _. tt), refl, refl), refl), refl)
good the.verb = ((λ _. tt), ((λ _. tt), (λ _. tt), refl), refl)
good (the.objects a b ts) = (refl, λ _. (refl, refl))
good (the.more_objects a b ts) = ((λ _. refl), tt, refl)
good (the.more_properties a ts) = ((λ _. refl), tt, refl)
good (the.same_subject ts) = (refl, λ _. (refl, (refl, λ _. (refl, refl))))
good (the.property a ts) = (refl, λ _. (refl, refl))
good (the.after_semicolon a ts) = ((refl, λ _. (refl, refl)), refl, refl)
good (the.triples ts) = (refl, λ _. (refl, refl))
good (the.after_subject ts) = ((λ _. refl), tt, refl)
good (the.more_triples ts) = (refl, tt, refl)
good the.group = (λ _. refl)
good (the.body es) = ((refl, λ _. (refl, refl)), refl, refl)
good (the.others es) = ((λ _. tt), (refl, λ _. (refl, refl)), refl)
good (the.after_other es) = ((λ _. refl), refl, refl)
good the.other = (refl, ((λ _. refl), ((λ _. refl), ((λ _. refl), refl, refl), refl), refl), refl)
good the.unions = (refl, λ _. (refl, refl))
good the.simple = ((λ _. refl), ((λ _. refl), (λ _. refl), refl), refl)
good the.named_graph = (refl, λ _. (refl, refl))
good (the.more_union e) = ((λ _. (refl, λ _. (refl, refl))), tt, refl)
good the.graph_name = ((λ _. tt), (λ _. tt), refl)
good the.condition = (refl, refl, refl)
good the.binding = (λ _. (refl, λ _. (refl, (λ _. (λ _. (λ _. tt))))))
good the.data_block = ((λ _. refl), (refl, λ _. (refl, refl)), refl)
good (the.column v) = (λ _. refl)
good (the.more_column v rs) = ((λ _. tt), (refl, λ _. (refl, refl)), refl)
good the.heading = (λ _. refl)
good (the.more_heading vs) = ((λ _. tt), (λ _. refl), refl)
good (the.rows vs) = (λ _. refl)
good (the.more_rows vs rs) = ((λ _. tt), (refl, λ _. (refl, refl)), refl)
good the.row = (λ _. refl)
good (the.more_cells cs) = ((λ _. tt), (refl, λ _. (refl, refl)), refl)
good the.cell = ((λ _. tt), refl, refl)
good the.query = ((λ _. refl), refl, refl)
good the.declared = (λ _. (λ _. refl))
good the.select_query = (λ _. ((λ _. refl), refl, refl))
good (the.select d) = ((λ _. refl), (λ _. refl), refl)
good (the.selected d vs) = ((λ _. refl), refl, refl)
good (the.pattern d vs) = ((λ _. refl), refl, refl)
good (the.pattern_group d vs) = (refl, λ _. (refl, refl))
good the.modifiers = ((λ _. (λ _. refl)), ((λ _. (λ _. refl)), tt, refl), refl)
good (the.after_limit n) = ((λ _. (λ _. tt)), tt, refl)
good (the.after_offset n) = ((λ _. (λ _. tt)), tt, refl)

abbrev pub implies : Bool → Bool → Bool
implies a b = if a then b else true

holds : (a b : Bool) → implies a b ≡ true → a ≡ true → b ≡ true
holds true b h e = h
holds false b h e = absurd (cc)

covers : (u : Symbol) → every (λ k. implies (begins (right_side u) k) (first u k)) ≡ true
covers the.disjunction = refl
covers (the.more_or e) = refl
covers the.conjunction = refl
covers (the.more_and e) = refl
covers the.relation = refl
covers the.unary = refl
covers the.primary = refl
covers the.bracket = refl
covers the.call = refl
covers the.bound = refl
covers the.same_term = refl
covers the.members = refl
covers (the.more_members es) = refl
covers the.term = refl
covers (the.literal v) = refl
covers the.pattern_term = refl
covers the.verb = refl
covers (the.objects a b ts) = refl
covers (the.more_objects a b ts) = refl
covers (the.more_properties a ts) = refl
covers (the.same_subject ts) = refl
covers (the.property a ts) = refl
covers (the.after_semicolon a ts) = refl
covers (the.triples ts) = refl
covers (the.after_subject ts) = refl
covers (the.more_triples ts) = refl
covers the.group = refl
covers (the.body es) = refl
covers (the.others es) = refl
covers (the.after_other es) = refl
covers the.other = refl
covers the.unions = refl
covers the.simple = refl
covers the.named_graph = refl
covers (the.more_union e) = refl
covers the.graph_name = refl
covers the.condition = refl
covers the.binding = refl
covers the.data_block = refl
covers (the.column v) = refl
covers (the.more_column v rs) = refl
covers the.heading = refl
covers (the.more_heading vs) = refl
covers (the.rows vs) = refl
covers (the.more_rows vs rs) = refl
covers the.row = refl
covers (the.more_cells cs) = refl
covers the.cell = refl
covers the.query = refl
covers the.declared = refl
covers the.select_query = refl
covers (the.select d) = refl
covers (the.selected d vs) = refl
covers (the.pattern d vs) = refl
covers (the.pattern_group d vs) = refl
covers the.modifiers = refl
covers (the.after_limit n) = refl
covers (the.after_offset n) = refl

pub first_right : (u : Symbol) (k : Kind) → begins (right_side u) k ≡ true → first u k ≡ true
first_right u k h = holds (begins (right_side u) k) (first u k) (every_at (λ k. implies (begins (right_side u) k) (first u k)) (covers u) k) h

ends_right : (u : Symbol) → ends (right_side u) ≡ nullable u
ends_right the.disjunction = refl
ends_right (the.more_or e) = refl
ends_right the.conjunction = refl
ends_right (the.more_and e) = refl
ends_right the.relation = refl
ends_right the.unary = refl
ends_right the.primary = refl
ends_right the.bracket = refl
ends_right the.call = refl
ends_right the.bound = refl
ends_right the.same_term = refl
ends_right the.members = refl
ends_right (the.more_members es) = refl
ends_right the.term = refl
ends_right (the.literal v) = refl
ends_right the.pattern_term = refl
ends_right the.verb = refl
ends_right (the.objects a b ts) = refl
ends_right (the.more_objects a b ts) = refl
ends_right (the.more_properties a ts) = refl
ends_right (the.same_subject ts) = refl
ends_right (the.property a ts) = refl
ends_right (the.after_semicolon a ts) = refl
ends_right (the.triples ts) = refl
ends_right (the.after_subject ts) = refl
ends_right (the.more_triples ts) = refl
ends_right the.group = refl
ends_right (the.body es) = refl
ends_right (the.others es) = refl
ends_right (the.after_other es) = refl
ends_right the.other = refl
ends_right the.unions = refl
ends_right the.simple = refl
ends_right the.named_graph = refl
ends_right (the.more_union e) = refl
ends_right the.graph_name = refl
ends_right the.condition = refl
ends_right the.binding = refl
ends_right the.data_block = refl
ends_right (the.column v) = refl
ends_right (the.more_column v rs) = refl
ends_right the.heading = refl
ends_right (the.more_heading vs) = refl
ends_right (the.rows vs) = refl
ends_right (the.more_rows vs rs) = refl
ends_right the.row = refl
ends_right (the.more_cells cs) = refl
ends_right the.cell = refl
ends_right the.query = refl
ends_right the.declared = refl
ends_right the.select_query = refl
ends_right (the.select d) = refl
ends_right (the.selected d vs) = refl
ends_right (the.pattern d vs) = refl
ends_right (the.pattern_group d vs) = refl
ends_right the.modifiers = refl
ends_right (the.after_limit n) = refl
ends_right (the.after_offset n) = refl

pub nullable_right : (u : Symbol) → ends (right_side u) ≡ true → nullable u ≡ true
nullable_right u h = sym (ends_right u) ∙ h
