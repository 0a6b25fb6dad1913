use Rattle.std.proofs.Common.{option_to_list}
use Rattle.dict_core.proofs.MergingSteps.{quad_numbered, terms_in_turn}
use Rattle.dict_core.proofs.local_piece.number_quad.Goals as goal

pub returns-clause-terms : goal.returns-clause-terms
returns-clause-terms c =
    terms_in_turn c.args.dict.now c.number_term-s.new.dict c.number_term-p.new.dict c.number_term-o.new.dict c.number_name-g.new.dict c.args.quad.s c.args.quad.p c.args.quad.o
    (option_to_list c.args.quad.g) (rw c.in_ok-s.was at c.number_term-s.ensures.terms) (rw c.in_ok-p.was at c.number_term-p.ensures.terms) (rw c.in_ok-o.was at c.number_term-o.ensures.terms)
    (rw c.in_ok-g.was at c.number_name-g.ensures.terms)

pub returns-clause-below : goal.returns-clause-below
returns-clause-below c =
    (quad_numbered _ _ _ _ _ _ _ _ _ (rw c.in_ok-s.was at c.number_term-s.ensures.number) (rw c.in_ok-p.was at c.number_term-p.ensures.terms) (rw c.in_ok-p.was at c.number_term-p.ensures.number)
    (rw c.in_ok-o.was at c.number_term-o.ensures.terms) (rw c.in_ok-o.was at c.number_term-o.ensures.number) _ _ _ (rw c.in_ok-g.was at c.number_name-g.ensures.terms) (rw c.in_ok-g.was at c.number_name-g.ensures.number)).0

pub returns-clause-quad : goal.returns-clause-quad
returns-clause-quad c =
    (quad_numbered _ _ _ _ _ _ _ _ _ (rw c.in_ok-s.was at c.number_term-s.ensures.number) (rw c.in_ok-p.was at c.number_term-p.ensures.terms) (rw c.in_ok-p.was at c.number_term-p.ensures.number)
    (rw c.in_ok-o.was at c.number_term-o.ensures.terms) (rw c.in_ok-o.was at c.number_term-o.ensures.number) _ _ _ (rw c.in_ok-g.was at c.number_name-g.ensures.terms) (rw c.in_ok-g.was at c.number_name-g.ensures.number)).1
