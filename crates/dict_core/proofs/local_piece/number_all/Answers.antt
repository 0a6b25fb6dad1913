use Rattle.std.proofs.Common.{[], ◌∷◌, ◌++◌, sym, subst, refl, rules}
use Rattle.rdf_core.specs.QuadParts.{parts_of}
use Rattle.dict_core.specs.Numbered.{IsNumbered}
use Rattle.dict_core.proofs.NumberingLaws.{numbered-more}
use Rattle.dict_core.proofs.MergingSteps.{moved_one}
use Rattle.dict_core.proofs.local_piece.number_all.Goals as goal

pub loop-quad-preserved : goal.loop-quad-preserved
loop-quad-preserved c =
    let was = c.loop-quad.invariant.so_far in
    let done = was.0 ++ parts_of c.in-Some.quad ∷ [] in record {
      room = search rules;
      so_far = (
        done,
        subst (λ l. IsNumbered done c.number_quad.new.dict l) (sym c.push_reserved.ensures.items)
            (numbered-more was.0 _ _ _ _ _ was.1 c.in_ok-number_quad.ensures.terms c.in_ok-number_quad.ensures.below c.in_ok-number_quad.ensures.quad),
        moved_one parts_of was.0 done _ _ c.in-Some.quad _ _ refl refl c.in-Some.ensures.steps.0 was.2,
      );
    }
