-- The empty line.
use Rattle.std.proofs.Common.{ℕ, List, [], refl, inl, arith, rules, None, subst, sym}
use Rattle.std.proofs.lemmas.Str.{chars-nil}
use Rattle.nquads_core.specs.Grammar.{IsEnd}
use Rattle.line_diagnosis.specs.Place.{IsWellFormed}

empty_end : IsEnd []
empty_end = record { blanks = []; comment = []; parts = refl; all_blank = refl; hash = inl refl }

pub empty_line : IsWellFormed []
empty_line = record {
  meaning = None;
  statement = record {
    utf8 = search rules;
    one_line = λ i h. absurd (omega arith);
    terminals = [];
    splits = subst (λ (cs : List ℕ). IsEnd cs) (sym chars-nil) empty_end;
    derives = refl;
  };
}
