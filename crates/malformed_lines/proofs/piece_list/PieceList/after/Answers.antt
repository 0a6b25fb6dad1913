use Rattle.std.proofs.Common.{[], length, map, ap, arith, refl, sym}
use Rattle.malformed_lines.specs.declared.piece_list.FoundLine.{FoundLine}
use Rattle.malformed_lines.proofs.MalformedLaws.{none_malformed}
use Rattle.malformed_lines.proofs.TallyLaws.{no_singles, no_tally}
use Rattle.malformed_lines.proofs.piece_list.PieceList.after.Goals as goal

pub returns-clause-listed : goal.returns-clause-listed
returns-clause-listed c = λ before quads h e. record {
  places = [];
  malformed = none_malformed 0 before quads h;
  shown = ap (map (λ (f : FoundLine). f.place)) c.new.ensures.items;
  found = λ k d l. absurd (omega (arith, l, ap length c.new.ensures.items));
  named = λ k d l. absurd (omega (arith, l, ap length c.new-2.ensures.empty));
  singles = [];
  one_each = no_singles 0 before;
  tally = no_tally _ c.new-2.ensures.empty;
  total = refl;
  count = sym e;
}
