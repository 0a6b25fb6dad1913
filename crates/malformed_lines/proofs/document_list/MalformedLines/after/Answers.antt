use Rattle.std.proofs.Common.{[], length, map, ap, arith, refl}
use Rattle.malformed_lines.specs.declared.document_list.MalformedLine.{MalformedLine}
use Rattle.malformed_lines.proofs.MalformedLaws.{none_malformed}
use Rattle.malformed_lines.proofs.TallyLaws.{no_singles, no_tally}
use Rattle.malformed_lines.proofs.document_list.MalformedLines.after.Goals as goal

pub returns-clause-listed : goal.returns-clause-listed
returns-clause-listed c = λ before quads h e. record {
  numbers = [];
  malformed = none_malformed 1 before quads h;
  shown = ap (map (λ (s : MalformedLine). s.number)) c.new.ensures.items;
  each = λ k d l. absurd (omega (arith, l, ap length c.new.ensures.items));
  named = λ k d l. absurd (omega (arith, l, ap length c.new-2.ensures.empty));
  singles = [];
  one_each = no_singles 1 before;
  tally = no_tally _ c.new-2.ensures.empty;
  total = refl;
  count = e;
}
