use Rattle.std.proofs.Common.{sym, subst, ap}
use Rattle.sparql_lexer.specs.Scan.{Scans}
use Rattle.sparql_lexer.specs.Terminal.{terminals}
use Rattle.sparql_read.proofs.RejectionLaws.{empty_list, not_whole, some_list, too_deep}
use Rattle.sparql_read.proofs.reader.read_terminals.Goals as goal

pub returns-then-is_too_deep : goal.returns-then-is_too_deep
returns-then-is_too_deep c = record { read = too_deep c.args.text.now c.args.rest.now (terminals c.args.tokens.now) c.requires.scans (sym c.if-is_too_deep.ensures.value) }

pub read_whole-requires : goal.read_whole-requires
read_whole-requires c = record {
  scans = subst (Scans c.args.text.now (terminals c.args.tokens.now)) (empty_list c.args.rest.now c.if-is_empty.ensures) c.requires.scans;
  shallow = sym c.if-is_too_deep.ensures.value;
}

pub returns-else-is_empty : goal.returns-else-is_empty
returns-else-is_empty c = record { read = not_whole c.one_scan.ensures c.args.text.now c.args.rest.now (terminals c.args.tokens.now) c.requires.scans (sym c.if-is_too_deep.ensures.value) (some_list c.args.rest.now c.if-is_empty.ensures) }
