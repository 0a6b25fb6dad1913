use Rattle.std.proofs.Common.{◌≡◌, drop}
use Rattle.sparql_grammar.specs.Values.{is_distinct}
use Rattle.sparql_parse.proofs.NameLaws.{is_fresh}
use Rattle.sparql_parse.proofs.data_block.is_distinct.Given as goal

abbrev pub invariant-loop-name : goal.invariant-loop-name
invariant-loop-name l = is_distinct l.names ≡ is_fresh l.seen.keys (drop l.name-index l.names)
