use Rattle.std.proofs.Common.{[], Err, sym, subst}
use Rattle.sparql_lexer.specs.Terminal.{terminals}
use Rattle.sparql_parse.specs.Queries.{IsParsed, IsQuery}
use Rattle.sparql_read.proofs.RejectionLaws.{not_derived}
use Rattle.sparql_read.proofs.reader.read_whole.Goals as goal

pub returns-in-Err-Syntax : goal.returns-in-Err-Syntax
returns-in-Err-Syntax c =
    let ts = terminals c.args.tokens.now in
    let none = subst (λ e. IsParsed c.in_ok-names.names ts (Err e)) c.in-Err-Syntax.field-0-is c.in-Err-Syntax.ensures.query in
    record {
      read = not_derived c.one_scan.ensures c.args.text.now ts c.requires.scans c.requires.shallow
          (λ s m. none s (subst (λ ns. IsQuery ns ts s) (sym c.in_ok-names.ensures.value) m));
    }
