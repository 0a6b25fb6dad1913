use Rattle.std.proofs.Common.{Ok, Err, subst}
use Rattle.sparql_lexer.specs.Terminal.{terminals}
use Rattle.sparql_tree.specs.GroupTree.{group_of}
use Rattle.sparql_parse.specs.Queries.{IsQuery, select_of}
use Rattle.sparql_read.specs.Checked.{IsChecked}
use Rattle.sparql_read.proofs.RejectionLaws.{Known, allowed_as, rejected}
use Rattle.sparql_read.proofs.reader.check_select.Goals as goal

pub returns-in_ok-mentioned-in-Ok : goal.returns-in_ok-mentioned-in-Ok
returns-in_ok-mentioned-in-Ok c =
    let ts = terminals c.args.tokens.now in
    let s = select_of c.args.select in
    let k : Known c.args.text.now ts s = record {
      one_scan = c.one_scan.ensures;
      one_query = c.one_query.ensures.unique;
      scans = c.requires.scans;
      shallow = c.requires.shallow;
      derived = subst (λ ns. IsQuery ns ts s) c.requires.names c.requires.parsed;
    } in
    record {
      read = allowed_as k (subst (λ es. IsChecked ts (group_of es) (Ok tt)) c.deref.ensures.value c.in-Ok.ensures.checked) _ c.in_ok-mentioned-in-Ok.ensures.value;
    }

pub returns-in-Err : goal.returns-in-Err
returns-in-Err c =
    let ts = terminals c.args.tokens.now in
    let s = select_of c.args.select in
    let k : Known c.args.text.now ts s = record {
      one_scan = c.one_scan.ensures;
      one_query = c.one_query.ensures.unique;
      scans = c.requires.scans;
      shallow = c.requires.shallow;
      derived = subst (λ ns. IsQuery ns ts s) c.requires.names c.requires.parsed;
    } in
    record {
      read = rejected k c.in-Err.fault (subst (λ es. IsChecked ts (group_of es) (Err c.in-Err.fault)) c.deref.ensures.value c.in-Err.ensures.checked);
    }
