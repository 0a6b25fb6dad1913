use Rattle.sparql_read.proofs.SetLaws.{found_is_among}
use Rattle.sparql_read.proofs.name_set.NameSet.has.Goals as goal

pub returns : goal.returns
returns c =
    let v = c.self.view_is in
    let f = found_is_among c.args.name.now c.self.inside.names.keys in
    let h = c.contains.ensures in
    record { value = cc }
