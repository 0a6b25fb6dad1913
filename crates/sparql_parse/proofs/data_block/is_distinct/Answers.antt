use Rattle.std.proofs.Common.{◌∙◌, ◌+◌, ◌∷◌, sym, ap, drop}
use Rattle.std.proofs.lemmas.List.{drop_more}
use Rattle.sparql_parse.proofs.NameLaws.{fresh_first, fresh_more, is_fresh}
use Rattle.sparql_parse.proofs.data_block.is_distinct.Goals as goal

pub loop-name-init : goal.loop-name-init
loop-name-init c = fresh_first c.new-seen.result.keys c.args.names.now c.new-seen.ensures.empty

pub loop-name-preserved : goal.loop-name-preserved
loop-name-preserved c =
    let old = c.loop-name.seen.keys in
    let xs = c.args.names.now in
    let i = c.loop-name.name-index in
    let x = c.in_ok-copy.field-0 in
    c.loop-name.invariant
    ∙ (ap (is_fresh old) (drop_more xs i c.name-item.result c.loop-name-test.true ∙ ap (λ y. y ∷ drop (i + 1) xs) (sym (c.in_ok-copy.ensures.value ∙ c.name-item.is)))
    ∙ fresh_more old c.insert.new.self.keys x (drop (i + 1) xs) c.in_ok-insert.ensures.added c.if-not-branch.false c.in_ok-insert.ensures.updates.0)
