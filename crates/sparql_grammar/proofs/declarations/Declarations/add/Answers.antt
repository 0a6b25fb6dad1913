use Rattle.std.proofs.Common.{◌++◌, ◌∷◌, [], ap, ◌∙◌, arith}
use Rattle.sparql_grammar.proofs.PlaceLaws.{places_more}
use Rattle.sparql_grammar.proofs.declarations.Declarations.add.Goals as goal

pub invariant_of-self-2 : goal.invariant_of-self-2
invariant_of-self-2 c =
    let declaration = c.args.declaration in
    places_more c.self.inside.list.items c.push.new.self.items declaration c.self.inside.places c.insert.new.self c.in_ok-prefix.prefix c.len.result
    (c.in_ok-push.ensures.items ∙ ap (λ ds. ds ++ declaration ∷ []) c.in_ok-reserve.ensures.items)
    (c.in_ok-prefix.ensures.ok ∙ c.as_str.ensures.value)
    (omega (arith, c.in_ok-reserve.ensures.len))
    c.in_ok-insert.ensures.updates c.self.invariant
