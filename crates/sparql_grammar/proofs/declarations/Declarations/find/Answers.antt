use Rattle.std.proofs.Common.{◌∙◌, refl, arith}
use Rattle.std.proofs.lemmas.Option.{slice_get_read}
use Rattle.sparql_grammar.proofs.declarations.Declarations.find.Goals as goal

pub returns-in_err-place : goal.returns-in_err-place
returns-in_err-place c =
    rw c.from_residual.ensures (record { declaration = rw (← c.self.view_is) (rw (← c.in_err-place.ensures.value) at (c.self.invariant c.args.prefix.now)) })

pub index-requires : goal.index-requires
index-requires c = omega (arith, (rw (← c.in_ok-place.ensures.value) at (c.self.invariant c.args.prefix.now)).0)

pub returns : goal.returns
returns c =
    let found = rw (← c.in_ok-place.ensures.value) at (c.self.invariant c.args.prefix.now) in
    record { declaration = rw (← c.self.view_is) (found.1 ∙ slice_get_read c.self.inside.list.items _ c.in_ok-place.place.now _ refl found.0 c.index.ensures) }
