use Rattle.std.proofs.Common.{◌∙◌, Some, ap, codes, refl, sym}
use Rattle.clap.specs.Words.{found_of}
use Rattle.clap.proofs.WalkLemmas.{first_value-rows}
use Rattle.spq_command.proofs.command_line.select_of.Goals as goal

pub returns-in_default-clause-line : goal.returns-in_default-clause-line
returns-in_default-clause-line c =
    let found = found_of c.args.found.now in
    let none = c.in_default.ensures ∙ first_value-rows found (codes "query") in
    λ is query reading rows h. let bad = none ∙ h.text in cc

pub returns-clause-ok : goal.returns-clause-ok
returns-clause-ok c =
    let found = found_of c.args.found.now in (
      refl,
      record {
        text = sym (c.in-Some.ensures ∙ first_value-rows found (codes "query"))
            ∙ ap Some (sym (c.from_string-query.ensures.value ∙ c.in_ok-from_str.ensures.ok));
        how = c.in_ok-reading.ensures.ok;
        size = c.in_ok-rows.ensures.ok;
      },
    )
