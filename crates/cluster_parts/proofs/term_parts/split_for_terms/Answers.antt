use Rattle.std.proofs.Common.{◌∙◌, ap}
use Rattle.cluster_parts.specs.Known.{lines_parts}
use Rattle.cluster_parts.specs.Output.{terms_parts}
use Rattle.cluster_parts.proofs.TermSteps.{parts_are}
use Rattle.cluster_parts.proofs.term_parts.split_for_terms.Goals as goal

pub returns-in-Ok-clause-parts : goal.returns-in-Ok-clause-parts
returns-in-Ok-clause-parts c =
    let read = c.in_ok-found.ensures.quads in (
      read.0,
      read.1,
      c.in-Ok.ensures.parts
          ∙ ap (λ n. lines_parts c.args.partitions n c.in_ok-found.found.texts.texts) c.in_ok-found.ensures.count
          ∙ parts_are c.args.partitions _ read.2.terms _ read.2.forms.forms
          ∙ ap (terms_parts c.args.partitions _) read.2.numbered.0,
    )
