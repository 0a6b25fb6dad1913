use Rattle.std.proofs.lemmas.Result.{IfOk-weaker}
use Rattle.malformed_lines.proofs.WellFormedSteps.{named_quad, unnamed_quad}
use Rattle.malformed_lines.proofs.well_formed.denotes_quad.Goals as goal

pub returns-in-Some : goal.returns-in-Some
returns-in-Some c =
    let s = c.in_ok-denotes_node.ensures.node c.if-not-branch.false in
    let p = c.in_ok-denotes_iri.ensures.iri c.if-not-branch-2.false in
    let o = c.in_ok-denotes_term.ensures.term c.if-not-branch-3.false in
    record { quad = IfOk-weaker c.denotes_node-in-Some.result _ _ (λ is h e. named_quad c.args.raw.now s p o c.in-Some.name c.in-Some.is (h e)) c.denotes_node-in-Some.ensures.node }

pub returns-in-None : goal.returns-in-None
returns-in-None c =
    let s = c.in_ok-denotes_node.ensures.node c.if-not-branch.false in
    let p = c.in_ok-denotes_iri.ensures.iri c.if-not-branch-2.false in
    let o = c.in_ok-denotes_term.ensures.term c.if-not-branch-3.false in
    record { quad = λ e. unnamed_quad c.args.raw.now s p o c.in-None.is }
