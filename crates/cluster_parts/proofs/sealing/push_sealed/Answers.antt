use Rattle.std.proofs.Common.{◌++◌, length, ap, ◌∙◌}
use Rattle.rdf_core.proofs.AppendSteps.{four}
use Rattle.cluster_parts.specs.Hash.{hash, number_bytes}
use Rattle.cluster_parts.specs.Seal.{seal_head}
use Rattle.cluster_parts.proofs.sealing.push_sealed.Goals as goal

pub returns : goal.returns
unfolding seal_head
returns c = record {
  appended = four c.args.out.now.items _ _ _ _ seal_head (number_bytes (length c.args.text.now)) (number_bytes (hash c.args.text.now)) c.args.text.now
      c.in_ok-extend_from_slice.ensures.items c.in_ok-push_number.ensures.appended
      (c.in_ok-push_number-2.ensures.appended ∙ ap (λ h. c.push_number.new.out.items ++ number_bytes h) c.hash_of.ensures.value)
      c.in_ok-extend_from_slice-2.ensures.items;
}
