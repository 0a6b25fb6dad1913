use Rattle.cluster_parts.proofs.FaultSteps.{number_fits}
use Rattle.cluster_parts.proofs.NumberListSteps.{first_number}
use Rattle.cluster_parts.proofs.sealing.first_in_bytes.Goals as goal

pub returns-clause-parts : goal.returns-clause-parts
returns-clause-parts c =
    first_number c.args.count c.args.bytes.now c.split_at.result.0.now c.split_at.result.1.now c.requires.most (λ i. (c.type_inv.bytes i).fits)
    c.split_at.ensures.front c.split_at.ensures.back c.split_at.ensures.front_len c.read_uint.result c.read_uint.ensures

pub returns-clause-fits : goal.returns-clause-fits
returns-clause-fits c =
    number_fits c.args.count c.args.bytes.now c.split_at.result.0.now c.requires.most (λ i. (c.type_inv.bytes i).fits)
    c.split_at.ensures.front c.split_at.ensures.front_len c.read_uint.result c.read_uint.ensures
