use Rattle.std.proofs.Common.{refl, sym, ap, inl, inr}
use Rattle.line_diagnosis.specs.declared.reason.Next.{Next}
use Rattle.line_diagnosis.specs.declared.reason.Reason.TheVariants.{Unexpected}
use Rattle.line_diagnosis.proofs.summary.unexpected.Goals as goal

pub returns-in-Some : goal.returns-in-Some
returns-in-Some c = record {
  same = (
    c.args.found,
    elim c.in-Some.ensures.before [
      | inl g ↦ inl (ap (λ (n : Next). Unexpected n c.args.found) (sym g))
      | inr d ↦ inr (d, refl)
    ],
  );
}
