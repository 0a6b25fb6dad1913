-- The derived equality of reasons decides whether two reasons are the same.
use Rattle.std.specs.Prelude.{Bool, MatchBool, true, false}
use Rattle.std.proofs.Common.{◌≡◌, ◌≢◌, ap, rules, subst, sym, ◌∙◌, Decides}
use Rattle.std.proofs.lemmas.Bool.{and_parts}
use Rattle.std.proofs.lemmas.Bool.Decides.{not_from_Decides}
use Rattle.line_diagnosis.specs.declared.reason.Found.{Found}
use Rattle.line_diagnosis.specs.declared.reason.Next.{Next}
use Rattle.line_diagnosis.specs.declared.reason.Reason.{Reason}
use Rattle.line_diagnosis.specs.declared.reason.Reason.TheVariants.{InvalidUtf8, CutCharacter, ByteOrderMark, Utf16, Packed, LineBreak, Unexpected, QuotedTriple, NoScheme, IriChar, IriEscape, OpenIri, OpenLiteral, UnknownEscape, NoDigit, Surrogate, TooLarge, NoColon, LabelStart, LabelDot, NoTag, NoSubtag, OneCaret}
use Rattle.line_diagnosis.specs.declared.summary.Summary.{Summary}
use Rattle.line_diagnosis.specs.contracts.reason.FoundPartialEq.TheImpl as founds
use Rattle.line_diagnosis.specs.contracts.reason.NextPartialEq.TheImpl as nexts
use Rattle.line_diagnosis.specs.contracts.reason.ReasonEq.TheImpl.Laws.{laws-law}
use Rattle.line_diagnosis.specs.contracts.reason.ReasonPartialEq.TheImpl as reasons
use Rattle.line_diagnosis.specs.contracts.summary.SummaryPartialEq.TheImpl as summaries

abbrev next_eq : Next → Next → Bool
next_eq = (nexts.ghosts).eq

abbrev found_eq : Found → Found → Bool
found_eq = (founds.ghosts).eq

abbrev reason_eq : Reason → Reason → Bool
reason_eq = (reasons.ghosts).eq

abbrev summary_eq : Summary → Summary → Bool
summary_eq = (summaries.ghosts).eq

next_decides : (a b : Next) → Decides (next_eq a b) (a ≡ b)
next_decides a b = Prim.search rules

found_decides : (a b : Found) → Decides (found_eq a b) (a ≡ b)
found_decides a b = Prim.search rules

same_parts : (x z : Next) (y w : Found) → x ≡ z → y ≡ w → Unexpected x y ≡ Unexpected z w
same_parts x z y w e f = ap (λ (k : Next). Unexpected k y) e ∙ ap (Unexpected z) f

both_decide : (x z : Next) (y w : Found) → Decides (reason_eq (Unexpected x y) (Unexpected z w)) (Unexpected x y ≡ Unexpected z w)
both_decide x z y w = (
  (λ e. let p = and_parts (next_eq x z) (found_eq y w) e in same_parts x z y w ((next_decides x z).0 p.0) ((found_decides y w).0 p.1)),
  (λ e. subst (λ (b : Reason). reason_eq (Unexpected x y) b ≡ true) e (laws-law.refl (Unexpected x y))),
)

reason_decides : (a b : Reason) → Decides (reason_eq a b) (a ≡ b)
reason_decides (InvalidUtf8 x) b = Prim.search rules
reason_decides CutCharacter b = Prim.search rules
reason_decides ByteOrderMark b = Prim.search rules
reason_decides Utf16 b = Prim.search rules
reason_decides (Packed x) b = Prim.search rules
reason_decides LineBreak b = Prim.search rules
reason_decides (Unexpected x y) (InvalidUtf8 z) = Prim.search rules
reason_decides (Unexpected x y) CutCharacter = Prim.search rules
reason_decides (Unexpected x y) ByteOrderMark = Prim.search rules
reason_decides (Unexpected x y) Utf16 = Prim.search rules
reason_decides (Unexpected x y) (Packed z) = Prim.search rules
reason_decides (Unexpected x y) LineBreak = Prim.search rules
reason_decides (Unexpected x y) (Unexpected z w) = both_decide x z y w
reason_decides (Unexpected x y) QuotedTriple = Prim.search rules
reason_decides (Unexpected x y) (NoScheme z) = Prim.search rules
reason_decides (Unexpected x y) (IriChar z) = Prim.search rules
reason_decides (Unexpected x y) IriEscape = Prim.search rules
reason_decides (Unexpected x y) OpenIri = Prim.search rules
reason_decides (Unexpected x y) OpenLiteral = Prim.search rules
reason_decides (Unexpected x y) (UnknownEscape z) = Prim.search rules
reason_decides (Unexpected x y) (NoDigit z) = Prim.search rules
reason_decides (Unexpected x y) Surrogate = Prim.search rules
reason_decides (Unexpected x y) TooLarge = Prim.search rules
reason_decides (Unexpected x y) (NoColon z) = Prim.search rules
reason_decides (Unexpected x y) (LabelStart z) = Prim.search rules
reason_decides (Unexpected x y) LabelDot = Prim.search rules
reason_decides (Unexpected x y) (NoTag z) = Prim.search rules
reason_decides (Unexpected x y) (NoSubtag z) = Prim.search rules
reason_decides (Unexpected x y) (OneCaret z) = Prim.search rules
reason_decides QuotedTriple b = Prim.search rules
reason_decides (NoScheme x) b = Prim.search rules
reason_decides (IriChar x) b = Prim.search rules
reason_decides IriEscape b = Prim.search rules
reason_decides OpenIri b = Prim.search rules
reason_decides OpenLiteral b = Prim.search rules
reason_decides (UnknownEscape x) b = Prim.search rules
reason_decides (NoDigit x) b = Prim.search rules
reason_decides Surrogate b = Prim.search rules
reason_decides TooLarge b = Prim.search rules
reason_decides (NoColon x) b = Prim.search rules
reason_decides (LabelStart x) b = Prim.search rules
reason_decides LabelDot b = Prim.search rules
reason_decides (NoTag x) b = Prim.search rules
reason_decides (NoSubtag x) b = Prim.search rules
reason_decides (OneCaret x) b = Prim.search rules

abbrev summary_of : Reason → Summary
summary_of r = record { reason = r }

-- what a comparison of two summaries returns
pub same_value : (r : Bool) (a b : Summary) → r ≡ summary_eq a b → MatchBool r (a ≡ b) (a ≢ b)
same_value true a b e = ap summary_of ((reason_decides a.reason b.reason).0 (sym e))
same_value false a b e = λ s. not_from_Decides (reason_eq a.reason b.reason) (reason_decides a.reason b.reason) (sym e) (ap (λ (x : Summary). x.reason) s)
