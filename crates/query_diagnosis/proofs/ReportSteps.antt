-- The line that a message shows is text.
use Rattle.std.proofs.Common.{◌≡◌, ℕ, zero, suc, List, [], ◌∷◌, drop, Bool, true, false, refl, ap, ◌∙◌, if◌then◌else◌}
use Rattle.std.specs.Str.{IsUtf8, all_scalars, chars}
use lib.Utf8.{encodes, scalar}
use Rattle.std.proofs.lemmas.Str.{chars-encodes, scalars-chars}
use Rattle.rdf_core.proofs.EscapeLaws.{and_is, and_parts}
use Rattle.sparql_lexer.specs.Characters.{is_line_end}
use Rattle.query_diagnosis.specs.Position.{before_line_end, line_of, line_start}

scalars_after : (n : ℕ) (cs : List ℕ) → all_scalars cs ≡ true → all_scalars (drop n cs) ≡ true
scalars_after zero cs h = h
scalars_after (suc n) [] h = h
scalars_after (suc n) (c ∷ cs) h = scalars_after n cs (and_parts (scalar c) (all_scalars cs) h).1

scalars_before : (cs : List ℕ) → all_scalars cs ≡ true → all_scalars (before_line_end cs) ≡ true
scalars_before [] h = h
scalars_before (c ∷ cs) h =
    let p = and_parts (scalar c) (all_scalars cs) h in
    elim (is_line_end c) as (λ b. all_scalars (if b then [] else c ∷ before_line_end cs) ≡ true) [
      | true ↦ refl
      | false ↦ and_is (scalar c) (all_scalars (before_line_end cs)) p.0 (scalars_before cs p.1)
    ]

pub line_text : (bytes line cs : List ℕ) (at : ℕ) → IsUtf8 bytes → cs ≡ chars bytes → line ≡ encodes (line_of cs at) → chars line ≡ line_of (chars bytes) at
line_text bytes line cs at u e l =
    let text : List ℕ = chars bytes in
    let scalars : all_scalars (line_of text at) ≡ true = scalars_before (drop (line_start text at) text) (scalars_after (line_start text at) text (scalars-chars bytes u)) in
    ap chars (l ∙ ap (λ (x : List ℕ). encodes (line_of x at)) e) ∙ chars-encodes (line_of text at) scalars
