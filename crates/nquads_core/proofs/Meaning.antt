-- A line has at most one meaning.
use Rattle.std.proofs.Common.{◌≡◌, ◌≢◌, ℕ, ◌<◌, List, length, Option, None, Some, Result, Ok, Err, IfOk, slice_index, ◌≤◌, true, arith, refl, sym, ap, subst, ◌∙◌}
use Rattle.nquads_core.specs.declared.fault.LineFault.{LineFault}
use Rattle.nquads_core.specs.declared.fault.LineFault.TheVariants.{Bad, Memory}
use Rattle.std.specs.Str.{IsUtf8, chars}
use Rattle.std.proofs.lemmas.Option.{same_Some}
use Rattle.rdf_core.specs.QuadParts.{QuadParts}
use Rattle.nquads_core.specs.Grammar.{HasStatement, IsMalformed, Splits}
use Rattle.memchr.specs.Find.{is_byte2}
use Rattle.nquads_core.specs.Laws.{OneMeaning}
use Rattle.nquads_core.specs.LineParser.{Fails, Gives, line_at}
use Rattle.nquads_core.proofs.LineLaws.{line_sound, line_again}
use Rattle.rdf_core.proofs.EscapeLaws.{none_some}

pub read_again : (line : List ℕ) (q : Option QuadParts) → HasStatement line q → line_at (chars line) ≡ Some q
read_again line q s = line_again (chars line) s.terminals q s.splits s.derives

pub one_meaning : OneMeaning
one_meaning line q r s t = same_Some q r (sym (read_again line q s) ∙ read_again line r t)

abbrev pub OneLine : List ℕ → Type 0
OneLine line = (i : ℕ) → i < length line → (slice_index line i ≢ 10) × (slice_index line i ≢ 13)

pub read_statement : {X : Type 0} (view : X → Option QuadParts) (line text : List ℕ) (r : Result X LineFault) → text ≡ line → IsUtf8 line → OneLine line → Gives view r (line_at (chars text)) → IfOk r (λ x. HasStatement line (view x))
read_statement view line text (Ok x) e u o g =
    let s = line_sound (chars text) (view x) g in
    record { utf8 = u; one_line = o; terminals = s.terminals; splits = subst (λ (y : List ℕ). Splits (chars y) s.terminals) e s.splits; derives = s.derives }
read_statement view line text (Err e') e u o g = tt

same_fault : {X : Type 0} (r : Result X LineFault) (e f : LineFault) → r ≡ Err e → r ≡ Err f → e ≡ f
same_fault r e f h k = cc

pub fails_bad : {Y : Type 0} (e : LineFault) (read : Option Y) → e ≡ Bad → Fails e read → read ≡ None
fails_bad Bad read h f = f
fails_bad Memory read h f = absurd cc

gives_bad : {X Y : Type 0} (view : X → Y) (r : Result X LineFault) (read : Option Y) → r ≡ Err Bad → Gives view r read → read ≡ None
gives_bad view (Ok x) read h g = absurd cc
gives_bad view (Err e) read h g = fails_bad e read (same_fault (Err e) e Bad refl h) g

pub read_bad : {X : Type 0} (view : X → Option QuadParts) (line text : List ℕ) (r : Result X LineFault) → text ≡ line → Gives view r (line_at (chars text)) → r ≡ Err Bad → IsMalformed line
read_bad view line text r e g b = λ q s. none_some q (sym (gives_bad view r (line_at (chars text)) b g) ∙ ap (λ (y : List ℕ). line_at (chars y)) e ∙ read_again line q s)

pub none_ends : (line : List ℕ) → ((k : ℕ) → 0 ≤ k → k < length line → is_byte2 10 13 (slice_index line k) ≡ true → ⊥) → OneLine line
none_ends line h = λ i l. (λ e. h i (omega arith) l (rw e refl), λ e. h i (omega arith) l (rw e refl))
