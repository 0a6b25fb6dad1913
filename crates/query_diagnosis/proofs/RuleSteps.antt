-- The rule that rejects a text rejects its terminals.
use Rattle.std.proofs.Common.{◌≡◌, ℕ, ◌+◌, ◌<◌, ◌≤◌, List, [], min, length, take, refl, sym, ap, subst, ◌∙◌, arith, Bool, true, inl, inr}
use Rattle.std.proofs.lemmas.Bool.{cases_lt}
use Rattle.std.proofs.lemmas.List.{length-map, take-map, take_all}
use Rattle.sparql_lexer.specs.Scan.{Scans}
use Rattle.sparql_lexer.specs.declared.token.Token.{Token}
use Rattle.sparql_lexer.specs.Terminal.{Terminal, terminal_of, terminals}
use Rattle.sparql_read.specs.declared.fault.QueryFault.{QueryFault}
use Rattle.sparql_read.specs.declared.fault.QueryFault.TheVariants.{Syntax, UndefinedPrefix, RelativeIri, BindScope, BlankReuse, TooDeep, Memory}
use Rattle.sparql_read.specs.Depth.{is_too_deep}
use Rattle.sparql_grammar.specs.Prologue.{declarations, has_undefined_prefix, lacks_declaration}
use Rattle.sparql_read.specs.Rejection.{Applies}
use Rattle.sparql_read.specs.RelativeIri.{has_relative_iri}
use Rattle.query_diagnosis.specs.Place.{IsFirst, IsPlace, IsRejectedAt, Rejects}
use Rattle.query_diagnosis.specs.QueryPrefix.{IsQueryPrefix}
use Rattle.query_diagnosis.specs.TerminalPlace.{IsTerminalPlace}

-- a text has at most one list of terminals
abbrev pub OneScan : Type 0
OneScan = (text end end' : List ℕ) (ts ts' : List Terminal) → Scans text ts end → Scans text ts' end' → (ts ≡ ts') × (end ≡ end')

pub rejects : OneScan → (text end : List ℕ) (ts : List Terminal) (fault : QueryFault) → Scans text ts end → Applies fault text → Rejects fault ts
rejects one text end ts Syntax d a = tt
rejects one text end ts UndefinedPrefix d a = ap has_undefined_prefix (one text end [] ts a.derives.terminals d a.derives.scans).0 ∙ a.holds
rejects one text end ts RelativeIri d a = ap has_relative_iri (one text end [] ts a.derives.terminals d a.derives.scans).0 ∙ a.holds
rejects one text end ts BindScope d a = tt
rejects one text end ts BlankReuse d a = tt
rejects one text end ts TooDeep d a = ap is_too_deep (one text end a.end ts a.terminals d a.scans).0 ∙ a.deep
rejects one text end ts Memory d a = tt

-- a place after the last terminal counts as that of the end
first_within : {test : List Terminal → Bool} {ts : List Terminal} {n : ℕ} → IsFirst test ts n → IsFirst test ts (min n (length ts))
first_within {test} {ts} {n} h = let l = h.in_text in let e : n ≡ min n (length ts) = omega (arith, l) in subst (λ (m : ℕ). IsFirst test ts m) e h

taken_within : (ts : List Terminal) (n : ℕ) → take n ts ≡ take (min n (length ts)) ts
taken_within ts n = elim (cases_lt n (length ts)) as (λ _. take n ts ≡ take (min n (length ts)) ts) [
  | inl l ↦ let e : n ≡ min n (length ts) = omega (arith, l) in ap (λ (m : ℕ). take m ts) e
  | inr m ↦ take_all n ts m ∙ sym (take_all (min n (length ts)) ts (omega (arith, m)))
]

within : (fault : QueryFault) (ts : List Terminal) (n : ℕ) → IsRejectedAt fault ts n → IsRejectedAt fault ts (min n (length ts))
within Syntax ts n h = subst (λ (us : List Terminal). IsQueryPrefix us) (taken_within ts n) h
within UndefinedPrefix ts n h = first_within h
within RelativeIri ts n h = first_within h
within BindScope ts n h = tt
within BlankReuse ts n h = tt
within TooDeep ts n h = first_within h
within Memory ts n h = tt

pub placed : (text end : List ℕ) (tokens : List Token) (fault : QueryFault) (n at : ℕ) → Scans text (terminals tokens) end → IsRejectedAt fault (terminals tokens) n → IsTerminalPlace text (min n (length tokens)) at → IsPlace text fault at
placed text end tokens fault n at d h p =
    let size : length (terminals tokens) ≡ length tokens = length-map tokens terminal_of in
    record {
      terminals = terminals tokens;
      end = end;
      scans = d;
      number = min n (length (terminals tokens));
      in_text = omega arith;
      rejected = within fault (terminals tokens) n h;
      place = subst (λ (m : ℕ). IsTerminalPlace text (min n m) at) (sym size) p;
    }

pub stopped : (text end : List ℕ) (tokens : List Token) (n at : ℕ) → Scans text (terminals tokens) end → IsQueryPrefix (terminals (take n tokens)) → IsTerminalPlace text (min n (length tokens)) at → IsPlace text Syntax at
stopped text end tokens n at d h p = placed text end tokens Syntax n at d (subst (λ (us : List Terminal). IsQueryPrefix us) (sym (take-map terminal_of n tokens)) h) p
