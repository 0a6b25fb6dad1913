-- The terminals of a text, one after the other, and the first of them that breaks a rule.
use Rattle.std.proofs.Common.{◌≡◌, ℕ, zero, suc, ◌+◌, ◌-◌, ◌<◌, ◌≤◌, List, [], ◌∷◌, ◌++◌, length, take, drop, map, get_or, min, Bool, true, false, ◌||◌, refl, sym, ap, ◌∙◌, subst, arith, drop-cons, append_assoc, append-nil, slice_range, nat_lt}
use Rattle.std.specs.List.{list_any}
use Rattle.std.proofs.lemmas.Bool.Decides.{nat_tests}
use Rattle.std.proofs.Math.Nat.{sub_self}
use Rattle.std.proofs.Math.Seq.{take-add}
use Rattle.std.proofs.lemmas.List.{length-take-le, take_more, take-map, drop-map, take_all, length-map, get_or-map}
use Rattle.std.proofs.lemmas.List.Folds.{list_any-append}
use Rattle.sparql_lexer.specs.declared.token.Kind.{Kind}
use Rattle.sparql_lexer.specs.declared.token.Token.{Token}
use Rattle.sparql_lexer.specs.Blanks.{after_blanks}
use Rattle.sparql_lexer.specs.Colonless.{HasSuffix, here, next}
use Rattle.sparql_lexer.specs.Scan.{Longest, Scans, stops, reads}
use Rattle.sparql_lexer.specs.Terminal.{Terminal, terminal, terminal_of, terminals}
use Rattle.sparql_lexer.specs.Words.{taken}
use Rattle.sparql_lexer.proofs.PatternLaws.{suffix_shorter}
use Rattle.sparql_lexer.proofs.ScanLaws.{reads_suffix}
use Rattle.sparql_read.specs.Depth.{goes_over, is_too_deep, max_depth, open_after}
use Rattle.query_diagnosis.specs.Place.{IsFirst}
use Rattle.query_diagnosis.specs.TerminalPlace.{IsAfter, none, one_more, IsTerminalPlace, from_next}

-- one terminal more
after_more : {n : ℕ} {text left place rest : List ℕ} {k : Kind} → IsAfter n text left → after_blanks left ≡ place → Longest k place rest → IsAfter (suc n) text rest
after_more none e l = one_more e l none
after_more (one_more e l a) f m = one_more e l (after_more a f m)

suffix_dropped : {xs ys : List ℕ} → HasSuffix xs ys → drop (length xs - length ys) xs ≡ ys
suffix_dropped (here {ts = ts}) = ap (λ n. drop n ts) (sub_self (length ts))
suffix_dropped (next {c = c} {ts = ts} {rest = rest} s) =
    let short = suffix_shorter s in
    let e : suc (length ts) - length rest ≡ suc (length ts - length rest) = omega (arith, short) in
    ap (λ n. drop n (c ∷ ts)) e ∙ suffix_dropped s

-- what follows a terminal, by the number of its characters
after_taken : {place rest : List ℕ} → HasSuffix place rest → drop (length (taken place rest)) place ≡ rest
after_taken {place} {rest} s = ap (λ n. drop n place) (length-take-le (length place - length rest) place (omega arith)) ∙ suffix_dropped s

abbrev letters_of : List Terminal → List ℕ
letters_of [] = []
letters_of (terminal k w ∷ ts) = w

abbrev others : List Terminal → List Terminal
others [] = []
others (t ∷ ts) = ts

-- The text is read up to a place: the terminals before it, and those after it.
pub record IsRead (text rest end : List ℕ) (n : ℕ) (ts : List Terminal) : Type 0 where
  pub after : IsAfter n text rest
  pub scans : Scans rest ts end

read_step : (text rest new end w : List ℕ) (n : ℕ) (k : Kind) (ts more : List Terminal) → IsAfter n text rest → Scans rest ts end → ts ≡ terminal k w ∷ more → new ≡ drop (length w) (after_blanks rest) → IsRead text new end (suc n) more
read_step text rest new end w n k ts more a (stops e unreadable) p q = absurd (cc)
read_step text rest new end w n k ts more a (reads {place = place} {rest = left} {k = l} {ts = us} e longest d) p q =
    let words : w ≡ taken place left = sym (ap letters_of p) in
    let same : new ≡ left = q ∙ ap (λ (x : List ℕ). drop (length x) (after_blanks rest)) words ∙ ap (drop (length (taken place left))) e ∙ after_taken (reads_suffix l place left longest.reads) in
    record {
      after = subst (λ (x : List ℕ). IsAfter (suc n) text x) (sym same) (after_more a e longest);
      scans = subst (λ (x : List ℕ). Scans x more end) (sym same) (subst (λ (vs : List Terminal). Scans left vs end) (ap others p) d);
    }

pub read_one : (text rest new end : List ℕ) (i : ℕ) (tokens : List Token) (t : Token) → i < length tokens → IsRead text rest end i (terminals (drop i tokens))
    → new ≡ drop (length (get_or tokens i t).text.now) (after_blanks rest) → IsRead text new end (i + 1) (terminals (drop (i + 1) tokens))
read_one text rest new end i tokens t l h q =
    let one : suc i ≡ i + 1 = omega arith in
    let u : Token = get_or tokens i t in
    let next : terminals (drop i tokens) ≡ terminal u.kind u.text.now ∷ terminals (drop (suc i) tokens) = ap terminals (drop-cons tokens i t l) in
    subst (λ (n : ℕ). IsRead text new end n (terminals (drop n tokens))) one
    (read_step text rest new end u.text.now i u.kind (terminals (drop i tokens)) (terminals (drop (suc i) tokens)) h.after h.scans next q)

-- nothing is read
pub read_none : (text end : List ℕ) (ts : List Terminal) → Scans text ts end → IsRead text text end 0 ts
read_none text end ts d = record { after = none; scans = d }

-- the place of the terminal
pub place_there : (text rest end : List ℕ) (n at : ℕ) (ts : List Terminal) → IsRead text rest end n ts → at + length (from_next rest) ≡ length text → IsTerminalPlace text n at
place_there text rest end n at ts h e = record { left = rest; after = h.after; begins = e }

-- the terminal after the first i of them
one_after : (tokens : List Token) (i : ℕ) → take (i + 1) (terminals tokens) ≡ take i (terminals tokens) ++ terminals (slice_range tokens i (i + 1))
one_after tokens i =
    let one : (i + 1) - i ≡ 1 = omega arith in
    let part : terminals (slice_range tokens i (i + 1)) ≡ take 1 (drop i (terminals tokens)) =
    ap (λ (n : ℕ). terminals (take n (drop i tokens))) one ∙ sym (take-map terminal_of 1 (drop i tokens)) ∙ ap (take 1) (sym (drop-map terminal_of i tokens)) in
    take-add i 1 (terminals tokens) ∙ ap (λ (ts : List Terminal). take i (terminals tokens) ++ ts) (sym part)

-- a test of some terminal, with one terminal more
pub any_more : (p : Terminal → Bool) (tokens : List Token) (i : ℕ) (b : Bool) → list_any p (take i (terminals tokens)) ≡ false → b ≡ list_any p (terminals (slice_range tokens i (i + 1)))
    → list_any p (take (i + 1) (terminals tokens)) ≡ b
any_more p tokens i b h e =
    ap (list_any p) (one_after tokens i)
    ∙ list_any-append p (take i (terminals tokens)) (terminals (slice_range tokens i (i + 1)))
    ∙ ap (λ (x : Bool). x || list_any p (terminals (slice_range tokens i (i + 1)))) h
    ∙ sym e

pub first_any : (p : Terminal → Bool) (tokens : List Token) (i : ℕ) → i < length tokens → list_any p (take i (terminals tokens)) ≡ false → list_any p (terminals (slice_range tokens i (i + 1))) ≡ true
    → IsFirst (list_any p) (terminals tokens) i
first_any p tokens i l h e = record {
  in_text = subst (λ (n : ℕ). i < n) (sym (length-map tokens terminal_of)) l;
  before = h;
  here = any_more p tokens i true h (sym e);
}

pub none_any : (p : Terminal → Bool) (tokens : List Token) (n : ℕ) → length tokens ≤ n → list_any p (take n (terminals tokens)) ≡ false → list_any p (terminals tokens) ≡ false
none_any p tokens n l h =
    let m : length (terminals tokens) ≤ n = subst (λ (k : ℕ). k ≤ n) (sym (length-map tokens terminal_of)) l in
    ap (list_any p) (sym (take_all n (terminals tokens) m)) ∙ h

over : (n : ℕ) → max_depth < n → nat_lt max_depth n ≡ true
over n h = grind (arith, nat_tests)

not_over : (n : ℕ) → n ≤ max_depth → nat_lt max_depth n ≡ false
not_over n h = grind (arith, nat_tests)

-- The brackets of the first i terminals are not nested too deep, and this many are open after them.
abbrev pub AreOpen : List Token → ℕ → ℕ → Type 0
AreOpen tokens i depth = (more : List Terminal) → goes_over 0 (take i (terminals tokens) ++ more) ≡ goes_over depth more

-- one bracket or other terminal more
open_then : (tokens : List Token) (i depth : ℕ) (d : Token) (more : List Terminal) → i < length tokens → AreOpen tokens i depth
    → goes_over 0 (take (i + 1) (terminals tokens) ++ more) ≡ goes_over depth (terminal_of (get_or tokens i d) ∷ more)
open_then tokens i depth d more l h =
    let t : Token = get_or tokens i d in
    let there : take (i + 1) (terminals tokens) ≡ take i (terminals tokens) ++ terminal_of t ∷ [] =
    take_more (terminals tokens) i (terminal_of d) (subst (λ (n : ℕ). i < n) (sym (length-map tokens terminal_of)) l)
    ∙ ap (λ (u : Terminal). take i (terminals tokens) ++ u ∷ []) (get_or-map terminal_of tokens i d (terminal_of d) l) in
    ap (λ (ts : List Terminal). goes_over 0 (ts ++ more)) there
    ∙ ap (goes_over 0) (append_assoc (take i (terminals tokens)) (terminal_of t ∷ []) more)
    ∙ h (terminal_of t ∷ more)

pub open_more : (tokens : List Token) (i depth new : ℕ) (d : Token) → i < length tokens → AreOpen tokens i depth → new ≡ open_after (get_or tokens i d).kind depth → new ≤ max_depth → AreOpen tokens (i + 1) new
open_more tokens i depth new d l h n few =
    let after : ℕ = open_after (get_or tokens i d).kind depth in
    λ more.
    open_then tokens i depth d more l h
    ∙ ap (λ (b : Bool). b || goes_over after more) (not_over after (subst (λ (m : ℕ). m ≤ max_depth) n few))
    ∙ ap (λ (m : ℕ). goes_over m more) (sym n)

pub first_open : (tokens : List Token) → AreOpen tokens 0 0
first_open tokens = λ more. refl

pub too_deep_at : (tokens : List Token) (i depth new : ℕ) (d : Token) → i < length tokens → AreOpen tokens i depth → new ≡ open_after (get_or tokens i d).kind depth → max_depth < new → IsFirst is_too_deep (terminals tokens) i
too_deep_at tokens i depth new d l h n many =
    let after : ℕ = open_after (get_or tokens i d).kind depth in
    record {
      in_text = subst (λ (m : ℕ). i < m) (sym (length-map tokens terminal_of)) l;
      before = ap (goes_over 0) (sym (append-nil (take i (terminals tokens)))) ∙ h [];
      here = ap (goes_over 0) (sym (append-nil (take (i + 1) (terminals tokens)))) ∙ open_then tokens i depth d [] l h
          ∙ ap (λ (b : Bool). b || goes_over after []) (over after (subst (λ (m : ℕ). max_depth < m) n many));
    }

pub not_deep : (tokens : List Token) (n depth : ℕ) → length tokens ≤ n → AreOpen tokens n depth → is_too_deep (terminals tokens) ≡ false
not_deep tokens n depth l h =
    let m : length (terminals tokens) ≤ n = subst (λ (k : ℕ). k ≤ n) (sym (length-map tokens terminal_of)) l in
    ap (goes_over 0) (sym (take_all n (terminals tokens) m)) ∙ ap (goes_over 0) (sym (append-nil (take n (terminals tokens)))) ∙ h []
