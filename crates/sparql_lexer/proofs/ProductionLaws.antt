-- The parts of the productions: which are Sure, and which are Apart.
use Rattle.std.proofs.Common.{◌≡◌, ℕ, ◌≤◌, List, length, Bool, true, false, ◌||◌, not, refl, sym, ap, ◌∙◌, arith, Option, Some, None, ◌⊎◌, inl, inr, nat_eq}
use Rattle.std.proofs.lemmas.Bool.Decides.{nat_tests}
use Rattle.std.specs.Borrow.{Bor}
use Rattle.sparql_lexer.specs.declared.enclosed.Enclosure.{Enclosure}
use Rattle.sparql_lexer.specs.declared.enclosed.Enclosure.TheVariants as enclosure
use Rattle.sparql_lexer.specs.declared.names.Part.{Part}
use Rattle.sparql_lexer.specs.declared.names.Part.TheVariants as part
use Rattle.rdf_core.specs.Characters.{is_hex, is_pn_chars_base, is_name_start, is_name_char}
use Rattle.sparql_lexer.specs.Characters.{is_digit, is_letter_or_digit, is_base, is_name_part, is_local_start, is_local_part, is_local_escape, is_iri_character, is_short_character, is_long_character, is_escape_letter, is_space, is_line_end}
use Rattle.sparql_lexer.specs.Pattern.{Pattern, character, ◌▸◌, ◌or◌, many, is, some, perhaps, Matches, is_nothing, both, left, right, no_more, one_more, EndsAt, Nowhere, Ends}
use Rattle.sparql_lexer.specs.Numbers.{digit, exponent, is_plus_or_minus, is_exponent_letter}
use Rattle.sparql_lexer.specs.Names.{tail, namespace, local_escape, local_part, subtag}
use Rattle.sparql_lexer.specs.Enclosed.{four_digits, numbered, escape, iri_piece, short_piece, three, comment}
use Rattle.sparql_lexer.specs.Forms.{open_of, close_of, piece_of, part_of}
use Rattle.sparql_lexer.proofs.PatternLaws.{first, nullable, Sure, Apart, sure_character, sure_then, sure_or, sure_from, sure_many_then, apart_first, apart_is, apart_then, apart_or, apart_swap, apart_after, apart_from, but, then_none, then_sure, greedy_then, nowhere, nowhere_or, only_left, only_right, spread, regroup, perhaps_taken, shorter, tail_inside, moved}

pub sure_is : (n : ℕ) → Sure (is n)
sure_is n = sure_character (nat_eq n)

-- digits

pub digit_inside : (ts m : List ℕ) → Matches (some digit) ts m → Matches (many digit) ts m
digit_inside ts m (both d e) = one_more d e

pub digit_point : (x : Pattern) (c : ℕ) → is_digit c ≡ true → first (is 46 ▸ x) c ≡ false
digit_point x c h = ap (λ z. z || false) (but is_digit 46 refl c h)

pub digit_exponent : (c : ℕ) → is_digit c ≡ true → first exponent c ≡ false
digit_exponent c h = let e : is_exponent_letter c ≡ false = grind (arith, nat_tests) in ap (λ z. z || false) e

pub sign_digits : Apart (character is_plus_or_minus) (some digit)
sign_digits = apart_first (character is_plus_or_minus) (some digit) refl refl (λ c h. let e : is_digit c ≡ false = grind (arith, nat_tests) in ap (λ z. z || false) e)

pub many_then : (b : Pattern) {ts mid : List ℕ} (res : Option (Bor (List ℕ))) → ((c : ℕ) → is_digit c ≡ true → first b c ≡ false) → EndsAt (many digit) ts mid → Ends b mid res → Ends (many digit ▸ b) ts res
many_then b res apart run h = greedy_then digit (many digit) b res (sure_character is_digit) refl (λ ms d. d) apart run h

pub some_then : (b : Pattern) {ts mid : List ℕ} (res : Option (Bor (List ℕ))) → ((c : ℕ) → is_digit c ≡ true → first b c ≡ false) → EndsAt (some digit) ts mid → Ends b mid res → Ends (some digit ▸ b) ts res
some_then b {ts = ts} res apart run h = greedy_then digit (some digit) b res (sure_character is_digit) refl (λ ms d. digit_inside ts ms d) apart run h

-- escapes

pub sure_hex : Sure (character is_hex)
sure_hex = sure_character is_hex

pub sure_four : Sure four_digits
sure_four = sure_then sure_hex (sure_then sure_hex (sure_then sure_hex sure_hex))

pub four_or_eight : Apart (is 117 ▸ four_digits) (is 85 ▸ four_digits ▸ four_digits)
four_or_eight = apart_then (is 117 ▸ four_digits) 85 (four_digits ▸ four_digits) refl refl

pub sure_numbered : Sure numbered
sure_numbered = sure_or (sure_then (sure_is 117) sure_four) (sure_then (sure_is 85) (sure_then sure_four sure_four)) four_or_eight

pub letter_or_number : Apart (character is_escape_letter) numbered
letter_or_number = apart_or (apart_then (character is_escape_letter) 117 four_digits refl refl) (apart_then (character is_escape_letter) 85 (four_digits ▸ four_digits) refl refl)

pub sure_escape : Sure escape
sure_escape = sure_then (sure_is 92) (sure_or (sure_character is_escape_letter) sure_numbered letter_or_number)

pub plain_or_escape : (p : ℕ → Bool) (x : Pattern) → p 92 ≡ false → Apart (character p) (is 92 ▸ x)
plain_or_escape p x h = apart_then (character p) 92 x refl h

pub sure_piece : (p : ℕ → Bool) → p 92 ≡ false → Sure (character p or escape)
sure_piece p h = sure_or (sure_character p) sure_escape (plain_or_escape p (character is_escape_letter or numbered) h)

-- pieces of long strings

pub piece_first : (p : ℕ → Bool) (q : ℕ) → p q ≡ false → nat_eq 92 q ≡ false → first (character p or escape) q ≡ false
piece_first p q e k = ap (λ z. z || (nat_eq 92 q || false)) e ∙ ap (λ z. z || false) k

abbrev pub quotes : ℕ → Pattern
quotes q = is q or (is q ▸ is q)

pub no_quotes : (q : ℕ) (ts : List ℕ) → Nowhere (is q) ts → Nowhere (quotes q) ts
no_quotes q ts h = nowhere_or (is q) (is q ▸ is q) ts h (then_none (is q) (is q) ts h)

pub one_quote : (q : ℕ) (x : Pattern) (ts one : List ℕ) (res : Option (Bor (List ℕ))) → Apart x (is q) → Matches (is q) ts one → Nowhere (is q) one → Ends x one res → Ends (perhaps (quotes q) ▸ x) ts res
one_quote q x ts one res apart d none h = perhaps_taken (quotes q) x ts res (nowhere (apart_swap apart) d)
    (spread (is q) (is q ▸ is q) x ts res (only_left (is q ▸ x) ((is q ▸ is q) ▸ x) ts res
    (then_none (is q ▸ is q) x ts (then_sure (is q) None (sure_is q) d none)) (then_sure x res (sure_is q) d h)))

pub two_quotes : (q : ℕ) (x : Pattern) (ts one two : List ℕ) (res : Option (Bor (List ℕ))) → Apart x (is q) → Matches (is q) ts one → Matches (is q) one two → Ends x two res → Ends (perhaps (quotes q) ▸ x) ts res
two_quotes q x ts one two res apart d e h = perhaps_taken (quotes q) x ts res (nowhere (apart_swap apart) d)
    (spread (is q) (is q ▸ is q) x ts res (only_right (is q ▸ x) ((is q ▸ is q) ▸ x) ts res
    (then_sure x None (sure_is q) d (nowhere (apart_swap apart) e)) (regroup (is q) (is q) x ts res (then_sure (is q ▸ x) res (sure_is q) d (then_sure x res (sure_is q) e h)))))

-- a piece of a long string with the quotes before it, one by one
abbrev pub stepwise : ℕ → Pattern → Pattern
stepwise q x = x or (is q ▸ (x or (is q ▸ x)))

pub by_steps : (q : ℕ) (x : Pattern) (ts r : List ℕ) → Matches (perhaps (quotes q) ▸ x) ts r → Matches (stepwise q x) ts r
by_steps q x ts r (both (left is_nothing) d) = left d
by_steps q x ts r (both (right (left a)) d) = right (both a (left d))
by_steps q x ts r (both (right (right (both a b))) d) = right (both a (right (both b d)))

sure_stepwise : (q : ℕ) (x : Pattern) → Sure x → nullable x ≡ false → first x q ≡ false → Sure (stepwise q x)
sure_stepwise q x sure solid h = sure_or sure (sure_then (sure_is q) (sure_or sure (sure_then (sure_is q) sure) (apart_then x q x solid h))) (apart_then x q (x or (is q ▸ x)) solid h)

apart_stepwise : (q : ℕ) (x : Pattern) → nullable x ≡ false → first x q ≡ false → Apart (three q) (stepwise q x)
apart_stepwise q x solid h = apart_or (apart_swap (apart_then x q (is q ▸ is q) solid h))
    (apart_after (sure_is q) (apart_or (apart_swap (apart_then x q (is q) solid h)) (apart_after (sure_is q) (apart_swap (apart_is x q solid h)))))

pub sure_long : (q : ℕ) (p : ℕ → Bool) → p 92 ≡ false → p q ≡ false → nat_eq 92 q ≡ false → Sure (perhaps (quotes q) ▸ (character p or escape))
sure_long q p e f k = sure_from (perhaps (quotes q) ▸ (character p or escape)) (stepwise q (character p or escape)) (by_steps q (character p or escape))
    (sure_stepwise q (character p or escape) (sure_piece p e) refl (piece_first p q f k))

pub apart_long : (q : ℕ) (p : ℕ → Bool) → p q ≡ false → nat_eq 92 q ≡ false → Apart (three q) (perhaps (quotes q) ▸ (character p or escape))
apart_long q p f k = apart_from (by_steps q (character p or escape)) (apart_stepwise q (character p or escape) refl (piece_first p q f k))

-- comments

line_apart : Apart (character is_line_end) (character (λ c. not (is_line_end c)))
line_apart = apart_first (character is_line_end) (character (λ c. not (is_line_end c))) refl refl (λ c h. ap not h)

pub sure_comment : Sure comment
sure_comment = sure_then (sure_is 35) (sure_many_then (sure_character (λ c. not (is_line_end c))) (sure_character is_line_end) line_apart)

pub line_ends : (c : ℕ) → not (is_line_end c) ≡ true → is_line_end c ≡ false
line_ends c h = go (is_line_end c) h
  where
    go : (b : Bool) → not b ≡ true → b ≡ false
    go true h = sym h
    go false h = refl

pub space_or_comment : Apart (character is_space) comment
space_or_comment = apart_then (character is_space) 35 (many (character (λ c. not (is_line_end c))) ▸ character is_line_end) refl refl

-- each enclosure

pub piece_sure : (e : Enclosure) → Sure (piece_of e)
piece_sure enclosure.Iri = sure_or (sure_character is_iri_character) (sure_then (sure_is 92) sure_numbered) (plain_or_escape is_iri_character numbered refl)
piece_sure enclosure.Single = sure_piece (is_short_character 39) refl
piece_sure enclosure.Double = sure_piece (is_short_character 34) refl
piece_sure enclosure.LongSingle = sure_long 39 (is_long_character 39) refl refl refl
piece_sure enclosure.LongDouble = sure_long 34 (is_long_character 34) refl refl refl
piece_sure enclosure.Anonymous = sure_or (sure_character is_space) sure_comment space_or_comment

pub close_apart : (e : Enclosure) → Apart (close_of e) (piece_of e)
close_apart enclosure.Iri = apart_swap (apart_is iri_piece 62 refl refl)
close_apart enclosure.Single = apart_swap (apart_is (short_piece 39) 39 refl refl)
close_apart enclosure.Double = apart_swap (apart_is (short_piece 34) 34 refl refl)
close_apart enclosure.LongSingle = apart_long 39 (is_long_character 39) refl refl
close_apart enclosure.LongDouble = apart_long 34 (is_long_character 34) refl refl
close_apart enclosure.Anonymous = apart_swap (apart_is (character is_space or comment) 93 refl refl)

pub piece_solid : (e : Enclosure) → nullable (piece_of e) ≡ false
piece_solid enclosure.Iri = refl
piece_solid enclosure.Single = refl
piece_solid enclosure.Double = refl
piece_solid enclosure.LongSingle = refl
piece_solid enclosure.LongDouble = refl
piece_solid enclosure.Anonymous = refl

sure_three : (q : ℕ) → Sure (three q)
sure_three q = sure_then (sure_is q) (sure_then (sure_is q) (sure_is q))

pub open_sure : (e : Enclosure) → Sure (open_of e)
open_sure enclosure.Iri = sure_is 60
open_sure enclosure.Single = sure_is 39
open_sure enclosure.Double = sure_is 34
open_sure enclosure.LongSingle = sure_three 39
open_sure enclosure.LongDouble = sure_three 34
open_sure enclosure.Anonymous = sure_is 91

-- names

local_percent : is_local_part 37 ≡ false
unfolding is_name_char is_name_start is_pn_chars_base
local_percent = refl

local_backslash : is_local_part 92 ≡ false
unfolding is_name_char is_name_start is_pn_chars_base
local_backslash = refl

start_percent : is_local_start 37 ≡ false
unfolding is_name_char is_name_start is_pn_chars_base
start_percent = refl

start_backslash : is_local_start 92 ≡ false
unfolding is_name_char is_name_start is_pn_chars_base
start_backslash = refl

pub plain_or_local_escape : (p : ℕ → Bool) → p 37 ≡ false → p 92 ≡ false → Apart (character p) local_escape
plain_or_local_escape p e f = apart_or (apart_then (character p) 37 (character is_hex ▸ character is_hex) refl e) (apart_then (character p) 92 (character is_local_escape) refl f)

pub part_or_escape : Apart (character is_local_part) local_escape
part_or_escape = plain_or_local_escape is_local_part local_percent local_backslash

pub start_or_escape : Apart (character is_local_start) local_escape
start_or_escape = plain_or_local_escape is_local_start start_percent start_backslash

pub percent_or_backslash : Apart (is 37 ▸ character is_hex ▸ character is_hex) (is 92 ▸ character is_local_escape)
percent_or_backslash = apart_then (is 37 ▸ character is_hex ▸ character is_hex) 92 (character is_local_escape) refl refl

sure_local_escape : Sure local_escape
sure_local_escape = sure_or (sure_then (sure_is 37) (sure_then sure_hex sure_hex)) (sure_then (sure_is 92) (sure_character is_local_escape)) percent_or_backslash

pub part_sure : (p : Part) → Sure (part_of p)
part_sure part.Name = sure_character is_name_part
part_sure part.Local = sure_or (sure_character is_local_part) sure_local_escape part_or_escape

pub start_sure : Sure (character is_local_start or local_escape)
start_sure = sure_or (sure_character is_local_start) sure_local_escape start_or_escape

name_dot : first (character is_name_part) 46 ≡ false
unfolding is_name_char is_name_start is_pn_chars_base
name_dot = refl

local_dot : first local_part 46 ≡ false
unfolding is_name_char is_name_start is_pn_chars_base
local_dot = refl

pub part_apart : (p : Part) → Apart (part_of p) (is 46)
part_apart part.Name = apart_is (character is_name_part) 46 refl name_dot
part_apart part.Local = apart_is local_part 46 refl local_dot

pub part_solid : (p : Part) → nullable (part_of p) ≡ false
part_solid part.Name = refl
part_solid part.Local = refl

-- namespaces

abbrev pub name_or_dot : Pattern
name_or_dot = character is_name_part or is 46

name_colon : first name_or_dot 58 ≡ false
unfolding is_name_char is_name_start is_pn_chars_base
name_colon = refl

base_colon : is_base 58 ≡ false
unfolding is_pn_chars_base
base_colon = refl

sure_name_or_dot : Sure name_or_dot
sure_name_or_dot = sure_or (sure_character is_name_part) (sure_is 46) (part_apart part.Name)

pub tail_then_colon : {ts mid : List ℕ} (res : Option (Bor (List ℕ))) → EndsAt (tail (character is_name_part)) ts mid → Ends (is 58) mid res → Ends (tail (character is_name_part) ▸ is 58) ts res
tail_then_colon {ts = ts} res run h = greedy_then name_or_dot (tail (character is_name_part)) (is 58) res sure_name_or_dot refl (λ ms d. tail_inside ts ms d) (λ c e. but (first name_or_dot) 58 name_colon c e) run h

pub base_or_colon : (x : Pattern) → Apart (character is_base ▸ x) (is 58)
base_or_colon x = apart_is (character is_base ▸ x) 58 refl (ap (λ z. z || false) base_colon)

namespace_steps : (ts r : List ℕ) → Matches namespace ts r → Matches (is 58 or (character is_base ▸ (many name_or_dot ▸ is 58))) ts r
namespace_steps ts r (both (left is_nothing) d) = left d
namespace_steps ts r (both {mid = n} (right (both {mid = m} b t)) d) = right (both b (both (tail_inside m n t) d))

pub namespace_sure : Sure namespace
namespace_sure = sure_from namespace (is 58 or (character is_base ▸ (many name_or_dot ▸ is 58))) namespace_steps
    (sure_or (sure_is 58) (sure_then (sure_character is_base) (sure_many_then sure_name_or_dot (sure_is 58) (apart_swap (apart_is name_or_dot 58 refl name_colon)))) (apart_swap (base_or_colon (many name_or_dot ▸ is 58))))

-- subtags

letters_inside : (p : ℕ → Bool) (ts m : List ℕ) → Matches (some (character p)) ts m → Matches (many (character p)) ts m
letters_inside p ts m (both d e) = one_more d e

pub then_subtags : (p : ℕ → Bool) {ts mid : List ℕ} (r : Bor (List ℕ)) → p 45 ≡ false → EndsAt (some (character p)) ts mid → EndsAt (many subtag) mid r.now → EndsAt (some (character p) ▸ many subtag) ts r.now
then_subtags p {ts = ts} r e run h = greedy_then (character p) (some (character p)) (many subtag) (Some r) (sure_character p) refl (λ ms d. letters_inside p ts ms d) (λ c f. ap (λ z. z || false) (but p 45 e c f)) run h

split_many : {a : Pattern} {ts s : List ℕ} → Matches (many a) ts s → (s ≡ ts) ⊎ ((mid : List ℕ) × Matches a ts mid × Matches (many a) mid s)
split_many no_more = inl refl
split_many (one_more {mid = m} x xs) = inr (m, x, xs)

after_hyphen : {ts s : List ℕ} → Matches subtag ts s → (mid : List ℕ) × Matches (is 45) ts mid × Matches (some (character is_letter_or_digit)) mid s
after_hyphen (both {mid = m} x y) = (m, x, y)

pub subtag_more : {rest hyphen after : List ℕ} (r : Bor (List ℕ)) → Matches (is 45) rest hyphen → EndsAt (some (character is_letter_or_digit)) hyphen after → EndsAt (many subtag) after r.now → EndsAt (many subtag) rest r.now
subtag_more {rest = rest} {hyphen = hyphen} r dash run h =
    let whole = then_subtags is_letter_or_digit r refl run h in
    record { matches = one_more (both dash run.matches) h.matches; longest = λ s d. go whole s (split_many d) }
  where
    go : EndsAt (some (character is_letter_or_digit) ▸ many subtag) hyphen r.now → (s : List ℕ) → (s ≡ rest) ⊎ ((mid : List ℕ) × Matches subtag rest mid × Matches (many subtag) mid s) → length r.now ≤ length s
    go whole s (inl e) = let k = shorter whole.matches in let l = shorter dash in let q = ap length e in omega arith
    go whole s (inr x) = let y = after_hyphen x.1 in whole.longest s (both (moved ((sure_is 45).same rest y.0 hyphen y.1 dash) y.2) x.2)

pub colon_namespace : (ts r : List ℕ) → EndsAt (is 58) ts r → EndsAt namespace ts r
colon_namespace ts r h = record { matches = both (left is_nothing) h.matches; longest = λ other d. go other d }
  where
    go : (other : List ℕ) → Matches namespace ts other → length r ≤ length other
    go other (both (left is_nothing) y) = h.longest other y
    go other (both {mid = m} (right x) y) = absurd ((base_or_colon (tail (character is_name_part))).never ts m r x h.matches)

pub no_namespace : (ts : List ℕ) (res : Option (Bor (List ℕ))) → Nowhere (is 58) ts → Ends (character is_base ▸ (tail (character is_name_part) ▸ is 58)) ts res → Ends namespace ts res
no_namespace ts res none h = perhaps_taken (character is_base ▸ tail (character is_name_part)) (is 58) ts res none (regroup (character is_base) (tail (character is_name_part)) (is 58) ts res h)

pub nowhere_eight : {ts r : List ℕ} → Matches (is 117) ts r → Nowhere (is 85 ▸ four_digits ▸ four_digits) ts
nowhere_eight d = nowhere (apart_then (is 117) 85 (four_digits ▸ four_digits) refl refl) d

pub nowhere_percent : {ts r : List ℕ} → Matches (is 37) ts r → Nowhere (is 92 ▸ character is_local_escape) ts
nowhere_percent d = nowhere (apart_then (is 37) 92 (character is_local_escape) refl refl) d
