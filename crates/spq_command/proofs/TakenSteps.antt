-- Arguments that the library accepts have a command.
use Rattle.std.proofs.Common.{◌≡◌, ◌≢◌, ◌∙◌, ◌&&◌, ◌||◌, ◌≤◌, ℕ, Bool, List, [], ◌∷◌, Option, Some, None, inl, inr, refl, sym, subst, ap, ap₂, arith, codes, cond, true, false, true≢false, is_some, not, option_map}
use Rattle.std.proofs.lemmas.Slice.Eq.{bytes_eq-Decides}
use Rattle.std.specs.Prelude.{⊤, find, fold, option_and_then, slice_get, unwrap_or}
use Rattle.std.specs.List.{list_any, slice_index_or}
use Rattle.std.specs.Option.{option_map_or}
use Rattle.std.specs.Str.{bytes_eq}
use Rattle.std.specs.Str.Parse.{digits_value, without_leading_plus}
use Rattle.clap.specs.Facts.{explicit_source, parser_of_value}
use Rattle.clap.specs.Lexer.{long_of, short_of}
use Rattle.clap.specs.Walk.{action_of, Held, Names, Outcome, Row, Rule, Step, Text, Waiting, Walk, after_flag, after_step, answers_to, arg_by_id, arg_by_index, done, first_of, idle, long_or_other, next, nothing_held, one_of, option, plain, plain_word, positional, refused, row_text, rows_after, short_or_plain, stop_after, subcommand, subcommand_met, subcommand_or_other, to_positional, trailing, value, waits, walk_from, walked, walked_from, word_met}
use Rattle.clap.specs.Simple.{Shape, argument_words, built, entered, label_of, names_of, rows_at, subcommand_of}
use Rattle.clap.specs.Kinds.{Kinds, check_kinds, or_else, value_kinds}
use Rattle.clap.specs.Takes.{is_given}
use Rattle.clap.specs.Faults.{entered_fault, fault_of, level_fault, other_fault, step_fault, turn_fault, walk_fault, word_fault}
use Rattle.clap.specs.Values.{Accepts, IsUnsignedIn, read_as, reading_of, refused_kind}
use Rattle.clap.specs.ValueTests.{accepts}
use Rattle.clap.proofs.ValueTestLemmas.{accepts-Accepts}
use Rattle.clap.specs.declared.builder.action.ArgAction.TheVariants.{Help, Set}
use Rattle.clap.specs.declared.builder.value_parser.Reading.{Reading as HowRead}
use Rattle.clap.specs.declared.builder.value_parser.ValueParser.{ValueParser}
use Rattle.clap.specs.declared.builder.value_parser.ValueParser.TheVariants.{Unsigned}
use Rattle.clap.specs.declared.error.kind.ErrorKind.TheVariants.{DisplayHelp, InvalidSubcommand}
use Rattle.spq_command.specs.Program.{HasReadOptions, IsCommandLine, IsCommandMet, IsCommandOf, IsNumber, program}
use Rattle.spq_command.specs.declared.command.Command.{Command}
use Rattle.spq_command.specs.declared.command.Command.TheVariants.{Select, Check, Terms}
use Rattle.spq_command.specs.declared.command.ReadOptions.{ReadOptions}
use Rattle.spq_command.proofs.TakenRows.{one, AreFine, ArePlain, HaveNoDefaults, IsFine, IsPlainRule, level_fine, level_passes, or_none, some_kind}

-- ---- the subcommand at which the walk stops is not `help`

abbrev IsNoHelp : Text → Type 0
IsNoHelp name = bytes_eq name (codes "help") ≡ false

abbrev StopsAtNoHelp : Option (Text × List Text) → Type 0
StopsAtNoHelp None = ⊤
StopsAtNoHelp (Some p) = IsNoHelp p.0

abbrev MeetsNoHelp : Step → Type 0
MeetsNoHelp (subcommand name) = IsNoHelp name
MeetsNoHelp (next w) = ⊤
MeetsNoHelp (trailing k) = ⊤
MeetsNoHelp value = ⊤

module _ (s : Shape) (enabled : s.disable_help_subcommand ≡ false) where
  plain_meets : (w : Waiting) (word : Text) (h : Held) → MeetsNoHelp (plain_word s.rules w word h).1
  plain_meets idle word h = tt
  plain_meets (option id) word h = tt
  plain_meets positional word h = tt

  flag_meets : (w : Waiting) (word : Text) (h : Held) (o : Outcome) → MeetsNoHelp (after_flag s.rules w word h o).1
  flag_meets w word h done = tt
  flag_meets w word h (waits id) = tt
  flag_meets w word h plain = plain_meets w word h
  flag_meets w word h refused = plain_meets w word h

  short_meets : (w : Waiting) (word : Text) (o : Option Text) (h : Held) → MeetsNoHelp (short_or_plain s.rules w word o h).1
  short_meets w word None h = plain_meets w word h
  short_meets w word (Some flags) h = flag_meets w word _ _

  long_meets : (w : Waiting) (word : Text) (o : Option (Text × Option Text)) (h : Held) → MeetsNoHelp (long_or_other s.rules w word o h).1
  long_meets w word None h = short_meets w word (short_of word) h
  long_meets w word (Some p) h = flag_meets w word _ _

  other_meets : (o : Option Text) (w : Waiting) (position : ℕ) (word : Text) (h : Held) → other_fault s o word h ≡ []
      → MeetsNoHelp (subcommand_or_other s.rules o w position word h).1
  other_meets (Some name) w position word h none = go (bytes_eq name (codes "help")) none
    where
      go : (b : Bool) → cond (b && not s.disable_help_subcommand) (DisplayHelp ∷ InvalidSubcommand ∷ []) [] ≡ [] → b ≡ false
      go true e = absurd (some_kind DisplayHelp (InvalidSubcommand ∷ []) (rw enabled at e))
      go false e = refl
  other_meets None w position word h none = go (bytes_eq word (45 ∷ 45 ∷ []))
    where
      go : (b : Bool) → MeetsNoHelp (cond b (h, trailing position) (long_or_other s.rules w word (long_of word) h)).1
      go true = tt
      go false = long_meets w word (long_of word) h

  word_meets : (names : Names) (t : Bool) (w : Waiting) (position : ℕ) (word : Text) (h : Held) → word_fault s names t w word h ≡ []
      → MeetsNoHelp (word_met s.rules names t w position word h).1
  word_meets names true w position word h none = tt
  word_meets names false w position word h none = other_meets (subcommand_met names w word) w position word h none

  stopped_after : (word : Text) (w : Walk) (h : Held) (step : Step) → MeetsNoHelp step → StopsAtNoHelp w.stopped
      → StopsAtNoHelp (after_step s.rules word w h step).stopped
  stopped_after word w h (next waiting) meets stopped = stopped
  stopped_after word w h (trailing position) meets stopped = stopped
  stopped_after word w h (subcommand name) meets stopped = meets
  stopped_after word w h value meets stopped = go (arg_by_index s.rules w.position)
    where
      go : (o : Option Rule) → StopsAtNoHelp (to_positional s.rules o word w h).stopped
      go None = stopped
      go (Some a) = tt

  turn_stops : (names : Names) (w : Walk) (word : Text) → turn_fault s names w word ≡ [] → StopsAtNoHelp w.stopped
      → StopsAtNoHelp (walked s.rules names w word).stopped
  unfolding walked
  turn_stops names w word none stopped = go w.stopped none stopped
    where
      go : (o : Option (Text × List Text))
          → cond (is_some o) [] (or_else (word_fault s names w.is_trailing w.waiting word w.held)
          (step_fault s w.position (word_met s.rules names w.is_trailing w.waiting w.position word w.held).0
          (word_met s.rules names w.is_trailing w.waiting w.position word w.held).1)) ≡ []
          → StopsAtNoHelp o → StopsAtNoHelp (walked_from s.rules names o w word).stopped
      go (Some p) e at = at
      go None e at =
          stopped_after word w _ _ (word_meets names w.is_trailing w.waiting w.position word w.held (or_none _ _ e).0) stopped

  walk_stops : (names : Names) (w : Walk) (words : List Text) → walk_fault s names w words ≡ [] → StopsAtNoHelp w.stopped
      → StopsAtNoHelp (fold (walked s.rules names) w words).stopped
  unfolding walk_fault
  walk_stops names w [] none stopped = stopped
  walk_stops names w (word ∷ rest) none stopped =
      let parts = or_none _ _ none in
      walk_stops names (walked s.rules names w word) rest parts.1 (turn_stops names w word parts.0 stopped)

-- ---- the last checks

checks_pass : (a b d : Bool) → check_kinds a b d ≡ [] → (b ≡ false) × (d ≡ false)
checks_pass true b d h = absurd cc
checks_pass false true d h = absurd cc
checks_pass false false true h = absurd cc
checks_pass false false false h = (refl, refl)

-- a level that requires a subcommand and accepts its arguments has a subcommand, which accepts its
-- own and is not `help`
level_stops : (s : Shape) (names : Names) (words : List Text) (has : Bool) (below : Kinds)
    → s.disable_help_subcommand ≡ false → s.subcommand_required ≡ true → level_fault s names nothing_held words has below ≡ []
    → StopsAtNoHelp (stop_after s.rules names words) × (below ≡ []) × (has ≡ true)
level_stops s names words has below enabled wanted none =
    let passes = level_passes s names words has below none in
    let rows = rows_after s.rules names words in
    let checks = checks_pass (not has && (s.arg_required_else_help && not (list_any (λ r. explicit_source r.source) rows)))
    (not has && s.subcommand_required)
    (not (s.subcommand_negates_reqs && has) && list_any (λ a. a.required && not (is_given a.id rows)) s.rules) passes.3 in (
      walk_stops s enabled names (walk_from nothing_held) words passes.0 tt,
      passes.1,
      met has (subst (λ b. (not has && b) ≡ false) wanted checks.0),
    )
  where
    met : (b : Bool) → (not b && true) ≡ false → b ≡ true
    met true e = refl
    met false e = absurd (true≢false e)

-- ---- the rows of a subcommand

find_row : (c : List Rule) (id : Text) (rows : List Row) → AreFine c rows → (r : Row) → find (λ x. bytes_eq x.id id) rows ≡ Some r
    → IsFine c r × (r.id ≡ id)
find_row c id [] all r found = absurd cc
find_row c id (x ∷ rows) all r found = go (bytes_eq x.id id) refl found (λ later. find_row c id rows all.1 r later)
  where
    go : (b : Bool) → bytes_eq x.id id ≡ b → cond b (Some x) (find (λ y. bytes_eq y.id id) rows) ≡ Some r
        → (find (λ y. bytes_eq y.id id) rows ≡ Some r → IsFine c r × (r.id ≡ id)) → IsFine c r × (r.id ≡ id)
    go true is e rec =
        let same : x ≡ r = ap (λ (o : Option Row). unwrap_or o x) e in
        subst (λ y. IsFine c y × (y.id ≡ id)) same (all.0, (bytes_eq-Decides _ _).0 is)
    go false is e rec = rec e

taken_value : (ignore_case : Bool) (p : ValueParser) (text : Text) → value_kinds ignore_case p text ≡ [] → Accepts ignore_case p text
taken_value ignore_case p text h = accepts-Accepts ignore_case p text (go (accepts ignore_case p text) h)
  where
    go : (b : Bool) → cond b [] (refused_kind p ∷ []) ≡ [] → b ≡ true
    go true e = refl
    go false e = absurd (some_kind _ _ e)

-- a number from 1 to `most` that the option has
abbrev IsNumberWithin : ℕ → ℕ → Option Text → ℕ → Type 0
IsNumberWithin default most o n = IsNumber default most o n × (1 ≤ n) × (n ≤ most)

abbrev TakesNumber : List Rule → Text → ℕ → Type 0
TakesNumber c id most = option_map (λ a. a.parser) (arg_by_id c id) ≡ Some (Some (Unsigned 1 most))

number_of_row : (c : List Rule) (id : Text) (default most : ℕ) (r : Row) → IsFine c r → r.id ≡ id → TakesNumber c id most
    → (n : ℕ) × IsNumberWithin default most (row_text r) n
number_of_row c id default most r fine is takes =
    let parser : fine.rule.parser ≡ Some (Unsigned 1 most) =
    ap (λ o. unwrap_or o fine.rule.parser) (sym (ap (λ o. option_map (λ a. a.parser) o) (ap (λ x. arg_by_id c x) (sym is) ∙ fine.found)) ∙ takes) in
    let text : row_text r ≡ Some fine.text =
    ap₂ (λ (how : HowRead) (vs : List Text). option_map (read_as how) (slice_get vs 0)) fine.reading fine.values
    ∙ ap (λ o. Some (read_as (reading_of (parser_of_value o)) fine.text)) parser in
    let within : IsUnsignedIn 1 most fine.text =
    taken_value fine.rule.ignore_case (Unsigned 1 most) fine.text
    (subst (λ o. value_kinds fine.rule.ignore_case (parser_of_value o) fine.text ≡ []) parser fine.passes) in
    let n = digits_value 10 (without_leading_plus fine.text) in
    (n, subst (λ o. IsNumberWithin default most o n) (sym text) ((within, refl), within.2, within.3))

number_taken : (c : List Rule) (id : Text) (default most : ℕ) (rows : List Row) → AreFine c rows → TakesNumber c id most
    → 1 ≤ default → default ≤ most → (n : ℕ) × IsNumberWithin default most (one_of id rows) n
number_taken c id default most rows all takes low high =
    go (find (λ r. bytes_eq r.id id) rows) (find_row c id rows all)
  where
    go : (o : Option Row) → ((r : Row) → o ≡ Some r → IsFine c r × (r.id ≡ id))
        → (n : ℕ) × IsNumberWithin default most (option_and_then row_text o) n
    go None h = (default, (refl, low, high))
    go (Some r) h = number_of_row c id default most r (h r refl).0 (h r refl).1 takes

text_taken : (c : List Rule) (id : Text) (rows : List Row) → AreFine c rows → is_given id rows ≡ true
    → (t : Text) × (first_of id rows ≡ Some t)
text_taken c id rows all given = go (find (λ r. bytes_eq r.id id) rows) (find_row c id rows all) given
  where
    go : (o : Option Row) → ((r : Row) → o ≡ Some r → IsFine c r × (r.id ≡ id))
        → option_map_or (λ r. explicit_source r.source) o false ≡ true
        → (t : Text) × (option_and_then (λ r. slice_get r.values 0) o ≡ Some t)
    go None h e = absurd (true≢false (sym e))
    go (Some r) h e =
        let fine = (h r refl).0 in
        (fine.text, ap (λ (vs : List Text). slice_get vs 0) fine.values)

-- a command with the options for how a document is read
pub record IsReadingShape (s : Shape) : Type 0 where
  pub single : s.args_override_self ≡ false
  pub rules : ArePlain s.rules
  pub defaults : HaveNoDefaults s.rules
  pub workers : TakesNumber s.rules (codes "workers") 64
  pub piece : TakesNumber s.rules (codes "piece") 1073741824

reading_taken : (s : Shape) (rows : List Row) → IsReadingShape s → AreFine s.rules rows → (reading : ReadOptions) × HasReadOptions rows reading
reading_taken s rows is all =
    let workers = number_taken s.rules (codes "workers") 4 64 rows all is.workers (omega arith) (omega arith) in
    let piece = number_taken s.rules (codes "piece") 65536 1073741824 rows all is.piece (omega arith) (omega arith) in (
      record {
        workers = workers.0;
        piece = piece.0;
        workers_some = workers.1.1;
        workers_most = workers.1.2;
        piece_some = piece.1.1;
        piece_most = piece.1.2;
      },
      record { workers = workers.1.0; piece = piece.1.0 },
    )

abbrev Taken : Shape → List Text → Type 0
Taken s words = level_fault s [] nothing_held words false [] ≡ [] → (command : Command) × IsCommandOf (rows_at s words) command

check_taken : (s : Shape) (words : List Text) → s.name ≡ codes "check" → IsReadingShape s → Taken s words
check_taken s words name is none =
    let level = level_fine s [] words false [] is.single is.rules is.defaults none in
    let reading = reading_taken s (rows_after s.rules [] words) is level.0 in
    (Check reading.0, (name, reading.1))

terms_taken : (s : Shape) (words : List Text) → s.name ≡ codes "terms" → IsReadingShape s → Taken s words
terms_taken s words name is none =
    let level = level_fine s [] words false [] is.single is.rules is.defaults none in
    let reading = reading_taken s (rows_after s.rules [] words) is level.0 in
    (Terms reading.0, (name, reading.1))

-- of the arguments of the command, only the query is required
abbrev WantsQuery : Shape → Type 0
WantsQuery s = (rows : List Row)
    → (not (s.subcommand_negates_reqs && false) && list_any (λ a. a.required && not (is_given a.id rows)) s.rules)
    ≡ (not (is_given (codes "query") rows) || false)

select_taken : (s : Shape) (words : List Text) → s.name ≡ codes "select" → IsReadingShape s
    → TakesNumber s.rules (codes "rows") 1073741824 → WantsQuery s → Taken s words
select_taken s words name is takes wants none =
    let level = level_fine s [] words false [] is.single is.rules is.defaults none in
    let found = rows_after s.rules [] words in
    let reading = reading_taken s found is level.0 in
    let rows = number_taken s.rules (codes "rows") 1024 1073741824 found level.0 takes (omega arith) (omega arith) in
    let query = text_taken s.rules (codes "query") found level.0
    (given (is_given (codes "query") found) (sym (wants found) ∙ (checks_pass _ _ _ level.1).1)) in
    (Select query.0 reading.0 rows.0, (name, record { text = query.1; how = reading.1; size = rows.1.0 }))
  where
    given : (b : Bool) → (not b || false) ≡ false → b ≡ true
    given true e = refl
    given false e = absurd (true≢false e)

-- ---- the subcommands of the program

abbrev Each : {X : Type 0} → (X → Type 0) → List X → Type 0
Each P [] = ⊤
Each P (x ∷ xs) = P x × Each P xs

find_each : {X : Type 0} (q : X → Bool) (P : X → Type 0) (xs : List X) → Each (λ x. q x ≡ true → P x) xs → (x : X) → find q xs ≡ Some x → P x
find_each q P [] each x e = absurd cc
find_each {X} q P (y ∷ ys) each x e = go (q y) refl e (λ later. find_each q P ys each.1 x later)
  where
    go : (b : Bool) → q y ≡ b → cond b (Some y) (find q ys) ≡ Some x → (find q ys ≡ Some x → P x) → P x
    go true is same rec = subst P (ap (λ (o : Option X). unwrap_or o y) same) (each.0 is)
    go false is later rec = rec later

-- ---- the program, as the library builds it

abbrev top : Shape
top = (built program).top

abbrev subs : List Shape
subs = (built program).subs

abbrev shape_at : ℕ → Shape
shape_at i = slice_index_or subs i top

option_rule : {c : List Rule} {a : Rule} → action_of a ≡ Set → a.range ≡ Some one → arg_by_id c a.id ≡ Some a → IsPlainRule c a
option_rule action range found = record { kind = inl (record { action = action; range = range }); found = found }

help_rule : {c : List Rule} {a : Rule} → action_of a ≡ Help → arg_by_id c a.id ≡ Some a → IsPlainRule c a
help_rule action found = record { kind = inr action; found = found }

select_rules : ArePlain (shape_at 0).rules
select_rules p a e =
    find_each p (IsPlainRule (shape_at 0).rules) (shape_at 0).rules
    ((λ _. option_rule refl refl refl), ((λ _. option_rule refl refl refl), ((λ _. option_rule refl refl refl), ((λ _. option_rule refl refl refl), ((λ _. help_rule refl refl), tt))))) a e

check_rules : ArePlain (shape_at 1).rules
check_rules p a e =
    find_each p (IsPlainRule (shape_at 1).rules) (shape_at 1).rules
    ((λ _. option_rule refl refl refl), ((λ _. option_rule refl refl refl), ((λ _. help_rule refl refl), tt))) a e

terms_rules : ArePlain (shape_at 2).rules
terms_rules p a e =
    find_each p (IsPlainRule (shape_at 2).rules) (shape_at 2).rules
    ((λ _. option_rule refl refl refl), ((λ _. option_rule refl refl refl), ((λ _. help_rule refl refl), tt))) a e

select_shape : IsReadingShape (shape_at 0)
select_shape = record { single = refl; rules = select_rules; defaults = (refl, (refl, (refl, (refl, (refl, tt))))); workers = refl; piece = refl }

check_shape : IsReadingShape (shape_at 1)
check_shape = record { single = refl; rules = check_rules; defaults = (refl, (refl, (refl, tt))); workers = refl; piece = refl }

terms_shape : IsReadingShape (shape_at 2)
terms_shape = record { single = refl; rules = terms_rules; defaults = (refl, (refl, (refl, tt))); workers = refl; piece = refl }

no_help_entered : (name : Text) → IsNoHelp name → answers_to name (label_of (shape_at 3)) ≡ true → ⊥
no_help_entered name other answers =
    let is : codes "help" ≡ name = (bytes_eq-Decides _ _).0 (alone (bytes_eq (codes "help") name) answers) in
    true≢false (sym ((bytes_eq-Decides _ _).1 (sym is)) ∙ other)
  where
    alone : (b : Bool) → (b || false) ≡ true → b ≡ true
    alone true e = refl
    alone false e = absurd (true≢false (sym e))

-- each subcommand except `help` has a command if it accepts the arguments after it
each_taken : (name : Text) (words : List Text) → IsNoHelp name → Each (λ s. answers_to name (label_of s) ≡ true → Taken s words) subs
each_taken name words other = (
  (λ _. select_taken (shape_at 0) words refl select_shape refl (λ rows. refl)),
  (
    (λ _. check_taken (shape_at 1) words refl check_shape),
    ((λ _. terms_taken (shape_at 2) words refl terms_shape), ((λ answers. absurd (no_help_entered name other answers)), tt)),
  ),
)

entered_taken : (stop : Option (Text × List Text)) → StopsAtNoHelp stop → entered_fault (built program) stop ≡ []
    → is_some (entered (built program) stop) ≡ true → (command : Command) × IsCommandMet (entered (built program) stop) command
entered_taken None other none has = absurd (true≢false (sym has))
entered_taken (Some p) other none has =
    go (find (λ s. answers_to p.0 (label_of s)) subs)
    (λ s e. find_each (λ s. answers_to p.0 (label_of s)) (λ s. Taken s p.1) subs (each_taken p.0 p.1 other) s e) none has
  where
    go : (o : Option Shape) → ((s : Shape) → o ≡ Some s → Taken s p.1)
        → option_map_or (λ s. level_fault s [] nothing_held p.1 false []) o [] ≡ []
        → is_some (option_map (λ s. rows_at s p.1) o) ≡ true
        → (command : Command) × IsCommandMet (option_map (λ s. rows_at s p.1) o) command
    go None h e some = absurd (true≢false (sym some))
    go (Some s) h e some = h s refl e

-- arguments that the library accepts have a command
pub taken_has_command : (words : List Text) → fault_of program words ≡ []
    → (command : Command) × IsCommandMet (subcommand_of program words) command
taken_has_command words none =
    let names = names_of (built program) in
    let rest = argument_words (built program) words in
    let stop = stop_after top.rules names rest in
    let level = level_stops top names rest (is_some (entered (built program) stop)) (entered_fault (built program) stop) refl refl none in
    entered_taken stop level.0 level.1 level.2

-- so the library does not accept arguments that are not a command
pub not_taken : (words : List Text) → ((command : Command) → IsCommandLine words command → ⊥) → fault_of program words ≢ []
not_taken words no_command none =
    let found = taken_has_command words none in
    no_command found.0 (record { taken = none; matches = found.1 })
