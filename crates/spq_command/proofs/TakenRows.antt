-- What the library's walk keeps of each row if it accepts the arguments of a command. Each argument
-- of the command is an option of one value or a request for help.
use Rattle.std.proofs.Common.{◌≡◌, ◌∙◌, ◌&&◌, ◌||◌, ◌≤◌, ◌==◌, ◌⊎◌, ℕ, Bool, zero, suc, List, [], ◌∷◌, length, Option, Some, None, inl, inr, refl, sym, subst, ap, arith, cond, true, false, true≢false, is_some, not, ◌++◌}
use Rattle.std.proofs.lemmas.Bool.{ne_eqb}
use Rattle.std.specs.Prelude.{⊤, find, fold, slice_get, chars}
use Rattle.std.specs.Option.{option_map_or}
use Rattle.std.specs.Str.{bytes_eq}
use Rattle.clap.specs.Facts.{parser_of_value, unwrap_or_range}
use Rattle.clap.specs.Lexer.{long_of, short_of}
use Rattle.clap.specs.Walk.{Held, Names, Outcome, Row, Rule, Step, Text, Waiting, Walk, action_of, after_flag, after_step, arg_by_id, arg_by_index, arg_by_long, arg_by_short, at_row, attached_value, bundle_met, bundle_step, done, flag_met, has_row, idle, is_pending, long_met, long_or_other, more_values, next, nothing_held, option, option_met, option_word, plain, plain_word, positional, reacted, reading_by, refused, rows_after, settled, settled_rows, short_met, short_or_plain, subcommand, subcommand_met, subcommand_or_other, takes_several, takes_values, to_positional, trailing, used, values_or_missing, used_as, used_by_id, value, waits, walk, walk_from, walked, walked_from, with_default, default_rows, with_values, without, word_met}
use Rattle.clap.specs.Simple.{Shape}
use Rattle.clap.specs.Kinds.{Kinds, or_else, range_kinds, value_kinds}
use Rattle.clap.specs.Faults.{action_fault, bundle_step_fault, check_fault, defaults_fault, flag_word_fault, flags_fault, level_fault, long_fault, option_fault, other_fault, positional_fault, react_fault, repeat_fault, settle_fault, short_fault, step_fault, stray_fault, turn_fault, use_fault, values_fault, walk_fault, word_fault}
use Rattle.clap.specs.declared.builder.action.ArgAction.TheVariants.{Help, Set}
use Rattle.clap.specs.declared.builder.range.ValueRange.{ValueRange}
use Rattle.clap.specs.declared.error.kind.ErrorKind.{ErrorKind}
use Rattle.clap.specs.declared.error.kind.ErrorKind.TheVariants.{ArgumentConflict, DisplayHelp, TooManyValues, WrongNumberOfValues}
use Rattle.clap.specs.declared.parser.matches.ValueSource.TheVariants.{CommandLine}

pub or_none : (a b : Kinds) → or_else a b ≡ [] → (a ≡ []) × (b ≡ [])
or_none [] b h = (refl, h)
or_none (k ∷ ks) b h = absurd cc

pub some_kind : (k : ErrorKind) (ks : Kinds) → k ∷ ks ≡ [] → ⊥
some_kind k ks h = absurd cc

-- ---- a use of an argument

abbrev pub one : ValueRange
one = record { start_inclusive = 1; end_inclusive = 1 }

-- an option of one value
pub record IsOption (a : Rule) : Type 0 where
  pub action : action_of a ≡ Set
  pub range : a.range ≡ Some one

-- an option of one value or a request for help, the only argument of its name
pub record IsPlainRule (c : List Rule) (a : Rule) : Type 0 where
  pub kind : IsOption a ⊎ (action_of a ≡ Help)
  pub found : arg_by_id c a.id ≡ Some a

abbrev pub ArePlain : List Rule → Type 0
ArePlain c = (p : Rule → Bool) (a : Rule) → find p c ≡ Some a → IsPlainRule c a

-- a row of an argument of the command, with one value that its parser accepts
pub record IsFine (c : List Rule) (r : Row) : Type 0 where
  pub rule : Rule
  pub text : Text
  pub found : arg_by_id c r.id ≡ Some rule
  pub values : r.values ≡ text ∷ []
  pub reading : r.reading ≡ reading_by rule
  pub source : r.source ≡ Some CommandLine
  pub passes : value_kinds rule.ignore_case (parser_of_value rule.parser) text ≡ []

abbrev pub AreFine : List Rule → List Row → Type 0
AreFine c [] = ⊤
AreFine c (r ∷ rs) = IsFine c r × AreFine c rs

several : (n : ℕ) → 2 ≤ n → range_kinds 1 1 n ≡ [] → ⊥
several n big h =
    let a : (n == 0) ≡ false = ne_eqb _ _ (λ e. omega (arith, big, e)) in
    let b : (1 == n) ≡ false = ne_eqb _ _ (λ e. omega (arith, big, e)) in
    let bad : WrongNumberOfValues ∷ [] ≡ [] = rw (a, b) at h in
    absurd cc

one_value : (values : List Text) → range_kinds 1 1 (length values) ≡ [] → (v : Text) × (values ≡ v ∷ [])
one_value [] h = absurd cc
one_value (v ∷ []) h = (v, refl)
one_value (v ∷ w ∷ vs) h = absurd (several (length (v ∷ w ∷ vs)) (omega arith) h)

fine_added : (c : List Rule) (id : Text) (change : Row → List Row) (r : Row) (rows : List Row) → IsFine c r
    → has_row id rows ≡ false → AreFine c rows → AreFine c (at_row id change (r ∷ []) rows)
fine_added c id change r [] new fresh all = (new, tt)
fine_added c id change r (x ∷ rows) new fresh all =
    go (bytes_eq x.id id) fresh (λ rest. fine_added c id change r rows new rest all.1)
  where
    go : (b : Bool) → (b || has_row id rows) ≡ false
        → (has_row id rows ≡ false → AreFine c (at_row id change (r ∷ []) rows))
        → AreFine c (cond b (change x ++ rows) (x ∷ at_row id change (r ∷ []) rows))
    go true e rec = absurd (true≢false e)
    go false e rec = (all.0, rec e)

same_without : (id : Text) (rows : List Row) → has_row id rows ≡ false → without id rows ≡ rows
same_without id [] fresh = refl
same_without id (x ∷ rows) fresh = go (bytes_eq x.id id) fresh (λ rest. same_without id rows rest)
  where
    go : (b : Bool) → (b || has_row id rows) ≡ false → (has_row id rows ≡ false → without id rows ≡ rows)
        → cond b ([] ++ rows) (x ∷ without id rows) ≡ x ∷ rows
    go true e rec = absurd (true≢false e)
    go false e rec = ap (λ rs. x ∷ rs) (rec e)

module _ (s : Shape) (single : s.args_override_self ≡ false) (plain_rules : ArePlain s.rules) where
  abbrev c : List Rule
  c = s.rules

  abbrev again : Bool
  again = s.args_override_self

  abbrev Fine : List Row → Type 0
  Fine rows = AreFine c rows

  not_repeated : (b : Bool) → cond (b && not again) (ArgumentConflict ∷ []) [] ≡ [] → b ≡ false
  not_repeated true h =
      let bad : ArgumentConflict ∷ [] ≡ [] = rw single at h in
      absurd cc
  not_repeated false h = refl

  help_never : (a : Rule) (values : List Text) (rows : List Row) → action_of a ≡ Help → use_fault again a values rows ≡ [] → ⊥
  help_never a values rows is h =
      some_kind DisplayHelp [] (sym (ap (λ x. action_fault x again a (values_or_missing a values) rows) is) ∙ (or_none _ _ h).1)

  used_one : (a : Rule) (v : Text) (rows : List Row) → action_of a ≡ Set → arg_by_id c a.id ≡ Some a
      → action_fault (action_of a) again a (v ∷ []) rows ≡ [] → Fine rows → Fine (used a (v ∷ []) rows)
  used_one a v rows is found h all =
      let parts = or_none (repeat_fault again a.id rows) (values_fault a (v ∷ []))
      (sym (ap (λ x. action_fault x again a (v ∷ []) rows) is) ∙ h) in
      let fresh = not_repeated (has_row a.id rows) parts.0 in
      subst Fine (sym (ap (λ x. used_as x a.id (reading_by a) (v ∷ []) rows) is))
      (subst (λ rs. Fine (with_values a.id (reading_by a) CommandLine (v ∷ []) rs)) (sym (same_without a.id rows fresh))
      (fine_added c a.id (more_values CommandLine (v ∷ [])) (record {
        id = a.id;
        values = v ∷ [];
        count = None;
        source = Some CommandLine;
        reading = reading_by a;
      }) rows (record {
        rule = a;
        text = v;
        found = found;
        values = refl;
        reading = refl;
        source = refl;
        passes = (or_none _ _ parts.1).0;
      }) fresh all))

  used_fine : (a : Rule) (values : List Text) (rows : List Row) → IsPlainRule c a → use_fault again a values rows ≡ []
      → Fine rows → Fine (used a values rows)
  used_fine a values rows is h all = elim is.kind [
    | inl o ↦
        let parts = or_none _ _ h in
        let single_value = one_value values
        (sym (ap (λ r. range_kinds (unwrap_or_range r).start_inclusive (unwrap_or_range r).end_inclusive (length values)) o.range) ∙ parts.0) in
        subst (λ vs. Fine (used a vs rows)) (sym single_value.1)
        (used_one a single_value.0 rows o.action is.found
        (subst (λ vs. action_fault (action_of a) again a (values_or_missing a vs) rows ≡ []) single_value.1 parts.1) all)
    | inr help ↦ absurd (help_never a values rows help h)
  ]

  settle_use : (o : Option Rule) (values : List Text) (rows : List Row) → ((a : Rule) → o ≡ Some a → IsPlainRule c a)
      → option_map_or (λ a. use_fault again a values rows) o [] ≡ [] → Fine rows → Fine (used_by_id o values rows)
  settle_use None values rows is h all = all
  settle_use (Some a) values rows is h all = used_fine a values rows (is a refl) h all

  settle_by : (p : Option (Text × List Text)) (rows : List Row)
      → option_map_or (λ q. option_map_or (λ a. use_fault again a q.1 rows) (arg_by_id c q.0) []) p [] ≡ []
      → Fine rows → Fine (settled_rows c p rows)
  settle_by None rows h all = all
  settle_by (Some p) rows h all = settle_use (arg_by_id c p.0) p.1 rows (λ a e. plain_rules _ a e) h all

  react_fine : (a : Rule) (values : List Text) (h : Held) → IsPlainRule c a → react_fault c again a values h ≡ []
      → Fine h.rows → Fine (reacted c a values h).rows
  react_fine a values h is none all =
      let parts = or_none _ _ none in
      used_fine a values (settled c h).rows is parts.1 (settle_by h.pending h.rows parts.0 all)

  -- ---- a flag

  option_fine : (a : Rule) (v : Option Text) (h : Held) → IsPlainRule c a → option_fault c again a v h ≡ []
      → Fine h.rows → Fine (option_met c a v h).0.rows
  option_fine a (Some v) h is none all = react_fine a (v ∷ []) h is none all
  option_fine a None h is none all = settle_by h.pending h.rows none all

  long_fine : (o : Option Rule) (v : Option Text) (h : Held) → ((a : Rule) → o ≡ Some a → IsPlainRule c a)
      → long_fault c again o v h ≡ [] → Fine h.rows → Fine (long_met c o v h).0.rows
  long_fine None v h is none all = absurd cc
  long_fine (Some a) v h is none all = go (takes_values a) v none
    where
      go : (b : Bool) (w : Option Text)
          → cond b (option_fault c again a w h) (cond (is_some w) (TooManyValues ∷ []) (react_fault c again a [] h)) ≡ []
          → Fine (cond b (option_met c a w h) (flag_met c a w h)).0.rows
      go true w e = option_fine a w h (is a refl) e all
      go false None e = react_fine a [] h (is a refl) e all
      go false (Some w) e = absurd cc

  short_fine : (o : Option Rule) (rest : Text) (h : Held) (more : Held → Held × Outcome) (more_fault : Held → Kinds)
      → ((a : Rule) → o ≡ Some a → IsPlainRule c a)
      → ((g : Held) → more_fault g ≡ [] → Fine g.rows → Fine (more g).0.rows)
      → short_fault c again o rest h more_fault ≡ [] → Fine h.rows → Fine (short_met c o rest h more).0.rows
  short_fine None rest h more more_fault is rec none all = absurd cc
  short_fine (Some a) rest h more more_fault is rec none all = go (takes_values a) none
    where
      go : (b : Bool)
          → cond b (option_fault c again a (attached_value rest) h) (or_else (react_fault c again a [] h) (more_fault (reacted c a [] h))) ≡ []
          → Fine (cond b (option_met c a (attached_value rest) h) (more (reacted c a [] h))).0.rows
      go true e = option_fine a (attached_value rest) h (is a refl) e all
      go false e =
          let parts = or_none _ _ e in
          rec (reacted c a [] h) parts.1 (react_fine a [] h (is a refl) parts.0 all)

  step_of_bundle : (x : Option ℕ) (flags : Text) (skip : ℕ) (so_far : Outcome) (h : Held)
      (more : Text → ℕ → Outcome → Held → Held × Outcome) (more_fault : Text → ℕ → Held → Kinds)
      → ((f : Text) (k : ℕ) (o : Outcome) (g : Held) → more_fault f k g ≡ [] → Fine g.rows → Fine (more f k o g).0.rows)
      → bundle_step_fault c again x flags skip h more_fault ≡ [] → Fine h.rows
      → Fine (bundle_step c x flags skip so_far h more).0.rows
  step_of_bundle None flags skip so_far h more more_fault rec none all = all
  step_of_bundle (Some x) flags zero so_far h more more_fault rec none all =
      short_fine (arg_by_short c x) _ h _ _ (λ a e. plain_rules _ a e) (λ g. rec _ 0 done g) none all
  step_of_bundle (Some x) flags (suc skip) so_far h more more_fault rec none all = rec _ skip so_far h none all

  bundle_fine : (k : ℕ) (flags : Text) (skip : ℕ) (so_far : Outcome) (h : Held) → flags_fault c again k flags skip h ≡ []
      → Fine h.rows → Fine (bundle_met c k flags skip so_far h).0.rows
  unfolding flags_fault bundle_met
  bundle_fine zero flags skip so_far h none all = all
  bundle_fine (suc k) flags skip so_far h none all =
      step_of_bundle (slice_get (chars flags) 0) flags skip so_far h (bundle_met c k) (flags_fault c again k)
      (λ f n o g. bundle_fine k f n o g) none all

  -- ---- a word

  option_word_same : (o : Option Rule) (id word : Text) (h : Held) → (option_word o id word h).0.rows ≡ h.rows
  option_word_same None id word h = refl
  option_word_same (Some a) id word h = refl

  plain_same : (w : Waiting) (word : Text) (h : Held) → (plain_word c w word h).0.rows ≡ h.rows
  plain_same idle word h = refl
  plain_same (option id) word h = option_word_same (arg_by_id c id) id word h
  plain_same positional word h = refl

  after_same : (w : Waiting) (word : Text) (h : Held) (o : Outcome) → (after_flag c w word h o).0.rows ≡ h.rows
  after_same w word h done = refl
  after_same w word h (waits id) = refl
  after_same w word h plain = plain_same w word h
  after_same w word h refused = plain_same w word h

  flags_or_plain : (w : Waiting) (word : Text) (o : Option Text) (h : Held)
      → option_map_or (λ flags. flags_fault c again (length flags) flags h.skip (record h { skip = 0 })) o [] ≡ []
      → Fine h.rows → Fine (short_or_plain c w word o h).0.rows
  flags_or_plain w word None h none all = subst Fine (sym (plain_same w word h)) all
  flags_or_plain w word (Some flags) h none all =
      subst Fine (sym (after_same w word _ _)) (bundle_fine (length flags) flags h.skip plain (record h { skip = 0 }) none all)

  flag_fine : (w : Waiting) (word : Text) (o : Option (Text × Option Text)) (h : Held) → flag_word_fault c again o word h ≡ []
      → Fine h.rows → Fine (long_or_other c w word o h).0.rows
  flag_fine w word None h none all = flags_or_plain w word (short_of word) h none all
  flag_fine w word (Some p) h none all =
      subst Fine (sym (after_same w word _ _)) (long_fine (arg_by_long c p.0) p.1 h (λ a e. plain_rules _ a e) none all)

  other_fine : (o : Option Text) (w : Waiting) (position : ℕ) (word : Text) (h : Held) → other_fault s o word h ≡ []
      → Fine h.rows → Fine (subcommand_or_other c o w position word h).0.rows
  other_fine (Some name) w position word h none all = all
  other_fine None w position word h none all = go (bytes_eq word (45 ∷ 45 ∷ [])) none
    where
      go : (b : Bool) → cond b [] (flag_word_fault c again (long_of word) word h) ≡ []
          → Fine (cond b (h, trailing position) (long_or_other c w word (long_of word) h)).0.rows
      go true e = all
      go false e = flag_fine w word (long_of word) h e all

  word_fine : (names : Names) (t : Bool) (w : Waiting) (position : ℕ) (word : Text) (h : Held) → word_fault s names t w word h ≡ []
      → Fine h.rows → Fine (word_met c names t w position word h).0.rows
  word_fine names true w position word h none all = all
  word_fine names false w position word h none all = other_fine (subcommand_met names w word) w position word h none all

  value_fine : (o : Option Rule) (word : Text) (w : Walk) (h : Held)
      → option_map_or (λ a. positional_fault c again a h) o (stray_fault s) ≡ []
      → Fine h.rows → Fine (to_positional c o word w h).held.rows
  value_fine None word w h none all = all
  value_fine (Some a) word w h none all = go (is_pending a h.pending && takes_several a) none
    where
      go : (b : Bool) → cond b [] (settle_fault c again h) ≡ [] → Fine (cond b h (settled c h)).rows
      go true e = all
      go false e = settle_by h.pending h.rows e all

  step_fine : (word : Text) (w : Walk) (h : Held) (step : Step) → step_fault s w.position h step ≡ []
      → Fine h.rows → Fine (after_step c word w h step).held.rows
  step_fine word w h (next waiting) none all = all
  step_fine word w h (trailing position) none all = all
  step_fine word w h (subcommand name) none all = all
  step_fine word w h value none all = value_fine (arg_by_index c w.position) word w h none all

  turn_fine : (names : Names) (w : Walk) (word : Text) → turn_fault s names w word ≡ []
      → Fine w.held.rows → Fine (walked c names w word).held.rows
  unfolding walked
  turn_fine names w word none all = go w.stopped none
    where
      go : (o : Option (Text × List Text))
          → cond (is_some o) [] (or_else (word_fault s names w.is_trailing w.waiting word w.held)
          (step_fault s w.position (word_met c names w.is_trailing w.waiting w.position word w.held).0
          (word_met c names w.is_trailing w.waiting w.position word w.held).1)) ≡ []
          → Fine (walked_from c names o w word).held.rows
      go (Some p) e = all
      go None e =
          let parts = or_none _ _ e in
          step_fine word w _ _ parts.1 (word_fine names w.is_trailing w.waiting w.position word w.held parts.0 all)

  walk_fine : (names : Names) (w : Walk) (words : List Text) → walk_fault s names w words ≡ []
      → Fine w.held.rows → Fine (fold (walked c names) w words).held.rows
  unfolding walk_fault
  walk_fine names w [] none all = all
  walk_fine names w (word ∷ rest) none all =
      let parts = or_none _ _ none in
      walk_fine names (walked c names w word) rest parts.1 (turn_fine names w word parts.0 all)

-- ---- after the walk

abbrev pub HaveNoDefaults : List Rule → Type 0
HaveNoDefaults [] = ⊤
HaveNoDefaults (a ∷ rest) = (a.defaults ≡ []) × HaveNoDefaults rest

no_default : (rows : List Row) (a : Rule) → a.defaults ≡ [] → with_default rows a ≡ rows
no_default rows a e =
    ap (λ d. cond (has_row a.id rows) rows (default_rows a.id (reading_by a) d rows)) e ∙ same (has_row a.id rows)
  where
    same : (b : Bool) → cond b rows rows ≡ rows
    same true = refl
    same false = refl

no_defaults : (rules : List Rule) (rows : List Row) → HaveNoDefaults rules → fold with_default rows rules ≡ rows
no_defaults [] rows h = refl
no_defaults (a ∷ rest) rows h =
    ap (λ rs. fold with_default rs rest) (no_default rows a h.0) ∙ no_defaults rest rows h.1

-- a level of a parse that accepts its arguments: each step of it passes
pub level_passes : (s : Shape) (names : Names) (words : List Text) (has : Bool) (below : Kinds)
    → level_fault s names nothing_held words has below ≡ []
    → (walk_fault s names (walk_from nothing_held) words ≡ []) × (below ≡ [])
    × (settle_fault s.rules s.args_override_self (walk s.rules names nothing_held words).held ≡ [])
    × (check_fault s (rows_after s.rules names words) has ≡ [])
level_passes s names words has below none =
    let end = (walk s.rules names nothing_held words).held in
    let a = or_none (walk_fault s names (walk_from nothing_held) words) _ none in
    let b = or_none below _ a.1 in
    let d = or_none (settle_fault s.rules s.args_override_self end) _ b.1 in
    let e = or_none (defaults_fault (settled s.rules end).rows s.rules) _ d.1 in
    (a.0, b.0, d.0, e.1)

-- and its rows are well-formed
pub level_fine : (s : Shape) (names : Names) (words : List Text) (has : Bool) (below : Kinds)
    → s.args_override_self ≡ false → ArePlain s.rules → HaveNoDefaults s.rules
    → level_fault s names nothing_held words has below ≡ []
    → AreFine s.rules (rows_after s.rules names words) × (check_fault s (rows_after s.rules names words) has ≡ [])
level_fine s names words has below single rules defaults none =
    let passes = level_passes s names words has below none in
    let end = (walk s.rules names nothing_held words).held in
    let rows = walk_fine s single rules names (walk_from nothing_held) words passes.0 tt in (
      subst (AreFine s.rules) (sym (no_defaults s.rules (settled s.rules end).rows defaults))
          (settle_by s single rules end.pending end.rows passes.2 rows),
      passes.3,
    )
