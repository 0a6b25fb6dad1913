-- The subcommand in the arguments, and its command.
use Rattle.std.proofs.Common.{◌≡◌, ◌∙◌, ℕ, List, [], ◌∷◌, Option, Some, None, inl, inr, refl, sym, subst, ap, ap₂, arith, codes, option_map, slice_index, Box, box_value, true}
use Rattle.clap.specs.Words.{App, HasMatchesOf, Row, Text, fault_of, is_simple, is_simple_and_free, subcommand_of, subcommand_rows_of}
use Rattle.clap.specs.Words.{subcommand_name_of}
use Rattle.clap.specs.Simple.{subcommand_rows}
use Rattle.clap.specs.Kinds.{HasKind, Kinds}
use Rattle.clap.specs.Values.{kind_of}
use Rattle.clap.specs.declared.error.Error.{Error}
use Rattle.clap.specs.declared.error.kind.ErrorKind.TheVariants.{OutOfMemory}
use Rattle.clap.specs.declared.parser.matches.ArgMatches.{ArgMatches}
use Rattle.clap.specs.declared.parser.matches.ArgMatches.TheViews.{out-ArgMatches, out-SubCommand}
use Rattle.clap.specs.declared.parser.matches.SubCommand.{SubCommand}
use Rattle.clap.proofs.OnLiterals.{clap_on_literals}
use Rattle.spq_command.specs.Program.{HasReadOptions, HasSelect, IsCommandLine, IsCommandMet, IsCommandOf, program}
use Rattle.spq_command.specs.declared.command.Command.{Command}
use Rattle.spq_command.specs.declared.command.Command.TheVariants.{Select, Check, Terms}
use Rattle.spq_command.specs.declared.command.ReadOptions.{ReadOptions}

program_is_simple : is_simple_and_free program ≡ true
unfolding clap_on_literals
program_is_simple = refl

program_is_simple_alone : is_simple program ≡ true
unfolding clap_on_literals
program_is_simple_alone = refl

-- the name and the rows, together
both : (o : Option (Text × List Row)) (name : Text) (rows : List Row) → option_map (λ p. p.0) o ≡ Some name
    → option_map (λ p. p.1) o ≡ Some rows → o ≡ Some (name, rows)
both None name rows is there = cc
both (Some p) name rows is there =
    let a : p.0 ≡ name = cc in
    let b : p.1 ≡ rows = cc in
    ap₂ (λ (x : Text) (y : List Row). Some (x, y)) a b

name_is : {Z : Type 0} (sub : Option (Box SubCommand Z)) → option_map (λ p. p.0) (subcommand_rows sub)
    ≡ option_map (λ b. (out-SubCommand (box_value b)).name.now) sub
name_is None = refl
name_is (Some b) = refl

pub met : (m : ArgMatches) (name : Text) (rows : List Row) → subcommand_name_of m ≡ Some name
    → option_map (λ p. p.1) (subcommand_rows (out-ArgMatches m).subcommand) ≡ Some rows → subcommand_rows_of m ≡ Some (name, rows)
met m name rows is there =
    both (subcommand_rows_of m) name rows (name_is (out-ArgMatches m).subcommand ∙ is) there

no_rows : (o : Option (Text × List Row)) → option_map (λ p. p.0) o ≡ None → (command : Command) → IsCommandMet o command → ⊥
no_rows None is command h = h
no_rows (Some p) is command h = absurd cc

pub none_met : (m : ArgMatches) → subcommand_name_of m ≡ None → (command : Command) → IsCommandMet (subcommand_rows_of m) command → ⊥
none_met m is = no_rows (subcommand_rows_of m) (name_is (out-ArgMatches m).subcommand ∙ is)

-- ---- the names of the subcommands differ

select≢check : codes "select" ≡ codes "check" → ⊥
select≢check e = let bad : ◌≡◌ {A = ℕ} 115 99 = ap (λ (l : Text). slice_index l 0) e in absurd (omega arith)

select≢terms : codes "select" ≡ codes "terms" → ⊥
select≢terms e = let bad : ◌≡◌ {A = ℕ} 115 116 = ap (λ (l : Text). slice_index l 0) e in absurd (omega arith)

check≢terms : codes "check" ≡ codes "terms" → ⊥
check≢terms e = let bad : ◌≡◌ {A = ℕ} 99 116 = ap (λ (l : Text). slice_index l 0) e in absurd (omega arith)

pub no_select : (found : Text × List Row) (command : Command) → found.0 ≡ codes "select"
    → ((query : Text) (reading : ReadOptions) (rows : ℕ) → HasSelect found.1 query reading rows → ⊥) → IsCommandOf found command → ⊥
no_select found (Select query reading rows) is none h = none query reading rows h.1
no_select found (Check reading) is none h = select≢check (sym is ∙ h.0)
no_select found (Terms reading) is none h = select≢terms (sym is ∙ h.0)

pub no_check : (found : Text × List Row) (command : Command) → found.0 ≡ codes "check"
    → ((reading : ReadOptions) → HasReadOptions found.1 reading → ⊥) → IsCommandOf found command → ⊥
no_check found (Select query reading rows) is none h = select≢check (sym h.0 ∙ is)
no_check found (Check reading) is none h = none reading h.1
no_check found (Terms reading) is none h = check≢terms (sym is ∙ h.0)

pub no_terms : (found : Text × List Row) (command : Command) → found.0 ≡ codes "terms"
    → ((reading : ReadOptions) → HasReadOptions found.1 reading → ⊥) → IsCommandOf found command → ⊥
no_terms found (Select query reading rows) is none h = select≢terms (sym h.0 ∙ is)
no_terms found (Check reading) is none h = check≢terms (sym h.0 ∙ is)
no_terms found (Terms reading) is none h = none reading h.1

pub no_other : (found : Text × List Row) (command : Command) → (found.0 ≡ codes "select" → ⊥) → (found.0 ≡ codes "check" → ⊥)
    → (found.0 ≡ codes "terms" → ⊥) → IsCommandOf found command → ⊥
no_other found (Select query reading rows) s c t h = s h.0
no_other found (Check reading) s c t h = c h.0
no_other found (Terms reading) s c t h = t h.0

-- ---- the kinds of an error

pub rejected_kinds : (kinds : Kinds) (e : Error) → HasKind kinds e → (kind_of e ≡ OutOfMemory → ⊥) → kinds ≡ [] → ⊥
rejected_kinds [] e h other is = elim h [ inl memory ↦ other memory | inr among ↦ among ]
rejected_kinds (k ∷ ks) e h other is = absurd cc

-- ---- the library's result for a command line of the program

pub line_meets : (a : App) (words : List Text) (m : ArgMatches) (command : Command) → a ≡ program
    → (is_simple_and_free a ≡ true → fault_of a words ≡ []) → HasMatchesOf a words m
    → IsCommandMet (subcommand_rows_of m) command → IsCommandLine words command
line_meets a words m command is free matches h =
    let simple = ap is_simple_and_free is ∙ program_is_simple in
    record {
      taken = subst (λ (b : App). fault_of b words ≡ []) is (free simple);
      matches = subst (λ (o : Option (Text × List Row)). IsCommandMet o command)
          ((matches (ap is_simple is ∙ program_is_simple_alone)).1 ∙ ap (λ (b : App). subcommand_of b words) is) h;
    }

pub line_met : (a : App) (words : List Text) (m : ArgMatches) (command : Command) → a ≡ program
    → HasMatchesOf a words m → IsCommandLine words command → IsCommandMet (subcommand_rows_of m) command
line_met a words m command is matches line =
    subst (λ (o : Option (Text × List Row)). IsCommandMet o command)
    (sym ((matches (ap is_simple is ∙ program_is_simple_alone)).1 ∙ ap (λ (b : App). subcommand_of b words) is)) line.matches

pub line_rejected : (a : App) (words : List Text) (e : Error) (command : Command) → a ≡ program
    → (is_simple_and_free a ≡ true → HasKind (fault_of a words) e) → (kind_of e ≡ OutOfMemory → ⊥)
    → IsCommandLine words command → ⊥
line_rejected a words e command is kinds other line =
    rejected_kinds (fault_of program words) e
    (subst (λ (b : App). HasKind (fault_of b words) e) is (kinds (ap is_simple_and_free is ∙ program_is_simple))) other line.taken
