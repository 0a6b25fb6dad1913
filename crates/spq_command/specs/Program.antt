-- The command line of the program, which is a choice of this project, as the library of command
-- lines describes it; and the command of its matches.
use Rattle.std.specs.Prelude.{◌≡◌, ℕ, true, false, List, [], ◌∷◌, ◌++◌, Option, Some, None, codes}
use Rattle.std.specs.Str.Parse.{digits_value, without_leading_plus}
use Rattle.spq_command.specs.Limits.{workers_default, workers_limit, piece_default, piece_limit, rows_default, rows_limit}
use Rattle.clap.specs.Words.{App, Row, Rule, Text, fault_of, first_of, new_rule, one_of, subcommand_of}
use Rattle.clap.specs.Simple.{new_shape}
use Rattle.clap.specs.Values.{IsUnsignedIn}
use Rattle.clap.specs.declared.builder.value_parser.ValueParser.TheVariants.{Unsigned}
use Rattle.spq_command.specs.declared.command.Command.{Command}
use Rattle.spq_command.specs.declared.command.Command.TheVariants.{Select, Check, Terms}
use Rattle.spq_command.specs.declared.command.ReadOptions.{ReadOptions}

-- ---- the options and the subcommands

-- `--name TEXT`, where the help has one name for the value
abbrev pub text_option : Text → Rule
text_option name = record (new_rule name) { long = Some name; value_names = 1 }

-- `--name N`, a number from 1 to `most`
abbrev pub number_option : Text → ℕ → Rule
number_option name most = record (text_option name) { parser = Some (Unsigned 1 most) }

abbrev pub query_option : Rule
query_option = record (text_option (codes "query")) { required = true }

abbrev pub rows_option : Rule
rows_option = number_option (codes "rows") rows_limit

abbrev pub workers_option : Rule
workers_option = number_option (codes "workers") workers_limit

abbrev pub piece_option : Rule
piece_option = number_option (codes "piece") piece_limit

-- how a document is read
abbrev pub reading_options : List Rule
reading_options = workers_option ∷ piece_option ∷ []

abbrev pub select_options : List Rule
select_options = reading_options ++ query_option ∷ rows_option ∷ []

-- a command with these options
abbrev pub with_options : Text → List Rule → App
with_options name rules = record { top = record (new_shape name) { rules = rules }; subs = [] }

-- the program, which requires one of its subcommands
abbrev pub program : App
program = record {
  top = record (new_shape (codes "spq")) { is_leaf = false; subcommand_required = true };
  subs = (with_options (codes "select") select_options).top
      ∷ (with_options (codes "check") reading_options).top
      ∷ (with_options (codes "terms") reading_options).top ∷ [];
}

-- ---- the command of the matches

-- the number of an option: its default if it is not given, and otherwise the decimal number of its
-- text, with or without a plus sign, from 1 to `most`
abbrev pub IsNumber : ℕ → ℕ → Option Text → ℕ → Type 0
IsNumber default most None n = n ≡ default
IsNumber default most (Some text) n =
    IsUnsignedIn 1 most text × (n ≡ digits_value 10 (without_leading_plus text))

abbrev pub HasNumber : Text → ℕ → ℕ → List Row → ℕ → Type 0
HasNumber name default most found n = IsNumber default most (one_of name found) n

pub record HasReadOptions (found : List Row) (reading : ReadOptions) : Type 0 where
  pub workers : HasNumber (codes "workers") workers_default workers_limit found reading.workers
  pub piece : HasNumber (codes "piece") piece_default piece_limit found reading.piece

pub record HasSelect (found : List Row) (query : Text) (reading : ReadOptions) (rows : ℕ) : Type 0 where
  pub text : first_of (codes "query") found ≡ Some query
  pub how : HasReadOptions found reading
  pub size : HasNumber (codes "rows") rows_default rows_limit found rows

-- the name of the subcommand, and the values of its rows
abbrev pub IsCommandOf : Text × List Row → Command → Type 0
IsCommandOf found (Select query reading rows) =
    (found.0 ≡ codes "select") × HasSelect found.1 query reading rows
IsCommandOf found (Check reading) = (found.0 ≡ codes "check") × HasReadOptions found.1 reading
IsCommandOf found (Terms reading) = (found.0 ≡ codes "terms") × HasReadOptions found.1 reading

-- the subcommand in the arguments is this command
abbrev pub IsCommandMet : Option (Text × List Row) → Command → Type 0
IsCommandMet None command = ⊥
IsCommandMet (Some found) command = IsCommandOf found command

-- the library accepts the arguments, and the command is that of their matches
pub record IsCommandLine (words : List Text) (command : Command) : Type 0 where
  pub taken : fault_of program words ≡ []
  pub matches : IsCommandMet (subcommand_of program words) command
