-- SPDX-License-Identifier: Apache-2.0
-- The program's command, in the words of `clap`'s definition of a simple command.
use Rattle.std.specs.Prelude.{ℕ, Some, true, codes, pos}
use Rattle.clap.specs.Words.{App, Rule, Text, new_app, new_rule, with_rule, with_subcommand}
use Rattle.clap.specs.Simple.{on_top}
use Rattle.clap.specs.declared.builder.action.ArgAction.TheVariants.{Set}
use Rattle.clap.specs.declared.builder.value_parser.ValueParser.TheVariants.{Signed}

-- `--name VALUE`, at most once
abbrev pub free_option : Text → Rule
free_option name = record (new_rule name) { long = Some name; action = Some Set; value_names = 1 }

-- `--name VALUE`, once
abbrev pub required_option : Text → Rule
required_option name = record (free_option name) { required = true }

-- `--name NUMBER`, once, with a number from 1 to `most`
abbrev pub number_option : Text → ℕ → Rule
number_option name most = record (required_option name) { parser = Some (Signed (pos 1) (pos most)) }

abbrev pub run_app : App
run_app = with_rule (with_rule (with_rule (new_app (codes "run"))
    (required_option (codes "settings"))) (required_option (codes "store"))) (free_option (codes "only"))

abbrev pub serve_app : App
serve_app = with_rule (with_rule (with_rule (with_rule (new_app (codes "serve"))
    (required_option (codes "settings"))) (required_option (codes "store")))
    (number_option (codes "port") 65535)) (number_option (codes "connections") 1000000)

-- the words are those after the program's name, and one of the two subcommands must be there
abbrev pub mserve_app : App
mserve_app = with_subcommand (with_subcommand
    (on_top (λ s. record s { no_binary_name = true; subcommand_required = true }) (new_app (codes "mserve")))
    run_app.top) serve_app.top
