-- The command that clap reads the words by.
use Rattle.std.specs.Prelude.{List, [], ◌∷◌, Some, true, codes}
use Rattle.clap.specs.Words.{App, Rule, Text, new_rule}
use Rattle.clap.specs.Simple.{on_top, new_shape}
use Rattle.clap.specs.declared.builder.action.ArgAction.TheVariants.{Set, SetTrue}

-- an option with one value, and a flag
abbrev pub valued : Text → Rule
valued name = record (new_rule name) { long = Some name; action = Some Set }

abbrev pub flag : Text → Rule
flag name = record (new_rule name) { long = Some name; action = Some SetTrue }

abbrev pub arguments : List Rule
arguments = new_rule (codes "app") ∷ new_rule (codes "script")
    ∷ valued (codes "size") ∷ valued (codes "check") ∷ valued (codes "workload")
    ∷ flag (codes "trace") ∷ flag (codes "state") ∷ flag (codes "layout") ∷ flag (codes "prefs") ∷ []

abbrev pub bare_app : App
bare_app = record {
  top = record (new_shape (codes "swiftview")) { disable_help_flag = true; disable_version_flag = true };
  subs = [];
}

unfoldable pub command : App
command = on_top (λ s. record s { rules = arguments }) bare_app
