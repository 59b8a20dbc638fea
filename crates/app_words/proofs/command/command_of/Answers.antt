use Rattle.std.proofs.Common.{ap, codes, ◌∙◌}
use Rattle.std.proofs.lemmas.Result.{IfOk-weaker}
use Rattle.clap.specs.Words.{App, Rule, new_rule, with_rule}
use Rattle.app_words.specs.Command.{command, flag, valued}
use Rattle.app_words.proofs.command.command_of.Goals as goal

abbrev add : Rule → App → App
add rule app = with_rule app rule

pub returns : goal.returns
unfolding command
returns c =
    let s1 = c.in_ok-command.ensures ∙ ap (add (new_rule (codes "app"))) c.bare_command-command.ensures in
    let s2 = c.in_ok-command-2.ensures ∙ ap (add (new_rule (codes "script"))) s1 in
    let s3 = c.in_ok-command-3.ensures ∙ ap (add (valued (codes "size"))) s2 in
    let s4 = c.in_ok-command-4.ensures ∙ ap (add (valued (codes "check"))) s3 in
    let s5 = c.in_ok-command-5.ensures ∙ ap (add (valued (codes "workload"))) s4 in
    let s6 = c.in_ok-command-6.ensures ∙ ap (add (flag (codes "trace"))) s5 in
    let s7 = c.in_ok-command-7.ensures ∙ ap (add (flag (codes "state"))) s6 in
    let s8 = c.in_ok-command-8.ensures ∙ ap (add (flag (codes "layout"))) s7 in
    IfOk-weaker c.with_flag-4.result _ _ (λ r is. is ∙ ap (add (flag (codes "prefs"))) s8) c.with_flag-4.ensures
