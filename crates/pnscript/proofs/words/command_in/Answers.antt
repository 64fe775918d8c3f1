-- The result of the program's words for its two subcommands.
use Rattle.std.proofs.Common.{refl, ap, ap₂, ◌∙◌}
use Rattle.std.proofs.lemmas.Result.{err_from_is_err_and}
use Rattle.clap.specs.Words.{is_simple, subcommand_of, takes}
use Rattle.pnscript.proofs.Named.{is_program, is_simple_program, takes_word, task_met, is_same_task, task_is_met}
use Rattle.pnscript.proofs.words.command_in.Goals as goal

pub returns-in_err-matches-clause-passes : goal.returns-in_err-matches-clause-passes
returns-in_err-matches-clause-passes c =
    let p = err_from_is_err_and c.from_residual-in_err-matches.result c.from_residual-in_err-matches.ensures.1 in
    let program = is_program _ _ _ _ _ (c.in_ok-alone.ensures.shape c.new-2.ensures.local) c.new.ensures.app c.new-2.ensures.app (c.in_ok-command.ensures.shape c.new-3.ensures.local) c.new-3.ensures.app in
    rw (p.1, p.2) (λ name word task words. c.in_err-matches.ensures.passes (ap₂ takes program words ∙ takes_word name word task))

pub returns-clause-met : goal.returns-clause-met
returns-clause-met c name word words =
    let program = is_program _ _ _ _ _ (c.in_ok-alone.ensures.shape c.new-2.ensures.local) c.new.ensures.app c.new-2.ensures.app (c.in_ok-command.ensures.shape c.new-3.ensures.local) c.new-3.ensures.app in
    let named = (c.in_ok-matches.ensures.matches (ap is_simple program ∙ is_simple_program)).1 ∙ ap₂ subcommand_of program words in
    c.task_in.ensures ∙ is_same_task _ _ c.subcommand_name.result c.subcommand_name.ensures ∙ ap task_met named ∙ task_is_met name word
