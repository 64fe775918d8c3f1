-- What the command line asks for.
use Rattle.std.specs.Prelude.{ℕ, Bool, List, [], ◌∷◌, codes, Option, Some, None, is_some, if◌then◌else◌}
use Rattle.std.specs.Str.{bytes_eq}
use Rattle.pnscript.specs.declared.words.Task.{Task}
use Rattle.pnscript.specs.declared.words.Task.TheVariants.{Run, Plan}

-- The task of a subcommand.
abbrev pub task_named : List ℕ → Option Task
task_named word = if bytes_eq (codes "run") word then Some Run else if bytes_eq (codes "plan") word then Some Plan else None

-- A word is a subcommand.
abbrev pub is_word : List ℕ → Bool
is_word word = is_some (task_named word)

-- The task of a command line: the one that the word after the program's name names, if no other word follows.
abbrev pub task_asked : List (List ℕ) → Option Task
task_asked (program ∷ word ∷ []) = task_named word
task_asked _ = None
