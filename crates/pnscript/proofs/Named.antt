-- The subcommand that is the only word after the program's name.
use Rattle.std.proofs.Common.{◌≡◌, Bool, true, false, List, [], ◌∷◌, Option, Some, None, option_map, option_and_then, is_some, subst, ◌||◌, if◌then◌else◌, ap, ap₂, ◌∙◌, refl, codes, Bor}
use Rattle.std.specs.Str.{bytes_eq}
use Rattle.std.proofs.lemmas.Slice.Eq.{bytes_eq-Decides}
use Rattle.clap.specs.Walk.{Held, Names, Outcome, Rule, Step, Walk, Text, Row, after_flag, after_step, arg_by_index, done, idle, long_or_other, plain, refused, short_or_plain, stop_after, subcommand_met, subcommand_or_other, to_positional, trailing, waits, walk_from, walked, nothing_held}
use Rattle.clap.specs.Lexer.{long_of, short_of}
use Rattle.clap.specs.Words.{App, new_app, with_subcommand, built, subcommand_of, is_simple, takes}
use Rattle.clap.specs.Simple.{entered, names_of}
use Rattle.clap.proofs.OnLiterals.{clap_on_literals}
use Rattle.pnscript.specs.declared.words.Task.{Task}
use Rattle.pnscript.specs.declared.words.Task.TheVariants.{Run, Plan}
use Rattle.pnscript.specs.Words.{is_word, task_named}

-- The program with its two subcommands.
abbrev run_alone : App
run_alone = with_subcommand (new_app (codes "pnscript")) (new_app (codes "run")).top

abbrev pub program : App
program = with_subcommand run_alone (new_app (codes "plan")).top

pub is_program : (above run one plan all : App) → one ≡ with_subcommand above run.top → above ≡ new_app (codes "pnscript") → run ≡ new_app (codes "run") → all ≡ with_subcommand one plan.top → plan ≡ new_app (codes "plan") → all ≡ program
is_program above run one plan all adds above_is run_is adds_on plan_is =
    let one_is : one ≡ run_alone = adds ∙ ap₂ with_subcommand above_is (ap (λ (a : App). a.top) run_is) in
    adds_on ∙ ap₂ with_subcommand one_is (ap (λ (a : App). a.top) plan_is)

pub is_simple_program : is_simple program ≡ true
unfolding clap_on_literals
is_simple_program = refl

takes_run : (name : Text) → takes program (name ∷ codes "run" ∷ []) ≡ true
unfolding clap_on_literals
takes_run name = refl

takes_plan : (name : Text) → takes program (name ∷ codes "plan" ∷ []) ≡ true
unfolding clap_on_literals
takes_plan name = refl

-- The first of the two subcommands that a word equals.
abbrev first_of : Bool → Bool → Option Task
first_of run plan = if run then Some Run else if plan then Some Plan else None

takes_one : (name word : Text) (run plan : Bool) → bytes_eq (codes "run") word ≡ run → bytes_eq (codes "plan") word ≡ plan → is_some (first_of run plan) ≡ true → takes program (name ∷ word ∷ []) ≡ true
takes_one name word true plan is_run is_plan some =
    subst (λ (text : Text). takes program (name ∷ text ∷ []) ≡ true) ((bytes_eq-Decides (codes "run") word).0 is_run) (takes_run name)
takes_one name word false true is_run is_plan some =
    subst (λ (text : Text). takes program (name ∷ text ∷ []) ≡ true) ((bytes_eq-Decides (codes "plan") word).0 is_plan) (takes_plan name)
takes_one name word false false is_run is_plan some = cc

-- A word that names a task is accepted.
pub takes_word : (name word : Text) → is_word word ≡ true → takes program (name ∷ word ∷ []) ≡ true
takes_word name word some = takes_one name word (bytes_eq (codes "run") word) (bytes_eq (codes "plan") word) refl refl some

-- A subcommand with no word after it.
abbrev alone : Text → Text × List Text
alone name = (name, [])

-- The state of the parser after a word that is not a subcommand.
abbrev after : List Rule → Text → Held × Step → Walk
after rules word met = after_step rules word (walk_from nothing_held) met.0 met.1

positional : (rules : List Rule) (word : Text) (held : Held) (rule : Option Rule)
    → (to_positional rules rule word (walk_from nothing_held) held).stopped ≡ None
positional rules word held None = refl
positional rules word held (Some rule) = refl

flag : (rules : List Rule) (word : Text) (held : Held) (outcome : Outcome) → (after rules word (after_flag rules idle word held outcome)).stopped ≡ None
flag rules word held done = refl
flag rules word held (waits id) = refl
flag rules word held plain = positional rules word held (arg_by_index rules 1)
flag rules word held refused = positional rules word held (arg_by_index rules 1)

short : (rules : List Rule) (word : Text) (flags : Option Text) → (after rules word (short_or_plain rules idle word flags nothing_held)).stopped ≡ None
short rules word (Some flags) = flag rules word _ _
short rules word None = positional rules word nothing_held (arg_by_index rules 1)

long : (rules : List Rule) (word : Text) (found : Option (Text × Option Text)) → (after rules word (long_or_other rules idle word found nothing_held)).stopped ≡ None
long rules word (Some found) = flag rules word _ _
long rules word None = short rules word (short_of word)

other : (rules : List Rule) (word : Text) (dashes : Bool)
    → (after rules word (if dashes then (nothing_held, trailing 1) else long_or_other rules idle word (long_of word) nothing_held)).stopped ≡ None
other rules word true = refl
other rules word false = long rules word (long_of word)

-- The parser stops at a subcommand that the word names, and at nothing else.
stops : (rules : List Rule) (word : Text) (met : Option Text)
    → (after rules word (subcommand_or_other rules met idle 1 word nothing_held)).stopped ≡ option_map alone met
stops rules word (Some name) = refl
stops rules word None = other rules word (bytes_eq word (45 ∷ 45 ∷ []))

stops_after : (rules : List Rule) (names : Names) (word : Text)
    → stop_after rules names (word ∷ []) ≡ option_map alone (subcommand_met names idle word)
unfolding walked
stops_after rules names word = stops rules word (subcommand_met names idle word)

-- The task of the subcommand that was found.
abbrev pub task_met : Option (Text × List Row) → Option Task
task_met met = option_and_then (λ p. task_named p.0) met

pick : (run plan help : Bool)
    → task_met (entered (built program) (option_map alone (option_map (λ (s : Text × List Text). s.0)
    (if run || false then Some (codes "run", []) else (if plan || false then Some (codes "plan", []) else (if help || false then Some (codes "help", []) else None)))))) ≡ first_of run plan
unfolding clap_on_literals
pick true plan help = refl
pick false true help = refl
pick false false true = refl
pick false false false = refl

-- The only word after the program's name is the subcommand that it names.
pub task_is_met : (name word : Text) → task_met (subcommand_of program (name ∷ word ∷ [])) ≡ task_named word
unfolding clap_on_literals
task_is_met name word =
    ap (λ stop. task_met (entered (built program) stop)) (stops_after (built program).top.rules (names_of (built program)) word) ∙ pick (bytes_eq (codes "run") word) (bytes_eq (codes "plan") word) (bytes_eq (codes "help") word)

-- The task of the name of the subcommand that was found is that of the subcommand.
pub is_same_task : {A : Type 0} (command : A → Text × List Row) (met : Option A) (name : Option (Bor Text))
    → option_map (λ (n : Bor Text). n.now) name ≡ option_map (λ (m : A). (command m).0) met
    → option_and_then (λ (n : Bor Text). task_named n.now) name ≡ task_met (option_map command met)
is_same_task command None None same = refl
is_same_task command None (Some name) same = cc
is_same_task command (Some met) None same = cc
is_same_task command (Some met) (Some name) same = ap (λ (n : Option Text). option_and_then task_named n) same
