use Rattle.std.proofs.Common.{◌-◌, ℕ, List, ◌++◌, length, replicate, ap, ◌∙◌}
use Rattle.frame_codec.specs.Meaning.{meaning_of}
use Rattle.frame_codec.specs.Frame.{frame_bytes}
use Rattle.frame_codec.proofs.Frames.{read_back}
use Rattle.frame_codec.proofs.writing.fill.Goals as goal

pub returns-clause-sent : goal.returns-clause-sent
returns-clause-sent c = c.pad.ensures ∙ ap (λ (xs : List ℕ). xs ++ replicate (60 - length xs) 0) c.put_layers.ensures.items

pub returns-clause-exact : goal.returns-clause-exact
unfolding frame_bytes
returns-clause-exact c = returns-clause-sent c

pub returns-clause-again : goal.returns-clause-again
returns-clause-again c = read_back (meaning_of c.args.layered.now) c.requires.room c.put_layers.ensures.fits
