use Rattle.std.proofs.Common.{◌-◌, ℕ, List, ◌++◌, length, replicate, refl, ap, ◌∙◌}
use Rattle.frame_codec.specs.Meaning.{meaning_in}
use Rattle.frame_codec.specs.Frame.{frame_bytes}
use Rattle.frame_codec.proofs.Frames.{joined, both_fit, read_back}
use Rattle.frame_codec.proofs.writing.fill_pieces.Goals as goal

pub returns-clause-exact : goal.returns-clause-exact
unfolding frame_bytes
returns-clause-exact c =
    let sent = joined (meaning_in c.args.pieces.now) _ _ _ refl c.put_header.ensures.items c.put_body.ensures.items in
    c.pad.ensures ∙ ap (λ (xs : List ℕ). xs ++ replicate (60 - length xs) 0) sent

pub returns-clause-again : goal.returns-clause-again
returns-clause-again c =
    read_back (meaning_in c.args.pieces.now) c.requires.room
    (both_fit (meaning_in c.args.pieces.now) _ refl c.put_header.ensures.fits c.put_body.ensures.fits)
