use Rattle.wire.proofs.Given.{found, only}
use Rattle.frame_codec.specs.Meaning.{meaning_of}
use Rattle.frame_codec.specs.Frame.{IsFrame, frame_of, with_behind}
use Rattle.frame_codec.proofs.Frames.{frame_takes, frame_again, frame_behind}
use Rattle.frame_codec.proofs.reading.read.Goals as goal

pub returns-clause-found : goal.returns-clause-found
returns-clause-found c =
    found meaning_of (IsFrame c.args.bytes.now) _ (frame_of c.args.bytes.now) (frame_takes c.args.bytes.now) c.layers_at.ensures

pub returns-clause-only : goal.returns-clause-only
returns-clause-only c = λ meaning frame.
    only meaning_of _ (frame_of c.args.bytes.now) meaning (frame_again c.args.bytes.now meaning frame) c.layers_at.ensures

pub returns-clause-behind : goal.returns-clause-behind
returns-clause-behind c = λ first more meaning frame e short.
    only meaning_of _ (frame_of c.args.bytes.now) (with_behind meaning more)
    (frame_again c.args.bytes.now (with_behind meaning more) (frame_behind first more c.args.bytes.now meaning frame e short)) c.layers_at.ensures
