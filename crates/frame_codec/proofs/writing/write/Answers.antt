use Rattle.std.proofs.Common.{refl}
use Rattle.frame_codec.specs.Meaning.{meaning_of}
use Rattle.frame_codec.proofs.Frames.{IsSent, is_sent, frame_again}
use Rattle.frame_codec.proofs.writing.write.Goals as goal

sent : (c : goal.After-fill) → IsSent (meaning_of c.args.layered.now) c.fill.new.frame.items
sent c = is_sent (meaning_of c.args.layered.now) _ _ c.requires c.fill.ensures.fits refl c.fill.ensures.sent

pub returns-clause-spelled : goal.returns-clause-spelled
returns-clause-spelled c = (sent c).spelled

pub returns-clause-behind : goal.returns-clause-behind
returns-clause-behind c = λ more short. frame_again _ _ ((sent c).behind more short)

pub returns-clause-least : goal.returns-clause-least
returns-clause-least c = (sent c).least

pub returns-clause-most : goal.returns-clause-most
returns-clause-most c = (sent c).most
