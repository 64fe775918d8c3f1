use Rattle.frame_codec.specs.Meaning.{meaning_of}
use Rattle.frame_codec.proofs.Frames.{joined, both_fit}
use Rattle.frame_codec.proofs.writing.put_layers.Goals as goal

pub returns-clause-items : goal.returns-clause-items
returns-clause-items c =
    joined (meaning_of c.args.layered.now) _ _ _ c.ether_type_of.ensures.value c.put_header.ensures.items c.put_content.ensures.items

pub returns-clause-fits : goal.returns-clause-fits
returns-clause-fits c =
    both_fit (meaning_of c.args.layered.now) _ c.ether_type_of.ensures.value c.put_header.ensures.fits c.put_content.ensures.fits
