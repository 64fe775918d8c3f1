-- What is written is spelled, and what is spelled is read.
use Rattle.connect_blocks.specs.PlugControl.{plug_control}
use Rattle.connect_blocks.proofs.Sound.{plug_control_sound}
use Rattle.connect_blocks.proofs.law.plug_controls_are_read_back.Goals as goal

pub returns : goal.returns
returns c kind block tail fits =
    let sound = plug_control_sound kind in
    sound.again ((plug_control kind).write block tail) block tail (sound.written block tail fits)
