use Rattle.frame_codec.specs.Arp.{operation, arp_head, holder, arp_packet}
use Rattle.frame_codec.proofs.Layers.{arp_head_sound, operation_sound, holder_sound, put_behind}
use Rattle.frame_codec.proofs.arp.put_arp.Goals as goal

pub returns-clause-items : goal.returns-clause-items
unfolding arp_packet
returns-clause-items c =
    put_behind arp_head tt _ _ _ _ arp_head_sound c.put_head.ensures.items
    (put_behind operation c.args.arp.now.operation _ _ _ _ operation_sound c.put_operation.ensures.items
    (put_behind holder c.args.arp.now.sender _ _ _ _ holder_sound c.put_holder.ensures.items c.put_holder-2.ensures.items))
