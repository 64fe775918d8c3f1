-- The pieces, one after the other.
use Rattle.lldp.specs.Announcement.{announced}
use Rattle.lldp.proofs.Written.{message_put}
use Rattle.lldp.proofs.writing.message_of.Goals as goal

pub returns : goal.returns
returns c =
    message_put (announced (record { mac = c.args.mac; name = c.args.name.now; address = c.args.address; link = c.args.link })) _ _ _ _
    c.put_chassis.ensures.items c.put_id.ensures.items c.put_lifetime.ensures.items c.put_more.ensures
