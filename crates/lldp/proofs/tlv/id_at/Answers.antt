-- What is read of an identifier has at most 256 octets.
use Rattle.std.proofs.Common.{ℕ, List, ◌≤◌, length}
use Rattle.wire.proofs.Given.{found}
use Rattle.lldp.specs.Tlv.{Id, id}
use Rattle.lldp.specs.Views.{id_as}
use Rattle.lldp.proofs.Sound.{id_length}
use Rattle.lldp.proofs.tlv.id_at.Goals as goal

pub returns-clause-most : goal.returns-clause-most
returns-clause-most c =
    found (λ x. (id_as x.0, x.1.now)) (λ (y : Id × List ℕ). length y.0.octets ≤ 255) c.id_within.result ((id c.args.kind).read c.args.bytes.now) (λ value e. id_length c.args.kind c.args.bytes.now value.0 value.1 e) c.id_within.ensures
