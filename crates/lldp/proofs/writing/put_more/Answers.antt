-- The pieces, one after the other.
use Rattle.std.proofs.Common.{ℕ, List, [], ◌∷◌, ◌++◌, sym, ap, ◌∙◌}
use Rattle.lldp.specs.Tlv.{tlv, tlv_of, chassis_mac}
use Rattle.lldp.specs.Message.{write_tlvs}
use Rattle.lldp.specs.Announcement.{address_tlvs, link_tlvs, port_status}
use Rattle.lldp.proofs.Written.{mac_octets, more_put, tlvs_append}
use Rattle.lldp.proofs.writing.put_more.Goals as goal

pub returns : goal.returns
returns c =
    let old = c.args.out.now.items in
    let chassis = c.join-chassis.ensures ∙ sym (mac_octets c.args.mac) in
    let second = c.put_tlv-2.ensures.items ∙ ap (λ (xs : List ℕ). c.put_tlv.new.out.items ++ tlv.write (tlv_of 127 xs) []) chassis in
    let parts = tlv.write (tlv_of 127 (chassis_mac.write c.args.mac)) [] in
    more_put old _ _ _ _ _ (tlv.write port_status []) parts (write_tlvs (link_tlvs c.args.link)) (write_tlvs (address_tlvs c.args.address)) (0 ∷ 0 ∷ []) c.put_tlv.ensures.items second c.put_link.ensures.items c.put_address.ensures.items c.append.ensures.items
    ∙ ap (λ (xs : List ℕ). old ++ ((tlv.write port_status [] ++ (parts ++ xs)) ++ 0 ∷ 0 ∷ [])) (sym (tlvs_append (link_tlvs c.args.link) (address_tlvs c.args.address)))
