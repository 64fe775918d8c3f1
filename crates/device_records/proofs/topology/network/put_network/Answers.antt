-- One block after the other.
use Rattle.std.proofs.Common.{ℕ, List, ◌++◌, option_map, ap, ◌∙◌, append_assoc}
use Rattle.lldp.specs.Views.{peer_as}
use Rattle.device_records.specs.topology.Port.{interface_bytes, network_bytes, port_bytes, where_plugged}
use Rattle.device_records.proofs.topology.network.put_network.Goals as goal

pub returns-clause-items : goal.returns-clause-items
unfolding network_bytes
returns-clause-items g c =
    let old = c.args.out.now.items in
    let real = c.args.real.now in
    let interface = interface_bytes c.args.identity.now c.args.settings.now in
    let port = port_bytes (option_map (λ n. peer_as n.now) c.args.neighbour) in
    let first = c.as_slice.ensures.value ∙ (c.put_interface.ensures.items ∙ ap (λ (xs : List ℕ). xs ++ interface) c.new-interface.ensures) in
    let second = c.as_slice-2.ensures.value ∙ (c.put_port.ensures.items ∙ ap (λ (xs : List ℕ). xs ++ port) c.new-port.ensures) in
    let one = c.put_where_plugged.ensures.items ∙ ap (λ (xs : List ℕ). old ++ where_plugged real 0x8000 xs) first in
    let two = c.put_where_plugged-2.ensures.items ∙ ap (λ (xs : List ℕ). c.put_where_plugged.new.out.items ++ where_plugged real 0x8001 xs) second in
    two ∙ (ap (λ (xs : List ℕ). xs ++ where_plugged real 0x8001 port) one ∙ append_assoc old (where_plugged real 0x8000 interface) (where_plugged real 0x8001 port))
