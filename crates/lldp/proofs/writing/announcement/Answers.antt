-- The header, the message and the padding.
use Rattle.std.proofs.Common.{rules, ◌≡◌, ◌≤◌, ℕ, List, [], ◌++◌, length, Some, sym, ap, subst, ◌∙◌, arith}
use Rattle.lldp.specs.Message.{message}
use Rattle.lldp.specs.Frame.{link, told_in}
use Rattle.lldp.specs.Announcement.{Station, announced, announcement, header_of, padded, told_of}
use Rattle.lldp.proofs.Announced.{heard_as_meant, padded_few}
use Rattle.lldp.proofs.Ethernet.{link_sound}
use Rattle.lldp.proofs.writing.announcement.Goals as goal

value : (c : goal.After-pad) → c.pad.new.frame.items ≡ announcement (record { mac = c.args.mac; name = c.args.name.now; address = c.args.address; link = c.args.link })
unfolding announcement
value c =
    let station : Station = record { mac = c.args.mac; name = c.args.name.now; address = c.args.address; link = c.args.link } in
    let body = message.write (announced station) in
    let said = c.as_slice-2.ensures.value ∙ (c.message_of-message.ensures ∙ ap (λ (xs : List ℕ). message.write (announced (record station { name = xs }))) c.as_bytes.ensures.value) in
    let front = c.append.ensures.items ∙ (ap (λ (xs : List ℕ). xs ++ c.as_slice.result.now) c.new-frame.ensures ∙ (c.as_slice.ensures.value ∙ c.header-header.ensures)) in
    let both = c.append-2.ensures.items ∙ (ap (λ (xs : List ℕ). xs ++ c.as_slice-2.result.now) front ∙ ap (λ (xs : List ℕ). link.write (header_of c.args.mac) [] ++ xs) said) in
    c.pad.ensures ∙ ap padded (both ∙ sym (link_sound.local (header_of c.args.mac) body))

pub returns-clause-value : goal.returns-clause-value
returns-clause-value c = value c

pub returns-clause-heard : goal.returns-clause-heard
returns-clause-heard c = λ own other.
    let station : Station = record { mac = c.args.mac; name = c.args.name.now; address = c.args.address; link = c.args.link } in
    let long : length c.args.name.now ≤ 240 = subst (λ (xs : List ℕ). length xs ≤ 240) c.as_bytes.ensures.value c.as_bytes.ensures.length in
    let mac : length c.args.mac.octets ≡ 6 = search rules in
    let address : length c.args.address ≡ 4 = search rules in
    let few : length c.append-2.new.self.items ≤ 321 = omega (arith, c.append-2.ensures.len, c.append.ensures.len, c.as_slice.ensures.fits, c.as_slice-2.ensures.fits, ap length c.new-frame.ensures) in
    let short : length c.pad.new.frame.items ≤ 1514 = subst (λ (xs : List ℕ). length xs ≤ 1514) (sym c.pad.ensures) (padded_few c.append-2.new.self.items few) in
    subst (λ (xs : List ℕ). told_in own xs ≡ Some (told_of station)) (sym (value c))
    (heard_as_meant own station (record { mac = mac; name = long; address = address }) (subst (λ (xs : List ℕ). length xs ≤ 1514) (value c) short) other)
