-- What a controller hears as an alarm is the alarm at fixed places of the frame.
use Rattle.std.proofs.Common.{◌≡◌, ◌≤◌, ◌+◌, ◌-◌, ℕ, Bool, true, false, cond, List, [], ◌++◌, length, take, drop, Option, Some, None, Ok, Err, refl, sym, ap, subst, ◌∙◌, arith, append_assoc}
use Rattle.std.proofs.lemmas.Bool.{ltb-false}
use Rattle.std.proofs.lemmas.List.{append-nil, drop-drop, drop_at, length-append, length-drop, length-take, take_all, take_at}
use Rattle.std.specs.Prelude.{◌==◌, nat_lt, if◌then◌else◌}
use Rattle.byteorder.specs.Endian.{big_number}
use Rattle.byteorder.specs.Numbers.{big_from-append}
use Rattle.record_blocks.specs.declared.alarm_notification.AlarmNotification.{AlarmNotification}
use Rattle.wire.specs.Codec.{IsSoundWhole}
use Rattle.wire.specs.Whole.{pick, refused}
use Rattle.wire.specs.blocks.Fields.{open_body, version}
use Rattle.wire.proofs.Fields.{bind_ok}
use Rattle.frame_codec.specs.declared.fault.FrameFault.TheVariants.{EtherType, Tag, TooLong}
use Rattle.frame_codec.specs.Frame.{address_resolution, arp, content_under, datagram, ethernet, frame_of, internet, layers, longest, profinet, real_time, vlan}
use Rattle.frame_codec.specs.Meaning.{Content, Meaning, RealTime}
use Rattle.pn_alarms.specs.Format.{IsPdu, Said, header, kind, pdu}
use Rattle.diagnosis.specs.declared.reports.report.Report.{Report}
use Rattle.diagnosis.specs.reports.Report.{IsReport, block_priority, front, payload, report, report_fields, spells_payload}
use Rattle.controller_core.specs.stored.Alarms.{kept_alarm}
use Rattle.octets_law.specs.Octets.{number, part, untagged}
use Rattle.octets_law.proofs.Bare.{bare_of}
use Rattle.startup_octets.specs.Alarms.{alarm_in}

-- ---- one field after another

-- A field of n octets at the front: its number, and what follows it.
abbrev IsField : ℕ → List ℕ → ℕ → List ℕ → Type 0
IsField size octets value rest = (front : List ℕ) × (length front ≡ size) × (octets ≡ front ++ rest) × (value ≡ big_number size front)

-- The number at a place, and what follows it.
record IsAt (octets : List ℕ) (place size value : ℕ) (rest : List ℕ) : Type 0 where
  is : number place size octets ≡ value
  next : drop (place + size) octets ≡ rest

at : (octets mid rest more : List ℕ) (place size value : ℕ) → drop place octets ≡ mid ++ more → IsField size mid value rest → IsAt octets place size value (rest ++ more)
at octets mid rest more place size value there field =
    let parts : drop place octets ≡ field.0 ++ (rest ++ more) = there ∙ (ap (λ (l : List ℕ). l ++ more) field.2 ∙ append_assoc field.0 rest more) in
    record {
      is = ap (big_number size) parts ∙ (big_from-append size field.0 (rest ++ more) (omega (arith, field.1)) ∙ sym field.3);
      next = sym (drop-drop size place octets) ∙ (ap (drop size) parts ∙ drop_at field.0 (rest ++ more) size field.1);
    }

long : (size value : ℕ) (octets rest : List ℕ) → IsField size octets value rest → length octets ≡ size + length rest
long size value octets rest field = ap length field.2 ∙ (length-append field.0 rest ∙ ap (λ n. n + length rest) field.1)

-- ---- the block

abbrev alarm_with : ℕ → ℕ → ℕ → ℕ → ℕ → ℕ → ℕ → List ℕ → AlarmNotification
alarm_with kind api slot subslot module_ident submodule_ident specifier octets = record {
  alarm_type = kind;
  api = api;
  slot_number = slot;
  subslot_number = subslot;
  module_ident_number = module_ident;
  submodule_ident_number = submodule_ident;
  alarm_specifier = specifier;
  alarm_data = octets;
}

same_alarm : (a b c d e f g h i j k l m n : ℕ) (one other : List ℕ) → a ≡ h → b ≡ i → c ≡ j → d ≡ k → e ≡ l → f ≡ m → g ≡ n → one ≡ other
    → alarm_with a b c d e f g one ≡ alarm_with h i j k l m n other
same_alarm a b c d e f g h i j k l m n one other p q r s t u v w = cc

-- The data, if the fields before it and the length of the block are known.
data_at : (octets mid more inside : List ℕ) (user_structure : Option ℕ) (own : List ℕ) → drop 54 octets ≡ mid ++ more → spells_payload mid user_structure own
    → length inside ≡ 22 + length mid → part 56 (length inside - 24) octets ≡ own
data_at octets mid more inside None own there spells counted =
    let few : length inside - 24 ≡ 0 = omega (arith, counted, ap length spells.0) in
    ap (λ n. part 56 n octets) few ∙ sym spells.1
data_at octets mid more inside (Some user_structure) own there spells counted =
    let field = at octets mid spells.0 more 54 2 user_structure there spells.1 in
    let count : length inside - 24 ≡ length spells.0 = omega (arith, counted, long 2 user_structure mid spells.0 spells.1) in
    ap (λ n. part 56 n octets) count ∙ (ap (take (length spells.0)) field.next ∙ (take_at spells.0 more (length spells.0) refl ∙ spells.2))

report_at : (octets block more : List ℕ) (value : Report) → drop 28 octets ≡ block ++ more → IsReport block value → alarm_in octets ≡ value.notification
unfolding IsReport report block_priority open_body version report_fields front payload
report_at octets block more value there is =
    let spells = is.1 in
    let framed = spells.2.2 in
    let inside = framed.0 in
    let body = framed.4 in
    let versions = body.2.1.2 in
    let fields = body.2.2 in
    let fronts = fields.2.1 in
    let f1 = fronts.2 in
    let f2 = f1.2 in
    let f3 = f2.2 in
    let f4 = f3.2 in
    let f5 = f4.2 in
    let f6 = f5.2 in
    let behind = is.0 ++ more in
    let a0 = at octets block spells.2.0 more 28 2 _ there spells.2.1.2 in
    let a1 = at octets spells.2.0 framed.1 more 30 2 (length inside) a0.next framed.2 in
    let a2 : drop 32 octets ≡ inside ++ behind = a1.next ∙ (ap (λ (l : List ℕ). l ++ more) framed.3 ∙ append_assoc inside is.0 more) in
    let a3 = at octets inside versions.0 behind 32 1 _ a2 versions.1.1 in
    let a4 = at octets versions.0 body.2.0 behind 33 1 _ a3.next versions.2.1 in
    let c1 = at octets body.2.0 f1.0 behind 34 2 _ a4.next f1.1 in
    let c2 = at octets f1.0 f2.0 behind 36 4 _ c1.next f2.1 in
    let c3 = at octets f2.0 f3.0 behind 40 2 _ c2.next f3.1 in
    let c4 = at octets f3.0 f4.0 behind 42 2 _ c3.next f4.1 in
    let c5 = at octets f4.0 f5.0 behind 44 4 _ c4.next f5.1 in
    let c6 = at octets f5.0 f6.0 behind 48 4 _ c5.next f6.1 in
    let c7 = at octets f6.0 fields.2.0 behind 52 2 _ c6.next f6.2 in
    let counted : length inside ≡ 22 + length fields.2.0 = omega (arith, long 1 _ inside versions.0 versions.1.1, long 1 _ versions.0 body.2.0 versions.2.1, long 2 _ body.2.0 f1.0 f1.1, long 4 _ f1.0 f2.0 f2.1, long 2 _ f2.0 f3.0 f3.1, long 2 _ f3.0 f4.0 f4.1, long 4 _ f4.0 f5.0 f5.1, long 4 _ f5.0 f6.0 f6.1, long 2 _ f6.0 fields.2.0 f6.2) in
    let own = ap (λ n. part 56 (n - 24) octets) a1.is ∙ data_at octets fields.2.0 behind inside fields.0.1.0 fields.0.1.1 c7.next fields.2.2 counted in
    same_alarm _ _ _ _ _ _ _ _ _ _ _ _ _ _ _ _ (c1.is ∙ ap (λ g. g.alarm_type) fronts.1) (c2.is ∙ ap (λ g. g.api) fronts.1) (c3.is ∙ ap (λ g. g.slot_number) fronts.1) (c4.is ∙ ap (λ g. g.subslot_number) fronts.1)
    (c5.is ∙ ap (λ g. g.module_ident_number) fronts.1) (c6.is ∙ ap (λ g. g.submodule_ident_number) fronts.1) (c7.is ∙ ap (λ g. g.alarm_specifier) fronts.1) own
    ∙ (ap (λ p. p.0) fields.1 ∙ (ap (λ p. p.0) body.1 ∙ ap (λ (r : Report). r.notification) spells.1))

-- ---- the PDU

record IsBody (octets body : List ℕ) : Type 0 where
  more : List ℕ
  there : drop 28 octets ≡ body ++ more

pdu_at : (octets bytes more : List ℕ) (said : Said) → drop 16 octets ≡ bytes ++ more → IsPdu bytes said → IsBody octets said.body
unfolding IsPdu pdu header kind
pdu_at octets bytes more said there is =
    let parts = is.1.1 in
    let g1 = parts.2.1.2 in
    let g2 = g1.2 in
    let g3 = g2.2 in
    let g4 = g3.2 in
    let g5 = g4.2 in
    let framed = parts.2.2 in
    let a1 = at octets bytes g1.0 more 16 2 _ there g1.1 in
    let a2 = at octets g1.0 g2.0 more 18 2 _ a1.next g2.1 in
    let a3 = at octets g2.0 g3.0 more 20 1 _ a2.next g3.1.2 in
    let a4 = at octets g3.0 g4.0 more 21 1 _ a3.next g4.1.2 in
    let a5 = at octets g4.0 g5.0 more 22 2 _ a4.next g5.1 in
    let a6 = at octets g5.0 parts.2.0 more 24 2 _ a5.next g5.2 in
    let a7 = at octets parts.2.0 framed.1 more 26 2 (length framed.0) a6.next framed.2 in
    let body : framed.0 ≡ said.body = framed.4 ∙ ap (λ (s : Said). s.body) parts.1 in
    record {
      more = is.0 ++ more;
      there = a7.next ∙ (ap (λ (l : List ℕ). l ++ more) framed.3 ∙ (append_assoc framed.0 is.0 more ∙ ap (λ (l : List ℕ). l ++ (is.0 ++ more)) body));
    }

-- ---- the frame

real_in : (a b c d : Bool) (rest : List ℕ) (id : ℕ) (body : List ℕ) → (pick a (refused Tag) (pick b real_time (pick c arp (pick d datagram (refused EtherType))))).Spells rest (RealTime id body)
    → real_time.Spells rest (RealTime id body)
unfolding arp datagram
real_in true b c d rest id body spells = absurd spells
real_in false true c d rest id body spells = spells
real_in false false true d rest id body spells = absurd (let e = spells.1 in cc)
real_in false false false true rest id body spells = absurd (let e = spells.1 in cc)
real_in false false false false rest id body spells = absurd spells

same_body : (n id : ℕ) (octets body : List ℕ) → RealTime n octets ≡ RealTime id body → octets ≡ body
same_body n id octets body e = cc

real_time_body : (rest : List ℕ) (id : ℕ) (body : List ℕ) → real_time.Spells rest (RealTime id body) → drop 2 rest ≡ body
unfolding real_time
real_time_body rest id body spells =
    let field = spells.2.1 in
    ap (drop 2) field.2 ∙ (drop_at field.0 spells.2.0 2 field.1 ∙ (spells.2.2 ∙ same_body _ _ _ _ spells.1))

frame_at : (octets : List ℕ) (meaning : Meaning) (id : ℕ) (body : List ℕ) → layers.Spells octets meaning → meaning.content ≡ RealTime id body → drop 16 (untagged octets) ≡ body
frame_at octets meaning id body spells is =
    let bare = bare_of octets meaning spells in
    let own = untagged octets in
    let type = big_number 2 bare.type in
    let six : drop 6 own ≡ bare.source ++ (bare.type ++ bare.rest) = ap (drop 6) bare.is ∙ drop_at meaning.destination.octets _ 6 bare.to in
    let twelve : drop 12 own ≡ bare.type ++ bare.rest = sym (drop-drop 6 6 own) ∙ (ap (drop 6) six ∙ drop_at bare.source _ 6 bare.from) in
    let fourteen : drop 14 own ≡ bare.rest = sym (drop-drop 2 12 own) ∙ (ap (drop 2) twelve ∙ drop_at bare.type bare.rest 2 bare.two) in
    sym (drop-drop 2 14 own) ∙ (ap (drop 2) fourteen ∙ real_time_body bare.rest id body
    (real_in (type == vlan) (type == profinet) (type == address_resolution) (type == internet) bare.rest id body
    (subst (λ (c : Content). (content_under type).Spells bare.rest c) is bare.content)))

-- A frame whose PDU carries a report has the alarm at its places.
pub alarm_placed : (octets : List ℕ) (meaning : Meaning) (id : ℕ) (body : List ℕ) (said : Said) (found : Report) → layers.Spells octets meaning → meaning.content ≡ RealTime id body
    → IsPdu body said → IsReport said.body found → alarm_in (untagged octets) ≡ found.notification
alarm_placed octets meaning id body said found spells is read_pdu read_report =
    let inside = pdu_at (untagged octets) body [] said (frame_at octets meaning id body spells is ∙ sym (append-nil body)) read_pdu in
    report_at (untagged octets) said.body inside.more found inside.there read_report

-- ---- the length of a frame

pub record IsRead (octets : List ℕ) (meaning : Meaning) : Type 0 where
  pub spells : layers.Spells octets meaning
  pub short : length octets ≤ 1518

longest_few : (tag : Option ℕ) → longest tag ≤ 1518
longest_few None = omega arith
longest_few (Some tag) = omega arith

pub frame_read : IsSoundWhole layers → (octets : List ℕ) (meaning : Meaning) → frame_of octets ≡ Ok meaning → IsRead octets meaning
unfolding frame_of
frame_read sound octets meaning e =
    let a = bind_ok (ethernet.read octets) (λ head. if nat_lt (longest head.0.tag) (length octets) then Err TooLong else layers.read octets) meaning e in
    by_test a.0.0.tag (nat_lt (longest a.0.0.tag) (length octets)) refl a.2
  where
    by_test : (tag : Option ℕ) (b : Bool) → nat_lt (longest tag) (length octets) ≡ b → cond b (Err TooLong) (layers.read octets) ≡ Ok meaning → IsRead octets meaning
    by_test tag true is read = absurd (let e = read in cc)
    by_test tag false is read = record { spells = sound.takes octets meaning read; short = omega (arith, longest_few tag, ltb-false (longest tag) (length octets) is) }

untagged_few : (octets : List ℕ) (b : Bool) → length (if b then take 12 octets ++ drop 16 octets else octets) ≤ length octets
untagged_few octets true = omega (arith, length-append (take 12 octets) (drop 16 octets), length-take 12 octets, length-drop 16 octets)
untagged_few octets false = omega arith

data_few : (octets : List ℕ) (n : ℕ) → length octets ≤ 1518 → length (part 56 n octets) ≤ 1500
data_few octets n few = omega (arith, few, length-take n (drop 56 octets), length-drop 56 octets)

-- Such an alarm is stored whole.
pub alarm_kept : (octets : List ℕ) → length octets ≤ 1518 → kept_alarm (alarm_in (untagged octets)) ≡ alarm_in (untagged octets)
alarm_kept octets few =
    let own = untagged octets in
    let short : length own ≤ 1518 = omega (arith, few, untagged_few octets (number 12 2 octets == 0x8100)) in
    let kept = part 56 (number 30 2 own - 24) own in
    same_alarm _ _ _ _ _ _ _ _ _ _ _ _ _ _ _ _ refl refl refl refl refl refl refl (take_all 1500 kept (data_few own (number 30 2 own - 24) short))
