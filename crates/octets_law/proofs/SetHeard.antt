-- A DCP request, read at fixed places.
use Rattle.std.proofs.Common.{◌≡◌, ◌≤◌, ◌==◌, ◌&&◌, ◌+◌, ℕ, Bool, true, false, List, ◌++◌, length, take, drop, refl, sym, ap, subst, ◌∙◌, arith}
use Rattle.std.proofs.lemmas.Bool.{and_parts, cond_both}
use Rattle.std.proofs.lemmas.Bool.Decides.{nat_tests}
use Rattle.byteorder.specs.Endian.{big_number}
use Rattle.wire.specs.Filled.{SpellAll}
use Rattle.dcp_core.specs.declared.request.DcpFault.TheVariants as fault
use Rattle.dcp_core.specs.declared.request.Service.{Service}
use Rattle.dcp_core.specs.declared.request.Service.TheVariants.{Get, Set, Identify}
use Rattle.dcp_core.specs.Format.{at_least, block, block_of, blocks_of, data_of, header_and_data, is_for, request, service_of}
use Rattle.dcp_core.specs.Reading.{IsRequest}
use Rattle.dcp_core.specs.Request.{Asked, AskedBlock}
use Rattle.octets_law.specs.Octets.{blocks_in, dcp_blocks, is_dcp, number, part}
use Rattle.octets_law.proofs.CallPlaces.{four_octets, skip}
use Rattle.octets_law.proofs.CallReads.{tested}
use Rattle.octets_law.proofs.SetFrames.{take_front}
use Rattle.octets_law.proofs.SetItems.{AreRead}
use Rattle.octets_law.proofs.SetReads.{blocks_read, one_octet, two_octets}

-- Which service it is, by FrameID, ServiceID and ServiceType.
pub data Served (frame_id id type : ℕ) (inside : List ℕ) (service : Service) (blocks : List AskedBlock) : Type 0 where
  IsGet : service ≡ Get → id ≡ 3 → Served frame_id id type inside service blocks
  IsSet : service ≡ Set → frame_id ≡ 0xFEFD → id ≡ 4 → type ≡ 0 → SpellAll (block (at_least fault.Block 2)) inside blocks → length blocks ≤ 16
      → Served frame_id id type inside service blocks
  IsIdentify : service ≡ Identify → frame_id ≡ 0xFEFE → Served frame_id id type inside service blocks

three : (a b c : Bool) → a && b && c ≡ true → (a ≡ true) × (b ≡ true) × (c ≡ true)
three a b c is = let one = and_parts (a && b) c is in let two = and_parts a b one.0 in (two.0, two.1, one.1)

pub served : (frame_id id type : ℕ) (inside : List ℕ) (v : Service × List AskedBlock) → (data_of (service_of frame_id id type)).Spells inside v
    → Served frame_id id type inside v.0 v.1
unfolding data_of blocks_of block_of
served frame_id id type inside v =
    cond_both (is_for Get frame_id id type) _ _ (λ s. (data_of s).Spells inside v → Served frame_id id type inside v.0 v.1)
    (λ is spells. IsGet (sym (ap (λ (x : Service × List AskedBlock). x.0) spells.1)) (tested id 3 (three _ _ _ is).1))
    (λ _. cond_both (is_for Set frame_id id type) _ _ (λ s. (data_of s).Spells inside v → Served frame_id id type inside v.0 v.1)
    (λ is spells. let tests = three _ _ _ is in IsSet (sym (ap (λ (x : Service × List AskedBlock). x.0) spells.1)) (tested frame_id 0xFEFD tests.0) (tested id 4 tests.1) (tested type 0 tests.2)
    (subst (SpellAll (block (at_least fault.Block 2)) inside) (ap (λ (x : Service × List AskedBlock). x.1) spells.1) spells.2.0)
    (subst (λ (l : List AskedBlock). length l ≤ 16) (ap (λ (x : Service × List AskedBlock). x.1) spells.1) spells.2.1))
    (λ _. cond_both (is_for Identify frame_id id type) _ _ (λ s. (data_of s).Spells inside v → Served frame_id id type inside v.0 v.1)
    (λ is spells. IsIdentify (sym (ap (λ (x : Service × List AskedBlock). x.0) spells.1)) (tested frame_id 0xFEFE (three _ _ _ is).0))
    (λ _ spells. absurd spells)))

-- The octets of a request, field by field.
pub record IsAsked (frame_id : ℕ) (body : List ℕ) (asked : Asked) : Type 0 where
  pub first : List ℕ
  pub second : List ℕ
  pub xid : List ℕ
  pub delay : List ℕ
  pub size : List ℕ
  pub inside : List ℕ
  pub rest : List ℕ
  pub one : length first ≡ 1
  pub two : length second ≡ 1
  pub xid_wide : length xid ≡ 4
  pub delay_wide : length delay ≡ 2
  pub size_wide : length size ≡ 2
  pub is : body ≡ first ++ (second ++ (xid ++ (delay ++ (size ++ (inside ++ rest)))))
  pub xid_is : asked.xid ≡ big_number 4 xid
  pub size_is : length inside ≡ big_number 2 size
  pub serves : Served frame_id (big_number 1 first) (big_number 1 second) inside asked.service asked.blocks

pub asked_parts : (frame_id : ℕ) (body : List ℕ) (asked : Asked) → IsRequest frame_id body asked → IsAsked frame_id body asked
unfolding IsRequest request header_and_data
asked_parts frame_id body asked whole =
    let spells = whole.1 in
    let head = spells.2.1 in
    let first = head.1 in
    let second = head.2.1 in
    let xid = head.2.2.1 in
    let delay = head.2.2.2.2 in
    let frame = spells.2.2 in
    let size = frame.2 in
    let what = served frame_id spells.0.0.0 spells.0.0.1.0 frame.0 spells.0.1 frame.4 in
    record {
      first = first.0;
      second = second.0;
      xid = xid.0;
      delay = delay.0;
      size = size.0;
      inside = frame.0;
      rest = whole.0;
      one = first.1;
      two = second.1;
      xid_wide = xid.1;
      delay_wide = delay.1;
      size_wide = size.1;
      is = first.2 ∙ ap (λ l. first.0 ++ l) (second.2 ∙ ap (λ l. second.0 ++ l) (xid.2 ∙ ap (λ l. xid.0 ++ l) (delay.2 ∙ ap (λ l. delay.0 ++ l)
          (size.2 ∙ ap (λ l. size.0 ++ l) frame.3))));
      xid_is = ap (λ (a : Asked). a.xid) (sym spells.1) ∙ xid.3;
      size_is = size.3;
      serves = subst (λ n. Served frame_id n (big_number 1 second.0) frame.0 asked.service asked.blocks) first.3
          (subst (λ n. Served frame_id spells.0.0.0 n frame.0 asked.service asked.blocks) second.3
          (subst (λ (a : Asked). Served frame_id spells.0.0.0 spells.0.0.1.0 frame.0 a.service a.blocks) spells.1 what));
    }

-- ---- a frame of real time

-- What is read of the octets of a frame of real time: stations, EtherType, FrameID, and the two octets after it.
pub record IsTimely (frame : List ℕ) (frame_id : ℕ) (body : List ℕ) : Type 0 where
  pub ether_type : number 12 2 frame ≡ 0x8892
  pub id : number 14 2 frame ≡ frame_id
  pub behind : (n : ℕ) → drop (6 + (6 + (2 + (2 + n)))) frame ≡ drop n body

pub timely : (to from type id body : List ℕ) (frame_id : ℕ) → length to ≡ 6 → length from ≡ 6 → length type ≡ 2 → length id ≡ 2 → big_number 2 type ≡ 0x8892 → frame_id ≡ big_number 2 id
    → IsTimely (to ++ (from ++ (type ++ (id ++ body)))) frame_id body
timely to from type id body frame_id l m n o ether_type is = record {
  ether_type =
      ap (big_number 2) (skip 6 6 to _ l ∙ skip 0 6 from _ m)
      ∙ two_octets (λ t. big_number 2 t ≡ 0x8892 → big_number 2 (t ++ (id ++ body)) ≡ 0x8892) type n (λ a b e. e) ether_type;
  id =
      ap (big_number 2) (skip 8 6 to _ l ∙ skip 2 6 from _ m ∙ skip 0 2 type _ n)
      ∙ two_octets (λ i. frame_id ≡ big_number 2 i → big_number 2 (i ++ body) ≡ frame_id) id o (λ a b e. sym e) is;
  behind = λ k. skip (6 + (2 + (2 + k))) 6 to _ l ∙ skip (2 + (2 + k)) 6 from _ m ∙ skip (2 + k) 2 type _ n ∙ skip k 2 id body o;
}

-- ---- a Set

-- What is read of a frame with a Set.
pub record IsSetRead (frame : List ℕ) (asked : Asked) : Type 0 where
  pub kind : is_dcp 0xFEFD 4 0 frame ≡ true
  pub blocks : AreRead asked.blocks (dcp_blocks frame)
  pub xid : number 18 4 frame ≡ asked.xid
  pub few : length asked.blocks ≤ 16

abbrev pub KindOf : ℕ → List ℕ → Service → Asked → Type 0
KindOf frame_id frame Set asked = (frame_id ≡ 0xFEFD) × IsSetRead frame asked
KindOf frame_id frame Get asked = number 16 1 frame ≡ 3
KindOf frame_id frame Identify asked = frame_id ≡ 0xFEFE

pub one_front : (octets rest : List ℕ) → length octets ≡ 1 → big_number 1 (octets ++ rest) ≡ big_number 1 octets
one_front octets rest is = one_octet (λ l. big_number 1 (l ++ rest) ≡ big_number 1 l) octets is (λ a. refl)

pub two_ahead : (octets rest : List ℕ) → length octets ≡ 2 → big_number 2 (octets ++ rest) ≡ big_number 2 octets
two_ahead octets rest is = two_octets (λ l. big_number 2 (l ++ rest) ≡ big_number 2 l) octets is (λ a b. refl)

pub four_ahead : (octets rest : List ℕ) → length octets ≡ 4 → big_number 4 (octets ++ rest) ≡ big_number 4 octets
four_ahead octets rest is = four_octets (λ l. big_number 4 (l ++ rest) ≡ big_number 4 l) octets is (λ a b c d. refl)

all_four : (a b c d : Bool) → a ≡ true → b ≡ true → c ≡ true → d ≡ true → a && b && c && d ≡ true
all_four true true true true p q r s = refl
all_four false b c d p q r s = absurd cc
all_four true false c d p q r s = absurd cc
all_four true true false d p q r s = absurd cc
all_four true true true false p q r s = absurd cc

holds : (n m : ℕ) → n ≡ m → (n == m) ≡ true
holds n m is = grind (arith, nat_tests)

-- A frame that is heard as a request has these octets.
pub set_read : (frame body : List ℕ) (frame_id : ℕ) (asked : Asked) → IsTimely frame frame_id body → IsRequest frame_id body asked → KindOf frame_id frame asked.service asked
set_read frame body frame_id asked it request = by_service parts.serves
  where
    parts : IsAsked frame_id body asked
    parts = asked_parts frame_id body asked request

    service_is : number 16 1 frame ≡ big_number 1 parts.first
    service_is = ap (big_number 1) (it.behind 0 ∙ parts.is) ∙ one_front parts.first _ parts.one

    type_is : number 17 1 frame ≡ big_number 1 parts.second
    type_is = ap (big_number 1) (it.behind 1 ∙ ap (drop 1) parts.is ∙ skip 0 1 parts.first _ parts.one) ∙ one_front parts.second _ parts.two

    xid_is : number 18 4 frame ≡ asked.xid
    xid_is = ap (big_number 4) (it.behind 2 ∙ ap (drop 2) parts.is ∙ skip 1 1 parts.first _ parts.one ∙ skip 0 1 parts.second _ parts.two)
        ∙ four_ahead parts.xid _ parts.xid_wide ∙ sym parts.xid_is

    size_is : number 24 2 frame ≡ length parts.inside
    size_is = ap (big_number 2) (it.behind 8 ∙ ap (drop 8) parts.is ∙ skip 7 1 parts.first _ parts.one ∙ skip 6 1 parts.second _ parts.two ∙ skip 2 4 parts.xid _ parts.xid_wide
        ∙ skip 0 2 parts.delay _ parts.delay_wide) ∙ two_ahead parts.size _ parts.size_wide ∙ sym parts.size_is

    inside_is : part 26 (number 24 2 frame) frame ≡ parts.inside
    inside_is = ap (λ n. take n (drop 26 frame)) size_is
        ∙ ap (take (length parts.inside)) (it.behind 10 ∙ ap (drop 10) parts.is ∙ skip 9 1 parts.first _ parts.one ∙ skip 8 1 parts.second _ parts.two ∙ skip 4 4 parts.xid _ parts.xid_wide
        ∙ skip 2 2 parts.delay _ parts.delay_wide ∙ skip 0 2 parts.size _ parts.size_wide) ∙ take_front parts.inside parts.rest

    by_service : Served frame_id (big_number 1 parts.first) (big_number 1 parts.second) parts.inside asked.service asked.blocks → KindOf frame_id frame asked.service asked
    by_service (IsGet service id) = subst (λ s. KindOf frame_id frame s asked) (sym service) (service_is ∙ id)
    by_service (IsIdentify service id) = subst (λ s. KindOf frame_id frame s asked) (sym service) id
    by_service (IsSet service frame_id_is id type blocks few) = subst (λ s. KindOf frame_id frame s asked) (sym service) (
      frame_id_is,
      record {
        kind = all_four _ _ _ _ (holds _ 0x8892 it.ether_type) (holds _ 0xFEFD (it.id ∙ frame_id_is)) (holds _ 4 (service_is ∙ id)) (holds _ 0 (type_is ∙ type));
        blocks = subst (λ l. AreRead asked.blocks (blocks_in 16 l)) (sym inside_is) (blocks_read 16 parts.inside asked.blocks blocks few);
        xid = xid_is;
        few = few;
      },
    )
