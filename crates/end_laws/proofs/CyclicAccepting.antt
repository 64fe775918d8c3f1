-- The frames that an end accepts are those of the independent words.
use Rattle.std.proofs.Common.{◌≡◌, inl, inr, ltb, ◌+◌, ◌≤◌, ◌<◌, ◌==◌, ◌&&◌, ℕ, Bool, true, false, cond, nat_eq, List, [], ◌∷◌, length, take, drop, Option, Some, None, Result, Ok, Err, refl, sym, ap, subst, ◌∙◌, arith}
use Rattle.std.proofs.lemmas.Bool.{and_from, and_parts, cases_lt, eq-eqb, eqb-true, le-ltb, ltb-false}
use Rattle.std.proofs.lemmas.List.{get_or-drop, length-drop}
use Rattle.std.specs.Cmp.Lexicographic.{pointwise}
use Rattle.byteorder.specs.Endian.{big_number}
use Rattle.pn_values.specs.declared.mac.Mac.{Mac}
use Rattle.frame_codec.specs.FrameId.{is_cyclic}
use Rattle.frame_codec.specs.Meaning.{Meaning}
use Rattle.cyclic_data.specs.declared.tail.CyclicTail.{CyclicTail}
use Rattle.cyclic_data.specs.declared.tail.ShortFrame.{ShortFrame}
use Rattle.cyclic_data.specs.declared.exchange.received.Received.TheVariants.{Foreign, Stale, Taken}
use Rattle.cyclic_data.specs.Tail.{cyclic_frame, cyclic_of, cyclic_tail, short}
use Rattle.cyclic_data.specs.Image.{with_frame}
use Rattle.cyclic_data.specs.Timing.{Hearing, is_newer as machine_newer, is_taken}
use Rattle.cyclic_data.specs.exchange.Cyclic.{Cyclic}
use Rattle.cyclic_data.specs.exchange.Received.{behind_frame, behind_read, is_new, is_of_partner, received_as, received_in, taken_from}
use Rattle.field_words.specs.Cyclic.{IsAcceptable, counter_in, data_in, frame_id_in, is_cyclic_id, is_newer, status_in, transfer_in}
use Rattle.field_words.specs.Octets.{has_bit, octet_at, part_at, type_place, word_at}
use Rattle.end_laws.specs.cyclic.Ends.{accepted_by, consumer_of}
use Rattle.end_laws.proofs.CyclicPlaces.{IsRead, two_read, word_dropped}

-- ---- octets that are the same

pub octets_same : (one other : List ℕ) → pointwise nat_eq one other ≡ true → one ≡ other
octets_same [] [] is = refl
octets_same [] (x ∷ other) is = absurd cc
octets_same (x ∷ one) [] is = absurd cc
octets_same (x ∷ one) (y ∷ other) is =
    let parts = and_parts (nat_eq x y) (pointwise nat_eq one other) is in
    ap (λ (n : ℕ). n ∷ one) (eqb-true x y parts.0) ∙ ap (λ (l : List ℕ). y ∷ l) (octets_same one other parts.1)

pub same_octets : (one : List ℕ) → pointwise nat_eq one one ≡ true
same_octets [] = refl
same_octets (x ∷ one) = and_from (nat_eq x x) (pointwise nat_eq one one) (eq-eqb x x refl) (same_octets one)

-- ---- the fields after the data

pub one_read : (octets : List ℕ) → 1 ≤ length octets → big_number 1 octets ≡ octet_at 0 octets
one_read (a ∷ octets) long = omega arith
one_read [] long = absurd (omega arith)

-- The fields at their places after this many octets of data.
abbrev pub tail_at : ℕ → List ℕ → CyclicTail
tail_at size body = record { counter = word_at size body; data_status = record { 0 = octet_at (size + 2) body }; transfer_status = octet_at (size + 3) body }

octet_dropped : (size place : ℕ) (octets : List ℕ) → octet_at place (drop size octets) ≡ octet_at (size + place) octets
octet_dropped size place octets = get_or-drop size octets place 0

tail_read : (size : ℕ) (body : List ℕ) → size + 4 ≤ length body
    → cyclic_of size body ≡ Ok (
      take size body,
      record {
        counter = big_number 2 (drop size body);
        data_status = record { 0 = big_number 1 (drop 2 (drop size body)) };
        transfer_status = big_number 1 (drop 1 (drop 2 (drop size body)));
      },
    )
unfolding cyclic_frame cyclic_tail
tail_read size body long =
    let a = length-drop size body in
    let b = length-drop 2 (drop size body) in
    let c = length-drop 1 (drop 2 (drop size body)) in
    rw (
      le-ltb (length body) size (omega (arith, long)),
      le-ltb (length (drop size body)) 2 (omega (arith, long, a)),
      le-ltb (length (drop 2 (drop size body))) 1 (omega (arith, long, a, b)),
      le-ltb (length (drop 1 (drop 2 (drop size body)))) 1 (omega (arith, long, a, b, c)),
    ) refl

pub tail_there : (size : ℕ) (body : List ℕ) → size + 4 ≤ length body → cyclic_of size body ≡ Ok (take size body, tail_at size body)
tail_there size body long =
    let a = length-drop size body in
    let b = length-drop 2 (drop size body) in
    let c = length-drop 1 (drop 2 (drop size body)) in
    let none : size + 0 ≡ size = omega arith in
    let counter : big_number 2 (drop size body) ≡ word_at size body =
    sym (two_read (drop size body) (omega (arith, long, a))) ∙ (word_dropped size 0 body ∙ ap (λ (n : ℕ). word_at n body) none) in
    let status : big_number 1 (drop 2 (drop size body)) ≡ octet_at (size + 2) body =
    one_read (drop 2 (drop size body)) (omega (arith, long, a, b)) ∙ (octet_dropped 2 0 (drop size body) ∙ octet_dropped size 2 body) in
    let transfer : big_number 1 (drop 1 (drop 2 (drop size body))) ≡ octet_at (size + 3) body =
    one_read (drop 1 (drop 2 (drop size body))) (omega (arith, long, a, b, c))
    ∙ (octet_dropped 1 0 (drop 2 (drop size body)) ∙ (octet_dropped 2 1 (drop size body) ∙ octet_dropped size 3 body)) in
    tail_read size body long
    ∙ (ap (λ (n : ℕ). let r : Result (List ℕ × CyclicTail) ShortFrame = Ok (take size body, record { counter = n; data_status = record { 0 = big_number 1 (drop 2 (drop size body)) }; transfer_status = big_number 1 (drop 1 (drop 2 (drop size body))) }) in r) counter
    ∙ (ap (λ (n : ℕ). let r : Result (List ℕ × CyclicTail) ShortFrame = Ok (take size body, record { counter = word_at size body; data_status = record { 0 = n }; transfer_status = big_number 1 (drop 1 (drop 2 (drop size body))) }) in r) status
    ∙ ap (λ (n : ℕ). let r : Result (List ℕ × CyclicTail) ShortFrame = Ok (take size body, record { counter = word_at size body; data_status = record { 0 = octet_at (size + 2) body }; transfer_status = n }) in r) transfer))

-- What is too short is not read.
tail_short : (size : ℕ) (body : List ℕ) → length body < size + 4 → cyclic_of size body ≡ Err short
unfolding cyclic_frame cyclic_tail
tail_short size body few = by_front (ltb (length body) size) refl
  where
    one : List ℕ
    one = drop size body

    two : List ℕ
    two = drop 2 one

    three : List ℕ
    three = drop 1 two

    by_last : ltb (length body) size ≡ false → ltb (length one) 2 ≡ false → ltb (length two) 1 ≡ false → (b : Bool) → ltb (length three) 1 ≡ b → cyclic_of size body ≡ Err short
    by_last e f g true h = rw (e, f, g, h) refl
    by_last e f g false h =
        absurd (omega (arith, few, ltb-false _ _ e, ltb-false _ _ f, ltb-false _ _ g, ltb-false _ _ h, length-drop size body, length-drop 2 one, length-drop 1 two))

    by_third : ltb (length body) size ≡ false → ltb (length one) 2 ≡ false → (b : Bool) → ltb (length two) 1 ≡ b → cyclic_of size body ≡ Err short
    by_third e f true g = rw (e, f, g) refl
    by_third e f false g = by_last e f g (ltb (length three) 1) refl

    by_second : ltb (length body) size ≡ false → (b : Bool) → ltb (length one) 2 ≡ b → cyclic_of size body ≡ Err short
    by_second e true f = rw (e, f) refl
    by_second e false f = by_third e f (ltb (length two) 1) refl

    by_front : (b : Bool) → ltb (length body) size ≡ b → cyclic_of size body ≡ Err short
    by_front true e = rw e refl
    by_front false e = by_second e (ltb (length one) 2) refl

tail_long : (size : ℕ) (body : List ℕ) (value : List ℕ × CyclicTail) → cyclic_of size body ≡ Ok value → size + 4 ≤ length body
tail_long size body value read = elim (cases_lt (length body) (size + 4)) as (λ _. size + 4 ≤ length body) [
  | inl few ↦ absurd (apart value (sym read ∙ tail_short size body few))
  | inr long ↦ long
]
  where
    apart : (value : List ℕ × CyclicTail) → (let r : Result (List ℕ × CyclicTail) ShortFrame = Ok value in r) ≡ Err short → ⊥
    apart value e = absurd cc

-- What is read is there.
pub record IsTailed (size : ℕ) (body : List ℕ) (value : List ℕ × CyclicTail) : Type 0 where
  pub long : size + 4 ≤ length body
  pub is : value ≡ (take size body, tail_at size body)

pub tail_is : (size : ℕ) (body : List ℕ) (value : List ℕ × CyclicTail) → cyclic_of size body ≡ Ok value → IsTailed size body value
tail_is size body value read =
    let long = tail_long size body value read in
    record { long = long; is = same _ _ (sym read ∙ tail_there size body long) }
  where
    same : (one other : List ℕ × CyclicTail) → (let r : Result (List ℕ × CyclicTail) ShortFrame = Ok one in r) ≡ Ok other → one ≡ other
    same one other e = cc

-- ---- the fields of a frame

-- The fields of a frame are those of what follows its FrameID.
pub record AreFields (frame body : List ℕ) (size : ℕ) : Type 0 where
  pub octets : data_in size frame ≡ take size body
  pub counter : counter_in size frame ≡ word_at size body
  pub status : status_in size frame ≡ octet_at (size + 2) body
  pub transfer : transfer_in size frame ≡ octet_at (size + 3) body

pub fields_are : (frame body : List ℕ) (size : ℕ) → drop (type_place frame + 4) frame ≡ body → AreFields frame body size
fields_are frame body size is =
    let place = type_place frame in
    let two : place + 6 + size ≡ place + 4 + (size + 2) = omega arith in
    let three : place + 7 + size ≡ place + 4 + (size + 3) = omega arith in
    record {
      octets = ap (λ (l : List ℕ). take size l) is;
      counter = sym (word_dropped (place + 4) size frame) ∙ ap (λ (l : List ℕ). word_at size l) is;
      status = ap (λ (n : ℕ). octet_at n frame) two ∙ (sym (octet_dropped (place + 4) (size + 2) frame) ∙ ap (λ (l : List ℕ). octet_at (size + 2) l) is);
      transfer = ap (λ (n : ℕ). octet_at n frame) three ∙ (sym (octet_dropped (place + 4) (size + 3) frame) ∙ ap (λ (l : List ℕ). octet_at (size + 3) l) is);
    }

-- ---- what is accepted

-- The test of the machine.
abbrev tested : Option ℕ → ℕ → ℕ → ℕ → Bool
tested last counter status transfer = (has_bit 2 status && transfer == 0) && is_newer last counter

newer_same : (last : Option ℕ) (counter : ℕ) → machine_newer last counter ≡ is_newer last counter
newer_same None counter = refl
newer_same (Some last) counter = refl

pub taken_same : (last : Option ℕ) (counter status transfer : ℕ) → is_taken last counter status transfer ≡ ((has_bit 2 status && transfer == 0) && is_newer last counter)
taken_same last counter status transfer = ap (λ (b : Bool). (has_bit 2 status && transfer == 0) && b) (newer_same last counter)

-- Both ways, of a frame whose sender, FrameID and octets after it are these.
module _ (own : List ℕ) (cyclic : Cyclic) (frame : List ℕ) (source : Mac) (id : ℕ) (body : List ℕ) where
  abbrev size : ℕ
  size = cyclic.taken.data_length

  -- An end with this data, this counter and this DataStatus.
  abbrev accepted_with : List ℕ → ℕ → ℕ → Cyclic
  accepted_with octets counter status = record cyclic {
    hearing = record { last = Some counter; held = 0; limit = cyclic.hearing.limit };
    taken = with_frame octets cyclic.taken;
    data_status = status;
  }

  -- What the machine makes of a frame from the partner that was read so.
  record IsTaken (read : Result (List ℕ × CyclicTail) ShortFrame) : Type 0 where
    received : received_in cyclic read ≡ Taken
    behind : behind_read cyclic read ≡ accepted_with (take size body) (word_at size body) (octet_at (size + 2) body)

  newly : is_new cyclic (tail_at size body) ≡ true → IsTaken (Ok (take size body, tail_at size body))
  newly new = record {
    received = ap (λ (b : Bool). cond b Taken Stale) new;
    behind = ap (λ (b : Bool). cond b (taken_from cyclic (take size body) (tail_at size body)) cyclic) new
        ∙ ap (λ (b : Bool). let c : Cyclic = record cyclic {
          hearing = cond b (let h : Hearing = record { last = Some (word_at size body); held = 0; limit = cyclic.hearing.limit } in h) cyclic.hearing;
          taken = with_frame (take size body) cyclic.taken;
          data_status = octet_at (size + 2) body;
        } in c) new;
  }

  -- The end after a frame that the machine accepts.
  pub record IsAccepted : Type 0 where
    pub received : received_as cyclic source id body ≡ Taken
    pub behind : behind_frame cyclic source id body ≡ accepted_by frame cyclic

  -- What is acceptable is accepted.
  pub accepts : source.octets ≡ part_at 6 6 frame → id ≡ frame_id_in frame → drop (type_place frame + 4) frame ≡ body → IsAcceptable (consumer_of own cyclic) frame → IsAccepted
  accepts from number behind is =
      let fields = fields_are frame body size behind in
      let partner : is_of_partner cyclic.route source id ≡ true =
      and_from (pointwise nat_eq source.octets cyclic.route.partner.octets) (id == cyclic.route.taken_id)
      (subst (λ (l : List ℕ). pointwise nat_eq source.octets l ≡ true) (from ∙ is.source) (same_octets source.octets)) (eq-eqb id cyclic.route.taken_id (number ∙ is.id)) in
      let long : size + 4 ≤ length body =
      (let e : length (drop (type_place frame + 4) frame) ≡ length body = ap (λ (l : List ℕ). length l) behind in
      omega (arith, is.whole, e, length-drop (type_place frame + 4) frame)) in
      let new : is_new cyclic (tail_at size body) ≡ true =
      taken_same cyclic.hearing.last (word_at size body) (octet_at (size + 2) body) (octet_at (size + 3) body)
      ∙ and_from (has_bit 2 (octet_at (size + 2) body) && octet_at (size + 3) body == 0) (is_newer cyclic.hearing.last (word_at size body))
      (and_from (has_bit 2 (octet_at (size + 2) body)) (octet_at (size + 3) body == 0) (ap (has_bit 2) (sym fields.status) ∙ is.valid)
      (eq-eqb (octet_at (size + 3) body) 0 (sym fields.transfer ∙ is.transferred)))
      (ap (is_newer cyclic.hearing.last) (sym fields.counter) ∙ is.newer) in
      let taken = subst IsTaken (sym (tail_there size body long)) (newly new) in
      record {
        received = ap (λ (b : Bool). cond b (received_in cyclic (cyclic_of size body)) Foreign) partner ∙ taken.received;
        behind = ap (λ (b : Bool). cond b (behind_read cyclic (cyclic_of size body)) cyclic) partner ∙ (taken.behind
            ∙ (ap (λ (l : List ℕ). accepted_with l (word_at size body) (octet_at (size + 2) body)) (sym fields.octets)
            ∙ (ap (λ (n : ℕ). accepted_with (data_in size frame) n (octet_at (size + 2) body)) (sym fields.counter)
            ∙ ap (λ (n : ℕ). accepted_with (data_in size frame) (counter_in size frame) n) (sym fields.status))));
      }

  -- What is accepted is acceptable.
  pub acceptable : (meaning : Meaning) → IsRead frame meaning id body → meaning.source.octets ≡ source.octets → meaning.destination.octets ≡ own → is_cyclic id ≡ true
      → received_as cyclic source id body ≡ Taken → IsAcceptable (consumer_of own cyclic) frame
  acceptable meaning read from to cyclic_id is = by_partner (is_of_partner cyclic.route source id) refl is
    where
      by_new : (value : List ℕ × CyclicTail) → cyclic_of size body ≡ Ok value → is_of_partner cyclic.route source id ≡ true → (b : Bool) → is_new cyclic value.1 ≡ b
          → cond b Taken Stale ≡ Taken → IsAcceptable (consumer_of own cyclic) frame
      by_new value found partner false new e = absurd cc
      by_new value found partner true new e =
          let tail = tail_is size body value found in
          let fields = fields_are frame body size read.rest in
          let own_parts = and_parts (pointwise nat_eq source.octets cyclic.route.partner.octets) (id == cyclic.route.taken_id) partner in
          let tests = and_parts (has_bit 2 (octet_at (size + 2) body) && octet_at (size + 3) body == 0) (is_newer cyclic.hearing.last (word_at size body))
          (sym (taken_same cyclic.hearing.last (word_at size body) (octet_at (size + 2) body) (octet_at (size + 3) body))
          ∙ (ap (λ (x : List ℕ × CyclicTail). is_new cyclic x.1) (sym tail.is) ∙ new)) in
          let first = and_parts (has_bit 2 (octet_at (size + 2) body)) (octet_at (size + 3) body == 0) tests.0 in
          record {
            destination = read.destination ∙ to;
            source = read.source ∙ (from ∙ octets_same source.octets cyclic.route.partner.octets own_parts.0);
            cyclic = record { type = read.type; id = ap is_cyclic_id read.frame_id ∙ cyclic_id };
            id = read.frame_id ∙ eqb-true id cyclic.route.taken_id own_parts.1;
            whole = omega (arith, read.long, tail.long);
            short = read.short;
            valid = ap (has_bit 2) fields.status ∙ first.0;
            transferred = fields.transfer ∙ eqb-true (octet_at (size + 3) body) 0 first.1;
            newer = ap (is_newer cyclic.hearing.last) fields.counter ∙ tests.1;
          }

      by_read : (found : Result (List ℕ × CyclicTail) ShortFrame) → cyclic_of size body ≡ found → is_of_partner cyclic.route source id ≡ true
          → received_in cyclic found ≡ Taken → IsAcceptable (consumer_of own cyclic) frame
      by_read (Ok value) found partner e = by_new value found partner (is_new cyclic value.1) refl e
      by_read (Err fault) found partner e = absurd cc

      by_partner : (b : Bool) → is_of_partner cyclic.route source id ≡ b → cond b (received_in cyclic (cyclic_of size body)) Foreign ≡ Taken → IsAcceptable (consumer_of own cyclic) frame
      by_partner false partner e = absurd cc
      by_partner true partner e = by_read (cyclic_of size body) refl partner e
