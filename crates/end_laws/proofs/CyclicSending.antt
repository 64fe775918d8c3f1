-- The cyclic frames that an end sends are those of the independent words.
use Rattle.std.proofs.Common.{◌≡◌, ap, ◌+◌, ◌≤◌, ◌<◌, ℕ, Bool, true, false, List, [], ◌∷◌, ◌++◌, length, Some, None, refl, sym, subst, ◌∙◌, append_assoc, arith}
use Rattle.std.specs.Prelude.{if◌then◌else◌}
use Rattle.std.specs.List.{AllByRecursion}
use Rattle.std.proofs.lemmas.List.{append-nil, length-append}
use Rattle.std.proofs.lemmas.List.FromFn.{length-map-range_with_len}
use Rattle.byteorder.specs.Endian.{big_bytes}
use Rattle.byteorder.specs.Numbers.{big_number-reads_back, length-bytes_high_first}
use Rattle.pn_values.specs.declared.mac.Mac.{Mac}
use Rattle.frame_codec.specs.declared.udp.Endpoint.{Endpoint}
use Rattle.frame_codec.specs.FrameId.{is_cyclic}
use Rattle.frame_codec.specs.Meaning.{Meaning, RealTime, UdpDatagram}
use Rattle.frame_codec.specs.Frame.{frame_bytes, padding_of}
use Rattle.frame_codec.specs.Sendable.{CanBeSent, carrying}
use Rattle.cyclic_data.specs.declared.status.StationState.{StationState}
use Rattle.cyclic_data.specs.declared.exchange.route.Route.{Route}
use Rattle.cyclic_data.specs.Image.{Shown, octet_at as image_octet, octets_of}
use Rattle.cyclic_data.specs.Status.{data_status_of}
use Rattle.cyclic_data.specs.Tail.{cyclic_bytes, cyclic_frame, cyclic_tail}
use Rattle.cyclic_data.specs.exchange.Frames.{body_at, tail_at as tail_said}
use Rattle.field_words.specs.Cyclic.{IsCyclic, IsProvided, SaysStatus, is_cyclic_id}
use Rattle.field_words.specs.Octets.{octet_at, word_at}
use Rattle.end_laws.proofs.HearingGiven.{DataIsRead}
use Rattle.end_laws.proofs.CyclicPlaces.{datagram_type, octet_behind, plain_id, read_is_there, tagged_id, word_behind, word_written}
use Rattle.end_laws.proofs.CyclicAccepting.{fields_are, one_read}

-- ---- DataStatus

pub says_status : (state : StationState) → SaysStatus state.is_running state.has_problem (data_status_of state)
says_status state = by_bits state.is_running state.has_problem
  where
    by_bits : (runs problem : Bool) → SaysStatus runs problem (0x05 + (if runs then 0x10 else 0) + (if problem then 0 else 0x20))
    by_bits true true = record { primary = refl; redundancy = refl; valid = refl; reserved = refl; state = refl; problem = refl; other = refl; ignored = refl }
    by_bits true false = record { primary = refl; redundancy = refl; valid = refl; reserved = refl; state = refl; problem = refl; other = refl; ignored = refl }
    by_bits false true = record { primary = refl; redundancy = refl; valid = refl; reserved = refl; state = refl; problem = refl; other = refl; ignored = refl }
    by_bits false false = record { primary = refl; redundancy = refl; valid = refl; reserved = refl; state = refl; problem = refl; other = refl; ignored = refl }

status_small : (state : StationState) → data_status_of state < 256
status_small state = by_bits state.is_running state.has_problem
  where
    by_bits : (runs problem : Bool) → 0x05 + (if runs then 0x10 else 0) + (if problem then 0 else 0x20) < 256
    by_bits true true = omega arith
    by_bits true false = omega arith
    by_bits false true = omega arith
    by_bits false false = omega arith

-- ---- a frame that is no cyclic frame

no_bool : (b : Bool) → b ≡ true → b ≡ false → ⊥
no_bool b is other = cc

module _ (to from : Mac) (t : length to.octets ≡ 6) (f : length from.octets ≡ 6) where
  pub datagram_alone : (source destination : Endpoint) (body : List ℕ) → IsCyclic (frame_bytes (carrying to from None (UdpDatagram source destination body))) → ⊥
  datagram_alone source destination body cyclic = apart _ (datagram_type to from t f source destination body) cyclic.type
    where
      apart : (n : ℕ) → n ≡ 0x0800 → n ≡ 0x8892 → ⊥
      apart n is other = absurd (omega (arith, is, other))

  pub plain_alone : (id : ℕ) (body : List ℕ) → id < 65536 → is_cyclic id ≡ false → IsCyclic (frame_bytes (carrying to from None (RealTime id body))) → ⊥
  plain_alone id body few other cyclic = no_bool (is_cyclic id) (ap is_cyclic_id (sym (plain_id to from t f id body few)) ∙ cyclic.id) other

  pub tagged_alone : (tag id : ℕ) (body : List ℕ) → id < 65536 → is_cyclic id ≡ false → IsCyclic (frame_bytes (carrying to from (Some tag) (RealTime id body))) → ⊥
  tagged_alone tag id body few other cyclic = no_bool (is_cyclic id) (ap is_cyclic_id (sym (tagged_id to from t f tag id body few)) ∙ cyclic.id) other

-- ---- a cyclic frame

octets_length : (shown : Shown) → length (octets_of shown) ≡ shown.data_length
unfolding octets_of
octets_length shown = length-map-range_with_len (image_octet shown.cells) 0 shown.data_length

-- An octet that is written.
octet_written : (x : ℕ) (rest : List ℕ) → x < 256 → octet_at 0 (big_bytes 1 x ++ rest) ≡ x
octet_written x rest few =
    let long : 1 ≤ length (big_bytes 1 x ++ rest) = omega (arith, length-append (big_bytes 1 x) rest, length-bytes_high_first 1 x) in
    sym (one_read (big_bytes 1 x ++ rest) long) ∙ big_number-reads_back 1 x rest few

-- The fields after the data, as they are written.
record HasTail (size : ℕ) (state : StationState) (counter : ℕ) (body : List ℕ) : Type 0 where
  long : size + 4 ≤ length body
  counter_is : word_at size body ≡ counter
  status : octet_at (size + 2) body ≡ data_status_of state
  transfer : octet_at (size + 3) body ≡ 0

are_written : (octets : List ℕ) (state : StationState) (counter : ℕ) (more : List ℕ) → counter < 65536
    → HasTail (length octets) state counter (cyclic_bytes octets (tail_said state counter) [] ++ more)
unfolding cyclic_frame cyclic_tail
are_written octets state counter more few =
    let status = data_status_of state in
    let last : List ℕ = big_bytes 1 0 ++ more in
    let second : List ℕ = big_bytes 1 status ++ last in
    let first : List ℕ = big_bytes 2 counter ++ second in
    let none : length octets + 0 ≡ length octets = omega arith in
    let is : cyclic_bytes octets (tail_said state counter) [] ++ more ≡ octets ++ first =
    append_assoc octets (big_bytes 2 counter ++ (big_bytes 1 status ++ (big_bytes 1 0 ++ []))) more
    ∙ ap (λ (l : List ℕ). octets ++ l) (append_assoc (big_bytes 2 counter) (big_bytes 1 status ++ (big_bytes 1 0 ++ [])) more
    ∙ ap (λ (l : List ℕ). big_bytes 2 counter ++ l) (append_assoc (big_bytes 1 status) (big_bytes 1 0 ++ []) more
    ∙ ap (λ (l : List ℕ). big_bytes 1 status ++ l) (ap (λ (l : List ℕ). l ++ more) (append-nil (big_bytes 1 0))))) in
    subst (λ (l : List ℕ). HasTail (length octets) state counter l) (sym is) (record {
      long = omega (
        arith,
        length-append octets first,
        length-append (big_bytes 2 counter) second,
        length-append (big_bytes 1 status) last,
        length-append (big_bytes 1 0) more,
        length-bytes_high_first 2 counter,
        length-bytes_high_first 1 status,
        length-bytes_high_first 1 0,
      );
      counter_is = ap (λ (n : ℕ). word_at n (octets ++ first)) (sym none) ∙ (word_behind octets first (length octets) 0 refl ∙ word_written counter second few);
      status = octet_behind octets first (length octets) 2 refl ∙ (octet_behind (big_bytes 2 counter) second 2 0 (length-bytes_high_first 2 counter)
          ∙ octet_written status last (status_small state));
      transfer = octet_behind octets first (length octets) 3 refl ∙ (octet_behind (big_bytes 2 counter) second 2 1 (length-bytes_high_first 2 counter)
          ∙ (octet_behind (big_bytes 1 status) last 1 0 (length-bytes_high_first 1 status) ∙ octet_written 0 more (omega arith)));
    })

-- The frame of this data, of a provider in this state, at this CycleCounter.
abbrev pub meaning_by : Mac → Route → StationState → Shown → ℕ → Meaning
meaning_by source route state shown counter = carrying route.partner source (Some route.sent_tag) (RealTime route.sent_id (body_at state shown counter))

pub provided : DataIsRead → (source : Mac) (route : Route) (state : StationState) (shown : Shown) (counter : ℕ) → CanBeSent (meaning_by source route state shown counter) → counter < 65536
    → IsProvided (record {
      own = source.octets;
      partner = route.partner.octets;
      frame_id = route.sent_id;
      size = shown.data_length;
      runs = state.is_running;
      has_problem = state.has_problem;
    }) counter (frame_bytes (meaning_by source route state shown counter))
provided reads source route state shown counter can few =
    let frame = frame_bytes (meaning_by source route state shown counter) in
    let padding = padding_of (meaning_by source route state shown counter) in
    let body = body_at state shown counter ++ padding in
    let it = read_is_there frame (carrying route.partner source (Some route.sent_tag) (RealTime route.sent_id body)) route.sent_id body
    (reads route.partner source (Some route.sent_tag) route.sent_id (body_at state shown counter) can) refl in
    let tail = subst (λ (n : ℕ). HasTail n state counter body) (octets_length shown) (are_written (octets_of shown) state counter padding few) in
    let fields = fields_are frame body shown.data_length it.rest in
    record {
      destination = it.destination;
      source = it.source;
      id = it.frame_id;
      whole = omega (arith, it.long, tail.long);
      short = it.short;
      counter = fields.counter ∙ tail.counter_is;
      status = subst (λ (n : ℕ). SaysStatus state.is_running state.has_problem n) (sym (fields.status ∙ tail.status)) (says_status state);
      transferred = fields.transfer ∙ tail.transfer;
    }

-- ---- lists of frames

module _ {A : Type 0} (P : A → Type 0) where
  pub all_both : (one more : List A) → AllByRecursion P one → AllByRecursion P more → AllByRecursion P (one ++ more)
  all_both [] more first others = others
  all_both (x ∷ one) more first others = (first.0, all_both one more first.1 others)
