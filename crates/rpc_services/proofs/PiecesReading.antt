-- Fragments that are written are read.
use Rattle.std.proofs.Common.{◌≡◌, ◌+◌, ◌*◌, ◌/◌, ◌<◌, ◌≤◌, ◌&&◌, ℕ, Bool, true, false, List, [], ◌++◌, length, take, drop, Some, Ok, refl, sym, ap, subst, ◌∙◌, arith}
use Rattle.std.proofs.lemmas.Bool.{eq-eqb, le-leb, lt-ltb, ne_eqb}
use Rattle.std.proofs.lemmas.List.{length-take, length-drop, take_all}
use Rattle.rpc_core.specs.declared.call_headers.call.Head.{Head}
use Rattle.rpc_core.specs.declared.call_headers.call.Opening.{Opening}
use Rattle.rpc_core.specs.declared.call_headers.call.Names.{Names}
use Rattle.rpc_core.specs.declared.call_headers.call.Turn.{Turn}
use Rattle.rpc_core.specs.declared.call_headers.call.Extent.{Extent}
use Rattle.rpc_core.specs.call_headers.Call.{extent, head, in_order, is_little, names, opening, turn}
use Rattle.rpc_services.specs.declared.pieces.piece.Kind.{Kind}
use Rattle.rpc_services.specs.declared.pieces.piece.Kind.TheVariants.{Calls, Answers}
use Rattle.rpc_services.specs.pieces.Piece.{is_concerned, is_fragment, is_last, is_piece, packet_type_of, piece_by, piece_of}
use Rattle.rpc_services.specs.pieces.Split.{IsSendable, carried, flags_asking, flags_with, is_final, piece_bytes, piece_head, piece_in, pieces_in}
use Rattle.rpc_services.proofs.PiecesSound.{head_sound}

-- ---- flags

pub flags_small : (wanted last : Bool) (flags : ℕ) → flags < 256 → flags_with last (flags_asking wanted flags) < 256
flags_small true true flags few = omega (arith, few)
flags_small true false flags few = omega (arith, few)
flags_small false true flags few = omega (arith, few)
flags_small false false flags few = omega (arith, few)

fragment_is : (wanted last : Bool) (flags : ℕ) → is_fragment (flags_with last (flags_asking wanted flags)) ≡ true
fragment_is true true flags = eq-eqb _ _ (omega arith)
fragment_is true false flags = eq-eqb _ _ (omega arith)
fragment_is false true flags = eq-eqb _ _ (omega arith)
fragment_is false false flags = eq-eqb _ _ (omega arith)

pub last_is : (wanted last : Bool) (flags : ℕ) → is_last (flags_with last (flags_asking wanted flags)) ≡ last
last_is true true flags = eq-eqb _ _ (omega arith)
last_is true false flags = ne_eqb _ _ (omega arith)
last_is false true flags = eq-eqb _ _ (omega arith)
last_is false false flags = ne_eqb _ _ (omega arith)

pub whole_flags : (wanted last : Bool) (flags : ℕ) → flags_with last (flags_asking wanted flags) / 8 * 8 ≡ flags_asking wanted flags
whole_flags true true flags = omega arith
whole_flags true false flags = omega arith
whole_flags false true flags = omega arith
whole_flags false false flags = omega arith

-- ---- the header

-- the fields have their sizes
record HasSizes (h : Head) : Type 0 where
  packet_type : h.opening.packet_type < 256
  flags : h.opening.flags < 256
  representation : h.opening.representation < 256
  object : length h.names.object ≡ 16
  interface : length h.names.interface ≡ 16
  activity : length h.names.activity ≡ 16
  version : length h.turn.version ≡ 4
  sequence : length h.turn.sequence ≡ 4
  operation : h.turn.operation < 65536
  size : h.extent.length < 65536
  number : h.extent.fragment < 65536
  authentication : h.extent.authentication < 256

opening_fits : (o : Opening) → o.packet_type < 256 → o.flags < 256 → o.representation < 256 → opening.Fits o
unfolding opening
opening_fits o a b c = ((refl, omega arith), (omega (arith, a), (omega (arith, b), (refl, (omega (arith, c), refl)))))

names_fit : (n : Names) → length n.object ≡ 16 → length n.interface ≡ 16 → length n.activity ≡ 16 → names.Fits n
unfolding names
names_fit n a b c = (a, (b, c))

order_fits : (is_low : Bool) (n : ℕ) → n < 65536 → (in_order is_low 2).Fits n
unfolding in_order
order_fits true n few = omega (arith, few)
order_fits false n few = omega (arith, few)

turn_fits : (is_low : Bool) (t : Turn) → length t.version ≡ 4 → length t.sequence ≡ 4 → t.operation < 65536 → (turn is_low).Fits t
unfolding turn
turn_fits is_low t a b few = (refl, (a, (b, order_fits is_low t.operation few)))

extent_fits : (is_low : Bool) (e : Extent) → e.length < 65536 → e.fragment < 65536 → e.authentication < 256 → (extent is_low).Fits e
unfolding extent
extent_fits is_low e a b c = (refl, (order_fits is_low e.length a, (order_fits is_low e.fragment b, (omega (arith, c), refl))))

head_fits : (h : Head) → HasSizes h → head.Fits h
unfolding head
head_fits h has = (
  opening_fits h.opening has.packet_type has.flags has.representation,
  (
    names_fit h.names has.object has.interface has.activity,
    (
      turn_fits (is_little h.opening.representation) h.turn has.version has.sequence has.operation,
      extent_fits (is_little h.opening.representation) h.extent has.size has.number has.authentication,
    ),
  ),
)

head_read : (h : Head) (rest : List ℕ) → HasSizes h → head.read (head.write h [] ++ rest) ≡ Ok (h, rest)
head_read h rest has =
    head_sound.again (head.write h [] ++ rest) h rest
    (subst (λ (bytes : List ℕ). head.Spells bytes h rest) (head_sound.local h rest) (head_sound.written h rest (head_fits h has)))

-- ---- what a fragment carries

pub carried_length : (number : ℕ) (body : List ℕ) → number < pieces_in (length body) → (1 ≤ length (carried number body)) × (length (carried number body) ≤ 1392)
    × (number * 1392 + length (carried number body) ≤ length body) × (number * 1392 < length body)
carried_length number body there =
    let a = length-take 1392 (drop (number * 1392) body) in
    let b = length-drop (number * 1392) body in
    (omega (arith, a, b, there), omega (arith, a, b, there), omega (arith, a, b, there), omega (arith, a, b, there))

kind_small : (kind : Kind) → packet_type_of kind < 256
kind_small Calls = omega arith
kind_small Answers = omega arith

concerned : (kind : Kind) (h : Head) (wanted : Bool) (number : ℕ) (body : List ℕ) → is_concerned kind h ≡ true → is_concerned kind (piece_head h wanted number body) ≡ true
concerned Calls h wanted number body e = e
concerned Answers h wanted number body e = refl

seven : (a b c d e f g : Bool) → a ≡ true → b ≡ true → c ≡ true → d ≡ true → e ≡ true → f ≡ true → g ≡ true → (a && b && c && d && e && f && g) ≡ true
seven a b c d e f g ea eb ec ed ee ef eg = rw (ea, eb, ec, ed, ee, ef, eg) refl

piece_is : (kind : Kind) (h : Head) (wanted : Bool) (number : ℕ) (body : List ℕ) → IsSendable kind h → number < pieces_in (length body)
    → is_piece kind (piece_head h wanted number body) (carried number body) ≡ true
piece_is kind h wanted number body is there =
    let long = carried_length number body there in
    seven _ _ _ _ _ _ _ (lt-ltb _ _ (omega (arith, is.representation))) refl (eq-eqb _ _ is.packet_type) (fragment_is wanted (is_final number body) h.opening.flags)
    (le-leb _ _ long.0) (le-leb _ _ (omega arith)) (concerned kind h wanted number body is.concerned)

sizes : (kind : Kind) (h : Head) (wanted : Bool) (number : ℕ) (body : List ℕ) → IsSendable kind h → length body ≤ 4152 → number < pieces_in (length body)
    → HasSizes (piece_head h wanted number body)
sizes kind h wanted number body is few there =
    let long = carried_length number body there in
    record {
      packet_type = subst (λ (n : ℕ). n < 256) (sym is.packet_type) (kind_small kind);
      flags = flags_small wanted (is_final number body) h.opening.flags is.flags;
      representation = omega (arith, is.representation);
      object = is.object;
      interface = is.interface;
      activity = is.activity;
      version = is.version;
      sequence = is.sequence;
      operation = is.operation;
      size = omega (arith, long.1);
      number = omega (arith, few, there);
      authentication = omega arith;
    }

pub piece_read : (kind : Kind) (h : Head) (wanted : Bool) (number : ℕ) (body : List ℕ) → IsSendable kind h → length body ≤ 4152 → number < pieces_in (length body)
    → piece_of kind (piece_bytes h wanted number body) ≡ Some (piece_in h wanted number body)
unfolding piece_of piece_bytes
piece_read kind h wanted number body is few there =
    let front = piece_head h wanted number body in
    let part = carried number body in
    let all : take (length part) part ≡ part = take_all (length part) part (omega arith) in
    ap (piece_by kind (head.write front [] ++ part)) (head_read front part (sizes kind h wanted number body is few there))
    ∙ rw (piece_is kind h wanted number body is there, all) refl
