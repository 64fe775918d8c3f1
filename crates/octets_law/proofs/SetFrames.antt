-- The frame that answers a Set, read at fixed places.
use Rattle.std.proofs.Common.{◌≡◌, ◌≤◌, ◌<◌, ◌^◌, ◌==◌, ◌&&◌, ℕ, Bool, true, List, [], ◌∷◌, ◌++◌, map, flat_map, zip, length, take, None, refl, sym, ap, ◌∙◌, arith, append_assoc}
use Rattle.std.proofs.lemmas.Bool.{cond-true}
use Rattle.std.proofs.lemmas.Bool.Decides.{nat_tests}
use Rattle.std.specs.Int.{w16, to_be_bytes}
use Rattle.byteorder.specs.Endian.{big_bytes, big_number}
use Rattle.pn_values.specs.declared.mac.Mac.{Mac}
use Rattle.pn_values.specs.declared.set_item.BlockError.{BlockError}
use Rattle.wire.proofs.Fields.{number_in_front, number_sound}
use Rattle.frame_codec.specs.Meaning.{RealTime}
use Rattle.frame_codec.specs.Frame.{ethernet, frame_bytes, layers, mac, padding_of, real_time, tag_and_type}
use Rattle.cyclic_data.specs.exchange.Frames.{plain_frame}
use Rattle.frame_codec.specs.Sendable.{carrying}
use Rattle.dcp_core.specs.Bytes.{answer_bytes, error_number, response_bytes}
use Rattle.dcp_core.specs.Request.{Asked, AskedBlock}
use Rattle.dcp_core.specs.Set.{set_bytes}
use Rattle.octets_law.specs.Octets.{block_errors, blocks_in, is_dcp, number, part}
use Rattle.octets_law.proofs.SetAnswers.{errors_read}

-- six octets
pub six : (P : List ℕ → Type 0) (l : List ℕ) → length l ≡ 6 → ((a b c d e f : ℕ) → P (a ∷ b ∷ c ∷ d ∷ e ∷ f ∷ [])) → P l
six P (a ∷ b ∷ c ∷ d ∷ e ∷ f ∷ []) is for = for a b c d e f
six P (a ∷ b ∷ c ∷ d ∷ e ∷ f ∷ g ∷ l) is for = absurd (omega arith)
six P (a ∷ b ∷ c ∷ d ∷ e ∷ []) is for = absurd (omega arith)
six P (a ∷ b ∷ c ∷ d ∷ []) is for = absurd (omega arith)
six P (a ∷ b ∷ c ∷ []) is for = absurd (omega arith)
six P (a ∷ b ∷ []) is for = absurd (omega arith)
six P (a ∷ []) is for = absurd (omega arith)
six P [] is for = absurd (omega arith)

-- a number that was written
pub number_front : (size value : ℕ) (rest : List ℕ) → value < 256 ^ size → big_number size (big_bytes size value ++ rest) ≡ value
number_front size value rest fits =
    let s = number_sound {F = ℕ} 0 size in
    sym (number_in_front 0 size _ value rest (s.again _ value rest (s.written value rest fits)))

pub take_front : (front rest : List ℕ) → take (length front) (front ++ rest) ≡ front
take_front [] rest = refl
take_front (x ∷ front) rest = ap (λ l. x ∷ l) (take_front front rest)

-- the octets of a plain frame of real time
pub plain_octets : (source destination : Mac) (id : ℕ) (body : List ℕ) →
    plain_frame source destination (RealTime id body)
    ≡ (destination.octets ++ (source.octets ++ (0x88 ∷ 0x92 ∷ (big_bytes 2 id ++ body)))) ++ padding_of (carrying destination source None (RealTime id body))
unfolding frame_bytes layers ethernet mac tag_and_type real_time
plain_octets source destination id body = refl

-- the octets of an answer to a Set, and what is read of them
abbrev pub answer_octets : List ℕ → List ℕ → ℕ → List ℕ → List ℕ → List ℕ
answer_octets destination source xid blocks padding =
    (destination ++ (source ++ (0x88 ∷ 0x92 ∷ (0xFE ∷ 0xFD ∷ answer_bytes 4 xid blocks)))) ++ padding

kind_read : (destination source : List ℕ) (xid : ℕ) (blocks padding : List ℕ) → length destination ≡ 6 → length source ≡ 6
    → is_dcp 0xFEFD 4 1 (answer_octets destination source xid blocks padding) ≡ true
kind_read destination source xid blocks padding d s =
    six (λ d. is_dcp 0xFEFD 4 1 (answer_octets d source xid blocks padding) ≡ true) destination d (λ a b c e f g.
    six (λ s. is_dcp 0xFEFD 4 1 (answer_octets (a ∷ b ∷ c ∷ e ∷ f ∷ g ∷ []) s xid blocks padding) ≡ true) source s (λ h i j k l m. refl))

xid_read : (destination source : List ℕ) (xid : ℕ) (blocks padding : List ℕ) → length destination ≡ 6 → length source ≡ 6 → xid < 2 ^ 32
    → number 18 4 (answer_octets destination source xid blocks padding) ≡ xid
xid_read destination source xid blocks padding d s small =
    six (λ d. number 18 4 (answer_octets d source xid blocks padding) ≡ xid) destination d (λ a b c e f g.
    six (λ s. number 18 4 (answer_octets (a ∷ b ∷ c ∷ e ∷ f ∷ g ∷ []) s xid blocks padding) ≡ xid) source s (λ h i j k l m.
    number_front 4 xid (0 ∷ 0 ∷ (to_be_bytes w16 (length blocks) ++ blocks) ++ padding) small))

length_read : (destination source : List ℕ) (xid : ℕ) (blocks padding : List ℕ) → length destination ≡ 6 → length source ≡ 6 → length blocks < 65536
    → number 24 2 (answer_octets destination source xid blocks padding) ≡ length blocks
length_read destination source xid blocks padding d s small =
    six (λ d. number 24 2 (answer_octets d source xid blocks padding) ≡ length blocks) destination d (λ a b c e f g.
    six (λ s. number 24 2 (answer_octets (a ∷ b ∷ c ∷ e ∷ f ∷ g ∷ []) s xid blocks padding) ≡ length blocks) source s (λ h i j k l m.
    ap (big_number 2) (append_assoc (big_bytes 2 (length blocks)) blocks padding) ∙ number_front 2 (length blocks) (blocks ++ padding) small))

blocks_read : (destination source : List ℕ) (xid : ℕ) (blocks padding : List ℕ) → length destination ≡ 6 → length source ≡ 6 → length blocks < 65536
    → part 26 (number 24 2 (answer_octets destination source xid blocks padding)) (answer_octets destination source xid blocks padding) ≡ blocks
blocks_read destination source xid blocks padding d s small =
    ap (λ n. part 26 n (answer_octets destination source xid blocks padding)) (length_read destination source xid blocks padding d s small)
    ∙ six (λ d. part 26 (length blocks) (answer_octets d source xid blocks padding) ≡ blocks) destination d (λ a b c e f g.
    six (λ s. part 26 (length blocks) (answer_octets (a ∷ b ∷ c ∷ e ∷ f ∷ g ∷ []) s xid blocks padding) ≡ blocks) source s (λ h i j k l m.
    take_front blocks padding))

both : (one other : Bool) → one ≡ true → other ≡ true → one && other ≡ true
both one other a b = cc

itself : (n : ℕ) → (n == n) ≡ true
itself n = grind (arith, nat_tests)

-- The answer to a Set is read as its answers.
pub set_answer_read : (set : List ℕ) (source asker : Mac) (request : Asked) (answers : List BlockError)
    → length asker.octets ≡ 6 → length source.octets ≡ 6 → request.xid < 2 ^ 32 → number 18 4 set ≡ request.xid
    → length answers ≡ length request.blocks → length request.blocks ≤ 16
    → length (flat_map (λ (pair : AskedBlock × BlockError). response_bytes pair.0.kind pair.1) (zip request.blocks answers)) < 65536
    → block_errors set (plain_frame source asker (RealTime 65277 (set_bytes request answers))) ≡ map error_number answers
unfolding set_bytes
set_answer_read set source asker request answers d s small same all few short =
    let blocks : List ℕ = flat_map (λ (pair : AskedBlock × BlockError). response_bytes pair.0.kind pair.1) (zip request.blocks answers) in
    let padding : List ℕ = padding_of (carrying asker source None (RealTime 65277 (set_bytes request answers))) in
    let frame : List ℕ = answer_octets asker.octets source.octets request.xid blocks padding in
    ap (block_errors set) (plain_octets source asker 65277 (set_bytes request answers))
    ∙ cond-true _ _ _ (both (is_dcp 0xFEFD 4 1 frame) (number 18 4 frame == number 18 4 set)
    (kind_read asker.octets source.octets request.xid blocks padding d s)
    (ap (λ n. n == number 18 4 set) (xid_read asker.octets source.octets request.xid blocks padding d s small ∙ sym same) ∙ itself (number 18 4 set)))
    ∙ ap (λ l. map (λ (block : ℕ × List ℕ). number 2 1 block.1) (blocks_in 16 l)) (blocks_read asker.octets source.octets request.xid blocks padding d s short)
    ∙ errors_read 16 request.blocks answers all few
