-- Reading requests agrees with how they are spelled.
use Rattle.std.proofs.Common.{◌≡◌, ℕ, ◌<◌, ◌≤◌, ◌%◌, ltb, List, ◌++◌, length, Result, Ok, Err, refl, subst, arith}
use Rattle.std.proofs.lemmas.Bool.{ltb-false, le-ltb}
use Rattle.wire.specs.Codec.{Codec, Whole, IsSound, IsSoundWhole, IsOnward}
use Rattle.wire.proofs.Fields.{bind_ok, ok_is, guard_ok, number_sound, number_onward, padding_sound}
use Rattle.wire.proofs.Joined.{then_by_sound, then_by_onward, seen_sound, seen_onward, framed_sound, framed_onward, unchecked_sound, unchecked_onward}
use Rattle.wire.proofs.Wholes.{everything_sound, refused_sound, loose_sound, loose_behind}
use Rattle.wire.proofs.Lists.{filled_sound}
use Rattle.dcp_core.specs.declared.request.DcpFault.{DcpFault}
use Rattle.dcp_core.specs.declared.request.DcpFault.TheVariants as fault
use Rattle.dcp_core.specs.declared.request.Service.{Service}
use Rattle.dcp_core.specs.declared.request.Service.TheVariants.{Get, Set, Identify}
use Rattle.dcp_core.specs.Request.{Asked, AskedBlock}
use Rattle.dcp_core.specs.Format.{viewed, viewed_whole, at_least, kind, pair, block, block_of, blocks_of, id_of, data_of, service_of, delay_under, header_and_data, request}
use Rattle.dcp_core.specs.Reading.{IsRequest, request_of}

-- ---- the formats of this crate

module _ {F A B : Type 0} (to : A → B) (from : B → A) where
  viewed_sound : (codec : Codec F A) → IsSound codec → IsSound (viewed to from codec)
  viewed_sound codec sound = record {
    takes = λ bytes value rest e.
        let a = bind_ok (codec.read bytes) (λ x. Ok (to x.0, x.1)) (value, rest) e in
        subst (λ (y : B × List ℕ). (viewed to from codec).Spells bytes y.0 y.1) (ok_is {F = F} (to a.0.0, a.0.1) (value, rest) a.2)
        (a.0.0, refl, sound.takes bytes a.0.0 a.0.1 a.1);
    again = λ bytes value rest s. rw (sound.again bytes s.0 rest s.2, s.1) refl;
    written = λ value rest fits. (from value, fits.1, sound.written (from value) rest fits.0);
    local = λ value rest. sound.local (from value) rest;
    sized = λ value rest. sound.sized (from value) rest;
  }

  pub viewed_whole_sound : (whole : Whole F A) → IsSoundWhole whole → IsSoundWhole (viewed_whole to from whole)
  viewed_whole_sound whole sound = record {
    takes = λ bytes value e.
        let a = bind_ok (whole.read bytes) (λ x. Ok (to x)) value e in
        (a.0, ok_is {F = F} (to a.0) value a.2, sound.takes bytes a.0 a.1);
    again = λ bytes value s. rw (sound.again bytes s.0 s.2, s.1) refl;
    written = λ value fits. (from value, fits.1, sound.written (from value) fits.0);
    sized = λ value. sound.sized (from value);
  }

at_least_sound : {F : Type 0} (short : F) (size : ℕ) → IsSoundWhole (at_least short size)
at_least_sound short size = record {
  takes = λ bytes value e.
      let g = guard_ok (ltb (length bytes) size) short bytes value e in
      let long : size ≤ length bytes = ltb-false _ _ g.0 in
      (g.1, subst (λ (xs : List ℕ). size ≤ length xs) g.1 long);
  again = λ bytes value s. rw (s.0, le-ltb (length value) size s.1) refl;
  written = λ value fits. (refl, fits);
  sized = λ value. refl;
}

-- ---- blocks

pub kind_sound : IsSound kind
unfolding kind
kind_sound = viewed_sound _ _ _ (then_by_sound _ _ (number_sound fault.Block 1) (λ _. number_sound fault.Block 1))

pair_sound : IsSound pair
unfolding pair
pair_sound = viewed_sound _ _ kind kind_sound

pub block_sound : (contents : Whole DcpFault (List ℕ)) → IsSoundWhole contents → IsSound (block contents)
unfolding block
block_sound contents sound = seen_sound _ _ _ (λ _. refl) (then_by_sound _ _
    (seen_sound _ _ _ (λ _. refl) (then_by_sound _ _ kind_sound (λ _. framed_sound _ _ _ (number_sound fault.Block 2) sound)))
    (λ (asked : AskedBlock). padding_sound (length asked.contents % 2)))

pub block_of_sound : (service : Service) → IsSound (block_of service)
unfolding block_of
block_of_sound Get = pair_sound
block_of_sound Set = block_sound (at_least fault.Block 2) (at_least_sound fault.Block 2)
block_of_sound Identify = block_sound _ everything_sound

-- a block takes at least one byte
some_of : (service : Service) (asked : AskedBlock) → (block_of service).Fits asked → 0 < (block_of service).size asked
unfolding block_of pair block kind
some_of Get asked fits = omega arith
some_of Set asked fits = omega arith
some_of Identify asked fits = omega arith

pub blocks_sound : (service : Service) → IsSoundWhole (blocks_of service)
unfolding blocks_of
blocks_sound service = filled_sound fault.Block (block_of service) 16 (block_of_sound service) (some_of service)

-- ---- requests

data_sound : (service : Result Service DcpFault) → IsSoundWhole (data_of service)
unfolding data_of
data_sound (Ok service) = viewed_whole_sound _ _ _ (blocks_sound service)
data_sound (Err why) = refused_sound why

pub request_sound : (frame_id : ℕ) → IsSoundWhole (request frame_id)
unfolding request header_and_data
request_sound frame_id = loose_sound _ (seen_sound _ _ _ (λ _. refl) (then_by_sound _ _
    (then_by_sound _ _ (number_sound fault.Length 1) (λ _. then_by_sound _ _ (number_sound fault.Length 1)
    (λ _. then_by_sound _ _ (number_sound fault.Length 4) (λ _. unchecked_sound fault.Length 2 (delay_under frame_id)))))
    (λ head. framed_sound _ _ _ (number_sound fault.Length 2) (data_sound (service_of frame_id head.0 head.1.0)))))

onward : (frame_id : ℕ) → IsOnward (header_and_data frame_id)
unfolding header_and_data
onward frame_id = seen_onward _ (λ (asked : Asked). ((id_of asked.service, (0, (asked.xid, tt))), (asked.service, asked.blocks))) _ (then_by_onward _ _
    (then_by_onward _ _ (number_onward fault.Length 1) (λ _. then_by_onward _ _ (number_onward fault.Length 1)
    (λ _. then_by_onward _ _ (number_onward fault.Length 4) (λ _. unchecked_onward fault.Length 2 (delay_under frame_id)))))
    (λ head. framed_onward _ fault.Length (data_of (service_of frame_id head.0 head.1.0)) (number_onward fault.Length 2)))

-- bytes that are read as a request spell it
pub request_takes : (frame_id : ℕ) (bytes : List ℕ) (asked : Asked) → request_of frame_id bytes ≡ Ok asked → IsRequest frame_id bytes asked
unfolding request_of IsRequest
request_takes frame_id bytes asked e = (request_sound frame_id).takes bytes asked e

-- bytes that spell a request are read as it
pub request_again : (frame_id : ℕ) (bytes : List ℕ) (asked : Asked) → IsRequest frame_id bytes asked → request_of frame_id bytes ≡ Ok asked
unfolding request_of IsRequest
request_again frame_id bytes asked s = (request_sound frame_id).again bytes asked s

-- the same with anything after the bytes
pub request_behind : (frame_id : ℕ) (bytes more : List ℕ) (asked : Asked) → IsRequest frame_id bytes asked → IsRequest frame_id (bytes ++ more) asked
unfolding IsRequest request
request_behind frame_id bytes more asked s = loose_behind (header_and_data frame_id) bytes asked more (onward frame_id) s
