-- Reading responses agrees with how they are spelled.
use Rattle.std.proofs.Common.{◌≡◌, ℕ, ◌+◌, ◌<◌, ◌≤◌, Bool, List, ◌++◌, length, Result, Ok, Err, refl, sym, ap, ◌∙◌, subst, arith}
use Rattle.std.proofs.lemmas.List.{length-append, length-drop}
use Rattle.wire.specs.Codec.{Codec, IsSound, IsSoundWhole, IsOnward, ◌>>=◌}
use Rattle.wire.specs.Formats.{number}
use Rattle.wire.specs.Whole.{everything}
use Rattle.wire.proofs.Fields.{bind_ok, ok_is, number_sound, number_onward}
use Rattle.wire.proofs.Joined.{then_by_sound, then_by_onward, seen_sound, seen_onward, framed_sound, framed_onward, unchecked_sound, unchecked_onward}
use Rattle.wire.proofs.Wholes.{everything_sound, refused_sound, loose_sound, loose_behind}
use Rattle.dcp_core.specs.declared.request.DcpFault.{DcpFault}
use Rattle.dcp_core.specs.declared.request.DcpFault.TheVariants as fault
use Rattle.dcp_core.specs.declared.request.Service.{Service}
use Rattle.dcp_core.specs.Request.{AskedBlock}
use Rattle.dcp_core.specs.Format.{kind, block, id_of}
use Rattle.dcp_core.specs.Response.{Answered, AnsweredBlock}
use Rattle.dcp_core.specs.Answer.{handled, answer_block, answer_blocks, type_of, answer_to, answer_data, answer_header_and_data, answer, IsAnswer, answer_of}
use Rattle.dcp_core.specs.Reported.{IsSent}
use Rattle.dcp_core.proofs.Sound.{viewed_whole_sound, block_sound}
use Rattle.dcp_core.proofs.Every.{Shrinks, every_sound}

module _ {F A B : Type 0} (judge : A → Result B F) (from : B → A) where
  handled_sound : (codec : Codec F A) → IsSound codec → IsSound (handled judge from codec)
  handled_sound codec sound = record {
    takes = λ bytes value rest e.
        let a = bind_ok (codec.read bytes) (λ x. judge x.0 >>= λ v. Ok (v, x.1)) (value, rest) e in
        let b = bind_ok (judge a.0.0) (λ v. Ok (v, a.0.1)) (value, rest) a.2 in
        subst (λ (y : B × List ℕ). (handled judge from codec).Spells bytes y.0 y.1) (ok_is {F = F} (b.0, a.0.1) (value, rest) b.2)
        (a.0.0, b.1, sound.takes bytes a.0.0 a.0.1 a.1);
    again = λ bytes value rest s. rw (sound.again bytes s.0 rest s.2, s.1) refl;
    written = λ value rest fits. (from value, fits.1, sound.written (from value) rest fits.0);
    local = λ value rest. sound.local (from value) rest;
    sized = λ value rest. sound.sized (from value) rest;
  }

-- ---- blocks

pub answer_block_sound : IsSound answer_block
unfolding answer_block
answer_block_sound = handled_sound _ _ (block everything) (block_sound everything everything_sound)

-- a number of n bytes takes n bytes
number_takes : {F : Type 0} (short : F) (size : ℕ) (bytes : List ℕ) (value : ℕ) (rest : List ℕ) → (number short size).Spells bytes value rest → length bytes ≡ size + length rest
number_takes short size bytes value rest s = ap length s.2 ∙ length-append s.0 rest ∙ ap (λ (n : ℕ). n + length rest) s.1

-- a block takes at least four bytes
takes_four : (bytes : List ℕ) (asked : AskedBlock) (rest : List ℕ) → (block everything).Spells bytes asked rest → 4 + length rest ≤ length bytes
unfolding block kind
takes_four bytes asked rest s =
    let padded = s.2 in
    let head = padded.1.2 in
    let two = head.1.2 in
    let body = head.2 in
    let a = number_takes fault.Block 1 _ _ _ two.1 in
    let b = number_takes fault.Block 1 _ _ _ two.2 in
    let c = number_takes fault.Block 2 _ _ _ body.2 in
    let d : length body.1 ≡ length body.0 + length padded.0 = ap length body.3 ∙ length-append body.0 padded.0 in
    let e = ap length padded.2 ∙ length-drop _ padded.0 in
    omega arith

pub answer_block_shrinks : Shrinks answer_block
unfolding answer_block
answer_block_shrinks = record {
  less = λ bytes value rest e.
      let s = answer_block_sound.takes bytes value rest e in
      let four = takes_four bytes s.0 rest s.2 in
      omega arith;
}

some_block : (said : AnsweredBlock) → answer_block.Fits said → 0 < answer_block.size said
unfolding answer_block block kind
some_block said fits = omega arith

pub answer_blocks_sound : IsSoundWhole answer_blocks
unfolding answer_blocks
answer_blocks_sound = every_sound fault.Block answer_block answer_block_shrinks answer_block_sound some_block

-- ---- responses

data_sound : (service : Result (Service × Bool) DcpFault) → IsSoundWhole (answer_data service)
unfolding answer_data
data_sound (Ok service) = viewed_whole_sound _ _ _ answer_blocks_sound
data_sound (Err why) = refused_sound why

answer_sound : (frame_id : ℕ) → IsSoundWhole (answer frame_id)
unfolding answer answer_header_and_data
answer_sound frame_id = loose_sound _ (seen_sound _ _ _ (λ _. refl) (then_by_sound _ _
    (then_by_sound _ _ (number_sound fault.Length 1) (λ _. then_by_sound _ _ (number_sound fault.Length 1)
    (λ _. then_by_sound _ _ (number_sound fault.Length 4) (λ _. unchecked_sound fault.Length 2 0))))
    (λ head. framed_sound _ _ _ (number_sound fault.Length 2) (data_sound (answer_to frame_id head.0 head.1.0)))))

onward : (frame_id : ℕ) → IsOnward (answer_header_and_data frame_id)
unfolding answer_header_and_data
onward frame_id = seen_onward _ (λ (said : Answered). ((id_of said.service, (type_of said.is_supported, (said.xid, tt))), ((said.service, said.is_supported), said.blocks))) _ (then_by_onward _ _
    (then_by_onward _ _ (number_onward fault.Length 1) (λ _. then_by_onward _ _ (number_onward fault.Length 1)
    (λ _. then_by_onward _ _ (number_onward fault.Length 4) (λ _. unchecked_onward fault.Length 2 0))))
    (λ head. framed_onward _ fault.Length (answer_data (answer_to frame_id head.0 head.1.0)) (number_onward fault.Length 2)))

-- bytes that are read as a response spell it
pub answer_takes : (frame_id : ℕ) (bytes : List ℕ) (said : Answered) → answer_of frame_id bytes ≡ Ok said → IsAnswer frame_id bytes said
unfolding answer_of IsAnswer
answer_takes frame_id bytes said e = (answer_sound frame_id).takes bytes said e

-- bytes that spell a response are read as it
pub answer_again : (frame_id : ℕ) (bytes : List ℕ) (said : Answered) → IsAnswer frame_id bytes said → answer_of frame_id bytes ≡ Ok said
unfolding answer_of IsAnswer
answer_again frame_id bytes said s = (answer_sound frame_id).again bytes said s

-- the same with anything after the bytes
pub answer_behind : (frame_id : ℕ) (bytes more : List ℕ) (said : Answered) → IsAnswer frame_id bytes said → IsAnswer frame_id (bytes ++ more) said
unfolding IsAnswer answer
answer_behind frame_id bytes more said s = loose_behind (answer_header_and_data frame_id) bytes said more (onward frame_id) s

-- the same for bytes that begin with a response that fits a frame
pub answer_sent : (frame_id xid : ℕ) (answer bytes : List ℕ) (said : Answered) → IsSent xid answer bytes → IsAnswer frame_id answer said → IsAnswer frame_id bytes said
answer_sent frame_id xid answer bytes said sent s =
    subst (λ (all : List ℕ). IsAnswer frame_id all said) (sym sent.whole) (answer_behind frame_id answer sent.behind said s)
