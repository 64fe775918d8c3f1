-- The step with which a controller answers an ApplicationReady (IEC 61158-6-10, 5.2.4.2; protocol machine CMCTL).
use Rattle.std.specs.Prelude.{◌≡◌, true, ℕ, List, [], ◌∷◌, Some}
use Rattle.frame_codec.specs.declared.udp.Caller.{Caller}
use Rattle.rpc_core.specs.Call.{Asked as Call}
use Rattle.connect_blocks.specs.declared.control.ControlBlock.{ControlBlock}
use Rattle.controller_messages.specs.Heard.{Calls, heard_of}
use Rattle.controller_messages.specs.Sent.{Agrees, bytes_of, ready_answer}
use Rattle.controller_core.specs.declared.stored.event.Event.{Event}
use Rattle.controller_core.specs.declared.stored.event.Event.TheVariants.{Frame}
use Rattle.controller_core.specs.stored.State.{Controlling}
use Rattle.controller_core.specs.start_up.Answers.{is_ready, ready_in}

-- The event is a frame with an ApplicationReady of the relation, and its positive answer is the one frame that is sent.
pub record IsReadied (old : Controlling) (event : Event) (frames : List (List ℕ)) : Type 0 where
  pub octets : List ℕ
  pub comes : event ≡ Frame (record { items = octets })
  pub caller : Caller
  pub call : Call
  pub heard : heard_of old.setup.plan.controller octets ≡ Calls caller call
  pub block : ControlBlock
  pub is : ready_in call ≡ Some block
  pub right : is_ready old.setup block ≡ true
  pub sends : frames ≡ bytes_of old.setup (Agrees caller (ready_answer call block)) ∷ []
