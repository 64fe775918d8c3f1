-- What is no call and no frame of a relation leaves the count of relations.
use Rattle.std.proofs.Common.{◌≡◌, ◌&&◌, Bool, true, false, List, [], ◌∷◌, ℕ, Result, Ok, Err, refl, if◌then◌else◌, ap}
use Rattle.frame_codec.specs.declared.arp.Arp.{Arp}
use Rattle.dcp_core.specs.declared.request.Service.{Service}
use Rattle.dcp_core.specs.declared.request.Service.TheVariants as service
use Rattle.dcp_core.specs.Request.{Asked}
use Rattle.dcp_core.specs.Identify.{matches}
use Rattle.device_frames.specs.Sent.{ArpReply, IdentifyAnswer}
use Rattle.device_core.specs.State.{alias_in, Live, Rest, Station}
use Rattle.device_core.specs.Handled.{Moves as Moved, handled_request, is_request}
use Rattle.pn_values.specs.declared.mac.Mac.{Mac}
use Rattle.pn_values.specs.declared.set_item.BlockError.{BlockError}
use Rattle.device_frames.specs.declared.note.Note.TheVariants as note
use Rattle.device_frames.specs.Heard.{Heard, Unreadable, Elsewhere, Asks, Resolves}
use Rattle.device_frames.specs.Heard.{Met}
use Rattle.arrayvec.specs.ArrayVec.{ArrayVec}
use Rattle.asked_records.specs.Answers.{Gives, judged}
use Rattle.asked_records.specs.declared.answering.AnswerFault.{AnswerFault}
use Rattle.asked_records.specs.declared.question.Question.{Question}
use Rattle.device_frames.specs.declared.local.Local.{Local}
use Rattle.device_core.specs.Handled.{Handled, Refuses, handled, handled_judged, handled_local, is_running}
use Rattle.device_core.specs.Machine.{finished}
use Rattle.octets_law.proofs.Locals.{by_local}
use Rattle.strangers_law.proofs.Clocks.{IsBeside}

module _ (station : Station) (live : Live) where
  abbrev pub Uncounted : Handled → Type 0
  Uncounted what = (answers : List BlockError) → (finished station.identity live.rest what answers).rest.made ≡ live.rest.made

  requests_uncounted : (asker : Mac) (which : Service) (request : Asked) → Uncounted (handled_request station live asker which request)
  requests_uncounted asker service.Identify request = by_match (matches station.identity live.values.running (alias_in live.rest.peer) request)
    where
      by_match : (b : Bool) → Uncounted (if b then Moved live.rest (IdentifyAnswer asker live.values.running request.xid ∷ []) else Refuses note.Filter)
      by_match true = λ answers. refl
      by_match false = λ answers. refl
  requests_uncounted asker service.Get request = λ answers. refl
  requests_uncounted asker service.Set request = λ answers. refl

  resolves_uncounted : (asker : Mac) (packet : Arp) (b : Bool)
      → Uncounted (if b then Moved live.rest (ArpReply asker live.values.running.suite.address packet.sender ∷ []) else Refuses note.NotMine)
  resolves_uncounted asker packet true = λ answers. refl
  resolves_uncounted asker packet false = λ answers. refl

  pub beside_uncounted : (heard : Heard) → IsBeside heard → Uncounted (handled station live heard)
  beside_uncounted (Asks asker request) beside = requests_uncounted asker request.service request
  beside_uncounted (Resolves asker packet) beside =
      resolves_uncounted asker packet (is_request packet.operation && is_running live.values.running packet.target.address)
  beside_uncounted (Met peer) beside = λ answers. refl
  beside_uncounted Unreadable beside = λ answers. refl
  beside_uncounted Elsewhere beside = λ answers. refl
  beside_uncounted heard beside = absurd beside

  judged_uncounted : (given : Gives) (judged : Result Question AnswerFault) → Uncounted (handled_judged station live given judged)
  judged_uncounted given (Ok question) = λ answers. refl
  judged_uncounted given (Err why) = λ answers. refl

  pub applied_uncounted : (said : Local (ArrayVec ℕ)) → Uncounted (handled_local station live said)
  applied_uncounted said =
      by_local station live Uncounted said (λ made what it answers. ap (λ (rest : Rest). rest.made) (it.keeps answers))
      (λ number given. judged_uncounted given (judged number given live.rest.asked))
