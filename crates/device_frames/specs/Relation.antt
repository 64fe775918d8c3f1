-- What a device sends for its relation, and when.
use Rattle.std.specs.Prelude.{◌++◌, ℕ, Bool, List, [], ◌∷◌, if◌then◌else◌, Option, Some, None}
use Rattle.pn_alarms.specs.declared.receiver.Taken.{Taken}
use Rattle.cyclic_data.specs.declared.exchange.route.Route.{Route}
use Rattle.relations.specs.exchange.Flow.{Flow}
use Rattle.relations.specs.exchange.Frames.{Frame, alarm_frame, inputs_frame, low_alarm_frame, low_reply_frame, reply_frame}
use Rattle.relations.specs.declared.farewell.Farewell.{Farewell}
use Rattle.relations.specs.Timers.{Due}
use Rattle.relations.specs.RelationState.{RelationState, flow_of}
use Rattle.relations.specs.Ready.{ready_of}
use Rattle.relations.specs.declared.plugging.PlugReady.{PlugReady}
use Rattle.relations.specs.Plugging.{plug_ready_of}
use Rattle.device_frames.specs.Sent.{Sent, ReadyCall, PlugReadyCall, Ends, Exchanges}

-- ApplicationReady of a relation, if there is one, from this address.
abbrev pub ready_calls : List ℕ → Option RelationState → List Sent
ready_calls address None = []
ready_calls address (Some link) = ReadyCall address (ready_of link) ∷ []

-- The active ApplicationReady of a plug, if there is one, from this address.
abbrev pub plug_call_in : List ℕ → Option PlugReady → List Sent
plug_call_in address None = []
plug_call_in address (Some ready) = PlugReadyCall address ready ∷ []

-- The ApplicationReady of a plug that is active, if there is one.
abbrev pub plug_calls : List ℕ → Option RelationState → List Sent
plug_calls address link = plug_call_in address (plug_ready_of link)

-- The frames that exist: of a relation, the active alarm, the inputs at this CycleCounter, and the response to data
-- with this outcome.
abbrev pub frames_in : Route → Option Frame → List Sent
frames_in route (Some frame) = Exchanges route frame ∷ []
frames_in route None = []

-- The process alarm that is sent.
abbrev pub alarms_of : Option Flow → List Sent
alarms_of None = []
alarms_of (Some flow) = frames_in flow.cyclic.route (alarm_frame flow)

-- The frame of inputs with this CycleCounter.
abbrev pub inputs_of : ℕ → Option Flow → List Sent
inputs_of counter None = []
inputs_of counter (Some flow) = Exchanges flow.cyclic.route (inputs_frame flow counter) ∷ []

-- The ACK or NACK of data of high priority.
abbrev pub replies_of : Taken → Option Flow → List Sent
replies_of taken None = []
replies_of taken (Some flow) = Exchanges flow.cyclic.route (reply_frame flow taken) ∷ []

-- The alarm of low priority that is sent.
abbrev pub low_alarms_of : Option Flow → List Sent
low_alarms_of None = []
low_alarms_of (Some flow) = frames_in flow.cyclic.route (low_alarm_frame flow)

-- The ACK or NACK of data of low priority.
abbrev pub low_replies_of : Taken → Option Flow → List Sent
low_replies_of taken None = []
low_replies_of taken (Some flow) = Exchanges flow.cyclic.route (low_reply_frame flow taken) ∷ []

-- The ERR that ends it, if there is one.
abbrev pub farewells_in : Option Farewell → List Sent
farewells_in None = []
farewells_in (Some farewell) = Ends farewell ∷ []

-- What is sent if it is due.
abbrev pub where_due : Bool → List Sent → List Sent
where_due is_due sent = if is_due then sent else []

-- What is sent with a unit: the ERR of a timeout, and nothing else; or the active alarms of each priority again,
-- ApplicationReady or that of a plug again, and inputs.
abbrev pub due_frames : List ℕ → ℕ → Due → Option RelationState → List Sent
due_frames address units due link =
    farewells_in due.farewell
    ++ (where_due due.is_alarm (alarms_of (flow_of link)) ++ (where_due due.is_low (low_alarms_of (flow_of link))
    ++ (where_due due.is_ready (ready_calls address link) ++ (where_due due.is_plug_ready (plug_calls address link)
    ++ where_due due.is_cyclic (inputs_of units (flow_of link))))))
