-- The numbers of the calls.
use Rattle.std.specs.Prelude.{◌+◌, ℕ, Option, Some, None}
use Rattle.plans.specs.declared.parts.Parts.{Parts}
use Rattle.controller_messages.specs.declared.request.Request.{Request}
use Rattle.controller_messages.specs.declared.request.Request.TheVariants as asks
use Rattle.controller_messages.specs.Access.{call_number}
use Rattle.controller_messages.specs.Requests.{writing_after, writing_from}

-- The number of the call after the last one. After PrmEnd, the calls are counted: those that were refused as busy, and the requests of the
-- application.
abbrev pub next_sequence : Parts → ℕ → Option Request → ℕ
next_sequence plan calls (Some asks.Connect) = 1
next_sequence plan calls (Some (asks.Write number)) = number + 2
next_sequence plan calls (Some (asks.WriteAfter number tries)) = number + tries + 2
next_sequence plan calls request = call_number plan calls

-- ---- calls after some were refused as busy

-- The Write with this number: the first call, or the one after this many calls of the start-up were refused as busy.
abbrev pub write_after : ℕ → Option ℕ → Request
write_after number None = asks.Write number
write_after number (Some tries) = asks.WriteAfter number tries

-- The request that follows it.
abbrev pub behind_write : Parts → ℕ → Option ℕ → Request
behind_write plan number None = writing_from plan (number + 1)
behind_write plan number (Some tries) = writing_after plan (number + 1) tries

-- PrmEnd, in the same way.
abbrev pub end_after : Option ℕ → Request
end_after None = asks.PrmEnd
end_after (Some tries) = asks.PrmEndAfter tries

-- The request of the first call, before one was refused as busy.
abbrev pub first_try : Request → Request
first_try (asks.WriteAfter number tries) = asks.Write number
first_try (asks.PrmEndAfter tries) = asks.PrmEnd
first_try request = request

-- How many calls were refused as busy before a request.
abbrev pub tries_before : Request → ℕ
tries_before (asks.WriteAfter number tries) = tries
tries_before (asks.PrmEndAfter tries) = tries
tries_before request = 0

-- The request that is sent after the call for a Write, or for PrmEnd, was refused as busy.
abbrev pub tried_as : Request → Option Request
tried_as (asks.Write number) = Some (asks.WriteAfter number 1)
tried_as asks.PrmEnd = Some (asks.PrmEndAfter 1)
tried_as (asks.WriteAfter number tries) = Some (asks.WriteAfter number (tries + 1))
tried_as (asks.PrmEndAfter tries) = Some (asks.PrmEndAfter (tries + 1))
tried_as request = None
