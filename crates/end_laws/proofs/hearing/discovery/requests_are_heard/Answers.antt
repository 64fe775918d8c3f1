-- This follows from the laws of the crates below.
use Rattle.end_laws.proofs.HearingRequests.{address_heard, identify_heard}
use Rattle.end_laws.proofs.hearing.discovery.requests_are_heard.Goals as goal

pub returns-clause-identify : goal.returns-clause-identify
returns-clause-identify c =
    identify_heard c.frames_are_read.ensures.real_time c.requests_are_read.ensures.read c.requests_are_read.ensures.short

pub returns-clause-address : goal.returns-clause-address
returns-clause-address c =
    address_heard c.frames_are_read.ensures.real_time c.requests_are_read.ensures.read c.requests_are_read.ensures.short
