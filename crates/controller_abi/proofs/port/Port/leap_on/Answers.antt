-- Units up to the next one with which something is due, or fewer.
use Rattle.std.proofs.Common.{◌≡◌, ◌≤◌, false, sym, subst}
use Rattle.controller_abi.specs.State.{has_frames, port_due_in}
use Rattle.controller_abi.proofs.port.Port.leap_on.Goals as goal

pub rest-requires : goal.rest-requires
rest-requires c =
    let same = sym c.known_due-due.ensures.same in
    record {
      idle = subst (λ p. has_frames p.frames ≡ false) same c.requires.idle;
      few = c.if-most-due.true;
      due = subst (λ p. c.known_due-due.result ≤ port_due_in p) same c.known_due-due.ensures.few;
    }

pub leap-requires : goal.leap-requires
leap-requires c =
    let same = sym c.known_due-due.ensures.same in
    record {
      idle = subst (λ p. has_frames p.frames ≡ false) same c.requires.idle;
      few = subst (λ p. c.known_due-due.result ≤ port_due_in p) same c.known_due-due.ensures.few;
    }
