-- The rest of the blocks, added to those so far, gives what all of them give.
use Rattle.std.proofs.Common.{◌≡◌, ◌-◌}
use Rattle.connects.specs.requests.Pieces.{pieces_in}
use Rattle.connects.specs.requests.Drafts.{AreAccepted, pieces_within, sofar_of}
use Rattle.connects.proofs.requests.draft.Draft.add_pieces.Given as goal

abbrev pub invariant-loop-index : goal.invariant-loop-index
invariant-loop-index l = record {
  pieces : pieces_within l.smallest (sofar_of l.self l.expected) (pieces_in (l.most - l._index) l.rest)
      ≡ pieces_within l.smallest (sofar_of l.initial.self l.initial.expected) (pieces_in l.most l.bytes);
  accepted : AreAccepted l.initial.self → AreAccepted l.self;
}
