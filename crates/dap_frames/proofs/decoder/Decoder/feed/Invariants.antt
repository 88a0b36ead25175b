use Rattle.std.proofs.Common.{◌≡◌, drop, None}
use Rattle.dap_frames.specs.Decoding.{Feeds, fault_of}
use Rattle.dap_frames.specs.Views.{contents}
use Rattle.dap_frames.proofs.decoder.Decoder.feed.Given as goal

abbrev pub invariant-loop-byte : goal.invariant-loop-byte
invariant-loop-byte l = record {
  fed : Feeds l.fn.self l.piece (contents l.fn.bodies.items) (contents l.bodies.items) l.self (drop l.byte-index l.piece);
  good : fault_of l.self ≡ None;
}
