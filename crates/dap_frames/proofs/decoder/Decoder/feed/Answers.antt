use Rattle.std.proofs.Common.{arith, sym, ap, ◌∙◌}
use mathlib.Core.Logic.{inl, inr}
use Rattle.dap_frames.specs.Views.{partial_of}
use Rattle.dap_frames.proofs.Pieces.{feeds_start, feeds_failed, feeds_fault, feeds_prefix}
use Rattle.dap_frames.proofs.decoder.Decoder.feed.Goals as goal

pub returns-in-Failed-clause-fault : goal.returns-in-Failed-clause-fault
returns-in-Failed-clause-fault c = inr (feeds_failed _ _ _ _ _ _ c.in-Failed.fault (feeds_start _ c.args.piece.now _) (sym c.self.view_is ∙ ap partial_of c.in-Failed.is))

pub returns-in-Err-clause-fault : goal.returns-in-Err-clause-fault
returns-in-Err-clause-fault c =
    elim c.in-Err.ensures.fault [
      | inl h ↦ inl h
      | inr s ↦ inr (feeds_fault _ _ _ _ _ _ c.in-Err.fault c.loop-byte.byte-index (omega arith) c.loop-byte.invariant.fed s c.in-Err.ensures.err)
    ]

pub returns-in-Err-clause-front : goal.returns-in-Err-clause-front
returns-in-Err-clause-front c = feeds_prefix _ _ _ _ _ _ c.loop-byte.invariant.fed
