use Rattle.std.proofs.Common.{◌≡◌, ◌++◌, Some, subst, sym}
use Rattle.dap_frames.specs.Decoding.{start, decode, body_before}
use Rattle.dap_frames.specs.Frames.{IsFrame}
use Rattle.dap_frames.proofs.Reading.{read_back, frame_is}
use Rattle.dap_frames.proofs.writing.frame_of.Goals as goal

pub returns-clause-spelled : goal.returns-clause-spelled
returns-clause-spelled c short = subst (λ bytes. IsFrame bytes c.args.body.now) (sym c.in_ok-format.ensures.ok) (frame_is c.args.body.now short)

pub returns-clause-decodes : goal.returns-clause-decodes
returns-clause-decodes c more short = subst (λ bytes. decode start (bytes ++ more) ≡ body_before (Some c.args.body.now) (decode start more)) (sym c.in_ok-format.ensures.ok) (read_back c.args.body.now more short)
