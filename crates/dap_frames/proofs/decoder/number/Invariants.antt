use Rattle.std.proofs.Common.{◌≡◌, ◌≤◌, drop}
use Rattle.dap_frames.specs.Decoding.{number_after}
use Rattle.dap_frames.proofs.decoder.number.Given as goal

abbrev pub invariant-loop-digit : goal.invariant-loop-digit
invariant-loop-digit l = record { law : number_after l.number (drop l.digit-index l.digits) ≡ number_after 0 l.digits; small : l.number ≤ 1048576 }
