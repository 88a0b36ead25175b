-- The decoder's state, without where its bytes are in memory.
use Rattle.std.specs.Prelude.{ℕ, List, Vec, map}
use Rattle.dap_frames.specs.Decoding.{Heading, Partial, InLine, InReturn, InBody, Failed}
use Rattle.dap_frames.specs.declared.decoder.Header.{Header}
use Rattle.dap_frames.specs.declared.decoder.State.{State}
use Rattle.dap_frames.specs.declared.decoder.State.TheVariants as variant

abbrev pub heading_of : Header → Heading
heading_of h = record { seen = h.seen; line = h.line.items; length = h.length }

abbrev pub partial_of : State → Partial
partial_of (variant.Line h) = InLine (heading_of h)
partial_of (variant.Return h) = InReturn (heading_of h)
partial_of (variant.Body left body) = InBody left body.items
partial_of (variant.Failed fault) = Failed fault

abbrev pub contents : {A : Type 0} → List (Vec ℕ A) → List (List ℕ)
contents bodies = map (λ v. v.items) bodies
