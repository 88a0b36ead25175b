-- The outcome of a session over the events of a trace.
use Rattle.std.proofs.Common.{◌≡◌, ℕ, List, None, Result, Ok, Err, subst}
use Rattle.std.specs.Prelude.{OnOk, IfErr}
use Rattle.scenario.specs.Setups.{setup_refusal}
use Rattle.scenario.specs.declared.event.Event.{Event}
use Rattle.scenario.specs.declared.setup.Setup.{Setup}
use Rattle.traces.specs.Setups.{canonical, IsTrace2}
use Rattle.debug_server.specs.Transcripts.{Streams}
use Rattle.debug_server.specs.Walked.{Walked, BrokenOff}
use Rattle.debug_server.specs.declared.faults.RunFault.{RunFault}
use Rattle.debug_server.specs.declared.faults.RunFault.TheVariants.{Serve}
use Rattle.debug_server.specs.declared.faults.ServeFault.{ServeFault}
use Rattle.debug_server.proofs.SessionsAgain.{replayed_again}

pub walked_of_trace : {A : Type 0} (bytes : List ℕ) (setup : Setup) (read ran : List Event) (before after : Streams) (r : Result A RunFault) → IsTrace2 setup read bytes → ran ≡ read → OnOk r (Walked setup ran before after)
    → OnOk r ((s : Setup) × (es : List Event) × IsTrace2 s es bytes × Walked s es before after)
walked_of_trace bytes setup read ran before after (Ok x) t e w =
    let P : List Event → Type 0 = λ es. Walked setup es before after in (setup, read, t, subst P e w)
walked_of_trace bytes setup read ran before after (Err f) t e w = w

pub broken_of_trace : {A : Type 0} (bytes : List ℕ) (setup : Setup) (read ran : List Event) (before after : Streams) (r : Result A RunFault) → IsTrace2 setup read bytes → ran ≡ read
    → IfErr r (λ e. (f : ServeFault) → e ≡ Serve f → BrokenOff setup ran before after f)
    → IfErr r (λ e. (f : ServeFault) → e ≡ Serve f → (s : Setup) × (es : List Event) × IsTrace2 s es bytes × BrokenOff s es before after f)
broken_of_trace bytes setup read ran before after (Ok x) t e b = b
broken_of_trace bytes setup read ran before after (Err d) t e b = λ f k.
    let P : List Event → Type 0 = λ es. BrokenOff setup es before after f in (setup, read, t, subst P e (b f k))

-- The session over the setup and the events that the trace was written of.
pub walked_as_written : {A : Type 0} (s found : Setup) (es read ran : List Event) (before after : Streams) (r : Result A RunFault) → setup_refusal s ≡ None → found ≡ canonical s → read ≡ es → ran ≡ read
    → OnOk r (Walked found ran before after) → OnOk r (Walked s es before after)
walked_as_written s found es read ran before after (Ok x) h all whole same w = replayed_again s found es read ran before after h all whole same w
walked_as_written s found es read ran before after (Err f) h all whole same w = w
