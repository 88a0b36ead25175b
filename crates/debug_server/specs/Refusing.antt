-- The reply if events can't be appended. Public contracts don't use it.
use Rattle.std.specs.Prelude.{◌≡◌, ℕ, ◌+◌, List}
use Rattle.scenario.specs.declared.event.Refusal.TheVariants as refusal
use Rattle.inverse_log.specs.declared.refusal.ExtendRefusal.{ExtendRefusal}
use Rattle.inverse_log.specs.declared.refusal.ExtendRefusal.TheVariants.{TraceFull, Refused}
use Rattle.debug_server.specs.Replies.{event_text}

-- After `known` events, the text names the event that a rule refuses. An allocation failure has no
-- text.
abbrev pub RefusalText : ℕ → ExtendRefusal → List ℕ → Type 0
RefusalText known TraceFull text = ⊥
RefusalText known (Refused i refusal.Memory) text = ⊥
RefusalText known (Refused i n) text = text ≡ event_text (known + i)
