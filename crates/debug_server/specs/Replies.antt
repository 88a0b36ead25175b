-- The reply to a line, and the session's state after it.
use Rattle.std.specs.Prelude.{ℕ, ◌+◌, ◌-◌, min, List, ◌++◌, length, codes, decimal, drop, nat_lt, nat_le, Bool, true, false, if◌then◌else◌, Option, Some, None, Result, Ok, Err}
use Rattle.places.specs.declared.place.Place.{Place}
use Rattle.places.specs.declared.value.Value.{Value}
use Rattle.places.specs.Text.{value_text}
use Rattle.scenario.specs.declared.event.Event.{Event}
use Rattle.machine.specs.Whole.{view}
use Rattle.inverse_log.specs.Walks.{here, ending, moved, jumped, extended}
use Rattle.watches.specs.declared.stopping.Stop.{Stop}
use Rattle.watches.specs.declared.stopping.Stop.TheVariants as stop
use Rattle.watches.specs.Stops.{reverse_stop, forward_stop, position_of}
use Rattle.watches.specs.Watchpoints.{nothing, watched, broken}
use Rattle.commands.specs.declared.command.Command.{Command}
use Rattle.commands.specs.declared.command.Command.TheVariants.{Where, Show, Goto, Back, On, Watch, Break, Unwatch, Cont, Rcont, Sync, Quit}
use Rattle.commands.specs.declared.command.CommandFault.{CommandFault}
use Rattle.commands.specs.declared.command.CommandFault.TheVariants as fault
use Rattle.commands.specs.Commands.{command_of}
use Rattle.debug_server.specs.Syncs.{torn_from, refused_from}
use Rattle.debug_server.specs.SessionStates.{SessionState, walked_to, with_stops}

-- A source's answer: a trace, or none.
abbrev pub Answer : Type 0
Answer = Option (List Event)

-- A reply, the session's state after it, and whether it ends the session.
pub record Reply : Type 0 where
  pub text : List ℕ
  pub next : SessionState
  pub quits : Bool

-- ---- Texts

abbrev pub fault_text : CommandFault → List ℕ
fault_text fault.Command = codes "fault 1 command\n"
fault_text fault.Number = codes "fault 2 number\n"
fault_text fault.Place = codes "fault 3 place\n"
fault_text fault.Long = codes "fault 4 long\n"
fault_text fault.Value = codes "fault 5 value\n"
fault_text fault.Many = codes "fault 6 many\n"

abbrev pub shown_text : Option Value → List ℕ
shown_text None = codes "absent\n"
shown_text (Some v) = value_text v ++ codes "\n"

-- A position, and the number of events.
abbrev pub at_text : ℕ → ℕ → List ℕ
at_text at len = codes "at " ++ (decimal at ++ (codes " of " ++ (decimal len ++ codes "\n")))

-- The number of watches.
abbrev pub watching_text : ℕ → List ℕ
watching_text n = codes "watching " ++ (decimal n ++ codes "\n")

-- The number of breaks.
abbrev pub breaks_text : ℕ → List ℕ
breaks_text n = codes "breaks " ++ (decimal n ++ codes "\n")

-- Where a walk over `len` events stopped.
abbrev pub stop_text : ℕ → Stop → List ℕ
stop_text len (stop.Change m) = codes "change at " ++ (decimal m ++ codes "\n")
stop_text len (stop.Met m) = codes "met at " ++ (decimal m ++ codes "\n")
stop_text len stop.Start = codes "start at 0\n"
stop_text len stop.End = codes "end at " ++ (decimal len ++ codes "\n")

-- The number of events after `sync`.
abbrev pub synced_text : ℕ → List ℕ
synced_text n = codes "synced " ++ (decimal n ++ codes "\n")

-- The first index at which the run and the source's trace differ.
abbrev pub torn_text : ℕ → List ℕ
torn_text i = codes "refused 3 torn " ++ (decimal i ++ codes "\n")

-- The index of the source's event that is refused.
abbrev pub event_text : ℕ → List ℕ
event_text i = codes "refused 4 event " ++ (decimal i ++ codes "\n")

-- ---- Replies

-- A reply that leaves the state unchanged.
abbrev pub stays : SessionState → List ℕ → Reply
stays v text = record { text = text; next = v; quits = false }

-- A jump to a moment, whose reply is the new position.
abbrev pub goes : SessionState → ℕ → Reply
goes v m = record { text = at_text m (length v.walk.events); next = walked_to v (jumped v.walk m); quits = false }

-- The same, or a refusal if the run has no such moment.
abbrev pub goes_to : SessionState → ℕ → Reply
goes_to v m = if nat_le m (length v.walk.events) then goes v m else stays v (codes "refused 1 moment\n")

-- The list has the maximum number of watches or breaks.
abbrev pub is_full : {X : Type 0} → List X → Bool
is_full xs = nat_le 64 (length xs)

abbrev pub watches : SessionState → Place → Reply
watches v p =
    if is_full v.stops.watchpoints then stays v (fault_text fault.Many)
    else record { text = watching_text (length (watched v.stops p).watchpoints); next = with_stops v (watched v.stops p); quits = false }

abbrev pub breaks : SessionState → Place → Value → Reply
breaks v p x =
    if is_full v.stops.breakpoints then stays v (fault_text fault.Many)
    else record { text = breaks_text (length v.stops.breakpoints + 1); next = with_stops v (broken v.stops p x); quits = false }

-- Moves by single steps, which the step counter doesn't count.
abbrev pub stops_on : SessionState → Stop → Reply
stops_on v s = record { text = stop_text (length v.walk.events) s; next = walked_to v (moved v.walk (position_of v.walk s)); quits = false }

-- Moves by a jump.
abbrev pub stops_back : SessionState → Stop → Reply
stops_back v s = record { text = stop_text (length v.walk.events) s; next = walked_to v (jumped v.walk (position_of v.walk s)); quits = false }

-- Appends the source's new events, unless one of them is refused.
abbrev pub takes_over : SessionState → List Event → Option ℕ → Reply
takes_over v es (Some i) = stays v (event_text i)
takes_over v es None = record { text = synced_text (length es); next = walked_to v (extended v.walk (drop (length v.walk.events) es)); quits = false }

-- The same, or a refusal if the source's trace doesn't begin with the run.
abbrev pub agrees : SessionState → List Event → Option ℕ → Reply
agrees v es (Some i) = stays v (torn_text i)
agrees v es None = takes_over v es (refused_from (length v.walk.events) (ending v.walk) (drop (length v.walk.events) es))

-- Syncs with the source, unless there is none or it has more events than a trace may have.
abbrev pub syncs : SessionState → Answer → Reply
syncs v None = stays v (codes "refused 2 source\n")
syncs v (Some es) = if nat_lt 1048576 (length es) then stays v (codes "refused 5 full\n") else agrees v es (torn_from 0 v.walk.events es)

abbrev pub reply_to : SessionState → Result Command CommandFault → Answer → Reply
reply_to v (Err f) answer = stays v (fault_text f)
reply_to v (Ok Where) answer = stays v (at_text v.walk.at (length v.walk.events))
reply_to v (Ok (Show p)) answer = stays v (shown_text (view (here v.walk) p))
reply_to v (Ok (Goto n)) answer = goes_to v n
reply_to v (Ok (Back n)) answer = goes v (v.walk.at - n)
reply_to v (Ok (On n)) answer = goes v (min (v.walk.at + n) (length v.walk.events))
reply_to v (Ok (Watch p)) answer = watches v p
reply_to v (Ok (Break p x)) answer = breaks v p x
reply_to v (Ok Unwatch) answer = record { text = watching_text 0; next = with_stops v nothing; quits = false }
reply_to v (Ok Cont) answer = stops_on v (forward_stop v.walk v.stops)
reply_to v (Ok Rcont) answer = stops_back v (reverse_stop v.walk v.stops.watchpoints)
reply_to v (Ok Sync) answer = syncs v answer
reply_to v (Ok Quit) answer = record { text = codes "bye\n"; next = v; quits = true }

-- The reply to a line, given the source's answer.
unfoldable pub reply : SessionState → List ℕ → Answer → Reply
reply v line answer = reply_to v (command_of v.walk.setup line) answer
