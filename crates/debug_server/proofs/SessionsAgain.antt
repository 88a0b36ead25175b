-- Sessions over two setups whose runs have the same start and which parse lines as the same
-- commands.
use Rattle.std.proofs.Common.{◌≡◌, ℕ, Bool, true, false, List, [], ◌∷◌, length, take, drop, Option, Some, None, Result, Ok, Err, refl, sym, ap, subst, ◌∙◌, ◌+◌, ◌-◌}
use Rattle.std.specs.Prelude.{nat_lt, nat_le, if◌then◌else◌}
use Rattle.std.specs.List.{range_with_len}
use Rattle.std.specs.Io.KnownBytes.{Appends}
use Rattle.places.specs.View.{View}
use Rattle.scenario.specs.Setups.{setup_refusal}
use Rattle.scenario.specs.declared.event.Event.{Event}
use Rattle.scenario.specs.declared.setup.Setup.{Setup}
use Rattle.machine.specs.declared.whole.Machine.{Machine}
use Rattle.machine.specs.Whole.{view}
use Rattle.machine.specs.Runs.{start, run}
use Rattle.watches.specs.declared.stopping.Stop.{Stop}
use Rattle.watches.specs.declared.stopping.Stop.TheVariants.{Change, Met, Start, End}
use Rattle.watches.specs.Stops.{changes, meets, first_stop, moments_before, reverse_stop, forward_stop}
use Rattle.commands.specs.declared.command.Command.{Command}
use Rattle.commands.specs.declared.command.Command.TheVariants.{Where, Show, Goto, Back, On, Watch, Break, Unwatch, Cont, Rcont, Sync, Quit}
use Rattle.commands.specs.declared.command.CommandFault.{CommandFault}
use Rattle.commands.specs.Commands.{command_of}
use Rattle.traces.specs.Setups.{canonical}
use Rattle.debug_server.specs.SessionStates.{SessionState}
use Rattle.debug_server.specs.Syncs.{torn_from, refused_from}
use Rattle.debug_server.specs.Replies.{Answer, Reply, agrees, is_full, reply, reply_to, shown_text, stays, stops_back, stops_on, syncs, takes_over}
use Rattle.debug_server.specs.Schedules.{state_over}
use Rattle.debug_server.specs.Transcripts.{Given, Streams, Transcript, asks, ended, given_to, line_on, prepended, transcript}
use Rattle.debug_server.specs.Lines.{ended_lines}
use Rattle.debug_server.specs.Walked.{BrokenOff, Walked}
use Rattle.debug_server.specs.declared.faults.ServeFault.{ServeFault}
use Rattle.debug_server.proofs.Again.{accepts_again, command_again, start_again}

-- Two setups have the same start and parse each line as the same command.
record Alike (s t : Setup) : Type 0 where
  starts : start t ≡ start s
  commands : (line : List ℕ) → command_of t line ≡ command_of s line

-- A session at the same position, over another setup.
abbrev over : Setup → SessionState → SessionState
over t v = record v { walk = record v.walk { setup = t } }

-- ---- Where walks stop

-- The values of all places after the first m events.
abbrev seen_from : Machine → List Event → ℕ → View
seen_from start es m = view (run start (take m es))

back_from : (s t : Setup) → Alike s t → (v : SessionState) → reverse_stop (over t v).walk v.stops.watchpoints ≡ reverse_stop (over s v).walk v.stops.watchpoints
unfolding reverse_stop
back_from s t a v = ap from a.starts
  where
    before : Machine → ℕ → Option Stop
    before start m =
        if changes (seen_from start v.walk.events m) (seen_from start v.walk.events (m + 1)) v.stops.watchpoints
        then Some (Change m) else None

    from : Machine → Stop
    from start = first_stop (before start) Start (moments_before v.walk.at)

on_from : (s t : Setup) → Alike s t → (v : SessionState) → forward_stop (over t v).walk v.stops ≡ forward_stop (over s v).walk v.stops
unfolding forward_stop
on_from s t a v = ap from a.starts
  where
    stop_from : Machine → ℕ → Option Stop
    stop_from start m =
        if changes (seen_from start v.walk.events (m - 1)) (seen_from start v.walk.events m) v.stops.watchpoints then Some (Change m)
        else if meets (seen_from start v.walk.events (m - 1)) (seen_from start v.walk.events m) v.stops.breakpoints then Some (Met m)
        else None

    from : Machine → Stop
    from start = first_stop (stop_from start) End (range_with_len (v.walk.at + 1) (length v.walk.events - v.walk.at))

-- ---- Replies

abbrev replied_over : Setup → Reply → Reply
replied_over t r = record r { next = over t r.next }

chosen : (t : Setup) (b : Bool) (p q p' q' : Reply) → p' ≡ replied_over t p → q' ≡ replied_over t q → (if b then p' else q') ≡ replied_over t (if b then p else q)
chosen t true p q p' q' e f = e
chosen t false p q p' q' e f = f

takes_again : (s t : Setup) → Alike s t → (v : SessionState) (es : List Event) (o : Option ℕ) → takes_over (over t v) es o ≡ replied_over t (takes_over (over s v) es o)
takes_again s t a v es None = refl
takes_again s t a v es (Some i) = refl

agrees_again : (s t : Setup) → Alike s t → (v : SessionState) (es : List Event) (o : Option ℕ) → agrees (over t v) es o ≡ replied_over t (agrees (over s v) es o)
agrees_again s t a v es (Some i) = refl
agrees_again s t a v es None =
    ap (λ (m : Machine). takes_over (over t v) es (refused_from (length v.walk.events) (run m v.walk.events) (drop (length v.walk.events) es))) a.starts
    ∙ takes_again s t a v es (refused_from (length v.walk.events) (run (start s) v.walk.events) (drop (length v.walk.events) es))

syncs_again : (s t : Setup) → Alike s t → (v : SessionState) (answer : Answer) → syncs (over t v) answer ≡ replied_over t (syncs (over s v) answer)
syncs_again s t a v None = refl
syncs_again s t a v (Some es) = chosen t (nat_lt 1048576 (length es)) _ _ _ _ refl (agrees_again s t a v es (torn_from 0 v.walk.events es))

reply_again : (s t : Setup) → Alike s t → (v : SessionState) (c : Result Command CommandFault) (answer : Answer) → reply_to (over t v) c answer ≡ replied_over t (reply_to (over s v) c answer)
reply_again s t a v (Err f) answer = refl
reply_again s t a v (Ok Where) answer = refl
reply_again s t a v (Ok (Show p)) answer = ap (λ (m : Machine). stays (over t v) (shown_text (view (run m (take v.walk.at v.walk.events)) p))) a.starts
reply_again s t a v (Ok (Goto n)) answer = chosen t (nat_le n (length v.walk.events)) _ _ _ _ refl refl
reply_again s t a v (Ok (Back n)) answer = refl
reply_again s t a v (Ok (On n)) answer = refl
reply_again s t a v (Ok (Watch p)) answer = chosen t (is_full v.stops.watchpoints) _ _ _ _ refl refl
reply_again s t a v (Ok (Break p x)) answer = chosen t (is_full v.stops.breakpoints) _ _ _ _ refl refl
reply_again s t a v (Ok Unwatch) answer = refl
reply_again s t a v (Ok Cont) answer = ap (λ (x : Stop). stops_on (over t v) x) (on_from s t a v)
reply_again s t a v (Ok Rcont) answer = ap (λ (x : Stop). stops_back (over t v) x) (back_from s t a v)
reply_again s t a v (Ok Sync) answer = syncs_again s t a v answer
reply_again s t a v (Ok Quit) answer = refl

replies_again : (s t : Setup) → Alike s t → (v : SessionState) (line : List ℕ) (answer : Answer) → reply (over t v) line answer ≡ replied_over t (reply (over s v) line answer)
unfolding reply
replies_again s t a v line answer = ap (λ (c : Result Command CommandFault). reply_to (over t v) c answer) (a.commands line) ∙ reply_again s t a v (command_of s line) answer

-- ---- Transcripts

abbrev transcript_over : Setup → Transcript → Transcript
transcript_over t x = record x { next = over t x.next }

itself : (s : Setup) → Alike s s
itself s = record { starts = refl; commands = λ line. refl }

transcript_again : (s t : Setup) → Alike s t → (v : SessionState) (lines : List (List ℕ)) (answers : List Answer) → transcript (over t v) lines answers ≡ transcript_over t (transcript (over s v) lines answers)
transcript_again s t a v [] answers = refl
transcript_again s t a v (line ∷ lines) answers = by (given_to (asks line) answers) (λ w left. transcript_again s t a w lines left)
  where
    by : (g : Option Given) → ((w : SessionState) (left : List Answer) → transcript (over t w) lines left ≡ transcript_over t (transcript (over s w) lines left))
        → line_on (over t v) line g (λ next left. transcript next lines left) ≡ transcript_over t (line_on (over s v) line g (λ next left. transcript next lines left))
    by None more = refl
    by (Some given) more =
        ap (λ (q : Reply). prepended q.text (if q.quits then ended q.next true (Some given.left) else transcript q.next lines given.left)) (replies_again s t a v line given.answer)
        ∙ after (reply (over s v) line given.answer) (ap (λ (q : Reply). q.next) (replies_again s s (itself s) v line given.answer))
      where
        after : (r : Reply) → r.next ≡ over s r.next → prepended r.text (if r.quits then ended (over t r.next) true (Some given.left) else transcript (over t r.next) lines given.left)
            ≡ transcript_over t (prepended r.text (if r.quits then ended r.next true (Some given.left) else transcript r.next lines given.left))
        after r same = on r.quits
          where
            on : (b : Bool) → prepended r.text (if b then ended (over t r.next) true (Some given.left) else transcript (over t r.next) lines given.left)
                ≡ transcript_over t (prepended r.text (if b then ended r.next true (Some given.left) else transcript r.next lines given.left))
            on true = refl
            on false =
                ap (λ (x : Transcript). prepended r.text x) (more r.next given.left)
                ∙ ap (λ (w : SessionState). transcript_over t (prepended r.text (transcript w lines given.left))) (sym same)

-- ---- What is written

alike : (s : Setup) → setup_refusal s ≡ None → Alike s (canonical s)
alike s h = record { starts = start_again s h; commands = command_again s h }

-- The transcript of a session over the setup stored in a trace.
said : (s : Setup) → setup_refusal s ≡ None → (es : List Event) (lines : List (List ℕ)) (answers : List Answer)
    → transcript (state_over (canonical s) es) lines answers ≡ transcript_over (canonical s) (transcript (state_over s es) lines answers)
said s h es lines answers = transcript_again s (canonical s) (alike s h) (state_over s es) lines answers

pub walked_again : (s : Setup) (es : List Event) (before after : Streams) → setup_refusal s ≡ None → Walked (canonical s) es before after → Walked s es before after
walked_again s es before after h w =
    let e = said s h es w.served.lines w.answers in
    record {
      runs = accepts_again s es h w.runs;
      answers = w.answers;
      unanswered = w.unanswered;
      next = (transcript (state_over s es) w.served.lines w.answers).next;
      quits = w.quits;
      served = record {
        taken = w.served.taken;
        read = w.served.read;
        lines = w.served.lines;
        cut = w.served.cut;
        written = subst (λ (x : Transcript). Appends before.held after.held x.text) e w.served.written;
        next = refl;
        quit = w.served.quit ∙ ap (λ (x : Transcript). x.quits) e;
        asked = sym (ap (λ (x : Transcript). x.left) e) ∙ w.served.asked;
      };
    }

-- what is replayed of a trace, once it is known which setup and events the trace was written of
pub replayed_again : (s found : Setup) (es read ran : List Event) (before after : Streams) → setup_refusal s ≡ None → found ≡ canonical s → read ≡ es → ran ≡ read
    → Walked found ran before after → Walked s es before after
replayed_again s found es read ran before after h same all whole w =
    walked_again s es before after h (subst (λ (x : Setup). Walked x es before after) same (subst (λ (xs : List Event). Walked found xs before after) (whole ∙ all) w))

pub broken_again : (s : Setup) (es : List Event) (before after : Streams) (f : ServeFault) → setup_refusal s ≡ None → BrokenOff (canonical s) es before after f → BrokenOff s es before after f
broken_again s es before after f h w =
    let b = w.broke in
    let e = said s h es b.lines w.answers in
    let k = said s h es (ended_lines b.taken) w.answers in
    record {
      runs = accepts_again s es h w.runs;
      answers = w.answers;
      unanswered = w.unanswered;
      broke = record {
        taken = b.taken;
        read = b.read;
        lines = b.lines;
        cut = b.cut;
        front = b.front;
        rest = b.rest;
        begins = sym (ap (λ (x : Transcript). x.text) e) ∙ b.begins;
        written = b.written;
        asked = λ others o. b.asked others (ap (λ (x : Transcript). x.left) e ∙ o);
        whole = λ r.
            let p = b.whole r in
            record {
              text = p.text ∙ ap (λ (x : Transcript). x.text) k;
              open_yet = sym (ap (λ (x : Transcript). x.quits) k) ∙ p.open_yet;
              asked = sym (ap (λ (x : Transcript). x.left) k) ∙ p.asked;
            };
      };
    }
