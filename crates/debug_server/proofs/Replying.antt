-- The reply to each command.
use Rattle.std.proofs.Common.{◌≡◌, ℕ, List, length, nat_le, nat_lt, Bool, true, false, cond, Option, Some, None, Result, Ok, Err, refl, ap, ◌∙◌}
use Rattle.scenario.specs.declared.setup.Setup.{Setup}
use Rattle.scenario.specs.declared.event.Event.{Event}
use Rattle.inverse_log.specs.Walks.{Walk}
use Rattle.commands.specs.declared.command.Command.{Command}
use Rattle.commands.specs.declared.command.CommandFault.{CommandFault}
use Rattle.commands.specs.Commands.{command_of}
use Rattle.commands.specs.declared.command.Command.TheVariants.{Where, Show, Goto, Back, On, Watch, Break, Unwatch, Cont, Rcont, Sync, Quit}
use Rattle.debug_server.specs.Syncs.{torn_from}
use Rattle.debug_server.specs.SessionStates.{SessionState}
use Rattle.debug_server.specs.Replies.{Answer, Reply, takes_over, agrees, syncs, is_full, reply_to, reply}
use Rattle.debug_server.specs.Quitting.{is_quit}

pub replied_to : (v : SessionState) (w : Walk) (setup : Setup) (line : List ℕ) (command : Result Command CommandFault) (t : Answer) → w ≡ v.walk → setup ≡ w.setup → command ≡ command_of setup line → reply_to v command t ≡ reply v line t
unfolding reply
replied_to v w setup line command t here from is =
    let same : setup ≡ v.walk.setup = from ∙ ap (λ (x : Walk). x.setup) here in
    ap (λ c. reply_to v c t) (is ∙ ap (λ s. command_of s line) same)

-- ---- Which replies end the session

either : (b : Bool) (r s : Reply) → r.quits ≡ false → s.quits ≡ false → (cond b r s).quits ≡ false
either true r s h k = h
either false r s h k = k

takes_on : (v : SessionState) (es : List Event) (o : Option ℕ) → (takes_over v es o).quits ≡ false
takes_on v es None = refl
takes_on v es (Some i) = refl

agrees_on : (v : SessionState) (es : List Event) (o : Option ℕ) → (agrees v es o).quits ≡ false
agrees_on v es None = takes_on v es _
agrees_on v es (Some i) = refl

syncs_on : (v : SessionState) (t : Answer) → (syncs v t).quits ≡ false
syncs_on v None = refl
syncs_on v (Some es) = either (nat_lt 1048576 (length es)) _ _ refl (agrees_on v es (torn_from 0 v.walk.events es))

pub quits_alone : (v : SessionState) (command : Result Command CommandFault) (t : Answer) → (reply_to v command t).quits ≡ is_quit command
quits_alone v (Err f) t = refl
quits_alone v (Ok Where) t = refl
quits_alone v (Ok (Show p)) t = refl
quits_alone v (Ok (Goto n)) t = either (nat_le n (length v.walk.events)) _ _ refl refl
quits_alone v (Ok (Back n)) t = refl
quits_alone v (Ok (On n)) t = refl
quits_alone v (Ok (Watch p)) t = either (is_full v.stops.watchpoints) _ _ refl refl
quits_alone v (Ok (Break p x)) t = either (is_full v.stops.breakpoints) _ _ refl refl
quits_alone v (Ok Unwatch) t = refl
quits_alone v (Ok Cont) t = refl
quits_alone v (Ok Rcont) t = refl
quits_alone v (Ok Sync) t = syncs_on v t
quits_alone v (Ok Quit) t = refl
