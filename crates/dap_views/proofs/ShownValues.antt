-- The value of an expression, and the reply to `show`.
use Rattle.std.proofs.Common.{◌≡◌, ◌≢◌, ℕ, List, ◌++◌, Bool, true, false, cond, refl, ap, ◌∙◌}
use Rattle.std.specs.Prelude.{Option, Some, None, Result, Ok, Err, codes, option_map}
use Rattle.std.specs.Str.{bytes_eq}
use Rattle.std.proofs.lemmas.Slice.Eq.{bytes_eq-Decides}
use Rattle.places.specs.declared.value.Value.{Value}
use Rattle.inverse_log.specs.Walks.{here}
use Rattle.machine.specs.Whole.{view}
use Rattle.commands.specs.Commands.{command_of}
use Rattle.commands.specs.declared.command.Command.{Command}
use Rattle.commands.specs.declared.command.Command.TheVariants.{Where, Show, Goto, Back, On, Watch, Break, Unwatch, Cont, Rcont, Sync, Quit}
use Rattle.commands.specs.declared.command.CommandFault.{CommandFault}
use Rattle.run_log.specs.Lines.{value_shown}
use Rattle.debug_server.specs.Replies.{Answer, reply, reply_to, shown_text}
use Rattle.debug_server.specs.SessionStates.{SessionState}
use Rattle.dap_views.specs.Evaluations.{evaluation, moment_variable, place_named, shown_place}
use Rattle.dap_variables.specs.Variables.{place_variable}
use Rattle.dap_variables.specs.declared.variable.Variable.{Variable}

-- `show` prints a value and a line feed.
shown : (o : Option Value) → shown_text o ≡ value_shown o ++ codes "\n"
shown None = refl
shown (Some v) = refl

-- The reply to a command that shows a place.
replied : (v : SessionState) (command : Result Command CommandFault) (x : Variable) (answer : Answer) → option_map (place_variable v.walk.setup (here v.walk)) (shown_place command) ≡ Some x → (reply_to v command answer).text ≡ x.value ++ codes "\n"
replied v (Err f) x answer e = cc
replied v (Ok Where) x answer e = cc
replied v (Ok (Show p)) x answer e =
    let same : place_variable v.walk.setup (here v.walk) p ≡ x = cc in
    shown (view (here v.walk) p) ∙ ap (λ (y : Variable). y.value ++ codes "\n") same
replied v (Ok (Goto n)) x answer e = cc
replied v (Ok (Back n)) x answer e = cc
replied v (Ok (On n)) x answer e = cc
replied v (Ok (Watch p)) x answer e = cc
replied v (Ok (Break p y)) x answer e = cc
replied v (Ok Unwatch) x answer e = cc
replied v (Ok Cont) x answer e = cc
replied v (Ok Rcont) x answer e = cc
replied v (Ok Sync) x answer e = cc
replied v (Ok Quit) x answer e = cc

-- An expression other than `moment` is a place.
placed : (text : List ℕ) (at o : Option Variable) (x : Variable) → text ≢ codes "moment" → (b : Bool) → bytes_eq text (codes "moment") ≡ b → cond b at o ≡ Some x → o ≡ Some x
placed text at o x h true t e = absurd (h ((bytes_eq-Decides text (codes "moment")).0 t))
placed text at o x h false t e = e

pub shown_values : (v : SessionState) (text : List ℕ) (x : Variable) (answer : Answer) → text ≢ codes "moment" → evaluation v.walk text ≡ Some x → (reply v (codes "show " ++ text) answer).text ≡ x.value ++ codes "\n"
unfolding evaluation place_named reply
shown_values v text x answer h e =
    let command = command_of v.walk.setup (codes "show " ++ text) in
    let o = option_map (place_variable v.walk.setup (here v.walk)) (shown_place command) in
    replied v command x answer (placed text (Some (moment_variable v.walk.at)) o x h (bytes_eq text (codes "moment")) refl e)
