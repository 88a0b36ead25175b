-- Reports of the findings of a run. A line of the console changes neither its setup nor its events.
use Rattle.std.proofs.Common.{◌≡◌, ℕ, List, length, nat_le, Bool, true, false, cond, Option, Some, None, Result, Ok, Err, IfSome, OnOk, OnErr, refl, sym, subst}
use Rattle.scenario.specs.declared.setup.Setup.{Setup}
use Rattle.scenario.specs.declared.event.Event.{Event}
use Rattle.inverse_log.specs.Walks.{Walk}
use Rattle.commands.specs.declared.command.Command.{Command}
use Rattle.commands.specs.declared.command.CommandFault.{CommandFault}
use Rattle.commands.specs.declared.command.Command.TheVariants.{Where, Show, Goto, Back, On, Watch, Break, Unwatch, Cont, Rcont, Sync, Quit}
use Rattle.commands.specs.Commands.{command_of}
use Rattle.findings.specs.Findings.{IsReportOf}
use Rattle.explanations.specs.ReportLists.{findings_in}
use Rattle.explanations.specs.declared.reporting.Report.{Report}
use Rattle.explanations.specs.declared.subjects.Subject.TheVariants.{Instruction}
use Rattle.sentences.specs.declared.run.ThreadStep.{ThreadStep}
use Rattle.debug_server.specs.Replies.{Reply, is_full, reply, reply_to}
use Rattle.debug_server.specs.SessionStates.{SessionState, SessionValue}
use Rattle.dap_session.specs.Searches.{AreReportsIfAny, AreReportsOf, IsPointedAt, IsReportAt}

-- Two walks are through one run.
abbrev pub IsSameRun : Walk → Walk → Type 0
IsSameRun w v = (w.setup ≡ v.setup) × (w.events ≡ v.events)

-- ---- Lines

either : (b : Bool) (r s : Reply) (w : Walk) → IsSameRun r.next.walk w → IsSameRun s.next.walk w → IsSameRun (cond b r s).next.walk w
either true r s w h k = h
either false r s w h k = k

replies_keep_run : (v : SessionState) (command : Result Command CommandFault) → IsSameRun (reply_to v command None).next.walk v.walk
replies_keep_run v (Err f) = (refl, refl)
replies_keep_run v (Ok Where) = (refl, refl)
replies_keep_run v (Ok (Show p)) = (refl, refl)
replies_keep_run v (Ok (Goto n)) = either (nat_le n (length v.walk.events)) _ _ v.walk (refl, refl) (refl, refl)
replies_keep_run v (Ok (Back n)) = (refl, refl)
replies_keep_run v (Ok (On n)) = (refl, refl)
replies_keep_run v (Ok (Watch p)) = either (is_full v.stops.watchpoints) _ _ v.walk (refl, refl) (refl, refl)
replies_keep_run v (Ok (Break p x)) = either (is_full v.stops.breakpoints) _ _ v.walk (refl, refl) (refl, refl)
replies_keep_run v (Ok Unwatch) = (refl, refl)
replies_keep_run v (Ok Cont) = (refl, refl)
replies_keep_run v (Ok Rcont) = (refl, refl)
replies_keep_run v (Ok Sync) = (refl, refl)
replies_keep_run v (Ok Quit) = (refl, refl)

lines_keep_run : (v : SessionState) (line : List ℕ) → IsSameRun (reply v line None).next.walk v.walk
unfolding reply
lines_keep_run v line = replies_keep_run v (command_of v.walk.setup line)

-- ---- Reports

reports_stay : (w v : Walk) (rs : Option (List Report)) → IsSameRun w v → AreReportsIfAny v rs → AreReportsIfAny w rs
reports_stay w v None e h = tt
reports_stay w v (Some rs) e h =
    let P : Setup → Type 0 = λ s. IsReportOf s v.events (findings_in rs) in
    let Q : List Event → Type 0 = λ es. IsReportOf w.setup es (findings_in rs) in
    record { findings = subst Q (sym e.1) (subst P (sym e.0) h.findings); subjects = h.subjects }

-- The reports of a run after a search are those of the run before it.
pub reports_before : (s t : SessionValue) (reports : List Report) → t ≡ s → AreReportsOf t.state.walk reports → AreReportsOf s.state.walk reports
reports_before s t reports same h = subst (λ (u : SessionValue). AreReportsOf u.state.walk reports) same h

-- The reports stay those of the run after a line, and if that failed.
pub stay_at_line : {A E : Type 0} → (r : Result A E) (s t : SessionValue) (line : List ℕ) (rs : Option (List Report)) → OnOk r (t ≡ record { state = (reply s.state line None).next; is_closed = s.is_closed }) → OnErr r (t ≡ s) → AreReportsIfAny s.state.walk rs → AreReportsIfAny t.state.walk rs
stay_at_line (Ok x) s t line rs next err h =
    let after = reports_stay (reply s.state line None).next.walk s.state.walk rs (lines_keep_run s.state line) h in
    subst (λ (u : SessionValue). AreReportsIfAny u.state.walk rs) (sym next) after
stay_at_line (Err x) s t line rs next err h = subst (λ (u : SessionValue). AreReportsIfAny u.state.walk rs) (sym err) h

-- ---- What a report points at

pub pointed_by : (w : Walk) (moment : ℕ) (report : Report) (step : Option ThreadStep) → IsReportAt w moment report → IfSome step (λ s. report.subject ≡ Instruction s) → IfSome step (IsPointedAt w moment)
pointed_by w moment report None is_report points = tt
pointed_by w moment report (Some s) is_report points = record { report = report; is_report = is_report; points = points }
