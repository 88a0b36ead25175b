-- Lists of variables: the changes of an event, the findings of a run, the children of a container.
use Rattle.std.specs.Prelude.{◌≡◌, ◌-◌, ◌<◌, List, [], ◌++◌, length, map, filter, codes, decimal, string_bytes, nat_lt, ◌||◌, ◌==◌, Bool}
use Rattle.places.specs.View.{Exact}
use Rattle.places.specs.declared.value.Change.{Change}
use Rattle.scenario.specs.declared.setup.Setup.{Setup}
use Rattle.machine.specs.Runs.{moment}
use Rattle.machine.specs.Whole.{view}
use Rattle.inverse_log.specs.Walks.{Walk, here}
use Rattle.run_log.specs.Lines.{news_text, olds_text, row_place, rows}
use Rattle.run_log.specs.Listings.{IsListing}
use Rattle.run_log.specs.declared.changed.Changed.{Changed}
use Rattle.explanations.specs.declared.reporting.Report.{Report}
use Rattle.dap_variables.specs.Variables.{plain_variable, variables_in}
use Rattle.dap_variables.specs.declared.container.Container.{Container}
use Rattle.dap_variables.specs.declared.container.Container.TheVariants.{Changes, Findings}
use Rattle.dap_variables.specs.declared.variable.Variable.{Variable}

-- ---- Changes

-- The variable of a line of the log: its place, and its old and new values.
abbrev pub row_variable : Setup → List Changed → Variable
row_variable s ds =
    plain_variable (row_place s ds) (olds_text ds ++ (codes " -> " ++ news_text ds))

-- The changes of the event before the position: exactly the places whose values it changed.
pub record ListsChanges (w : Walk) (ds : List Changed) : Type 0 where
  pub none : w.at ≡ 0 → ds ≡ []
  pub all : 0 < w.at → (past : List Change)
      × Exact (view (moment w.setup w.events (w.at - 1))) (view (here w)) past
      × IsListing (view (here w)) past ds

pub record AreChanges (w : Walk) (vs : List Variable) : Type 0 where
  pub changes : List Changed
  pub listed : ListsChanges w changes
  pub lines : vs ≡ map (row_variable w.setup) (rows changes)

-- ---- Findings

-- Whether a finding is shown: its event is before the position, or the position is the end.
abbrev pub is_shown : Walk → Report → Bool
is_shown w r = nat_lt r.finding.moment w.at || w.at == length w.events

-- The variable of a finding: the moment of its event, and its sentence.
abbrev pub report_variable : Report → Variable
report_variable r =
    plain_variable (codes "at " ++ decimal r.finding.moment) (string_bytes r.text)

abbrev pub report_variables : Walk → List Report → List Variable
report_variables w rs = map report_variable (filter (is_shown w) rs)

-- ---- All

-- The variables of a container at the position.
abbrev pub AreVariables : Walk → List Report → Container → List Variable → Type 0
AreVariables w rs Changes vs = AreChanges w vs
AreVariables w rs Findings vs = vs ≡ report_variables w rs
AreVariables w rs c vs = vs ≡ variables_in w c
