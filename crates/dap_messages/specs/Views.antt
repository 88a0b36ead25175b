-- JSON values that may be missing, without where they are in memory.
use Rattle.std.specs.Prelude.{Option, option_map}
use Rattle.serde_json.specs.Data.{Data}
use Rattle.serde_json.specs.View.{view}
use Rattle.dap_messages.specs.declared.found.Found.{Found}

abbrev pub data_in : Found → Option Data
data_in f = option_map (λ v. view v.now) f.value
