-- The numbers of faults.
use Rattle.std.specs.Prelude.{ℕ}
use Rattle.live_rules.specs.declared.faults.LiveFault.{LiveFault}
use Rattle.live_rules.specs.declared.faults.LiveFault.TheVariants as fault

abbrev pub fault_number : LiveFault → ℕ
fault_number (fault.Setup n) = 1
fault_number (fault.Torn actor) = 2
fault_number (fault.Strange setup actors) = 3
