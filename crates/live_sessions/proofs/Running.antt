-- The faults of a live run that wasn't closed.
use Rattle.std.proofs.Common.{◌≡◌, ◌≢◌, ℕ, Result, Ok, Err, refl, ap}
use Rattle.std.specs.Prelude.{IfErr}
use Rattle.scenario.specs.declared.setup.Setup.{Setup}
use Rattle.scenario.specs.declared.setup.SetupRefusal.{SetupRefusal}
use Rattle.scenario.specs.declared.setup.SetupRefusal.TheVariants.{Memory as OutOfMemory}
use Rattle.live_rules.specs.declared.faults.LiveFault.{LiveFault}
use Rattle.live_rules.specs.declared.faults.LiveFault.TheVariants as live
use Rattle.live_sessions.specs.Living.{IsOfRunning}

no_start : (setup : Setup) (count : ℕ) (e : LiveFault) → ((n : SetupRefusal) → e ≡ live.Setup n → n ≡ OutOfMemory) → ((s : Setup) (k : ℕ) → e ≡ live.Strange s k → s ≡ setup → k ≢ count) → IsOfRunning setup count e
no_start setup count (live.Setup n) f g = f n refl
no_start setup count (live.Torn actor) f g = tt
no_start setup count (live.Strange s k) f g = g s k refl

pub running : {A : Type 0} (setup : Setup) (count : ℕ) (r : Result A LiveFault) → ((n : SetupRefusal) → r ≡ Err (live.Setup n) → n ≡ OutOfMemory) → ((s : Setup) (k : ℕ) → r ≡ Err (live.Strange s k) → s ≡ setup → k ≢ count) → IfErr r (IsOfRunning setup count)
running setup count (Ok x) f g = tt
running setup count (Err e) f g = no_start setup count e (λ n h. f n (ap (λ x. Err x) h)) (λ s k h. g s k (ap (λ x. Err x) h))
