-- Containers by their references, and threads by their numbers.
use Rattle.std.proofs.Common.{◌≡◌, ℕ, ◌+◌, ◌-◌, ◌*◌, ◌/◌, ◌%◌, ◌<◌, ◌≤◌, ◌==◌, ◌||◌, nat_lt, cond, refl, ap, ◌∙◌, arith, zero, suc, List, [], ◌∷◌, false, true, Bool, sym}
use Rattle.std.specs.Prelude.{Option, Some, None, slice_get}
use Rattle.std.specs.Option.{option_and_then}
use Rattle.std.proofs.lemmas.Bool.Decides.{nat_tests}
use Rattle.scenario.specs.declared.setup.Setup.{Setup}
use Rattle.stops.specs.declared.steps.EditorThread.{EditorThread}
use Rattle.stops.specs.declared.steps.EditorThread.TheVariants as thread
use Rattle.dap_variables.specs.Containers.{container_at, container_of, containers, kind_of, number_of, reference_of}
use Rattle.dap_views.specs.Threads.{HasThread, thread_id, thread_of}
use Rattle.dap_variables.specs.declared.container.Container.{Container}
use Rattle.dap_variables.specs.declared.container.Container.TheVariants.{Thread, Rings, Requests, Objects, Memory, Changes, Findings, Array, Entries, Completions, Backlog, Request, Object, Descriptor, File, Durable, Pipe}

-- ---- Containers

if_same : (n : ℕ) (c : Container) → cond (n == n) (Some c) None ≡ Some c
if_same n c = grind (arith, nat_tests)

at_kind : (c : Container) → container_at (kind_of c) (number_of c) ≡ Some c
at_kind (Thread thread.Run) = refl
at_kind (Thread (thread.Thread n)) = if_same n (Thread (thread.Thread n))
at_kind (Thread thread.Poller) = refl
at_kind (Thread thread.Kernel) = refl
at_kind Rings = refl
at_kind Requests = refl
at_kind Objects = refl
at_kind Memory = refl
at_kind Changes = refl
at_kind Findings = refl
at_kind Array = refl
at_kind Entries = refl
at_kind Completions = refl
at_kind Backlog = refl
at_kind (Request n) = if_same n (Request n)
at_kind (Object n) = if_same n (Object n)
at_kind (Descriptor n) = if_same n (Descriptor n)
at_kind (File n) = if_same n (File n)
at_kind (Durable n) = if_same n (Durable n)
at_kind (Pipe n) = if_same n (Pipe n)

few_kinds : (c : Container) → kind_of c < 20
few_kinds (Thread thread.Run) = omega arith
few_kinds (Thread (thread.Thread n)) = omega arith
few_kinds (Thread thread.Poller) = omega arith
few_kinds (Thread thread.Kernel) = omega arith
few_kinds Rings = omega arith
few_kinds Requests = omega arith
few_kinds Objects = omega arith
few_kinds Memory = omega arith
few_kinds Changes = omega arith
few_kinds Findings = omega arith
few_kinds Array = omega arith
few_kinds Entries = omega arith
few_kinds Completions = omega arith
few_kinds Backlog = omega arith
few_kinds (Request n) = omega arith
few_kinds (Object n) = omega arith
few_kinds (Descriptor n) = omega arith
few_kinds (File n) = omega arith
few_kinds (Durable n) = omega arith
few_kinds (Pipe n) = omega arith

in_range : (r : ℕ) (a b : Option Container) → 0 < r → r ≤ 2147483647 → cond ((r == 0) || nat_lt 2147483647 r) a b ≡ b
in_range r a b h k = grind (arith, nat_tests)

parts : (k n r : ℕ) → n < 65536 → r ≡ 65536 * k + n + 1 → ((r - 1) / 65536 ≡ k) × ((r - 1) % 65536 ≡ n)
parts k n r h e = (omega arith, omega arith)

decodes_to : (k n r : ℕ) → k < 20 → n < 65536 → r ≡ 65536 * k + n + 1 → container_of r ≡ container_at k n
unfolding container_of
decodes_to k n r h i e =
    let p : ((r - 1) / 65536 ≡ k) × ((r - 1) % 65536 ≡ n) = parts k n r i e in
    in_range r None (container_at ((r - 1) / 65536) ((r - 1) % 65536)) (omega arith) (omega arith)
    ∙ (ap (λ j. container_at j ((r - 1) % 65536)) p.0 ∙ ap (container_at k) p.1)

pub decoded : (c : Container) → number_of c < 65536 → container_of (reference_of c) ≡ Some c
unfolding reference_of
decoded c h =
    let few = few_kinds c in
    let same : number_of c % 65536 ≡ number_of c = omega arith in
    decodes_to (kind_of c) (number_of c) (reference_of c) few h (ap (λ m. 65536 * kind_of c + m + 1) same) ∙ at_kind c

-- The kinds of containers, one after the other.
abbrev KindsFrom : List Container → ℕ → Type 0
KindsFrom [] a = Unit {0}
KindsFrom (c ∷ cs) a = (kind_of c ≡ a) × KindsFrom cs (a + 1)

kind_at : (cs : List Container) (a k : ℕ) (x : Container) → KindsFrom cs a → slice_get cs k ≡ Some x → kind_of x ≡ a + k
kind_at [] a k x h e = cc
kind_at (c ∷ cs) a zero x h e =
    let same : c ≡ x = cc in
    let kind : kind_of x ≡ a = ap kind_of (sym same) ∙ h.0 in
    omega arith
kind_at (c ∷ cs) a (suc k) x h e =
    let kind : kind_of x ≡ a + 1 + k = kind_at cs (a + 1) k x h.1 e in
    omega arith

all_kinds : (n : ℕ) → KindsFrom (containers n) 0
all_kinds n = (refl, (refl, (refl, (refl, (refl, (refl, (refl, (refl, (refl, (refl, (refl, (refl, (refl, (refl, (refl, (refl, (refl, (refl, (refl, (refl, tt))))))))))))))))))))

if_found : (n : ℕ) (x c : Container) → cond (number_of x == n) (Some x) None ≡ Some c → (x ≡ c) × (number_of x ≡ n)
if_found n x c e = by (number_of x == n) refl e
  where
    by : (b : Bool) → (number_of x == n) ≡ b → cond b (Some x) None ≡ Some c → (x ≡ c) × (number_of x ≡ n)
    by true t f = (cc, grind (arith, nat_tests))
    by false t f = cc

kind_and_number : (k n : ℕ) (c : Container) → container_at k n ≡ Some c → (kind_of c ≡ k) × (number_of c ≡ n)
kind_and_number k n c e = by (slice_get (containers n) k) refl e
  where
    by : (o : Option Container) → slice_get (containers n) k ≡ o → option_and_then (λ (x : Container). cond (number_of x == n) (Some x) None) o ≡ Some c → (kind_of c ≡ k) × (number_of c ≡ n)
    by None s f = cc
    by (Some x) s f =
        let found = if_found n x c f in
        let kind : kind_of x ≡ 0 + k = kind_at (containers n) 0 k x (all_kinds n) s in
        (ap kind_of (sym found.0) ∙ omega arith, ap number_of (sym found.0) ∙ found.1)

pub encoded : (r : ℕ) (c : Container) → container_of r ≡ Some c → reference_of c ≡ r
unfolding container_of reference_of
encoded r c e = by ((r == 0) || nat_lt 2147483647 r) refl e
  where
    at : Option Container
    at = container_at ((r - 1) / 65536) ((r - 1) % 65536)

    by : (b : Bool) → ((r == 0) || nat_lt 2147483647 r) ≡ b → cond b None at ≡ Some c → 65536 * kind_of c + number_of c % 65536 + 1 ≡ r
    by true t f = cc
    by false t f =
        let parts = kind_and_number ((r - 1) / 65536) ((r - 1) % 65536) c f in
        let some : 0 < r = grind (arith, nat_tests) in
        let kind : kind_of c ≡ (r - 1) / 65536 = parts.0 in
        let number : number_of c ≡ (r - 1) % 65536 = parts.1 in
        rw (kind, number) (omega arith)

-- ---- Threads

pub found_thread : (s : Setup) (t : EditorThread) → HasThread s t → thread_of s (thread_id s t) ≡ Some t
unfolding thread_of
found_thread s thread.Run h = refl
found_thread s (thread.Thread t) h = grind (arith, nat_tests)
found_thread s thread.Poller h = grind (arith, nat_tests)
found_thread s thread.Kernel h = grind (arith, nat_tests)
