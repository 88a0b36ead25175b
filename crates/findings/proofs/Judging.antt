-- Verdicts by the end of a run.
use Rattle.findings.proofs.Common.{◌≡◌, ℕ, ◌+◌, ◌<◌, Bool, false, List, [], ◌∷◌, length, map, refl, ◌==◌, ◌&&◌, ◌||◌, All, Event, Setup, Machine, machine_at, Finding, Kind, Conflict, FsyncEarly, Written, inl, inr, sym, ap, ◌∙◌, or_parts, All-head, All-tail, is_volatile_at, written_before, has_byte, has_byte_of, is_lost, judged_kind, judged, is_marked, is_early, has_early, Judges, FollowsFiles, numbers_below, fault_if}
use Rattle.findings.proofs.Suspecting.{writes_below}
use Rattle.finding_rules.proofs.Members.{any_alike}
pub use Rattle.finding_rules.proofs.Between.{between_is, between_none, byte_in_none, byte_in_set}

-- ---- the bytes of a WRITE

has_byte_alike : (test other : ℕ → ℕ → Bool) (w : Written) → ((k : ℕ) → test w.file k ≡ other w.file k) → has_byte test w ≡ has_byte other w
has_byte_alike test other w h = any_alike (λ (k : ℕ). test w.file (w.first + k)) (λ (k : ℕ). other w.file (w.first + k)) (λ k. h (w.first + k)) (numbers_below w.count)

byte_of_alike : (test other : ℕ → ℕ → Bool) (n q : ℕ) (ws : List Written) → ((o k : ℕ) → o < n → test o k ≡ other o k) → All (λ (w : Written). w.file < n) ws → has_byte_of test ws q ≡ has_byte_of other ws q
byte_of_alike test other n q [] h l = refl
byte_of_alike test other n q (w ∷ ws) h l =
    ap (λ (b : Bool). ((w.row == q) && b) || has_byte_of test ws q) (has_byte_alike test other w (λ k. h w.file k (All-head (λ (x : Written). x.file < n) w ws l)))
    ∙ ap (λ (b : Bool). ((w.row == q) && has_byte other w) || b) (byte_of_alike test other n q ws h (All-tail (λ (x : Written). x.file < n) w ws l))

-- ---- verdicts

judged_alike : (lost other : ℕ → Bool) (kind : Kind) (q : ℕ) → ((r : ℕ) → lost r ≡ other r) → judged_kind lost kind q ≡ judged_kind other kind q
judged_alike lost other (Conflict (FsyncEarly verdict)) q h = ap (λ (b : Bool). Conflict (FsyncEarly (fault_if b))) (h q)
judged_alike lost other _ q h = refl

all_judged_alike : (lost other : ℕ → Bool) (fs : List Finding) → ((r : ℕ) → lost r ≡ other r) → map (judged lost) fs ≡ map (judged other) fs
all_judged_alike lost other [] h = refl
all_judged_alike lost other (f ∷ fs) h =
    ap (λ (kind : Kind). record f { kind = kind } ∷ map (judged lost) fs) (judged_alike lost other f.kind f.subject h) ∙ ap (λ (gs : List Finding). judged other f ∷ gs) (all_judged_alike lost other fs h)

decided : (lost : ℕ → Bool) (kind : Kind) (q : ℕ) → is_early kind ≡ false → judged_kind lost kind q ≡ kind
decided lost (Conflict (FsyncEarly verdict)) q e = cc
decided lost _ q e = refl

all_decided : (lost : ℕ → Bool) (fs : List Finding) → has_early fs ≡ false → map (judged lost) fs ≡ fs
all_decided lost [] e = refl
all_decided lost (f ∷ fs) e =
    let parts = or_parts (is_early f.kind) (has_early fs) e in
    ap (λ (kind : Kind). record f { kind = kind } ∷ map (judged lost) fs) (decided lost f.kind f.subject parts.0) ∙ ap (λ (gs : List Finding). f ∷ gs) (all_decided lost fs parts.1)

-- The findings with their verdicts are those of the whole run.
pub judged_at_end : (s : Setup) (es : List Event) (m : Machine) (ws : List Written) (sets : List (List ℕ)) (rs fs gs : List Finding) → m ≡ machine_at s es (length es) → FollowsFiles s es (length es) ws sets rs → Judges s m ws fs gs
    → gs ≡ map (judged (is_lost s es)) fs
judged_at_end s es m ws sets rs fs gs here h (inl p) = p.1 ∙ sym (all_decided (is_lost s es) fs p.0)
judged_at_end s es m ws sets rs fs gs here h (inr j) =
    j.replaced ∙ ap (λ (xs : List Written). map (judged (has_byte_of (is_marked j.sets) xs)) fs) h.writes
    ∙ all_judged_alike (has_byte_of (is_marked j.sets) (written_before s es (length es))) (is_lost s es) fs
    (λ q. byte_of_alike (is_marked j.sets) (is_volatile_at (machine_at s es (length es))) (length s.objects) q (written_before s es (length es))
    (λ o k l. j.volatile o k l ∙ ap (λ (x : Machine). is_volatile_at x o k) here) (writes_below s es (length es)))
