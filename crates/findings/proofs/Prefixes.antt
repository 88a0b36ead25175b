-- What a search has seen of a run, it has seen of each longer run too.
use Rattle.findings.proofs.Common.{◌≡◌, ℕ, ℤ, zero, suc, ◌+◌, ◌<◌, ◌≤◌, Bool, true, false, List, [], ◌∷◌, ◌++◌, length, map, refl, sym, ap, ◌∙◌, subst, arith, take-append-le, All-weaker, flat_map-append, Option, None, slice_get, option_map_or, Event, Setup, Machine, after, start, run, machine_at, Finding, Kind, FsyncRetried, Written, Nothing, Watch, is_volatile_at, completed_by, completed_at, written_of, written_at, written_before, moves, fsync_of, fsync_at, failed, good, IsSuspect, IsRetried, occurs, occurs_at, condition_holds_at, IsRetriedAt, Retries, condition_holds, Covers, FoundBefore, since_of, watch_at, HasSearched, is_marked, FollowsFiles, next_of, continued, numbers_below, watched, MatchBool, option_to_list}

-- ---- moments and events

same_moment : (s : Setup) (es more : List Event) (k : ℕ) → k ≤ length es → machine_at s (es ++ more) k ≡ machine_at s es k
same_moment s es more k h = ap (λ (xs : List Event). run (start s) xs) (take-append-le k es more h)

same_event : (es more : List Event) (k : ℕ) → k < length es → slice_get (es ++ more) k ≡ slice_get es k
same_event [] more k h = absurd (omega (arith, h))
same_event (e ∷ es) more zero h = refl
same_event (e ∷ es) more (suc k) h = same_event es more k (omega (arith, h))

-- ---- findings of events

same_occurs : (s : Setup) (es more : List Event) (i : ℕ) (kind : Kind) (n : ℕ) → i < length es → occurs_at s (es ++ more) i kind n ≡ occurs_at s es i kind n
same_occurs s es more i kind n h =
    ap (λ (o : Option Event). option_map_or (λ e. occurs s kind (machine_at s (es ++ more) i) e (after (machine_at s (es ++ more) i) e) n) o false) (same_event es more i h)
    ∙ ap (λ (m : Machine). option_map_or (λ e. occurs s kind m e (after m e) n) (slice_get es i) false) (same_moment s es more i (omega (arith, h)))

found_longer : (s : Setup) (es more : List Event) (n : ℕ) (fs : List Finding) → n ≤ length es → FoundBefore s es n fs → FoundBefore s (es ++ more) n fs
found_longer s es more n fs le h = record {
  only = All-weaker (λ (f : Finding). (f.moment < n) × (occurs_at s es f.moment f.kind f.subject ≡ true)) (λ (f : Finding). (f.moment < n) × (occurs_at s (es ++ more) f.moment f.kind f.subject ≡ true))
      (λ f p. let l : f.moment < n = p.0 in (l, same_occurs s es more f.moment f.kind f.subject (omega (arith, l, le)) ∙ p.1)) fs h.only;
  whole = λ f l k. h.whole f l (sym (same_occurs s es more f.moment f.kind f.subject (omega (arith, l, le))) ∙ k);
}

-- ---- conditions

same_since : (f g : ℕ → Bool) (n : ℕ) → ((k : ℕ) → k ≤ n → f k ≡ g k) → since_of f n ≡ since_of g n
unfolding since_of
same_since f g zero h = ap (λ (b : Bool). continued b None zero) (h zero (omega arith))
same_since f g (suc n) h =
    ap (λ (b : Bool). continued b (since_of f n) (suc n)) (h (suc n) (omega arith))
    ∙ ap (λ (o : Option ℕ). continued (g (suc n)) o (suc n)) (same_since f g n (λ k l. h k (omega (arith, l))))

same_watch : (s : Setup) (es more : List Event) (n : ℕ) (w : Watch) → n ≤ length es → watch_at s (es ++ more) n w ≡ watch_at s es n w
same_watch s es more n w le =
    ap (λ (m : Machine). record w { next = next_of s m w.subject; since = since_of (condition_holds_at s (es ++ more) w.condition w.subject) n }) (same_moment s es more n le)
    ∙ ap (λ (o : Option ℕ). record w { next = next_of s (machine_at s es n) w.subject; since = o })
    (same_since (condition_holds_at s (es ++ more) w.condition w.subject) (condition_holds_at s es w.condition w.subject) n
    (λ k l. ap (λ (m : Machine). condition_holds s w.condition m w.subject) (same_moment s es more k (omega (arith, l, le)))))

same_map : (f g : Watch → Watch) (ws : List Watch) → ((w : Watch) → f w ≡ g w) → map f ws ≡ map g ws
same_map f g [] h = refl
same_map f g (w ∷ ws) h = ap (λ (x : Watch). x ∷ map f ws) (h w) ∙ ap (λ (xs : List Watch). g w ∷ xs) (same_map f g ws h)

-- ---- WRITEs and FSYNCs

same_completed : (s : Setup) (es more : List Event) (i : ℕ) → i < length es → completed_at s (es ++ more) i ≡ completed_at s es i
same_completed s es more i h =
    ap (λ (m : Machine). option_map_or (λ e. completed_by e m) (slice_get (es ++ more) i) Nothing) (same_moment s es more (i + 1) (omega (arith, h)))
    ∙ ap (λ (o : Option Event). option_map_or (λ e. completed_by e (machine_at s es (i + 1))) o Nothing) (same_event es more i h)

same_written : (s : Setup) (es more : List Event) (i : ℕ) → i < length es → written_at s (es ++ more) i ≡ written_at s es i
same_written s es more i h =
    ap (λ (m : Machine). written_of s m (completed_at s (es ++ more) i)) (same_moment s es more (i + 1) (omega (arith, h)))
    ∙ ap (λ d. written_of s (machine_at s es (i + 1)) d) (same_completed s es more i h)

same_fsync : (s : Setup) (es more : List Event) (i : ℕ) (result : ℤ) → i < length es → fsync_at s (es ++ more) result i ≡ fsync_at s es result i
same_fsync s es more i result h = ap (λ d. fsync_of s result d) (same_completed s es more i h)

same_writes : (s : Setup) (es more : List Event) (n : ℕ) → n ≤ length es → written_before s (es ++ more) n ≡ written_before s es n
same_writes s es more zero le = refl
same_writes s es more (suc n) le =
    flat_map-append (λ (i : ℕ). option_to_list (written_at s (es ++ more) i)) (numbers_below n) (n ∷ [])
    ∙ ap (λ (ws : List Written). ws ++ (option_to_list (written_at s (es ++ more) n) ++ [])) (same_writes s es more n (omega (arith, le)))
    ∙ ap (λ (o : Option Written). written_before s es n ++ (option_to_list o ++ [])) (same_written s es more n (omega (arith, le)))
    ∙ sym (flat_map-append (λ (i : ℕ). option_to_list (written_at s es i)) (numbers_below n) (n ∷ []))

suspect_longer : (s : Setup) (es more : List Event) (n o k : ℕ) → n ≤ length es → IsSuspect s es n o k → IsSuspect s (es ++ more) n o k
suspect_longer s es more n o k le h =
    let early : h.event < n = h.earlier in
    record {
      event = h.event;
      row = h.row;
      earlier = early;
      fails = same_fsync s es more h.event failed (omega (arith, early, le)) ∙ h.fails;
      volatile = ap (λ (m : Machine). is_volatile_at m o k) (same_moment s es more (h.event + 1) (omega (arith, early, le))) ∙ h.volatile;
      unwritten = λ j a b. ap (λ w. moves w o k) (same_written s es more j (omega (arith, b, le))) ∙ h.unwritten j a b;
    }

suspect_shorter : (s : Setup) (es more : List Event) (n o k : ℕ) → n ≤ length es → IsSuspect s (es ++ more) n o k → IsSuspect s es n o k
suspect_shorter s es more n o k le h =
    let early : h.event < n = h.earlier in
    record {
      event = h.event;
      row = h.row;
      earlier = early;
      fails = sym (same_fsync s es more h.event failed (omega (arith, early, le))) ∙ h.fails;
      volatile = sym (ap (λ (m : Machine). is_volatile_at m o k) (same_moment s es more (h.event + 1) (omega (arith, early, le)))) ∙ h.volatile;
      unwritten = λ j a b. sym (ap (λ w. moves w o k) (same_written s es more j (omega (arith, b, le)))) ∙ h.unwritten j a b;
    }

same_test : (P Q : Type 0) (b : Bool) → (P → Q) → (Q → P) → MatchBool b P (P → ⊥) → MatchBool b Q (Q → ⊥)
same_test P Q true f g h = f h
same_test P Q false f g h = λ q. h (g q)

retried_longer : (s : Setup) (es more : List Event) (n i r : ℕ) → n ≤ length es → i < n → IsRetried s es i r → IsRetried s (es ++ more) i r
retried_longer s es more n i r le l h = record {
  file = h.file;
  byte = h.byte;
  succeeds = same_fsync s es more i good (omega (arith, l, le)) ∙ h.succeeds;
  suspect = suspect_longer s es more i h.file h.byte (omega (arith, l, le)) h.suspect;
}

retried_shorter : (s : Setup) (es more : List Event) (n i r : ℕ) → n ≤ length es → i < n → IsRetried s (es ++ more) i r → IsRetried s es i r
retried_shorter s es more n i r le l h = record {
  file = h.file;
  byte = h.byte;
  succeeds = sym (same_fsync s es more i good (omega (arith, l, le))) ∙ h.succeeds;
  suspect = suspect_shorter s es more i h.file h.byte (omega (arith, l, le)) h.suspect;
}

retries_longer : (s : Setup) (es more : List Event) (n i : ℕ) (kind : Kind) (r : ℕ) → n ≤ length es → i < n → IsRetriedAt s es i kind r → IsRetriedAt s (es ++ more) i kind r
retries_longer s es more n i FsyncRetried r le l h = retried_longer s es more n i r le l h
retries_longer s es more n i _ r le l h = absurd h

retries_shorter : (s : Setup) (es more : List Event) (n i : ℕ) (kind : Kind) (r : ℕ) → n ≤ length es → i < n → IsRetriedAt s (es ++ more) i kind r → IsRetriedAt s es i kind r
retries_shorter s es more n i FsyncRetried r le l h = retried_shorter s es more n i r le l h
retries_shorter s es more n i _ r le l h = absurd h

files_longer : (s : Setup) (es more : List Event) (n : ℕ) (ws : List Written) (sets : List (List ℕ)) (fs : List Finding) → n ≤ length es → FollowsFiles s es n ws sets fs → FollowsFiles s (es ++ more) n ws sets fs
files_longer s es more n ws sets fs le h = record {
  writes = h.writes ∙ sym (same_writes s es more n le);
  count = h.count;
  suspects = λ o k. same_test (IsSuspect s es n o k) (IsSuspect s (es ++ more) n o k) (is_marked sets o k) (suspect_longer s es more n o k le) (suspect_shorter s es more n o k le) (h.suspects o k);
  retried = record {
    only = All-weaker (λ (f : Finding). (f.moment < n) × Retries s es f) (λ (f : Finding). (f.moment < n) × Retries s (es ++ more) f)
        (λ f p. (p.0, retries_longer s es more n f.moment f.kind f.subject le p.0 p.1)) fs h.retried.only;
    whole = λ f l k. h.retried.whole f l (retries_shorter s es more n f.moment f.kind f.subject le l k);
  };
}

-- ---- the search

-- What a search has seen of the first n events doesn't depend on later ones.
pub searched_longer : (s : Setup) (es more : List Event) (n : ℕ) (fs : List Finding) (numbers : List ℕ) (ws : List Watch) (writes : List Written) (sets : List (List ℕ)) (retried : List Finding) → n ≤ length es → length (es ++ more) ≤ 1048576
    → HasSearched s es n fs numbers ws writes sets retried → HasSearched s (es ++ more) n fs numbers ws writes sets retried
searched_longer s es more n fs numbers ws writes sets retried le most h = record {
  most = most;
  found = found_longer s es more n fs le h.found;
  covered = subst (λ (m : Machine). Covers m.table numbers) (sym (same_moment s es more n le)) h.covered;
  watching = h.watching ∙ sym (same_map (watch_at s (es ++ more) n) (watch_at s es n) (watched s) (λ w. same_watch s es more n w le));
  threads = ap (λ (m : Machine). length m.threads) (same_moment s es more n le) ∙ h.threads;
  files = files_longer s es more n writes sets retried le h.files;
}
