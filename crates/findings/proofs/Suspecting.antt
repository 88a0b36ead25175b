-- WRITEs and FSYNCs that a search has followed, after one more event.
use Rattle.findings.proofs.Common.{◌≡◌, ◌⊎◌, ℕ, ℤ, zero, suc, ◌+◌, ◌-◌, ◌<◌, Bool, true, false, cond, not, List, [], ◌∷◌, ◌++◌, length, refl, MatchBool, Option, Some, None, option_map, slice_get, nat_lt, ◌==◌, ◌&&◌, ◌||◌, option_map_or, option_and_then, option_to_list, All, Contains, Row, Contents, File, Descriptor, Object, Event, Setup, Machine, machine_at, number_in, Finding, Kind, FsyncRetried, Fsync, Written, Effect, Nothing, Finished, inl, inr, sym, ap, ◌∙◌, subst, arith, append-nil, cases_lt, and_from, and_parts, eqb-true, eq-eqb, MatchBool-at_true, MatchBool-at_false, flat_map-append, All-nil, All-cons, All-append, All-weaker, Contains-append_left, Contains-append_right, none-some, same_Some, slice_get_within, slice_get_past, clash, file_number, file_of_descriptor, file_numbered, file_of, begins, moved, is_volatile_at, completed_by, completed_at, written_of, written_at, written_before, moves, has_ended_with, fsync_of, fsync_at, failed, good, IsSuspect, IsRetried, IsRetriedAt, Retries, given, RetriedBefore, is_marked, is_fsync_of, SaysMarked, AddsRetried, Follows, FollowsFiles, numbers_below}
use Rattle.findings.proofs.{Groups.the_finding, Marks.marked_past, Marks.marks_both, Marks.marks_kept, Marks.marks_same}
use Rattle.finding_rules.proofs.Members.{has_contains}

-- ---- files are objects of the setup

file_is : (o p : ℕ) (x : Contents) → file_number o x ≡ Some p → o ≡ p
file_is o p (File bytes) e = same_Some o p e
file_is o p _ e = absurd (none-some p e)

descriptor_below : (s : Setup) (d : Descriptor) (o : ℕ) → file_of_descriptor s d ≡ Some o → o < length s.objects
descriptor_below s d o = by (slice_get s.objects d.object) refl
  where
    by : (x : Option Object) → slice_get s.objects d.object ≡ x → option_and_then (λ (y : Object). file_number d.object y.contents) x ≡ Some o → o < length s.objects
    by None e h = absurd (none-some o h)
    by (Some y) e h = subst (λ (p : ℕ). p < length s.objects) (file_is d.object o y.contents h) (slice_get_within s.objects d.object y e)

numbered_below : (s : Setup) (fd o : ℕ) → file_numbered s fd ≡ Some o → o < length s.objects
numbered_below s fd o = by (nat_lt fd 3) (slice_get s.fds (fd - 3))
  where
    by : (b : Bool) (x : Option Descriptor) → cond b None (option_and_then (file_of_descriptor s) x) ≡ Some o → o < length s.objects
    by true x h = absurd (none-some o h)
    by false None h = absurd (none-some o h)
    by false (Some d) h = descriptor_below s d o h

file_below : (s : Setup) (fd : ℤ) (o : ℕ) → file_of s fd ≡ Some o → o < length s.objects
file_below s fd o = by (number_in fd)
  where
    by : (x : Option ℕ) → option_and_then (file_numbered s) x ≡ Some o → o < length s.objects
    by None h = absurd (none-some o h)
    by (Some n) h = numbered_below s n o h

abbrev the_written : Setup → Machine → ℕ → Row → ℕ → Written
the_written s m r row o = record { row = r; file = o; first = begins m (moved row.phase) row.entry; count = moved row.phase }

written_below : (s : Setup) (m : Machine) (effect : Effect) (w : Written) → written_of s m effect ≡ Some w → w.file < length s.objects
written_below s m (Finished r row) w = by (row.entry.opcode == 23) (file_of s row.entry.fd) refl
  where
    by : (b : Bool) (x : Option ℕ) → file_of s row.entry.fd ≡ x
        → cond b (option_map (the_written s m r row) x) None ≡ Some w → w.file < length s.objects
    by false x e h = absurd (none-some w h)
    by true None e h = absurd (none-some w h)
    by true (Some o) e h =
        let same : o ≡ w.file = ap (λ (y : Written). y.file) (same_Some (the_written s m r row o) w h) in
        subst (λ (p : ℕ). p < length s.objects) same (file_below s row.entry.fd o e)
written_below s m _ w = λ h. absurd (none-some w h)

abbrev the_fsync : ℕ → ℕ → Fsync
the_fsync r o = record { row = r; file = o }

fsync_below : (s : Setup) (n : ℤ) (effect : Effect) (x : Fsync) → fsync_of s n effect ≡ Some x → x.file < length s.objects
fsync_below s n (Finished r row) x = by ((row.entry.opcode == 3) && has_ended_with n row.phase) (file_of s row.entry.fd) refl
  where
    by : (b : Bool) (f : Option ℕ) → file_of s row.entry.fd ≡ f → cond b (option_map (the_fsync r) f) None ≡ Some x → x.file < length s.objects
    by false f e h = absurd (none-some x h)
    by true None e h = absurd (none-some x h)
    by true (Some o) e h =
        let same : o ≡ x.file = ap (λ (y : Fsync). y.file) (same_Some (the_fsync r o) x h) in
        subst (λ (p : ℕ). p < length s.objects) same (file_below s row.entry.fd o e)
fsync_below s n _ x = λ h. absurd (none-some x h)

-- ---- WRITEs

abbrev writes_at : Setup → List Event → ℕ → List Written
writes_at s es i = option_to_list (written_at s es i)

writes_next : (s : Setup) (es : List Event) (i : ℕ) → written_before s es (suc i) ≡ written_before s es i ++ option_to_list (written_at s es i)
writes_next s es i =
    flat_map-append (writes_at s es) (numbers_below i) (i ∷ []) ∙ ap (λ (ws : List Written). written_before s es i ++ ws) (append-nil (writes_at s es i))

writes_more : (s : Setup) (es : List Event) (i : ℕ) → written_before s es (i + 1) ≡ written_before s es i ++ option_to_list (written_at s es i)
writes_more s es i = let up : i + 1 ≡ suc i = omega arith in ap (written_before s es) up ∙ writes_next s es i

-- Each WRITE of a run is to an object of the setup.
pub writes_below : (s : Setup) (es : List Event) (n : ℕ) → All (λ (w : Written). w.file < length s.objects) (written_before s es n)
writes_below s es zero = All-nil _
writes_below s es (suc n) =
    subst (All (λ (w : Written). w.file < length s.objects)) (sym (writes_next s es n)) (All-append (λ (w : Written). w.file < length s.objects) (written_before s es n) (writes_at s es n) (writes_below s es n) (by (written_at s es n) refl))
  where
    by : (o : Option Written) → written_at s es n ≡ o → All (λ (w : Written). w.file < length s.objects) (option_to_list o)
    by None e = All-nil _
    by (Some w) e = All-cons (λ (x : Written). x.file < length s.objects) w [] (written_below s (machine_at s es (n + 1)) (completed_at s es n) w e) (All-nil _)

-- ---- suspect bytes

-- A test for one fact, from a test for another that may stop to hold, and a test for a new reason.
decide_more : (P Q : Type 0) (a w g : Bool) → MatchBool a P (P → ⊥) → (w ≡ false → P → Q) → (g ≡ true → Q) → (Q → ((w ≡ false) × P) ⊎ (g ≡ true)) → MatchBool ((a && not w) || g) Q (Q → ⊥)
decide_more P Q true false g h stays comes splits = stays refl h
decide_more P Q true true true h stays comes splits = comes refl
decide_more P Q true true false h stays comes splits = λ q. elim (splits q) [ inl p ↦ clash (sym p.0) | inr e ↦ clash e ]
decide_more P Q false w true h stays comes splits = comes refl
decide_more P Q false w false h stays comes splits = λ q. elim (splits q) [ inl p ↦ h p.1 | inr e ↦ clash e ]

fsync_is : (x : Option Fsync) (o : ℕ) → is_fsync_of x o ≡ true → (r : ℕ) × (x ≡ Some (record { row = r; file = o }))
fsync_is None o e = absurd (clash e)
fsync_is (Some y) o e = (y.row, ap (λ (f : ℕ). Some (the_fsync y.row f)) (eqb-true y.file o e))

module _ (s : Setup) (es : List Event) (i o k : ℕ) where
  abbrev fails_now : Bool
  fails_now = is_fsync_of (fsync_at s es failed i) o && is_volatile_at (machine_at s es (i + 1)) o k

  suspect_stays : moves (written_at s es i) o k ≡ false → IsSuspect s es i o k → IsSuspect s es (i + 1) o k
  suspect_stays e h = record {
    event = h.event;
    row = h.row;
    earlier = let l : h.event < i = h.earlier in omega arith;
    fails = h.fails;
    volatile = h.volatile;
    unwritten = λ j l m.
        elim (cases_lt j i) [
          | inl below ↦ h.unwritten j l below
          | inr up ↦ let same : i ≡ j = omega arith in subst (λ (n : ℕ). moves (written_at s es n) o k ≡ false) same e
        ];
  }

  suspect_comes : fails_now ≡ true → IsSuspect s es (i + 1) o k
  suspect_comes e =
      let parts = and_parts (is_fsync_of (fsync_at s es failed i) o) (is_volatile_at (machine_at s es (i + 1)) o k) e in
      let found = fsync_is (fsync_at s es failed i) o parts.0 in
      record {
        event = i;
        row = found.0;
        earlier = omega arith;
        fails = found.1;
        volatile = parts.1;
        unwritten = λ j l m. absurd (omega arith);
      }

  suspect_splits : IsSuspect s es (i + 1) o k → ((moves (written_at s es i) o k ≡ false) × IsSuspect s es i o k) ⊎ (fails_now ≡ true)
  suspect_splits h = elim (cases_lt h.event i) [
    | inl l ↦ inl (
      h.unwritten i l (omega arith),
      record {
        event = h.event;
        row = h.row;
        earlier = l;
        fails = h.fails;
        volatile = h.volatile;
        unwritten = λ j a b. h.unwritten j a (omega arith);
      },
    )
    | inr up ↦
        let within : h.event < i + 1 = h.earlier in
        let same : h.event ≡ i = omega arith in
        let own : is_fsync_of (fsync_at s es failed h.event) o ≡ true = ap (λ (x : Option Fsync). is_fsync_of x o) h.fails ∙ eq-eqb o o refl in
        inr (and_from (is_fsync_of (fsync_at s es failed i) o) (is_volatile_at (machine_at s es (i + 1)) o k)
        (subst (λ (j : ℕ). is_fsync_of (fsync_at s es failed j) o ≡ true) same own) (subst (λ (j : ℕ). is_volatile_at (machine_at s es (j + 1)) o k ≡ true) same h.volatile))
  ]

-- No byte of an object outside the setup is suspect.
suspect_below : (s : Setup) (es : List Event) (i o k : ℕ) → IsSuspect s es i o k → o < length s.objects
suspect_below s es i o k h = fsync_below s failed (completed_at s es h.event) (the_fsync h.row o) h.fails

suspects_more : (s : Setup) (es : List Event) (i o k : ℕ) (old new : List (List ℕ)) → length old ≡ length s.objects → length new ≡ length old → MatchBool (is_marked old o k) (IsSuspect s es i o k) (IsSuspect s es i o k → ⊥)
    → (o < length old → is_marked new o k ≡ ((is_marked old o k && not (moves (written_at s es i) o k)) || (is_fsync_of (fsync_at s es failed i) o && is_volatile_at (machine_at s es (i + 1)) o k)))
    → MatchBool (is_marked new o k) (IsSuspect s es (i + 1) o k) (IsSuspect s es (i + 1) o k → ⊥)
suspects_more s es i o k old new count same h marks = elim (cases_lt o (length old)) [
  | inl l ↦
      subst (λ (b : Bool). MatchBool b (IsSuspect s es (i + 1) o k) (IsSuspect s es (i + 1) o k → ⊥)) (sym (marks l))
      (decide_more (IsSuspect s es i o k) (IsSuspect s es (i + 1) o k) (is_marked old o k) (moves (written_at s es i) o k) (fails_now s es i o k) h (suspect_stays s es i o k) (suspect_comes s es i o k) (suspect_splits s es i o k))
  | inr past ↦
      subst (λ (b : Bool). MatchBool b (IsSuspect s es (i + 1) o k) (IsSuspect s es (i + 1) o k → ⊥)) (sym (marked_past new o k (omega (arith, past, same))))
      (λ q. let l : o < length s.objects = suspect_below s es (i + 1) o k q in absurd (omega (arith, l, past, count)))
]

-- ---- FSYNCs that are retried

abbrev IsEarlier : Setup → List Event → ℕ → Finding → Type 0
IsEarlier s es n f = (f.moment < n) × Retries s es f

retried_step : (s : Setup) (es : List Event) (i : ℕ) (fs new gs : List Finding) → RetriedBefore s es i fs → ((r : ℕ) → IsRetried s es i r → Contains new (the_finding i FsyncRetried r)) → All (IsEarlier s es (i + 1)) new → gs ≡ fs ++ new → RetriedBefore s es (i + 1) gs
retried_step s es i fs new gs h there only e = subst (RetriedBefore s es (i + 1)) (sym e) (record {
  only = All-append (IsEarlier s es (i + 1)) fs new (All-weaker (IsEarlier s es i) (IsEarlier s es (i + 1)) (λ f p. let l : f.moment < i = p.0 in (omega arith, p.1)) fs h.only) only;
  whole = λ f l k.
      elim (cases_lt f.moment i) [
        | inl before ↦ Contains-append_left fs new f (h.whole f before k)
        | inr up ↦ let same : f.moment ≡ i = omega (arith, l, up) in Contains-append_right fs new f (here f.moment f.kind f.subject same k)
      ];
})
  where
    here : (n : ℕ) (kind : Kind) (r : ℕ) → n ≡ i → IsRetriedAt s es n kind r → Contains new (the_finding n kind r)
    here n FsyncRetried r same k = subst (λ (j : ℕ). Contains new (the_finding j FsyncRetried r)) (sym same) (there r (subst (λ (j : ℕ). IsRetried s es j r) same k))
    here n _ r same k = absurd k

retried_more : (s : Setup) (es : List Event) (i : ℕ) (sets : List (List ℕ)) (fs gs : List Finding) → ((o k : ℕ) → MatchBool (is_marked sets o k) (IsSuspect s es i o k) (IsSuspect s es i o k → ⊥))
    → RetriedBefore s es i fs → AddsRetried i (fsync_at s es good i) sets fs gs → RetriedBefore s es (i + 1) gs
retried_more s es i sets fs gs suspects h = by (fsync_at s es good i) refl
  where
    in_setup : (x : Fsync) (test : Bool) → fsync_at s es good i ≡ Some x → SaysMarked test sets x.file → gs ≡ fs ++ given test (the_finding i FsyncRetried x.row) → RetriedBefore s es (i + 1) gs
    in_setup x true e says added =
        let suspect : IsSuspect s es i x.file says.0 = MatchBool-at_true (IsSuspect s es i x.file says.0) (IsSuspect s es i x.file says.0 → ⊥) says.1 (suspects x.file says.0) in
        retried_step s es i fs (the_finding i FsyncRetried x.row ∷ []) gs h
        (λ r q. has_contains (the_finding i FsyncRetried x.row ∷ []) (the_finding i FsyncRetried r) (inl (ap (the_finding i FsyncRetried) (ap (λ (y : Fsync). y.row) (same_Some x (the_fsync r q.file) (sym e ∙ q.succeeds))))))
        (All-cons (IsEarlier s es (i + 1)) (the_finding i FsyncRetried x.row) [] (omega arith, record { file = x.file; byte = says.0; succeeds = e; suspect = suspect }) (All-nil (IsEarlier s es (i + 1)))) added
    in_setup x false e says added =
        retried_step s es i fs [] gs h
        (λ r q.
        let same : q.file ≡ x.file = ap (λ (y : Fsync). y.file) (same_Some (the_fsync r q.file) x (sym q.succeeds ∙ e)) in
        let none : is_marked sets q.file q.byte ≡ false = ap (λ (o : ℕ). is_marked sets o q.byte) same ∙ says q.byte in
        absurd (MatchBool-at_false (IsSuspect s es i q.file q.byte) (IsSuspect s es i q.file q.byte → ⊥) none (suspects q.file q.byte) q.suspect))
        (All-nil (IsEarlier s es (i + 1))) added

    by : (o : Option Fsync) → fsync_at s es good i ≡ o → AddsRetried i o sets fs gs → RetriedBefore s es (i + 1) gs
    by None e added =
        retried_step s es i fs [] gs h (λ r q. absurd (none-some (the_fsync r q.file) (sym e ∙ q.succeeds))) (All-nil (IsEarlier s es (i + 1))) (added ∙ sym (append-nil fs))
    by (Some x) e added = in_setup x added.0 e added.1 added.2

-- A retried FSYNC is completed by an event of the run.
pub retried_within : (s : Setup) (es : List Event) (f : Finding) → Retries s es f → f.moment < length es
retried_within s es f h = by f.moment f.kind f.subject h
  where
    retries : (i r : ℕ) → IsRetried s es i r → i < length es
    retries i r q = elim (cases_lt i (length es)) [
      | inl l ↦ l
      | inr past ↦
          let none : fsync_at s es good i ≡ None = ap (λ (o : Option Event). fsync_of s good (option_map_or (λ (e : Event). completed_by e (machine_at s es (i + 1))) o Nothing)) (slice_get_past es i past) in
          absurd (none-some (the_fsync r q.file) (sym none ∙ q.succeeds))
    ]

    by : (i : ℕ) (kind : Kind) (r : ℕ) → IsRetriedAt s es i kind r → i < length es
    by i FsyncRetried r k = retries i r k
    by i _ r k = absurd k

-- ---- one event

-- The completion by event i.
completed_is : (s : Setup) (es : List Event) (i : ℕ) (e : Event) (m : Machine) → slice_get es i ≡ Some e → m ≡ machine_at s es (i + 1) → completed_by e m ≡ completed_at s es i
completed_is s es i e m there here =
    ap (completed_by e) here ∙ ap (λ (o : Option Event). option_map_or (λ (x : Event). completed_by x (machine_at s es (i + 1))) o Nothing) (sym there)

-- An event that completes no READ, WRITE or FSYNC.
pub follows_nothing : (s : Setup) (i : ℕ) (m : Machine) (effect : Effect) (ws : List Written) (sets : List (List ℕ)) (fs : List Finding) → effect ≡ Nothing → Follows s i m effect ws ws sets sets fs fs
follows_nothing s i m effect ws sets fs e = subst (λ (d : Effect). Follows s i m d ws ws sets sets fs fs) (sym e) (record {
  writes = sym (append-nil ws);
  count = refl;
  marks = λ o k l. marks_both (is_marked sets o k) (is_marked sets o k) (is_marked sets o k) false false (marks_kept (is_marked sets o k)) (marks_same (is_marked sets o k));
  added = refl;
})

-- At the start of a run.
pub follows_none : (s : Setup) (es : List Event) (ws : List Written) (sets : List (List ℕ)) (fs : List Finding) → ws ≡ [] → length sets ≡ length s.objects → ((o k : ℕ) → is_marked sets o k ≡ false) → fs ≡ [] → FollowsFiles s es zero ws sets fs
follows_none s es ws sets fs w count none e = record {
  writes = w;
  count = count;
  suspects = λ o k. subst (λ (b : Bool). MatchBool b (IsSuspect s es zero o k) (IsSuspect s es zero o k → ⊥)) (sym (none o k)) (λ q. let l : q.event < zero = q.earlier in absurd (omega arith));
  retried = subst (RetriedBefore s es zero) (sym e) (record { only = All-nil (IsEarlier s es zero); whole = λ f l h. absurd (omega arith) });
}

-- After one more event.
pub follows_more : (s : Setup) (es : List Event) (i : ℕ) (e : Event) (m : Machine) (ws vs : List Written) (old new : List (List ℕ)) (fs gs : List Finding) → slice_get es i ≡ Some e → m ≡ machine_at s es (i + 1) → FollowsFiles s es i ws old fs
    → Follows s i m (completed_by e m) ws vs old new fs gs → FollowsFiles s es (i + 1) vs new gs
follows_more s es i e m ws vs old new fs gs there here h step = by
    (subst (λ (x : Machine). Follows s i x (completed_at s es i) ws vs old new fs gs) here (subst (λ (d : Effect). Follows s i m d ws vs old new fs gs) (completed_is s es i e m there here) step))
  where
    by : Follows s i (machine_at s es (i + 1)) (completed_at s es i) ws vs old new fs gs → FollowsFiles s es (i + 1) vs new gs
    by f = record {
      writes = f.writes ∙ ap (λ (xs : List Written). xs ++ option_to_list (written_at s es i)) h.writes ∙ sym (writes_more s es i);
      count = f.count ∙ h.count;
      suspects = λ o k. suspects_more s es i o k old new h.count f.count (h.suspects o k) (f.marks o k);
      retried = retried_more s es i old fs gs h.suspects h.retried f.added;
    }
