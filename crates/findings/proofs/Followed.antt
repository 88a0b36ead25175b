-- What a search has seen, after one more event and at the end.
use Rattle.findings.proofs.Common.{◌≡◌, ℕ, zero, suc, ◌+◌, ◌<◌, ◌≤◌, List, [], ◌++◌, length, map, get_or, slice_get, Bool, true, false, Option, Some, None, refl, option_map, option_map_or, All, Contains, flat_map, Row, Change, NamesOnce, Event, Setup, Machine, after, start, machine_at, view, WellFormed, SaysOver, IsAt, IsAfter, Finding, Kind, Ended, Overflow, Conflict, Queued, Cancel, TimespecInUse, instruction_at, Before, Written, Watch, inl, inr, sym, ap, ◌∙◌, subst, arith, cases_lt, cases_order, All-nil, All-append, All-weaker, All-map, All-contains, Contains-append_left, Contains-append_right, Contains-get_or, slice_get_past, clash, Circumstances, circumstances, overflows, done_as, done_at, completed_by, EndsOver, occurs, occurs_at, is_lost, judged_kind, Lasts, IsLeft, Retries, IsFinding, IsReportOf, Rises, noted_by, of_change, of_overflow, of_step, of_cancel, of_event, of_effect, after_notes, Covers, Adds, FoundBefore, RetriedBefore, IsLasting, AreLeft, IsAll, judged, all_at_end, SameFindings, facts_before, NotesFacts, HasSearched, Follows, FollowsFiles, Judges, advanced, watched, of_lasting}
use Rattle.finding_kinds.specs.declared.kind.Kind.TheVariants.{Step}
use Rattle.findings.proofs.{Candidates.covers_more, Candidates.covers_none, Groups.the_finding, Judging.judged_at_end, Lasting.advanced_more, Lasting.has_map, Lasting.lasting_reported, Lasting.watched_first, Left.left_reported, Noted.changes_alike, Noted.noted_circumstances, Shown.IsShown, Shown.ended_there, Shown.event_cancel, Shown.event_overflow, Shown.event_shown, Shown.event_step, Shown.queued_there, Shown.record_shown, Suspecting.follows_more, Suspecting.retried_within, Threads.threads_first, Threads.threads_more, WouldConflict.effect_done, WouldConflict.effect_there, WouldConflict.timespec_there}
use Rattle.finding_rules.proofs.Members.{Has, contains_has, has_contains, has_left, has_right}

-- A finding whose event is before moment n.
abbrev IsEarly : Setup → List Event → ℕ → Finding → Type 0
IsEarly s es n f = (f.moment < n) × (occurs_at s es f.moment f.kind f.subject ≡ true)

found_none : (s : Setup) (es : List Event) → FoundBefore s es zero []
found_none s es = record { only = All-nil (IsEarly s es zero); whole = λ f l h. absurd (omega arith) }

-- At the start of a run.
pub seen_none : (s : Setup) (es : List Event) (m : Machine) (fs : List Finding) (numbers : List ℕ) (ws : List Watch) (writes : List Written) (sets : List (List ℕ)) (retried : List Finding) → m ≡ start s → fs ≡ [] → ws ≡ map (advanced s m zero) (watched s) → length es ≤ 1048576
    → FollowsFiles s es zero writes sets retried → HasSearched s es zero fs numbers ws writes sets retried
seen_none s es m fs numbers ws writes sets retried e h w l files = record {
  most = l;
  found = subst (FoundBefore s es zero) (sym h) (found_none s es);
  covered = covers_none numbers;
  watching = w ∙ ap (λ (x : Machine). map (advanced s x zero) (watched s)) e ∙ watched_first s es;
  threads = threads_first s;
  files = files;
}

-- Whether an event is a finding.
abbrev is_shown : Setup → Machine → Event → Kind → ℕ → Bool
is_shown s m e kind n = occurs s kind m e (after m e) n

-- The findings at a moment are those of its event.
at_moment : (s : Setup) (es : List Event) (i : ℕ) (e : Event) (kind : Kind) (r : ℕ) → slice_get es i ≡ Some e → occurs_at s es i kind r ≡ is_shown s (machine_at s es i) e kind r
at_moment s es i e kind r h = ap (λ (o : Option Event). option_map_or (λ (x : Event). is_shown s (machine_at s es i) x kind r) o false) h

-- Replaces the moment of a finding by an equal one.
moved : (s : Setup) (es : List Event) (i : ℕ) (f : Finding) → f.moment ≡ i → occurs_at s es f.moment f.kind f.subject ≡ occurs_at s es i f.kind f.subject
moved s es i f h = ap (λ (k : ℕ). occurs_at s es k f.kind f.subject) h

-- The findings that an event adds: about requests, and about conflicts.
abbrev of_rows : Setup → ℕ → Machine → Event → Machine → List Change → List Finding
of_rows s i before e next_state cs = flat_map (of_change i (circumstances s before e next_state) next_state.table) cs

abbrev of_effects : Setup → ℕ → Machine → Event → Machine → List ℕ → List Finding
of_effects s i before e next_state numbers = of_effect i s next_state (done_at s before e next_state) numbers

found_more : (s : Setup) (es : List Event) (i : ℕ) (e : Event) (fs gs : List Finding) (numbers now : List ℕ) → slice_get es i ≡ Some e → FoundBefore s es i fs → Covers (after (machine_at s es i) e).table now
    → Adds s i (machine_at s es i) e (after (machine_at s es i) e) fs gs numbers now → FoundBefore s es (i + 1) gs
found_more s es i e fs gs numbers now there h covered adds = record {
  only = subst (All (IsEarly s es (i + 1))) (sym adds.added)
      (All-append (IsEarly s es (i + 1)) ((fs ++ of_rows s i (machine_at s es i) e (after (machine_at s es i) e) adds.past) ++ of_event s i (machine_at s es i) e (after (machine_at s es i) e)) (of_effects s i (machine_at s es i) e (after (machine_at s es i) e) now)
      (All-append (IsEarly s es (i + 1)) (fs ++ of_rows s i (machine_at s es i) e (after (machine_at s es i) e) adds.past) (of_event s i (machine_at s es i) e (after (machine_at s es i) e))
      (All-append (IsEarly s es (i + 1)) fs (of_rows s i (machine_at s es i) e (after (machine_at s es i) e) adds.past) earlier rows_reported) rings_reported) effects_reported);
  whole = λ f l k. subst (λ (xs : List Finding). Contains xs f) (sym adds.added) (member f l k);
}
  where
    earlier : All (IsEarly s es (i + 1)) fs
    earlier = All-weaker (IsEarly s es i) (IsEarly s es (i + 1)) (λ f p. let l : f.moment < i = p.0 in (omega arith, p.1)) fs h.only

    reported : (f : Finding) → f.moment ≡ i → is_shown s (machine_at s es i) e f.kind f.subject ≡ true → IsEarly s es (i + 1) f
    reported f same k = (omega arith, moved s es i f same ∙ at_moment s es i e f.kind f.subject there ∙ k)

    shown_reported : (xs : List Finding) → All (IsShown s i (machine_at s es i) e (after (machine_at s es i) e)) xs → All (IsEarly s es (i + 1)) xs
    shown_reported = All-weaker (IsShown s i (machine_at s es i) e (after (machine_at s es i) e)) (IsEarly s es (i + 1)) (λ f p. reported f p.0 p.1)

    rows_reported : All (IsEarly s es (i + 1)) (of_rows s i (machine_at s es i) e (after (machine_at s es i) e) adds.past)
    rows_reported = shown_reported _ (record_shown s i (machine_at s es i) e (after (machine_at s es i) e) adds.past adds.exact adds.once)

    rings_reported : All (IsEarly s es (i + 1)) (of_event s i (machine_at s es i) e (after (machine_at s es i) e))
    rings_reported = shown_reported _ (event_shown s i (machine_at s es i) e (after (machine_at s es i) e))

    effects_reported : All (IsEarly s es (i + 1)) (of_effects s i (machine_at s es i) e (after (machine_at s es i) e) now)
    effects_reported = effect_done (IsEarly s es (i + 1)) i s (after (machine_at s es i) e) (done_at s (machine_at s es i) e (after (machine_at s es i) e)) now (λ kind q h. reported (the_finding i (Conflict kind) q) refl h) (λ slot h. reported (the_finding i TimespecInUse slot) refl h)

    back : (f : Finding) → f.moment ≡ i → (xs : List Finding) → Has xs (record { moment = i; kind = f.kind; subject = f.subject }) → Has xs f
    back f same xs has = subst (λ (k : ℕ). Has xs (record { moment = k; kind = f.kind; subject = f.subject })) (sym same) has

    in_rows : (f : Finding) → Has (of_rows s i (machine_at s es i) e (after (machine_at s es i) e) adds.past) f → Has (((fs ++ of_rows s i (machine_at s es i) e (after (machine_at s es i) e) adds.past) ++ of_event s i (machine_at s es i) e (after (machine_at s es i) e)) ++ of_effects s i (machine_at s es i) e (after (machine_at s es i) e) now) f
    in_rows f h = has_left ((fs ++ of_rows s i (machine_at s es i) e (after (machine_at s es i) e) adds.past) ++ of_event s i (machine_at s es i) e (after (machine_at s es i) e)) _ f (has_left (fs ++ of_rows s i (machine_at s es i) e (after (machine_at s es i) e) adds.past) _ f (has_right fs _ f h))

    in_event : (f : Finding) → Has (of_event s i (machine_at s es i) e (after (machine_at s es i) e)) f → Has (((fs ++ of_rows s i (machine_at s es i) e (after (machine_at s es i) e) adds.past) ++ of_event s i (machine_at s es i) e (after (machine_at s es i) e)) ++ of_effects s i (machine_at s es i) e (after (machine_at s es i) e) now) f
    in_event f h = has_left ((fs ++ of_rows s i (machine_at s es i) e (after (machine_at s es i) e) adds.past) ++ of_event s i (machine_at s es i) e (after (machine_at s es i) e)) _ f (has_right (fs ++ of_rows s i (machine_at s es i) e (after (machine_at s es i) e) adds.past) _ f h)

    occurs_there : (kind : Kind) (n : ℕ) → is_shown s (machine_at s es i) e kind n ≡ true → Has (((fs ++ of_rows s i (machine_at s es i) e (after (machine_at s es i) e) adds.past) ++ of_event s i (machine_at s es i) e (after (machine_at s es i) e)) ++ of_effects s i (machine_at s es i) e (after (machine_at s es i) e) now) (the_finding i kind n)
    occurs_there (Ended kind) n k = in_rows _ (ended_there s i (machine_at s es i) e (after (machine_at s es i) e) adds.past kind n adds.exact k)
    occurs_there (Queued kind) n k = in_rows _ (queued_there s i (machine_at s es i) e (after (machine_at s es i) e) adds.past kind n adds.exact k)
    occurs_there Overflow n k = in_event _ (event_overflow s i (machine_at s es i) e (after (machine_at s es i) e) n k)
    occurs_there (Step kind) n k = in_event _ (event_step s i (machine_at s es i) e (after (machine_at s es i) e) kind n k)
    occurs_there (Cancel kind) n k = in_event _ (event_cancel s i (machine_at s es i) e (after (machine_at s es i) e) kind n k)
    occurs_there (Conflict kind) n k = has_right ((fs ++ of_rows s i (machine_at s es i) e (after (machine_at s es i) e) adds.past) ++ of_event s i (machine_at s es i) e (after (machine_at s es i) e)) _ _ (effect_there i s (after (machine_at s es i) e) (done_at s (machine_at s es i) e (after (machine_at s es i) e)) now kind n covered k)
    occurs_there TimespecInUse n k = has_right ((fs ++ of_rows s i (machine_at s es i) e (after (machine_at s es i) e) adds.past) ++ of_event s i (machine_at s es i) e (after (machine_at s es i) e)) _ _ (timespec_there i s (after (machine_at s es i) e) (done_at s (machine_at s es i) e (after (machine_at s es i) e)) now n k)
    occurs_there _ n k = absurd (clash k)

    now_reported : (f : Finding) → f.moment ≡ i → occurs_at s es f.moment f.kind f.subject ≡ true → Has (((fs ++ of_rows s i (machine_at s es i) e (after (machine_at s es i) e) adds.past) ++ of_event s i (machine_at s es i) e (after (machine_at s es i) e)) ++ of_effects s i (machine_at s es i) e (after (machine_at s es i) e) now) f
    now_reported f same k = back f same _ (occurs_there f.kind f.subject (sym (at_moment s es i e f.kind f.subject there) ∙ sym (moved s es i f same) ∙ k))

    member : (f : Finding) → f.moment < i + 1 → occurs_at s es f.moment f.kind f.subject ≡ true
        → Contains (((fs ++ of_rows s i (machine_at s es i) e (after (machine_at s es i) e) adds.past) ++ of_event s i (machine_at s es i) e (after (machine_at s es i) e)) ++ of_effects s i (machine_at s es i) e (after (machine_at s es i) e) now) f
    member f l k =
        elim (cases_order f.moment i) [
          | inl same ↦ has_contains _ f (now_reported f same k)
          | inr (inl before) ↦ Contains-append_left ((fs ++ of_rows s i (machine_at s es i) e (after (machine_at s es i) e) adds.past) ++ of_event s i (machine_at s es i) e (after (machine_at s es i) e)) _ f
              (Contains-append_left (fs ++ of_rows s i (machine_at s es i) e (after (machine_at s es i) e) adds.past) _ f (Contains-append_left fs _ f (h.whole f before k)))
          | inr (inr past) ↦ absurd (omega arith)
        ]

-- The facts that were noted before an event.
facts_are : (s : Setup) (es : List Event) (i : ℕ) (e : Event) (b : Before) → slice_get es i ≡ Some e → NotesFacts s es i b → facts_before s (machine_at s es i) e ≡ b
facts_are s es i e b there h = ap (λ (o : Option Before). option_map_or (λ (x : Before). x) o b) (sym (ap (option_map (facts_before s (machine_at s es i))) there) ∙ h)

-- What an event adds to the findings, by the facts that were noted before it.
abbrev added_by : Setup → ℕ → (ℕ → Row → Circumstances) → Before → Event → Machine → List Change → List Finding → List ℕ → List Finding
added_by s i circumstances_of b e n past fs now =
    ((fs ++ flat_map (of_change i circumstances_of n.table) past)
    ++ (of_overflow i b.overflows (overflows n) ++ (of_step i b.changes (instruction_at s e b.counter) e n ++ of_cancel i b.cancel n.table)))
    ++ of_effect i s n (done_as e (instruction_at s e b.counter) n) now

-- After one more event.
pub seen_more : (s : Setup) (es : List Event) (i : ℕ) (n : Machine) (e : Event) (b : Before) (past : List Change) (fs gs : List Finding) (numbers now : List ℕ) (ws xs : List Watch) (writes : List Written) (sets : List (List ℕ)) (retried : List Finding) (writes_now : List Written) (sets_now : List (List ℕ)) (retried_now : List Finding)
    → HasSearched s es i fs numbers ws writes sets retried → NotesFacts s es i b → IsAfter s es i e past n → WellFormed n
    → gs ≡ added_by s i (noted_by s past b e n) b e n past fs now → NamesOnce past → now ≡ after_notes (view n) numbers past
    → xs ≡ map (advanced s n (i + 1)) ws → Follows s i n (completed_by e n) writes writes_now sets sets_now retried retried_now → HasSearched s es (i + 1) gs now xs writes_now sets_now retried_now
seen_more s es i n e b past fs gs numbers now ws xs writes sets retried writes_now sets_now retried_now h facts at formed added once further w step = record {
  most = h.most;
  found = found_more s es i e fs gs numbers now at.there h.found (subst (λ (x : Machine). Covers x.table now) next_state covered) (subst (λ (x : Machine). Adds s i (machine_at s es i) e x fs gs numbers now) next_state adds);
  covered = subst (λ (x : Machine). Covers x.table now) at.at.here covered;
  watching = w ∙ ap (λ (ys : List Watch). map (advanced s n (i + 1)) ys) h.watching ∙ advanced_more s es i (i + 1) n (watched s) one at.at.here;
  threads = threads_more s es i e past n at h.threads;
  files = follows_more s es i e n writes writes_now sets sets_now retried retried_now at.there at.at.here h.files step;
}
  where
    one : i + 1 ≡ suc i
    one = omega arith

    next_state : n ≡ after (machine_at s es i) e
    next_state = at.link.next.changed

    same_facts : facts_before s (machine_at s es i) e ≡ b
    same_facts = facts_are s es i e b at.there facts

    circumstances_of : (r : ℕ) (row : Row) → slice_get n.table r ≡ Some row → noted_by s past (facts_before s (machine_at s es i) e) e n r row ≡ circumstances s (machine_at s es i) e n r row
    circumstances_of r row k =
        noted_circumstances s (machine_at s es i) e n past r row at.exact once formed.mostly.table.chained k

    rows_same : flat_map (of_change i (noted_by s past (facts_before s (machine_at s es i) e) e n) n.table) past ≡ flat_map (of_change i (circumstances s (machine_at s es i) e n) n.table) past
    rows_same = changes_alike i (noted_by s past (facts_before s (machine_at s es i) e) e n) (circumstances s (machine_at s es i) e n) n.table circumstances_of past

    covered : Covers n.table now
    covered = covers_more (machine_at s es i) n past numbers now h.covered at.exact further

    adds : Adds s i (machine_at s es i) e n fs gs numbers now
    adds = record {
      past = past;
      exact = at.exact;
      once = once;
      added =
          added ∙ ap (λ (x : Before). added_by s i (noted_by s past x e n) x e n past fs now) (sym same_facts)
          ∙ ap (λ (ys : List Finding). ((fs ++ ys) ++ of_event s i (machine_at s es i) e n) ++ of_effect i s n (done_at s (machine_at s es i) e n) now) rows_same;
      further = further;
    }

-- The moment of an event's finding is below the number of events.
within : (s : Setup) (es : List Event) (f : Finding) → occurs_at s es f.moment f.kind f.subject ≡ true → f.moment < length es
within s es f h =
    elim (cases_lt f.moment (length es)) [
      | inl l ↦ l
      | inr p ↦
          let none : slice_get es f.moment ≡ None = slice_get_past es f.moment p in
          let unreported : occurs_at s es f.moment f.kind f.subject ≡ false =
          ap (λ (o : Option Event). option_map_or (λ (x : Event). is_shown s (machine_at s es f.moment) x f.kind f.subject) o false) none
          in
          absurd (clash (sym unreported ∙ h))
    ]

-- A finding of an event, with its verdict.
occurs_judged : (s : Setup) (es : List Event) (f : Finding) → occurs_at s es f.moment f.kind f.subject ≡ true → IsFinding s es (judged (is_lost s es) f)
occurs_judged s es f h = inl (f.kind, h, refl)

shown_there : (s : Setup) (es : List Event) (fs : List Finding) (f : Finding) (kind : Kind) → FoundBefore s es (length es) fs → occurs_at s es f.moment kind f.subject ≡ true → f.kind ≡ judged_kind (is_lost s es) kind f.subject → Contains (map (judged (is_lost s es)) fs) f
shown_there s es fs f kind h shown same =
    let there : Contains fs (the_finding f.moment kind f.subject) = h.whole (the_finding f.moment kind f.subject) (within s es (the_finding f.moment kind f.subject) shown) shown in
    let mapped : Has (map (judged (is_lost s es)) fs) (judged (is_lost s es) (the_finding f.moment kind f.subject)) = has_map (judged (is_lost s es)) fs (the_finding f.moment kind f.subject) (contains_has fs (the_finding f.moment kind f.subject) there) in
    subst (λ (k : Kind). Contains (map (judged (is_lost s es)) fs) (the_finding f.moment k f.subject)) (sym same) (has_contains (map (judged (is_lost s es)) fs) (judged (is_lost s es) (the_finding f.moment kind f.subject)) mapped)

-- The findings of events, of conditions that last, of things left at the end, and of FSYNCs that
-- are retried are all findings.
pub all_found : (s : Setup) (es : List Event) (fs ls us rs gs : List Finding) → FoundBefore s es (length es) fs → IsLasting s es ls → AreLeft s es us → RetriedBefore s es (length es) rs → gs ≡ ((map (judged (is_lost s es)) fs ++ ls) ++ us) ++ rs → IsAll s es gs
all_found s es fs ls us rs gs h lasting left retried e = subst (IsAll s es) (sym e) (record {
  only = All-append (IsFinding s es) ((map (judged (is_lost s es)) fs ++ ls) ++ us) rs
      (All-append (IsFinding s es) (map (judged (is_lost s es)) fs ++ ls) us
      (All-append (IsFinding s es) (map (judged (is_lost s es)) fs) ls
      (All-map (IsFinding s es) (judged (is_lost s es)) fs (All-weaker (IsEarly s es (length es)) (λ (f : Finding). IsFinding s es (judged (is_lost s es) f)) (λ f p. occurs_judged s es f p.1) fs h.only))
      (All-weaker (Lasts s es) (IsFinding s es) (λ f p. inr (inl p)) ls lasting.only))
      (All-weaker (IsLeft s es) (IsFinding s es) (λ f p. inr (inr (inl p))) us left.only))
      (All-weaker (λ (f : Finding). (f.moment < length es) × Retries s es f) (IsFinding s es) (λ f p. inr (inr (inr p.1))) rs retried.only);
  whole = λ f k. elim k [
    | inl shown ↦ before_left f (Contains-append_left (map (judged (is_lost s es)) fs) ls f (shown_there s es fs f shown.0 h shown.1 shown.2))
    | inr (inl began) ↦ before_left f (Contains-append_right (map (judged (is_lost s es)) fs) ls f (lasting.whole f began))
    | inr (inr (inl unfinished)) ↦ Contains-append_left ((map (judged (is_lost s es)) fs ++ ls) ++ us) rs f (Contains-append_right (map (judged (is_lost s es)) fs ++ ls) us f (left.whole f unfinished))
    | inr (inr (inr again)) ↦ Contains-append_right ((map (judged (is_lost s es)) fs ++ ls) ++ us) rs f (retried.whole f (retried_within s es f again) again)
  ];
})
  where
    before_left : (f : Finding) → Contains (map (judged (is_lost s es)) fs ++ ls) f → Contains (((map (judged (is_lost s es)) fs ++ ls) ++ us) ++ rs) f
    before_left f c = Contains-append_left ((map (judged (is_lost s es)) fs ++ ls) ++ us) rs f (Contains-append_left (map (judged (is_lost s es)) fs ++ ls) us f c)

-- At the end of a run, with the findings of what lasts or is left.
pub seen_all : (s : Setup) (es : List Event) (m : Machine) (over : Bool) (fs js ks gs : List Finding) (numbers : List ℕ) (ws xs : List Watch) (writes vs : List Written) (sets : List (List ℕ)) (retried rs : List Finding)
    → HasSearched s es (length es) fs numbers ws writes sets retried → IsAt s es (length es) m → SaysOver over m → vs ≡ writes → Judges s m vs fs js → xs ≡ ws
    → ks ≡ (js ++ flat_map (of_lasting over m) xs) ++ all_at_end s (length es) over m → rs ≡ retried → gs ≡ ks ++ rs → IsAll s es gs
seen_all s es m over fs js ks gs numbers ws xs writes vs sets retried rs h at says v j w e r g =
    all_found s es fs _ _ retried gs h.found (lasting_reported s es over m xs ends at.here (w ∙ h.watching)) (left_reported s es over m ends at.here) h.files.retried
    (g ∙ ap (λ (ys : List Finding). ks ++ ys) r ∙ ap (λ (ys : List Finding). ys ++ retried) (e ∙ ap (λ (ys : List Finding). (ys ++ flat_map (of_lasting over m) xs) ++ all_at_end s (length es) over m) judged_now))
  where
    ends : EndsOver s es over
    ends = subst (λ (x : Machine). SaysOver over x) at.here says

    judged_now : js ≡ map (judged (is_lost s es)) fs
    judged_now = judged_at_end s es m writes sets retried fs js at.here h.files (subst (λ (us : List Written). Judges s m us fs js) v j)

-- The machine at the end has at most the threads of the setup.
pub few_threads : (s : Setup) (es : List Event) (m : Machine) (fs : List Finding) (numbers : List ℕ) (ws : List Watch) (writes : List Written) (sets : List (List ℕ)) (retried : List Finding) → HasSearched s es (length es) fs numbers ws writes sets retried → IsAt s es (length es) m → length m.threads ≤ length s.threads
few_threads s es m fs numbers ws writes sets retried h at = let here = ap (λ (x : Machine). length x.threads) at.here in let same = h.threads in omega (arith, here, same)

-- All findings, sorted, are the report.
pub report_of : (s : Setup) (es : List Event) (fs gs : List Finding) → IsAll s es fs → SameFindings fs gs → Rises gs → IsReportOf s es gs
report_of s es fs gs h same order = record {
  only = λ k d l. All-contains (IsFinding s es) fs (get_or gs k d) h.only (same.back (get_or gs k d) (Contains-get_or gs k d l));
  whole = λ f k. same.there f (h.whole f k);
  order = order;
}
