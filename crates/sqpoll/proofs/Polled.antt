-- Facts about the poller and the submission ring that has its flag.
use Rattle.std.proofs.Common.{◌≡◌, Bool, true, false, refl, ap, List}
use Rattle.std.specs.Prelude.{Some, unwrap_or}
use Rattle.places.specs.declared.place.Place.{Place}
use Rattle.places.specs.declared.place.Place.TheVariants.{SubmissionHead, SubmissionTail, SubmissionFlags, SubmissionDropped, Array, Slot, PollerStage}
use Rattle.places.specs.declared.value.Value.TheVariants.{Awake as AwakeValue}
use Rattle.places.specs.declared.value.Change.{Change}
use Rattle.places.specs.Places.{same_place}
use Rattle.places.specs.View.{named, undo, put_at, Keeps, Noted}
use Rattle.places.proofs.Keeping.{keeps_noted, keeps_then}
use Rattle.ring_words.specs.Rings.{SubWords, sub_owns, sub_seen}
use Rattle.sqpoll.specs.declared.poller.Poller.{Poller}
use Rattle.sqpoll.specs.Pollers.{is_awake, poller_seen, polling_of, polling_owns, polling_seen}

pub seen_poller : (p r : Poller) (b : Bool) → is_awake r ≡ b → (q : Place) → poller_seen r q ≡ put_at (poller_seen p) PollerStage (Some (AwakeValue b)) q
unfolding same_place
seen_poller p r b h PollerStage = ap (λ a. Some (AwakeValue a)) h
seen_poller p r b h _ = refl

seen_stage : (p r : Poller) (s : SubWords) (q : Place) → polling_seen (polling_of r s) q ≡ put_at (polling_seen (polling_of p s)) PollerStage (Some (AwakeValue (is_awake r))) q
unfolding same_place
seen_stage p r s PollerStage = refl
seen_stage p r s _ = refl

lift_submissions : (p : Poller) (s r : SubWords) (cs ds : List Change) → Keeps sub_owns (sub_seen s) (sub_seen r) cs ds → Keeps polling_owns (polling_seen (polling_of p s)) (polling_seen (polling_of p r)) cs ds
lift_submissions p s r cs ds h = record { back = back; others = others }
  where
    back : (q : Place) → polling_owns q ≡ true → undo (polling_seen (polling_of p r)) ds q ≡ undo (polling_seen (polling_of p s)) cs q
    back SubmissionHead o = h.back SubmissionHead refl
    back SubmissionTail o = h.back SubmissionTail refl
    back SubmissionFlags o = h.back SubmissionFlags refl
    back SubmissionDropped o = h.back SubmissionDropped refl
    back (Array i) o = h.back (Array i) refl
    back (Slot i) o = h.back (Slot i) refl
    back q o = ap (λ n. unwrap_or n (polling_seen (polling_of p s) q)) (h.others q refl)

    others : (q : Place) → polling_owns q ≡ false → named ds q ≡ named cs q
    others SubmissionHead o = absurd cc
    others SubmissionTail o = absurd cc
    others SubmissionFlags o = absurd cc
    others SubmissionDropped o = absurd cc
    others (Array i) o = absurd cc
    others (Slot i) o = absurd cc
    others q o = h.others q refl

-- The poller's state is recorded first, then the flags word.
pub keeps_both : (p r : Poller) (s n : SubWords) (cs ds es : List Change) → Noted cs ds PollerStage (Some (AwakeValue (is_awake p))) → Keeps sub_owns (sub_seen s) (sub_seen n) ds es → Keeps polling_owns (polling_seen (polling_of p s)) (polling_seen (polling_of r n)) cs es
keeps_both p r s n cs ds es h k =
    keeps_then polling_owns _ (polling_seen (polling_of r s)) _ cs ds es
    (keeps_noted polling_owns (polling_seen (polling_of p s)) (polling_seen (polling_of r s)) cs ds PollerStage (Some (AwakeValue (is_awake r))) refl h (seen_stage p r s))
    (lift_submissions r s n ds es k)
