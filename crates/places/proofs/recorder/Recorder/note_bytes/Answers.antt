use Rattle.std.proofs.Common.{◌≡◌}
use Rattle.std.specs.Prelude.{None}
use Rattle.places.specs.View.{named}
use Rattle.std.proofs.Common.{◌<◌, ◌+◌, length, ℕ}
use Rattle.places.specs.Runs.{place_in}
use Rattle.places.specs.All.{all_changes}
use Rattle.places.proofs.Sound.{fresh_bytes, fresh_odd, bytes_sound, bytes_noted}
use Rattle.places.proofs.recorder.Recorder.note_bytes.Goals as goal

pub note_bytes-requires-clause-fresh : goal.note_bytes-requires-clause-fresh
note_bytes-requires-clause-fresh c i h = fresh_bytes c.self.inside.numbers.notes c.self.inside.completions.notes c.self.inside.rows.notes c.self.inside.rest (place_in c.args.region (c.args.start + i)) (rw (← c.self.view_is) at (c.requires.fresh i h))

pub invariant_of-self-2 : goal.invariant_of-self-2
invariant_of-self-2 c =
    let fresh : (i : ℕ) → i < length c.args.old.now → named (all_changes c.self.inside.numbers.notes c.self.inside.completions.notes c.self.inside.rows.notes c.self.inside.rest) (place_in c.args.region (c.args.start + i)) ≡ None = rw (← c.self.view_is) at c.requires.fresh in (
      bytes_sound c.self.inside.numbers c.self.inside.completions c.self.inside.rows c.self.inside.rest c.self.inside.room c.self.invariant.0 c.note_bytes.new.self c.args.region c.args.start c.args.old.now c.in_ok-note_bytes.ensures.ok fresh c.note_bytes.ensures.odd (c.note_bytes.ensures.kept c.self.invariant.0.kept) c.note_bytes.ensures.spare,
      c.self.invariant.1,
    )

pub returns-clause-ok : goal.returns-clause-ok
returns-clause-ok c =
    let fresh : (i : ℕ) → i < length c.args.old.now → named (all_changes c.self.inside.numbers.notes c.self.inside.completions.notes c.self.inside.rows.notes c.self.inside.rest) (place_in c.args.region (c.args.start + i)) ≡ None = rw (← c.self.view_is) at c.requires.fresh in
    rw (← c.self.view_is) (bytes_noted c.self.inside.numbers.notes c.self.inside.completions.notes c.self.inside.rows.notes c.self.inside.rest c.note_bytes.new.self c.args.region c.args.start c.args.old.now c.in_ok-note_bytes.ensures.ok c.note_bytes.ensures.odd (fresh_odd c.self.inside.numbers c.self.inside.completions c.self.inside.rows c.self.inside.rest c.self.inside.room c.self.invariant.0 c.args.region c.args.start c.args.old.now fresh))
