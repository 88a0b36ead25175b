use Rattle.ring_words.proofs.Common.{refl, keeps_noted}
use Rattle.ring_words.proofs.Seen.{sub_seen_flags}
use Rattle.ring_words.proofs.sub_ring.SubRing.set_flag.Goals as goal

pub returns-then-on-clause-keeps : goal.returns-then-on-clause-keeps
returns-then-on-clause-keeps c = rw (← c.self.view_is) (keeps_noted _ _ _ _ _ _ _ refl c.note_word.ensures.noted (sub_seen_flags _ _))

pub returns-else-on-clause-keeps : goal.returns-else-on-clause-keeps
returns-else-on-clause-keeps c = rw (← c.self.view_is) (keeps_noted _ _ _ _ _ _ _ refl c.note_word.ensures.noted (sub_seen_flags _ _))
