use Rattle.std.proofs.Common.{◌∙◌, ap, true}
use Rattle.places.proofs.Keeping.{noted_keeps}
use Rattle.ring_words.specs.declared.flag.RingFlag.TheVariants.{NeedWakeup, CqOverflow}
use Rattle.ring_words.specs.Rings.{has_flag}
use Rattle.ring_words.proofs.Flags.{flag_set, overflow_kept}
use Rattle.sqpoll.specs.declared.poller.Poller.TheVariants.{Asleep}
use Rattle.sqpoll.proofs.Polled.{keeps_both}
use Rattle.sqpoll.proofs.poller.Poller.sleep.Goals as goal

pub returns-clause-flag : goal.returns-clause-flag
returns-clause-flag c = ap (λ s. has_flag s.flags NeedWakeup) c.set_flag.ensures.next ∙ flag_set c.args.submissions.now.flags NeedWakeup true

pub returns-clause-overflow : goal.returns-clause-overflow
returns-clause-overflow c = ap (λ s. has_flag s.flags CqOverflow) c.set_flag.ensures.next ∙ overflow_kept c.args.submissions.now.flags true

pub returns-clause-keeps : goal.returns-clause-keeps
returns-clause-keeps c = keeps_both _ Asleep _ _ _ _ _ (rw c.may_take.ensures at c.note_stage.ensures.noted) c.set_flag.ensures.keeps

pub returns-clause-named : goal.returns-clause-named
returns-clause-named c p e = noted_keeps _ _ _ _ c.note_stage.ensures.noted p (c.set_flag.ensures.named p e)
