use Rattle.timeline.proofs.observing.observe.Given as goal

abbrev pub ghosts-observe_as-K-StagesMoment : goal.ghosts-observe_as-K-StagesMoment
ghosts-observe_as-K-StagesMoment a = record { at = a.range.from }

abbrev pub ghosts-observe_as-K-Ranged : goal.ghosts-observe_as-K-Ranged
ghosts-observe_as-K-Ranged a = record { range = a.range }
