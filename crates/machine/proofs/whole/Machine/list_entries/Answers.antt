use Rattle.machine.proofs.Common.{◌∙◌, sym, ap, [], ◌∷◌, ◌++◌, entries_at, sub_list}
use Rattle.machine.proofs.{TakingWords.one_more, TakingWords.entries-named, TakingWords.entries-skipped, whole.Machine.list_entries.Goals.in-Some+in_ok-push, whole.Machine.list_entries.Goals.in_default}
use Rattle.machine.proofs.whole.Machine.list_entries.Goals as goal

pub loop-i-preserved : goal.loop-i-preserved
loop-i-preserved c =
    let slots = c.args.self.now.submissions.slots in
    let words = sub_list c.args.self.now.submissions in
    elim c.match-entry.branch [
      | in-Some+in_ok-push w ↦
          rw w.entries-is
          (w.in_ok-push.ensures.items ∙ ap (λ es. es ++ w.in-Some.entry ∷ []) c.loop-i.invariant
          ∙ sym (ap (entries_at slots) (one_more words c.loop-i.i c.word.result c.word.ensures) ∙ entries-named slots _ c.word.result _ (sym c.entry.ensures ∙ w.in-Some.is)))
      | in_default w ↦
          rw w.entries-is
          (c.loop-i.invariant ∙ sym (ap (entries_at slots) (one_more words c.loop-i.i c.word.result c.word.ensures) ∙ entries-skipped slots _ c.word.result (sym c.entry.ensures ∙ w.in_default.is)))
    ]
