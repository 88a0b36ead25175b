use Rattle.std.proofs.Common.{◌∙◌, ap, sym}
use Rattle.script.specs.declared.fault.Key.TheVariants as key
use Rattle.script.specs.Scripts.{entries_of, cq_of, flag_of, base_of}
use Rattle.script.proofs.reading.read_numbers.Goals as goal

pub returns-clause-numbers : goal.returns-clause-numbers
returns-clause-numbers c = record {
  entries = sym (c.in_ok-entries.ensures ∙ ap entries_of c.get.ensures);
  cq = sym (c.in_ok-cq.ensures ∙ ap (cq_of c.in_ok-entries.entries) c.get-2.ensures);
  sqpoll = sym (c.in_ok-sqpoll.ensures ∙ ap (flag_of key.Sqpoll) c.get-3.ensures);
  submit_all = sym (c.in_ok-submit_all.ensures ∙ ap (flag_of key.SubmitAll) c.get-4.ensures);
  base = sym (c.in_ok-base.ensures ∙ ap base_of c.get-5.ensures);
}
