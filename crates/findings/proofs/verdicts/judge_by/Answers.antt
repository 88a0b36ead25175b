use Rattle.findings.proofs.Common.{ℕ, List, map, ap, ◌∙◌, arith, has_byte_of, judged, is_marked}
use Rattle.findings.proofs.Lasting.{mapped_back}
use Rattle.findings.proofs.verdicts.judge_by.Goals as goal

pub returns : goal.returns
returns c =
    let len = c.deref_mut.ensures.len in
    record {
      sets = c.in_ok-sets.sets.items;
      volatile = c.in_ok-sets.ensures;
      replaced =
          mapped_back (judged (has_byte_of (is_marked c.deref.result.now) c.args.writes.now)) _ _ _ _ _ c.deref_mut.ensures.value c.judge_all.ensures (omega (arith, len))
          ∙ ap (λ (xs : List (List ℕ)). map (judged (has_byte_of (is_marked xs) c.args.writes.now)) c.args.found.now.items) c.deref.ensures.value;
    }
