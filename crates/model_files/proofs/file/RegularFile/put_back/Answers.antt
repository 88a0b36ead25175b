use Rattle.std.proofs.Common.{◌≤◌, length, arith}
use Rattle.places.specs.Stretched.{kept_of}
use Rattle.places.proofs.MaskedLemmas.{length_kept}
use Rattle.model_files.proofs.PuttingOver.{tracked_bytes, tracked_durable}
use Rattle.model_files.proofs.PuttingBack.{put_file_bytes, put_durable_bytes, put_no_file_bytes}
use Rattle.model_files.proofs.file.RegularFile.put_back.Goals as goal

pub invariant_of-self : goal.invariant_of-self
invariant_of-self c =
    let few : length (kept_of c.args.stretch) ≤ length c.args.stretch.olds.now = let m = length_kept c.args.stretch.olds.now c.args.stretch.gone.now c.args.stretch.mark in omega arith in
    tracked_bytes _ _ _ _ _ (length c.args.stretch.olds.now) _ c.self.invariant c.put_over.ensures.over c.put_over.ensures.len few c.mark_within.ensures.kept c.mark_within.ensures.apart

pub invariant_of-self-in-Durable : goal.invariant_of-self-in-Durable
invariant_of-self-in-Durable c =
    let few : length (kept_of c.args.stretch) ≤ length c.args.stretch.olds.now = let m = length_kept c.args.stretch.olds.now c.args.stretch.gone.now c.args.stretch.mark in omega arith in
    tracked_durable _ _ _ _ _ (length c.args.stretch.olds.now) _ c.self.invariant c.put_over-in-Durable.ensures.over c.put_over-in-Durable.ensures.len few c.mark_within-in-Durable.ensures.kept c.mark_within-in-Durable.ensures.apart

pub returns-in-File-clause-put : goal.returns-in-File-clause-put
returns-in-File-clause-put c =
    let present = rw (← c.self.view_is, c.in-File.is) at c.requires.present in
    rw (← c.self.view_is, c.in-File.is) (put_file_bytes _ _ _ _ _ c.put_over.ensures.over present)

pub returns-in-Durable-clause-put : goal.returns-in-Durable-clause-put
returns-in-Durable-clause-put c =
    let present = rw (← c.self.view_is, c.in-Durable.is) at c.requires.present in
    rw (← c.self.view_is, c.in-Durable.is) (put_durable_bytes _ _ _ _ _ c.put_over-in-Durable.ensures.over present)

pub returns-in-Memory-clause-put : goal.returns-in-Memory-clause-put
returns-in-Memory-clause-put c = put_no_file_bytes _ _ _ _ c.in-Memory.is c.requires.present
