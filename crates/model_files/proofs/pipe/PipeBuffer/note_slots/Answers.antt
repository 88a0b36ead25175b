use Rattle.std.proofs.Common.{ap, ◌∙◌, ◌%◌, length, arith}
use Rattle.places.proofs.Keeping.{keeps_then}
use Rattle.std.proofs.lemmas.Result.{on_ok_weaker}
use Rattle.model_files.specs.Objects.{object_owns}
use Rattle.model_files.specs.Pipes.{pipe_seen}
use Rattle.model_files.proofs.Piping.{Lies, keeps_slots, second_fresh, slots_stay}
use Rattle.model_files.proofs.pipe.PipeBuffer.note_slots.Goals as goal

pub returns-in_err-note_part-clause-keeps : goal.returns-in_err-note_part-clause-keeps
returns-in_err-note_part-clause-keeps c = keeps_slots c.args.self.now c.args.object (c.put_count.result % length c.slots-size.result.now) (length c.split_at.result.0.now) _ _ c.in_err-note_part.ensures.among

pub note_part-requires-2-clause-fresh : goal.note_part-requires-2-clause-fresh
note_part-requires-2-clause-fresh c =
    let room = c.requires.room.room in
    let most = c.requires.room.formed.most in
    let lies : Lies c.args.self.now c.args.others.now c.split_at.result.0.now c.split_at.result.1.now (c.put_count.result % length c.slots-size.result.now) c.min.result = record {
      some = c.requires.room.formed.some;
      most = omega (arith, room);
      at = ap (λ n. n % length c.slots-size.result.now) c.put_count.ensures ∙ ap (λ xs. c.args.self.now.put % length xs) c.slots-size.ensures;
      count = c.min.ensures ∙ omega (arith, ap length c.slots-size.ensures);
      first_is = c.split_at.ensures.front;
      second_is = c.split_at.ensures.back;
    } in
    λ i l. second_fresh c.args.self.now c.args.others.now c.split_at.result.0.now c.split_at.result.1.now (c.put_count.result % length c.slots-size.result.now) c.min.result c.args.object _ _ lies c.in_ok-note_part.ensures.among i l (c.requires.fresh i (let b = c.split_at.ensures.back_len in omega (arith, room, most, l, b)))

pub returns-clause-keeps : goal.returns-clause-keeps
returns-clause-keeps c =
    let v = pipe_seen c.args.self.now in
    keeps_then (object_owns c.args.object) v v v _ _ _
    (keeps_slots c.args.self.now c.args.object (c.put_count.result % length c.slots-size.result.now) (length c.split_at.result.0.now) _ _ c.in_ok-note_part.ensures.among)
    (keeps_slots c.args.self.now c.args.object 0 (length c.split_at.result.1.now) _ _ c.note_part-2.ensures.among)

pub returns-clause-noted : goal.returns-clause-noted
returns-clause-noted c =
    let room = c.requires.room.room in
    let lies : Lies c.args.self.now c.args.others.now c.split_at.result.0.now c.split_at.result.1.now (c.put_count.result % length c.slots-size.result.now) c.min.result = record {
      some = c.requires.room.formed.some;
      most = omega (arith, room);
      at = ap (λ n. n % length c.slots-size.result.now) c.put_count.ensures ∙ ap (λ xs. c.args.self.now.put % length xs) c.slots-size.ensures;
      count = c.min.ensures ∙ omega (arith, ap length c.slots-size.ensures);
      first_is = c.split_at.ensures.front;
      second_is = c.split_at.ensures.back;
    } in
    on_ok_weaker c.note_part-2.result (slots_stay c.args.self.now c.args.others.now c.split_at.result.0.now c.split_at.result.1.now (c.put_count.result % length c.slots-size.result.now) c.min.result c.args.object _ _ lies c.note_part-2.ensures.among c.in_ok-note_part.ensures.noted) c.note_part-2.ensures.noted
