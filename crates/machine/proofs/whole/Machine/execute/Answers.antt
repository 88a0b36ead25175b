use Rattle.machine.proofs.Common.{OneSetup as OneWorldSetup, subst, length, ◌+◌, ◌≤◌, IsDone}
use Rattle.model_files.proofs.Fixing as worlds
use Rattle.machine.proofs.{Growing.grows_parts, InstructionLemmas.is_done, InstructionLemmas.thread_there, InstructionLemmas.can_advance}
use Rattle.machine.proofs.whole.Machine.execute.Goals as goal

pub store-requires-clause-in_memory : goal.store-requires-clause-in_memory
store-requires-clause-in_memory c =
    rw c.as_slice.ensures (subst (IsDone _) c.in-Store.is (is_done c.args.self.now c.args.t _ c.requires.formed c.instruction.ensures))

pub advance-requires-clause-there : goal.advance-requires-clause-there
advance-requires-clause-there c = thread_there c.args.self.now _ _ c.instruction.ensures

pub advance-requires-clause-can_advance : goal.advance-requires-clause-can_advance
advance-requires-clause-can_advance c = can_advance c.args.self.now _ c.requires.formed

pub returns-in_ok-store-in-Store-clause-grows : goal.returns-in_ok-store-in-Store-clause-grows
returns-in_ok-store-in-Store-clause-grows c =
    let within : c.in-Store.address + length c.as_slice.result.now ≤ 65536 = rw c.as_slice.ensures (subst (IsDone _) c.in-Store.is (is_done c.args.self.now c.args.t _ c.requires.formed c.instruction.ensures)) in
    let stored : OneWorldSetup c.args.self.now.world c.store.new.self = rw c.in_ok-store-in-Store.ensures.ok (worlds.setup_stored c.in-Store.address c.as_slice.result.now c.args.self.now.world c.requires.formed.mostly.world within) in
    grows_parts c.args.self.now c.store.new.self c.advance.new.self stored c.advance.ensures.programs
