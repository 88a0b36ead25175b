-- Copies of the machine that share its requests and bytes.
use Rattle.machine.specs.declared.sharing.SharedMachine.{SharedMachine}
use Rattle.machine.specs.declared.whole.Machine.{Machine}

-- The machine that a copy is equal to.
abbrev pub machine_in : SharedMachine → Machine
machine_in s = record {
  submissions = s.submissions;
  completions = s.completions;
  backlog = s.backlog;
  world = s.world;
  table = s.table;
  poller = s.poller;
  submit_all = s.submit_all;
  threads = s.threads;
  clock = s.clock;
  counted = s.counted;
}
