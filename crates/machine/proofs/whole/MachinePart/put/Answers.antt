use Rattle.machine.proofs.Lifting.{seen_submissions, seen_world, seen_table, seen_backlog, seen_threads}
use Rattle.machine.proofs.whole.MachinePart.put.Goals as goal

pub returns-in-Submissions-clause-put : goal.returns-in-Submissions-clause-put
returns-in-Submissions-clause-put c = seen_submissions c.args.self.now _ _ _ (rw c.in-Submissions.is at c.owner_of.ensures) c.put.ensures.put

pub returns-in-World-clause-put : goal.returns-in-World-clause-put
returns-in-World-clause-put c = seen_world c.args.self.now _ _ _ (rw c.in-World.is at c.owner_of.ensures) c.put-in-World.ensures.put

pub returns-in-Table-clause-put : goal.returns-in-Table-clause-put
returns-in-Table-clause-put c = seen_table c.args.self.now _ _ _ (rw c.in-Table.is at c.owner_of.ensures) c.put-in-Table.ensures.put

pub returns-in-Backlog-clause-put : goal.returns-in-Backlog-clause-put
returns-in-Backlog-clause-put c = seen_backlog c.args.self.now _ _ _ (rw c.in-Backlog.is at c.owner_of.ensures) c.put-in-Backlog.ensures.put

pub returns-in-Threads-clause-put : goal.returns-in-Threads-clause-put
returns-in-Threads-clause-put c = seen_threads c.args.self.now _ _ _ (rw c.in-Threads.is at c.owner_of.ensures) c.put-in-Threads.ensures.put
