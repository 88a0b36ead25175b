use Rattle.links_drains.proofs.Common.{◌≡◌, ℕ, ◌+◌, take, holders, holders_of}
use Rattle.links_drains.proofs.holding.take_all_off.Given as goal

abbrev pub invariant-loop-r : goal.invariant-loop-r
invariant-loop-r l = (fd : ℕ) → holders l.fn.held fd + holders_of (take l.n l.rows) fd ≡ holders l.held fd + holders_of (take l.r l.rows) fd
