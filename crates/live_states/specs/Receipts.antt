-- The receipts of a closed run.
use Rattle.std.specs.Prelude.{◌≡◌, ℕ, List, Some, Contains, slice_get}
use Rattle.live_states.specs.declared.receipt.Receipt.{Receipt}
use Rattle.live_states.specs.History.{Past}

-- r is one of actor a's receipts.
pub record IsReceiptOf (c : Past) (a : ℕ) (r : Receipt) : Type 0 where
  pub receipts : List Receipt
  pub there : slice_get c.receipts a ≡ Some receipts
  pub member : Contains receipts r
