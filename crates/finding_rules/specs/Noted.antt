-- The rules as the search tests them, by what it noted of an event.
use Rattle.std.specs.Prelude.{ℕ, ℤ, pos, negsuc, nat_le, ◌==◌, Bool, true, false, not, ◌&&◌, ◌||◌, Option, Some, None, List}
use Rattle.finding_rules.specs.Common.{option_map_or, list_any, is_bad, is_negative, is_transfer, Row, Event, Instruction, Put, Push, Store, Enter, Reap, Close, Setup, Machine, Before, Member}
use Rattle.finding_rules.specs.{Completions.expires_over, Completions.has_canceled_target, Completions.is_expiry_of, Completions.is_later, Completions.is_short_of_end, Completions.member_of, Conditions.answer_of, Endings.Circumstances, Endings.ending_of, Endings.is_error, Endings.is_less, Endings.next_in, Endings.severs}

-- ---- requests

-- Whether completing with a result can be a finding: it is an error, or the request is short.
abbrev pub is_notable : Row → ℤ → Bool
is_notable row res = is_negative res || (is_bad row res || (is_transfer row.entry.opcode && is_less res row.entry.len))

-- Whether the chain of request r has a later request, besides its linked timeout.
abbrev pub continues : List Row → ℕ → Row → Bool
continues rows r row = option_map_or (λ (other : Row). other.unit == row.unit) (next_in rows r) false

-- Whether a finding about the completion of a request can depend on other requests that the event
-- completes: the request was canceled, or it severs its chain.
abbrev pub depends_on_others : Option Row → Row → Bool
depends_on_others before row = option_map_or (λ res. is_error 125 res || severs before row res) (ending_of before row) false

-- Whether an earlier request severed x's chain, and a later one than that was canceled, by all
-- requests that did so in an event.
abbrev pub is_severed_in : List Member → List Member → Member → Bool
is_severed_in severing canceled x = list_any (λ y. is_later y x && list_any (is_later y) canceled) severing

-- The circumstances in which an event completes request r, by what the search noted: the requests
-- that severed their chain in the event, those that were canceled, and the facts before it.
abbrev pub noted : Setup → List Member → List Member → Before → Event → Machine → ℕ → Row → Circumstances
noted s severing canceled b e after r row = record {
  short_of_end = is_short_of_end s after row;
  severs_others = continues after.table r row && list_any (is_later (member_of r row)) canceled;
  is_named = (not (row.unit == r) && is_severed_in severing canceled (member_of r row)) || expires_over after.table e r;
  was_ready = is_expiry_of r e && (b.was_ready && has_canceled_target after.table row);
}

-- ---- threads

-- Whether an enter took all entries that it was to submit, or waits. The number is its result.
abbrev pub took_all : ℕ → Option ℤ → Bool
took_all to_submit None = true
took_all to_submit (Some (pos n)) = nat_le to_submit n
took_all to_submit (Some (negsuc n)) = false

-- Whether an instruction that thread t did is a finding of no kind, by a test that costs little.
abbrev pub is_plain : Bool → Instruction → Machine → ℕ → Bool
is_plain changes (Put slot entry) m t = not changes
is_plain changes (Push index) m t = false
is_plain changes (Store address bytes) m t = true
is_plain changes (Enter to_submit min_complete flags) m t = took_all to_submit (answer_of m t)
is_plain changes Reap m t = true
is_plain changes (Close fd) m t = false
