-- What the contracts of `Policy`, `Preference` and `first` cite: which of the pending tasks may be chosen.
-- A list of pending tasks has one entry for each: the task's number and the ticks left to its deadline. Numbers may repeat
-- and stand in any order, and nothing here depends on where in the list an entry stands.
--     nobody                        what is read past the end of a list
--     Order                         a ranking of entries: `order a b` says that a ranks ahead of b or level with it
--     Level order                   every entry is level with itself
--     Chained order                 what is ahead of b is ahead of all that b is ahead of
--     Settled order                 two entries are level only if they have one number
--     Among pending entry           the entry stands in the list
--     AheadOfAll order pending entry      the entry is ahead of all that stand in the list, or level with them
--     FirstIn order pending answer        the answer is the number of an entry that ranks first; none, of an empty list
--     Only Right answer             no other answer is right
--     ByMark mark                   the order that a policy's mark asks for
--     Choice mark pending answer    what every policy promises of its answer
use Rattle.std.specs.Prelude.{◌≡◌, ℕ, ◌<◌, ◌≤◌, Bool, true, List, length, Some, None, Option, slice_index_or}
use Rattle.policy.specs.declared.pending.PendingTask.{PendingTask}

-- What `get_or` gives past the end of a list. No definition below reads there.
abbrev pub nobody : PendingTask
nobody = record { task = 0; left = 0 }

-- A ranking of pending tasks. `order a b`: a ranks ahead of b, or level with it.
abbrev pub Order : Type 1
Order = PendingTask → PendingTask → Type 0

-- Every entry is level with itself.
abbrev pub Level : Order → Type 0
Level order = (a : PendingTask) → order a a

-- What is ahead of b is ahead of all that b is ahead of.
abbrev pub Chained : Order → Type 0
Chained order = (a b c : PendingTask) → order a b → order b c → order a c

-- Two entries that are level have the same number, so the order settles which task runs.
abbrev pub Settled : Order → Type 0
Settled order = (a b : PendingTask) → order a b → order b a → a.task ≡ b.task

-- The entry stands somewhere in the list.
abbrev pub Among : List PendingTask → PendingTask → Type 0
Among pending entry = (i : ℕ) × (i < length pending) × (slice_index_or pending i nobody ≡ entry)

-- The entry is ahead of every entry of the list, or level with it.
abbrev pub AheadOfAll : Order → List PendingTask → PendingTask → Type 0
AheadOfAll order pending entry = (i : ℕ) → i < length pending → order entry (slice_index_or pending i nobody)

-- None exactly when nothing is pending; otherwise the number of a pending task that ranks first.
abbrev pub FirstIn : Order → List PendingTask → Option ℕ → Type 0
FirstIn order pending None = length pending ≡ 0
FirstIn order pending (Some task) =
    (entry : PendingTask) × (entry.task ≡ task) × Among pending entry × AheadOfAll order pending entry

-- No answer but this one is right.
abbrev pub Only : (Option ℕ → Type 0) → Option ℕ → Type 0
Only Right answer = (other : Option ℕ) → Right other → other ≡ answer

-- A marked policy ranks no task ahead of one with fewer ticks left. Without the mark every ranking will do.
abbrev pub ByMark : Bool → Order
ByMark mark a b = mark ≡ true → a.left ≤ b.left

-- What every policy promises: none exactly when nothing is pending; otherwise the number of one of the pending tasks, and if
-- the policy is marked, none of them has fewer ticks left than that one.
abbrev pub Choice : Bool → List PendingTask → Option ℕ → Type 0
Choice mark = FirstIn (ByMark mark)
