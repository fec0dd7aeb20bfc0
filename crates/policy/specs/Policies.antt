-- Which task each of the three policies chooses: the one place where this is said. Each is an order of `Choice`, and the
-- answer is the task that ranks first in it.
--     EarlierThenLower a b          fewer ticks left; on a tie the lower number
--     EarlierThenLast last a b      fewer ticks left; on a tie the task chosen last; else the lower number
--     LowerNumber a b               the lower number
--     EarliestLowest pending answer     what `Earliest` answers
--     StaysOnTie last pending answer    what `Steady` answers, if it chose `last` before
--     ChosenAgain last pending answer   the part of it on staying: `last` is chosen again while none is earlier
--     LowestFirst pending answer        what `LowestNumber` answers
--     remembered last answer        what `Steady` remembers after the answer
--     earliest_mark, steady_mark, lowest_mark    whether the policy goes by the earliest deadline
use Rattle.std.specs.Prelude.{◌≡◌, ℕ, ◌≤◌, Bool, true, false, ◌⊎◌, List, Some, None, Option, ◌≢◌}
use Rattle.policy.specs.declared.pending.PendingTask.{PendingTask}
use Rattle.policy.specs.declared.earliest.Earliest.{Earliest}
use Rattle.policy.specs.declared.steady.Steady.{Steady}
use Rattle.policy.specs.declared.lowest_number.LowestNumber.{LowestNumber}
use Rattle.policy.specs.Choice.{Order, Among, AheadOfAll, FirstIn, ByMark}

-- a has no more ticks left than b, and where the two are tied, no higher number.
abbrev pub EarlierThenLower : Order
EarlierThenLower a b = (a.left ≤ b.left) × (a.left ≡ b.left → a.task ≤ b.task)

-- a has no more ticks left than b, and where the two are tied, a is the task chosen last; or b is not, and a has no higher
-- number.
abbrev pub EarlierThenLast : Option ℕ → Order
EarlierThenLast last a b =
    (a.left ≤ b.left)
    × (a.left ≡ b.left → (last ≡ Some a.task) ⊎ ((last ≢ Some b.task) × (a.task ≤ b.task)))

-- a has no higher number than b, whatever the ticks left.
abbrev pub LowerNumber : Order
LowerNumber a b = a.task ≤ b.task

-- The task with the fewest ticks left, and of those that are tied the lowest number.
abbrev pub EarliestLowest : List PendingTask → Option ℕ → Type 0
EarliestLowest = FirstIn EarlierThenLower

-- The task with the fewest ticks left; of those that are tied the one chosen last, if it is among them, else the lowest number.
abbrev pub StaysOnTie : Option ℕ → List PendingTask → Option ℕ → Type 0
StaysOnTie last = FirstIn (EarlierThenLast last)

-- In particular: where the task chosen last is pending, and none has fewer ticks left than it, it is chosen again.
abbrev pub ChosenAgain : Option ℕ → List PendingTask → Option ℕ → Type 0
ChosenAgain last pending answer =
    (entry : PendingTask) → last ≡ Some entry.task → Among pending entry → AheadOfAll (ByMark true) pending entry
    → answer ≡ last

-- The task with the lowest number.
abbrev pub LowestFirst : List PendingTask → Option ℕ → Type 0
LowestFirst = FirstIn LowerNumber

-- The task that was chosen; if nothing was pending, what was remembered before.
abbrev pub remembered : Option ℕ → Option ℕ → Option ℕ
remembered last None = last
remembered last (Some task) = Some task

-- `Earliest` goes by the earliest deadline.
abbrev pub earliest_mark : Earliest → Bool
earliest_mark _ = true

-- `Steady` goes by the earliest deadline.
abbrev pub steady_mark : Steady → Bool
steady_mark _ = true

-- `LowestNumber` does not.
abbrev pub lowest_mark : LowestNumber → Bool
lowest_mark _ = false
