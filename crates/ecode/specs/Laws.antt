-- A law of the typing for whoever runs what was checked: a future parts with a task.
--   Among, Leaves    a set lies among the tasks held; some task held is outside it
use Rattle.std.specs.Prelude.{ℕ, ◌^◌, ◌<◌, List, length, count_ones, slice_index_or}
use Rattle.ecode.specs.declared.code.Cell.{Cell}
use Rattle.ecode.specs.declared.code.Cell.TheVariants.{NotHeld}
use Rattle.ecode.specs.Sheets.{In}
use Rattle.ecode.specs.Typing.{held_set}
use Rattle.ecode.specs.Accepted.{Held}

-- the set k lies among the tasks held
abbrev pub Among : ℕ → List Cell → Type 0
Among k row = (t : ℕ) → t < length row → In t k → Held (slice_index_or row t NotHeld)

-- some task held is outside k
abbrev pub Leaves : ℕ → List Cell → Type 0
Leaves k row = (t : ℕ) × (t < length row) × Held (slice_index_or row t NotHeld) × (In t k → ⊥)

-- a set among the tasks held has fewer members than they exactly when it leaves one of them: each binding holds a task
abbrev pub FuturesPart : Type 0
FuturesPart = (k : ℕ) (row : List Cell) → k < 2 ^ length row → Among k row
    → (count_ones k < count_ones (held_set row) → Leaves k row) × (Leaves k row → count_ones k < count_ones (held_set row))
