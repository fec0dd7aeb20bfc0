-- What a wait makes of a cell as bytes hold it. Where the rules allow the wait it is what the typing rules say.
--   aged_byte      the cell x ticks on, with consumed stopping at 255 and remaining at 0
--   target_byte    the cell that flows into the row at the target, so aged
use Rattle.std.specs.Prelude.{ℕ, ◌+◌, ◌-◌, min, cond}
use Rattle.ecode.specs.declared.code.Cell.{Cell}
use Rattle.ecode.specs.declared.code.Cell.TheVariants.{NotHeld, Idle, Released}
use Rattle.ecode.specs.declared.code.Instruction.{Instruction}
use Rattle.ecode.specs.declared.code.Instruction.TheVariants.{Call, Release, Future, If, Jump, Return}
use Rattle.ecode.specs.Wiring.{has}

-- x added to consumed and taken from remaining
abbrev pub aged_byte : ℕ → Cell → Cell
aged_byte x NotHeld = NotHeld
aged_byte x Idle = Idle
aged_byte x (Released c r) = Released (min (c + x) 255) (r - x)

-- future: the tasks not kept, the wait later
abbrev pub target_byte : Instruction → ℕ → Cell → Cell
target_byte (Call d) t c = c
target_byte (Release u w) t c = c
target_byte (Future x a k) t c = cond (has k t) NotHeld (aged_byte x c)
target_byte (If q a) t c = c
target_byte (Jump a) t c = c
target_byte Return t c = c
