use Rattle.std.proofs.Common.{◌≡◌, ℕ, ◌<◌, true, length, get_or, is_some, unwrap_or}
use Rattle.ecode.specs.declared.code.Cell.TheVariants.{NotHeld}
use Rattle.ecode.specs.Wiring.{all_below}
use Rattle.ecode.specs.Image.{cell_in}
use Rattle.image.proofs.record.read_row.Given as goal

abbrev pub invariant-loop-t : goal.invariant-loop-t
invariant-loop-t l =
    (length l.row ≡ 8)
    × (all_below l.t (λ t. is_some (cell_in l.tasks l.bytes t)) ≡ true)
    × ((k : ℕ) → k < l.t → get_or l.row k NotHeld ≡ unwrap_or (cell_in l.tasks l.bytes k) NotHeld)
