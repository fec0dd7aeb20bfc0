use Rattle.std.proofs.Common.{ℕ}
use Rattle.std.specs.Int.{IsGcd}
use Rattle.fraction.proofs.fraction.greatest_divisor.Given as goal

abbrev pub invariant-loop-small : goal.invariant-loop-small
invariant-loop-small l = (d : ℕ) → IsGcd l.large l.small d → IsGcd l.a l.b d

abbrev pub decreases-loop-small : goal.decreases-loop-small
decreases-loop-small l = l.small
