use Rattle.std.proofs.Common.{arith}
use Rattle.std.proofs.lemmas.Nat.Gcd.{IsGcd-from_zero, IsGcd-from_mod}
use Rattle.fraction.proofs.Divisors.{divisor_pos}
use Rattle.fraction.proofs.fraction.greatest_divisor.Goals as goal

pub loop-small-preserved : goal.loop-small-preserved
loop-small-preserved c = λ d g. c.loop-small.invariant d (IsGcd-from_mod _ _ d g)

pub returns-clause-gcd : goal.returns-clause-gcd
returns-clause-gcd c = c.loop-small.invariant _ (IsGcd-from_zero _ _ (omega arith))

pub returns-clause-some : goal.returns-clause-some
returns-clause-some c = λ h. divisor_pos h (returns-clause-gcd c)
