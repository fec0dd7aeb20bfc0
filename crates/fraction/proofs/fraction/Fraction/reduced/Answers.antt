use Rattle.fraction.proofs.Divisors.{quotient_pos, lowest}
use Rattle.fraction.proofs.fraction.Fraction.reduced.Goals as goal

pub invariant_of-result : goal.invariant_of-result
invariant_of-result c = record { divides = quotient_pos _ _ c.args.self.divides c.greatest_divisor-common.ensures.gcd.1 }

pub returns : goal.returns
returns c = lowest c.args.self.divides c.greatest_divisor-common.ensures.gcd
