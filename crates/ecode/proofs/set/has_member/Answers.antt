use Rattle.std.proofs.Common.{◌%◌, ◌^◌, ◌<◌, ◌≤◌, nat_eq, sym, ap, ◌∙◌, arith, pow_mono}
use native.Mathlib.Nat.{div-eq_of_lt}
use Rattle.std.proofs.lemmas.Bool.{le-ltb}
use Rattle.ecode.proofs.set.has_member.Goals as goal

-- a set of 32 has no member from 32 on
pub returns-else-k-lt32 : goal.returns-else-k-lt32
returns-else-k-lt32 c =
    let k = c.args.k in
    let ge : 32 ≤ k = omega arith in
    let big : 2 ^ 32 ≤ 2 ^ k = pow_mono ge in
    let lt : c.args.set < 2 ^ k = omega arith in
    le-ltb k 32 ge ∙ sym (ap (λ n. nat_eq (n % 2) 1) (div-eq_of_lt lt))
