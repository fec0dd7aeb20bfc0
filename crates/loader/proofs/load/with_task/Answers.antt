use Rattle.std.proofs.Common.{◌^◌, ◌≤◌, arith}
use Rattle.std.proofs.lemmas.Nat.{mul-le}
use Rattle.loader.proofs.load.with_task.Goals as goal

pub overflow_add-result : goal.overflow_add-result
overflow_add-result c =
    let b : c.from-b.result ≤ 255 = omega arith in
    let w : c.from-w.result ≤ 255 = omega arith in
    let p : c.args.sum.parts ≤ 255 ^ 7 = omega arith in
    let q : c.args.sum.whole ≤ 255 ^ 7 = omega arith in
    let x = mul-le c.args.sum.parts c.from-w.result (255 ^ 7) 255 p w in
    let y = mul-le c.from-b.result c.args.sum.whole 255 (255 ^ 7) b q in
    omega arith
