use Rattle.std.proofs.Common.{◌≡◌, ◌+◌, ◌^◌, ◌≤◌, get_or, take, None}
use Rattle.ecode.specs.declared.fault.LoadFault.TheVariants.{Overload}
use Rattle.ecode.specs.Rules.{broken, one, each}
use Rattle.ecode.specs.Load.{window, fits}
use Rattle.ecode.specs.Verdict.{lines_of}
use Rattle.ecode.specs.Accepted.{LoadIs}
use Rattle.loader.proofs.load.load_sum.Given as goal

abbrev pub invariant-loop-t : goal.invariant-loop-t
invariant-loop-t l =
    let ls = lines_of l.program.listing in
    let bud = take l.sheet.tasks l.program.budgets in
    LoadIs l.t ls bud l.sum
    × (l.sum.parts ≤ l.sum.whole)
    × (l.sum.whole ≤ 255 ^ l.t)
    × (broken (each l.t (λ t. one (fits (t + 1) (window ls) (λ k. get_or bud k 0)) (Overload t))) ≡ None)
