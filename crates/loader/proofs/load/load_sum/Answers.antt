-- The load sum rises task by task, and stays within u128 because it is left as soon as it passes 1.
use Rattle.std.proofs.Common.{◌≡◌, ℕ, zero, ◌+◌, ◌^◌, ◌<◌, ◌≤◌, cond, List, length, get_or, take, Some, None, sym, refl, ap, ◌∙◌, subst, arith, length-take, rules}
use native.Mathlib.Nat.{pow-le-pow_right}
use Rattle.ecode.specs.declared.code.Line.{Line}
use Rattle.ecode.specs.declared.fault.LoadFault.{LoadFault}
use Rattle.ecode.specs.declared.fault.LoadFault.TheVariants.{Overload}
use Rattle.ecode.specs.Rules.{Rule, one, each, broken}
use Rattle.ecode.specs.Load.{sum_below, product_below, window, fits}
use Rattle.ecode.specs.Verdict.{lines_of}
use Rattle.ecode.specs.Accepted.{LoadIs}
use Rattle.ecode.proofs.Firsts.{each_none, each_more, each_at}
use Rattle.loader.proofs.Shares.{load_step, whole_small, fits_when, over_when}
use Rattle.loader.proofs.load.load_sum.Goals as goal

-- the rule at task t
abbrev at : List Line → List ℕ → ℕ → List (Rule LoadFault)
at ls bud t = one (fits (t + 1) (window ls) (λ k. get_or bud k 0)) (Overload t)

pub loop-t-init : goal.loop-t-init
unfolding sum_below product_below
loop-t-init c =
    let ls = lines_of c.args.program.now.listing in
    let bud = take c.args.sheet.now.tasks c.args.program.now.budgets in
    (record { parts = refl; whole = refl }, omega arith, omega arith, each_none (at ls bud))

pub with_task-sum-requires : goal.with_task-sum-requires
with_task-sum-requires c =
    let le : c.loop-t.t ≤ 7 = omega arith in
    let pos : zero < 255 = omega arith in
    let top : 255 ^ c.loop-t.t ≤ 255 ^ 7 = pow-le-pow_right pos le in
    (c.loop-t.invariant.1, omega (arith, c.loop-t.invariant.2))

pub loop-t-preserved : goal.loop-t-preserved
loop-t-preserved c =
    let ls = lines_of c.args.program.now.listing in
    let own = c.args.program.now.budgets in
    let n = c.args.sheet.now.tasks in
    let t = c.loop-t.t in
    let new = c.with_task-sum.result in
    let w = c.least_window.result in
    let inv = c.loop-t.invariant in
    let is = load_step ls (take n own) t w (get_or (take c.from.result own) t 0) c.loop-t.sum new inv.0 c.least_window.ensures (ap (λ k. get_or (take k own) t 0) c.from.ensures)
    c.with_task-sum.ensures.parts c.with_task-sum.ensures.whole in
    let le : new.parts ≤ new.whole = omega arith in
    let small : w ≤ 255 = omega arith in (
      is,
      le,
      whole_small t c.loop-t.sum.whole new.whole w inv.2 small c.with_task-sum.ensures.whole,
      each_more (at ls (take n own)) t inv.3 ∙ ap (λ b. cond b None (Some (Overload t))) (fits_when ls (take n own) (t + 1) new is le),
    )

pub returns-then-sum : goal.returns-then-sum
returns-then-sum c =
    let ls = lines_of c.args.program.now.listing in
    let own = c.args.program.now.budgets in
    let n = c.args.sheet.now.tasks in
    let t = c.loop-t.t in
    let new = c.with_task-sum.result in
    let inv = c.loop-t.invariant in
    let is = load_step ls (take n own) t c.least_window.result (get_or (take c.from.result own) t 0) c.loop-t.sum new inv.0 c.least_window.ensures (ap (λ k. get_or (take k own) t 0) c.from.ensures)
    c.with_task-sum.ensures.parts c.with_task-sum.ensures.whole in
    let lt : new.whole < new.parts = omega arith in
    each_at (at ls (take n own)) t n (Overload t) (omega (arith, length-take c.from.result own)) inv.3
    (ap (λ b. cond b None (Some (Overload t))) (over_when ls (take n own) (t + 1) new is lt))

pub returns : goal.returns
returns c =
    let ls = lines_of c.args.program.now.listing in
    let bud = take c.args.sheet.now.tasks c.args.program.now.budgets in
    let eight : length c.args.program.now.budgets ≡ 8 = search rules in
    let end : c.loop-t.t ≡ c.args.sheet.now.tasks = omega (arith, length-take c.from.result c.args.program.now.budgets, eight) in
    (ap (λ k. broken (each k (at ls bud))) (sym end) ∙ c.loop-t.invariant.3, subst (λ k. LoadIs k ls bud c.loop-t.sum) end c.loop-t.invariant.0)
