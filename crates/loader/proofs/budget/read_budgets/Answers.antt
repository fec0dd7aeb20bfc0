use Rattle.std.proofs.Common.{◌≡◌, ℕ, true, false, cond, eqb, length, get_or, take, Some, None, ap, ◌∙◌, arith, rules, take_all}
use borrow.Author.Tests.{tests}
use Rattle.std.proofs.lemmas.Bool.{cond-true, eq-eqb}
use Rattle.std.proofs.lemmas.List.{take-append-le}
use Rattle.std.proofs.lemmas.Iterator.{YieldsList-from_slice, IsFirst-from_position}
use Rattle.ecode.specs.declared.fault.LoadFault.TheVariants.{Budget}
use Rattle.ecode.specs.Rules.{broken, one, each}
use Rattle.ecode.specs.Image.{is_ticks}
use Rattle.ecode.proofs.Firsts.{each_at, each_clean}
use Rattle.loader.proofs.budget.read_budgets.Goals as goal

pub returns-in-Some : goal.returns-in-Some
returns-in-Some c =
    let bud = c.args.budgets.now in
    let n = c.args.sheet.now.tasks in
    let t = c.in-Some.t in
    let f = λ (t : ℕ). one (is_ticks (get_or bud t 0)) (Budget t) in
    let long : eqb (length bud) n ≡ true = eq-eqb (length bud) n (omega arith) in
    let at =
    IsFirst-from_position _ _ (Some t) (λ b. is_ticks b ≡ false) (λ b. is_ticks b ≡ true) c.in-Some.ensures.ran (YieldsList-from_slice bud cc)
    (λ x q k. search (rules, tests)) (λ x q k. search (rules, tests)) in
    cond-true (eqb (length bud) n) (broken (each n f)) (Some (Budget n)) long
    ∙ each_at f t n (Budget t) (omega (arith, at.0))
    (each_clean f t (λ k h. ap (λ b. cond b None (Some (Budget k))) (at.2 k 0 (omega arith) h)))
    (ap (λ b. cond b None (Some (Budget t))) (at.1 0))

pub returns-in-None : goal.returns-in-None
returns-in-None c =
    let bud = c.args.budgets.now in
    let n = c.args.sheet.now.tasks in
    let f = λ (t : ℕ). one (is_ticks (get_or bud t 0)) (Budget t) in
    let same : length bud ≡ n = omega arith in
    let long : eqb (length bud) n ≡ true = eq-eqb (length bud) n same in
    let all =
    IsFirst-from_position _ _ None (λ b. is_ticks b ≡ false) (λ b. is_ticks b ≡ true) c.in-None.ensures.ran (YieldsList-from_slice bud cc)
    (λ x q k. search (rules, tests)) (λ x q k. search (rules, tests)) in (
      cond-true (eqb (length bud) n) (broken (each n f)) (Some (Budget n)) long
          ∙ each_clean f n (λ k h. ap (λ b. cond b None (Some (Budget k))) (all k 0 (omega arith) (omega arith))),
      ap (take n) c.padded.ensures ∙ take-append-le n bud _ (omega arith) ∙ take_all n bud (omega arith),
    )
