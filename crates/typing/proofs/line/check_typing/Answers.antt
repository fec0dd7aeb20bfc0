use Rattle.std.proofs.Common.{◌≡◌, ℕ, true, false, cond, Some, None, ap, arith, rules}
use borrow.Author.Tests.{tests}
use Rattle.std.proofs.lemmas.Iterator.{first_from_Range}
use Rattle.ecode.specs.declared.fault.CodeFault.TheVariants.{Typing}
use Rattle.ecode.specs.Rules.{one}
use Rattle.ecode.specs.Typing.{well_typed}
use Rattle.ecode.specs.Verdict.{lines_of}
use Rattle.ecode.proofs.Firsts.{each_at, each_clean}
use Rattle.typing.proofs.line.check_typing.Goals as goal

pub returns-in-Some : goal.returns-in-Some
returns-in-Some c =
    let s = c.args.sheet.now in
    let b = c.args.listing.now in
    let typed = λ (a : ℕ). well_typed s (lines_of b) b.entry a in
    let f = λ (a : ℕ). one (typed a) (Typing a) in
    let at = first_from_Range _ _ _ (Some c.in-Some.address) (λ k. typed k ≡ false) (λ k. typed k ≡ true) c.in-Some.ensures.ran (λ x q k. search (rules, tests)) (λ x q k. search (rules, tests)) in
    each_at f c.in-Some.address b.count (Typing c.in-Some.address) at.1
    (each_clean f c.in-Some.address (λ k h. ap (λ t. cond t None (Some (Typing k))) (at.3 k (omega arith) h)))
    (ap (λ t. cond t None (Some (Typing c.in-Some.address))) at.2)

pub returns-in-None : goal.returns-in-None
returns-in-None c =
    let s = c.args.sheet.now in
    let b = c.args.listing.now in
    let typed = λ (a : ℕ). well_typed s (lines_of b) b.entry a in
    let f = λ (a : ℕ). one (typed a) (Typing a) in
    let all = first_from_Range _ _ _ None (λ k. typed k ≡ false) (λ k. typed k ≡ true) c.in-None.ensures.ran (λ x q k. search (rules, tests)) (λ x q k. search (rules, tests)) in
    (each_clean f b.count (λ k h. ap (λ t. cond t None (Some (Typing k))) (all k (omega arith) h)), tt)
