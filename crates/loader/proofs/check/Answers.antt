-- The check, one layer after another: at each `?` the verdict is the fault that came back.
use Rattle.std.proofs.Common.{◌≡◌, ℕ, List, Some, Ok, Err, Result, sym, ◌∙◌, subst}
use Rattle.std.specs.Result.{IsErrAnd}
use Rattle.ecode.proofs.Firsts.{came_back}
use Rattle.ecode.specs.declared.sheet.Sheet.{Sheet}
use Rattle.ecode.specs.declared.code.Program.{Program}
use Rattle.ecode.specs.declared.fault.LoadFault.{LoadFault}
use Rattle.ecode.specs.Rules.{broken}
use Rattle.ecode.specs.Verdict.{rules}
use Rattle.ecode.specs.Accepted.{Checked}
use Rattle.ecode.specs.Parts.{FromBytes}
use Rattle.loader.proofs.Verdicts.{code_refused, budget_refused, sum_decides}
use Rattle.loader.proofs.Exact.{checked}
use Rattle.loader.proofs.check.Goals as goal

-- a refusal that a `?` hands back, once its fault is known to be the first broken rule's
refused : (s : Sheet) (im bud : List ℕ) (r : Result Program LoadFault) (x : LoadFault) → IsErrAnd r (λ y. y ≡ x) → broken (rules s im bud) ≡ Some x → Checked s im bud r
refused s im bud r x h b = subst (Checked s im bud) (sym (came_back r x h)) (checked s im bud (Err x) b)

pub returns-in_err-listing : goal.returns-in_err-listing
returns-in_err-listing c =
    let q = c.from_residual in
    refused _ _ _ q.result _ q.ensures.1
    (code_refused c.args.sheet.now c.args.image.now c.args.budgets.now c.in_err-listing.field-0.0 c.in_err-listing.ensures)

pub returns-in_err-own : goal.returns-in_err-own
returns-in_err-own c =
    let q = c.from_residual-in_err-own in
    refused _ _ _ q.result _ q.ensures.1
    (budget_refused c.args.sheet.now c.args.image.now c.args.budgets.now c.in_ok-listing.ensures.0 c.in_err-own.field-0.0 c.in_err-own.ensures)

pub returns-in_err-load_sum : goal.returns-in_err-load_sum
returns-in_err-load_sum c =
    let got = c.in_ok-listing.ensures in
    let own = c.in_ok-own.ensures in
    let q = c.from_residual-in_err-load_sum in
    refused _ _ _ q.result _ q.ensures.1
    (sum_decides c.args.sheet.now c.args.image.now c.args.budgets.now got.0 (record { listing = c.in_ok-listing.listing; budgets = c.in_ok-own.own })
    (record { listing = got.1; budgets = own.1 }) own.0 ∙ c.in_err-load_sum.ensures)

pub returns : goal.returns
returns c =
    let s = c.args.sheet.now in
    let im = c.args.image.now in
    let bud = c.args.budgets.now in
    let got = c.in_ok-listing.ensures in
    let own = c.in_ok-own.ensures in
    let p : Program = record { listing = c.in_ok-listing.listing; budgets = c.in_ok-own.own } in
    let w : FromBytes s im bud p = record { listing = got.1; budgets = own.1 } in
    checked s im bud (Ok p) (sum_decides s im bud got.0 p w own.0 ∙ c.in_ok-load_sum.ensures.0, w)
