-- The rows of every program that a bench can have are read eight cells at a time.
use Rattle.std.proofs.Common.{◌≡◌, ℕ, zero, suc, ◌<◌, cond, ltb, List, length, get_or, drop, Some, None, Ok, Option, unwrap_or, ap, ◌∙◌, subst, arith}
use Rattle.ecode.specs.declared.sheet.Sheet.{Sheet}
use Rattle.ecode.specs.declared.code.Cell.TheVariants.{NotHeld, Idle}
use Rattle.ecode.specs.declared.code.Line.{Line}
use Rattle.ecode.specs.Image.{size, entry, record_at, cell_in, line, lines, code}
use Rattle.ecode.specs.Typing.{blank}
use Rattle.ecode.specs.Verdict.{Contents, rules, ruled}
use Rattle.ecode.specs.Rules.{broken}
use Rattle.ecode.specs.declared.fault.LoadFault.{LoadFault}
use Rattle.ecode.proofs.Lists.{length_listed, getD_listed}
use Rattle.ecode.specs.Accepted.{lone_return}
use Rattle.machine.specs.Begins.{RowsOfEight, RowsAreEight}

line_of : (s : Sheet) (im : List ℕ) (n a : ℕ) → a < n → length (get_or (lines s im n) a blank).row ≡ 8
line_of s im n a l =
    ap (λ (x : Line). length x.row) (getD_listed n (λ a. line s (record_at im a)) a blank l)
    ∙ length_listed 8 (λ t. unwrap_or (cell_in s.tasks (drop 4 (record_at im a)) t) NotHeld)

-- an accepted program is what the verdict made of the image
accepted_is : (o : Option LoadFault) (x p : Contents) → ruled o x ≡ Ok p → x ≡ p
accepted_is None x p e = cc
accepted_is (Some f) x p e = cc

pub rows : RowsAreEight
rows s = (
  (λ im bud p e.
      subst RowsOfEight (accepted_is (broken (rules s im bud)) (record { entry = entry im; lines = code s im; budgets = bud }) p e)
      (λ a l. line_of s im (size im) a (omega (arith, l, length_listed (size im) (λ a. line s (record_at im a)))))),
  first,
)
  where
    first : RowsOfEight (lone_return s)
    first zero l = length_listed 8 (λ t. cond (ltb t s.tasks) Idle NotHeld)
    first (suc a) l = absurd (omega arith)
