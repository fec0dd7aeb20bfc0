-- The load of a program, and what pitchbox answers on an image and its budgets.
--   sums       the rules of the load sum of a program
--   LoadIs     a fraction is the load sum of a program, in lowest terms
--   Examined   the answer is the verdict, and an accepted program comes with its load
use Rattle.std.specs.Prelude.{◌≡◌, ℕ, List, take, Ok, Err, Result, slice_index}
use Rattle.ecode.specs.declared.sheet.Sheet.{Sheet}
use Rattle.ecode.specs.declared.code.Program.{Program}
use Rattle.ecode.specs.declared.fault.LoadFault.{LoadFault}
use Rattle.ecode.specs.Load.{window, parts, whole}
use Rattle.ecode.specs.Rules.{Rule}
use Rattle.ecode.specs.Verdict.{lines_of, contents, sum_rules, verdict}
use Rattle.fraction.specs.declared.fraction.Fraction.{Fraction}
use Rattle.pitchbox.specs.declared.examine.Accepted.{Accepted}
use Rattle.fraction.specs.Lowest.{Lowest}

abbrev pub sums : Sheet → Program → List (Rule LoadFault)
sums s p = sum_rules s (lines_of p.listing) (take s.tasks p.budgets)

abbrev pub LoadIs : Sheet → Program → Fraction → Type 0
LoadIs s p f =
    Lowest (parts s.tasks (window (lines_of p.listing)) (λ t. slice_index (take s.tasks p.budgets) t))
    (whole s.tasks (window (lines_of p.listing))) f.parts f.whole

abbrev pub Examined : Sheet → List ℕ → List ℕ → Result Accepted LoadFault → Type 0
Examined s im bud (Ok a) = (verdict s im bud ≡ Ok (contents s.tasks a.program)) × LoadIs s a.program a.load
Examined s im bud (Err e) = verdict s im bud ≡ Err e
