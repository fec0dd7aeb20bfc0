-- What a load answers and leaves.
--   load_answer    the fault of the verdict, or nothing
--   load_leaves    the program accepted; where the verdict refuses, the program that was there
--   LoadsExactly   a load is accepted exactly when the image and its budgets are acceptable
use Rattle.std.specs.Prelude.{ℕ, List, Ok, Err, Result}
use Rattle.ecode.specs.declared.sheet.Sheet.{Sheet}
use Rattle.ecode.specs.declared.code.Line.{Line}
use Rattle.ecode.specs.declared.fault.LoadFault.{LoadFault}
use Rattle.ecode.specs.Verdict.{Contents}
use Rattle.ecode.specs.Accepted.{Acceptable}

abbrev pub load_answer : Result Contents LoadFault → Result (Unit {0}) LoadFault
load_answer (Ok p) = Ok tt
load_answer (Err fault) = Err fault

abbrev pub load_leaves : Result Contents LoadFault → Contents → Contents
load_leaves (Ok p) old = p
load_leaves (Err fault) old = old

-- accepted: layout, typing and load sum hold for the lines that the bench then has; refused: there are no lines for which they do
abbrev pub LoadsExactly : Sheet → List ℕ → List ℕ → Contents → Result (Unit {0}) LoadFault → Type 0
LoadsExactly s im bud p (Ok x) = Acceptable s im bud p.lines
LoadsExactly s im bud p (Err fault) = (ls : List Line) → Acceptable s im bud ls → ⊥
