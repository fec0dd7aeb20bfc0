use Rattle.std.proofs.Common.{ℕ, List, [], ◌∷◌, take, sym, ap, ◌∙◌, subst, ap₂}
use Rattle.std.proofs.lemmas.List.{take-replicate}
use Rattle.ecode.specs.declared.code.Cell.{Cell}
use Rattle.ecode.specs.declared.code.Instruction.TheVariants.{Return}
use Rattle.ecode.specs.declared.code.Line.{Line}
use Rattle.ecode.specs.Verdict.{Contents}
use Rattle.ecode.specs.Accepted.{Accepted}
use Rattle.loader.proofs.Lone.{lone_accepted}
use Rattle.loader.proofs.first.first_program.Goals as goal

abbrev bare : List Cell → List Line
bare row = record { instruction = Return; row = row } ∷ []

abbrev made : List Line → List ℕ → Contents
made lines b = record { entry = 0; lines = lines; budgets = b }

pub returns : goal.returns
returns c =
    let s = c.args.sheet.now in
    let same = ap₂ made (ap (take 1) c.padded.ensures ∙ ap bare c.idle_row.ensures) (take-replicate s.tasks 8 1 s.few_tasks) in
    record { contents = same; accepted = subst (Accepted s) (sym same) (lone_accepted s) }
