-- THE VERDICT on an image and its budgets: an ordered table of rules, and the first broken one as the answer.
--   trailer_rules, record_rules, typing_rules, budget_rules, sum_rules   the rules of each part, in their order
--   rules      all of them, in order
--   Contents   what makes two programs one: entry, lines, budgets
--   verdict    the contents accepted, or the fault of the earliest broken rule
use Rattle.std.specs.Prelude.{ℕ, ◌+◌, ◌-◌, ◌%◌, ◌&&◌, List, [], ◌∷◌, ◌++◌, length, take, drop, is_some, Some, None, Ok, Err, Option, Result, ◌==◌, nat_le, nat_lt, slice_index}
use Rattle.ecode.specs.declared.sheet.Sheet.{Sheet}
use Rattle.ecode.specs.declared.code.Line.{Line}
use Rattle.ecode.specs.declared.code.Listing.{Listing}
use Rattle.ecode.specs.declared.code.Program.{Program}
use Rattle.ecode.specs.declared.fault.ImageFault.{ImageFault}
use Rattle.ecode.specs.declared.fault.ImageFault.TheVariants.{TooShort, FormOrMark, RecordLength, Counts, Entry, Operation, RowPair, Target}
use Rattle.ecode.specs.declared.fault.CodeFault.{CodeFault}
use Rattle.ecode.specs.declared.fault.CodeFault.TheVariants.{Image, Typing}
use Rattle.ecode.specs.declared.fault.LoadFault.{LoadFault}
use Rattle.ecode.specs.declared.fault.LoadFault.TheVariants.{Code, Budget, Overload}
use Rattle.ecode.specs.Rules.{Rule, broken, one, each, inside}
use Rattle.ecode.specs.Instructions.{aimed}
use Rattle.ecode.specs.Image.{trailer_byte, told, size, entry, is_ticks, instruction_in, row_fine, record_at, line, code}
use Rattle.ecode.specs.Typing.{well_typed}
use Rattle.ecode.specs.Load.{window, fits}

-- length; form and mark; record length; counts against the sheet; entry
abbrev pub trailer_rules : Sheet → List ℕ → List (Rule ImageFault)
trailer_rules s im =
    (nat_le 8 (length im), TooShort)
    ∷ (trailer_byte im 6 == 1 && (trailer_byte im 7 == 0xe5), FormOrMark (length im - 2))
    ∷ (nat_le 1 (told im) && (told im % 20 == 0 && (nat_le (told im) 4000 && length im == told im + 8)), RecordLength (length im - 8))
    ∷ (trailer_byte im 3 == s.tasks && (trailer_byte im 4 == s.drivers && trailer_byte im 5 == s.conditions), Counts (length im - 5))
    ∷ (nat_lt (entry im) (size im), Entry (length im - 6))
    ∷ []

-- at the address a of n, of the bytes of its record: opcode and operands; row pairs; addresses
abbrev pub record_rules : Sheet → ℕ → ℕ → List ℕ → List (Rule ImageFault)
record_rules s n a bs =
    (is_some (instruction_in s bs), Operation a)
    ∷ (row_fine s.tasks (drop 4 bs), RowPair a)
    ∷ (aimed n a (line s bs).instruction, Target a)
    ∷ []

-- the records, at each address upward
abbrev pub layout_rules : Sheet → List ℕ → ℕ → List (Rule ImageFault)
layout_rules s im n = each n (λ a. record_rules s n a (record_at im a))

-- the image's
abbrev pub image_rules : Sheet → List ℕ → List (Rule ImageFault)
image_rules s im = trailer_rules s im ++ layout_rules s im (size im)

-- typing, at each address upward of n lines with the entry e
abbrev pub typing_rules : Sheet → List Line → ℕ → ℕ → List (Rule CodeFault)
typing_rules s ls e n = each n (λ a. one (well_typed s ls e a) (Typing a))

-- the code's: a fault of the image inside its own, then typing
abbrev pub code_rules : Sheet → List ℕ → List (Rule CodeFault)
code_rules s im = inside Image (image_rules s im) ++ typing_rules s (code s im) (entry im) (size im)

-- as many budgets as tasks, and then each 1 to 240
abbrev pub budget_rules : Sheet → List ℕ → List (Rule LoadFault)
budget_rules s bud = ((length bud == s.tasks), Budget s.tasks) ∷ each s.tasks (λ t. one (is_ticks (slice_index bud t)) (Budget t))

-- the load sum up to each task
abbrev pub sum_rules : Sheet → List Line → List ℕ → List (Rule LoadFault)
sum_rules s ls bud = each s.tasks (λ t. one (fits (t + 1) (window ls) (λ k. slice_index bud k)) (Overload t))

-- all rules: a fault of the code inside the load's, then budgets, then the load sum
abbrev pub rules : Sheet → List ℕ → List ℕ → List (Rule LoadFault)
rules s im bud = inside Code (code_rules s im) ++ (budget_rules s bud ++ sum_rules s (code s im) bud)

-- what makes two programs one: the entry, the lines (instructions with their rows), and the budgets
pub record Contents : Type 0 where
  pub entry : ℕ
  pub lines : List Line
  pub budgets : List ℕ

abbrev pub ruled : {X F : Type 0} → Option F → X → Result X F
ruled None x = Ok x
ruled (Some e) x = Err e

abbrev pub verdict : Sheet → List ℕ → List ℕ → Result Contents LoadFault
verdict s im bud = ruled (broken (rules s im bud)) (record { entry = entry im; lines = code s im; budgets = bud })

-- the lines of a listing, without what stands behind them in its array
abbrev pub lines_of : Listing → List Line
lines_of l = take l.count l.lines

-- what a program for so many tasks holds
abbrev pub contents : ℕ → Program → Contents
contents tasks p = record { entry = p.listing.entry; lines = lines_of p.listing; budgets = take tasks p.budgets }

-- what a check answered
abbrev pub outcome : ℕ → Result Program LoadFault → Result Contents LoadFault
outcome tasks (Ok p) = Ok (contents tasks p)
outcome tasks (Err e) = Err e
