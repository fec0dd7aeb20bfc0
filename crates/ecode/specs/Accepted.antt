-- What it means that an image and its budgets are acceptable, in plain propositions, and what an accepted program keeps.
--   Layout        the trailer is right and the records hold these lines
--   WellTyped     the typing rules hold at every address, reached or not, and the entry's row holds all tasks
--   LoadFits      a budget for each task, and budgets over windows add up to at most 1
--   Acceptable    all three; Exactly says that a check accepts exactly then
--   Accepted      what a program keeps once it is accepted, its image aside: the runner rests on it
--   Checked       all that the check promises of its answer
use Rattle.std.specs.Prelude.{◌≡◌, ℕ, ◌+◌, ◌*◌, ◌%◌, ◌^◌, ◌<◌, ◌≤◌, cond, List, [], ◌∷◌, length, get_or, replicate, IfOk, Ok, Err, Result, ◌≢◌, count_ones, nat_lt, slice_index, slice_index_or}
use Rattle.ecode.specs.declared.sheet.Sheet.{Sheet}
use Rattle.ecode.specs.declared.code.Cell.{Cell}
use Rattle.ecode.specs.declared.code.Cell.TheVariants.{NotHeld, Idle, Released}
use Rattle.ecode.specs.declared.code.Instruction.{Instruction}
use Rattle.ecode.specs.declared.code.Instruction.TheVariants.{Call, Release, Future, If, Jump, Return}
use Rattle.ecode.specs.declared.code.Line.{Line}
use Rattle.ecode.specs.declared.code.Program.{Program}
use Rattle.ecode.specs.declared.code.LoadSum.{LoadSum}
use Rattle.ecode.specs.declared.fault.LoadFault.{LoadFault}
use Rattle.ecode.specs.Sheets.{In, Shares}
use Rattle.ecode.specs.Instructions.{target}
use Rattle.ecode.specs.Image.{trailer_byte, told, size, entry, record_at, listed}
use Rattle.ecode.specs.Typing.{aged, cell, blank, held_set}
use Rattle.ecode.specs.Load.{window, parts, whole}
use Rattle.ecode.specs.Verdict.{lines_of, Contents, contents, outcome, verdict}

-- 1 to 240
abbrev pub Ticks : ℕ → Type 0
Ticks x = (1 ≤ x) × (x ≤ 240)

-- the trailer: 8 bytes at the end, form 1 and mark E5, the length of the records, the sheet's counts, an entry among them
pub record TrailerFits (s : Sheet) (im : List ℕ) : Type 0 where
  pub long : 8 ≤ length im
  pub form : trailer_byte im 6 ≡ 1
  pub mark : trailer_byte im 7 ≡ 0xe5
  pub some : 1 ≤ told im
  pub records : told im % 20 ≡ 0
  pub few : told im ≤ 4000
  pub exact : length im ≡ told im + 8
  pub tasks : trailer_byte im 3 ≡ s.tasks
  pub drivers : trailer_byte im 4 ≡ s.drivers
  pub conditions : trailer_byte im 5 ≡ s.conditions
  pub starts : entry im < size im

-- the opcode and the operands x, y, z of an instruction
abbrev pub Encodes : Sheet → ℕ → ℕ → ℕ → ℕ → Instruction → Type 0
Encodes s op x y z (Call d) = (op ≡ 1) × (x ≡ d) × (y ≡ 0) × (z ≡ 0) × (d < s.drivers)
Encodes s op x y z (Release t w) = (op ≡ 2) × (x ≡ t) × (y ≡ w) × (z ≡ 0) × (t < s.tasks) × Ticks w
Encodes s op x y z (Future w a k) = (op ≡ 3) × (x ≡ w) × (y ≡ a) × (z ≡ k) × Ticks w × (k < 2 ^ s.tasks)
Encodes s op x y z (If q a) = (op ≡ 4) × (x ≡ q) × (y ≡ a) × (z ≡ 0) × (q < s.conditions)
Encodes s op x y z (Jump a) = (op ≡ 5) × (x ≡ 0) × (y ≡ a) × (z ≡ 0)
Encodes s op x y z Return = (op ≡ 6) × (x ≡ 0) × (y ≡ 0) × (z ≡ 0)

-- the pair of task t's cell
abbrev pub Pairs : ℕ → ℕ → ℕ → ℕ → Cell → Type 0
Pairs tasks t c r NotHeld = (c ≡ 255) × (r ≡ 0)
Pairs tasks t c r Idle = (c ≡ 254) × (r ≡ 0) × (t < tasks)
Pairs tasks t c r (Released d e) = (c ≡ d) × (r ≡ e) × (t < tasks) × Ticks (c + r)

-- a record of 20 bytes holds a line
pub record Holds (s : Sheet) (bs : List ℕ) (l : Line) : Type 0 where
  pub instruction : Encodes s (slice_index bs 0) (slice_index bs 1) (slice_index bs 2) (slice_index bs 3) l.instruction
  pub eight : length l.row ≡ 8
  pub row : (t : ℕ) → t < 8 → Pairs s.tasks t (slice_index bs (4 + 2 * t)) (slice_index bs (5 + 2 * t)) (cell l t)

-- the addresses of the instruction at a, in n lines: a next one, a target among them, if and jump upward
abbrev pub Aimed : ℕ → ℕ → Instruction → Type 0
Aimed n a (Call d) = a + 1 < n
Aimed n a (Release t w) = a + 1 < n
Aimed n a (Future x y k) = (a + 1 < n) × (y < n)
Aimed n a (If q y) = (a + 1 < n) × (y < n) × (a < y)
Aimed n a (Jump y) = (y < n) × (a < y)
Aimed n a Return = Unit {0}

-- the layout: the image holds the lines ls
pub record Layout (s : Sheet) (im : List ℕ) (ls : List Line) : Type 0 where
  pub trailer : TrailerFits s im
  pub count : length ls ≡ size im
  pub records : (a : ℕ) → a < length ls → Holds s (record_at im a) (slice_index_or ls a blank)
  pub addresses : (a : ℕ) → a < length ls → Aimed (length ls) a (get_or ls a blank).instruction

-- a cell flows into a cell
abbrev pub Flows : Cell → Cell → Type 0
Flows NotHeld NotHeld = Unit {0}
Flows NotHeld Idle = ⊥
Flows NotHeld (Released c r) = ⊥
Flows Idle NotHeld = ⊥
Flows Idle Idle = Unit {0}
Flows Idle (Released c r) = Unit {0}
Flows (Released c r) NotHeld = ⊥
Flows (Released c r) Idle = ⊥
Flows (Released c r) (Released d e) = (c ≡ d) × (r ≡ e)

abbrev pub Held : Cell → Type 0
Held NotHeld = ⊥
Held Idle = Unit {0}
Held (Released c r) = Unit {0}

-- held, and idle or with remaining 0
abbrev pub Touchable : Cell → Type 0
Touchable NotHeld = ⊥
Touchable Idle = Unit {0}
Touchable (Released c r) = r ≡ 0

abbrev pub IsIdle : Cell → Type 0
IsIdle NotHeld = ⊥
IsIdle Idle = Unit {0}
IsIdle (Released c r) = ⊥

abbrev pub IsReleased : Cell → Type 0
IsReleased NotHeld = ⊥
IsReleased Idle = ⊥
IsReleased (Released c r) = Unit {0}

-- not released, or with at least x remaining
abbrev pub Lasts : ℕ → Cell → Type 0
Lasts x NotHeld = Unit {0}
Lasts x Idle = Unit {0}
Lasts x (Released c r) = x ≤ r

-- the rule of an instruction for task t: its cell here, at the next address and at the target
abbrev pub Typed : Sheet → Instruction → ℕ → Cell → Cell → Cell → Type 0
Typed s (Call d) t here next there =
    (Shares s d t → Touchable here × Flows Idle next) × ((Shares s d t → ⊥) → Flows here next)
Typed s (Release u w) t here next there =
    (t ≡ u → IsIdle here × Flows (Released 0 w) next) × ((t ≢ u) → Flows here next)
Typed s (Future x a k) t here next there =
    (In t k → Held here × Flows here next × Flows NotHeld there)
    × ((In t k → ⊥) → Flows NotHeld next × Lasts x here × Flows (aged x here) there)
Typed s (If q a) t here next there = Flows here next × Flows here there
Typed s (Jump a) t here next there = Flows here there
Typed s Return t here next there = IsReleased here → ⊥

-- the kept set of a future has fewer members than the set of the tasks held
abbrev pub KeepsFewer : Instruction → List Cell → Type 0
KeepsFewer (Call d) row = Unit {0}
KeepsFewer (Release t w) row = Unit {0}
KeepsFewer (Future x a k) row = count_ones k < count_ones (held_set row)
KeepsFewer (If q a) row = Unit {0}
KeepsFewer (Jump a) row = Unit {0}
KeepsFewer Return row = Unit {0}

-- the typing of the lines ls with the entry e, at every address and for every task
pub record WellTyped (s : Sheet) (e : ℕ) (ls : List Line) : Type 0 where
  pub cells : (a t : ℕ) → a < length ls → t < s.tasks
      → Typed s (get_or ls a blank).instruction t (cell (slice_index_or ls a blank) t) (cell (slice_index_or ls (a + 1) blank) t) (cell (slice_index_or ls (target (get_or ls a blank).instruction) blank) t)
  pub futures : (a : ℕ) → a < length ls → KeepsFewer (get_or ls a blank).instruction (get_or ls a blank).row
  pub start : (t : ℕ) → t < s.tasks → Held (cell (slice_index_or ls e blank) t)

-- w is the smallest window among the releases of task t, or 0 where there is none
pub record LeastWindow (ls : List Line) (t w : ℕ) : Type 0 where
  pub none : w ≡ 0 → (a v : ℕ) → a < length ls → (get_or ls a blank).instruction ≢ Release t v
  pub some : (w ≢ 0) → (a : ℕ) × (a < length ls) × ((get_or ls a blank).instruction ≡ Release t w)
  pub least : (a v : ℕ) → a < length ls → (get_or ls a blank).instruction ≡ Release t v → w ≤ v

-- the load sum: each budget times the product of the other windows, all summed, is at most the product of all the windows
pub record LoadFits (s : Sheet) (ls : List Line) (bud : List ℕ) : Type 0 where
  pub budgets : length bud ≡ s.tasks
  pub ticks : (t : ℕ) → t < s.tasks → Ticks (slice_index bud t)
  pub sum : (win : ℕ → ℕ) → ((t : ℕ) → t < s.tasks → LeastWindow ls t (win t))
      → parts s.tasks win (λ t. slice_index bud t) ≤ whole s.tasks win

-- an image and budgets are acceptable as the lines ls
pub record Acceptable (s : Sheet) (im bud : List ℕ) (ls : List Line) : Type 0 where
  pub layout : Layout s im ls
  pub typing : WellTyped s (entry im) ls
  pub load : LoadFits s ls bud

-- accepted exactly when layout, typing and load sum hold: with the lines for which they hold, and refused where there are none
abbrev pub Exactly : Sheet → List ℕ → List ℕ → Result Program LoadFault → Type 0
Exactly s im bud (Ok p) = Acceptable s im bud (lines_of p.listing)
Exactly s im bud (Err e) = (ls : List Line) → Acceptable s im bud ls → ⊥

-- the operands of an instruction are in range: driver, task and condition of the sheet, window and wait of 1 to 240 ticks
abbrev pub Ranged : Sheet → Instruction → Type 0
Ranged s (Call d) = d < s.drivers
Ranged s (Release t w) = (t < s.tasks) × Ticks w
Ranged s (Future x a k) = Ticks x × (k < 2 ^ s.tasks)
Ranged s (If q a) = q < s.conditions
Ranged s (Jump a) = Unit {0}
Ranged s Return = Unit {0}

-- a cell of task t is in range
abbrev pub CellRanged : ℕ → ℕ → Cell → Type 0
CellRanged tasks t NotHeld = Unit {0}
CellRanged tasks t Idle = t < tasks
CellRanged tasks t (Released c r) = (t < tasks) × Ticks (c + r)

-- the bounds that a program's lines keep: entry, operands, addresses, rows
pub record Bounded (s : Sheet) (e : ℕ) (ls : List Line) : Type 0 where
  pub starts : e < length ls
  pub few : length ls ≤ 200
  pub ranges : (a : ℕ) → a < length ls → Ranged s (get_or ls a blank).instruction
  pub addresses : (a : ℕ) → a < length ls → Aimed (length ls) a (get_or ls a blank).instruction
  pub rows : (a t : ℕ) → a < length ls → t < 8 → CellRanged s.tasks t (cell (slice_index_or ls a blank) t)

-- an accepted program
pub record Accepted (s : Sheet) (p : Contents) : Type 0 where
  pub bounds : Bounded s p.entry p.lines
  pub typing : WellTyped s p.entry p.lines
  pub load : LoadFits s p.lines p.budgets

-- what a check promises of its answer: it is the verdict, it accepts exactly what is acceptable, and what it accepts keeps
-- the bounds, the typing and the load sum
pub record Checked (s : Sheet) (im bud : List ℕ) (r : Result Program LoadFault) : Type 0 where
  pub verdict : outcome s.tasks r ≡ verdict s im bud
  pub exactly : Exactly s im bud r
  pub accepted : IfOk r (λ p. Accepted s (contents s.tasks p))

-- a load sum as it is told: so many parts of a whole
pub record LoadIs (tasks : ℕ) (ls : List Line) (bud : List ℕ) (sum : LoadSum) : Type 0 where
  pub parts : sum.parts ≡ parts tasks (window ls) (λ t. slice_index bud t)
  pub whole : sum.whole ≡ whole tasks (window ls)

-- the first program of a bench: a lone return, every task idle, budgets of 1
abbrev pub lone_return : Sheet → Contents
lone_return s = record {
  entry = 0;
  lines = record { instruction = Return; row = listed 8 (λ t. cond (nat_lt t s.tasks) Idle NotHeld) } ∷ [];
  budgets = replicate s.tasks 1;
}
