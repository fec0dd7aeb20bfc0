-- What a run rests on: an accepted program, place by place. The tasks that a future leaves to its binding are where the kept set
-- has fewer members than the row holds.
use Rattle.std.proofs.Common.{◌≡◌, ℕ, zero, ◌+◌, ◌/◌, ◌^◌, ◌<◌, ◌≤◌, Bool, true, false, cond, length, get_or, Some, None, Option, sym, subst, ⊎_elim, arith}
use native.Mathlib.Nat.{div-eq_of_lt, pow-le-pow_right}
use Rattle.std.proofs.lemmas.Bool.{cases_lt}
use Rattle.ecode.specs.declared.sheet.Sheet.{Sheet}
use Rattle.ecode.specs.declared.code.Cell.{Cell}
use Rattle.ecode.specs.declared.code.Cell.TheVariants.{NotHeld, Idle, Released}
use Rattle.ecode.specs.declared.code.Instruction.{Instruction}
use Rattle.ecode.specs.declared.code.Instruction.TheVariants.{Call, Release, Future, If, Jump, Return}
use Rattle.ecode.specs.Sheets.{In}
use Rattle.ecode.specs.Instructions.{target}
use Rattle.ecode.specs.Typing.{blank}
use Rattle.ecode.specs.Verdict.{Contents}
use Rattle.ecode.specs.Accepted.{Aimed, Held, Typed, KeepsFewer, CellRanged, Ranged, Accepted}
use Rattle.ecode.specs.Laws.{Among}
use Rattle.ecode.proofs.Partings.{parting}
use Rattle.host.specs.Meaning.{Meaning}
use Rattle.machine.specs.State.{Ports, size, instruction_at}
use Rattle.machine.specs.Runner.{next_after}
use Rattle.machine.proofs.Cells.{cell_at}

-- a future leaves a held task to its binding
abbrev pub Parts : ℕ → (ℕ → Cell) → Instruction → Type 0
Parts n cells (Call d) = Unit {0}
Parts n cells (Release x w) = Unit {0}
Parts n cells (Future x a z) = (t : ℕ) × (t < n) × Held (cells t) × (In t z → ⊥)
Parts n cells (If q a) = Unit {0}
Parts n cells (Jump a) = Unit {0}
Parts n cells Return = Unit {0}

pub record Formed (s : Sheet) (p : Contents) : Type 0 where
  pub inside : p.entry < size p
  pub whole : (t : ℕ) → t < s.tasks → Held (cell_at p p.entry t)
  pub cells : (a : ℕ) → a < size p → (t : ℕ) → t < s.tasks →
      Typed s (instruction_at p a) t (cell_at p a t) (cell_at p (a + 1) t) (cell_at p (target (instruction_at p a)) t)
  pub leaves : (a : ℕ) → a < size p → Parts s.tasks (cell_at p a) (instruction_at p a)
  pub ranges : (a : ℕ) → a < size p → Ranged s (instruction_at p a)
  pub aims : (a : ℕ) → a < size p → Aimed (size p) a (instruction_at p a)

-- the address where a thread goes on is higher, and in the program
abbrev pub Higher : Contents → ℕ → Option ℕ → Type 0
Higher p a None = Unit {0}
Higher p a (Some b) = (a < b) × (b < size p)

pub higher : (m : Meaning) (p : Contents) (i : Instruction) (a : ℕ) (v : Ports) → Aimed (size p) a i → Higher p a (next_after m i a v)
higher m p (Call d) a v e = (omega arith, e)
higher m p (Release x w) a v e = (omega arith, e)
higher m p (Future x y z) a v e = (omega arith, e.0)
higher m p (If c y) a v e = go (m.test c v)
  where
    go : (b : Bool) → (a < cond b y (a + 1)) × (cond b y (a + 1) < size p)
    go true = (e.2, e.1)
    go false = (omega arith, e.0)
higher m p (Jump y) a v e = (e.1, e.0)
higher m p Return a v e = tt

-- a set below 2 ^ n has no member from n on
beyond : (z n t : ℕ) → z < 2 ^ n → n ≤ t → In t z → ⊥
beyond z n t h le i =
    let two : zero < 2 = omega arith in
    let up : 2 ^ n ≤ 2 ^ t = pow-le-pow_right two le in
    let small : z < 2 ^ t = omega arith in
    let none : z / 2 ^ t ≡ 0 = div-eq_of_lt small in
    omega arith

-- only tasks of the sheet are held
held_below : (n t : ℕ) (c : Cell) → CellRanged n t c → Held c → t < n
held_below n t NotHeld r i = absurd i
held_below n t Idle r i = r
held_below n t (Released c d) r i = r.0

module _ (s : Sheet) (p : Contents) (few : s.tasks ≤ 8) (ok : Accepted s p) (rows : (a : ℕ) → a < size p → length (get_or p.lines a blank).row ≡ 8) where
  parts_at : (a : ℕ) → a < size p → (i : Instruction) → Ranged s i → KeepsFewer i (get_or p.lines a blank).row →
      ((t : ℕ) → t < s.tasks → Typed s i t (cell_at p a t) (cell_at p (a + 1) t) (cell_at p (target i) t)) → Parts s.tasks (cell_at p a) i
  parts_at a l (Call d) r k c = tt
  parts_at a l (Release x w) r k c = tt
  parts_at a l (If q y) r k c = tt
  parts_at a l (Jump y) r k c = tt
  parts_at a l Return r k c = tt
  parts_at a l (Future x y z) r k c =
      let e = rows a l in
      let two : zero < 2 = omega arith in
      let up : 2 ^ s.tasks ≤ 2 ^ 8 = pow-le-pow_right two few in
      let small : z < 2 ^ length (get_or p.lines a blank).row = subst (λ (n : ℕ). z < 2 ^ n) (sym e) (omega (arith, r.1)) in
      let found = (parting z (get_or p.lines a blank).row small among).0 k in
      let t = found.0 in
      (t, held_below s.tasks t (cell_at p a t) (ok.bounds.rows a t l (omega (arith, found.1))) found.2, found.2, found.3)
    where
      among : Among z (get_or p.lines a blank).row
      among t h i = ⊎_elim (λ (b : t < s.tasks). ((c t b).0 i).0) (λ (b : s.tasks ≤ t). absurd (beyond z s.tasks t r.1 b i)) (cases_lt t s.tasks)

  pub formed : Formed s p
  formed = record {
    inside = ok.bounds.starts;
    whole = ok.typing.start;
    cells = λ a l t j. ok.typing.cells a t l j;
    leaves = λ a l. parts_at a l (instruction_at p a) (ok.bounds.ranges a l) (ok.typing.futures a l) (λ t j. ok.typing.cells a t l j);
    ranges = ok.bounds.ranges;
    aims = ok.bounds.addresses;
  }
