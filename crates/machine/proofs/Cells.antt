-- What one task's cells say along an instruction: it is held once at most, a pending task is released exactly once, and its
-- ticks left are what the row that holds it says.
use Rattle.std.proofs.Common.{◌≡◌, ℕ, ◌+◌, ◌-◌, ◌*◌, ◌<◌, ◌≤◌, Bool, true, false, ◌⊎◌, get_or, Some, None, Option, sym, refl, inl, inr, true≢false, add-zero, arith}
use mathlib.Core.Bool.{false≢true}
use Rattle.ecode.specs.declared.code.Cell.{Cell}
use Rattle.ecode.specs.declared.code.Cell.TheVariants.{NotHeld, Idle, Released}
use Rattle.ecode.specs.Typing.{aged, cell, blank}
use Rattle.ecode.specs.Verdict.{Contents}
use Rattle.ecode.specs.Accepted.{Flows, Touchable, IsIdle, IsReleased, Lasts}
use Rattle.machine.specs.State.{Ports, Job}

-- what the row at address a says of task t
abbrev pub cell_at : Contents → ℕ → ℕ → Cell
cell_at p a t = cell (get_or p.lines a blank) t

abbrev pub held_count : Cell → ℕ
held_count NotHeld = 0
held_count Idle = 1
held_count (Released c r) = 1

abbrev pub released_count : Cell → ℕ
released_count NotHeld = 0
released_count Idle = 0
released_count (Released c r) = 1

-- ticks to the deadline that a row claims, in a binding that waits x ticks
abbrev pub due_in : ℕ → Cell → ℕ
due_in x NotHeld = 0
due_in x Idle = 0
due_in x (Released c r) = r + x

-- of a pending task: released once, with the ticks left that its row says, and budget left
abbrev pub Pends : ℕ → Option Job → ℕ → ℕ → Type 0
Pends b None o d = Unit {0}
Pends b (Some k) o d = (o ≡ 1) × (k.left ≡ d) × (k.used < b)

-- slots owed
abbrev pub owed : ℕ → Option Job → ℕ
owed b None = 0
owed b (Some k) = b - k.used

-- c is the task's cell in the running thread's row; H, O, D are sums over the waiting bindings: holding it, having it released,
-- ticks to its deadline
pub record TaskSound (b : ℕ) (c : Cell) (H O D : ℕ) (k : Option Job) : Type 0 where
  pub one : held_count c + H ≤ 1
  pub low : O ≤ H
  pub none : O ≡ 0 → D ≡ 0
  pub pending : Pends b k (released_count c + O) (due_in 0 c + D)

-- the ticks to the deadline and the slots owed: kept, or new where both were 0
abbrev pub KeptOrNew : ℕ → ℕ → ℕ → ℕ → ℕ → ℕ → Type 0
KeptOrNew K rate l r l' r' = ((l' ≡ l) × (r' ≤ r)) ⊎ ((l ≡ 0) × (r ≡ 0) × (K * r' ≤ rate * l'))

pub record Moved (touch : Bool) (K rate b : ℕ) (c : Cell) (H O D : ℕ) (k : Option Job) (c' : Cell) (H' O' D' : ℕ) (k' : Option Job) : Type 0 where
  pub inv : TaskSound b c' H' O' D' k'
  pub load : KeptOrNew K rate (due_in 0 c + D) (owed b k) (due_in 0 c' + D') (owed b k')
  -- released, it stays released with its deadline unless a call touches it, and such a call comes at the deadline
  pub stays : touch ≡ false → released_count c + O ≡ 1 → (released_count c' + O' ≡ 1) × (due_in 0 c' + D' ≡ due_in 0 c + D)
  pub meets : touch ≡ true → released_count c + O ≡ 1 → due_in 0 c + D ≡ 0

none_owed : (b d : ℕ) (k : Option Job) → Pends b k 0 d → owed b k ≡ 0
none_owed b d None p = refl
none_owed b d (Some k) p = omega arith

pends_none : (b d o' d' : ℕ) (k : Option Job) → Pends b k 0 d → Pends b k o' d'
pends_none b d o' d' None p = tt
pends_none b d o' d' (Some k) p = absurd (omega arith)

pub pends_at : (b : ℕ) (k : Option Job) (o d o' d' : ℕ) → o ≡ o' → d ≡ d' → Pends b k o d → Pends b k o' d'
pends_at b None o d o' d' e f p = tt
pends_at b (Some k) o d o' d' e f p = (omega arith, omega arith, p.2)

module _ (K rate b H O D : ℕ) (k : Option Job) where
  same : (c : Cell) → TaskSound b c H O D k → Moved false K rate b c H O D k c H O D k
  same c i = record { inv = i; load = inl (refl, omega arith); stays = λ e o. (o, refl); meets = λ e o. absurd (false≢true e) }

  -- the task is where it was, in another place
  carried : (c c' : Cell) (H' O' D' : ℕ) → held_count c' + H' ≤ 1 → O' ≤ H' → (O' ≡ 0 → D' ≡ 0) → released_count c + O ≡ released_count c' + O' → due_in 0 c + D ≡ due_in 0 c' + D' →
      TaskSound b c H O D k → Moved false K rate b c H O D k c' H' O' D' k
  carried c c' H' O' D' one low none o d i = record {
    inv = record { one = one; low = low; none = none; pending = pends_at b k (released_count c + O) (due_in 0 c + D) (released_count c' + O') (due_in 0 c' + D') o d i.pending };
    load = inl (sym d, omega arith);
    stays = λ e z. (omega arith, sym d);
    meets = λ e z. absurd (false≢true e);
  }

  -- an idle task is held by the thread alone, and is not pending
  alone : TaskSound b Idle H O D k → (H ≡ 0) × (O ≡ 0) × (D ≡ 0) × Pends b k 0 0
  alone i =
      let h : H ≡ 0 = omega arith in
      let o : O ≡ 0 = omega arith in
      let d : D ≡ 0 = i.none o in
      (h, o, d, pends_at b k (0 + O) (0 + D) 0 0 (omega arith) (omega arith) i.pending)

  -- an idle task claimed as released
  claim : (c r : ℕ) → TaskSound b Idle H O D k → Moved false K rate b Idle H O D k (Released c r) H O D k
  claim c r i =
      let a = alone i in
      record {
        inv = record { one = omega arith; low = omega arith; none = i.none; pending = pends_none b 0 (1 + O) (r + 0 + D) k a.3 };
        load = inr (omega arith, none_owed b 0 k a.3, rw (none_owed b 0 k a.3) (omega arith));
        stays = λ e o. absurd (omega arith);
        meets = λ e o. absurd (false≢true e);
      }

  pub along : (c n : Cell) → Flows c n → TaskSound b c H O D k → Moved false K rate b c H O D k n H O D k
  along NotHeld NotHeld e i = same NotHeld i
  along NotHeld Idle e i = absurd e
  along NotHeld (Released d s) e i = absurd e
  along Idle NotHeld e i = absurd e
  along Idle Idle e i = same Idle i
  along Idle (Released d s) e i = claim d s i
  along (Released c r) NotHeld e i = absurd e
  along (Released c r) Idle e i = absurd e
  along (Released c r) (Released d s) e i =
      let p : c ≡ d = e.0 in
      let q : r ≡ s = e.1 in
      rw (← p, ← q) (same (Released c r) i)

  -- a call that shares with the task, which is not pending: idle from here on
  pub touches : (c n : Cell) → Touchable c → Flows Idle n → k ≡ None → TaskSound b c H O D k → Moved true K rate b c H O D k n H O D k
  touches NotHeld n e f z i = absurd e
  touches Idle n e f z i =
      let a = alone i in
      let m = along Idle n f i in
      record { inv = m.inv; load = m.load; stays = λ e o. absurd (true≢false e); meets = λ e o. absurd (omega arith) }
  touches (Released c r) n e f z i =
      let q : r ≡ 0 = e in
      let h : H ≡ 0 = omega arith in
      let o : O ≡ 0 = omega arith in
      let d : D ≡ 0 = i.none o in
      let w : owed b k ≡ 0 = rw z refl in
      let j : TaskSound b Idle H O D k = record { one = i.one; low = i.low; none = i.none; pending = rw z tt } in
      let m = along Idle n f j in
      record {
        inv = m.inv;
        load = inr (omega arith, w, rw w (omega arith));
        stays = λ e o. absurd (true≢false e);
        meets = λ e o. omega arith;
      }

  -- a release with a window whose flow covers the budget
  pub starts : (c n : Cell) (w : ℕ) (v : Ports) → 1 ≤ b → K * b ≤ rate * w → IsIdle c → Flows (Released 0 w) n → TaskSound b c H O D k →
      Moved false K rate b c H O D k n H O D (Some (record { left = w; used = 0; taken = v })) × (released_count n + O ≡ 1) × (due_in 0 n + D ≡ w)
  starts NotHeld n w v pos cover e f i = absurd e
  starts (Released c r) n w v pos cover e f i = absurd e
  starts Idle NotHeld w v pos cover e f i = absurd f
  starts Idle Idle w v pos cover e f i = absurd f
  starts Idle (Released d s) w v pos cover e f i =
      let a = alone i in
      let q : w ≡ s = f.1 in (
        record {
          inv = record { one = omega arith; low = omega arith; none = i.none; pending = (omega arith, omega arith, omega arith) };
          load = inr (omega arith, none_owed b 0 k a.3, (rw (← q) (covers (omega arith))));
          stays = λ e o. absurd (omega arith);
          meets = λ e o. absurd (false≢true e);
        },
        omega arith,
        omega arith,
      )
    where
      covers : D ≡ 0 → K * (b - 0) ≤ rate * (w + 0 + D)
      covers z = rw z (let p : b - 0 ≡ b = omega arith in let q : w + 0 + 0 ≡ w = omega arith in rw (p, q) cover)

  -- a future keeps the task
  pub keeps : (c n y : Cell) (x : ℕ) → Flows c n → Flows NotHeld y → TaskSound b c H O D k →
      Moved false K rate b c H O D k n (H + held_count y) (O + released_count y) (D + due_in x y) k
  keeps c n NotHeld x f g i = rw (add-zero H, add-zero O, add-zero D) (along c n f i)
  keeps c n Idle x f g i = absurd g
  keeps c n (Released d s) x f g i = absurd g

  -- a future sends it on
  pub sends : (c n y : Cell) (x : ℕ) → Flows NotHeld n → Lasts x c → Flows (aged x c) y → TaskSound b c H O D k →
      Moved false K rate b c H O D k n (H + held_count y) (O + released_count y) (D + due_in x y) k
  sends c Idle y x f g e i = absurd f
  sends c (Released d s) y x f g e i = absurd f
  sends NotHeld NotHeld NotHeld x f g e i = rw (add-zero H, add-zero O, add-zero D) (same NotHeld i)
  sends NotHeld NotHeld Idle x f g e i = absurd e
  sends NotHeld NotHeld (Released d s) x f g e i = absurd e
  sends Idle NotHeld NotHeld x f g e i = absurd e
  sends Idle NotHeld Idle x f g e i =
      let a = alone i in
      carried Idle NotHeld (H + 1) (O + 0) (D + 0) (omega arith) (omega arith) (λ z. omega arith) (omega arith) (omega arith) i
  sends Idle NotHeld (Released d s) x f g e i =
      let a = alone i in
      record {
        inv = record { one = omega arith; low = omega arith; none = λ z. absurd (omega arith); pending = pends_none b 0 (0 + (O + 1)) (0 + (D + (s + x))) k a.3 };
        load = inr (omega arith, none_owed b 0 k a.3, rw (none_owed b 0 k a.3) (omega arith));
        stays = λ e o. absurd (omega arith);
        meets = λ e o. absurd (false≢true e);
      }
  sends (Released c r) NotHeld NotHeld x f g e i = absurd e
  sends (Released c r) NotHeld Idle x f g e i = absurd e
  sends (Released c r) NotHeld (Released d s) x f g e i =
      let q : r - x ≡ s = e.1 in
      let l : x ≤ r = g in
      carried (Released c r) NotHeld (H + 1) (O + 1) (D + (s + x)) (omega arith) (omega arith) (λ z. absurd (omega arith)) (omega arith) (omega arith) i

  pub returns : (c : Cell) → (IsReleased c → ⊥) → TaskSound b c H O D k → Moved false K rate b c H O D k NotHeld H O D k
  returns NotHeld e i = same NotHeld i
  returns Idle e i = carried Idle NotHeld H O D (omega arith) i.low i.none (omega arith) (omega arith) i
  returns (Released c r) e i = absurd (e tt)
