-- A clock for each task counts its window down from the release, and a call that shares with the task ends it. Where calls come
-- when the clock says so, windows are kept.
use Rattle.std.proofs.Common.{◌≡◌, ℕ, zero, suc, ◌+◌, ◌-◌, ◌<◌, ◌≤◌, Bool, true, false, cond, eqb, ◌⊎◌, List, [], ◌∷◌, ◌++◌, length, get_or, Some, None, Option, sym, refl, ap, ◌∙◌, subst, ⊎_elim, arith}
use Rattle.std.specs.List.{AllByRecursion}
use Rattle.std.proofs.lemmas.Bool.{eq-eqb, or_from, or_parts}
use Rattle.ecode.specs.declared.sheet.Sheet.{Sheet}
use Rattle.ecode.specs.declared.code.Instruction.{Instruction}
use Rattle.ecode.specs.declared.code.Instruction.TheVariants.{Call, Release, Future, If, Jump, Return}
use Rattle.ecode.specs.Sheets.{shares}
use Rattle.ecode.specs.Accepted.{Ranged}
use Rattle.machine.specs.State.{Event}
use Rattle.machine.specs.Windows.{shares_by, some_shares, WindowKept, WindowsKept}

-- ticks from now to the end of the window of the task's release, none once a call shared with it
abbrev pub clocked : Sheet → ℕ → Instruction → Option ℕ → Option ℕ
clocked s t (Call d) c = cond (shares s d t) None c
clocked s t (Release x w) c = cond (eqb t x) (Some w) c
clocked s t (Future x a z) c = c
clocked s t (If q a) c = c
clocked s t (Jump a) c = c
clocked s t Return c = c

abbrev pub clock_after : Sheet → ℕ → Option ℕ → List Event → Option ℕ
clock_after s t c [] = c
clock_after s t c (e ∷ log) = clocked s t e.instruction (clock_after s t c log)

abbrev pub one_tick_less : Option ℕ → Option ℕ
one_tick_less None = None
one_tick_less (Some d) = Some (d - 1)

abbrev pub releases : Instruction → ℕ → Bool
releases (Call d) t = false
releases (Release x w) t = eqb t x
releases (Future x a z) t = false
releases (If q a) t = false
releases (Jump a) t = false
releases Return t = false

abbrev pub window_of : Instruction → ℕ
window_of (Call d) = 0
window_of (Release x w) = w
window_of (Future x a z) = 0
window_of (If q a) = 0
window_of (Jump a) = 0
window_of Return = 0

-- a call that shares with a released task comes at the end of its window, and then the task is not pending; before that the
-- task is not released again; a window is at least 1; and operands are in range
pub record Timely (s : Sheet) (t : ℕ) (c : Option ℕ) (e : Event) : Type 0 where
  pub met : shares_by s e.instruction t ≡ true → ((c ≡ None) ⊎ (c ≡ Some 0)) × (e.pending t ≡ false)
  pub again : releases e.instruction t ≡ true → c ≡ None
  pub room : releases e.instruction t ≡ true → 1 ≤ window_of e.instruction
  pub range : Ranged s e.instruction

abbrev pub OnTime : Sheet → ℕ → Option ℕ → List Event → Type 0
OnTime s t c [] = Unit {0}
OnTime s t c (e ∷ log) = OnTime s t c log × Timely s t (clock_after s t c log) e

-- over the ticks to come: calls share with the task first in the w-th, and find it not pending
abbrev pub Meets : Sheet → ℕ → ℕ → List (List Event) → Type 0
Meets s t w [] = Unit {0}
Meets s t zero (log ∷ later) = ⊥
Meets s t (suc zero) (log ∷ later) = (some_shares s t log ≡ true) × AllByRecursion (λ e. shares_by s e.instruction t ≡ true → e.pending t ≡ false) log
Meets s t (suc (suc w)) (log ∷ later) = (some_shares s t log ≡ false) × Meets s t (suc w) later

clocked_keeps : (s : Sheet) (t : ℕ) (i : Instruction) (c : Option ℕ) → shares_by s i t ≡ false → releases i t ≡ false → clocked s t i c ≡ c
clocked_keeps s t (Call d) c e f = rw e
clocked_keeps s t (Release x w) c e f = rw f
clocked_keeps s t (Future x y z) c e f = refl
clocked_keeps s t (If q y) c e f = refl
clocked_keeps s t (Jump y) c e f = refl
clocked_keeps s t Return c e f = refl

-- while a window runs, an event neither shares with the task nor releases it
steady : (s : Sheet) (t d : ℕ) (c : Option ℕ) (e : Event) → c ≡ Some d → 1 ≤ d → Timely s t c e → (shares_by s e.instruction t ≡ false) × (clocked s t e.instruction c ≡ Some d)
steady s t d c e is pos m = go (shares_by s e.instruction t) refl (releases e.instruction t) refl
  where
    go : (x : Bool) → shares_by s e.instruction t ≡ x → (y : Bool) → releases e.instruction t ≡ y → (shares_by s e.instruction t ≡ false) × (clocked s t e.instruction c ≡ Some d)
    go true u y v = ⊎_elim
        (λ (z : c ≡ None). cc)
        (λ (z : c ≡ Some 0). absurd (let w : d ≡ 0 = cc in omega arith))
        (m.met u).0
    go false u true v = absurd (let z = m.again v in cc)
    go false u false v = (u, clocked_keeps s t e.instruction c u v ∙ is)

-- after the release
since : (s : Sheet) (t w : ℕ) (c : Option ℕ) (new old : List Event) (e : Event) → e.instruction ≡ Release t w → OnTime s t c (new ++ (e ∷ old)) →
    (some_shares s t new ≡ false) × (clock_after s t c (new ++ (e ∷ old)) ≡ Some w) × (1 ≤ w)
since s t w c [] old e is o =
    let r : releases e.instruction t ≡ true = rw is (eq-eqb t t refl) in
    let b : clocked s t e.instruction (clock_after s t c old) ≡ Some w = rw is (rw (eq-eqb t t refl)) in
    let l : window_of e.instruction ≡ w = rw is in
    (refl, b, omega (arith, o.1.room r))
since s t w c (x ∷ new) old e is o =
    let ih = since s t w c new old e is o.0 in
    let st = steady s t w (clock_after s t c (new ++ (e ∷ old))) x ih.1 ih.2 o.1 in
    (or_from (shares_by s x.instruction t) (some_shares s t new) st.0 ih.0, st.1, ih.2)

-- a tick inside the window
quiet : (s : Sheet) (t d : ℕ) (log : List Event) → 1 ≤ d → OnTime s t (Some d) log → (some_shares s t log ≡ false) × (clock_after s t (Some d) log ≡ Some d)
quiet s t d [] pos o = (refl, refl)
quiet s t d (x ∷ log) pos o =
    let ih = quiet s t d log pos o.0 in
    let st = steady s t d (clock_after s t (Some d) log) x ih.1 pos o.1 in
    (or_from (shares_by s x.instruction t) (some_shares s t log) st.0 ih.0, st.1)

-- the tick at its end: without a call that shares, the window would stay open
open_end : (s : Sheet) (t d : ℕ) (log : List Event) → some_shares s t log ≡ false → OnTime s t (Some d) log → clock_after s t (Some d) log ≡ Some d
open_end s t d [] e o = refl
open_end s t d (x ∷ log) e o =
    let p = or_parts (shares_by s x.instruction t) (some_shares s t log) e in
    let ih = open_end s t d log p.1 o.0 in
    go (releases x.instruction t) refl ih p.0
  where
    go : (y : Bool) → releases x.instruction t ≡ y → clock_after s t (Some d) log ≡ Some d → shares_by s x.instruction t ≡ false → clocked s t x.instruction (clock_after s t (Some d) log) ≡ Some d
    go true v ih u = absurd (let z = o.1.again v in cc)
    go false v ih u = clocked_keeps s t x.instruction (clock_after s t (Some d) log) u v ∙ ih

found_idle : (s : Sheet) (t : ℕ) (c : Option ℕ) (log : List Event) → OnTime s t c log → AllByRecursion (λ e. shares_by s e.instruction t ≡ true → e.pending t ≡ false) log
found_idle s t c [] o = tt
found_idle s t c (x ∷ log) o = ((λ u. (o.1.met u).1), found_idle s t c log o.0)

abbrev pub Clocked : Sheet → ℕ → Option ℕ → List (List Event) → Type 0
Clocked s t c [] = Unit {0}
Clocked s t c (log ∷ later) = OnTime s t (one_tick_less c) log × (clock_after s t (one_tick_less c) log ≡ Some 0 → ⊥) × Clocked s t (clock_after s t (one_tick_less c) log) later

meets : (s : Sheet) (t d : ℕ) (c : Option ℕ) (later : List (List Event)) → c ≡ Some d → 1 ≤ d → Clocked s t c later → Meets s t d later
meets s t zero c [] e pos k = tt
meets s t (suc zero) c [] e pos k = tt
meets s t (suc (suc d)) c [] e pos k = tt
meets s t zero c (log ∷ later) e pos k = absurd (omega arith)
meets s t (suc zero) c (log ∷ later) e pos k =
    let k' : Clocked s t (Some 1) (log ∷ later) = subst (λ (o : Option ℕ). Clocked s t o (log ∷ later)) e k in
    (go (some_shares s t log) refl k', found_idle s t (Some 0) log k'.0)
  where
    go : (b : Bool) → some_shares s t log ≡ b → Clocked s t (Some 1) (log ∷ later) → some_shares s t log ≡ true
    go true u k = u
    go false u k = absurd (k.1 (open_end s t 0 log u k.0))
meets s t (suc (suc d)) c (log ∷ later) e pos k =
    let f : one_tick_less c ≡ Some (suc d) = rw e (ap (λ (n : ℕ). Some n) (let z : suc (suc d) - 1 ≡ suc d = omega arith in z)) in
    let o : OnTime s t (Some (suc d)) log = subst (λ (x : Option ℕ). OnTime s t x log) f k.0 in
    let q = quiet s t (suc d) log (omega arith) o in
    let g : clock_after s t (one_tick_less c) log ≡ Some (suc d) = ap (λ (x : Option ℕ). clock_after s t x log) f ∙ q.1 in
    (q.0, meets s t (suc d) (clock_after s t (one_tick_less c) log) later g (omega arith) k.2)

-- what the ticks to come meet, by their numbers
meets_before : (s : Sheet) (t w : ℕ) (later : List (List Event)) (k : ℕ) → Meets s t w later → k + 1 < w → k < length later → some_shares s t (get_or later k []) ≡ false
meets_before s t w [] k m l n = absurd (omega arith)
meets_before s t zero (log ∷ later) k m l n = absurd (omega arith)
meets_before s t (suc zero) (log ∷ later) k m l n = absurd (omega arith)
meets_before s t (suc (suc w)) (log ∷ later) zero m l n = m.0
meets_before s t (suc (suc w)) (log ∷ later) (suc k) m l n = meets_before s t (suc w) later k m.1 (omega arith) (omega arith)

-- the tick at the end
abbrev AtEnd : Sheet → ℕ → List Event → Type 0
AtEnd s t log = (some_shares s t log ≡ true) × AllByRecursion (λ e. shares_by s e.instruction t ≡ true → e.pending t ≡ false) log

meets_end : (s : Sheet) (t w : ℕ) (later : List (List Event)) → Meets s t (suc w) later → w < length later → AtEnd s t (get_or later w [])
meets_end s t w [] m l = absurd (omega arith)
meets_end s t zero (log ∷ later) m l = m
meets_end s t (suc w) (log ∷ later) m l = meets_end s t w later m.1 (omega arith)

-- a release in the first of the ticks
first_kept : (s : Sheet) (t w : ℕ) (log : List Event) (later : List (List Event)) (since : List Event) → 1 ≤ w → some_shares s t since ≡ false → Meets s t w later →
    WindowKept s (log ∷ later) 0 since t w
first_kept s t zero log later since pos none m = absurd (omega arith)
first_kept s t (suc w) log later since pos none m = record {
  rest_of_tick = none;
  before = λ k l n o. (let z : 0 + k ≡ suc (k - 1) = omega arith in
      subst (λ (j : ℕ). some_shares s t (get_or (log ∷ later) j []) ≡ false) (sym z) (meets_before s t (suc w) later (k - 1) m (omega arith) (omega arith)));
  at_end = λ o. (let z : 0 + suc w ≡ suc w = omega arith in
      subst (λ (j : ℕ). some_shares s t (get_or (log ∷ later) j []) ≡ true) (sym z) (meets_end s t w later m (omega arith)).0);
  ended = λ o. (let z : 0 + suc w ≡ suc w = omega arith in
      subst (λ (j : ℕ). AllByRecursion (λ e. shares_by s e.instruction t ≡ true → e.pending t ≡ false) (get_or (log ∷ later) j [])) (sym z) (meets_end s t w later m (omega arith)).1);
}

-- a release in a later one
later_kept : (s : Sheet) (t w : ℕ) (log : List Event) (later : List (List Event)) (i : ℕ) (since : List Event) → WindowKept s later i since t w → WindowKept s (log ∷ later) (suc i) since t w
later_kept s t w log later i since r = record {
  rest_of_tick = r.rest_of_tick;
  before = λ k l n o. (let z : suc i + k ≡ suc (i + k) = omega arith in
      subst (λ (j : ℕ). some_shares s t (get_or (log ∷ later) j []) ≡ false) (sym z) (r.before k l n (omega arith)));
  at_end = λ o. (let z : suc i + w ≡ suc (i + w) = omega arith in
      subst (λ (j : ℕ). some_shares s t (get_or (log ∷ later) j []) ≡ true) (sym z) (r.at_end (omega arith)));
  ended = λ o. (let z : suc i + w ≡ suc (i + w) = omega arith in
      subst (λ (j : ℕ). AllByRecursion (λ e. shares_by s e.instruction t ≡ true → e.pending t ≡ false) (get_or (log ∷ later) j [])) (sym z) (r.ended (omega arith)));
}

-- a task that an event releases is one of the sheet
released_below : (s : Sheet) (t w : ℕ) (c : Option ℕ) (after before : List Event) (e : Event) → e.instruction ≡ Release t w → OnTime s 0 c (after ++ (e ∷ before)) → t < s.tasks
released_below s t w c [] before e did o = (subst (Ranged s) did o.1.range).0
released_below s t w c (x ∷ after) before e did o = released_below s t w c after before e did o.0

pub clocked_kept : (s : Sheet) → 1 ≤ s.tasks → (c : ℕ → Option ℕ) (ticks : List (List Event)) → ((t : ℕ) → t < s.tasks → Clocked s t (c t) ticks) → WindowsKept s ticks
clocked_kept s some c [] k i t w after before e l was did = absurd (omega arith)
clocked_kept s some c (log ∷ later) k zero t w after before e l was did =
    let j : t < s.tasks = released_below s t w (one_tick_less (c 0)) after before e did (subst (OnTime s 0 (one_tick_less (c 0))) was (k 0 some).0) in
    let o : OnTime s t (one_tick_less (c t)) (after ++ (e ∷ before)) = subst (OnTime s t (one_tick_less (c t))) was (k t j).0 in
    let r = since s t w (one_tick_less (c t)) after before e did o in
    let g : clock_after s t (one_tick_less (c t)) log ≡ Some w = ap (clock_after s t (one_tick_less (c t))) was ∙ r.1 in
    first_kept s t w log later after r.2 r.0 (meets s t w (clock_after s t (one_tick_less (c t)) log) later g r.2 (k t j).2)
clocked_kept s some c (log ∷ later) k (suc i) t w after before e l was did =
    later_kept s t w log later i after (clocked_kept s some (λ t. clock_after s t (one_tick_less (c t)) log) later (λ t j. (k t j).2) i t w after before e (omega arith) was did)
