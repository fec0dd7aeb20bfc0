-- The typing rules decide what they say. Assumes nothing.
use Rattle.std.proofs.Common.{◌≡◌, ℕ, ◌+◌, ◌/◌, ◌%◌, ◌^◌, ◌<◌, Bool, true, false, cond, not, ◌&&◌, ◌||◌, eqb, List, get_or, Decides, refl, arith}
use lib.Count.{ones}
use Rattle.std.proofs.lemmas.Bool.Decides.{Decides-eqb, Decides-and, Decides-not, Decides-like, Decides-at, Decides-ltb}
use Rattle.ecode.specs.declared.sheet.Sheet.{Sheet}
use Rattle.ecode.specs.declared.code.Cell.{Cell}
use Rattle.ecode.specs.declared.code.Cell.TheVariants.{NotHeld, Idle, Released}
use Rattle.ecode.specs.declared.code.Instruction.{Instruction}
use Rattle.ecode.specs.declared.code.Instruction.TheVariants.{Call, Release, Future, If, Jump, Return}
use Rattle.ecode.specs.declared.code.Line.{Line}
use Rattle.ecode.specs.Wiring.{all_below, has}
use Rattle.ecode.specs.Sheets.{shares}
use Rattle.ecode.specs.Instructions.{target}
use Rattle.ecode.specs.Typing.{flows, held, touchable, idle, released, lasts, aged, cell_rule, keeps_fewer, held_set, cell, blank, well_typed}
use Rattle.ecode.specs.Accepted.{Held, Typed, KeepsFewer}
use Rattle.loader.proofs.Tells.{tells_yes, tells_when, tells_flows, tells_held, tells_touchable, tells_idle, tells_released, tells_lasts}
use Rattle.ecode.proofs.Meets.{tells_shares}
use Rattle.ecode.proofs.Lists.{all_at, all_from}

-- a test with `true` beside it
beside : {P : Type 0} (b : Bool) → Decides b P → Decides (b && true) P
beside b d = Decides-like (b && true) (λ h. h.0) (λ h. (h, tt)) (Decides-and b true d tells_yes)

pub tells_cell : (s : Sheet) (i : Instruction) (t : ℕ) (c n y : Cell) → Decides (cell_rule s i t c n y) (Typed s i t c n y)
unfolding cell_rule
tells_cell s (Call d) t c n y =
    Decides-at _ (cond (shares s d t) (touchable c && (flows Idle n && true)) (flows c n && true)) (go (shares s d t))
    (tells_when (shares s d t) _ _ (tells_shares s d t) (Decides-and (touchable c) (flows Idle n && true) (tells_touchable c) (beside (flows Idle n) (tells_flows Idle n)))
    (beside (flows c n) (tells_flows c n)))
  where
    go : (b : Bool) → ((not b || touchable c) && (flows (cond b Idle c) n && true)) ≡ cond b (touchable c && (flows Idle n && true)) (flows c n && true)
    go true = refl
    go false = refl
tells_cell s (Release x w) t c n y =
    Decides-at _ (cond (eqb t x) (idle c && (flows (Released 0 w) n && true)) (flows c n && true)) (go (eqb t x))
    (tells_when (eqb t x) _ _ (Decides-eqb t x) (Decides-and (idle c) (flows (Released 0 w) n && true) (tells_idle c) (beside (flows (Released 0 w) n) (tells_flows (Released 0 w) n)))
    (beside (flows c n) (tells_flows c n)))
  where
    go : (b : Bool) → ((not b || idle c) && (flows (cond b (Released 0 w) c) n && true)) ≡ cond b (idle c && (flows (Released 0 w) n && true)) (flows c n && true)
    go true = refl
    go false = refl
tells_cell s (Future x a z) t c n y =
    Decides-at _ (cond (has z t) (held c && (flows c n && flows NotHeld y)) (flows NotHeld n && (lasts x c && flows (aged x c) y))) (go (has z t))
    (tells_when (has z t) _ _ (Decides-eqb (z / 2 ^ t % 2) 1)
    (Decides-like (held c && (flows c n && flows NotHeld y)) (λ h. (h.0, h.1.0, h.1.1)) (λ h. (h.0, (h.1, h.2)))
    (Decides-and (held c) _ (tells_held c) (Decides-and (flows c n) (flows NotHeld y) (tells_flows c n) (tells_flows NotHeld y))))
    (Decides-like (flows NotHeld n && (lasts x c && flows (aged x c) y)) (λ h. (h.0, h.1.0, h.1.1)) (λ h. (h.0, (h.1, h.2)))
    (Decides-and (flows NotHeld n) _ (tells_flows NotHeld n) (Decides-and (lasts x c) (flows (aged x c) y) (tells_lasts x c) (tells_flows (aged x c) y)))))
  where
    swap : (p q r : Bool) → (p && (q && r)) ≡ (q && (p && r))
    swap true true r = refl
    swap true false r = refl
    swap false true r = refl
    swap false false r = refl

    go : (b : Bool) → (cond b (held c) (lasts x c) && (flows (cond b c NotHeld) n && flows (cond b NotHeld (aged x c)) y))
        ≡ cond b (held c && (flows c n && flows NotHeld y)) (flows NotHeld n && (lasts x c && flows (aged x c) y))
    go true = refl
    go false = swap (lasts x c) (flows NotHeld n) (flows (aged x c) y)
tells_cell s (If q a) t c n y = Decides-and (flows c n) (flows c y) (tells_flows c n) (tells_flows c y)
tells_cell s (Jump a) t c n y = tells_flows c y
tells_cell s Return t c n y = beside (not (released c)) (Decides-not (released c) (tells_released c))

pub tells_fewer : (i : Instruction) (row : List Cell) → Decides (keeps_fewer i row) (KeepsFewer i row)
tells_fewer (Call d) row = tells_yes
tells_fewer (Release x w) row = tells_yes
tells_fewer (Future x a z) row = Decides-ltb (ones z) (ones (held_set row))
tells_fewer (If q a) row = tells_yes
tells_fewer (Jump a) row = tells_yes
tells_fewer Return row = tells_yes

pub tells_all : (n : ℕ) (f : ℕ → Bool) (P : ℕ → Type 0) → ((k : ℕ) → Decides (f k) (P k)) → Decides (all_below n f) ((k : ℕ) → k < n → P k)
tells_all n f P d = ((λ e k h. (d k).0 (all_at f n k e h)), λ all. all_from f n (λ k h. (d k).1 (all k h)))

tells_implied : {P Q : Type 0} (a b : Bool) → Decides a P → Decides b Q → Decides (not a || b) (P → Q)
tells_implied true b p q = ((λ e _. q.0 e), λ h. q.1 (h (p.0 refl)))
tells_implied false b p q = ((λ _ w. let z : ◌≡◌ {A = ℕ} 0 1 = lie (p.1 w) in absurd (omega arith)), λ _. refl)
  where
    lie : false ≡ true → ◌≡◌ {A = ℕ} 0 1
    lie e = cc

module _ (s : Sheet) (ls : List Line) (e a : ℕ) where
  abbrev l : Line
  l = get_or ls a blank

  pub tells_typed : Decides (well_typed s ls e a)
      ((((t : ℕ) → t < s.tasks → Typed s l.instruction t (cell l t) (cell (get_or ls (a + 1) blank) t) (cell (get_or ls (target l.instruction) blank) t)) × KeepsFewer l.instruction l.row)
      × (a ≡ e → (t : ℕ) → t < s.tasks → Held (cell l t)))
  unfolding well_typed
  tells_typed = Decides-and _ _
      (Decides-and _ _ (tells_all s.tasks _ _ (λ t. tells_cell s l.instruction t (cell l t) (cell (get_or ls (a + 1) blank) t) (cell (get_or ls (target l.instruction) blank) t))) (tells_fewer l.instruction l.row))
      (tells_implied (eqb a e) _ (Decides-eqb a e) (tells_all s.tasks _ _ (λ t. tells_held (cell l t))))
