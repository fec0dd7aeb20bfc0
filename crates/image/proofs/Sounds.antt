-- Cells that are read from records are small. Assumes nothing.
use Rattle.std.proofs.Common.{◌≡◌, ℕ, zero, suc, ◌+◌, ◌*◌, ◌<◌, Bool, true, false, cond, ◌&&◌, eqb, ltb, leb, List, get_or, drop, Some, None, unwrap_or, sym, refl, subst, inl, inr, arith}
use Rattle.std.proofs.lemmas.Bool.{cases_lt, and_parts, leb-true}
use Rattle.std.proofs.lemmas.List.{get_or_past}
use Rattle.ecode.specs.declared.sheet.Sheet.{Sheet}
use Rattle.ecode.specs.declared.code.Cell.TheVariants.{NotHeld, Idle, Released}
use Rattle.ecode.specs.Image.{is_ticks, cell_of, cell_in, row_in, lines, line, record_at}
use Rattle.ecode.specs.Typing.{cell, blank}
use Rattle.ecode.specs.Parts.{Small, Sound}
use Rattle.ecode.proofs.Lists.{length_listed, getD_listed}

small_of : (tasks t c r : ℕ) → Small (unwrap_or (cell_of tasks t c r) NotHeld)
small_of tasks t c r = away (eqb c 255 && eqb r 0)
  where
    out : (b : Bool) → b ≡ (ltb t tasks && is_ticks (c + r)) → Small (unwrap_or (cond b (Some (Released c r)) None) NotHeld)
    out true e = leb-true (c + r) 240 (and_parts (leb 1 (c + r)) (leb (c + r) 240) (and_parts (ltb t tasks) (is_ticks (c + r)) (sym e)).1).1
    out false e = omega arith

    idle : (b : Bool) → Small (unwrap_or (cond b (Some Idle) (cond (ltb t tasks && is_ticks (c + r)) (Some (Released c r)) None)) NotHeld)
    idle true = omega arith
    idle false = out (ltb t tasks && is_ticks (c + r)) refl

    away : (b : Bool) → Small (unwrap_or (cond b (Some NotHeld) (cond (ltb t tasks && (eqb c 254 && eqb r 0)) (Some Idle) (cond (ltb t tasks && is_ticks (c + r)) (Some (Released c r)) None))) NotHeld)
    away true = omega arith
    away false = idle (ltb t tasks && (eqb c 254 && eqb r 0))

small_row : (tasks : ℕ) (ps : List ℕ) (t : ℕ) → Small (get_or (row_in tasks ps) t NotHeld)
small_row tasks ps t = elim (cases_lt t 8) [
  | inl h ↦ subst Small (sym (getD_listed 8 (λ k. unwrap_or (cell_in tasks ps k) NotHeld) t NotHeld h)) (small_of tasks t (get_or ps (2 * t) 0) (get_or ps (2 * t + 1) 0))
  | inr h ↦ subst Small (sym (get_or_past (row_in tasks ps) t NotHeld (let l = length_listed 8 (λ k. unwrap_or (cell_in tasks ps k) NotHeld) in omega arith))) (omega arith)
]

small_blank : (t : ℕ) → Small (cell blank t)
small_blank t = elim (cases_lt t 8) [
  | inl h ↦ go t h
  | inr h ↦ subst Small (sym (get_or_past blank.row t NotHeld h)) (omega arith)
]
  where
    go : (t : ℕ) → t < 8 → Small (cell blank t)
    go zero h = omega arith
    go (suc zero) h = omega arith
    go (suc (suc zero)) h = omega arith
    go (suc (suc (suc zero))) h = omega arith
    go (suc (suc (suc (suc zero)))) h = omega arith
    go (suc (suc (suc (suc (suc zero))))) h = omega arith
    go (suc (suc (suc (suc (suc (suc zero)))))) h = omega arith
    go (suc (suc (suc (suc (suc (suc (suc zero))))))) h = omega arith
    go (suc (suc (suc (suc (suc (suc (suc (suc t)))))))) h = absurd (omega arith)

pub sound_lines : (s : Sheet) (im : List ℕ) (n : ℕ) → Sound (lines s im n)
sound_lines s im n k t = elim (cases_lt k n) [
  | inl h ↦ subst (λ l. Small (cell l t)) (sym (getD_listed n (λ a. line s (record_at im a)) k blank h)) (small_row s.tasks (drop 4 (record_at im k)) t)
  | inr h ↦ subst (λ l. Small (cell l t)) (sym (get_or_past (lines s im n) k blank (let l = length_listed n (λ a. line s (record_at im a)) in omega arith))) (small_blank t)
]
