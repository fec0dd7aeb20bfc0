-- The pitch drive keeps the law of hosts: each driver and task is made of the building blocks. Proofs alone: nothing here is to be
-- believed, and the impl of the host cites it.
use Rattle.std.specs.Prelude.{◌≡◌, ℕ, zero, suc, ◌<◌, ◌≤◌, false, List, ℤ, slice_index, slice_set, refl}
use Rattle.std.proofs.Common.{ap, ap₂, arith}
use Rattle.ecode.specs.declared.sheet.Sheet.{Sheet}
use Rattle.host.specs.Meaning.{reading, Local, Reads, Lawful}
use Rattle.host.specs.Pitch.{pitch_sheet}
use Rattle.host.specs.PitchHost.{control, smoothed, pitch_drive, pitch_work, pitch_test, nonzero, selected, pitch_meaning}
use Rattle.host.specs.Locals.{From, set_local, also_local}
use Rattle.ecode.proofs.Wired.{sheet_rules}
use Rattle.ecode.specs.Sheets.{In, owns_of, reads_of, sees_of, writes_of}

pub drives : (d : ℕ) → d < 3 → Local (writes_of pitch_sheet d) (reads_of pitch_sheet d) (pitch_drive d)
drives zero h = set_local 0x08 0x01 3 (λ xs. reading xs 0) refl (λ xs ys aw ar. ar 0 refl)
drives (suc zero) h = set_local 0x04 0x40 2 (λ xs. reading xs 6) refl (λ xs ys aw ar. ar 6 refl)
drives (suc (suc zero)) h = set_local 0x10 0x20 4 (λ xs. reading xs 5) refl (λ xs ys aw ar. ar 5 refl)
drives (suc (suc (suc d))) h = absurd (omega arith)

pub works : (t : ℕ) → t < 2 → Local (owns_of pitch_sheet t) (sees_of pitch_sheet t) (pitch_work t)
works zero h = set_local 0x20 0x04 5 (λ xs. control (reading xs 2)) refl (λ xs ys aw ar. ap control (ar 2 refl))
works (suc zero) h =
    let angle : List ℤ → ℤ = λ xs. smoothed (reading xs 7) (reading xs 3) in
    let from : From 0xc0 0x08 angle = λ xs ys aw ar. ap₂ smoothed (aw 7 refl) (ar 3 refl) in
    also_local 0xc0 0x08 (λ xs. slice_set xs 6 (angle xs)) (set_local 0xc0 0x08 6 angle refl from) 7 angle refl from
works (suc (suc t)) h = absurd (omega arith)

pub drives_off : (d : ℕ) → 3 ≤ d → (xs : List ℤ) → pitch_drive d xs ≡ xs
drives_off zero h xs = absurd (omega arith)
drives_off (suc zero) h xs = absurd (omega arith)
drives_off (suc (suc zero)) h xs = absurd (omega arith)
drives_off (suc (suc (suc d))) h xs = refl

pub works_off : (t : ℕ) → 2 ≤ t → (xs : List ℤ) → pitch_work t xs ≡ xs
works_off zero h xs = absurd (omega arith)
works_off (suc zero) h xs = absurd (omega arith)
works_off (suc (suc t)) h xs = refl

-- the condition of the selector keeps to a sheet that lets it read the selector's port
pub selected_reads : (s : Sheet) (port : ℕ) → In port (slice_index s.looks 0) → (q : ℕ) → q < 1 → Reads (slice_index s.looks q) (selected port q)
selected_reads s port there zero h = record { depends = λ xs ys ar. ap nonzero (ar port there) }
selected_reads s port there (suc q) h = absurd (omega arith)

pub selected_off : (port q : ℕ) → 1 ≤ q → (xs : List ℤ) → selected port q xs ≡ false
selected_off port zero h xs = absurd (omega arith)
selected_off port (suc q) h xs = refl

pub tests : (q : ℕ) → q < 1 → Reads (slice_index pitch_sheet.looks q) (pitch_test q)
tests = selected_reads pitch_sheet 1 refl

pub tests_off : (q : ℕ) → 1 ≤ q → (xs : List ℤ) → pitch_test q xs ≡ false
tests_off = selected_off 1

pub pitch_lawful : Lawful pitch_meaning
pitch_lawful = record {
  rules = sheet_rules pitch_sheet;
  drives = drives;
  works = works;
  tests = tests;
  drives_off = drives_off;
  works_off = works_off;
  tests_off = tests_off;
}
