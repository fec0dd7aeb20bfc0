-- The wide drive keeps the law of hosts: each driver and task is made of the building blocks. Proofs alone: nothing here is to be
-- believed, and the impl of the host cites it.
use Rattle.std.specs.Prelude.{◌≡◌, ℕ, ◌+◌, ◌<◌, ◌≤◌, Bool, true, false, cond, ◌&&◌, ltb, List, ℤ, nat_lt, slice_index, slice_set, refl}
use Rattle.std.proofs.Common.{sym, ap₂, subst}
use Rattle.std.proofs.lemmas.Bool.{and_parts, eqb-true, lt-ltb, le-ltb}
use Rattle.ecode.specs.Sheets.{In, owns_of, reads_of, sees_of, writes_of}
use Rattle.ecode.specs.Wiring.{has, all_below}
use Rattle.ecode.proofs.Lists.{all_at}
use Rattle.ecode.proofs.Wired.{sheet_rules}
use Rattle.host.specs.Meaning.{reading, Local, Reads, Lawful}
use Rattle.host.specs.PitchHost.{smoothed, copied}
use Rattle.host.specs.PitchLaws.{selected_reads, selected_off}
use Rattle.host.specs.Locals.{set_local}
use Rattle.wide.specs.Wide.{wide_sheet}
use Rattle.wide.specs.WideHost.{wide_drive, wide_work, wide_test, wide_meaning}

-- the sets that the sheet gives a driver and a task
abbrev pub writes : ℕ → ℕ
writes d = writes_of wide_sheet d

abbrev pub reads : ℕ → ℕ
reads d = reads_of wide_sheet d

abbrev pub owns : ℕ → ℕ
owns t = owns_of wide_sheet t

abbrev pub sees : ℕ → ℕ
sees t = sees_of wide_sheet t

-- a driver writes its number and reads 16 above it
pub driver_ports : ℕ → Bool
driver_ports d = has (writes d) d && has (reads d) (16 + d)

-- a task owns 16 above its number and reads its number and 8
pub task_ports : ℕ → Bool
task_ports t = has (owns t) (16 + t) && (has (sees t) t && has (sees t) 8)

pub all_drivers : all_below 9 driver_ports ≡ true
unfolding all_below driver_ports
all_drivers = refl

pub all_tasks : all_below 8 task_ports ≡ true
unfolding all_below task_ports
all_tasks = refl

-- what is done only below a number, at a number below it
pub below : (written read n k : ℕ) (f : List ℤ → List ℤ) → k < n → Local written read f → Local written read (λ xs. cond (nat_lt k n) (f xs) xs)
below written read n k f h l =
    let P : Bool → Type 0 = λ b. Local written read (λ xs. cond b (f xs) xs) in subst P (sym (lt-ltb k n h)) l

pub drives : (d : ℕ) → d < 9 → Local (writes d) (reads d) (wide_drive d)
unfolding driver_ports
drives d h =
    let both = and_parts (has (writes d) d) (has (reads d) (16 + d)) (all_at driver_ports 9 d all_drivers h) in
    let to : In d (writes d) = eqb-true _ _ both.0 in
    let from : In (16 + d) (reads d) = eqb-true _ _ both.1 in
    below (writes d) (reads d) 9 d (copied (16 + d) d) h
    (set_local (writes d) (reads d) d (λ xs. reading xs (16 + d)) to (λ xs ys aw ar. ar (16 + d) from))

pub works : (t : ℕ) → t < 8 → Local (owns t) (sees t) (wide_work t)
unfolding task_ports
works t h =
    let both = and_parts (has (owns t) (16 + t)) (has (sees t) t && has (sees t) 8) (all_at task_ports 8 t all_tasks h) in
    let seen = and_parts (has (sees t) t) (has (sees t) 8) both.1 in
    let to : In (16 + t) (owns t) = eqb-true _ _ both.0 in
    let own : In t (sees t) = eqb-true _ _ seen.0 in
    let sample : In 8 (sees t) = eqb-true _ _ seen.1 in
    let angle : List ℤ → ℤ = λ xs. smoothed (reading xs t) (reading xs 8) in
    below (owns t) (sees t) 8 t (λ xs. slice_set xs (16 + t) (angle xs)) h
    (set_local (owns t) (sees t) (16 + t) angle to (λ xs ys aw ar. ap₂ smoothed (ar t own) (ar 8 sample)))

pub drives_off : (d : ℕ) → 9 ≤ d → (xs : List ℤ) → wide_drive d xs ≡ xs
drives_off d h xs = let off : ltb d 9 ≡ false = le-ltb d 9 h in simp off

pub works_off : (t : ℕ) → 8 ≤ t → (xs : List ℤ) → wide_work t xs ≡ xs
works_off t h xs = let off : ltb t 8 ≡ false = le-ltb t 8 h in simp off

pub tests : (q : ℕ) → q < 1 → Reads (slice_index wide_sheet.looks q) (wide_test q)
tests = selected_reads wide_sheet 25 refl

pub tests_off : (q : ℕ) → 1 ≤ q → (xs : List ℤ) → wide_test q xs ≡ false
tests_off = selected_off 25

pub wide_lawful : Lawful wide_meaning
wide_lawful = record {
  rules = sheet_rules wide_sheet;
  drives = drives;
  works = works;
  tests = tests;
  drives_off = drives_off;
  works_off = works_off;
  tests_off = tests_off;
}
