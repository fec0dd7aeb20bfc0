-- What the wide drive does, by formulas on whole numbers.
--   wide_drive, wide_work, wide_test    what each driver and task makes of the ports, and what the condition says
--   wide_meaning                        the sheet of the wide drive with these functions
use Rattle.std.specs.Prelude.{ℕ, ◌+◌, Bool, cond, List, ℤ, nat_lt, slice_set}
use Rattle.host.specs.Meaning.{Meaning, reading}
use Rattle.host.specs.PitchHost.{smoothed, copied, selected}
use Rattle.wide.specs.Wide.{wide_sheet}

-- driver d hands on what task d worked out; driver 8 takes in the sample
abbrev pub wide_drive : ℕ → List ℤ → List ℤ
wide_drive d xs = cond (nat_lt d 9) (copied (16 + d) d xs) xs

-- task t: half of its own driver port and half of the sample, each half cut toward zero
abbrev pub wide_work : ℕ → List ℤ → List ℤ
wide_work t xs = cond (nat_lt t 8) (slice_set xs (16 + t) (smoothed (reading xs t) (reading xs 8))) xs

-- condition 0: the selector is on
abbrev pub wide_test : ℕ → List ℤ → Bool
wide_test = selected 25

-- the wide drive
abbrev pub wide_meaning : Meaning
wide_meaning = record { sheet = wide_sheet; drive = wide_drive; work = wide_work; test = wide_test }
