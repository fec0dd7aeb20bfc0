-- What the pitch drive does, by formulas on whole numbers.
--   control, smoothed               what the tasks compute
--   copied, both                    a port copied to another; filter's two ports set
--   selected                        the one condition that both of our drives have: the port of the selector is not 0
--   pitch_drive, pitch_work, pitch_test    what each driver and task makes of the ports, and what the condition says
--   pitch_meaning                   the sheet of the pitch drive with these functions
use Rattle.std.specs.Prelude.{ℕ, zero, suc, Bool, true, false, List, ℤ, pos, negsuc, ◌+ℤ◌, ◌-ℤ◌, int_div, slice_set}
use Rattle.host.specs.Meaning.{Meaning, reading}
use Rattle.host.specs.Bounds.{held}
use Rattle.host.specs.Pitch.{pitch_sheet}

-- the command for an angle: 9,000 less the angle, held within -1,000 to 1,000
abbrev pub control : ℤ → ℤ
control angle = held (negsuc 999) (pos 1000) (pos 9000 -ℤ angle)

-- half of what is remembered and half of the new angle, each half cut toward zero
abbrev pub smoothed : ℤ → ℤ → ℤ
smoothed memory angle = int_div memory (pos 2) +ℤ int_div angle (pos 2)

-- one port copied to another
abbrev pub copied : ℕ → ℕ → List ℤ → List ℤ
copied from to xs = slice_set xs to (reading xs from)

-- driver 0 takes in the raw angle, 1 hands control the filtered angle, 2 hands on the command
abbrev pub pitch_drive : ℕ → List ℤ → List ℤ
pitch_drive zero xs = copied 0 3 xs
pitch_drive (suc zero) xs = copied 6 2 xs
pitch_drive (suc (suc zero)) xs = copied 5 4 xs
pitch_drive (suc (suc (suc d))) xs = xs

-- filter's two ports are given the same value
abbrev pub both : ℤ → List ℤ → List ℤ
both v xs = slice_set (slice_set xs 6 v) 7 v

-- task 0 is control, 1 is filter
abbrev pub pitch_work : ℕ → List ℤ → List ℤ
pitch_work zero xs = slice_set xs 5 (control (reading xs 2))
pitch_work (suc zero) xs = both (smoothed (reading xs 7) (reading xs 3)) xs
pitch_work (suc (suc t)) xs = xs

-- a value is not 0
abbrev pub nonzero : ℤ → Bool
nonzero (pos zero) = false
nonzero (pos (suc n)) = true
nonzero (negsuc n) = true

-- condition 0: the selector, at this port, is on; there is no other condition
abbrev pub selected : ℕ → ℕ → List ℤ → Bool
selected port zero xs = nonzero (reading xs port)
selected port (suc q) xs = false

abbrev pub pitch_test : ℕ → List ℤ → Bool
pitch_test = selected 1

-- the pitch drive
abbrev pub pitch_meaning : Meaning
pitch_meaning = record { sheet = pitch_sheet; drive = pitch_drive; work = pitch_work; test = pitch_test }
