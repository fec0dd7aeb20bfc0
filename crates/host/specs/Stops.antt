-- End stops: which of the names given are kept, and what a layer of them makes of a lower host.
--   kept             the stops of a table
--   is_driver_port, names_port    a port is a driver port of the sheet; some stop of a list names it
--   admissible       a name is for a driver port that no kept stop names, and its low is not above its high
--   admitted, kept_of    a name kept if it is so and there is room; all names that are kept, in their order
--   stop_one, stop_all    the ports with each named port that is written brought to the nearer bound
--   stopped          the meaning of a layer of end stops over a lower meaning
use Rattle.std.specs.Prelude.{ℕ, Bool, cond, not, ◌&&◌, List, [], ◌∷◌, ◌++◌, length, take, ℤ, ◌==◌, int_le, nat_lt, slice_set}
use Rattle.std.specs.List.{list_any}
use Rattle.ecode.specs.declared.sheet.Sheet.{Sheet}
use Rattle.ecode.specs.Wiring.{has, is_driver}
use Rattle.ecode.specs.Sheets.{kind, writes_of}
use Rattle.host.specs.declared.stop.Stop.{Stop}
use Rattle.host.specs.declared.stop.StopTable.{StopTable}
use Rattle.host.specs.Bounds.{held}
use Rattle.host.specs.Meaning.{Meaning, reading}

-- the stops of a table
abbrev pub kept : StopTable → List Stop
kept t = take t.count t.stops

-- p is a driver port of the sheet
abbrev pub is_driver_port : Sheet → ℕ → Bool
is_driver_port sheet p = nat_lt p sheet.ports && is_driver (kind sheet p)

-- some stop names the port
abbrev pub names_port : ℕ → List Stop → Bool
names_port p ss = list_any (λ s. s.port == p) ss

-- a name that may be kept beside those that are
abbrev pub admissible : Sheet → List Stop → Stop → Bool
admissible sheet ss name =
    is_driver_port sheet name.port && (int_le name.low name.high && not (names_port name.port ss))

-- the name is kept where it may be and fewer than four are
abbrev pub admitted : Sheet → List Stop → Stop → List Stop
admitted sheet ss name = cond (nat_lt (length ss) 4 && admissible sheet ss name) (ss ++ (name ∷ [])) ss

-- the names one after another, each beside those kept before it
unfoldable pub admitted_all : Sheet → List Stop → List Stop → List Stop
admitted_all sheet ss [] = ss
admitted_all sheet ss (name ∷ names) = admitted_all sheet (admitted sheet ss name) names

-- the names that are kept
abbrev pub kept_of : Sheet → List Stop → List Stop
kept_of sheet names = admitted_all sheet [] names

-- where the set has the stop's port, its value is brought to the nearer bound
abbrev pub stop_one : ℕ → Stop → List ℤ → List ℤ
stop_one written s xs = cond (has written s.port) (slice_set xs s.port (held s.low s.high (reading xs s.port))) xs

-- the same for each stop in turn
unfoldable pub stop_all : ℕ → List Stop → List ℤ → List ℤ
stop_all written [] xs = xs
stop_all written (s ∷ ss) xs = stop_all written ss (stop_one written s xs)

-- a driver of the sheet does what the lower one does, and then the ports that it writes are held
abbrev pub stopped_drive : List Stop → Meaning → ℕ → List ℤ → List ℤ
stopped_drive ss m d xs = cond (nat_lt d m.sheet.drivers) (stop_all (writes_of m.sheet d) ss (m.drive d xs)) xs

-- all else is as below
abbrev pub stopped : List Stop → Meaning → Meaning
stopped ss m = record { sheet = m.sheet; drive = stopped_drive ss m; work = m.work; test = m.test }
