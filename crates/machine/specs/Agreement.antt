-- The law that driver ports do not depend on scheduling.
--   readings_of         what the ticks of a list that count carry, tick by tick
--   LikeHosts           two hosts with the same sheet, functions and ports
--   DriverPortsAgree    two runs of one program on like hosts with the same readings agree at the driver ports
use Rattle.std.specs.Prelude.{◌≡◌, ℕ, cond, List, [], ◌∷◌, ℤ, None}
use Rattle.ecode.specs.declared.port.PortKind.TheVariants.{Driver}
use Rattle.ecode.specs.Sheets.{Port, kind}
use Rattle.ecode.specs.Verdict.{Contents}
use Rattle.host.specs.Meaning.{Meaning, reading}
use Rattle.machine.specs.State.{Ports, fresh}
use Rattle.machine.specs.Calls.{RunCall, Tick, Done, AskState, AskPort, counts, after}
use Rattle.machine.specs.Begins.{Begins}

-- the readings of a call, if it is a tick that counts, and those that follow. In a run that has not stopped no tick is refused
-- but for a wrong number of readings
abbrev pub read_by : Meaning → RunCall → List (List ℤ) → List (List ℤ)
read_by m (Tick readings choice) later = cond (counts m readings) (readings ∷ later) later
read_by m (Done t) later = later
read_by m AskState later = later
read_by m (AskPort x) later = later

-- the readings of all ticks that count
abbrev pub readings_of : Meaning → List RunCall → List (List ℤ)
readings_of m [] = []
readings_of m (c ∷ calls) = read_by m c (readings_of m calls)

-- two hosts are alike: equal sheets, equal functions, and equal ports at the begin
pub record LikeHosts (m m' : Meaning) (v v' : Ports) : Type 0 where
  pub sheets : m.sheet ≡ m'.sheet
  pub drives : (d : ℕ) (xs : Ports) → m.drive d xs ≡ m'.drive d xs
  pub works : (t : ℕ) (xs : Ports) → m.work t xs ≡ m'.work t xs
  pub tests : (q : ℕ) (xs : Ports) → m.test q xs ≡ m'.test q xs
  pub ports : v ≡ v'

-- One program on two like hosts. Whatever the two policies choose and whenever tasks end: after equally many ticks with equal
-- readings, while neither run has stopped, every driver port has the same value in both
abbrev pub DriverPortsAgree : Type 0
DriverPortsAgree = (m m' : Meaning) (p : Contents) (v v' : Ports) (calls calls' : List RunCall)
    → Begins m p v → LikeHosts m m' v v'
    → readings_of m calls ≡ readings_of m' calls'
    → (after m p calls (fresh p v)).stop ≡ None → (after m' p calls' (fresh p v')).stop ≡ None
    → (x : ℕ) → Port m.sheet x → kind m.sheet x ≡ Driver
    → reading (after m p calls (fresh p v)).ports x ≡ reading (after m' p calls' (fresh p v')).ports x
