-- What a run asks of its sheet, worked out from the sheet.
--   sensors_from    the sensor ports among these kinds, numbered from some port on
--   sensed          the ports that a list of sensor ports holds
--   WiredFor        a wiring is that of a sheet
use Rattle.std.specs.Prelude.{◌≡◌, ℕ, ◌+◌, ◌<◌, ◌&&◌, List, [], ◌∷◌, ◌++◌, take, nat_lt, slice_index}
use Rattle.ecode.specs.declared.port.PortKind.{PortKind}
use Rattle.ecode.specs.declared.port.PortKind.TheVariants.{Sensor, Driver, Task}
use Rattle.ecode.specs.declared.sheet.Sheet.{Sheet}
use Rattle.ecode.specs.Wiring.{has}
use Rattle.ecode.specs.Sheets.{shares}
use Rattle.machine.specs.Runner.{kinds_of}
use Rattle.parts.specs.declared.data.SensorPorts.{SensorPorts}
use Rattle.parts.specs.declared.data.Wiring.{Wiring}

-- the port p, if it is a sensor port
abbrev pub sensor_at : PortKind → ℕ → List ℕ
sensor_at Sensor p = p ∷ []
sensor_at Driver p = []
sensor_at Task p = []

-- the sensor ports among ports of these kinds, the first of which is port p
abbrev pub sensors_from : ℕ → List PortKind → List ℕ
sensors_from p [] = []
sensors_from p (k ∷ ks) = sensor_at k p ++ sensors_from (p + 1) ks

-- the ports that the list holds
abbrev pub sensed : SensorPorts → List ℕ
sensed s = take s.len s.items

-- counts and sensor ports of the sheet, and for each driver exactly the tasks of the sheet that it shares with
pub record WiredFor (s : Sheet) (w : Wiring) : Type 0 where
  pub ports : w.ports ≡ s.ports
  pub tasks : w.tasks ≡ s.tasks
  pub sensors : sensed w.sensors ≡ sensors_from 0 (kinds_of s)
  pub sharing : (d t : ℕ) → d < s.drivers → has (slice_index w.sharing d) t ≡ (nat_lt t s.tasks && shares s d t)
