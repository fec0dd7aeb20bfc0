-- Laws of the end stops, in the words of a drive.
--   Named, Among     a list of stops names a port; a stop stands in a list
--   Once             no port is named twice
--   Proper           a stop is for a driver port, and its low is not above its high
--   KeptRules        what the kept stops are: proper, no port twice, at most four, and none passed over without a reason
--   Stopping         what they do: a driver's ports end within their bounds, at the nearer one or where they were
--   EndStopsHold     a layer of kept stops does this over every lawful host
use Rattle.std.specs.Prelude.{◌≡◌, ℕ, ◌<◌, ◌≤◌, ◌⊎◌, List, [], ◌∷◌, length, ℤ, ◌≤ℤ◌}
use Rattle.std.specs.List.{AllByRecursion}
use Rattle.ecode.specs.declared.port.PortKind.TheVariants.{Driver}
use Rattle.ecode.specs.declared.sheet.Sheet.{Sheet}
use Rattle.ecode.specs.Sheets.{In, Port, kind, writes_of}
use Rattle.host.specs.declared.stop.Stop.{Stop}
use Rattle.host.specs.Meaning.{Meaning, Lawful, reading}
use Rattle.host.specs.Stops.{kept_of, stopped}

-- some stop is for the port p
abbrev pub Named : ℕ → List Stop → Type 0
Named p [] = ⊥
Named p (s ∷ ss) = (s.port ≡ p) ⊎ Named p ss

-- the stop stands in the list
abbrev pub Among : List Stop → Stop → Type 0
Among [] s = ⊥
Among (n ∷ ns) s = (n ≡ s) ⊎ Among ns s

-- no port is named twice
abbrev pub Once : List Stop → Type 0
Once [] = Unit {0}
Once (s ∷ ss) = (Named s.port ss → ⊥) × Once ss

-- a name that is no mistake
pub record Proper (sheet : Sheet) (s : Stop) : Type 0 where
  pub on_sheet : Port sheet s.port
  pub for_driver : kind sheet s.port ≡ Driver
  pub ordered : s.low ≤ℤ s.high

-- ss are the stops kept of the names, for a sheet
pub record KeptRules (sheet : Sheet) (names ss : List Stop) : Type 0 where
  pub few : length ss ≤ 4
  pub given : AllByRecursion (Among names) ss
  pub proper : AllByRecursion (Proper sheet) ss
  pub once : Once ss
  -- a proper name is passed over only where its port is kept, or four are
  pub passed_over : AllByRecursion (λ n. Proper sheet n → Named n.port ss ⊎ (length ss ≡ 4)) names

-- below are the ports as the lower host's driver leaves them, above as the layer does
pub record Stopping (written : ℕ) (ss : List Stop) (below above : List ℤ) : Type 0 where
  -- a port that is named and written ends within its bounds
  pub bounded : AllByRecursion (λ s. In s.port written → (s.low ≤ℤ reading above s.port) × (reading above s.port ≤ℤ s.high)) ss
  -- from below its low it ends there, and from above its high there
  pub lowest : AllByRecursion (λ s. In s.port written → reading below s.port ≤ℤ s.low → reading above s.port ≡ s.low) ss
  pub highest : AllByRecursion (λ s. In s.port written → s.high ≤ℤ reading below s.port → reading above s.port ≡ s.high) ss
  -- from within its bounds it stays where it was
  pub inside : AllByRecursion (λ s. In s.port written → s.low ≤ℤ reading below s.port → reading below s.port ≤ℤ s.high
      → reading above s.port ≡ reading below s.port) ss
  -- and so does every port that is not written or not named
  pub others : (p : ℕ) → (In p written → Named p ss → ⊥) → reading above p ≡ reading below p

-- of every lawful host, names, driver of its sheet and ports
abbrev pub EndStopsHold : Type 0
EndStopsHold = (m : Meaning) (names : List Stop) (d : ℕ) (xs : List ℤ) → Lawful m → d < m.sheet.drivers → length xs ≡ m.sheet.ports
    → Stopping (writes_of m.sheet d) (kept_of m.sheet names) (m.drive d xs) ((stopped (kept_of m.sheet names) m).drive d xs)
