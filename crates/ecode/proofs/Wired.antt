-- Every sheet keeps the rules of a sheet, by the invariants in its type; and sheets with the same parts are one.
use Rattle.std.proofs.Common.{◌≡◌, ℕ, zero, suc, ◌/◌, ◌%◌, ◌^◌, ◌<◌, ◌≤◌, Bool, true, false, not, ◌||◌, ltb, List, [], ◌∷◌, get_or, refl, ap, ap₂, ◌∙◌, inl, inr, arith}
use mathlib.Core.Bool.{Bool-set}
use mathlib.Core.HLevel.{is_prop→PathP}
use native.Mathlib.Bridge.{le_prop}
use native.Mathlib.Nat.{div-eq_of_lt, pow-le-pow_right}
use lib.Bits.{bit_and}
use Rattle.std.proofs.lemmas.Bool.{and_parts, ltb-true, eq-eqb, eqb-true, cases_lt}
use Rattle.ecode.specs.declared.port.PortKind.{PortKind}
use Rattle.ecode.specs.declared.port.PortKind.TheVariants.{Sensor, Driver, Task}
use Rattle.ecode.specs.declared.sheet.DriverPorts.{DriverPorts}
use Rattle.ecode.specs.declared.sheet.Sheet.{Sheet}
use Rattle.ecode.specs.declared.sheet.TaskPorts.{TaskPorts}
use Rattle.std.specs.List.{list_all}
use Rattle.ecode.specs.Wiring.{writes_in, reads_in, owns_in, sees_in, has, all_below, is_driver, is_task, not_driver, not_task, fits_ports, within, disjoint, apart}
use Rattle.ecode.specs.Sheets.{In, SheetRules}
use Rattle.ecode.proofs.Lists.{all_at}
use Rattle.ecode.proofs.Meets.{none_shared}

-- a set below 2 ^ p lacks p
beyond : (z n p : ℕ) → z < 2 ^ n → n ≤ p → In p z → ⊥
beyond z n p h le m =
    let two : zero < 2 = omega arith in
    let up : 2 ^ n ≤ 2 ^ p = pow-le-pow_right two le in
    let small : z < 2 ^ p = omega arith in
    let none : z / 2 ^ p ≡ 0 = div-eq_of_lt small in
    omega arith

empty : (p : ℕ) → In p 0 → ⊥
empty p m = beyond 0 0 p (omega arith) (omega arith) m

implied : (a b : Bool) → (not a || b) ≡ true → a ≡ true → b ≡ true
implied true b e h = e
implied false b e h = let z : ◌≡◌ {A = ℕ} 0 1 = cc in absurd (omega arith)

module _ (ports : ℕ) (kinds : List PortKind) (wanted : PortKind → Bool) where
  member_fits : (z p : ℕ) → fits_ports ports kinds wanted z ≡ true → In p z → (p < ports) × (wanted (get_or kinds p Sensor) ≡ true)
  member_fits z p e m = elim (cases_lt p ports) [
    | inl h ↦
        let all = (and_parts (ltb z (2 ^ ports)) (all_below ports (λ k. not (has z k) || wanted (get_or kinds k Sensor))) e).1 in
        (h, implied (has z p) (wanted (get_or kinds p Sensor)) (all_at (λ k. not (has z k) || wanted (get_or kinds k Sensor)) ports p all h) (eq-eqb (z / 2 ^ p % 2) 1 m))
    | inr h ↦
        let low = ltb-true z (2 ^ ports) (and_parts (ltb z (2 ^ ports)) (all_below ports (λ k. not (has z k) || wanted (get_or kinds k Sensor))) e).0 in
        absurd (beyond z ports p low h m)
  ]

  -- a member of any of the sets is a port of the wanted kind
  members_fit : (sets : List ℕ) (i p : ℕ) → within ports kinds wanted sets ≡ true → In p (get_or sets i 0) → (p < ports) × (wanted (get_or kinds p Sensor) ≡ true)
  members_fit [] i p e m = absurd (empty p m)
  members_fit (z ∷ sets) zero p e m = member_fits z p (and_parts (fits_ports ports kinds wanted z) (within ports kinds wanted sets) e).0 m
  members_fit (z ∷ sets) (suc i) p e m = members_fit sets i p (and_parts (fits_ports ports kinds wanted z) (within ports kinds wanted sets) e).1 m

-- a test that only one kind passes
pub driver_kind : (k : PortKind) → is_driver k ≡ true → k ≡ Driver
driver_kind Sensor e = let z : ◌≡◌ {A = ℕ} 0 1 = cc in absurd (omega arith)
driver_kind Driver e = refl
driver_kind Task e = let z : ◌≡◌ {A = ℕ} 0 1 = cc in absurd (omega arith)

task_kind : (k : PortKind) → is_task k ≡ true → k ≡ Task
task_kind Sensor e = let z : ◌≡◌ {A = ℕ} 0 1 = cc in absurd (omega arith)
task_kind Driver e = let z : ◌≡◌ {A = ℕ} 0 1 = cc in absurd (omega arith)
task_kind Task e = refl

-- a test that a kind passes, and that another fails, tells them apart
other_kind : (test : PortKind → Bool) (k bad : PortKind) → not (test k) ≡ true → test bad ≡ true → k ≡ bad → ⊥
other_kind test k bad e h q =
    let t = ap test q ∙ h in
    let z : ◌≡◌ {A = ℕ} 0 1 = clash (test k) e t in omega arith
  where
    clash : (b : Bool) → not b ≡ true → b ≡ true → ◌≡◌ {A = ℕ} 0 1
    clash true e t = cc
    clash false e t = cc

-- a set apart from all of the others has no member of any
none_of : (z : ℕ) (sets : List ℕ) (i p : ℕ) → list_all (disjoint z) sets ≡ true → In p z → In p (get_or sets i 0) → ⊥
none_of z [] i p e m n = empty p n
none_of z (y ∷ sets) zero p e m n =
    none_shared z y p (eqb-true (bit_and z y) 0 (and_parts (disjoint z y) (list_all (disjoint z) sets) e).0) m n
none_of z (y ∷ sets) (suc i) p e m n = none_of z sets i p (and_parts (disjoint z y) (list_all (disjoint z) sets) e).1 m n

once : (sets : List ℕ) (t u p : ℕ) → apart sets ≡ true → In p (get_or sets t 0) → In p (get_or sets u 0) → t ≡ u
once [] t u p e m n = absurd (empty p m)
once (z ∷ sets) zero zero p e m n = refl
once (z ∷ sets) zero (suc u) p e m n = absurd (none_of z sets u p (and_parts (list_all (disjoint z) sets) (apart sets) e).0 m n)
once (z ∷ sets) (suc t) zero p e m n = absurd (none_of z sets t p (and_parts (list_all (disjoint z) sets) (apart sets) e).0 n m)
once (z ∷ sets) (suc t) (suc u) p e m n = ap suc (once sets t u p (and_parts (list_all (disjoint z) sets) (apart sets) e).1 m n)

pub sheet_rules : (s : Sheet) → SheetRules s
sheet_rules s = record {
  some_ports = s.has_ports;
  few_ports = s.few_ports;
  few_drivers = s.few_drivers;
  some_tasks = s.has_tasks;
  few_tasks = s.few_tasks;
  few_conditions = s.few_conditions;
  written = λ d p m. let f = members_fit s.ports s.kinds is_driver (writes_in s.driver_ports) d p s.written m in (f.0, driver_kind _ f.1);
  read = λ d p m. let f = members_fit s.ports s.kinds not_driver (reads_in s.driver_ports) d p s.read m in (f.0, other_kind is_driver _ Driver f.1 refl);
  owned = λ t p m. let f = members_fit s.ports s.kinds is_task (owns_in s.task_ports) t p s.owned m in (f.0, task_kind _ f.1);
  seen = λ t p m. let f = members_fit s.ports s.kinds is_driver (sees_in s.task_ports) t p s.seen m in (f.0, driver_kind _ f.1);
  looked = λ q p m. let f = members_fit s.ports s.kinds not_task s.looks q p s.looked m in (f.0, other_kind is_task _ Task f.1 refl);
  owned_once = λ t u p m n. once (owns_in s.task_ports) t u p s.owned_once m n;
}

-- a sheet is its parts: how its rules were proved makes no difference
pub same_sheet : (a b : Sheet) → a.ports ≡ b.ports → a.kinds ≡ b.kinds → a.drivers ≡ b.drivers → a.driver_ports ≡ b.driver_ports
    → a.tasks ≡ b.tasks → a.task_ports ≡ b.task_ports → a.conditions ≡ b.conditions → a.looks ≡ b.looks → a ≡ b
same_sheet a b ports kinds drivers driver_ports tasks task_ports conditions looks = λ i. record {
  ports = ports i;
  kinds = kinds i;
  drivers = drivers i;
  driver_ports = driver_ports i;
  tasks = tasks i;
  task_ports = task_ports i;
  conditions = conditions i;
  looks = looks i;
  has_ports = is_prop→PathP (λ i. 1 ≤ ports i) (λ _. le_prop) a.has_ports b.has_ports i;
  few_ports = is_prop→PathP (λ i. ports i ≤ 32) (λ _. le_prop) a.few_ports b.few_ports i;
  few_drivers = is_prop→PathP (λ i. drivers i ≤ 32) (λ _. le_prop) a.few_drivers b.few_drivers i;
  has_tasks = is_prop→PathP (λ i. 1 ≤ tasks i) (λ _. le_prop) a.has_tasks b.has_tasks i;
  few_tasks = is_prop→PathP (λ i. tasks i ≤ 8) (λ _. le_prop) a.few_tasks b.few_tasks i;
  few_conditions = is_prop→PathP (λ i. conditions i ≤ 16) (λ _. le_prop) a.few_conditions b.few_conditions i;
  written = is_prop→PathP (λ i. within (ports i) (kinds i) is_driver (writes_in (driver_ports i)) ≡ true) (λ i. Bool-set _ true) a.written b.written i;
  read = is_prop→PathP (λ i. within (ports i) (kinds i) not_driver (reads_in (driver_ports i)) ≡ true) (λ i. Bool-set _ true) a.read b.read i;
  owned = is_prop→PathP (λ i. within (ports i) (kinds i) is_task (owns_in (task_ports i)) ≡ true) (λ i. Bool-set _ true) a.owned b.owned i;
  seen = is_prop→PathP (λ i. within (ports i) (kinds i) is_driver (sees_in (task_ports i)) ≡ true) (λ i. Bool-set _ true) a.seen b.seen i;
  looked = is_prop→PathP (λ i. within (ports i) (kinds i) not_task (looks i) ≡ true) (λ i. Bool-set _ true) a.looked b.looked i;
  owned_once = is_prop→PathP (λ i. apart (owns_in (task_ports i)) ≡ true) (λ i. Bool-set _ true) a.owned_once b.owned_once i;
}

-- tables equal to those of a sheet keep its rules, in the form that a function which makes the sheet has to show
pub tables_keep : (s : Sheet) {kinds : List PortKind} {drivers : List DriverPorts} {tasks : List TaskPorts} {looks : List ℕ}
    → kinds ≡ s.kinds → drivers ≡ s.driver_ports → tasks ≡ s.task_ports → looks ≡ s.looks
    → record {
      has_ports : 1 ≤ s.ports;
      few_ports : s.ports ≤ 32;
      few_drivers : s.drivers ≤ 32;
      has_tasks : 1 ≤ s.tasks;
      few_tasks : s.tasks ≤ 8;
      few_conditions : s.conditions ≤ 16;
      written : within s.ports kinds is_driver (writes_in drivers) ≡ true;
      read : within s.ports kinds not_driver (reads_in drivers) ≡ true;
      owned : within s.ports kinds is_task (owns_in tasks) ≡ true;
      seen : within s.ports kinds is_driver (sees_in tasks) ≡ true;
      looked : within s.ports kinds not_task looks ≡ true;
      owned_once : apart (owns_in tasks) ≡ true;
    }
tables_keep s k d t l = record {
  has_ports = s.has_ports;
  few_ports = s.few_ports;
  few_drivers = s.few_drivers;
  has_tasks = s.has_tasks;
  few_tasks = s.few_tasks;
  few_conditions = s.few_conditions;
  written = ap₂ (λ k d. within s.ports k is_driver (writes_in d)) k d ∙ s.written;
  read = ap₂ (λ k d. within s.ports k not_driver (reads_in d)) k d ∙ s.read;
  owned = ap₂ (λ k t. within s.ports k is_task (owns_in t)) k t ∙ s.owned;
  seen = ap₂ (λ k t. within s.ports k is_driver (sees_in t)) k t ∙ s.seen;
  looked = ap₂ (λ k l. within s.ports k not_task l) k l ∙ s.looked;
  owned_once = ap (λ t. apart (owns_in t)) t ∙ s.owned_once;
}
