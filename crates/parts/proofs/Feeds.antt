-- The readings put port by port, and the sensor ports found port by port.
use Rattle.std.proofs.Common.{◌≡◌, ℕ, suc, ◌+◌, ◌-◌, ◌<◌, ◌≤◌, Bool, cond, ◌⊎◌, inl, inr, List, [], ◌∷◌, ◌++◌, length, get_or, take, set, ℤ, sym, refl, ap, ◌∙◌, append_assoc, append-nil, add-zero, arith, length-append}
use Rattle.std.proofs.Math.Seq.{set-append_seam}
use Rattle.std.proofs.lemmas.List.{take_more}
use denote.Enum.Bare.{sameb}
use Rattle.ecode.specs.contracts.port.PortKind.{the_type}
use Rattle.ecode.specs.declared.port.PortKind.{PortKind}
use Rattle.ecode.specs.declared.port.PortKind.TheVariants.{Sensor, Driver, Task}
use Rattle.machine.specs.State.{Ports}
use Rattle.machine.specs.Runner.{put_readings}
use Rattle.machine.specs.Calls.{sensor_count}
use Rattle.parts.specs.Wired.{sensor_at, sensors_from}

-- a tick takes a reading for each sensor port
pub sensors_many : (p : ℕ) (ks : List PortKind) → length (sensors_from p ks) ≡ sensor_count ks
sensors_many p [] = refl
sensors_many p (Sensor ∷ ks) = omega (arith, sensors_many (p + 1) ks)
sensors_many p (Driver ∷ ks) = omega (arith, sensors_many (p + 1) ks)
sensors_many p (Task ∷ ks) = omega (arith, sensors_many (p + 1) ks)

-- a port is kept where its kind is that of a sensor
pub sensor_kept : (k : PortKind) (p : ℕ) (b : Bool) → b ≡ sameb the_type k Sensor → sensor_at k p ≡ cond b (p ∷ []) []
sensor_kept Sensor p b e = ap (λ c. cond c (p ∷ []) []) (sym e)
sensor_kept Driver p b e = ap (λ c. cond c (p ∷ []) []) (sym e)
sensor_kept Task p b e = ap (λ c. cond c (p ∷ []) []) (sym e)

-- a port of another kind is passed over
pub no_sensor : (k : PortKind) (p : ℕ) → (k ≡ Sensor → ⊥) → sensor_at k p ≡ []
no_sensor Sensor p e = absurd (e refl)
no_sensor Driver p e = refl
no_sensor Task p e = refl

-- one port more, at the end
pub sensors_last : (p : ℕ) (ks : List PortKind) (k : PortKind) → sensors_from p (ks ++ (k ∷ [])) ≡ sensors_from p ks ++ sensor_at k (p + length ks)
sensors_last p [] k = append-nil (sensor_at k p) ∙ ap (sensor_at k) (sym (add-zero p))
sensors_last p (j ∷ ks) k =
    let e : p + 1 + length ks ≡ p + suc (length ks) = omega arith in
    ap (λ l. sensor_at j p ++ l) (sensors_last (p + 1) ks k ∙ ap (λ q. sensors_from (p + 1) ks ++ sensor_at k q) e)
    ∙ sym (append_assoc (sensor_at j p) (sensors_from (p + 1) ks) (sensor_at k (p + suc (length ks))))

-- the sensor ports below p + 1 are those below p, and p if it is one
pub sensors_take : (ks : List PortKind) (p : ℕ) (d : PortKind) → p < length ks → sensors_from 0 (take (p + 1) ks) ≡ sensors_from 0 (take p ks) ++ sensor_at (get_or ks p d) p
sensors_take ks p d lt =
    let e : 0 + length (take p ks) ≡ p = omega (arith, lib.ListN.length-take p ks) in
    ap (sensors_from 0) (take_more ks p d lt) ∙ sensors_last 0 (take p ks) (get_or ks p d) ∙ ap (λ q. sensors_from 0 (take p ks) ++ sensor_at (get_or ks p d) q) e

-- one port more, of those below e
pub sensors_more : (found : List ℕ) (p e : ℕ) (k : PortKind) (ks : List PortKind) → 0 < e - p
    → found ++ sensors_from p (take (e - p) (k ∷ ks)) ≡ (found ++ sensor_at k p) ++ sensors_from (p + 1) (take (e - (p + 1)) ks)
sensors_more found p e k ks lt =
    let n : e - p ≡ suc (e - (p + 1)) = omega arith in
    ap (λ n. found ++ sensors_from p (take n (k ∷ ks))) n ∙ sym (append_assoc found (sensor_at k p) (sensors_from (p + 1) (take (e - (p + 1)) ks)))

-- values put on ports, one after the other
abbrev pub put_each : List ℕ → List ℤ → Ports → Ports
put_each [] r v = v
put_each (p ∷ ps) [] v = v
put_each (p ∷ ps) (y ∷ r) v = put_each ps r (set v p y)

-- one value more, put last
pub put_last : (ps : List ℕ) (r : List ℤ) (v : Ports) (p : ℕ) (y : ℤ) → length ps ≡ length r → put_each (ps ++ (p ∷ [])) (r ++ (y ∷ [])) v ≡ set (put_each ps r v) p y
put_last [] [] v p y e = refl
put_last [] (z ∷ r) v p y e = absurd (omega arith)
put_last (q ∷ ps) [] v p y e = absurd (omega arith)
put_last (q ∷ ps) (z ∷ r) v p y e = put_last ps r (set v q z) p y (omega arith)

-- where either list is at its end nothing more is put
pub put_none : (ps : List ℕ) (r : List ℤ) (v : Ports) → (length ps ≡ 0) ⊎ (length r ≡ 0) → put_each ps r v ≡ v
put_none [] r v e = refl
put_none (p ∷ ps) [] v e = refl
put_none (p ∷ ps) (y ∷ r) v (inl e) = absurd (omega arith)
put_none (p ∷ ps) (y ∷ r) v (inr e) = absurd (omega arith)

-- a port that is no sensor is passed over
passed : (u : Ports) (x : ℤ) (v : Ports) (ks : List PortKind) (r : List ℤ)
    → put_each (sensors_from (length (u ++ (x ∷ []))) ks) r ((u ++ (x ∷ [])) ++ v) ≡ (u ++ (x ∷ [])) ++ put_readings ks v r
    → put_each (sensors_from (length u + 1) ks) r (u ++ (x ∷ v)) ≡ u ++ (x ∷ put_readings ks v r)
passed u x v ks r rest =
    let n : length u + 1 ≡ length (u ++ (x ∷ [])) = omega (arith, length-append u (x ∷ [])) in
    ap (put_each (sensors_from (length u + 1) ks) r) (sym (append_assoc u (x ∷ []) v)) ∙ ap (λ q. put_each (sensors_from q ks) r ((u ++ (x ∷ [])) ++ v)) n
    ∙ rest ∙ append_assoc u (x ∷ []) (put_readings ks v r)

-- on the sensor ports these are the readings put
put_from : (u v : Ports) (ks : List PortKind) (r : List ℤ) → length ks ≤ length v → put_each (sensors_from (length u) ks) r (u ++ v) ≡ u ++ put_readings ks v r
put_from u v [] r l = refl
put_from u [] (k ∷ ks) r l = absurd (omega arith)
put_from u (x ∷ v) (Sensor ∷ ks) [] l = refl
put_from u (x ∷ v) (Sensor ∷ ks) (y ∷ r) l =
    let n : length u + 1 ≡ length (u ++ (y ∷ [])) = omega (arith, length-append u (y ∷ [])) in
    ap (put_each (sensors_from (length u + 1) ks) r) (set-append_seam u x v y ∙ sym (append_assoc u (y ∷ []) v)) ∙ ap (λ q. put_each (sensors_from q ks) r ((u ++ (y ∷ [])) ++ v)) n
    ∙ put_from (u ++ (y ∷ [])) v ks r (omega arith) ∙ append_assoc u (y ∷ []) (put_readings ks v r)
put_from u (x ∷ v) (Driver ∷ ks) r l = passed u x v ks r (put_from (u ++ (x ∷ [])) v ks r (omega arith))
put_from u (x ∷ v) (Task ∷ ks) r l = passed u x v ks r (put_from (u ++ (x ∷ [])) v ks r (omega arith))

pub put_all : (v : Ports) (ks : List PortKind) (r : List ℤ) → length ks ≤ length v → put_each (sensors_from 0 ks) r v ≡ put_readings ks v r
put_all v ks r l = put_from [] v ks r l
