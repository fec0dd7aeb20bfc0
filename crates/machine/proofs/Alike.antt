-- Two runs of like hosts are alike: equal ports but for those of the tasks that are still pending in one of them, and these are
-- equal once the tasks have ended. Readings, instructions that touch nothing and ends of tasks keep them alike.
use Rattle.std.proofs.Common.{◌≡◌, ℕ, zero, suc, ◌+◌, ◌/◌, ◌%◌, ◌^◌, ◌<◌, ◌≤◌, Bool, true, false, cond, eqb, ◌⊎◌, List, [], ◌∷◌, length, get_or, ℤ, is_some, Some, None, Option, sym, refl, ap, ◌∙◌, subst, inl, inr, ⊎_elim, true≢false, add-zero, zero-add, arith, get_or-take}
use Rattle.std.proofs.lemmas.Bool.{cases_lt, cases_eq, eqb-true, eqb-false, eq-eqb, ne_eqb}
use Rattle.ecode.specs.declared.port.PortKind.{PortKind}
use Rattle.ecode.specs.declared.port.PortKind.TheVariants.{Sensor, Driver, Task}
use Rattle.ecode.specs.declared.code.Instruction.{Instruction}
use Rattle.ecode.specs.declared.code.Instruction.TheVariants.{Call, Release, Future, If, Jump, Return}
use Rattle.ecode.specs.Wiring.{has}
use Rattle.ecode.specs.Sheets.{In, kind, owns_of, reads_of, sees_of, writes_of}
use Rattle.ecode.specs.Accepted.{Ranged}
use Rattle.ecode.proofs.Meets.{tells_shares}
use Rattle.host.specs.Meaning.{Meaning, Lawful, Agree, reading}
use Rattle.machine.specs.State.{Ports, Job, Table, is_pending}
use Rattle.machine.specs.Runner.{changed, lowest, touched, ports_after, pending_after, next_after, one_more_used, charged, one_less_left, kinds_of, put_readings, put_own}
use Rattle.machine.proofs.Lowest.{lowest_none, lowest_some, not_touched}

abbrev pub taken_by : Option Job → Option Ports
taken_by None = None
taken_by (Some k) = Some k.taken

-- port p of task t as it will be once the task has ended
abbrev pub will : Meaning → ℕ → Option Ports → Ports → ℕ → ℤ
will m t None v p = reading v p
will m t (Some w) v p = reading (m.work t w) p

abbrev own : Meaning → ℕ → ℕ
own m t = owns_of m.sheet t

-- no task owns the port
abbrev pub Unowned : Meaning → ℕ → Type 0
Unowned m p = (t : ℕ) → t < m.sheet.tasks → In p (own m t) → ⊥

pub record Alike (m : Meaning) (v v' : Ports) (f f' : Table) : Type 0 where
  pub long : length v ≡ m.sheet.ports
  pub long' : length v' ≡ m.sheet.ports
  pub off : (t : ℕ) → m.sheet.tasks ≤ t → f t ≡ None
  pub off' : (t : ℕ) → m.sheet.tasks ≤ t → f' t ≡ None
  pub plain : (p : ℕ) → Unowned m p → reading v p ≡ reading v' p
  pub owned : (t p : ℕ) → t < m.sheet.tasks → In p (own m t) → will m t (taken_by (f t)) v p ≡ will m t (taken_by (f' t)) v' p

not_pending : (o : Option Job) → is_some o ≡ false → taken_by o ≡ None
not_pending None e = refl
not_pending (Some k) e = absurd (true≢false e)

pub not_in : (p z : ℕ) → (In p z → ⊥) → has z p ≡ false
not_in p z n = ne_eqb (z / 2 ^ p % 2) 1 n

-- the readings
pub put_long : (ks : List PortKind) (v : Ports) (r : List ℤ) → length (put_readings ks v r) ≡ length v
put_long [] v r = refl
put_long (k ∷ ks) [] r = refl
put_long (Sensor ∷ ks) (x ∷ v) [] = refl
put_long (Sensor ∷ ks) (x ∷ v) (y ∷ r) = ap suc (put_long ks v r)
put_long (Driver ∷ ks) (x ∷ v) r = ap suc (put_long ks v r)
put_long (Task ∷ ks) (x ∷ v) r = ap suc (put_long ks v r)

pub put_other : (ks : List PortKind) (v : Ports) (r : List ℤ) (p : ℕ) → (get_or ks p Sensor ≡ Sensor → ⊥) → reading (put_readings ks v r) p ≡ reading v p
put_other [] v r p e = refl
put_other (k ∷ ks) [] r p e = refl
put_other (Sensor ∷ ks) (x ∷ v) [] p e = refl
put_other (Sensor ∷ ks) (x ∷ v) (y ∷ r) zero e = absurd (e refl)
put_other (Sensor ∷ ks) (x ∷ v) (y ∷ r) (suc p) e = put_other ks v r p e
put_other (Driver ∷ ks) (x ∷ v) r zero e = refl
put_other (Driver ∷ ks) (x ∷ v) r (suc p) e = put_other ks v r p e
put_other (Task ∷ ks) (x ∷ v) r zero e = refl
put_other (Task ∷ ks) (x ∷ v) r (suc p) e = put_other ks v r p e

put_same : (ks : List PortKind) (v w : Ports) (r : List ℤ) (p : ℕ) → length v ≡ length w → reading v p ≡ reading w p → reading (put_readings ks v r) p ≡ reading (put_readings ks w r) p
put_same [] v w r p l e = e
put_same (k ∷ ks) [] [] r p l e = refl
put_same (k ∷ ks) [] (y ∷ w) r p l e = absurd (omega arith)
put_same (k ∷ ks) (x ∷ v) [] r p l e = absurd (omega arith)
put_same (Sensor ∷ ks) (x ∷ v) (y ∷ w) [] p l e = e
put_same (Sensor ∷ ks) (x ∷ v) (y ∷ w) (z ∷ r) zero l e = refl
put_same (Sensor ∷ ks) (x ∷ v) (y ∷ w) (z ∷ r) (suc p) l e = put_same ks v w r p (omega arith) e
put_same (Driver ∷ ks) (x ∷ v) (y ∷ w) r zero l e = e
put_same (Driver ∷ ks) (x ∷ v) (y ∷ w) r (suc p) l e = put_same ks v w r p (omega arith) e
put_same (Task ∷ ks) (x ∷ v) (y ∷ w) r zero l e = e
put_same (Task ∷ ks) (x ∷ v) (y ∷ w) r (suc p) l e = put_same ks v w r p (omega arith) e

-- the ports of a task that ends
pub own_long : (z i : ℕ) (v w : Ports) → length (put_own z i v w) ≡ length v
own_long z i [] w = refl
own_long z i (x ∷ v) w = ap suc (own_long z (i + 1) v w)

pub own_off : (z i : ℕ) (v w : Ports) (p : ℕ) → has z (i + p) ≡ false → reading (put_own z i v w) p ≡ reading v p
own_off z i [] w p e = refl
own_off z i (x ∷ v) w zero e = let f : has z i ≡ false = ap (has z) (sym (add-zero i)) ∙ e in rw f
own_off z i (x ∷ v) w (suc p) e =
    let q : i + 1 + p ≡ i + suc p = omega arith in
    own_off z (i + 1) v w p (ap (has z) q ∙ e)

pub own_on : (z i : ℕ) (v w : Ports) (p : ℕ) → p < length v → has z (i + p) ≡ true → reading (put_own z i v w) p ≡ reading w (i + p)
own_on z i [] w p k e = absurd (omega arith)
own_on z i (x ∷ v) w zero k e = let f : has z i ≡ true = ap (has z) (sym (add-zero i)) ∙ e in rw (f, add-zero i)
own_on z i (x ∷ v) w (suc p) k e =
    let q : i + 1 + p ≡ i + suc p = omega arith in
    own_on z (i + 1) v w p (omega arith) (ap (has z) q ∙ e) ∙ ap (reading w) q

pub apart : {x : PortKind} → x ≡ Driver → x ≡ Task → ⊥
apart e f = cc

module _ (m : Meaning) (ok : Lawful m) where
  driver_unowned : (p : ℕ) → kind m.sheet p ≡ Driver → Unowned m p
  driver_unowned p e t k i = apart e (ok.rules.owned t p i).1

  pub drivers_plain : (v v' : Ports) (f f' : Table) (p : ℕ) → Alike m v v' f f' → kind m.sheet p ≡ Driver → reading v p ≡ reading v' p
  drivers_plain v v' f f' p s e = s.plain p (driver_unowned p e)

  -- an own port is no sensor
  quiet : (t p : ℕ) → In p (own m t) → get_or (kinds_of m.sheet) p Sensor ≡ Sensor → ⊥
  quiet t p i e =
      let r = ok.rules.owned t p i in
      let g = get_or-take m.sheet.ports m.sheet.kinds p Sensor r.0 in
      cc

  -- some task owns the port, or none does
  owner : (p : ℕ) → ((t : ℕ) × (t < m.sheet.tasks) × In p (own m t)) ⊎ Unowned m p
  owner p = go (lowest m.sheet.tasks (λ t. has (own m t) p)) refl
    where
      go : (o : Option ℕ) → lowest m.sheet.tasks (λ t. has (own m t) p) ≡ o → ((t : ℕ) × (t < m.sheet.tasks) × In p (own m t)) ⊎ Unowned m p
      go (Some t) e =
          let l = lowest_some m.sheet.tasks (λ t. has (own m t) p) t e in
          inl (t, l.0, eqb-true (own m t / 2 ^ p % 2) 1 l.1)
      go None e = inr (λ t k i. eqb-false (own m t / 2 ^ p % 2) 1 (lowest_none m.sheet.tasks (λ t. has (own m t) p) e t k) i)

  -- the laws of the host, for numbers off the sheet too
  pub drive_long : (d : ℕ) (v : Ports) → length (m.drive d v) ≡ length v
  drive_long d v = ⊎_elim (λ (k : d < m.sheet.drivers). (ok.drives d k).keeps_length v) (λ (k : m.sheet.drivers ≤ d). ap length (ok.drives_off d k v)) (cases_lt d m.sheet.drivers)

  pub drive_only : (d : ℕ) (v : Ports) (p : ℕ) → (In p (writes_of m.sheet d) → ⊥) → reading (m.drive d v) p ≡ reading v p
  drive_only d v p n = ⊎_elim (λ (k : d < m.sheet.drivers). (ok.drives d k).only v p n) (λ (k : m.sheet.drivers ≤ d). ap (λ xs. reading xs p) (ok.drives_off d k v)) (cases_lt d m.sheet.drivers)

  drive_same : (d : ℕ) (v w : Ports) → length v ≡ length w → Agree (writes_of m.sheet d) v w → Agree (reads_of m.sheet d) v w → Agree (writes_of m.sheet d) (m.drive d v) (m.drive d w)
  drive_same d v w l a b p i = ⊎_elim
      (λ (k : d < m.sheet.drivers). (ok.drives d k).depends v w l a b p i)
      (λ (k : m.sheet.drivers ≤ d). ap (λ xs. reading xs p) (ok.drives_off d k v) ∙ a p i ∙ sym (ap (λ xs. reading xs p) (ok.drives_off d k w)))
      (cases_lt d m.sheet.drivers)

  test_same : (q : ℕ) (v w : Ports) → Agree (get_or m.sheet.looks q 0) v w → m.test q v ≡ m.test q w
  test_same q v w a = ⊎_elim
      (λ (k : q < m.sheet.conditions). (ok.tests q k).depends v w a)
      (λ (k : m.sheet.conditions ≤ q). ok.tests_off q k v ∙ sym (ok.tests_off q k w))
      (cases_lt q m.sheet.conditions)

  pub alike_sym : (v v' : Ports) (f f' : Table) → Alike m v v' f f' → Alike m v' v f' f
  alike_sym v v' f f' s = record {
    long = s.long';
    long' = s.long;
    off = s.off';
    off' = s.off;
    plain = λ p e. sym (s.plain p e);
    owned = λ t p k e. sym (s.owned t p k e);
  }

  put_will : (t p : ℕ) (o : Option Ports) (v : Ports) (r : List ℤ) → In p (own m t) → will m t o (put_readings (kinds_of m.sheet) v r) p ≡ will m t o v p
  put_will t p None v r e = put_other (kinds_of m.sheet) v r p (quiet t p e)
  put_will t p (Some w) v r e = refl

  taken_less : (o : Option Job) → taken_by (one_less_left o) ≡ taken_by o
  taken_less None = refl
  taken_less (Some k) = refl

  taken_more : (o : Option Job) → taken_by (one_more_used o) ≡ taken_by o
  taken_more None = refl
  taken_more (Some k) = refl

  taken_charged : (f : Table) (r : Option ℕ) (t : ℕ) → taken_by (charged f r t) ≡ taken_by (f t)
  taken_charged f None t = refl
  taken_charged f (Some i) t = go (eqb t i) refl
    where
      go : (b : Bool) → eqb t i ≡ b → taken_by (cond (eqb t i) (one_more_used (f i)) (f t)) ≡ taken_by (f t)
      go true e = let u : t ≡ i = eqb-true t i e in rw e (rw u (taken_more (f i)))
      go false e = rw e

  -- what is not pending has nothing taken, and the other way
  taken_none : (o : Option Job) → taken_by o ≡ None → o ≡ None
  taken_none None e = refl
  taken_none (Some k) e = cc

  still_off : (f : Table) (i : Option ℕ) (t : ℕ) → f t ≡ None → one_less_left (charged f i t) ≡ None
  still_off f i t e = taken_none (one_less_left (charged f i t)) (taken_less (charged f i t) ∙ taken_charged f i t ∙ ap taken_by e)

  -- the same readings, a slot charged to whichever task
  pub alike_open : (v v' : Ports) (f f' : Table) (r : List ℤ) (i i' : Option ℕ) → Alike m v v' f f' →
      Alike m (put_readings (kinds_of m.sheet) v r) (put_readings (kinds_of m.sheet) v' r) (λ t. one_less_left (charged f i t)) (λ t. one_less_left (charged f' i' t))
  alike_open v v' f f' r i i' s = record {
    long = put_long (kinds_of m.sheet) v r ∙ s.long;
    long' = put_long (kinds_of m.sheet) v' r ∙ s.long';
    off = λ t k. still_off f i t (s.off t k);
    off' = λ t k. still_off f' i' t (s.off' t k);
    plain = λ p e. put_same (kinds_of m.sheet) v v' r p (s.long ∙ sym s.long') (s.plain p e);
    owned = λ t p k e. (let a = taken_less (charged f i t) ∙ taken_charged f i t in
        let b = taken_less (charged f' i' t) ∙ taken_charged f' i' t in
        ap (λ (o : Option Ports). will m t o (put_readings (kinds_of m.sheet) v r) p) a ∙ put_will t p (taken_by (f t)) v r e ∙ s.owned t p k e
        ∙ sym (put_will t p (taken_by (f' t)) v' r e) ∙ sym (ap (λ (o : Option Ports). will m t o (put_readings (kinds_of m.sheet) v' r) p) b));
  }

  -- own ports of a task that is pending in neither run
  settled : (v v' : Ports) (f f' : Table) (t p : ℕ) → Alike m v v' f f' → t < m.sheet.tasks → is_pending f t ≡ false → is_pending f' t ≡ false → In p (own m t) → reading v p ≡ reading v' p
  settled v v' f f' t p s k a b e =
      let x = not_pending (f t) a in
      let y = not_pending (f' t) b in
      sym (ap (λ (o : Option Ports). will m t o v p) x) ∙ s.owned t p k e ∙ ap (λ (o : Option Ports). will m t o v' p) y

  alike_call : (d : ℕ) (v v' : Ports) (f f' : Table) → touched m.sheet f (Call d) ≡ None → touched m.sheet f' (Call d) ≡ None → Alike m v v' f f' →
      Alike m (m.drive d v) (m.drive d v') f f'
  alike_call d v v' f f' a b s = record {
    long = drive_long d v ∙ s.long;
    long' = drive_long d v' ∙ s.long';
    off = s.off;
    off' = s.off';
    plain = λ p e. go p e (cases_eq (writes_of m.sheet d / 2 ^ p % 2) 1);
    owned = λ t p k e. drive_will t p (taken_by (f t)) v e ∙ s.owned t p k e ∙ sym (drive_will t p (taken_by (f' t)) v' e);
  }
    where
      reads : Agree (reads_of m.sheet d) v v'
      reads p e = ⊎_elim
          (λ (w : (t : ℕ) × (t < m.sheet.tasks) × In p (own m t)).
          (let q = (tells_shares m.sheet d w.0).1 (inl (p, e, w.2)) in
          settled v v' f f' w.0 p s w.1 (not_touched m.sheet d f w.0 w.1 a q) (not_touched m.sheet d f' w.0 w.1 b q) w.2))
          (λ (w : Unowned m p). s.plain p w)
          (owner p)

      writes : Agree (writes_of m.sheet d) v v'
      writes p e = s.plain p (driver_unowned p (ok.rules.written d p e).1)

      go : (p : ℕ) → Unowned m p → In p (writes_of m.sheet d) ⊎ (In p (writes_of m.sheet d) → ⊥) → reading (m.drive d v) p ≡ reading (m.drive d v') p
      go p e (inl u) = drive_same d v v' (s.long ∙ sym s.long') writes reads p u
      go p e (inr u) = drive_only d v p u ∙ s.plain p e ∙ sym (drive_only d v' p u)

      drive_will : (t p : ℕ) (o : Option Ports) (w : Ports) → In p (own m t) → will m t o (m.drive d w) p ≡ will m t o w p
      drive_will t p None w e = drive_only d w p (λ u. apart (ok.rules.written d p u).1 (ok.rules.owned t p e).1)
      drive_will t p (Some x) w e = refl

  alike_release : (x w : ℕ) (v v' : Ports) (f f' : Table) → x < m.sheet.tasks → touched m.sheet f (Release x w) ≡ None → touched m.sheet f' (Release x w) ≡ None → Alike m v v' f f' →
      Alike m v v' (pending_after (Release x w) v f) (pending_after (Release x w) v' f')
  alike_release x w v v' f f' lt a b s = record {
    long = s.long;
    long' = s.long';
    off = λ t k. other f v t k ∙ s.off t k;
    off' = λ t k. other f' v' t k ∙ s.off' t k;
    plain = s.plain;
    owned = λ t p k e. go t p k e (eqb t x) refl;
  }
    where
      other : (g : Table) (u : Ports) (t : ℕ) → m.sheet.tasks ≤ t → pending_after (Release x w) u g t ≡ g t
      other g u t k = let n : eqb t x ≡ false = ne_eqb t x (λ e. omega arith) in rw n

      free : (g : Table) (y : Bool) → is_pending g x ≡ y → touched m.sheet g (Release x w) ≡ None → is_pending g x ≡ false
      free g true e u = absurd (let k : cond (is_pending g x) (Some x) None ≡ Some x = rw e in cc)
      free g false e u = e

      owns : Agree (own m x) v v'
      owns p e = settled v v' f f' x p s lt (free f (is_pending f x) refl a) (free f' (is_pending f' x) refl b) e

      sees : Agree (sees_of m.sheet x) v v'
      sees p e = s.plain p (driver_unowned p (ok.rules.seen x p e).1)

      go : (t p : ℕ) → t < m.sheet.tasks → In p (own m t) → (y : Bool) → eqb t x ≡ y →
          will m t (taken_by (pending_after (Release x w) v f t)) v p ≡ will m t (taken_by (pending_after (Release x w) v' f' t)) v' p
      go t p k e true u =
          let q : t ≡ x = eqb-true t x u in
          rw u ((ok.works t k).depends v v' (s.long ∙ sym s.long') (subst (λ (i : ℕ). Agree (own m i) v v') (sym q) owns) (subst (λ (i : ℕ). Agree (sees_of m.sheet i) v v') (sym q) sees) p e)
      go t p k e false u = rw u (s.owned t p k e)

  pub alike_instruction : (i : Instruction) (v v' : Ports) (f f' : Table) → Ranged m.sheet i → touched m.sheet f i ≡ None → touched m.sheet f' i ≡ None → Alike m v v' f f' →
      Alike m (ports_after m i v) (ports_after m i v') (pending_after i v f) (pending_after i v' f')
  alike_instruction (Call d) v v' f f' r a b s = alike_call d v v' f f' a b s
  alike_instruction (Release x w) v v' f f' r a b s = alike_release x w v v' f f' r.0 a b s
  alike_instruction (Future x y z) v v' f f' r a b s = s
  alike_instruction (If q y) v v' f f' r a b s = s
  alike_instruction (Jump y) v v' f f' r a b s = s
  alike_instruction Return v v' f f' r a b s = s

  pub alike_next : (i : Instruction) (a : ℕ) (v v' : Ports) (f f' : Table) → Alike m v v' f f' → next_after m i a v ≡ next_after m i a v'
  alike_next (Call d) a v v' f f' s = refl
  alike_next (Release x w) a v v' f f' s = refl
  alike_next (Future x y z) a v v' f f' s = refl
  alike_next (If q y) a v v' f f' s =
      ap (λ (b : Bool). Some (cond b y (a + 1))) (test_same q v v' (λ p e. s.plain p (λ t k i. (ok.rules.looked q p e).1 (ok.rules.owned t p i).1)))
  alike_next (Jump y) a v v' f f' s = refl
  alike_next Return a v v' f f' s = refl

  -- a task ends in one of the runs
  pub alike_done : (i : ℕ) (k : Job) (v v' : Ports) (f f' : Table) → f i ≡ Some k → Alike m v v' f f' →
      Alike m (put_own (own m i) 0 v (m.work i k.taken)) v' (changed f i None) f'
  alike_done i k v v' f f' is s = record {
    long = own_long (own m i) 0 v (m.work i k.taken) ∙ s.long;
    long' = s.long';
    off = λ t n. gone t (eqb t i) (s.off t n);
    off' = s.off';
    plain = λ p e. kept p (e i below) ∙ s.plain p e;
    owned = λ t p n e. go t p n e (eqb t i) refl;
  }
    where
      gone : (t : ℕ) (b : Bool) → f t ≡ None → cond b None (f t) ≡ None
      gone t true e = refl
      gone t false e = e

      below : i < m.sheet.tasks
      below = ⊎_elim (λ (l : i < m.sheet.tasks). l)
          (λ (l : m.sheet.tasks ≤ i). absurd (let n = s.off i l in cc)) (cases_lt i m.sheet.tasks)

      kept : (p : ℕ) → (In p (own m i) → ⊥) → reading (put_own (own m i) 0 v (m.work i k.taken)) p ≡ reading v p
      kept p e = own_off (own m i) 0 v (m.work i k.taken) p (ap (has (own m i)) (zero-add p) ∙ not_in p (own m i) e)

      ended : changed f i None i ≡ None
      ended = rw (eq-eqb i i refl)

      here : (p : ℕ) → In p (own m i) →
          will m i (taken_by (changed f i None i)) (put_own (own m i) 0 v (m.work i k.taken)) p ≡ will m i (taken_by (f' i)) v' p
      here p e =
          let l : p < length v = omega (arith, (ok.rules.owned i p e).0, s.long) in
          ap (λ (o : Option Job). will m i (taken_by o) (put_own (own m i) 0 v (m.work i k.taken)) p) ended
          ∙ own_on (own m i) 0 v (m.work i k.taken) p l (ap (has (own m i)) (zero-add p) ∙ eq-eqb (own m i / 2 ^ p % 2) 1 e)
          ∙ ap (reading (m.work i k.taken)) (zero-add p)
          ∙ sym (ap (λ (o : Option Job). will m i (taken_by o) v p) is)
          ∙ s.owned i p below e

      alike_will : (t p : ℕ) (o : Option Ports) (a b : Ports) → reading a p ≡ reading b p → will m t o a p ≡ will m t o b p
      alike_will t p None a b e = e
      alike_will t p (Some x) a b e = refl

      go : (t p : ℕ) → t < m.sheet.tasks → In p (own m t) → (y : Bool) → eqb t i ≡ y →
          will m t (taken_by (changed f i None t)) (put_own (own m i) 0 v (m.work i k.taken)) p ≡ will m t (taken_by (f' t)) v' p
      go t p n e true u =
          let q : t ≡ i = eqb-true t i u in
          subst (λ (j : ℕ). will m j (taken_by (changed f i None j)) (put_own (own m i) 0 v (m.work i k.taken)) p ≡ will m j (taken_by (f' j)) v' p) (sym q)
          (here p (subst (λ (j : ℕ). In p (own m j)) q e))
      go t p n e false u =
          rw u (alike_will t p (taken_by (f t)) (put_own (own m i) 0 v (m.work i k.taken)) v (kept p (λ w. eqb-false t i u (ok.rules.owned_once t i p e w))) ∙ s.owned t p n e)
