-- A layer of end stops keeps the law of hosts where the lower host does: to hold a port touches only what the driver writes.
-- Rests on the building blocks of Locals.
use Rattle.std.specs.Prelude.{◌≡◌, ℕ, ◌+◌, ◌/◌, ◌%◌, ◌^◌, ◌<◌, ◌≤◌, Bool, true, false, cond, List, [], ◌∷◌, length, drop, ℤ, slice_index_or, slice_set, refl}
use Rattle.std.proofs.Common.{sym, ap, subst, ◌∙◌}
use Rattle.std.proofs.lemmas.List.{at_drop_more, at_drop_all}
use Rattle.std.proofs.lemmas.Bool.{eqb-true, lt-ltb, le-ltb, cond-false}
use Rattle.ecode.specs.Wiring.{has}
use Rattle.host.specs.declared.stop.Stop.{Stop}
use Rattle.host.specs.Bounds.{held}
use Rattle.host.specs.Meaning.{Meaning, reading, Local, Lawful}
use Rattle.host.specs.Stops.{stop_one, stop_all, stopped}
use Rattle.host.specs.Locals.{keep_local, set_local, then_local}
use Rattle.ecode.specs.Sheets.{reads_of, writes_of}

module _ (written read : ℕ) where
  stop_local : (s : Stop) (b : Bool) → has written s.port ≡ b
      → Local written read (λ xs. cond b (slice_set xs s.port (held s.low s.high (reading xs s.port))) xs)
  stop_local s true e =
      let in_written = eqb-true (written / 2 ^ s.port % 2) 1 e in
      set_local written read s.port (λ xs. held s.low s.high (reading xs s.port)) in_written
      (λ xs ys aw ar. ap (held s.low s.high) (aw s.port in_written))
  stop_local s false e = keep_local written read

  stops_local : (ss : List Stop) → Local written read (stop_all written ss)
  unfolding stop_all
  stops_local [] = keep_local written read
  stops_local (s ∷ ss) =
      then_local written read (stop_one written s) (stop_all written ss) (stop_local s (has written s.port) refl) (stops_local ss)

-- a stop has been met: those that are left give what it and they gave
pub stop_more : (written : ℕ) (ss : List Stop) (i : ℕ) (d : Stop) (xs ys : List ℤ) → i < length ss → ys ≡ stop_one written (slice_index_or ss i d) xs
    → stop_all written (drop (i + 1) ss) ys ≡ stop_all written (drop i ss) xs
unfolding stop_all
stop_more written ss i d xs ys h e = ap (stop_all written (drop (i + 1) ss)) e ∙ sym (at_drop_more (λ ts. stop_all written ts xs) ss i d h)

-- none is left
pub stop_none : (written : ℕ) (ss : List Stop) (i : ℕ) (xs : List ℤ) → length ss ≤ i → xs ≡ stop_all written (drop i ss) xs
unfolding stop_all
stop_none written ss i xs h = sym (at_drop_all (λ ts. stop_all written ts xs) ss i h)

pub stopped_lawful : (ss : List Stop) (m : Meaning) → Lawful m → Lawful (stopped ss m)
stopped_lawful ss m l = record {
  rules = l.rules;
  drives = λ d h.
      let written = writes_of m.sheet d in
      let read = reads_of m.sheet d in
      subst (λ b. Local written read (λ xs. cond b (stop_all written ss (m.drive d xs)) xs)) (sym (lt-ltb d m.sheet.drivers h))
      (then_local written read (m.drive d) (stop_all written ss) (l.drives d h) (stops_local written read ss));
  works = l.works;
  tests = l.tests;
  drives_off = λ d h xs. cond-false _ _ _ (le-ltb d m.sheet.drivers h);
  works_off = l.works_off;
  tests_off = l.tests_off;
}
