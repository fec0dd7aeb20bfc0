-- What a layer of end stops does to the ports that a driver writes. Rests on the rules of the stops that are kept.
use Rattle.std.proofs.Common.{◌≡◌, ℕ, ◌/◌, ◌%◌, ◌^◌, ◌<◌, Bool, true, false, cond, ◌≢◌, List, [], ◌∷◌, length, set, ℤ, pos, ◌≤ℤ◌, sym, refl, ap, ◌∙◌, subst, inl, inr, arith, length-set, get_or-set_other, get_or-set_same}
use Rattle.std.specs.List.{AllByRecursion}
use Rattle.std.proofs.lemmas.Int.{ints}
use Rattle.std.proofs.lemmas.Bool.{eq-eqb, eqb-true, lt-ltb}
use Rattle.ecode.specs.Wiring.{has}
use Rattle.ecode.specs.Sheets.{In, writes_of}
use Rattle.host.specs.declared.stop.Stop.{Stop}
use Rattle.host.specs.Bounds.{held}
use Rattle.host.specs.Meaning.{reading}
use Rattle.host.specs.Stops.{kept_of, stop_one, stop_all}
use Rattle.host.specs.StopLaws.{Named, Once, Proper, Stopping, EndStopsHold}
use Rattle.host.proofs.Keeping.{kept_rules}

-- a value that is held, where low is not above high
module _ (low high v : ℤ) (ordered : low ≤ℤ high) where
  held_from_low : low ≤ℤ held low high v
  held_from_low = grind (arith, ints)

  held_to_high : held low high v ≤ℤ high
  held_to_high = grind (arith, ints)

  held_low : v ≤ℤ low → held low high v ≡ low
  held_low h = grind (arith, ints)

  held_high : high ≤ℤ v → held low high v ≡ high
  held_high h = grind (arith, ints)

  held_inside : low ≤ℤ v → v ≤ℤ high → held low high v ≡ v
  held_inside h k = grind (arith, ints)

module _ (written : ℕ) where
  -- one stop: its port if it is written, and no other
  one_length : (s : Stop) (xs : List ℤ) → length (stop_one written s xs) ≡ length xs
  one_length s xs = by (has written s.port)
    where
      by : (b : Bool) → length (cond b (set xs s.port (held s.low s.high (reading xs s.port))) xs) ≡ length xs
      by true = length-set xs s.port _
      by false = refl

  one_other : (s : Stop) (xs : List ℤ) (p : ℕ) → (In p written → s.port ≡ p → ⊥) → reading (stop_one written s xs) p ≡ reading xs p
  one_other s xs p n = by (has written s.port) refl
    where
      by : (b : Bool) → has written s.port ≡ b → reading (cond b (set xs s.port (held s.low s.high (reading xs s.port))) xs) p ≡ reading xs p
      by true e =
          let ne : p ≢ s.port = λ q. n (subst (λ k. In k written) (sym q) (eqb-true (written / 2 ^ s.port % 2) 1 e)) (sym q) in
          get_or-set_other xs s.port p _ (pos 0) ne
      by false e = refl

  one_named : (s : Stop) (xs : List ℤ) → s.port < length xs → In s.port written → reading (stop_one written s xs) s.port ≡ held s.low s.high (reading xs s.port)
  one_named s xs lt in_written =
      let v = held s.low s.high (reading xs s.port) in
      ap (λ b. reading (cond b (set xs s.port v) xs) s.port) (eq-eqb (written / 2 ^ s.port % 2) 1 in_written)
      ∙ get_or-set_same xs s.port v (pos 0) lt

  -- all of them
  all_other : (ss : List Stop) (xs : List ℤ) (p : ℕ) → (In p written → Named p ss → ⊥) → reading (stop_all written ss xs) p ≡ reading xs p
  unfolding stop_all
  all_other [] xs p n = refl
  all_other (s ∷ ss) xs p n = all_other ss (stop_one written s xs) p (λ w m. n w (inr m)) ∙ one_other s xs p (λ w e. n w (inl e))

  -- what follows of every stop, where no two are for one port, from what follows of a port that is held
  all_named : (Q : Stop → ℤ → ℤ → Type 0) (ports : ℕ) (P : Stop → Type 0)
      → ((s : Stop) → P s → s.port < ports)
      → ((s : Stop) (v : ℤ) → P s → Q s v (held s.low s.high v))
      → (ss : List Stop) (xs ys : List ℤ) → length xs ≡ ports → Once ss → AllByRecursion P ss
      → ((p : ℕ) → Named p ss → reading xs p ≡ reading ys p)
      → AllByRecursion (λ s. In s.port written → Q s (reading ys s.port) (reading (stop_all written ss xs) s.port)) ss
  unfolding stop_all
  all_named Q ports P on q [] xs ys len once all same = tt
  all_named Q ports P on q (s ∷ ss) xs ys len once all same =
      let next = stop_one written s xs in
      let here : In s.port written → reading (stop_all written ss next) s.port ≡ held s.low s.high (reading ys s.port) =
      λ w. all_other ss next s.port (λ _ m. once.0 m)
      ∙ one_named s xs (subst (λ n. s.port < n) (sym len) (on s all.0)) w
      ∙ ap (held s.low s.high) (same s.port (inl refl)) in (
        (λ w. subst (Q s (reading ys s.port)) (sym (here w)) (q s (reading ys s.port) all.0)),
        all_named Q ports P on q ss next ys (one_length s xs ∙ len) once.1 all.1
            (λ p m. one_other s xs p (λ _ e. once.0 (subst (λ k. Named k ss) (sym e) m)) ∙ same p (inr m)),
      )

pub end_stops_hold : EndStopsHold
end_stops_hold m names d xs l h len =
    let ss = kept_of m.sheet names in
    let rules = kept_rules m.sheet names in
    let written = writes_of m.sheet d in
    let below = m.drive d xs in
    let long : length below ≡ m.sheet.ports = (l.drives d h).keeps_length xs ∙ len in
    let held_all : (Q : Stop → ℤ → ℤ → Type 0) → ((s : Stop) (v : ℤ) → Proper m.sheet s → Q s v (held s.low s.high v))
    → AllByRecursion (λ s. In s.port written → Q s (reading below s.port) (reading (stop_all written ss below) s.port)) ss =
    λ Q q. all_named written Q m.sheet.ports (Proper m.sheet) (λ s p. p.on_sheet) q ss below below long rules.once rules.proper (λ p _. refl) in
    subst (λ b. Stopping written ss below (cond b (stop_all written ss below) xs)) (sym (lt-ltb d m.sheet.drivers h)) (record {
      bounded = held_all (λ s v r. (s.low ≤ℤ r) × (r ≤ℤ s.high)) (λ s v p. (held_from_low s.low s.high v p.ordered, held_to_high s.low s.high v p.ordered));
      lowest = held_all (λ s v r. v ≤ℤ s.low → r ≡ s.low) (λ s v p. held_low s.low s.high v p.ordered);
      highest = held_all (λ s v r. s.high ≤ℤ v → r ≡ s.high) (λ s v p. held_high s.low s.high v p.ordered);
      inside = held_all (λ s v r. s.low ≤ℤ v → v ≤ℤ s.high → r ≡ v) (λ s v p. held_inside s.low s.high v p.ordered);
      others = λ p n. all_other written ss below p n;
    })
