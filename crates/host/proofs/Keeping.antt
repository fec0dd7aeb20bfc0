-- How a table comes to keep stops of the names given, and that those kept are as they should be. Rests on nothing else.
use Rattle.std.proofs.Common.{◌≡◌, ℕ, ◌+◌, ◌<◌, ◌≤◌, Bool, true, false, cond, not, ◌&&◌, T, eqb, ltb, ◌⊎◌, List, [], ◌∷◌, ◌++◌, length, get_or, take, drop, set, sym, refl, ap, ◌∙◌, subst, inl, inr, arith, length-take}
use lib.Signed.{le_z, le_z_yes}
use Rattle.std.specs.List.{AllByRecursion}
use Rattle.std.proofs.ByRecursion.{All-push, All-weaker}
use Rattle.std.proofs.lemmas.List.{length_push, take_more_set, at_drop_more, at_drop_all}
use Rattle.std.proofs.lemmas.Bool.{and_parts, and_from, and_left, and_cases, or_cases, or_parts, both_ways, cases_Bool, eqb-true, eqb-false, le-ltb, lt-ltb, ltb-true, ltb-false, not-true}
use Rattle.ecode.specs.declared.sheet.Sheet.{Sheet}
use Rattle.ecode.specs.Wiring.{is_driver}
use Rattle.ecode.proofs.Wired.{driver_kind}
use Rattle.ecode.specs.Sheets.{kind}
use Rattle.host.specs.declared.stop.Stop.{Stop}
use Rattle.host.specs.Stops.{is_driver_port, names_port, admissible, admitted, admitted_all, kept_of}
use Rattle.host.specs.StopLaws.{Named, Among, Once, Proper, KeptRules}

-- a stop is put behind those of a table
pub kept_push : (sheet : Sheet) (stops : List Stop) (count : ℕ) (n : Stop) → count < length stops → count < 4 → true ≡ admissible sheet (take count stops) n
    → take (count + 1) (set stops count n) ≡ admitted sheet (take count stops) n
kept_push sheet stops count n h room e =
    let ss = take count stops in
    let lt : length ss < 4 = simp length-take (omega arith) in
    let may : (ltb (length ss) 4 && admissible sheet ss n) ≡ true = and_from (ltb (length ss) 4) (admissible sheet ss n) (lt-ltb (length ss) 4 lt) (sym e) in
    take_more_set stops count n h ∙ sym (ap (λ b. cond b (ss ++ (n ∷ [])) ss) may)

-- a name has been met: those that are left give what it and they gave
pub admit_more : (sheet : Sheet) (names : List Stop) (i : ℕ) (d : Stop) (ss ts : List Stop) → i < length names → ts ≡ admitted sheet ss (get_or names i d)
    → admitted_all sheet ts (drop (i + 1) names) ≡ admitted_all sheet ss (drop i names)
unfolding admitted_all
admit_more sheet names i d ss ts h e =
    ap (λ us. admitted_all sheet us (drop (i + 1) names)) e ∙ sym (at_drop_more (admitted_all sheet ss) names i d h)

-- none is left
pub admit_none : (sheet : Sheet) (names : List Stop) (i : ℕ) (ss : List Stop) → length names ≤ i → ss ≡ admitted_all sheet ss (drop i names)
unfolding admitted_all
admit_none sheet names i ss h = sym (at_drop_all (admitted_all sheet ss) names i h)

-- the test tells whether a port is named
named_yes : (p : ℕ) (ss : List Stop) → names_port p ss ≡ true → Named p ss
named_yes p [] e = let z : ◌≡◌ {A = ℕ} 0 1 = cc in absurd (omega arith)
named_yes p (s ∷ ss) e = elim (or_cases (eqb s.port p) (names_port p ss) e) [
  | inl h ↦ inl (eqb-true s.port p h)
  | inr h ↦ inr (named_yes p ss h)
]

named_no : (p : ℕ) (ss : List Stop) → names_port p ss ≡ false → Named p ss → ⊥
named_no p [] e n = n
named_no p (s ∷ ss) e (inl h) = eqb-false s.port p (or_parts (eqb s.port p) (names_port p ss) e).0 h
named_no p (s ∷ ss) e (inr h) = named_no p ss (or_parts (eqb s.port p) (names_port p ss) e).1 h

-- a port that is named stays named as stops are added, and the port of a stop that is added is named
named_stays : (p : ℕ) (ss ts : List Stop) → Named p ss → Named p (ss ++ ts)
named_stays p [] ts n = elim n [ ]
named_stays p (s ∷ ss) ts (inl e) = inl e
named_stays p (s ∷ ss) ts (inr n) = inr (named_stays p ss ts n)

named_push : (ss : List Stop) (s : Stop) → Named s.port (ss ++ (s ∷ []))
named_push [] s = inl refl
named_push (t ∷ ss) s = inr (named_push ss s)

named_parts : (p : ℕ) (ss : List Stop) (s : Stop) → Named p (ss ++ (s ∷ [])) → Named p ss ⊎ (s.port ≡ p)
named_parts p [] s (inl e) = inr e
named_parts p [] s (inr n) = elim n [ ]
named_parts p (t ∷ ss) s (inl e) = inl (inl e)
named_parts p (t ∷ ss) s (inr n) = elim (named_parts p ss s n) [ inl m ↦ inl (inr m) | inr e ↦ inr e ]

once_push : (ss : List Stop) (s : Stop) → Once ss → (Named s.port ss → ⊥) → Once (ss ++ (s ∷ []))
once_push [] s o n = ((λ m. m), tt)
once_push (t ∷ ss) s o n =
    ((λ m. elim (named_parts t.port ss s m) [ inl h ↦ o.0 h | inr e ↦ n (inl (sym e)) ]), once_push ss s o.1 (λ m. n (inr m)))

among_itself : (ns : List Stop) → AllByRecursion (Among ns) ns
among_itself [] = tt
among_itself (n ∷ ns) = (inl refl, All-weaker (Among ns) (Among (n ∷ ns)) (λ s h. inr h) ns (among_itself ns))

is_true : (b : Bool) → T b → b ≡ true
is_true true h = refl
is_true false h = elim h [ ]

module _ (sheet : Sheet) where
  -- a test that a proper name fails only by its port
  proper_may : (ss : List Stop) (n : Stop) → Proper sheet n → names_port n.port ss ≡ false → admissible sheet ss n ≡ true
  proper_may ss n h e =
      and_from (is_driver_port sheet n.port) _ (and_from (ltb n.port sheet.ports) _ (lt-ltb n.port sheet.ports h.on_sheet) (ap is_driver h.for_driver))
      (and_from (le_z n.low n.high) _ (is_true (le_z n.low n.high) h.ordered.le) (ap not e))

  may_proper : (ss : List Stop) (n : Stop) → admissible sheet ss n ≡ true → Proper sheet n × (Named n.port ss → ⊥)
  may_proper ss n e =
      let parts = and_parts (is_driver_port sheet n.port) _ e in
      let port = and_parts (ltb n.port sheet.ports) _ parts.0 in
      let rest = and_parts (le_z n.low n.high) _ parts.1 in (
        record {
          on_sheet = ltb-true n.port sheet.ports port.0;
          for_driver = driver_kind (kind sheet n.port) port.1;
          ordered = le_z_yes (subst T (sym rest.0) tt);
        },
        named_no n.port ss (not-true (names_port n.port ss) rest.1),
      )

  -- what each name keeps true of those kept
  record Good (ss : List Stop) : Type 0 where
    few : length ss ≤ 4
    proper : AllByRecursion (Proper sheet) ss
    once : Once ss

  good_step : (ss : List Stop) (n : Stop) (b : Bool) → (ltb (length ss) 4 && admissible sheet ss n) ≡ b → Good ss → Good (cond b (ss ++ (n ∷ [])) ss)
  good_step ss n true e g =
      let parts = and_parts (ltb (length ss) 4) (admissible sheet ss n) e in
      let room : length ss < 4 = ltb-true (length ss) 4 parts.0 in
      let new = may_proper ss n parts.1 in
      record {
        few = simp length_push (omega arith);
        proper = All-push (Proper sheet) ss n g.proper new.0;
        once = once_push ss n g.once new.1;
      }
  good_step ss n false e g = g

  good : (names ss : List Stop) → Good ss → Good (admitted_all sheet ss names)
  unfolding admitted_all
  good [] ss g = g
  good (n ∷ names) ss g = good names (admitted sheet ss n) (good_step ss n (ltb (length ss) 4 && admissible sheet ss n) refl g)

  -- what holds of all names holds of those kept
  kept_all : (P : Stop → Type 0) (names ss : List Stop) → AllByRecursion P ss → AllByRecursion P names → AllByRecursion P (admitted_all sheet ss names)
  unfolding admitted_all
  kept_all P [] ss a h = a
  kept_all P (n ∷ names) ss a h = kept_all P names (admitted sheet ss n) (by (ltb (length ss) 4 && admissible sheet ss n)) h.1
    where
      by : (b : Bool) → AllByRecursion P (cond b (ss ++ (n ∷ [])) ss)
      by true = All-push P ss n a h.0
      by false = a

  -- a port that is named stays so, and four stay four
  still_named : (p : ℕ) (names ss : List Stop) → Named p ss → Named p (admitted_all sheet ss names)
  unfolding admitted_all
  still_named p [] ss h = h
  still_named p (n ∷ names) ss h = still_named p names (admitted sheet ss n) (by (ltb (length ss) 4 && admissible sheet ss n))
    where
      by : (b : Bool) → Named p (cond b (ss ++ (n ∷ [])) ss)
      by true = named_stays p ss (n ∷ []) h
      by false = h

  still_full : (names ss : List Stop) → length ss ≡ 4 → length (admitted_all sheet ss names) ≡ 4
  unfolding admitted_all
  still_full [] ss h = h
  still_full (n ∷ names) ss h =
      let stays : admitted sheet ss n ≡ ss = ap (λ b. cond b (ss ++ (n ∷ [])) ss) (and_left (ltb (length ss) 4) _ (le-ltb (length ss) 4 (omega arith))) in
      still_full names (admitted sheet ss n) (ap length stays ∙ h)

  passed_one : (ss : List Stop) (n : Stop) (b : Bool) → (ltb (length ss) 4 && admissible sheet ss n) ≡ b → length ss ≤ 4 → Proper sheet n
      → Named n.port (cond b (ss ++ (n ∷ [])) ss) ⊎ (length (cond b (ss ++ (n ∷ [])) ss) ≡ 4)
  passed_one ss n true e few h = inl (named_push ss n)
  passed_one ss n false e few h = elim (and_cases (ltb (length ss) 4) (admissible sheet ss n) e) [
    | inl full ↦ inr (let ge : 4 ≤ length ss = ltb-false (length ss) 4 full in omega arith)
    | inr not_so ↦
        elim (cases_Bool (names_port n.port ss)) [
          | inl yes-named ↦ inl (named_yes n.port ss yes-named)
          | inr not_named ↦ absurd (both_ways (admissible sheet ss n) not_so (proper_may ss n h not_named))
        ]
  ]

  passed : (names ss : List Stop) → Good ss → AllByRecursion (λ n. Proper sheet n → Named n.port (admitted_all sheet ss names) ⊎ (length (admitted_all sheet ss names) ≡ 4)) names
  unfolding admitted_all
  passed [] ss g = tt
  passed (n ∷ names) ss g =
      let next = admitted sheet ss n in (
        (λ h. elim (passed_one ss n (ltb (length ss) 4 && admissible sheet ss n) refl g.few h) [
          | inl m ↦ inl (still_named n.port names next m)
          | inr full ↦ inr (still_full names next full)
        ]),
        passed names next (good_step ss n (ltb (length ss) 4 && admissible sheet ss n) refl g),
      )

  pub kept_rules : (names : List Stop) → KeptRules sheet names (kept_of sheet names)
  kept_rules names =
      let none : Good [] = record { few = omega arith; proper = tt; once = tt } in
      let all = good names [] none in
      record {
        few = all.few;
        given = kept_all (Among names) names [] tt (among_itself names);
        proper = all.proper;
        once = all.once;
        passed_over = passed names [] none;
      }
