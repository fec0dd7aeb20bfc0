-- The queue's list.
use Rattle.std.proofs.Common.{◌≡◌, ℕ, zero, suc, ◌+◌, ◌-◌, ◌<◌, ◌≤◌, false, eqb, List, [], ◌∷◌, ◌++◌, length, get_or, take, drop, Some, None, sym, refl, ap, ◌∙◌, add-one, arith, length-take, length-drop}
use Rattle.std.specs.List.{copy_within, remove}
use Rattle.std.proofs.lemmas.Bool.{eq-eqb, ne_eqb}
use Rattle.std.proofs.lemmas.List.{get_or-take, take-take, drop-take}
use Rattle.std.proofs.lemmas.List.Edits.{take-paste}
use Rattle.machine.specs.declared.binding.Binding.{Binding}
use Rattle.machine.specs.Runner.{first_due}

abbrev pub none : Binding
none = record { wait = 0; at = 0 }

pub due_none : (q : List Binding) → ((k : ℕ) → k < length q → (get_or q k none).wait ≡ 0 → ⊥) → first_due q ≡ None
due_none [] h = refl
due_none (b ∷ q) h =
    let rest = due_none q (λ k l. h (suc k) (omega arith)) in
    let ne : eqb b.wait 0 ≡ false = ne_eqb b.wait 0 (h 0 (omega arith)) in
    rw (ne, rest)

pub due_found : (q : List Binding) (i : ℕ) → i < length q → ((k : ℕ) → k < i → (get_or q k none).wait ≡ 0 → ⊥) → (get_or q i none).wait ≡ 0
    → first_due q ≡ Some (record { address = (get_or q i none).at; others = remove q i })
due_found [] i l h e = absurd (omega arith)
due_found (b ∷ q) zero l h e = rw (eq-eqb b.wait 0 e)
due_found (b ∷ q) (suc i) l h e =
    let rest = due_found q i (omega arith) (λ k l. h (suc k) (omega arith)) e in
    let ne : eqb b.wait 0 ≡ false = ne_eqb b.wait 0 (h 0 (omega arith)) in
    rw (ne, rest)

-- the binding at i is taken out of the first n, and those after it move up
pub moved_up : (xs : List Binding) (i n : ℕ) → i < n → n ≤ length xs → take (n - 1) (copy_within xs (i + 1) n i) ≡ remove (take n xs) i
moved_up xs i n lt le =
    let m = n - (i + 1) in
    let to : n - 1 ≡ i + m = omega arith in
    let from : n ≡ suc i + m = omega arith in
    ap (λ k. take k (copy_within xs (i + 1) n i)) to ∙ take-paste xs i (drop (i + 1) xs) m (omega arith) (omega (arith, length-drop (i + 1) xs))
    ∙ sym (ap (λ l. l ++ drop (suc i) (take n xs)) (take-take i n xs (omega arith))
    ∙ ap (λ l. take i xs ++ l) (ap (λ k. drop (suc i) (take k xs)) from ∙ drop-take (suc i) m xs ∙ ap (λ k. take m (drop k xs)) (sym (add-one i))))

-- the first binding that is due, where it was taken out of the first n
pub due_taken : (xs ys : List Binding) (i n : ℕ) → i < n → n ≤ length xs → ((k : ℕ) → k < i → (get_or (take n xs) k none).wait ≡ 0 → ⊥) → (get_or (take n xs) i none).wait ≡ 0
    → ys ≡ copy_within xs (i + 1) n i → first_due (take n xs) ≡ Some (record { address = (get_or xs i none).at; others = take (n - 1) ys })
due_taken xs ys i n lt le waits due left =
    due_found (take n xs) i (omega (arith, length-take n xs)) waits due
    ∙ ap (λ (b : Binding). Some (record { address = b.at; others = remove (take n xs) i })) (get_or-take n xs i none lt)
    ∙ ap (λ l. Some (record { address = (get_or xs i none).at; others = l })) (sym (ap (take (n - 1)) left ∙ moved_up xs i n lt le))
