-- An array that `from_fn` makes by a closure which changes nothing is the list of its values, and so is a table padded from it.
-- Rests on nothing else.
use Rattle.std.proofs.Common.{◌≡◌, ℕ, zero, suc, ◌+◌, ◌-◌, ◌<◌, ◌≤◌, List, ◌++◌, length, get_or, map, replicate, sym, ap, ◌∙◌, subst, inl, inr, arith}
use Rattle.std.specs.Array.{IsFromFnResultFrom, IsFromFnResult}
use Rattle.std.specs.List.{range_with_len}
use Rattle.std.proofs.lemmas.Bool.{cases_eq}
use Rattle.std.proofs.lemmas.List.FromFn.{fill_by_all}
use denote.Param.Members.{Mut, Called}

module _ {F B : Type 0} (g : Mut F (ℕ × Unit {0}) B) (f : F) (value : ℕ → B) (n : ℕ)
    (same : (k : ℕ) (y : B) (q : F) → k < n → Called g f (k, tt) y q → (q ≡ f) × (y ≡ value k)) where
  made_from : (ys : List B) (d : B) (i m : ℕ) → i + m ≡ n → IsFromFnResultFrom g f ys i m
      → (k : ℕ) → i ≤ k → k < n → get_or ys k d ≡ value k
  made_from ys d i zero e each k low high = absurd (omega arith)
  made_from ys d i (suc m) e (q, y, place, call, rest) k low high =
      let here : i < n = omega arith in
      let kept = same i y q here call in
      elim (cases_eq k i) [
        | inl s ↦ subst (λ j. get_or ys j d ≡ value j) (sym s) (place.1 d ∙ kept.1)
        | inr ne ↦ made_from ys d (i + 1) m (omega arith) (subst (λ p. IsFromFnResultFrom g p ys (i + 1) m) kept.0 rest) k (omega arith) high
      ]

  pub made_by : (ys : List B) → IsFromFnResult g f ys n → ys ≡ map value (range_with_len 0 n)
  made_by ys r = fill_by_all value ys n (value 0) r.long (λ k h. made_from ys (value 0) 0 n (omega arith) r.each k (omega arith) h)

pub padded_with : {X : Type 0} (n : ℕ) (filler : X) {table items values : List X}
    → table ≡ items ++ replicate (n - length items) filler → items ≡ values → table ≡ values ++ replicate (n - length values) filler
padded_with n filler e h = e ∙ ap (λ l. l ++ replicate (n - length l) filler) h
