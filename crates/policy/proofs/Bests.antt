-- The best of a list so far, as a search goes through it by a preference's order. Rests on nothing else.
use Rattle.std.proofs.Common.{◌≡◌, ◌+◌, ◌⊎◌, List, [], ◌∷◌, ◌++◌, length, get_or, sym, refl, ◌∙◌, subst, inl, inr, arith, length-append}
use Rattle.std.proofs.lemmas.Bool.{cases_lt}
use Rattle.std.proofs.lemmas.List.{get_or_push, get_or_append_left}
use Rattle.policy.specs.declared.pending.PendingTask.{PendingTask}
use Rattle.policy.specs.Choice.{nobody, Order, Level, Chained, Among, AheadOfAll}

module _ (order : Order) (chained : Chained order) where
  -- the entry stands in the list and ranks first there
  abbrev pub Best : List PendingTask → PendingTask → Type 0
  Best xs a = Among xs a × AheadOfAll order xs a

  -- it, or one entry more, whichever ranks ahead, is then the best
  pub best_push : (xs : List PendingTask) (a x b : PendingTask) → Best xs a → ((b ≡ x) ⊎ (b ≡ a)) → order b x → order b a
      → Best (xs ++ (x ∷ [])) b
  best_push xs a x b (among, all) one over_x over_a =
      let long : length (xs ++ (x ∷ [])) ≡ length xs + 1 = length-append xs (x ∷ []) in
      let last = get_or_push xs x nobody (length xs) refl in (
        elim one [
          | inl e ↦ (length xs, omega (arith, long), last ∙ sym e)
          | inr e ↦ (among.0, omega (arith, long, among.1), get_or_append_left xs (x ∷ []) nobody among.0 among.1 ∙ among.2 ∙ sym e)
        ],
        λ i h. elim (cases_lt i (length xs)) [
          | inl lt ↦ subst (order b) (sym (get_or_append_left xs (x ∷ []) nobody i lt)) (chained b a _ over_a (all i lt))
          | inr ge ↦ subst (order b) (sym (get_or_push xs x nobody i (omega (arith, long, h)))) over_x
        ],
      )

  -- an entry alone is the best
  pub best_alone : Level order → (a : PendingTask) → Best (a ∷ []) a
  best_alone level a = (
    (0, omega arith, refl),
    λ i h. let here : 0 ≡ i = omega (arith, h) in subst (λ k. order a (get_or (a ∷ []) k nobody)) here (level a),
  )
