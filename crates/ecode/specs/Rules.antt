-- Rules in order, each a test with the fault that names it, and the first broken one as the answer.
--   broken rules      the fault of the first rule whose test fails, if one does
--   each n f          the rules at 0, at 1 and so on below n
--   inside c rules    the same rules, each fault held whole in a larger one
--   Judged            an answer that is the first broken rule's fault, or a value where none is broken
use Rattle.std.specs.Prelude.{◌≡◌, ℕ, zero, suc, Bool, cond, List, [], ◌∷◌, ◌++◌, map, Some, None, Ok, Err, Option, Result}

-- a test, and the fault where it fails
abbrev pub Rule : Type 0 → Type 0
Rule F = Bool × F

abbrev pub broken : {F : Type 0} → List (Rule F) → Option F
broken [] = None
broken (r ∷ rs) = cond r.0 (broken rs) (Some r.1)

-- a single rule
abbrev pub one : {F : Type 0} → Bool → F → List (Rule F)
one test fault = (test, fault) ∷ []

unfoldable pub each : {F : Type 0} → ℕ → (ℕ → List (Rule F)) → List (Rule F)
each zero f = []
each (suc n) f = each n f ++ f n

abbrev pub inside : {F G : Type 0} → (F → G) → List (Rule F) → List (Rule G)
inside c rs = map (λ r. (r.0, c r.1)) rs

abbrev pub Judged : {X F : Type 0} → List (Rule F) → (X → Type 0) → Result X F → Type 0
Judged rs P (Ok x) = (broken rs ≡ None) × P x
Judged rs P (Err e) = broken rs ≡ Some e
