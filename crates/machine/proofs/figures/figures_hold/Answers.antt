-- The figures come out by computation; what a policy chooses is shown entry by entry.
use Rattle.std.proofs.Common.{ℕ, zero, suc, ◌<◌, List, [], ◌∷◌, get_or, Some, refl, arith, lit<}
use lib.Count.{ones, ones_in}
use Rattle.ecode.specs.Rules.{each}
use Rattle.ecode.specs.Wiring.{all_below}
use Rattle.ecode.specs.Image.{listed}
use Rattle.ecode.specs.Typing.{cell_rule, held_set, well_typed}
use Rattle.ecode.specs.Load.{window, sum_below, product_below, fits}
use Rattle.policy.specs.declared.pending.PendingTask.{PendingTask}
use Rattle.policy.specs.Choice.{nobody}
use Rattle.policy.specs.Policies.{EarlierThenLower, LowerNumber, EarliestLowest, LowestFirst}
use Rattle.machine.specs.Figures.{RunFigures}
use Rattle.machine.proofs.figures.figures_hold.Goals as goal

abbrev both : ℕ → ℕ → List PendingTask
both c f = record { task = 0; left = c } ∷ record { task = 1; left = f } ∷ []

-- filter has fewer ticks left than control
filter_first : (c f : ℕ) → f < c → EarliestLowest (both c f) (Some 1)
filter_first c f less = (record { task = 1; left = f }, refl, (1, lit< tt, refl), ahead)
  where
    ahead : (i : ℕ) → i < 2 → EarlierThenLower (record { task = 1; left = f }) (get_or (both c f) i nobody)
    ahead zero h = (omega arith, λ e. omega arith)
    ahead (suc zero) h = (omega arith, λ e. omega arith)
    ahead (suc (suc i)) h = absurd (omega arith)

-- one task alone
alone_first : (t left : ℕ) → EarliestLowest (record { task = t; left = left } ∷ []) (Some t)
alone_first t left = (record { task = t; left = left }, refl, (0, lit< tt, refl), ahead)
  where
    ahead : (i : ℕ) → i < 1 → EarlierThenLower (record { task = t; left = left }) (get_or (record { task = t; left = left } ∷ []) i nobody)
    ahead zero h = (omega arith, λ e. omega arith)
    ahead (suc i) h = absurd (omega arith)

-- whatever ticks they have left, control has the lower number
control_first : (c f : ℕ) → LowestFirst (both c f) (Some 0)
control_first c f = (record { task = 0; left = c }, refl, (0, lit< tt, refl), ahead)
  where
    ahead : (i : ℕ) → i < 2 → LowerNumber (record { task = 0; left = c }) (get_or (both c f) i nobody)
    ahead zero h = omega arith
    ahead (suc zero) h = omega arith
    ahead (suc (suc i)) h = absurd (omega arith)

runs_so : RunFigures
unfolding ones ones_in each all_below listed cell_rule held_set well_typed window sum_below product_below fits
runs_so = record {
  loaded = refl;
  earliest_chooses = ((λ counts going. filter_first 20 10 (lit< tt)), tt);
  first_tick = refl;
  lowest_chooses = (
    (λ counts going. control_first 20 10),
    (
      (λ counts going. control_first 19 9),
      (
        (λ counts going. control_first 18 8),
        (
          (λ counts going. control_first 17 7),
          (
            (λ counts going. control_first 16 6),
            (
              (λ counts going. control_first 15 5),
              (
                (λ counts going. control_first 14 4),
                (
                  (λ counts going. control_first 13 3),
                  (
                    (λ counts going. control_first 12 2),
                    (
                      (λ counts going. control_first 11 1),
                      ((λ counts going. control_first 10 0), (tt, tt)),
                    ),
                  ),
                ),
              ),
            ),
          ),
        ),
      ),
    ),
  );
  tick_ten = refl;
  number_of_it = refl;
  worked_chooses = (
    (λ counts going. filter_first 20 10 (lit< tt)),
    (
      (λ counts going. filter_first 19 9 (lit< tt)),
      (
        tt,
        (
          (λ counts going. alone_first 0 18),
          (
            (λ counts going. alone_first 0 17),
            (
              (λ counts going. alone_first 0 16),
              (
                (λ counts going. alone_first 0 15),
                (
                  (λ counts going. alone_first 0 14),
                  (
                    tt,
                    (
                      (λ counts going. refl),
                      (
                        (λ counts going. refl),
                        (
                          (λ counts going. refl),
                          (
                            (λ counts going. alone_first 1 10),
                            (
                              (λ counts going. alone_first 1 9),
                              (
                                tt,
                                (
                                  (λ counts going. refl),
                                  (
                                    (λ counts going. refl),
                                    (
                                      (λ counts going. refl),
                                      (
                                        (λ counts going. refl),
                                        (
                                          (λ counts going. refl),
                                          (
                                            (λ counts going. refl),
                                            (
                                              (λ counts going. refl),
                                              (
                                                (λ counts going. refl),
                                                (
                                                  (λ counts going. filter_first 20 10 (lit< tt)),
                                                  tt,
                                                ),
                                              ),
                                            ),
                                          ),
                                        ),
                                      ),
                                    ),
                                  ),
                                ),
                              ),
                            ),
                          ),
                        ),
                      ),
                    ),
                  ),
                ),
              ),
            ),
          ),
        ),
      ),
    ),
  );
  worked_answers = refl;
  worked_ports = refl;
}

pub returns : goal.returns
returns c = record { check = c.check_figures.ensures; run = runs_so }
