-- THE FIGURES shown of the definitions: those of the static check, and runs of the two-rate program on the pitch drive.
--   two_rate_program    control every 20 ticks and filter every 10, with budgets 12 and 4, as its image is read
--   reading_list        what every tick of these runs carries
--   one_tick, eleven_ticks, worked_run    the runs
--   RunFigures          the runs, under a policy that goes by the earliest deadline and one that goes by the number
--   Figures             all of them
use Rattle.std.specs.Prelude.{◌≡◌, ℕ, List, [], ◌∷◌, ◌++◌, replicate, ℤ, pos, Some, None, Ok, Err, Option, Result}
use Rattle.ecode.specs.Image.{entry, code}
use Rattle.ecode.specs.Verdict.{Contents, verdict}
use Rattle.host.specs.Pitch.{pitch_sheet}
use Rattle.host.specs.PitchHost.{pitch_meaning}
use Rattle.host.specs.Figures.{two_rate, CheckFigures}
use Rattle.policy.specs.Policies.{EarliestLowest, LowestFirst}
use Rattle.machine.specs.declared.answer.Answer.{Answer}
use Rattle.machine.specs.declared.answer.Answer.TheVariants.{Ran, Ended, StoppedBy}
use Rattle.machine.specs.declared.fault.RunFault.{RunFault}
use Rattle.machine.specs.declared.fault.RunFault.TheVariants.{Touched}
use Rattle.machine.specs.declared.stop.Stop.TheVariants as stop
use Rattle.machine.specs.Refusals.{run_refusal}
use Rattle.machine.specs.State.{State, fresh}
use Rattle.machine.specs.Calls.{RunCall, Tick, Done, AskState, after, answers, AsChosen}

-- what the image of the two-rate program says, with budgets 12 and 4
abbrev pub two_rate_program : Contents
two_rate_program = record { entry = entry two_rate; lines = code pitch_sheet two_rate; budgets = 12 ∷ 4 ∷ [] }

-- an angle of 92 degrees, in hundredths, and the selector off
abbrev pub reading_list : List ℤ
reading_list = pos 9200 ∷ pos 0 ∷ []

-- so many ticks with one choice
abbrev pub ticks : ℕ → Option ℕ → List RunCall
ticks n choice = replicate n (Tick reading_list choice)

-- a fresh run of it: all ports 0
abbrev pub pitch_start : State
pitch_start = fresh two_rate_program (replicate 8 (pos 0))

-- one tick after which filter runs
abbrev pub one_tick : List RunCall
one_tick = ticks 1 (Some 1)

-- ticks 0 to 10 with control running, which needs 12 slots and so is not done; then the state is asked for
abbrev pub eleven_ticks : List RunCall
eleven_ticks = ticks 11 (Some 0) ++ (AskState ∷ [])

-- the worked run of docs/RUNNER.md, ticks 0 to 20 by the earliest deadline: filter is done in its second slot, control in its fifth
abbrev pub worked_run : List RunCall
worked_run =
    ticks 2 (Some 1) ++ (Done 1 ∷ (ticks 5 (Some 0) ++ (Done 0 ∷ (ticks 3 None ++ (ticks 2 (Some 1) ++ (Done 1 ∷ (ticks 8 None ++ ticks 1 (Some 1))))))))

-- a tick that ran so many instructions
abbrev pub ran : ℕ → Option ℕ → Result Answer RunFault
ran n running = Ok (Ran (record { instructions = n; running = running }))

-- what its runs come to
pub record RunFigures : Type 0 where
  -- the program is what the check makes of the image
  pub loaded : verdict pitch_sheet two_rate (12 ∷ 4 ∷ []) ≡ Ok two_rate_program
  -- under the earliest policy the first tick, tick 0, answers 7 instructions and task 1
  pub earliest_chooses : AsChosen EarliestLowest pitch_meaning two_rate_program one_tick pitch_start
  pub first_tick : answers pitch_meaning two_rate_program one_tick pitch_start ≡ ran 7 (Some 1) ∷ []
  -- under lowest number first, control needing 12 slots, tick 10 stops with 15 for task 1: the call at address 7 finds filter
  -- pending
  pub lowest_chooses : AsChosen LowestFirst pitch_meaning two_rate_program eleven_ticks pitch_start
  pub tick_ten : answers pitch_meaning two_rate_program eleven_ticks pitch_start
      ≡ ran 7 (Some 0) ∷ (replicate 9 (ran 0 (Some 0))
      ++ (Err (Touched 1) ∷ Ok (StoppedBy (Some (stop.Touched 1 7))) ∷ []))
  pub number_of_it : run_refusal (Touched 1) ≡ record { number = 15; place = 1 }
  -- the worked run: its choices are the earliest policy's; what its calls answer, and the ports that it leaves
  pub worked_chooses : AsChosen EarliestLowest pitch_meaning two_rate_program worked_run pitch_start
  pub worked_answers : answers pitch_meaning two_rate_program worked_run pitch_start
      ≡ ran 7 (Some 1) ∷ ran 0 (Some 1) ∷ Ok Ended ∷ (replicate 5 (ran 0 (Some 0)) ++ (Ok Ended ∷ (replicate 3 (ran 0 None)
      ++ (ran 4 (Some 1) ∷ ran 0 (Some 1) ∷ Ok Ended ∷ (replicate 8 (ran 0 None) ++ (ran 7 (Some 1) ∷ []))))))
  pub worked_ports : (after pitch_meaning two_rate_program worked_run pitch_start).ports
      ≡ pos 9200 ∷ pos 0 ∷ pos 6900 ∷ pos 9200 ∷ pos 1000 ∷ pos 1000 ∷ pos 6900 ∷ pos 6900 ∷ []

-- all figures
pub record Figures : Type 0 where
  pub check : CheckFigures
  pub run : RunFigures
