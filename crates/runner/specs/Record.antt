-- The record of a run: its calls with their answers.
--   choice_told    the choice that an answer tells: the running task of a tick that went well
--   told           a call with its answer, as the reference runner is fed it
--   record_of      the same of a list of calls, as far as there are answers
--   PlaysOn        a list of calls took a run from one state to another as the reference runner goes
use Rattle.std.specs.Prelude.{◌≡◌, ℕ, Bool, List, [], ◌∷◌, ◌++◌, length, drop, None, Ok, Err, Option, Result}
use Rattle.host.specs.Meaning.{Meaning}
use Rattle.machine.specs.declared.answer.Answer.{Answer}
use Rattle.machine.specs.declared.answer.Answer.TheVariants.{Ran, Ended, StoppedBy, Value}
use Rattle.machine.specs.declared.fault.RunFault.{RunFault}
use Rattle.machine.specs.State.{Ports, bare}
use Rattle.machine.specs.Calls as calls
use Rattle.machine.specs.Calls.{RunCall, after, answers, ByPolicy}
use Rattle.runner.specs.declared.call.Call.{Call}
use Rattle.runner.specs.declared.call.Call.TheVariants.{Tick, Done, State as AskState, Port}
use Rattle.runner.specs.declared.run.Run.{Run}
use Rattle.runner.specs.Sound.{loaded, shown, SameBench, SoundRun}

-- none where the policy was not asked
abbrev pub choice_told : Result Answer RunFault → Option ℕ
choice_told (Ok (Ran t)) = t.running
choice_told (Ok Ended) = None
choice_told (Ok (StoppedBy stop)) = None
choice_told (Ok (Value x)) = None
choice_told (Err fault) = None

-- a tick brings its readings, and the choice that its answer tells
abbrev pub told : Call → Result Answer RunFault → RunCall
told (Tick readings) a = calls.Tick readings.now (choice_told a)
told (Done t) a = calls.Done t
told AskState a = calls.AskState
told (Port x) a = calls.AskPort x

-- nothing of the run is hidden: the choices of its policy are read off its answers
abbrev pub record_of : List Call → List (Result Answer RunFault) → List RunCall
record_of [] given = []
record_of (c ∷ cs) [] = []
record_of (c ∷ cs) (a ∷ given) = told c a ∷ record_of cs given

-- from `before` to `then`, with the places for answers as they were and as they are
pub record PlaysOn {H P : Type 0} (meaning : H → Meaning) (ports : H → Ports) (mark : P → Bool) (cs : List Call) (old new : List (Result Answer RunFault)) (before then : Run H P) : Type 0 where
  -- each answer is the reference runner's, and places that no call was made for are as they were
  pub answered : new ≡ answers (meaning before.bench.host) (loaded before.bench) (record_of cs new) (shown ports before) ++ drop (length cs) old
  -- so is the state, its log aside
  pub state : shown ports then ≡ bare (after (meaning before.bench.host) (loaded before.bench) (record_of cs new) (shown ports before))
  -- every choice is one that the policy may make
  pub chosen : ByPolicy (mark before.policy) (meaning before.bench.host) (loaded before.bench) (record_of cs new) (shown ports before)
  pub bench : SameBench meaning before.bench then.bench
  pub sound : SoundRun meaning ports mark then
