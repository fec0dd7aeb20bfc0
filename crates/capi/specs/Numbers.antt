-- A verdict as a number: 0 where the image is accepted, else the refusal's.
use Rattle.std.specs.Prelude.{ℕ, Ok, Err, Result}
use Rattle.ecode.specs.declared.fault.LoadFault.{LoadFault}
use Rattle.ecode.specs.Refusals.{load_refusal}
use Rattle.ecode.specs.Verdict.{Contents}

abbrev pub number : Result Contents LoadFault → ℕ
number (Ok p) = 0
number (Err e) = (load_refusal e).number
