-- THE TABLE of refusals of a load: the number, place and layer of every fault. Nothing else gives a number.
--   1 to 8 arise in the image, 9 in the check of the code, 10 and 11 in the load
use Rattle.ecode.specs.declared.fault.ImageFault.{ImageFault}
use Rattle.ecode.specs.declared.fault.ImageFault.TheVariants.{TooShort, FormOrMark, RecordLength, Counts, Entry, Operation, RowPair, Target}
use Rattle.ecode.specs.declared.fault.CodeFault.{CodeFault}
use Rattle.ecode.specs.declared.fault.CodeFault.TheVariants.{Image, Typing}
use Rattle.ecode.specs.declared.fault.LoadFault.{LoadFault}
use Rattle.ecode.specs.declared.fault.LoadFault.TheVariants.{Code, Budget, Overload}
use Rattle.ecode.specs.declared.fault.Layer.TheVariants.{Image as image, Check as check, Load as load}
use Rattle.ecode.specs.declared.fault.Refusal.{Refusal}

abbrev pub image_refusal : ImageFault → Refusal
image_refusal TooShort = record { number = 1; place = 0; layer = image }
image_refusal (FormOrMark byte) = record { number = 2; place = byte; layer = image }
image_refusal (RecordLength byte) = record { number = 3; place = byte; layer = image }
image_refusal (Counts byte) = record { number = 4; place = byte; layer = image }
image_refusal (Entry byte) = record { number = 5; place = byte; layer = image }
image_refusal (Operation address) = record { number = 6; place = address; layer = image }
image_refusal (RowPair address) = record { number = 7; place = address; layer = image }
image_refusal (Target address) = record { number = 8; place = address; layer = image }

abbrev pub code_refusal : CodeFault → Refusal
code_refusal (Image fault) = image_refusal fault
code_refusal (Typing address) = record { number = 9; place = address; layer = check }

abbrev pub load_refusal : LoadFault → Refusal
load_refusal (Code fault) = code_refusal fault
load_refusal (Budget task) = record { number = 10; place = task; layer = load }
load_refusal (Overload task) = record { number = 11; place = task; layer = load }
