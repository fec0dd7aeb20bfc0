-- What the parts of the check promise each other, from the trailer up to the load. The check itself promises `Checked`.
--   FromTrailer, FromRecords, FromImage   a trailer, a listing is what the image says
--   total, Small, Sound                   the pairs of a listing fit the arithmetic on them
use Rattle.std.specs.Prelude.{◌≡◌, ℕ, ◌+◌, ◌*◌, ◌<◌, ◌≤◌, List, length, take, slice_index_or}
use Rattle.ecode.specs.declared.sheet.Sheet.{Sheet}
use Rattle.ecode.specs.declared.code.Cell.{Cell}
use Rattle.ecode.specs.declared.code.Cell.TheVariants.{NotHeld, Idle, Released}
use Rattle.ecode.specs.declared.code.Line.{Line}
use Rattle.ecode.specs.declared.code.Listing.{Listing}
use Rattle.ecode.specs.declared.code.Trailer.{Trailer}
use Rattle.ecode.specs.declared.code.Program.{Program}
use Rattle.ecode.specs.Image.{size, entry, lines, code}
use Rattle.ecode.specs.Typing.{cell, blank}
use Rattle.ecode.specs.Verdict.{lines_of}

-- a trailer is what the image's last bytes say
pub record FromTrailer (im : List ℕ) (h : Trailer) : Type 0 where
  pub size : h.count ≡ size im
  pub entry : h.entry ≡ entry im
  pub some : 1 ≤ h.count
  pub few : h.count ≤ 200
  pub starts : h.entry < h.count
  pub long : length im ≡ 20 * h.count + 8

-- a listing is the records that a trailer tells of
pub record FromRecords (s : Sheet) (im : List ℕ) (h : Trailer) (l : Listing) : Type 0 where
  pub size : l.count ≡ h.count
  pub entry : l.entry ≡ h.entry
  pub code : lines_of l ≡ lines s im h.count

-- a listing is what the image says
pub record FromImage (s : Sheet) (im : List ℕ) (l : Listing) : Type 0 where
  pub start : l.entry ≡ entry im
  pub size : l.count ≡ size im
  pub code : lines_of l ≡ code s im

-- a program is what the image and the budgets say
pub record FromBytes (s : Sheet) (im bud : List ℕ) (p : Program) : Type 0 where
  pub listing : FromImage s im p.listing
  pub budgets : take s.tasks p.budgets ≡ bud

-- what a released pair adds up to, 0 where the task is not released
abbrev pub total : Cell → ℕ
total NotHeld = 0
total Idle = 0
total (Released c r) = c + r

-- a released pair as a record can hold it
abbrev pub Small : Cell → Type 0
Small c = total c ≤ 240

-- every pair of every line
abbrev pub Sound : List Line → Type 0
Sound ls = (a t : ℕ) → Small (cell (slice_index_or ls a blank) t)
