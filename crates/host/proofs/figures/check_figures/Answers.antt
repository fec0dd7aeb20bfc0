use Rattle.std.proofs.Common.{refl}
use lib.Count.{ones, ones_in}
use Rattle.ecode.specs.Rules.{each}
use Rattle.ecode.specs.Wiring.{all_below}
use Rattle.ecode.specs.Image.{listed}
use Rattle.ecode.specs.Typing.{cell_rule, held_set, well_typed}
use Rattle.ecode.specs.Load.{window, sum_below, product_below, fits}
use Rattle.host.proofs.figures.check_figures.Goals as goal

pub returns : goal.returns
unfolding ones ones_in each all_below listed cell_rule held_set well_typed window sum_below product_below fits
returns c = record {
  lone_accepted = refl;
  wrong_mark = refl;
  two_rate_accepted = refl;
  overload = refl;
  long_window = refl;
  mistyped = refl;
  jump_to_itself = refl;
  one_fits = refl;
  exactly_one = refl;
  a_hair_more = refl;
  parts_of = refl;
  whole_of = refl;
}
