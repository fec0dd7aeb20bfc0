-- The verdict on code: an image's fault comes first, and then its typing decides.
use Rattle.std.proofs.Common.{◌≡◌, ℕ, List, Some, None, sym, ap, ◌∙◌, subst}
use Rattle.ecode.specs.declared.sheet.Sheet.{Sheet}
use Rattle.ecode.specs.declared.code.Listing.{Listing}
use Rattle.ecode.specs.declared.fault.ImageFault.{ImageFault}
use Rattle.ecode.specs.declared.fault.CodeFault.TheVariants.{Image}
use Rattle.ecode.specs.Rules.{broken, inside}
use Rattle.ecode.specs.Image.{size, entry, code}
use Rattle.ecode.specs.Verdict.{lines_of, image_rules, code_rules, typing_rules}
use Rattle.ecode.specs.Parts.{Sound, FromImage}
use Rattle.ecode.proofs.Firsts.{past, stops, clean_inside, stop_inside}
use Rattle.image.proofs.Sounds.{sound_lines}

module _ (s : Sheet) (im : List ℕ) where
  pub image_refused : (x : ImageFault) → broken (image_rules s im) ≡ Some x → broken (code_rules s im) ≡ Some (Image x)
  image_refused x e = stops (inside Image (image_rules s im)) (typing_rules s (code s im) (entry im) (size im)) (Image x) (stop_inside Image (image_rules s im) x e)

  module _ (b : Listing) (w : FromImage s im b) where
    pub whole_sound : Sound (lines_of b)
    whole_sound = subst Sound (sym w.code) (sound_lines s im (size im))

    typing_same : typing_rules s (lines_of b) b.entry b.count ≡ typing_rules s (code s im) (entry im) (size im)
    typing_same = ap (λ ls. typing_rules s ls b.entry b.count) w.code ∙ ap (λ e. typing_rules s (code s im) e b.count) w.start ∙ ap (typing_rules s (code s im) (entry im)) w.size

    -- the code's verdict is that of its typing
    pub typing_decides : broken (image_rules s im) ≡ None → broken (code_rules s im) ≡ broken (typing_rules s (lines_of b) b.entry b.count)
    typing_decides e =
        past (inside Image (image_rules s im)) (typing_rules s (code s im) (entry im) (size im)) (clean_inside Image (image_rules s im) e)
        ∙ ap broken (sym typing_same)
