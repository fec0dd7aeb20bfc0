use Rattle.std.proofs.Common.{◌≡◌, ℕ, ◌<◌, length, get_or, None}
use Rattle.ecode.specs.Rules.{broken, each}
use Rattle.ecode.specs.Image.{line, record_at}
use Rattle.ecode.specs.Typing.{blank}
use Rattle.ecode.specs.Verdict.{record_rules}
use Rattle.image.proofs.listing.read_listing.Given as goal

abbrev pub invariant-loop-a : goal.invariant-loop-a
invariant-loop-a l =
    (length l.lines ≡ 200)
    × (broken (each l.a (λ a. record_rules l.sheet l.trailer.count a (record_at l.image a))) ≡ None)
    × ((k : ℕ) → k < l.a → get_or l.lines k blank ≡ line l.sheet (record_at l.image k))
