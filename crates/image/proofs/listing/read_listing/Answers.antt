use Rattle.std.proofs.Common.{◌≡◌, ℕ, ◌/◌, ◌<◌, [], length, get_or, Ok, Err, sym, refl, ap, ◌∙◌, subst, arith, length-set}
use Rattle.ecode.specs.Rules.{broken, each, Judged}
use Rattle.ecode.specs.Image.{line, record_at}
use Rattle.ecode.specs.Typing.{blank}
use Rattle.ecode.specs.Verdict.{layout_rules, record_rules}
use Rattle.ecode.specs.Parts.{FromRecords}
use Rattle.ecode.proofs.Firsts.{each_none, each_more, each_at, judged_stop}
use Rattle.ecode.proofs.Lists.{fill_more, filled_front}
use Rattle.image.proofs.Records.{chunk_at}
use Rattle.image.proofs.listing.read_listing.Goals as goal

pub loop-a-init : goal.loop-a-init
loop-a-init c =
    let f = λ (a : ℕ). record_rules c.args.sheet.now c.args.trailer.count a (record_at c.args.image.now a) in
    (refl, each_none f, λ k h. absurd (omega arith))

pub loop-a-preserved : goal.loop-a-preserved
loop-a-preserved c =
    let s = c.args.sheet.now in
    let im = c.args.image.now in
    let n = c.args.trailer.count in
    let a = c.loop-a.a in
    let f = λ (a : ℕ). record_rules s n a (record_at im a) in
    let lt : a < length c.loop-a.lines = omega (arith, c.requires.few) in
    let here = ap (λ r. get_or r a []) c.as_chunks.ensures.front ∙ chunk_at 20 (length im / 20) im a [] (omega arith) in
    let got = subst (λ bs. Judged (record_rules s n a bs) (λ l. l ≡ line s bs) (Ok c.in_ok-lines.field-0)) here c.in_ok-lines.ensures in (
      length-set _ _ _ ∙ c.loop-a.invariant.0,
      each_more f a c.loop-a.invariant.1 ∙ got.0,
      fill_more (λ k. line s (record_at im k)) c.loop-a.lines a _ blank lt c.loop-a.invariant.2 got.1,
    )

pub returns-in_err-lines : goal.returns-in_err-lines
returns-in_err-lines c =
    let s = c.args.sheet.now in
    let im = c.args.image.now in
    let n = c.args.trailer.count in
    let a = c.loop-a.a in
    let f = λ (a : ℕ). record_rules s n a (record_at im a) in
    let x = c.in_err-lines.field-0.0 in
    let here = ap (λ r. get_or r a []) c.as_chunks.ensures.front ∙ chunk_at 20 (length im / 20) im a [] (omega arith) in
    let got = subst (λ bs. Judged (record_rules s n a bs) (λ l. l ≡ line s bs) (Err x)) here c.in_err-lines.ensures in
    judged_stop (layout_rules s im n) (FromRecords s im c.args.trailer) c.from_residual.result x c.from_residual.ensures.1
    (each_at f a n x (omega (arith, c.requires.long)) c.loop-a.invariant.1 got)

pub returns : goal.returns
returns c =
    let s = c.args.sheet.now in
    let im = c.args.image.now in
    let n = c.args.trailer.count in
    let f = λ (a : ℕ). record_rules s n a (record_at im a) in
    let end : c.loop-a.a ≡ n = omega (arith, c.requires.long) in (
      ap (λ k. broken (each k f)) (sym end) ∙ c.loop-a.invariant.1,
      record {
        size = refl;
        entry = refl;
        code =
            filled_front n (λ k. line s (record_at im k)) c.loop-a.lines blank (omega (arith, c.requires.few)) (λ k h. c.loop-a.invariant.2 k (omega arith));
      },
    )
