use Rattle.std.proofs.Common.{◌≡◌, ◌++◌, length, take, drop, replicate, ap, ◌∙◌, ap₂, arith, rules, length-take}
use Rattle.ecode.specs.declared.code.Cell.TheVariants.{NotHeld, Idle}
use Rattle.loader.proofs.Lone.{idle_front}
use Rattle.loader.proofs.first.idle_row.Goals as goal

pub returns : goal.returns
returns c =
    let len : length (take c.from.result (replicate 8 NotHeld)) ≡ c.args.tasks = simp length-take (omega arith) in
    let front : c.fill.new.self ≡ replicate c.args.tasks Idle = c.fill.ensures.after (λ y e. search rules) ∙ ap (λ n. replicate n Idle) len in
    ap₂ (λ cells n. cells ++ drop n (replicate 8 NotHeld)) front c.from.ensures ∙ idle_front c.args.tasks c.requires
