use native.Mathlib.Omega.{arith}
use mathlib.Core.Path.{ap, ◌∙◌}
use mathlib.Core.List.{List, ◌++◌}
use Prim.Native.Nat.{ℕ, ◌*◌}
use lib.ListN.{drop, replicate}
use lib.Seq.{length-take-le}
use Rattle.verdict.specs.Judge.{slot_bytes}
use Rattle.verdict_judge.proofs.JudgeLaws.{cleared}
use Rattle.verdict_judge.proofs.judge.judge_tidied.Goals as goal

pub returns : goal.returns
returns c =
    let w = c.decide-verdict.new.work in
    let n = slot_bytes * c.args.capacity in
    cleared _ _ _ _ _ _ _ c.decide-verdict.ensures
    (ap (λ (l : List ℕ). l ++ drop n w)
    (c.fill.ensures.after (λ y z. z)
    ∙ ap (λ (k : ℕ). replicate k 0) (length-take-le n w (omega (arith, c.requires.2, c.decide-verdict.auto.work)))))
