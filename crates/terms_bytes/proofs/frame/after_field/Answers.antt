use mathlib.Core.Path.{sym}
use native.Mathlib.Omega.{arith}
use Rattle.terms_bytes.proofs.Places.{after_held, after-past}
use Rattle.terms_bytes.proofs.frame.after_field.Goals as goal

pub returns-then-n-at : goal.returns-then-n-at
returns-then-n-at c = sym (after-past c.args.question.now c.args.at (omega arith))

pub returns-then-size-n : goal.returns-then-size-n
returns-then-size-n c =
    let e = c.size_at-size.ensures.0 in
    omega (arith, after_held c.args.question.now c.args.at (omega arith))

pub returns : goal.returns
returns c =
    let e = c.size_at-size.ensures.0 in
    sym (after-past c.args.question.now c.args.at (omega arith))
