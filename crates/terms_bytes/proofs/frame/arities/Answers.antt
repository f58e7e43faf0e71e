use mathlib.Core.Path.{◌≡◌}
use Prim.Native.Nat.{◌+◌, ◌-◌}
use native.Mathlib.Omega.{arith}
use lib.ListN.{length}
use borrow.Author.Tests.{le-leb, lt-leb}
use Rattle.terms_bytes.specs.FieldPlaces.{arities_of}
use Rattle.terms_bytes.proofs.frame.arities.Goals as goal

pub returns-then-end-question : goal.returns-then-end-question
unfolding arities_of
returns-then-end-question c =
    let e = c.definitions-end.ensures.0 in
    let n : 2 + c.definitions-end.result - 2 ≡ c.definitions-end.result = omega arith in
    simp (← e, le-leb (2 + c.definitions-end.result) (length c.args.question.now) c.if-end-question.true, n)

pub returns : goal.returns
unfolding arities_of
returns c =
    let e = c.definitions-end.ensures.0 in
    simp (← e, lt-leb (2 + c.definitions-end.result) (length c.args.question.now) c.if-end-question.false)
