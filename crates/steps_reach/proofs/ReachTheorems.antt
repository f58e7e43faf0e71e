-- What `reach_calls` answers says exactly whether more calls are reached than may be. Assumes nothing.
use mathlib.Core.List.{List}
use mathlib.Core.Logic.{◌↔◌}
use mathlib.Core.Path.{◌≡◌, refl}
use native.Mathlib.Omega.{arith}
use Prim.Native.Nat.{ℕ, ◌<◌}
use lib.ListN.{length, get_or}
use Rattle.std.specs.Prelude.{Option, Some, None}
use Rattle.calculus.specs.Definitions.{Defs}
use Rattle.calculus.proofs.Membership.{distinct_length}
use Rattle.calls.specs.ReachLimit.{ManyCalls}
use Rattle.terms.specs.Question.{Question}
use Rattle.steps_reach.specs.CallTable.{most_calls}
use Rattle.steps_reach.specs.Walks.{Defines, ReachCallsIs}

-- There is no answer exactly if opening the call reaches more than 64 calls that differ, itself included.
pub past_iff_many : (question : List ℕ) (k : ℕ) (xs t : List ℕ) (r : Option ℕ) → ReachCallsIs question k xs t r → (q : Question) (Δ : Defs) → Defines question q Δ
    → k < length q.arities → length xs ≡ get_or q.arities k 0 → (r ≡ None) ↔ ManyCalls Δ most_calls k xs
past_iff_many question k xs t r R q Δ d there a = (R.past q Δ d there a, λ h. go h r refl)
  where
    go : ManyCalls Δ most_calls k xs → (o : Option ℕ) → r ≡ o → r ≡ None
    go h None e = e
    go h (Some n) e =
        let T = R.within q Δ d there a n e in
        let l = distinct_length h.calls T.list h.distinct (λ c m. let (C, s) = h.reached c m in T.all C c.0 c.1 s) in
        absurd (omega (arith, l, h.many, T.size, R.few n e))
