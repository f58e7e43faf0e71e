-- The limit of request 2026-01 (document 02) on a part, tested: opening some one call that stands unprefixed in it reaches more than 64 calls. What stands
-- above the call, a false match too, does not hold it back, and two calls are not added up. That the test says so is a theorem (proofs/CallLimitLaws).
use Rattle.std.specs.Prelude.{Bool, true, false, ◌||◌, ℕ}
use Rattle.calculus.specs.Term.{Term, nil, tau, inp, out, bout, mat, sum, par, res, call}
use Rattle.calls.specs.ReachSearch.{Search, many, spent, found}
use Rattle.steps.specs.Raw.{search_of}

unfoldable pub is_many : Search → Bool
is_many many = true
is_many spent = false
is_many (found K) = false

module _ (body : ℕ → Term) where
  unfoldable pub past_calls : Term → Bool
  past_calls nil = false
  past_calls (tau P) = false
  past_calls (inp a P) = false
  past_calls (out a b P) = false
  past_calls (bout a P) = false
  past_calls (mat a b P) = past_calls P
  past_calls (sum P Q) = past_calls P || past_calls Q
  past_calls (par P Q) = past_calls P || past_calls Q
  past_calls (res P) = past_calls P
  past_calls (call k xs) = is_many (search_of body k xs)
