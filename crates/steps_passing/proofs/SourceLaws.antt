-- The term whose candidate has the action of a visible candidate above it: down from each match, choice and parallel. Assumes nothing.
use mathlib.Core.Path.{◌≡◌, refl}
use mathlib.Core.Bool.{Bool, true, false}
use mathlib.Core.List.{List}
use Prim.Native.Nat.{ℕ, ◌+◌, ◌-◌, ◌<◌, ◌≤◌}
use native.Mathlib.Omega.{arith}
use lib.Dec.{ltb}
use lib.ListN.{get_or}
use borrow.Author.Tests.{ltb-true, ltb-false}
use Rattle.steps_passing.specs.Branching.{Acts}
use Rattle.steps_passing.specs.Passing.{MiddleIs}
use Rattle.steps_tallies.specs.Tally.{visible_at}
use Rattle.steps_tallies.specs.Tallying.{number_at}
use Rattle.steps_passing.proofs.PassLaws.{pass_mat}
use Rattle.steps_passing.proofs.TwoSides.{pass_left, pass_rest}

module _ (s t : List ℕ) (at number : ℕ) where
  pub act-start : Acts s t at number at number
  unfolding Acts
  act-start question D calls r T R = R

  module _ (b n : ℕ) (A : Acts s t at number b n) where
    pub act-match : get_or s b 0 ≡ 5 → Acts s t at number (b + 3) n
    unfolding Acts
    act-match g question D calls r T R = A question D calls r T (pass_mat question s b D calls false n r g R)

    module _ (two : (5 < get_or s b 0) × (get_or s b 0 < 8)) where
      pub act-left : n < visible_at t (b + 1) → Acts s t at number (b + 1) n
      unfolding Acts number_at
      act-left h question D calls r T R = A question D calls r T (pass_left question s b D calls false n t T two h r R)

      pub act_right : visible_at t (b + 1) ≤ n → (m : ℕ) → MiddleIs s t b m → (j : ℕ) → j ≡ n - visible_at t (b + 1) → Acts s t at number m j
      unfolding Acts number_at
      act_right h m M j J question D calls r T R = A question D calls r T (pass_rest question s b D calls false n t T two m M h j J refl r R)

-- What is no prefix, restriction, match, choice or parallel is a call.
pub far_byte : (t : ℕ) → 5 ≤ t → (t ≡ 8 → ⊥) → (4 < t → t < 8 → ⊥) → 8 < t
far_byte t h e n = go (ltb t 8) refl
  where
    go : (b : Bool) → ltb t 8 ≡ b → 8 < t
    go true l = absurd (n (omega arith) (ltb-true t 8 l))
    go false l = omega (arith, e, ltb-false t 8 l)
