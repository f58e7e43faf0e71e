-- Checks 1 and 2: what passes them, and what they turn back. Assumes nothing.
use mathlib.Core.Bool.{Bool, true, false, ◌&&◌, and-false}
use mathlib.Core.Path.{◌≡◌, refl, ap, ◌∙◌}
use native.Mathlib.Omega.{arith}
use Prim.Native.Nat.{ℕ, ◌<◌, ◌≤◌}
use lib.Dec.{leb}
use borrow.Author.Tests.{leb-true, le-leb, lt-leb}
use Rattle.terms.specs.Answer.{Answer, refused, result, ◌>>◌, need}
use Rattle.terms.proofs.Answers.{refused_not_result, then_result, need-result, need-passed, need_failed, both_true, true_both}
use Rattle.terms.proofs.RefusalNumbers.{Numbered}
use Rattle.verdict.specs.Judge.{greatest_capacity, within_capacity}

-- What checks 1 and 2 ask.
pub record Within (capacity bytes room : ℕ) : Type 0 where
  pub some : 1 ≤ capacity
  pub most : capacity ≤ greatest_capacity
  pub fits : bytes ≤ room

second : (t : Bool) (u : Unit {0}) → need 2 t ≡ result u → t ≡ true
unfolding need
second true u e = refl
second false u e = refused_not_result e

module _ (capacity bytes room : ℕ) where
  first-passed : 1 ≤ capacity → capacity ≤ greatest_capacity → (leb 1 capacity && leb capacity greatest_capacity) ≡ true
  first-passed l g = true_both (leb 1 capacity) (leb capacity greatest_capacity) (le-leb 1 capacity l) (le-leb capacity greatest_capacity g)

  pub too_small : capacity < 1 → within_capacity capacity bytes room ≡ refused 1
  unfolding within_capacity
  too_small h = need_failed 1 _ _ (ap (λ b. b && leb capacity greatest_capacity) (lt-leb 1 capacity h))

  pub too_large : greatest_capacity < capacity → within_capacity capacity bytes room ≡ refused 1
  unfolding within_capacity
  too_large h = need_failed 1 _ _ (ap (λ b. leb 1 capacity && b) (lt-leb capacity greatest_capacity h) ∙ and-false (leb 1 capacity))

  pub no_room : 1 ≤ capacity → capacity ≤ greatest_capacity → room < bytes → within_capacity capacity bytes room ≡ refused 2
  unfolding within_capacity need
  no_room l g h = need-passed 1 _ _ (first-passed l g) ∙ ap (need 2) (lt-leb bytes room h)

  pub both-passed : Within capacity bytes room → within_capacity capacity bytes room ≡ result tt
  unfolding within_capacity need
  both-passed w = need-passed 1 _ _ (first-passed w.some w.most) ∙ ap (need 2) (le-leb bytes room w.fits)

  pub within_of : (u : Unit {0}) → within_capacity capacity bytes room ≡ result u → Within capacity bytes room
  unfolding within_capacity
  within_of u e =
      let (c, d) = need-result 1 (leb 1 capacity && leb capacity greatest_capacity) (need 2 (leb bytes room)) u e in
      let (a, b) = both_true (leb 1 capacity) (leb capacity greatest_capacity) c in
      record { some = leb-true 1 capacity a; most = leb-true capacity greatest_capacity b; fits = leb-true bytes room (second (leb bytes room) u d) }

module _ {B : Type 0} (capacity bytes room : ℕ) (r : Answer B) where
  pub within_passes : Within capacity bytes room → (within_capacity capacity bytes room >> r) ≡ r
  unfolding ◌>>◌
  within_passes w = ap (λ m. m >> r) (both-passed capacity bytes room w)

  pub passed_within : (b : B) → (within_capacity capacity bytes room >> r) ≡ result b → Within capacity bytes room × (r ≡ result b)
  passed_within b e =
      let (u, a, f) = then_result (within_capacity capacity bytes room) r b e in
      (within_of capacity bytes room u a, f)

  pub within_numbered : Numbered r → Numbered (within_capacity capacity bytes room >> r)
  unfolding within_capacity need ◌>>◌ Numbered
  within_numbered h = go (leb 1 capacity && leb capacity greatest_capacity) (leb bytes room)
    where
      go : (t u : Bool) → Numbered ((need 1 t >> need 2 u) >> r)
      go true true = h
      go true false = omega arith
      go false u = omega arith
