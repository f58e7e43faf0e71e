-- What becomes of a silent step with one match outside the restrictions around it, by the slots of the two names. Assumes nothing.
use borrow.Author.Tests.{ltb-true, ltb-false}
use mathlib.Core.Bool.{Bool, true, false, cond}
use mathlib.Core.List.{List, [], ◌∷◌}
use mathlib.Core.Path.{◌≡◌, refl, ap}
use native.Mathlib.Omega.{arith}
use Prim.Native.Nat.{ℕ, zero, suc, ◌+◌, ◌<◌, ◌≤◌}
use lib.Dec.{ltb}
use Rattle.calculus.specs.Abstraction.{tau_a}
use Rattle.calculus.specs.Cond.{Cond, map_p}
use Rattle.calculus.specs.Term.{Term, par, res}
use Rattle.steps.specs.Raw.{step, blocked, left_steps, right_steps, restricted, leaves_alone, restricted_alone, outside, restricted_action}
use Rattle.steps_conditions.specs.Slots.{slot_of}
use Rattle.steps_conditions.proofs.NameSlots.{slot_bound, slot_free}
use Rattle.steps_placing.proofs.Below.{Frame, left_of, right_of, beneath, raised, restrictions, level_in}
use Rattle.steps_placing.proofs.Below.{raised-blocked}

-- A match of a name with itself.
pub raised-same : (K : List Frame) (a : ℕ) (A : Term)
    → (b : ℕ) × (B : Term) × (raised K (step ((a, a) ∷ []) tau_a A) ≡ step ((b, b) ∷ []) tau_a B)
unfolding raised left_steps right_steps restricted leaves_alone restricted_alone outside restricted_action
raised-same [] a A = (a, A, refl)
raised-same (left_of Q ∷ K) a A = raised-same K a (par A Q)
raised-same (right_of P ∷ K) a A = raised-same K a (par P A)
raised-same (beneath ∷ K) zero A = raised-same K 0 (res A)
raised-same (beneath ∷ K) (suc a) A = raised-same K a (res A)

-- A match of two free names.
pub raised_free : (K : List Frame) (m n a b : ℕ) (A : Term) → m ≡ restrictions K + a → n ≡ restrictions K + b
    → (B : Term) × (raised K (step ((m, n) ∷ []) tau_a A) ≡ step ((a, b) ∷ []) tau_a B)
unfolding raised left_steps right_steps restricted leaves_alone restricted_alone outside restricted_action level_in
raised_free [] m n a b A e f =
    let k : m ≡ a = omega arith in
    let l : n ≡ b = omega arith in
    (A, λ i. step ((k i, l i) ∷ []) tau_a A)
raised_free (left_of Q ∷ K) m n a b A e f = raised_free K m n a b (par A Q) e f
raised_free (right_of P ∷ K) m n a b A e f = raised_free K m n a b (par P A) e f
raised_free (beneath ∷ K) zero n a b A e f = absurd (omega arith)
raised_free (beneath ∷ K) (suc m) zero a b A e f = absurd (omega arith)
raised_free (beneath ∷ K) (suc m) (suc n) a b A e f = raised_free K m n a b (res A) (omega arith) (omega arith)

-- A match of a restricted name with another, whatever else is asked.
pub raised_apart : (K : List Frame) (a b : ℕ) (M : Cond) (A : Term) → (a ≡ b → ⊥) → (restrictions K ≤ a → restrictions K ≤ b → ⊥)
    → raised K (step ((a, b) ∷ M) tau_a A) ≡ blocked
unfolding raised left_steps right_steps restricted leaves_alone restricted_alone outside restricted_action level_in
raised_apart [] a b M A n h = absurd (h (omega arith) (omega arith))
raised_apart (left_of Q ∷ K) a b M A n h = raised_apart K a b M (par A Q) n h
raised_apart (right_of P ∷ K) a b M A n h = raised_apart K a b M (par P A) n h
raised_apart (beneath ∷ K) zero zero M A n h = absurd (n refl)
raised_apart (beneath ∷ K) zero (suc b) M A n h = raised-blocked K
raised_apart (beneath ∷ K) (suc a) zero M A n h = raised-blocked K
raised_apart (beneath ∷ K) (suc a) (suc b) M A n h =
    go (restricted_alone M) (raised_apart K a b (map_p outside M) (res A) (λ e. n (ap suc e)) (λ k l. h (omega arith) (omega arith)))
  where
    go : (t : Bool) → raised K (step ((a, b) ∷ map_p outside M) tau_a (res A)) ≡ blocked
        → raised K (cond t (step ((a, b) ∷ map_p outside M) tau_a (res A)) blocked) ≡ blocked
    go true e = e
    go false e = raised-blocked K

-- Names by their slots.
module _ (names d a : ℕ) where
  pub free_slot : slot_of names d a < names → d ≤ a
  free_slot h = go (ltb a d) refl
    where
      go : (t : Bool) → ltb a d ≡ t → d ≤ a
      go true e = absurd (omega (arith, slot_bound names d a (ltb-true a d e)))
      go false e = ltb-false a d e

  pub slot_of_free : slot_of names d a < names → a ≡ d + slot_of names d a
  slot_of_free h = let l = free_slot h in omega (arith, slot_free names d a l)

  pub bound_slot : a < d + names → d ≤ a → slot_of names d a < names
  bound_slot l h = omega (arith, slot_free names d a h)

-- A slot has one name.
pub slot_one : (names d a b : ℕ) → a < d + names → b < d + names → slot_of names d a ≡ slot_of names d b → a ≡ b
slot_one names d a b ha hb e = go (ltb a d) refl (ltb b d) refl
  where
    go : (t : Bool) → ltb a d ≡ t → (u : Bool) → ltb b d ≡ u → a ≡ b
    go true t true u =
        let h = ltb-true a d t in let k = ltb-true b d u in omega (arith, slot_bound names d a h, slot_bound names d b k)
    go true t false u =
        let h = ltb-true a d t in let k = ltb-false b d u in absurd (omega (arith, slot_bound names d a h, slot_free names d b k))
    go false t true u =
        let h = ltb-false a d t in let k = ltb-true b d u in absurd (omega (arith, slot_free names d a h, slot_bound names d b k))
    go false t false u =
        let h = ltb-false a d t in let k = ltb-false b d u in omega (arith, slot_free names d a h, slot_free names d b k)
