-- Labels by the numbers of candidates: those of a parallel's sides, and those of communications. Assumes nothing.
use mathlib.Core.Path.{◌≡◌, refl, sym, ap, subst, ◌∙◌}
use mathlib.Core.Bool.{Bool, true, false}
use mathlib.Core.List.{List}
use Prim.Native.Nat.{ℕ, ◌+◌, ◌*◌, ◌/◌, ◌%◌, ◌<◌, ◌≤◌}
use native.Mathlib.Nat.{mul-le-mul_right, div-add-mod', mod-lt}
use native.Mathlib.Omega.{arith}
use lib.ListN.{length, get_or}
use lib.Dec.{ltb}
use borrow.Author.Tests.{ltb-true, ltb-false}
use Rattle.std.specs.Prelude.{Option, Some, None}
use Rattle.calculus.specs.Term.{Term}
use Rattle.terms.specs.Limits.{name_count}
use Rattle.steps_conditions.specs.Labels.{Labels, CommunicationIs}
use Rattle.steps.specs.Raw.{Candidate, step, blocked, left_steps, right_steps, communications}
use Rattle.steps_conditions.specs.Slots.{slot_count}
use Rattle.steps_conditions.specs.declared.action.Label.{Label}
use Rattle.steps_tallies.proofs.Numbering.{length-communications, nth_communication}

-- [Par] keeps the label.
pub left_label : (d : ℕ) (r : Option Label) (Q : Term) (c : Candidate) → Labels d c r → Labels d (left_steps Q c) r
unfolding Labels left_steps
left_label d (Some r) Q (step M α P) h = h
left_label d None Q (step M α P) h = h
left_label d r Q blocked h = h

pub right_label : (d : ℕ) (r : Option Label) (P : Term) (c : Candidate) → Labels d c r → Labels d (right_steps P c) r
unfolding Labels right_steps
right_label d (Some r) P (step M α Q) h = h
right_label d None P (step M α Q) h = h
right_label d r P blocked h = h

below_product : (i m n : ℕ) → i < m * n → i / n < m
below_product i m n h = go (ltb (i / n) m) refl
  where
    go : (t : Bool) → ltb (i / n) m ≡ t → i / n < m
    go true t = ltb-true (i / n) m t
    go false t = absurd (omega (arith, mul-le-mul_right n (ltb-false (i / n) m t), div-add-mod' i n))

-- The number of a communication splits into the numbers of the two sides, of which the right one has n.
pub label_met : (d : ℕ) (ss ts : List Candidate) (i n : ℕ) → n ≡ length ts → (n ≡ 0 → ⊥) → (p q r : Option Label) → name_count + d ≤ slot_count
    → (i / n < length ss → Labels d (get_or ss (i / n) blocked) p) → (i % n < length ts → Labels d (get_or ts (i % n) blocked) q)
    → CommunicationIs p q r → i < length (communications ss ts) → Labels d (get_or (communications ss ts) i blocked) r
label_met d ss ts i n same some p q r room L M C h =
    let many : i < length ss * n = omega (arith, length-communications ss ts, ap (λ (k : ℕ). length ss * k) same) in
    let left : i / n < length ss = below_product i (length ss) n many in
    let right : i % n < length ts = subst (λ (m : ℕ). i % n < m) same (mod-lt i (omega arith)) in
    let whole : i / n * length ts + i % n ≡ i = ap (λ (m : ℕ). i / n * m + i % n) (sym same) ∙ div-add-mod' i n in
    subst (λ (c : Candidate). Labels d c r)
    (sym (nth_communication ss ts (i / n) (i % n) left right) ∙ ap (λ (m : ℕ). get_or (communications ss ts) m blocked) whole)
    (C.is d (get_or ss (i / n) blocked) (get_or ts (i % n) blocked) room (L left) (M right))
