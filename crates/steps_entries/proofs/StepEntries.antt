-- The classes and the action of a step's header outside every restriction, as they are listed. Assumes nothing.
use mathlib.Core.List.{List, [], ◌∷◌}
use mathlib.Core.Path.{◌≡◌, refl, ◌∙◌, ap, ap₂}
use native.Mathlib.Nat.{sub-zero}
use native.Mathlib.Omega.{arith}
use Prim.Native.Nat.{ℕ, ◌+◌, ◌<◌}
use borrow.Author.Tests.{ne_eqb}
use lib.ListN.{get_or}
use Rattle.calculus.specs.Abstraction.{Act, tau_a, inp_a, out_a, bout_a}
use Rattle.calculus.specs.Cond.{Cond, map_p, cls}
use Rattle.terms.specs.Limits.{name_count}
use Rattle.steps_conditions.specs.Labels.{action_of, ActionBelow}
use Rattle.steps_conditions.specs.Slots.{slot_of, new_slot, HasClasses}
use Rattle.steps_conditions.proofs.NameSlots.{slot_free}
use Rattle.steps_entries.specs.EntryBytes.{object_byte, action_bytes}
use Rattle.steps_entries.specs.StepActions.{step_action}
use Rattle.steps_entries.specs.declared.listed.ActionBytes.{ActionBytes}

-- Outside every restriction slots are names.
pub slot-name : (names n : ℕ) → slot_of names 0 n ≡ n
slot-name names n = slot_free names 0 n (omega arith) ∙ sub-zero n

same_condition : (M : Cond) → map_p (slot_of name_count 0) M ≡ M
same_condition [] = refl
same_condition (p ∷ M) = ap₂ ◌∷◌ (λ i. (slot-name name_count p.0 i, slot-name name_count p.1 i)) (same_condition M)

pub class_names : (class : List ℕ) (M : Cond) → HasClasses class 0 M → (n : ℕ) → n < name_count → get_or class n 0 ≡ cls M n
unfolding HasClasses
class_names class M h n l = h n (omega arith) ∙ ap (λ N. cls N n) (same_condition M)

-- Equal channels and objects make equal bytes.
pub same_action : (k : ℕ) {a b c d : ℕ} → a ≡ c → b ≡ d
    → ◌≡◌ {A = ActionBytes} (record { kind = k; channel = a; object = b }) (record { kind = k; channel = c; object = d })
same_action k p q i = record { kind = k; channel = p i; object = q i }

module _ (class : List ℕ) (M : Cond) (classes : (n : ℕ) → n < name_count → get_or class n 0 ≡ cls M n) (x : ℕ) where
  channel_is : (a : ℕ) → a < 0 + name_count → get_or class (slot_of name_count 0 a) 0 ≡ cls M a
  channel_is a h = ap (λ n. get_or class n 0) (slot-name name_count a) ∙ classes a (omega arith)

  new_is : object_byte class x new_slot ≡ x
  unfolding object_byte
  new_is = refl

  object_is : (b : ℕ) → b < 0 + name_count → object_byte class x (slot_of name_count 0 b) ≡ cls M b
  unfolding object_byte
  object_is b h =
      let z : slot_of name_count 0 b ≡ new_slot → ⊥ = λ e. omega (arith, slot-name name_count b) in
      rw (ne_eqb (slot_of name_count 0 b) new_slot z) (channel_is b h)

  pub action_is : (α : Act) → ActionBelow (0 + name_count) α → action_bytes class x (action_of 0 α) ≡ step_action x M α
  unfolding action_bytes action_of ActionBelow step_action
  action_is tau_a b = refl
  action_is (inp_a a) b = same_action 1 (channel_is a b) new_is
  action_is (out_a a c) b = same_action 2 (channel_is a b.0) (object_is c b.1)
  action_is (bout_a a) b = same_action 3 (channel_is a b) new_is
