-- Pieces in another order (document 02, request 2026-07): Q is P with branches reordered, bracketed anew, given or rid of inaction, doubled or no
-- longer doubled; anywhere in P, any number of times. That P and Q are then related under every apart list is a theorem (proofs/Theorems).
use Rattle.std.specs.Prelude.{ℕ}
use Rattle.calculus.specs.Term.{Term, nil, tau, inp, out, bout, mat, sum, par, res}

pub data Rearranged : Term → Term → Type 0 where
  -- "choice … commute[s]"
  choice_exchanged : (P Q : Term) → Rearranged (sum P Q) (sum Q P)
  -- "choice … associate[s]"
  choice_regrouped : (P Q R : Term) → Rearranged (sum (sum P Q) R) (sum P (sum Q R))
  -- "inaction is neutral for" choice
  choice_with_inaction : (P : Term) → Rearranged (sum P nil) P
  -- "a choice between two copies is the same as one"
  choice_doubled : (P : Term) → Rearranged (sum P P) P
  -- "parallel … commute[s]"
  parallel_exchanged : (P Q : Term) → Rearranged (par P Q) (par Q P)
  -- "parallel … associate[s]"
  parallel_regrouped : (P Q R : Term) → Rearranged (par (par P Q) R) (par P (par Q R))
  -- "inaction is neutral for" parallel
  parallel_with_inaction : (P : Term) → Rearranged (par P nil) P
  -- "Editors reorder branches and bracket them anew": not at all, back again, one change after another,
  unchanged : (P : Term) → Rearranged P P
  undone : {P Q : Term} → Rearranged P Q → Rearranged Q P
  again : {P Q R : Term} → Rearranged P Q → Rearranged Q R → Rearranged P R
  -- and beneath each operator
  in_silent : {P Q : Term} → Rearranged P Q → Rearranged (tau P) (tau Q)
  in_input : (a : ℕ) {P Q : Term} → Rearranged P Q → Rearranged (inp a P) (inp a Q)
  in_output : (a b : ℕ) {P Q : Term} → Rearranged P Q → Rearranged (out a b P) (out a b Q)
  in_new_output : (a : ℕ) {P Q : Term} → Rearranged P Q → Rearranged (bout a P) (bout a Q)
  in_match : (a b : ℕ) {P Q : Term} → Rearranged P Q → Rearranged (mat a b P) (mat a b Q)
  in_choice : {P Q : Term} → Rearranged P Q → (T : Term) → Rearranged (sum P T) (sum Q T)
  in_parallel : {P Q : Term} → Rearranged P Q → (T : Term) → Rearranged (par P T) (par Q T)
  in_restriction : {P Q : Term} → Rearranged P Q → Rearranged (res P) (res Q)
