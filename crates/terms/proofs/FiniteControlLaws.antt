-- Check 10 is the grammar of finite control, document 000, section 4.8: the parts of an accepted question are finite-control terms, and the bodies
-- of its definitions are sequential. Assumes nothing.
use mathlib.Core.Path.{◌≡◌, refl}
use mathlib.Core.Bool.{true}
use mathlib.Core.List.{List, [], ◌∷◌}
use mathlib.Core.Logic.{◌↔◌}
use Prim.Native.Nat.{ℕ, zero, suc}
use native.Mathlib.Omega.{arith}
use lib.ListN.{get_or}
use Rattle.calculus.specs.FiniteControl.{Sequential, FiniteControl}
use Rattle.calculus.specs.Term.{Term, nil, tau, inp, out, bout, mat, sum, par, res, call}
use Rattle.terms.specs.Answer.{result}
use Rattle.terms.specs.Grammar.{sequential, parallel_outermost}
use Rattle.terms.specs.Question.{Question, check_of, body_of}
use Rattle.terms.specs.WellFormed.{BodiesAllowed}
use Rattle.terms.proofs.Answers.{both_true, true_both}
use Rattle.terms.proofs.WellFormed.{accepted_well_formed}

sequential_is : (P : Term) → sequential P ≡ true → Sequential P
unfolding sequential
sequential_is nil h = tt
sequential_is (tau P) h = sequential_is P h
sequential_is (inp a P) h = sequential_is P h
sequential_is (out a b P) h = sequential_is P h
sequential_is (bout a P) h = sequential_is P h
sequential_is (mat a b P) h = sequential_is P h
sequential_is (sum P Q) h =
    let t = both_true (sequential P) (sequential Q) h in
    (sequential_is P t.0, sequential_is Q t.1)
sequential_is (par P Q) h = let z : ◌≡◌ {A = ℕ} 0 1 = cc in absurd (omega arith)
sequential_is (res P) h = sequential_is P h
sequential_is (call k ns) h = tt

is_sequential : (P : Term) → Sequential P → sequential P ≡ true
unfolding sequential
is_sequential (par _ _) h = elim h [ ]
is_sequential nil h = refl
is_sequential (tau P) h = is_sequential P h
is_sequential (inp a P) h = is_sequential P h
is_sequential (out a b P) h = is_sequential P h
is_sequential (bout a P) h = is_sequential P h
is_sequential (mat a b P) h = is_sequential P h
is_sequential (sum P Q) h = true_both (sequential P) (sequential Q) (is_sequential P h.0) (is_sequential Q h.1)
is_sequential (res P) h = is_sequential P h
is_sequential (call k ns) h = refl

outermost_is : (P : Term) → parallel_outermost P ≡ true → FiniteControl P
unfolding parallel_outermost
outermost_is nil h = tt
outermost_is (tau P) h = sequential_is P h
outermost_is (inp a P) h = sequential_is P h
outermost_is (out a b P) h = sequential_is P h
outermost_is (bout a P) h = sequential_is P h
outermost_is (mat a b P) h = sequential_is P h
outermost_is (sum P Q) h =
    let t = both_true (sequential P) (sequential Q) h in
    (sequential_is P t.0, sequential_is Q t.1)
outermost_is (par P Q) h =
    let t = both_true (parallel_outermost P) (parallel_outermost Q) h in
    (outermost_is P t.0, outermost_is Q t.1)
outermost_is (res P) h = outermost_is P h
outermost_is (call k ns) h = tt

is_outermost : (P : Term) → FiniteControl P → parallel_outermost P ≡ true
unfolding parallel_outermost
is_outermost nil h = refl
is_outermost (tau P) h = is_sequential P h
is_outermost (inp a P) h = is_sequential P h
is_outermost (out a b P) h = is_sequential P h
is_outermost (bout a P) h = is_sequential P h
is_outermost (mat a b P) h = is_sequential P h
is_outermost (sum P Q) h = true_both (sequential P) (sequential Q) (is_sequential P h.0) (is_sequential Q h.1)
is_outermost (par P Q) h = true_both (parallel_outermost P) (parallel_outermost Q) (is_outermost P h.0) (is_outermost Q h.1)
is_outermost (res P) h = is_outermost P h
is_outermost (call k ns) h = refl

-- Check 10, in a body and in a part.
pub sequential_iff : (P : Term) → (sequential P ≡ true) ↔ Sequential P
sequential_iff P = (sequential_is P, is_sequential P)

pub finite_control_iff : (P : Term) → (parallel_outermost P ≡ true) ↔ FiniteControl P
finite_control_iff P = (outermost_is P, is_outermost P)

bodies_sequential : (arities sizes : List ℕ) (Ps : List Term) → BodiesAllowed arities sizes Ps → (k : ℕ) → Sequential (get_or Ps k nil)
unfolding BodiesAllowed
bodies_sequential arities [] (P ∷ Ps) h k = elim h [ ]
bodies_sequential arities (a ∷ sizes) [] h k = elim h [ ]
bodies_sequential arities [] [] h k = tt
bodies_sequential arities (a ∷ sizes) (P ∷ Ps) h zero = sequential_is P h.0.no_parallel
bodies_sequential arities (a ∷ sizes) (P ∷ Ps) h (suc k) = bodies_sequential arities sizes Ps h.1 k

pub accepted_finite_control : (question : List ℕ) (q : Question) → check_of question ≡ result q
    → FiniteControl q.first × FiniteControl q.second × ((k : ℕ) → Sequential (body_of q.bodies k))
unfolding body_of
accepted_finite_control question q e =
    let w = accepted_well_formed question q e in (
      outermost_is q.first w.first.parallels_outermost,
      outermost_is q.second w.second.parallels_outermost,
      bodies_sequential q.arities q.arities q.bodies w.bodies,
    )
