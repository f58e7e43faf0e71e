-- A tidied term has no more bytes. Assumes nothing.
use mathlib.Core.Path.{◌≡◌, ◌∙◌, ap}
use native.Mathlib.Omega.{arith}
use Prim.Native.Nat.{ℕ, suc, ◌+◌, ◌≤◌}
use lib.ListN.{length, length-append}
use Rattle.calculus.specs.Term.{Term, nil, tau, inp, out, bout, mat, sum, par, res, call}
use Rattle.terms.specs.Encoding.{encode}
use Rattle.terms.proofs.RenamingKeeps.{length-ren}
use Rattle.calculus.specs.Tidy.{restrict_used, tidy}
use Rattle.calculus.proofs.Tidying.{Used, used, unused, used?, restrict-used, restrict_lifted}

restrict_shorter : (d : ℕ) (P : Term) → length (encode d (restrict_used P)) ≤ 1 + length (encode (1 + d) P)
unfolding encode
restrict_shorter d P = go (used? P)
  where
    go : Used P → length (encode d (restrict_used P)) ≤ 1 + length (encode (1 + d) P)
    go (used u) = let e : length (encode d (restrict_used P)) ≡ length (encode d (res P)) = ap (λ X. length (encode d X)) (restrict-used P u) in omega arith
    go (unused Q e) =
        let a : length (encode d (restrict_used P)) ≡ length (encode d Q) = ap (λ X. length (encode d X)) (ap restrict_used e ∙ restrict_lifted Q) in
        let b : length (encode (1 + d) P) ≡ length (encode d Q) = ap (λ X. length (encode (1 + d) X)) e ∙ length-ren d (1 + d) suc Q in
        omega arith

pub tidy_shorter : (d : ℕ) (P : Term) → length (encode d (tidy P)) ≤ length (encode d P)
unfolding tidy encode
tidy_shorter d nil = omega arith
tidy_shorter d (tau P) = omega (arith, tidy_shorter d P)
tidy_shorter d (inp a P) = omega (arith, tidy_shorter (1 + d) P)
tidy_shorter d (out a b P) = omega (arith, tidy_shorter d P)
tidy_shorter d (bout a P) = omega (arith, tidy_shorter (1 + d) P)
tidy_shorter d (mat a b P) = omega (arith, tidy_shorter d P)
tidy_shorter d (sum P Q) =
    omega (arith, tidy_shorter d P, tidy_shorter d Q, length-append (encode d (tidy P)) (encode d (tidy Q)), length-append (encode d P) (encode d Q))
tidy_shorter d (par P Q) =
    omega (arith, tidy_shorter d P, tidy_shorter d Q, length-append (encode d (tidy P)) (encode d (tidy Q)), length-append (encode d P) (encode d Q))
tidy_shorter d (res P) = omega (arith, tidy_shorter (1 + d) P, restrict_shorter d (tidy P))
tidy_shorter d (call k ns) = omega arith
