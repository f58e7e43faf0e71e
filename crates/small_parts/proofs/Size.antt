-- How many bytes a term has, and that it has fewer free names.
use mathlib.Core.Path.{◌≡◌, refl, ap}
use mathlib.Core.List.{List, [], ◌∷◌}
use Prim.Native.Nat.{ℕ, zero, suc, ◌+◌, ◌≤◌, ◌<◌}
use native.Mathlib.Omega.{arith}
use lib.ListN.{length, length-append, length-map}
use Rattle.calculus.specs.Abstraction.{Act, tau_a, inp_a, out_a, bout_a, weak}
use Rattle.calculus.specs.Term.{Term, nil, tau, inp, out, bout, mat, sum, par, res, call, ren, lift}
use Rattle.calculus.specs.Free.{fn, lower_l}
use Rattle.terms.specs.Encoding.{name_byte, encode}

-- The bytes of a term.
abbrev pub size : Term → ℕ
size nil = 1
size (tau P) = suc (size P)
size (inp a P) = suc (suc (size P))
size (out a b P) = suc (suc (suc (size P)))
size (bout a P) = suc (suc (size P))
size (mat a b P) = suc (suc (suc (size P)))
size (sum P Q) = suc (size P + size Q)
size (par P Q) = suc (size P + size Q)
size (res P) = suc (size P)
size (call k xs) = suc (suc (length xs))

pub size-encode : (d : ℕ) (P : Term) → length (encode d P) ≡ size P
unfolding encode
size-encode d nil = refl
size-encode d (tau P) = ap suc (size-encode d P)
size-encode d (inp a P) = ap (λ n. suc (suc n)) (size-encode (1 + d) P)
size-encode d (out a b P) = ap (λ n. suc (suc (suc n))) (size-encode d P)
size-encode d (bout a P) = ap (λ n. suc (suc n)) (size-encode (1 + d) P)
size-encode d (mat a b P) = ap (λ n. suc (suc (suc n))) (size-encode d P)
size-encode d (sum P Q) = omega (arith, length-append (encode d P) (encode d Q), size-encode d P, size-encode d Q)
size-encode d (par P Q) = omega (arith, length-append (encode d P) (encode d Q), size-encode d P, size-encode d Q)
size-encode d (res P) = ap suc (size-encode (1 + d) P)
size-encode d (call k xs) = ap (λ n. suc (suc n)) (length-map xs (name_byte d))

pub some : (P : Term) → 1 ≤ size P
some nil = omega arith
some (tau P) = omega arith
some (inp a P) = omega arith
some (out a b P) = omega arith
some (bout a P) = omega arith
some (mat a b P) = omega arith
some (sum P Q) = omega arith
some (par P Q) = omega arith
some (res P) = omega arith
some (call k xs) = omega arith

pub size-ren : (ρ : ℕ → ℕ) (P : Term) → size (ren ρ P) ≡ size P
size-ren ρ nil = refl
size-ren ρ (tau P) = ap suc (size-ren ρ P)
size-ren ρ (inp a P) = ap (λ n. suc (suc n)) (size-ren (lift ρ) P)
size-ren ρ (out a b P) = ap (λ n. suc (suc (suc n))) (size-ren ρ P)
size-ren ρ (bout a P) = ap (λ n. suc (suc n)) (size-ren (lift ρ) P)
size-ren ρ (mat a b P) = ap (λ n. suc (suc (suc n))) (size-ren ρ P)
size-ren ρ (sum P Q) = omega (arith, size-ren ρ P, size-ren ρ Q)
size-ren ρ (par P Q) = omega (arith, size-ren ρ P, size-ren ρ Q)
size-ren ρ (res P) = ap suc (size-ren (lift ρ) P)
size-ren ρ (call k xs) = ap (λ n. suc (suc n)) (length-map xs ρ)

pub size-weak : (α : Act) (P : Term) → size (weak α P) ≡ size P
size-weak tau_a P = refl
size-weak (inp_a a) P = size-ren suc P
size-weak (out_a a b) P = refl
size-weak (bout_a a) P = size-ren suc P

-- A term has fewer free names than bytes.
fewer_lowered : (xs : List ℕ) → length (lower_l xs) ≤ length xs
unfolding lower_l
fewer_lowered [] = omega arith
fewer_lowered (zero ∷ xs) = omega (arith, fewer_lowered xs)
fewer_lowered (suc n ∷ xs) = omega (arith, fewer_lowered xs)

pub few_names : (P : Term) → length (fn P) < size P
unfolding fn
few_names nil = omega arith
few_names (tau P) = omega (arith, few_names P)
few_names (inp a P) = omega (arith, few_names P, fewer_lowered (fn P))
few_names (out a b P) = omega (arith, few_names P)
few_names (bout a P) = omega (arith, few_names P, fewer_lowered (fn P))
few_names (mat a b P) = omega (arith, few_names P)
few_names (sum P Q) = omega (arith, few_names P, few_names Q, length-append (fn P) (fn Q))
few_names (par P Q) = omega (arith, few_names P, few_names Q, length-append (fn P) (fn Q))
few_names (res P) = omega (arith, few_names P, fewer_lowered (fn P))
few_names (call k xs) = omega arith
