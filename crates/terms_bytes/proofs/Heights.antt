-- How many binders of a term stand one within the other: by its subterms, of the renamed term, and by its bytes. Assumes nothing.
use mathlib.Core.Path.{◌≡◌, refl, ap, ap₂, ◌∙◌}
use mathlib.Core.List.{List, [], ◌∷◌}
use Prim.Native.Nat.{ℕ, ◌+◌, ◌<◌, max}
use native.Mathlib.Omega.{arith}
use lib.ListN.{length, length-append}
use Rattle.calculus.specs.Term.{Term, nil, tau, inp, out, bout, mat, sum, par, res, call, lift, ren}
use Rattle.terms.specs.Encoding.{encode}
use Rattle.terms_bytes.specs.Shape.{binders, subterms, height}

heights : List Term → ℕ
heights [] = 0
heights (P ∷ Ps) = max (height P) (heights Ps)

height-parts : (P : Term) → height P ≡ binders P + heights (subterms P)
unfolding height heights binders subterms
height-parts nil = omega arith
height-parts (tau P) = omega arith
height-parts (inp a P) = omega arith
height-parts (out a b P) = omega arith
height-parts (bout a P) = omega arith
height-parts (mat a b P) = omega arith
height-parts (sum P Q) = omega arith
height-parts (par P Q) = omega arith
height-parts (res P) = omega arith
height-parts (call k ns) = omega arith

pub height_one : (P Q : Term) → subterms P ≡ Q ∷ [] → height P ≡ binders P + height Q
unfolding heights
height_one P Q e = let h = height-parts P ∙ ap (λ (Ps : List Term). binders P + heights Ps) e in omega (arith, h)

pub height_two : (P Q R : Term) → subterms P ≡ Q ∷ R ∷ [] → height P ≡ binders P + max (height Q) (height R)
unfolding heights
height_two P Q R e = let h = height-parts P ∙ ap (λ (Ps : List Term). binders P + heights Ps) e in omega (arith, h)

pub height-ren : (ρ : ℕ → ℕ) (P : Term) → height (ren ρ P) ≡ height P
unfolding height
height-ren ρ nil = refl
height-ren ρ (tau P) = height-ren ρ P
height-ren ρ (inp a P) = ap (1 +◌) (height-ren (lift ρ) P)
height-ren ρ (out a b P) = height-ren ρ P
height-ren ρ (bout a P) = ap (1 +◌) (height-ren (lift ρ) P)
height-ren ρ (mat a b P) = height-ren ρ P
height-ren ρ (sum P Q) = ap₂ max (height-ren ρ P) (height-ren ρ Q)
height-ren ρ (par P Q) = ap₂ max (height-ren ρ P) (height-ren ρ Q)
height-ren ρ (res P) = ap (1 +◌) (height-ren (lift ρ) P)
height-ren ρ (call k ns) = refl

-- Each binder has a byte.
pub height-bytes : (d : ℕ) (P : Term) → height P < length (encode d P)
unfolding height encode
height-bytes d nil = omega arith
height-bytes d (tau P) = omega (arith, height-bytes d P)
height-bytes d (inp a P) = omega (arith, height-bytes (1 + d) P)
height-bytes d (out a b P) = omega (arith, height-bytes d P)
height-bytes d (bout a P) = omega (arith, height-bytes (1 + d) P)
height-bytes d (mat a b P) = omega (arith, height-bytes d P)
height-bytes d (sum P Q) = omega (arith, height-bytes d P, height-bytes d Q, length-append (encode d P) (encode d Q))
height-bytes d (par P Q) = omega (arith, height-bytes d P, height-bytes d Q, length-append (encode d P) (encode d Q))
height-bytes d (res P) = omega (arith, height-bytes (1 + d) P)
height-bytes d (call k ns) = omega arith
