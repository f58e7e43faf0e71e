-- How deep a tidied term is, by its bytes: every restriction has a name byte of its own, and a term of so many bytes has so many names. What the
-- bytes of bound names in a result before it is tidied need. Assumes nothing.
use mathlib.Core.List.{List, [], ◌∷◌, ◌++◌, map}
use mathlib.Core.Logic.{inl, inr}
use mathlib.Core.Path.{◌≡◌, refl, sym, ◌∙◌, ap, ap₂, subst}
use native.Mathlib.Omega.{arith}
use Prim.Native.Nat.{ℕ, zero, suc, ◌+◌, ◌*◌, ◌≤◌}
use lib.ListN.{length, length-append, length-map}
use Rattle.calculus.specs.Free.{In, lower_l, fn}
use Rattle.calculus.specs.Term.{Term, nil, tau, inp, out, bout, mat, sum, par, res, call, lift, ren}
use Rattle.calculus.proofs.FreeNames.{free→fn}
use Rattle.calculus.proofs.Renaming.{map-++}
use Rattle.terms.specs.Encoding.{name_byte, encode}
use Rattle.terms_bytes.specs.Shape.{height}
use Rattle.calculus.specs.Tidy.{restrict_used, tidy}
use Rattle.calculus.proofs.Tidying.{Used, used, unused, used?, restrict-used, restrict_lifted}

-- restrictions, inputs and new-name outputs, and name bytes
unfoldable pub restrictions : Term → ℕ
restrictions nil = 0
restrictions (tau P) = restrictions P
restrictions (inp a P) = restrictions P
restrictions (out a b P) = restrictions P
restrictions (bout a P) = restrictions P
restrictions (mat a b P) = restrictions P
restrictions (sum P Q) = restrictions P + restrictions Q
restrictions (par P Q) = restrictions P + restrictions Q
restrictions (res P) = 1 + restrictions P
restrictions (call k xs) = 0

unfoldable pub receivers : Term → ℕ
receivers nil = 0
receivers (tau P) = receivers P
receivers (inp a P) = 1 + receivers P
receivers (out a b P) = receivers P
receivers (bout a P) = 1 + receivers P
receivers (mat a b P) = receivers P
receivers (sum P Q) = receivers P + receivers Q
receivers (par P Q) = receivers P + receivers Q
receivers (res P) = receivers P
receivers (call k xs) = 0

unfoldable pub name_bytes : Term → ℕ
name_bytes nil = 0
name_bytes (tau P) = name_bytes P
name_bytes (inp a P) = 1 + name_bytes P
name_bytes (out a b P) = 2 + name_bytes P
name_bytes (bout a P) = 1 + name_bytes P
name_bytes (mat a b P) = 2 + name_bytes P
name_bytes (sum P Q) = name_bytes P + name_bytes Q
name_bytes (par P Q) = name_bytes P + name_bytes Q
name_bytes (res P) = name_bytes P
name_bytes (call k xs) = length xs

-- no call has more than 8 names
unfoldable pub FewNames : Term → Type 0
FewNames nil = Unit {0}
FewNames (tau P) = FewNames P
FewNames (inp a P) = FewNames P
FewNames (out a b P) = FewNames P
FewNames (bout a P) = FewNames P
FewNames (mat a b P) = FewNames P
FewNames (sum P Q) = FewNames P × FewNames Q
FewNames (par P Q) = FewNames P × FewNames Q
FewNames (res P) = FewNames P
FewNames (call k xs) = length xs ≤ 8

-- Renaming changes none of these.
lower_map : (ρ : ℕ → ℕ) (xs : List ℕ) → lower_l (map (lift ρ) xs) ≡ map ρ (lower_l xs)
unfolding lower_l
lower_map ρ [] = refl
lower_map ρ (zero ∷ xs) = lower_map ρ xs
lower_map ρ (suc n ∷ xs) = ap (ρ n ∷◌) (lower_map ρ xs)

fn-ren : (ρ : ℕ → ℕ) (P : Term) → fn (ren ρ P) ≡ map ρ (fn P)
unfolding fn
fn-ren ρ nil = refl
fn-ren ρ (tau P) = fn-ren ρ P
fn-ren ρ (inp a P) = ap (ρ a ∷◌) (ap lower_l (fn-ren (lift ρ) P) ∙ lower_map ρ (fn P))
fn-ren ρ (out a b P) = ap (λ l. ρ a ∷ ρ b ∷ l) (fn-ren ρ P)
fn-ren ρ (bout a P) = ap (ρ a ∷◌) (ap lower_l (fn-ren (lift ρ) P) ∙ lower_map ρ (fn P))
fn-ren ρ (mat a b P) = ap (λ l. ρ a ∷ ρ b ∷ l) (fn-ren ρ P)
fn-ren ρ (sum P Q) = ap₂ ◌++◌ (fn-ren ρ P) (fn-ren ρ Q) ∙ sym (map-++ ρ (fn P) (fn Q))
fn-ren ρ (par P Q) = ap₂ ◌++◌ (fn-ren ρ P) (fn-ren ρ Q) ∙ sym (map-++ ρ (fn P) (fn Q))
fn-ren ρ (res P) = ap lower_l (fn-ren (lift ρ) P) ∙ lower_map ρ (fn P)
fn-ren ρ (call k xs) = refl

pub restrictions-ren : (ρ : ℕ → ℕ) (P : Term) → restrictions (ren ρ P) ≡ restrictions P
unfolding restrictions
restrictions-ren ρ nil = refl
restrictions-ren ρ (tau P) = restrictions-ren ρ P
restrictions-ren ρ (inp a P) = restrictions-ren (lift ρ) P
restrictions-ren ρ (out a b P) = restrictions-ren ρ P
restrictions-ren ρ (bout a P) = restrictions-ren (lift ρ) P
restrictions-ren ρ (mat a b P) = restrictions-ren ρ P
restrictions-ren ρ (sum P Q) = ap₂ ◌+◌ (restrictions-ren ρ P) (restrictions-ren ρ Q)
restrictions-ren ρ (par P Q) = ap₂ ◌+◌ (restrictions-ren ρ P) (restrictions-ren ρ Q)
restrictions-ren ρ (res P) = ap (1 +◌) (restrictions-ren (lift ρ) P)
restrictions-ren ρ (call k xs) = refl

names-ren : (ρ : ℕ → ℕ) (P : Term) → name_bytes (ren ρ P) ≡ name_bytes P
unfolding name_bytes
names-ren ρ nil = refl
names-ren ρ (tau P) = names-ren ρ P
names-ren ρ (inp a P) = ap (1 +◌) (names-ren (lift ρ) P)
names-ren ρ (out a b P) = ap (2 +◌) (names-ren ρ P)
names-ren ρ (bout a P) = ap (1 +◌) (names-ren (lift ρ) P)
names-ren ρ (mat a b P) = ap (2 +◌) (names-ren ρ P)
names-ren ρ (sum P Q) = ap₂ ◌+◌ (names-ren ρ P) (names-ren ρ Q)
names-ren ρ (par P Q) = ap₂ ◌+◌ (names-ren ρ P) (names-ren ρ Q)
names-ren ρ (res P) = names-ren (lift ρ) P
names-ren ρ (call k xs) = length-map xs ρ

lower_few : (xs : List ℕ) → length (lower_l xs) ≤ length xs
unfolding lower_l
lower_few [] = omega arith
lower_few (zero ∷ xs) = omega (arith, lower_few xs)
lower_few (suc n ∷ xs) = omega (arith, lower_few xs)

lower_fewer : (xs : List ℕ) → In 0 xs → 1 + length (lower_l xs) ≤ length xs
unfolding lower_l
lower_fewer [] m = elim m [ ]
lower_fewer (zero ∷ xs) m = omega (arith, lower_few xs)
lower_fewer (suc n ∷ xs) (inl e) = absurd (omega arith)
lower_fewer (suc n ∷ xs) (inr m) = omega (arith, lower_fewer xs m)

-- Each restriction of a tidied term has a name byte of its own.
abbrev Named : Term → Type 0
Named P = length (fn P) + restrictions P ≤ name_bytes P

restrict-named : (P : Term) → Named P → Named (restrict_used P)
unfolding fn restrictions name_bytes
restrict-named P h = go (used? P)
  where
    go : Used P → Named (restrict_used P)
    go (used u) = subst Named (sym (restrict-used P u)) (omega (arith, lower_fewer (fn P) (free→fn 0 P u)))
    go (unused Q e) =
        subst Named (sym (ap restrict_used e ∙ restrict_lifted Q))
        (let k : Named (ren suc Q) = subst Named e h in
        let a : length (fn (ren suc Q)) ≡ length (fn Q) = ap length (fn-ren suc Q) ∙ length-map (fn Q) suc in
        omega (arith, restrictions-ren suc Q, names-ren suc Q))

pub tidied-named : (P : Term) → length (fn (tidy P)) + restrictions (tidy P) ≤ name_bytes (tidy P)
unfolding tidy fn restrictions name_bytes
tidied-named nil = omega arith
tidied-named (tau P) = tidied-named P
tidied-named (inp a P) = omega (arith, tidied-named P, lower_few (fn (tidy P)))
tidied-named (out a b P) = omega (arith, tidied-named P)
tidied-named (bout a P) = omega (arith, tidied-named P, lower_few (fn (tidy P)))
tidied-named (mat a b P) = omega (arith, tidied-named P)
tidied-named (sum P Q) = omega (arith, tidied-named P, tidied-named Q, length-append (fn (tidy P)) (fn (tidy Q)))
tidied-named (par P Q) = omega (arith, tidied-named P, tidied-named Q, length-append (fn (tidy P)) (fn (tidy Q)))
tidied-named (res P) = restrict-named (tidy P) (tidied-named P)
tidied-named (call k xs) = omega arith

-- At most four bytes in five are names, restrictions left out.
pub names_dense : (d : ℕ) (P : Term) → FewNames P → 5 * name_bytes P + 4 * restrictions P ≤ 4 * length (encode d P)
unfolding encode restrictions name_bytes FewNames
names_dense d nil f = omega arith
names_dense d (tau P) f = omega (arith, names_dense d P f)
names_dense d (inp a P) f = omega (arith, names_dense (1 + d) P f)
names_dense d (out a b P) f = omega (arith, names_dense d P f)
names_dense d (bout a P) f = omega (arith, names_dense (1 + d) P f)
names_dense d (mat a b P) f = omega (arith, names_dense d P f)
names_dense d (sum P Q) (f, g) = omega (arith, names_dense d P f, names_dense d Q g, length-append (encode d P) (encode d Q))
names_dense d (par P Q) (f, g) = omega (arith, names_dense d P f, names_dense d Q g, length-append (encode d P) (encode d Q))
names_dense d (res P) f = omega (arith, names_dense (1 + d) P f)
names_dense d (call k xs) f = omega (arith, length-map xs (name_byte d))

-- A byte for each name and each binder, and one more.
bytes_enough : (d : ℕ) (P : Term) → (1 + name_bytes P + restrictions P + receivers P ≤ length (encode d P)) × (receivers P ≤ name_bytes P)
unfolding encode restrictions receivers name_bytes
bytes_enough d nil = (omega arith, omega arith)
bytes_enough d (tau P) = let (h, k) = bytes_enough d P in (omega arith, omega arith)
bytes_enough d (inp a P) = let (h, k) = bytes_enough (1 + d) P in (omega arith, omega arith)
bytes_enough d (out a b P) = let (h, k) = bytes_enough d P in (omega arith, omega arith)
bytes_enough d (bout a P) = let (h, k) = bytes_enough (1 + d) P in (omega arith, omega arith)
bytes_enough d (mat a b P) = let (h, k) = bytes_enough d P in (omega arith, omega arith)
bytes_enough d (sum P Q) = let (h, k) = bytes_enough d P in let (i, j) = bytes_enough d Q in (omega (arith, length-append (encode d P) (encode d Q)), omega arith)
bytes_enough d (par P Q) = let (h, k) = bytes_enough d P in let (i, j) = bytes_enough d Q in (omega (arith, length-append (encode d P) (encode d Q)), omega arith)
bytes_enough d (res P) = let (h, k) = bytes_enough (1 + d) P in (omega arith, omega arith)
bytes_enough d (call k xs) = (omega (arith, length-map xs (name_byte d)), omega arith)

height_few : (P : Term) → height P ≤ restrictions P + receivers P
unfolding height restrictions receivers
height_few nil = omega arith
height_few (tau P) = height_few P
height_few (inp a P) = omega (arith, height_few P)
height_few (out a b P) = height_few P
height_few (bout a P) = omega (arith, height_few P)
height_few (mat a b P) = height_few P
height_few (sum P Q) = omega (arith, height_few P, height_few Q)
height_few (par P Q) = omega (arith, height_few P, height_few Q)
height_few (res P) = omega (arith, height_few P)
height_few (call k xs) = omega arith

-- In a tidied term of 112 bytes: at most 49 restrictions, and at most 74 binders one within the other.
module _ (P : Term) (short : length (encode 0 (tidy P)) ≤ 112) where
  pub few_restrictions : FewNames (tidy P) → restrictions (tidy P) ≤ 49
  few_restrictions f = omega (arith, tidied-named P, names_dense 0 (tidy P) f)

  pub low : height (tidy P) ≤ 74
  low = let (h, k) = bytes_enough 0 (tidy P) in omega (arith, tidied-named P, height_few (tidy P))
