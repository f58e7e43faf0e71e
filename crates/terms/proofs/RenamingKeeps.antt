-- What a renaming keeps of a term: its scope, where the renaming keeps names in scope, its grammar, and its length in either edition.
use mathlib.Core.Path.{◌≡◌, refl, sym, ap, ap₂, ◌∙◌}
use mathlib.Core.List.{List, [], ◌∷◌, map}
use mathlib.Core.Bool.{◌&&◌}
use Prim.Native.Nat.{ℕ, zero, suc, ◌+◌, ◌<◌}
use native.Mathlib.Omega.{arith}
use lib.ListN.{length, length-append, length-map}
use Rattle.calculus.specs.Term.{Term, nil, tau, inp, out, bout, mat, sum, par, res, call, ren, lift}
use Rattle.terms.specs.Edition.{Edition, one, count_bytes, encode_in}
use Rattle.terms.specs.Encoding.{name_byte, encode, NamesInScope, InScope}
use Rattle.terms.specs.Grammar.{sequential, parallel_outermost, guarded}
use Rattle.terms.proofs.EditionOne.{encode-first}

-- ρ takes the names of a term under d binders to names of a term under d' binders.
abbrev pub Keeps : ℕ → ℕ → ℕ → ℕ → (ℕ → ℕ) → Type 0
Keeps free free' d d' ρ = (n : ℕ) → n < d + free → ρ n < d' + free'

pub keeps_lift : (free free' d d' : ℕ) (ρ : ℕ → ℕ) → Keeps free free' d d' ρ → Keeps free free' (1 + d) (1 + d') (lift ρ)
keeps_lift free free' d d' ρ h zero l = omega arith
keeps_lift free free' d d' ρ h (suc n) l = omega (arith, h n (omega arith))

names_scope_ren : (free free' d d' : ℕ) (ρ : ℕ → ℕ) → Keeps free free' d d' ρ → (ns : List ℕ) → NamesInScope free d ns → NamesInScope free' d' (map ρ ns)
unfolding NamesInScope
names_scope_ren free free' d d' ρ h [] s = tt
names_scope_ren free free' d d' ρ h (n ∷ ns) s = (h n s.0, names_scope_ren free free' d d' ρ h ns s.1)

pub scope_ren : (free free' : ℕ) (arities : List ℕ) (d d' : ℕ) (ρ : ℕ → ℕ) → Keeps free free' d d' ρ → (P : Term) →
    InScope free arities d P → InScope free' arities d' (ren ρ P)
unfolding InScope
scope_ren free free' ar d d' ρ h nil s = tt
scope_ren free free' ar d d' ρ h (tau P) s = scope_ren free free' ar d d' ρ h P s
scope_ren free free' ar d d' ρ h (inp a P) s =
    (h a s.0, scope_ren free free' ar (1 + d) (1 + d') (lift ρ) (keeps_lift free free' d d' ρ h) P s.1)
scope_ren free free' ar d d' ρ h (out a b P) s = (h a s.0, h b s.1, scope_ren free free' ar d d' ρ h P s.2)
scope_ren free free' ar d d' ρ h (bout a P) s =
    (h a s.0, scope_ren free free' ar (1 + d) (1 + d') (lift ρ) (keeps_lift free free' d d' ρ h) P s.1)
scope_ren free free' ar d d' ρ h (mat a b P) s = (h a s.0, h b s.1, scope_ren free free' ar d d' ρ h P s.2)
scope_ren free free' ar d d' ρ h (sum P Q) s = (scope_ren free free' ar d d' ρ h P s.0, scope_ren free free' ar d d' ρ h Q s.1)
scope_ren free free' ar d d' ρ h (par P Q) s = (scope_ren free free' ar d d' ρ h P s.0, scope_ren free free' ar d d' ρ h Q s.1)
scope_ren free free' ar d d' ρ h (res P) s = scope_ren free free' ar (1 + d) (1 + d') (lift ρ) (keeps_lift free free' d d' ρ h) P s
scope_ren free free' ar d d' ρ h (call k ns) s = (s.0, length-map ns ρ ∙ s.1, names_scope_ren free free' d d' ρ h ns s.2)

pub sequential-ren : (ρ : ℕ → ℕ) (P : Term) → sequential (ren ρ P) ≡ sequential P
unfolding sequential
sequential-ren ρ nil = refl
sequential-ren ρ (tau P) = sequential-ren ρ P
sequential-ren ρ (inp a P) = sequential-ren (lift ρ) P
sequential-ren ρ (out a b P) = sequential-ren ρ P
sequential-ren ρ (bout a P) = sequential-ren (lift ρ) P
sequential-ren ρ (mat a b P) = sequential-ren ρ P
sequential-ren ρ (sum P Q) = ap₂ ◌&&◌ (sequential-ren ρ P) (sequential-ren ρ Q)
sequential-ren ρ (par P Q) = refl
sequential-ren ρ (res P) = sequential-ren (lift ρ) P
sequential-ren ρ (call k ns) = refl

pub outermost_ren : (ρ : ℕ → ℕ) (P : Term) → parallel_outermost (ren ρ P) ≡ parallel_outermost P
unfolding parallel_outermost
outermost_ren ρ nil = refl
outermost_ren ρ (tau P) = sequential-ren ρ P
outermost_ren ρ (inp a P) = sequential-ren (lift ρ) P
outermost_ren ρ (out a b P) = sequential-ren ρ P
outermost_ren ρ (bout a P) = sequential-ren (lift ρ) P
outermost_ren ρ (mat a b P) = sequential-ren ρ P
outermost_ren ρ (sum P Q) = ap₂ ◌&&◌ (sequential-ren ρ P) (sequential-ren ρ Q)
outermost_ren ρ (par P Q) = ap₂ ◌&&◌ (outermost_ren ρ P) (outermost_ren ρ Q)
outermost_ren ρ (res P) = outermost_ren (lift ρ) P
outermost_ren ρ (call k ns) = refl

pub guarded-ren : (ρ : ℕ → ℕ) (P : Term) → guarded (ren ρ P) ≡ guarded P
unfolding guarded
guarded-ren ρ nil = refl
guarded-ren ρ (tau P) = refl
guarded-ren ρ (inp a P) = refl
guarded-ren ρ (out a b P) = refl
guarded-ren ρ (bout a P) = refl
guarded-ren ρ (mat a b P) = guarded-ren ρ P
guarded-ren ρ (sum P Q) = ap₂ ◌&&◌ (guarded-ren ρ P) (guarded-ren ρ Q)
guarded-ren ρ (par P Q) = ap₂ ◌&&◌ (guarded-ren ρ P) (guarded-ren ρ Q)
guarded-ren ρ (res P) = guarded-ren (lift ρ) P
guarded-ren ρ (call k ns) = refl

-- A renamed term is as long as it was, in either edition.
pub length-ren_in : (e : Edition) (d d' : ℕ) (ρ : ℕ → ℕ) (P : Term) → length (encode_in e d' (ren ρ P)) ≡ length (encode_in e d P)
unfolding encode_in
length-ren_in e d d' ρ nil = refl
length-ren_in e d d' ρ (tau P) = omega (arith, length-ren_in e d d' ρ P)
length-ren_in e d d' ρ (inp a P) = omega (arith, length-ren_in e (1 + d) (1 + d') (lift ρ) P)
length-ren_in e d d' ρ (out a b P) = omega (arith, length-ren_in e d d' ρ P)
length-ren_in e d d' ρ (bout a P) = omega (arith, length-ren_in e (1 + d) (1 + d') (lift ρ) P)
length-ren_in e d d' ρ (mat a b P) = omega (arith, length-ren_in e d d' ρ P)
length-ren_in e d d' ρ (sum P Q) =
    omega (
      arith,
      length-ren_in e d d' ρ P,
      length-ren_in e d d' ρ Q,
      length-append (encode_in e d P) (encode_in e d Q),
      length-append (encode_in e d' (ren ρ P)) (encode_in e d' (ren ρ Q)),
    )
length-ren_in e d d' ρ (par P Q) =
    omega (
      arith,
      length-ren_in e d d' ρ P,
      length-ren_in e d d' ρ Q,
      length-append (encode_in e d P) (encode_in e d Q),
      length-append (encode_in e d' (ren ρ P)) (encode_in e d' (ren ρ Q)),
    )
length-ren_in e d d' ρ (res P) = omega (arith, length-ren_in e (1 + d) (1 + d') (lift ρ) P)
length-ren_in e d d' ρ (call k ns) =
    let l : length (map ρ ns) ≡ length ns = length-map ns ρ in
    let c : count_bytes e (length (map ρ ns)) ≡ count_bytes e (length ns) = ap (count_bytes e) l in
    omega (
      arith,
      length-append (count_bytes e (length (map ρ ns))) (map (name_byte d') (map ρ ns)),
      length-append (count_bytes e (length ns)) (map (name_byte d) ns),
      length-map (map ρ ns) (name_byte d'),
      length-map ns (name_byte d),
      ap length c,
    )

pub length-ren : (d d' : ℕ) (ρ : ℕ → ℕ) (P : Term) → length (encode d' (ren ρ P)) ≡ length (encode d P)
length-ren d d' ρ P = ap length (sym (encode-first d' (ren ρ P))) ∙ length-ren_in one d d' ρ P ∙ ap length (encode-first d P)
