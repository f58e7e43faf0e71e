-- Calls without a prefix (document 02, request 2026-01): the calls that opening a call reaches, through calls with no prefix above them.
-- Names are those of the first call, as the parameters of the bodies on the way are replaced; no condition rewrites them.
use Rattle.std.specs.Prelude.{List, [], ◌∷◌, ◌++◌, ◌≡◌, ℕ, length}
use Rattle.calculus.specs.Cond.{Cond}
use Rattle.calculus.specs.Definitions.{Defs, opened}
use Rattle.calculus.specs.Term.{Term, nil, tau, inp, out, bout, mat, sum, par, res, call}

-- Check 11 before request 2026-01: every call in the term is beneath a prefix.
abbrev pub Guarded : Term → Type 0
Guarded nil = Unit
Guarded (tau P) = Unit
Guarded (inp a P) = Unit
Guarded (out a b P) = Unit
Guarded (bout a P) = Unit
Guarded (mat a b P) = Guarded P
Guarded (sum P Q) = Guarded P × Guarded Q
Guarded (par P Q) = Guarded P × Guarded Q
Guarded (res P) = Guarded P
Guarded (call k xs) = ⊥

-- Check 11 by request 2026-01: it fires only for an unprefixed call beneath a restriction. A body has no parallel (check 10).
abbrev pub GuardedBelow : Term → Type 0
GuardedBelow nil = Unit
GuardedBelow (tau P) = Unit
GuardedBelow (inp a P) = Unit
GuardedBelow (out a b P) = Unit
GuardedBelow (bout a P) = Unit
GuardedBelow (mat a b P) = GuardedBelow P
GuardedBelow (sum P Q) = GuardedBelow P × GuardedBelow Q
GuardedBelow (par P Q) = Guarded P × Guarded Q
GuardedBelow (res P) = Guarded P
GuardedBelow (call k xs) = Unit

-- A term without its unprefixed calls, where no restriction or parallel stands above them: what is left has the steps that need no [Con] for them.
unfoldable pub stripped : Term → Term
stripped nil = nil
stripped (tau P) = tau P
stripped (inp a P) = inp a P
stripped (out a b P) = out a b P
stripped (bout a P) = bout a P
stripped (mat a b P) = mat a b (stripped P)
stripped (sum P Q) = sum (stripped P) (stripped Q)
stripped (par P Q) = par P Q
stripped (res P) = res P
stripped (call k xs) = nil

-- Those unprefixed calls, k⟨xs⟩ each with the matches above it: only choices and matches stand above such a call in a body.
pub data Bare : Term → Cond → ℕ → List ℕ → Type 0 where
  b_call : {k : ℕ} {xs : List ℕ} → Bare (call k xs) [] k xs
  b_mat : {a b : ℕ} {P : Term} {C : Cond} {k : ℕ} {xs : List ℕ} → Bare P C k xs → Bare (mat a b P) ((a, b) ∷ C) k xs
  b_sum_l : {P Q : Term} {C : Cond} {k : ℕ} {xs : List ℕ} → Bare P C k xs → Bare (sum P Q) C k xs
  b_sum_r : {P Q : Term} {C : Cond} {k : ℕ} {xs : List ℕ} → Bare Q C k xs → Bare (sum P Q) C k xs

module _ (Δ : Defs) where
  -- Opening k⟨xs⟩ reaches m⟨zs⟩ through unprefixed calls, beneath the matches on the way; the call itself is included. By rule [Con] a call
  -- with another number of names than its definition has opens nothing.
  pub data Reached : ℕ → List ℕ → Cond → ℕ → List ℕ → Type 0 where
    here : {k : ℕ} {xs : List ℕ} → Reached k xs [] k xs
    through : {k l m : ℕ} {xs ys zs : List ℕ} {C D : Cond} → length xs ≡ Δ.arity k → Bare (opened xs (Δ.body k)) C l ys
        → Reached l ys D m zs → Reached k xs (C ++ D) m zs
