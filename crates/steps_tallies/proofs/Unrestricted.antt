-- A term without restrictions and new-name outputs, whose calls' bodies have none, steps to such terms alone; they are tidied as they are. Assumes nothing.
use mathlib.Core.List.{List, [], ◌∷◌, ◌++◌, map, reverse}
use mathlib.Core.Path.{◌≡◌, refl, ap, ap₂}
use native.Mathlib.Omega.{arith}
use Prim.Native.Nat.{ℕ, suc}
use Rattle.calculus.specs.Abstraction.{Act, tau_a, inp_a, out_a, bout_a}
use Rattle.calculus.specs.Cond.{Cond}
use Rattle.calculus.specs.Definitions.{at, opened}
use Rattle.calculus.specs.Term.{Term, nil, tau, inp, out, bout, mat, sum, par, res, call, lift, ren, inst}
use Rattle.calculus.specs.Tidy.{tidy}
use Rattle.terms_restrictions.specs.Restrictions.{Unrestricted}
use Rattle.calculus.specs.Lists.{All}
use Rattle.steps.specs.Raw.{Candidate, step, blocked, matching, left_steps, right_steps, meet, communication, communications, visible_of, silent_of, visible_calls, silent_calls, visible, silent}
use Rattle.steps.proofs.CallCandidates.{visible-each, silent-each}
use Rattle.calculus.proofs.Membership.{all-++, all_map}

pub unrestricted_tidied : (P : Term) → Unrestricted P → tidy P ≡ P
unfolding tidy
unrestricted_tidied (bout _ _) u = elim u [ ]
unrestricted_tidied (res _) u = elim u [ ]
unrestricted_tidied nil u = refl
unrestricted_tidied (tau P) u = ap tau (unrestricted_tidied P u)
unrestricted_tidied (inp a P) u = ap (inp a) (unrestricted_tidied P u)
unrestricted_tidied (out a b P) u = ap (out a b) (unrestricted_tidied P u)
unrestricted_tidied (mat a b P) u = ap (mat a b) (unrestricted_tidied P u)
unrestricted_tidied (sum P Q) u = ap₂ sum (unrestricted_tidied P u.0) (unrestricted_tidied Q u.1)
unrestricted_tidied (par P Q) u = ap₂ par (unrestricted_tidied P u.0) (unrestricted_tidied Q u.1)
unrestricted_tidied (call k xs) u = refl

pub unrestricted_ren : (ρ : ℕ → ℕ) (P : Term) → Unrestricted P → Unrestricted (ren ρ P)
unrestricted_ren ρ (bout _ _) u = elim u [ ]
unrestricted_ren ρ (res _) u = elim u [ ]
unrestricted_ren ρ nil u = tt
unrestricted_ren ρ (tau P) u = unrestricted_ren ρ P u
unrestricted_ren ρ (inp a P) u = unrestricted_ren (lift ρ) P u
unrestricted_ren ρ (out a b P) u = unrestricted_ren ρ P u
unrestricted_ren ρ (mat a b P) u = unrestricted_ren ρ P u
unrestricted_ren ρ (sum P Q) u = (unrestricted_ren ρ P u.0, unrestricted_ren ρ Q u.1)
unrestricted_ren ρ (par P Q) u = (unrestricted_ren ρ P u.0, unrestricted_ren ρ Q u.1)
unrestricted_ren ρ (call k xs) u = tt

-- A candidate with such a result, which extrudes nothing.
abbrev pub Plain : Candidate → Type 0
Plain (step M tau_a A) = Unrestricted A
Plain (step M (inp_a a) A) = Unrestricted A
Plain (step M (out_a a b) A) = Unrestricted A
Plain (step M (bout_a a) A) = ⊥
Plain blocked = Unit

plain_match : (a b : ℕ) (c : Candidate) → Plain c → Plain (matching a b c)
unfolding matching
plain_match a b (step M (bout_a _) A) p = elim p [ ]
plain_match a b (step M tau_a A) p = p
plain_match a b (step M (inp_a c) A) p = p
plain_match a b (step M (out_a c d) A) p = p
plain_match a b blocked p = tt

plain_left : (Q : Term) → Unrestricted Q → (c : Candidate) → Plain c → Plain (left_steps Q c)
unfolding left_steps
plain_left Q u (step M (bout_a _) A) p = elim p [ ]
plain_left Q u (step M tau_a A) p = (p, u)
plain_left Q u (step M (inp_a a) A) p = (p, unrestricted_ren suc Q u)
plain_left Q u (step M (out_a a b) A) p = (p, u)
plain_left Q u blocked p = tt

plain_right : (P : Term) → Unrestricted P → (c : Candidate) → Plain c → Plain (right_steps P c)
unfolding right_steps
plain_right P u (step M (bout_a _) A) p = elim p [ ]
plain_right P u (step M tau_a A) p = (u, p)
plain_right P u (step M (inp_a a) A) p = (unrestricted_ren suc P u, p)
plain_right P u (step M (out_a a b) A) p = (u, p)
plain_right P u blocked p = tt

plain_communication : (c d : Candidate) → Plain c → Plain d → Plain (communication c d)
unfolding communication meet
plain_communication (step M tau_a A) (step N β B) p q = tt
plain_communication (step M (inp_a a) A) (step N tau_a B) p q = tt
plain_communication (step M (inp_a a) A) (step N (inp_a b) B) p q = tt
plain_communication (step M (inp_a a) A) (step N (out_a b c) B) p q = (unrestricted_ren (inst c) A p, q)
plain_communication (step M (inp_a a) A) (step N (bout_a b) B) p q = absurd q
plain_communication (step M (out_a a b) A) (step N tau_a B) p q = tt
plain_communication (step M (out_a a b) A) (step N (inp_a c) B) p q = (p, unrestricted_ren (inst b) B q)
plain_communication (step M (out_a a b) A) (step N (out_a c d) B) p q = tt
plain_communication (step M (out_a a b) A) (step N (bout_a c) B) p q = tt
plain_communication (step M (bout_a a) A) (step N β B) p q = absurd p
plain_communication (step M α A) blocked p q = tt
plain_communication blocked d p q = tt

plain_communications : (cs ds : List Candidate) → All Plain cs → All Plain ds → All Plain (communications cs ds)
unfolding communications
plain_communications [] ds a b = tt
plain_communications (c ∷ cs) ds a b =
    all-++ Plain (map (communication c) ds) (communications cs ds)
    (all_map (communication c) Plain Plain ds (λ d p. plain_communication c d a.0 p) b) (plain_communications cs ds a.1 b)

module _ (vc sc : ℕ → List ℕ → List Candidate) (calls : (k : ℕ) (xs : List ℕ) → All Plain (vc k xs)) (calls' : (k : ℕ) (xs : List ℕ) → All Plain (sc k xs)) where
  plain_visible : (P : Term) → Unrestricted P → All Plain (visible_of vc P)
  unfolding visible_of
  plain_visible (bout _ _) u = elim u [ ]
  plain_visible (res _) u = elim u [ ]
  plain_visible nil u = tt
  plain_visible (tau P) u = tt
  plain_visible (inp a P) u = (u, tt)
  plain_visible (out a b P) u = (u, tt)
  plain_visible (mat a b P) u = all_map (matching a b) Plain Plain (visible_of vc P) (plain_match a b) (plain_visible P u)
  plain_visible (sum P Q) u = all-++ Plain (visible_of vc P) (visible_of vc Q) (plain_visible P u.0) (plain_visible Q u.1)
  plain_visible (par P Q) u =
      all-++ Plain (map (left_steps Q) (visible_of vc P)) (map (right_steps P) (visible_of vc Q))
      (all_map (left_steps Q) Plain Plain (visible_of vc P) (plain_left Q u.1) (plain_visible P u.0))
      (all_map (right_steps P) Plain Plain (visible_of vc Q) (plain_right P u.0) (plain_visible Q u.1))
  plain_visible (call k xs) u = calls k xs

  plain_silent : (P : Term) → Unrestricted P → All Plain (silent_of vc sc P)
  unfolding silent_of
  plain_silent (bout _ _) u = elim u [ ]
  plain_silent (res _) u = elim u [ ]
  plain_silent nil u = tt
  plain_silent (tau P) u = (u, tt)
  plain_silent (inp a P) u = tt
  plain_silent (out a b P) u = tt
  plain_silent (mat a b P) u = all_map (matching a b) Plain Plain (silent_of vc sc P) (plain_match a b) (plain_silent P u)
  plain_silent (sum P Q) u = all-++ Plain (silent_of vc sc P) (silent_of vc sc Q) (plain_silent P u.0) (plain_silent Q u.1)
  plain_silent (par P Q) u =
      all-++ Plain (map (left_steps Q) (silent_of vc sc P)) _
      (all_map (left_steps Q) Plain Plain (silent_of vc sc P) (plain_left Q u.1) (plain_silent P u.0))
      (all-++ Plain (map (right_steps P) (silent_of vc sc Q)) (communications (visible_of vc P) (visible_of vc Q))
      (all_map (right_steps P) Plain Plain (silent_of vc sc Q) (plain_right P u.0) (plain_silent Q u.1))
      (plain_communications (visible_of vc P) (visible_of vc Q) (plain_visible P u.0) (plain_visible Q u.1)))
  plain_silent (call k xs) u = calls' k xs

module _ (body : ℕ → Term) (bodies : (k : ℕ) → Unrestricted (body k)) where
  plain_bodies : (k : ℕ) (xs : List ℕ) → All Plain (visible body 0 (opened xs (body k))) × All Plain (silent body 0 (opened xs (body k)))
  unfolding visible silent visible_calls silent_calls
  plain_bodies k xs =
      let B : Term = opened xs (body k) in
      let u : Unrestricted B = unrestricted_ren (at (reverse xs)) (body k) (bodies k) in
      (plain_visible (visible_calls body 0) (silent_calls body 0) (λ k xs. tt) (λ k xs. tt) B u, plain_silent (visible_calls body 0) (silent_calls body 0) (λ k xs. tt) (λ k xs. tt) B u)

  pub plain_candidates : (P : Term) → Unrestricted P → All Plain (visible body 1 P ++ silent body 1 P)
  unfolding visible silent
  plain_candidates P u =
      let v : (k : ℕ) (xs : List ℕ) → All Plain (visible_calls body 1 k xs) = λ k xs. visible-each body Plain plain_match (λ k xs. (plain_bodies k xs).0) 1 k xs (omega arith) in
      let s : (k : ℕ) (xs : List ℕ) → All Plain (silent_calls body 1 k xs) = λ k xs. silent-each body Plain plain_match (λ k xs. (plain_bodies k xs).1) 1 k xs (omega arith) in
      all-++ Plain (visible_of (visible_calls body 1) P) (silent_of (visible_calls body 1) (silent_calls body 1) P)
      (plain_visible (visible_calls body 1) (silent_calls body 1) v s P u) (plain_silent (visible_calls body 1) (silent_calls body 1) v s P u)

-- A plain step's result, and so is what becomes of it when its names are rewritten.
plain_result : (M : Cond) (α : Act) (A : Term) → Plain (step M α A) → Unrestricted A
plain_result M tau_a A p = p
plain_result M (inp_a a) A p = p
plain_result M (out_a a b) A p = p
plain_result M (bout_a a) A p = absurd p

pub plain_tidied : (ρ : ℕ → ℕ) (M : Cond) (α : Act) (A : Term) → Plain (step M α A) → tidy (ren ρ A) ≡ ren ρ A
plain_tidied ρ M α A p = unrestricted_tidied (ren ρ A) (unrestricted_ren ρ A (plain_result M α A p))
