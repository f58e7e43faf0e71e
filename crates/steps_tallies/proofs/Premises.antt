-- The premises of a candidate that is not blocked, rule by rule. Assumes nothing.
use mathlib.Core.Path.{◌≡◌, refl, sym, ap, ap₂, ◌∙◌}
use mathlib.Core.Bool.{Bool, true, false, cond}
use Prim.Native.Nat.{ℕ, zero, suc}
use native.Mathlib.Omega.{arith}
use Rattle.calculus.specs.Abstraction.{Act, tau_a, inp_a, out_a, bout_a, weak, swap}
use Rattle.calculus.specs.Cond.{Cond, map_p}
use Rattle.calculus.specs.Term.{Term, par, res, ren, inst}
use Rattle.steps.specs.Raw.{Candidate, step, blocked, matching, left_steps, right_steps, meet, communication, restricted_alone, outside, restricted_action, restricted}

pub never : {T : Type 0} (M : Cond) (α : Act) (A : Term) → blocked ≡ step M α A → T
never M α A e = let z : ◌≡◌ {A = ℕ} 0 1 = cc in absurd (omega arith)

-- A candidate with this action and result, whatever its condition.
pub record Step (c : Candidate) (α : Act) (A : Term) : Type 0 where
  pub condition : Cond
  pub is : c ≡ step condition α A

-- [Match]
pub matching_of : (a b : ℕ) (c : Candidate) (M : Cond) (α : Act) (A : Term) → matching a b c ≡ step M α A → Step c α A
unfolding matching
matching_of a b (step N β B) M α A e =
    let p : β ≡ α = cc in
    let q : B ≡ A = cc in
    record { condition = N; is = ap₂ (step N) p q }
matching_of a b blocked M α A e = never M α A e

-- [Par]
pub record Beside (c : Candidate) (α : Act) (A : Term) (whole : Term → Term) : Type 0 where
  pub result : Term
  pub premise : Step c α result
  pub is : A ≡ whole result

pub left_of_lem : (Q : Term) (c : Candidate) (M : Cond) (α : Act) (A : Term) → left_steps Q c ≡ step M α A → Beside c α A (λ B. par B (weak α Q))
unfolding left_steps
left_of_lem Q (step N β B) M α A e =
    let p : β ≡ α = cc in
    let q : par B (weak β Q) ≡ A = cc in
    record { result = B; premise = record { condition = N; is = ap (λ (γ : Act). step N γ B) p }; is = sym q ∙ ap (λ (γ : Act). par B (weak γ Q)) p }
left_of_lem Q blocked M α A e = never M α A e

pub right_of_lem : (P : Term) (c : Candidate) (M : Cond) (α : Act) (A : Term) → right_steps P c ≡ step M α A → Beside c α A (λ B. par (weak α P) B)
unfolding right_steps
right_of_lem P (step N β B) M α A e =
    let p : β ≡ α = cc in
    let q : par (weak β P) B ≡ A = cc in
    record { result = B; premise = record { condition = N; is = ap (λ (γ : Act). step N γ B) p }; is = sym q ∙ ap (λ (γ : Act). par (weak γ P) B) p }
right_of_lem P blocked M α A e = never M α A e

-- [Res] and [Open]: the action and result under the restriction, and those outside.
abbrev pub Restricts : Act → Term → Act → Term → Type 0
Restricts tau_a B α A = (α ≡ tau_a) × (A ≡ res B)
Restricts (inp_a zero) B α A = ⊥
Restricts (inp_a (suc a)) B α A = (α ≡ inp_a a) × (A ≡ res (ren swap B))
Restricts (out_a zero b) B α A = ⊥
Restricts (out_a (suc a) zero) B α A = (α ≡ bout_a a) × (A ≡ B)
Restricts (out_a (suc a) (suc b)) B α A = (α ≡ out_a a b) × (A ≡ res B)
Restricts (bout_a zero) B α A = ⊥
Restricts (bout_a (suc a)) B α A = (α ≡ bout_a a) × (A ≡ res (ren swap B))

pub record Under (c : Candidate) (α : Act) (A : Term) : Type 0 where
  pub action : Act
  pub result : Term
  pub premise : Step c action result
  pub restricts : Restricts action result α A

restricts_of : (N : Cond) (β : Act) (B : Term) (M : Cond) (α : Act) (A : Term) → restricted_action N β B ≡ step M α A → Restricts β B α A
unfolding restricted_action
restricts_of N tau_a B M α A e = (cc, cc)
restricts_of N (inp_a zero) B M α A e = never M α A e
restricts_of N (inp_a (suc a)) B M α A e = (cc, cc)
restricts_of N (out_a zero b) B M α A e = never M α A e
restricts_of N (out_a (suc a) zero) B M α A e = (cc, cc)
restricts_of N (out_a (suc a) (suc b)) B M α A e = (cc, cc)
restricts_of N (bout_a zero) B M α A e = never M α A e
restricts_of N (bout_a (suc a)) B M α A e = (cc, cc)

pub under_of : (c : Candidate) (M : Cond) (α : Act) (A : Term) → restricted c ≡ step M α A → Under c α A
unfolding restricted
under_of (step N β B) M α A e = go (restricted_alone N) e
  where
    go : (t : Bool) → cond t (restricted_action (map_p outside N) β B) blocked ≡ step M α A → Under (step N β B) α A
    go true e = record { action = β; result = B; premise = record { condition = N; is = refl }; restricts = restricts_of (map_p outside N) β B M α A e }
    go false e = never M α A e
under_of blocked M α A e = never M α A e

-- [Com] and [Close]: the results of the two sides, by their actions.
abbrev pub Meets : Act → Term → Act → Term → Term → Type 0
Meets tau_a P β Q A = ⊥
Meets (inp_a a) P tau_a Q A = ⊥
Meets (inp_a a) P (inp_a b) Q A = ⊥
Meets (inp_a a) P (out_a b y) Q A = A ≡ par (ren (inst y) P) Q
Meets (inp_a a) P (bout_a b) Q A = A ≡ res (par P Q)
Meets (out_a a y) P tau_a Q A = ⊥
Meets (out_a a y) P (inp_a b) Q A = A ≡ par P (ren (inst y) Q)
Meets (out_a a y) P (out_a b z) Q A = ⊥
Meets (out_a a y) P (bout_a b) Q A = ⊥
Meets (bout_a a) P tau_a Q A = ⊥
Meets (bout_a a) P (inp_a b) Q A = A ≡ res (par P Q)
Meets (bout_a a) P (out_a b z) Q A = ⊥
Meets (bout_a a) P (bout_a b) Q A = ⊥

pub record Meeting (c d : Candidate) (α : Act) (A : Term) : Type 0 where
  pub left_action : Act
  pub left_result : Term
  pub left : Step c left_action left_result
  pub right_action : Act
  pub right_result : Term
  pub right : Step d right_action right_result
  pub silent : α ≡ tau_a
  pub meets : Meets left_action left_result right_action right_result A

meets_of : (K : Cond) (β : Act) (P : Term) (N : Cond) (γ : Act) (Q : Term) (M : Cond) (α : Act) (A : Term) → meet K β P N γ Q ≡ step M α A
    → (α ≡ tau_a) × Meets β P γ Q A
unfolding meet
meets_of K tau_a P N γ Q M α A e = never M α A e
meets_of K (inp_a a) P N tau_a Q M α A e = never M α A e
meets_of K (inp_a a) P N (inp_a b) Q M α A e = never M α A e
meets_of K (inp_a a) P N (out_a b y) Q M α A e = (cc, cc)
meets_of K (inp_a a) P N (bout_a b) Q M α A e = (cc, cc)
meets_of K (out_a a y) P N tau_a Q M α A e = never M α A e
meets_of K (out_a a y) P N (inp_a b) Q M α A e = (cc, cc)
meets_of K (out_a a y) P N (out_a b z) Q M α A e = never M α A e
meets_of K (out_a a y) P N (bout_a b) Q M α A e = never M α A e
meets_of K (bout_a a) P N tau_a Q M α A e = never M α A e
meets_of K (bout_a a) P N (inp_a b) Q M α A e = (cc, cc)
meets_of K (bout_a a) P N (out_a b z) Q M α A e = never M α A e
meets_of K (bout_a a) P N (bout_a b) Q M α A e = never M α A e

pub meeting_of_lem : (c d : Candidate) (M : Cond) (α : Act) (A : Term) → communication c d ≡ step M α A → Meeting c d α A
unfolding communication
meeting_of_lem (step K β P) (step N γ Q) M α A e =
    let m = meets_of K β P N γ Q M α A e in
    record {
      left_action = β;
      left_result = P;
      left = record { condition = K; is = refl };
      right_action = γ;
      right_result = Q;
      right = record { condition = N; is = refl };
      silent = m.0;
      meets = m.1;
    }
meeting_of_lem (step K β P) blocked M α A e = never M α A e
meeting_of_lem blocked d M α A e = never M α A e
