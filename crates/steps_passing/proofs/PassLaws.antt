-- What the action of a candidate does, by the candidate's number, form by form. Assumes nothing.
use mathlib.Core.Path.{◌≡◌, refl, sym, ap, subst, ◌∙◌}
use mathlib.Core.Bool.{Bool, true, false, cond}
use mathlib.Core.List.{List, [], ◌∷◌, ◌++◌}
use Prim.Native.Nat.{ℕ, zero, suc, ◌+◌, ◌-◌, ◌<◌, ◌≤◌}
use native.Mathlib.Omega.{arith}
use lib.ListN.{length, get_or, drop, length-append, length-drop, get_or-eq_default}
use lib.Seq.{drop-drop}
use lib.Dec.{eqb}
use borrow.Author.Tests.{eq-eqb, eqb-true}
use Rattle.calculus.specs.Abstraction.{Act, tau_a, inp_a, out_a, bout_a}
use Rattle.calculus.specs.Cond.{Cond}
use Rattle.calculus.specs.Term.{Term, nil, tau, inp, out, bout, mat, sum, par, res, call, ren, lift}
use Rattle.terms.specs.Encoding.{name_byte, encode, InScope}
use Rattle.terms.specs.Limits.{name_count}
use Rattle.terms_bytes.specs.NameTable.{table_names}
use Rattle.terms.specs.Question.{Question}
use Rattle.terms.proofs.ReadEncoded.{encode-some}
use Rattle.terms_bytes.proofs.Stores.{get_d_front}
use Rattle.terms.specs.Question.{body_of}
use Rattle.steps_conditions.specs.Names.{turn}
use Rattle.steps_tallies.specs.Candidates.{candidates}
use Rattle.steps_passing.specs.Passing.{Sent, Acts, PassIs, PrefixIs, nothing_sent, opens_at, leaving_at, counted}
use Rattle.steps.specs.Raw.{Candidate, step, blocked, visible, silent, visible_of, silent_of}
use Rattle.steps_conditions.specs.Slots.{slot_of}
use Rattle.steps_passing.specs.declared.pass.Passed.{Passed}
use Rattle.steps_tallies.proofs.CandidateForms.{candidates-mat, candidates-res, tag, tag_at, only_mat, only_res}
use Rattle.steps_conditions.proofs.NameSlots.{slot_of_byte, slot_bound, slot_inner, below_level}
use Rattle.steps_tallies.proofs.Numbering.{nth_matching, nth_restricted}
use Rattle.steps_tallies.proofs.OwnNames.{own-under}
use Rattle.steps_tallies.proofs.Premises.{never, Restricts, matching_of, under_of}

-- No term stands past the end.
pub pass_none : (question s : List ℕ) (at D calls : ℕ) (t : Bool) (i : ℕ) → length s ≤ at → PassIs question s at D calls t i nothing_sent
pass_none question s at D calls t i past = record {
  slot = omega arith;
  does = λ q free σ own P rest ok few scope st. absurd (omega (arith, encode-some D P, simp (length-append, length-drop) at (ap length st)));
}

-- A prefix has one candidate, or none of this kind.
unfoldable pub prefix_step : Term → List Candidate
prefix_step nil = []
prefix_step (tau P) = step [] tau_a P ∷ []
prefix_step (inp a P) = step [] (inp_a a) P ∷ []
prefix_step (out a b P) = step [] (out_a a b) P ∷ []
prefix_step (bout a P) = step [] (bout_a a) P ∷ []
prefix_step (mat a b P) = []
prefix_step (sum P Q) = []
prefix_step (par P Q) = []
prefix_step (res P) = []
prefix_step (call k xs) = []

pub prefix-candidates : (body : ℕ → Term) (t : Bool) (n : ℕ) (P : Term) → tag P < 5 → candidates t body n P ≡ cond (counted t (tag P)) (prefix_step P) []
unfolding candidates visible silent visible_of silent_of counted prefix_step
prefix-candidates body true n nil h = refl
prefix-candidates body false n nil h = refl
prefix-candidates body true n (tau P) h = refl
prefix-candidates body false n (tau P) h = refl
prefix-candidates body true n (inp a P) h = refl
prefix-candidates body false n (inp a P) h = refl
prefix-candidates body true n (out a b P) h = refl
prefix-candidates body false n (out a b P) h = refl
prefix-candidates body true n (bout a P) h = refl
prefix-candidates body false n (bout a P) h = refl
prefix-candidates body t n (mat a b P) h = absurd (omega arith)
prefix-candidates body t n (sum P Q) h = absurd (omega arith)
prefix-candidates body t n (par P Q) h = absurd (omega arith)
prefix-candidates body t n (res P) h = absurd (omega arith)
prefix-candidates body t n (call k xs) h = absurd (omega arith)

tag-ren : (σ : ℕ → ℕ) (P : Term) → tag (ren σ P) ≡ tag P
tag-ren σ nil = refl
tag-ren σ (tau P) = refl
tag-ren σ (inp a P) = refl
tag-ren σ (out a b P) = refl
tag-ren σ (bout a P) = refl
tag-ren σ (mat a b P) = refl
tag-ren σ (sum P Q) = refl
tag-ren σ (par P Q) = refl
tag-ren σ (res P) = refl
tag-ren σ (call k xs) = refl

-- What is not blocked in such a list is its one candidate.
pub only_one : (b : Bool) (cs : List Candidate) (n : ℕ) (M : Cond) (α : Act) (A : Term) → length cs ≤ 1 → get_or (cond b cs []) n blocked ≡ step M α A
    → get_or cs 0 blocked ≡ step M α A
only_one true cs zero M α A l e = e
only_one true cs (suc n) M α A l e = never M α A (sym (get_or-eq_default cs blocked {n = suc n} (omega arith)) ∙ e)
only_one false cs n M α A l e = never M α A e

one_at_most : (P : Term) → length (prefix_step P) ≤ 1
unfolding prefix_step
one_at_most nil = omega arith
one_at_most (tau P) = omega arith
one_at_most (inp a P) = omega arith
one_at_most (out a b P) = omega arith
one_at_most (bout a P) = omega arith
one_at_most (mat a b P) = omega arith
one_at_most (sum P Q) = omega arith
one_at_most (par P Q) = omega arith
one_at_most (res P) = omega arith
one_at_most (call k xs) = omega arith

module _ (question s : List ℕ) (at D calls : ℕ) (t : Bool) (i : ℕ) (low : get_or s at 0 < 5) (r : Passed) (R : PrefixIs s at D r) where
  pub pass_prefix : PassIs question s at D calls t i r
  unfolding prefix_step Acts InScope encode
  pass_prefix = record {
    slot = R.slot;
    does = λ q free σ own P rest ok few scope st M α A e.
        let g = tag_at s at D P rest st in
        let c = prefix-candidates (body_of q.bodies) t calls (ren σ P) (omega (arith, tag-ren σ P)) in
        acts q free σ P rest few scope st (R.kind ∙ ap (λ (k : ℕ). k - 1) g) M α A
        (only_one (counted t (tag (ren σ P))) (prefix_step (ren σ P)) i M α A (one_at_most (ren σ P)) (ap (λ (l : List Candidate). get_or l i blocked) (sym c) ∙ e));
  }
    where
      acts : (q : Question) (free : ℕ) (σ : ℕ → ℕ) (P : Term) (rest : List ℕ) → free ≤ name_count → InScope free q.arities D P → drop at s ≡ encode D P ++ rest
          → r.kind ≡ tag P - 1 → (M : Cond) (α : Act) (A : Term) → get_or (prefix_step (ren σ P)) 0 blocked ≡ step M α A → Acts free D σ α r.kind r.object
      acts q free σ nil rest few scope st ek M α A g = never M α A g
      acts q free σ (tau P) rest few scope st ek M α A g = let x : tau_a ≡ α = cc in subst (λ (γ : Act). Acts free D σ γ r.kind r.object) x (omega arith)
      acts q free σ (inp a P) rest few scope st ek M α A g = let x : inp_a (σ a) ≡ α = cc in subst (λ (γ : Act). Acts free D σ γ r.kind r.object) x (omega arith)
      acts q free σ (out a b P) rest few scope st ek M α A g =
          let x : out_a (σ a) (σ b) ≡ α = cc in
          let y : get_or s (at + 2) 0 ≡ name_byte D b = get_d_front s at (encode D (out a b P)) rest 2 st (omega arith) in
          let w = scope.1 in
          subst (λ (γ : Act). Acts free D σ γ r.kind r.object) x (
            omega arith,
            record {
              name = b;
              within = w;
              slot = R.object (tag_at s at D (out a b P) rest st) ∙ ap (turn 128 table_names D) y ∙ slot_of_byte D b (omega arith);
              is = refl;
            },
          )
      acts q free σ (bout a P) rest few scope st ek M α A g = let x : bout_a (σ a) ≡ α = cc in subst (λ (γ : Act). Acts free D σ γ r.kind r.object) x (omega arith)
      acts q free σ (mat a b P) rest few scope st ek M α A g = never M α A g
      acts q free σ (sum P Q) rest few scope st ek M α A g = never M α A g
      acts q free σ (par P Q) rest few scope st ek M α A g = never M α A g
      acts q free σ (res P) rest few scope st ek M α A g = never M α A g
      acts q free σ (call k xs) rest few scope st ek M α A g = never M α A g

-- [Match]: the continuation stands behind three bytes.
pub pass_mat : (question s : List ℕ) (at D calls : ℕ) (t : Bool) (i : ℕ) (r : Passed) → get_or s at 0 ≡ 5
    → PassIs question s (at + 3) D calls t i r → PassIs question s at D calls t i r
unfolding encode InScope
pass_mat question s at D calls t i r g R = record {
  slot = R.slot;
  does = λ q free σ own P rest ok few scope st M α A e. only_mat
      (λ (P : Term). InScope free q.arities D P → drop at s ≡ encode D P ++ rest
      → get_or (candidates t (body_of q.bodies) calls (ren σ P)) i blocked ≡ step M α A → Acts free D σ α r.kind r.object)
      (λ a b Q scope st e.
      let body = body_of q.bodies in
      let c = candidates-mat body t calls (σ a) (σ b) (ren σ Q) in
      let p = matching_of (σ a) (σ b) (get_or (candidates t body calls (ren σ Q)) i blocked) M α A
      (sym (nth_matching (σ a) (σ b) (candidates t body calls (ren σ Q)) i) ∙ ap (λ (l : List Candidate). get_or l i blocked) (sym c) ∙ e) in
      R.does q free σ own Q rest ok few scope.2 (sym (drop-drop 3 at s) ∙ ap (drop 3) st) p.condition α A p.is)
      P (sym (tag_at s at D P rest st) ∙ g) scope st e;
}

-- [Res] and [Open]: what the action does outside a restriction.
kept : (D k o : ℕ) → (k ≡ 2 → o ≡ table_names + D → ⊥) → cond (opens_at D k o) 3 k ≡ k
unfolding opens_at
kept D k o n = go (eqb k 2) refl (eqb o (table_names + D)) refl
  where
    go : (x : Bool) → eqb k 2 ≡ x → (y : Bool) → eqb o (table_names + D) ≡ y → cond (opens_at D k o) 3 k ≡ k
    go true x true y = absurd (n (eqb-true k 2 x) (eqb-true o (table_names + D) y))
    go true x false y = rw (x, y)
    go false x y z = rw x

pub does_outside : (free D : ℕ) (σ : ℕ → ℕ) (β : Act) (B : Term) (α : Act) (A : Term) (k o : ℕ) → free ≤ table_names → Restricts β B α A
    → Acts free (1 + D) (lift σ) β k o → Acts free D σ α (cond (opens_at D k o) 3 k) o
unfolding Acts opens_at
does_outside free D σ tau_a B α A k o few (x, y) d = rw x (kept D k o (λ z. absurd (omega arith)) ∙ d)
does_outside free D σ (inp_a (suc a)) B α A k o few (x, y) d = rw x (kept D k o (λ z. absurd (omega arith)) ∙ d)
does_outside free D σ (bout_a (suc a)) B α A k o few (x, y) d = rw x (kept D k o (λ z. absurd (omega arith)) ∙ d)
does_outside free D σ (out_a (suc a) zero) B α A k o few (x, y) d = rw x (go d.1.name d.1.slot d.1.is)
  where
    go : (n : ℕ) → o ≡ slot_of table_names (1 + D) n → 0 ≡ lift σ n → cond (opens_at D k o) 3 k ≡ 3
    go zero e z = rw (eq-eqb k 2 d.0, eq-eqb o (table_names + D) (e ∙ slot_bound table_names (1 + D) 0 (omega arith) ∙ omega arith))
    go (suc n) e z = absurd (omega arith)
does_outside free D σ (out_a (suc a) (suc b)) B α A k o few (x, y) d = rw x (go d.1.name d.1.within d.1.slot d.1.is)
  where
    go : (n : ℕ) → n < 1 + D + free → o ≡ slot_of table_names (1 + D) n → suc b ≡ lift σ n → (cond (opens_at D k o) 3 k ≡ 2) × Sent free D σ b o
    go zero l e z = absurd (omega arith)
    go (suc n) l e z =
        let f : o ≡ slot_of table_names D n = e ∙ slot_inner table_names D n in (
          kept D k o (λ y w. below_level D n (omega arith) (sym f ∙ w)) ∙ d.0,
          record { name = n; within = omega arith; slot = f; is = omega arith },
        )
does_outside free D σ (inp_a zero) B α A k o few r d = absurd r
does_outside free D σ (out_a zero b) B α A k o few r d = absurd r
does_outside free D σ (bout_a zero) B α A k o few r d = absurd r

pub pass_res : (question s : List ℕ) (at D calls : ℕ) (t : Bool) (i : ℕ) (r : Passed) → get_or s at 0 ≡ 8
    → PassIs question s (at + 1) (D + 1) calls t i r → PassIs question s at D calls t i (leaving_at D r)
unfolding encode InScope leaving_at
pass_res question s at D calls t i r g R = record {
  slot = R.slot;
  does = λ q free σ own P rest ok few scope st M α A e. only_res
      (λ (P : Term). InScope free q.arities D P → drop at s ≡ encode D P ++ rest
      → get_or (candidates t (body_of q.bodies) calls (ren σ P)) i blocked ≡ step M α A
      → Acts free D σ α (cond (opens_at D r.kind r.object) 3 r.kind) r.object)
      (λ Q scope st e.
      let d : D + 1 ≡ 1 + D = omega arith in
      let R' : PassIs question s (at + 1) (1 + D) calls t i r = rw d at R in
      let body = body_of q.bodies in
      let c = candidates-res body t calls (ren (lift σ) Q) in
      let p = under_of (get_or (candidates t body calls (ren (lift σ) Q)) i blocked) M α A
      (sym (nth_restricted (candidates t body calls (ren (lift σ) Q)) i) ∙ ap (λ (l : List Candidate). get_or l i blocked) (sym c) ∙ e) in
      does_outside free D σ p.action p.result α A r.kind r.object (omega arith) p.restricts
      (R'.does q free (lift σ) (own-under calls σ own) Q rest ok few scope (sym (drop-drop 1 at s) ∙ ap (drop 1) st) p.premise.condition p.action p.result p.premise.is))
      P (sym (tag_at s at D P rest st) ∙ g) scope st e;
}
