-- The walk over the bytes of a term finds whether its silent candidates have no condition, form by form. Assumes nothing.
use mathlib.Core.Path.{◌≡◌, refl, sym, ap, subst, ◌∙◌}
use mathlib.Core.Bool.{Bool, true, false}
use mathlib.Core.List.{List, [], ◌∷◌, ◌++◌, map, append-nil}
use Prim.Native.Nat.{ℕ, suc, ◌+◌, ◌-◌, ◌<◌, ◌≤◌}
use native.Mathlib.Omega.{arith}
use lib.ListN.{length, get_or, drop, length-append, length-map, get_or-append}
use lib.Seq.{get_or-append-add}
use lib.Dec.{ltb}
use borrow.Author.Tests.{ltb-true, ltb-false}
use Rattle.calculus.specs.Abstraction.{tau_a}
use Rattle.calculus.specs.Term.{Term, res, call, lift, ren}
use Rattle.terms.specs.Encoding.{encode, InScope}
use Rattle.terms.specs.Question.{Question}
use Rattle.steps_tallies.specs.Bodies.{BodyIs, OpeningIs, Unopened}
use Rattle.terms.specs.Question.{body_of}
use Rattle.steps_tallies.specs.Candidates.{candidates}
use Rattle.steps_passing.specs.Passing.{MiddleIs}
use Rattle.steps.specs.Raw.{Candidate, step, blocked, restricted_alone, restricted_action, restricted, silent, silent_of, silent_calls}
use Rattle.steps_tallies.specs.Tally.{silent_at, TallyIs}
use Rattle.steps_tallies.specs.declared.bodies.Opening.{Opening}
use Rattle.steps_passing.proofs.CalledPasses.{at_closed, params, at_call}
use Rattle.steps_tallies.proofs.CallLaws.{body_scope, opened-candidates}
use Rattle.steps_tallies.proofs.CandidateForms.{tag_at, only_sum, only_res, only_prefix}
use Rattle.steps_tallies.proofs.OwnNames.{own-under, own_body}
use Rattle.steps_tallies.proofs.FrontLaws.{stands, behind}
use Rattle.steps_tallies.proofs.Numbering.{nth_restricted}
use Rattle.steps_passing.proofs.TwoSides.{at_left}
use Rattle.steps_passing.proofs.TwoSides as two
use Rattle.steps_rows.specs.Rows.{Unconditional, UnconditionalIs}

-- Candidates that are steps without a condition: none, one, those of two terms, and those beneath a restriction.
no_condition : (cs : List Candidate) → length cs ≡ 0 → Unconditional cs
unfolding Unconditional
no_condition cs z j h = absurd (omega arith)

one_unconditional : (A : Term) → Unconditional (step [] tau_a A ∷ [])
unfolding Unconditional
one_unconditional A j h = let z : j ≡ 0 = omega arith in (A, ap (λ (k : ℕ). get_or (step [] tau_a A ∷ []) k blocked) z)

both-unconditional : (ps qs : List Candidate) → Unconditional ps → Unconditional qs → Unconditional (ps ++ qs)
unfolding Unconditional
both-unconditional ps qs f g j h = go (ltb j (length ps)) refl
  where
    go : (t : Bool) → ltb j (length ps) ≡ t → (A : Term) × (get_or (ps ++ qs) j blocked ≡ step [] tau_a A)
    go true t =
        let l = ltb-true j (length ps) t in
        let (A, e) = f j l in
        (A, get_or-append ps qs blocked j l ∙ e)
    go false t =
        let l = ltb-false j (length ps) t in
        let k : length ps + (j - length ps) ≡ j = omega arith in
        let (A, e) = g (j - length ps) (omega (arith, length-append ps qs)) in
        (A, ap (λ (k : ℕ). get_or (ps ++ qs) k blocked) (sym k) ∙ get_or-append-add ps qs (j - length ps) blocked ∙ e)

restricted-unconditional : (cs : List Candidate) → Unconditional cs → Unconditional (map restricted cs)
unfolding Unconditional restricted restricted_action restricted_alone
restricted-unconditional cs f j h =
    let (A, e) = f j (omega (arith, length-map cs restricted)) in
    (res A, nth_restricted cs j ∙ ap restricted e)

module _ (question s : List ℕ) (at calls : ℕ) where
  abbrev Shows : Question → (ℕ → ℕ) → Term → Type 0
  Shows q σ P = Unconditional (silent (body_of q.bodies) calls (ren σ P))

  abbrev Stands : Question → ℕ → ℕ → (ℕ → ℕ) → List ℕ → Term → Type 0
  Stands q free D σ rest P = InScope free q.arities D P → drop at s ≡ encode D P ++ rest → Shows q σ P

  -- nothing is said
  pub unconditional_not : (r : Bool) → r ≡ false → UnconditionalIs question s at calls r
  unconditional_not r f = record { is = λ q free D σ own P rest t. let z : ◌≡◌ {A = ℕ} 0 1 = cc in absurd (omega arith) }

  module _ (r : Bool) where
    -- no term stands past the end
    pub unconditional-none : length s ≤ at → UnconditionalIs question s at calls r
    unconditional-none h = record { is = λ q free D σ own P rest t ok scope st. let z = stands s at D P rest st in absurd (omega arith) }

    -- the term has no silent candidate
    pub unconditional_idle : (numbers : List ℕ) → TallyIs question s calls numbers → silent_at numbers at ≡ 0 → UnconditionalIs question s at calls r
    unconditional_idle numbers T z = record {
      is = λ q free D σ own P rest t ok scope st. no_condition (silent (body_of q.bodies) calls (ren σ P)) (sym (T.is q at free D σ own P rest ok scope st).1 ∙ z);
    }

    pub unconditional-prefix : get_or s at 0 < 5 → UnconditionalIs question s at calls r
    unfolding silent silent_of
    unconditional-prefix g = record {
      is = λ q free D σ own P rest t ok scope st.
          let k = tag_at s at D P rest st in
          only_prefix (Shows q σ) (no_condition [] refl) (λ P. one_unconditional (ren σ P)) (λ a P. no_condition [] refl) (λ a b P. no_condition [] refl) (λ a P. no_condition [] refl)
          P (omega arith);
    }

    -- [Res]
    pub unconditional-res : get_or s at 0 ≡ 8 → UnconditionalIs question s (at + 1) calls r → UnconditionalIs question s at calls r
    unfolding silent silent_of InScope encode
    unconditional-res g X = record {
      is = λ q free D σ own P rest t ok scope st. only_res (Stands q free D σ rest)
          (λ P scope st. restricted-unconditional (silent (body_of q.bodies) calls (ren (lift σ) P))
          (X.is q free (1 + D) (lift σ) (own-under calls σ own) P rest t ok scope (behind s at 1 (8 ∷ []) (encode (1 + D) P ++ rest) st refl)))
          P (sym (tag_at s at D P rest st) ∙ g) scope st;
    }

    -- [Sum]
    pub unconditional-sum : get_or s at 0 ≡ 6 → (numbers : List ℕ) → TallyIs question s calls numbers → (middle : ℕ) → MiddleIs s numbers at middle
        → (r₁ : Bool) → r₁ ≡ true → UnconditionalIs question s (at + 1) calls r₁ → UnconditionalIs question s middle calls r → UnconditionalIs question s at calls r
    unfolding silent silent_of InScope encode
    unconditional-sum g numbers T middle N r₁ t₁ X Y = record {
      is = λ q free D σ own P rest t ok scope st. only_sum (Stands q free D σ rest)
          (λ P Q scope st.
          let u = at_left D s at P Q rest 6 st in
          both-unconditional (silent (body_of q.bodies) calls (ren σ P)) (silent (body_of q.bodies) calls (ren σ Q))
          (X.is q free D σ own P (encode D Q ++ rest) t₁ ok scope.0 u)
          (Y.is q free D σ own Q rest t ok scope.1 (two.behind question s calls numbers T at middle N q free D σ own P Q rest ok scope.0 scope.1 u)))
          P (sym (tag_at s at D P rest st) ∙ g) scope st;
    }

    -- no call is left to open, or the question is not accepted
    pub unconditional_closed : 8 < get_or s at 0 → Unopened question s at calls → UnconditionalIs question s at calls r
    unfolding silent silent_of silent_calls
    unconditional_closed g U = record {
      is = λ q free D σ own P rest t ok scope st.
          at_closed question s at D calls true 0 g U (Shows q σ) q free P rest ok scope st
          (λ xs z. subst (λ (c : ℕ). Unconditional (silent (body_of q.bodies) c (call (get_or s (at + 1) 0) (map σ xs)))) (sym z) (no_condition [] refl));
    }

    -- [Con]
    module _ (g : 8 < get_or s at 0) (o : Opening) (O : OpeningIs question s at calls o) where
      pub unconditional-called : 0 < calls → calls ≤ 1 → (bytes : List ℕ) → BodyIs question o.definition bytes → UnconditionalIs question bytes 0 (calls - 1) r → UnconditionalIs question s at calls r
      unfolding candidates
      unconditional-called z once bytes B X = record {
        is = λ q free D σ own P rest t ok scope st.
            let body = body_of q.bodies in
            let k = o.definition in
            let m = o.arity in
            let more : calls ≡ suc (calls - 1) = omega arith in
            at_call question s at D calls true 0 g k m O.called.definition O.called.arity (Shows q σ) q free P rest ok scope st
            (λ xs e a j names st.
            subst Unconditional (sym (opened-candidates question q ok k calls (calls - 1) once more true (map σ xs)))
            (X.is q 0 m (params σ xs) (own_body calls (params σ xs) once) (body k) [] t ok
            (subst (λ (n : ℕ). InScope 0 q.arities n (body k)) (sym a) (body_scope question q ok k))
            (B.is q ok j ∙ ap (λ (n : ℕ). encode n (body k)) (sym a) ∙ sym (append-nil (encode m (body k))))));
      }
