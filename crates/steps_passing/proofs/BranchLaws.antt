-- The branch of a choice that has a candidate: from each choice to the side that has it. Assumes nothing.
use mathlib.Core.Path.{◌≡◌, refl, sym, ap, ◌∙◌}
use mathlib.Core.Bool.{Bool}
use mathlib.Core.List.{List, ◌++◌}
use Prim.Native.Nat.{ℕ, ◌+◌, ◌-◌, ◌<◌, ◌≤◌}
use native.Mathlib.Omega.{arith}
use lib.ListN.{length, get_or, drop}
use lib.Seq.{get_or-append-add}
use Rattle.calculus.specs.Term.{Term, sum, ren}
use Rattle.terms.specs.Encoding.{encode, InScope}
use Rattle.steps_passing.specs.Branching.{HasAt, Reaches}
use Rattle.terms.specs.Question.{body_of}
use Rattle.steps_tallies.specs.Candidates.{candidates}
use Rattle.steps_passing.specs.Passing.{MiddleIs}
use Rattle.steps.specs.Raw.{Candidate, blocked}
use Rattle.steps_tallies.specs.Tallying.{number_at}
use Rattle.steps_tallies.proofs.CandidateForms.{candidates-sum, tag_at, only_sum}
use Rattle.steps_passing.proofs.TwoSides.{sides_sum, at_left, number_is, behind}

module _ (s t : List ℕ) (at : ℕ) (silently : Bool) (number : ℕ) where
  pub reach_start : Reaches s t at silently number at number
  unfolding Reaches
  reach_start question calls T q free D σ own P rest ok scope st = record { term = P; rest = rest; scope = scope; stands = st; candidate = refl }

  module _ (b n : ℕ) (g : get_or s b 0 ≡ 6) (R : Reaches s t at silently number b n) where
    pub reach_left : n < number_at t (b + 1) silently → Reaches s t at silently number (b + 1) n
    unfolding Reaches encode InScope
    reach_left h question calls T q free D σ own P rest ok scope st =
        let cs : Term → List Candidate = λ C. candidates silently (body_of q.bodies) calls (ren σ C) in
        let c = get_or (cs P) number blocked in
        let A = R question calls T q free D σ own P rest ok scope st in
        only_sum (λ C. InScope free q.arities D C → drop b s ≡ encode D C ++ A.rest → get_or (cs C) n blocked ≡ c → HasAt q s silently calls free D σ c (b + 1) n)
        (λ L M scope st e.
        let S = sides_sum (body_of q.bodies) silently calls (ren σ L) (ren σ M) in
        let st₁ = at_left D s b L M A.rest 6 st in
        let k = number_is question s calls t T silently q (b + 1) free D σ own L (encode D M ++ A.rest) ok scope.0 st₁ in
        record {
          term = L;
          rest = encode D M ++ A.rest;
          scope = scope.0;
          stands = st₁;
          candidate = sym (S.first n (omega arith)) ∙ e;
        })
        A.term (sym (tag_at s b D A.term A.rest A.stands) ∙ g) A.scope A.stands A.candidate

    pub reach_right : number_at t (b + 1) silently ≤ n → (m : ℕ) → MiddleIs s t b m → (j : ℕ) → j ≡ n - number_at t (b + 1) silently → Reaches s t at silently number m j
    unfolding Reaches encode InScope
    reach_right h m N j J question calls T q free D σ own P rest ok scope st =
        let body = body_of q.bodies in
        let cs : Term → List Candidate = λ C. candidates silently body calls (ren σ C) in
        let c = get_or (cs P) number blocked in
        let A = R question calls T q free D σ own P rest ok scope st in
        only_sum (λ C. InScope free q.arities D C → drop b s ≡ encode D C ++ A.rest → get_or (cs C) n blocked ≡ c → HasAt q s silently calls free D σ c m j)
        (λ L M scope st e.
        let st₁ = at_left D s b L M A.rest 6 st in
        let k = number_is question s calls t T silently q (b + 1) free D σ own L (encode D M ++ A.rest) ok scope.0 st₁ in
        let i : length (cs L) + j ≡ n = omega arith in
        record {
          term = M;
          rest = A.rest;
          scope = scope.1;
          stands = behind question s calls t T b m N q free D σ own L M A.rest ok scope.0 scope.1 st₁;
          candidate =
              sym (get_or-append-add (cs L) (cs M) j blocked)
              ∙ ap (λ (l : List Candidate). get_or l (length (cs L) + j) blocked) (sym (candidates-sum body silently calls (ren σ L) (ren σ M)))
              ∙ ap (λ (i : ℕ). get_or (cs (sum L M)) i blocked) i ∙ e;
        })
        A.term (sym (tag_at s b D A.term A.rest A.stands) ∙ g) A.scope A.stands A.candidate
