-- A silent candidate has the silent action. Assumes nothing.
use mathlib.Core.Bool.{Bool, true, false, cond}
use mathlib.Core.List.{List, [], ◌∷◌, ◌++◌, map}
use mathlib.Core.Path.{◌≡◌, refl, sym, subst}
use Prim.Native.Nat.{ℕ, zero, suc, ◌≤◌}
use native.Mathlib.Omega.{arith}
use lib.ListN.{get_or}
use Rattle.calculus.specs.Abstraction.{Act, tau_a}
use Rattle.calculus.specs.Cond.{Cond, map_p}
use Rattle.calculus.specs.Definitions.{opened}
use Rattle.calculus.specs.Term.{Term, nil, tau, inp, out, bout, mat, sum, par, res, call, ren}
use Rattle.terms.specs.Question.{body_of}
use Rattle.calculus.specs.Lists.{All}
use Rattle.steps_tallies.specs.Candidates.{candidates}
use Rattle.steps_passing.specs.Passing.{Acts, PassIs, nothing_sent}
use Rattle.steps.specs.Raw.{Candidate, step, blocked, matching, left_steps, right_steps, communication, communications, restricted_alone, outside, restricted_action, restricted, visible_of, silent_of, visible_calls, silent_calls, silent}
use Rattle.steps.proofs.CallCandidates.{silent-each}
use Rattle.calculus.proofs.Membership.{all-++, all_map}
use Rattle.steps_tallies.proofs.Premises.{meeting_of_lem}

abbrev Silent : Candidate → Type 0
Silent (step M α A) = α ≡ tau_a
Silent blocked = Unit

silent-matching : (a b : ℕ) (c : Candidate) → Silent c → Silent (matching a b c)
unfolding matching
silent-matching a b (step M α A) q = q
silent-matching a b blocked q = tt

silent-left : (Q : Term) (c : Candidate) → Silent c → Silent (left_steps Q c)
unfolding left_steps
silent-left Q (step M α A) q = q
silent-left Q blocked q = tt

silent_right : (P : Term) (c : Candidate) → Silent c → Silent (right_steps P c)
unfolding right_steps
silent_right P (step M α A) q = q
silent_right P blocked q = tt

silent-restricted : (c : Candidate) → Silent c → Silent (restricted c)
unfolding restricted restricted_action
silent-restricted (step M α A) q = subst (λ (α : Act). Silent (cond (restricted_alone M) (restricted_action (map_p outside M) α A) blocked)) (sym q) (go (restricted_alone M))
  where
    go : (b : Bool) → Silent (cond b (step (map_p outside M) tau_a (res A)) blocked)
    go true = refl
    go false = tt
silent-restricted blocked q = tt

silent-communication : (s t : Candidate) → Silent (communication s t)
silent-communication s t = go (communication s t) refl
  where
    go : (c : Candidate) → communication s t ≡ c → Silent c
    go (step M α A) e = (meeting_of_lem s t M α A e).silent
    go blocked e = tt

silent-communications : (ss ts : List Candidate) → All Silent (communications ss ts)
unfolding communications
silent-communications [] ts = tt
silent-communications (s ∷ ss) ts = all-++ Silent (map (communication s) ts) (communications ss ts) (each ts) (silent-communications ss ts)
  where
    each : (ts : List Candidate) → All Silent (map (communication s) ts)
    each [] = tt
    each (t ∷ ts) = (silent-communication s t, each ts)

module _ (vs ss : ℕ → List ℕ → List Candidate) (s : (k : ℕ) (xs : List ℕ) → All Silent (ss k xs)) where
  silents : (P : Term) → All Silent (silent_of vs ss P)
  unfolding silent_of
  silents nil = tt
  silents (tau P) = (refl, tt)
  silents (inp a P) = tt
  silents (out a b P) = tt
  silents (bout a P) = tt
  silents (mat a b P) = all_map (matching a b) Silent Silent (silent_of vs ss P) (silent-matching a b) (silents P)
  silents (sum P Q) = all-++ Silent (silent_of vs ss P) (silent_of vs ss Q) (silents P) (silents Q)
  silents (par P Q) =
      all-++ Silent (map (left_steps Q) (silent_of vs ss P)) (map (right_steps P) (silent_of vs ss Q) ++ communications (visible_of vs P) (visible_of vs Q))
      (all_map (left_steps Q) Silent Silent (silent_of vs ss P) (silent-left Q) (silents P))
      (all-++ Silent (map (right_steps P) (silent_of vs ss Q)) (communications (visible_of vs P) (visible_of vs Q))
      (all_map (right_steps P) Silent Silent (silent_of vs ss Q) (silent_right P) (silents Q))
      (silent-communications (visible_of vs P) (visible_of vs Q)))
  silents (res P) = all_map restricted Silent Silent (silent_of vs ss P) silent-restricted (silents P)
  silents (call k xs) = s k xs

silent_calls_lem : (body : ℕ → Term) (n k : ℕ) (xs : List ℕ) → n ≤ 1 → All Silent (silent_calls body n k xs)
unfolding silent silent_calls
silent_calls_lem body = silent-each body Silent silent-matching (λ k xs. silents (visible_calls body 0) (silent_calls body 0) (λ k xs. tt) (opened xs (body k)))

nth_silent : (cs : List Candidate) → All Silent cs → (i : ℕ) → Silent (get_or cs i blocked)
nth_silent [] a i = tt
nth_silent (c ∷ cs) a zero = a.0
nth_silent (c ∷ cs) a (suc i) = nth_silent cs a.1 i

nothing : (free D : ℕ) (σ : ℕ → ℕ) (α : Act) → α ≡ tau_a → Acts free D σ α 0 0
unfolding Acts
nothing free D σ α z = subst (λ (α : Act). Acts free D σ α 0 0) (sym z) refl

pub silent_action : (body : ℕ → Term) (calls : ℕ) → calls ≤ 1 → (P : Term) (i : ℕ) (M : Cond) (α : Act) (A : Term) → get_or (silent body calls P) i blocked ≡ step M α A → α ≡ tau_a
unfolding silent
silent_action body calls once P i M α A e =
    let z : Silent (step M α A) = subst Silent e
    (nth_silent (silent_of (visible_calls body calls) (silent_calls body calls) P) (silents (visible_calls body calls) (silent_calls body calls) (λ k xs. silent_calls_lem body calls k xs once) P) i) in
    z

-- So it sends no name.
pub pass_silent : (question s : List ℕ) (at D calls i : ℕ) → calls ≤ 1 → PassIs question s at D calls true i nothing_sent
unfolding candidates
pass_silent question s at D calls i once = record {
  slot = omega arith;
  does = λ q free σ own P rest ok few scope st M α A e. nothing free D σ α (silent_action (body_of q.bodies) calls once (ren σ P) i M α A e);
}
