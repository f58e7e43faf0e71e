-- Every candidate that is not blocked is a transition of the working presentation. Assumes nothing.
use mathlib.Core.List.{List}
use mathlib.Core.Path.{sym, subst}
use Prim.Native.Nat.{ℕ, suc}
use Rattle.calculus.specs.Term.{Term, call}
use Rattle.calculus.specs.Definitions.{Defs, opened}
use Rattle.calculus.proofs.Working.{Trans, t_tau, t_inp, t_out, t_bout, t_mat, t_sum_l, t_sum_r, t_par_l, t_par_r, t_com_l, t_com_r, t_close_l, t_close_r, t_res, t_open, t_call}
use Rattle.steps.specs.Raw.{Candidate, step, blocked, visible_of, silent_of, visible_calls, silent_calls, visible, silent}
use Rattle.calculus.specs.Lists.{All}
use Rattle.calculus.proofs.Membership.{all_imp}
use Rattle.steps.proofs.CallCandidates.{each-guarded, visible-alone, silent-alone}
use Rattle.steps.proofs.Calls.{CallOpens, Opens, opens_ren}
use Rattle.steps.proofs.SoundOver.{Rules, SoundBy, visible_of_sound, silent_of_sound}

module _ (Δ : Defs) where
  abbrev pub Sound : Term → Candidate → Type 0
  Sound = SoundBy (Trans Δ)

  rules : Rules (Trans Δ)
  rules = record {
    pre_tau = t_tau;
    pre_inp = t_inp;
    pre_out = t_out;
    pre_bout = t_bout;
    match = t_mat;
    sum_l = t_sum_l;
    sum_r = t_sum_r;
    par_l = t_par_l;
    par_r = t_par_r;
    com_l = t_com_l;
    com_r = t_com_r;
    close_l = t_close_l;
    close_r = t_close_r;
    restrict = λ α t s. t_res {α = α} t s;
    extrude = t_open;
  }

  sound_call : (n k : ℕ) (xs : List ℕ) (c : Candidate) → CallOpens Δ (suc n) k xs → Sound (opened xs (Δ.body k)) c → Sound (call k xs) c
  sound_call n k xs (step M α P') h t = t_call h.0 t
  sound_call n k xs blocked h t = tt

  pub body_opens : (n k : ℕ) (xs : List ℕ) → CallOpens Δ (suc n) k xs → Opens Δ 0 (opened xs (Δ.body k))
  body_opens n k xs c = opens_ren Δ 0 (Δ.body k) _ c.1

  visible_call_sound : (n k : ℕ) (xs : List ℕ) → CallOpens Δ n k xs → All (Sound (call k xs)) (visible_calls Δ.body n k xs)
  unfolding visible
  visible_call_sound Prim.Native.Nat.zero k xs c = elim c [ ]
  visible_call_sound (suc n) k xs c =
      subst (All (Sound (call k xs))) (sym (visible-alone Δ.body n k xs (each-guarded (Δ.body k) c.1)))
      (all_imp (Sound (opened xs (Δ.body k))) (Sound (call k xs)) (visible_of (visible_calls Δ.body 0) (opened xs (Δ.body k)))
      (λ d t. sound_call n k xs d c t)
      (visible_of_sound (Trans Δ) rules (CallOpens Δ 0) (visible_calls Δ.body 0) (λ l ys o. absurd o) (opened xs (Δ.body k)) (body_opens n k xs c)))

  silent_call_sound : (n k : ℕ) (xs : List ℕ) → CallOpens Δ n k xs → All (Sound (call k xs)) (silent_calls Δ.body n k xs)
  unfolding silent
  silent_call_sound Prim.Native.Nat.zero k xs c = elim c [ ]
  silent_call_sound (suc n) k xs c =
      subst (All (Sound (call k xs))) (sym (silent-alone Δ.body n k xs (each-guarded (Δ.body k) c.1)))
      (all_imp (Sound (opened xs (Δ.body k))) (Sound (call k xs))
      (silent_of (visible_calls Δ.body 0) (silent_calls Δ.body 0) (opened xs (Δ.body k)))
      (λ d t. sound_call n k xs d c t)
      (silent_of_sound (Trans Δ) rules (CallOpens Δ 0) (visible_calls Δ.body 0) (λ l ys o. absurd o) (silent_calls Δ.body 0) (λ l ys o. absurd o)
      (opened xs (Δ.body k)) (body_opens n k xs c)))

  pub visible_sound : (n : ℕ) (P : Term) → Opens Δ n P → All (Sound P) (visible Δ.body n P)
  unfolding visible
  visible_sound n P c = visible_of_sound (Trans Δ) rules (CallOpens Δ n) (visible_calls Δ.body n) (visible_call_sound n) P c

  pub silent_sound : (n : ℕ) (P : Term) → Opens Δ n P → All (Sound P) (silent Δ.body n P)
  unfolding silent
  silent_sound n P c =
      silent_of_sound (Trans Δ) rules (CallOpens Δ n) (visible_calls Δ.body n) (visible_call_sound n) (silent_calls Δ.body n) (silent_call_sound n) P c
