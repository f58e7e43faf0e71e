-- Candidates that add no step to those put in before leave the list as it is. Assumes nothing.
use mathlib.Core.List.{List, [], ◌∷◌}
use mathlib.Core.Logic.{◌⊎◌, inl, inr}
use mathlib.Core.Path.{◌≡◌, refl, sym, ◌∙◌, ap, subst}
use Prim.Native.Nat.{ℕ}
use Rattle.steps.specs.Forms.{result_form}
use Rattle.steps.specs.Raw.{Candidate, step, blocked}
use Rattle.calculus.specs.Lists.{◌∈◌}
use Rattle.steps_tallies.proofs.Premises.{never}
use Rattle.steps_placing.specs.Deciding.{decided, Again}
use Rattle.steps.specs.Listed.{ListedStep, canon_step}
use Rattle.steps.specs.Listing.{collect}
use Rattle.steps_placing.proofs.DecidingLaws.{like_of, like_listed, outside-blocked}
use Rattle.steps.proofs.Sorted.{Sorted, HasBytes, OfCandidate, insert_there, collect_sorted, collect-new}

module _ (names longest x : ℕ) where
  -- Candidates that were put in before change nothing.
  there : (ds : List Candidate) (found : List ListedStep) → Sorted longest found
      → ((c : Candidate) → c ∈ ds → OfCandidate result_form names longest x (λ s. HasBytes longest s found) c) → collect result_form names longest x ds found ≡ found
  unfolding collect
  there [] found a h = refl
  there (step M α P ∷ ds) found a h =
      ap (collect result_form names longest x ds) (insert_there longest (canon_step result_form names x M α P) found a (h (step M α P) (inl refl)))
      ∙ there ds found a (λ c m. h c (inr m))
  there (blocked ∷ ds) found a h = there ds found a (λ c m. h c (inr m))

  pub collect_there : (cs ds : List Candidate) (found : List ListedStep) → Sorted longest found → ((c : Candidate) → c ∈ ds → Again 0 c cs)
      → collect result_form names longest x ds (collect result_form names longest x cs found) ≡ collect result_form names longest x cs found
  unfolding Again
  collect_there cs ds found a h = there ds (collect result_form names longest x cs found) (collect_sorted result_form names longest x cs found a) (λ c m. go c (h c m))
    where
      go : (c : Candidate) → (decided 0 c ≡ blocked) ⊎ ((b : Candidate) × (b ∈ cs) × (decided 0 c ≡ decided 0 b)) → OfCandidate result_form names longest x (λ s. HasBytes longest s (collect result_form names longest x cs found)) c
      go (step M α P) (inl e) = never M α P (sym (outside-blocked (step M α P) e))
      go (step M α P) (inr (b, m, e)) =
          let l = like_of b M α P (sym e) in
          subst (λ s. HasBytes longest s (collect result_form names longest x cs found)) (like_listed names x l.condition M l.same α P)
          (collect-new result_form names longest x cs found l.condition α P (subst (λ c. c ∈ cs) l.is m))
      go blocked h = tt
