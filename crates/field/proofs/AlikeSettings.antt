-- A setting with other bodies, under which the parts of good situations have the same lists: they have the same successors, and a good start has the
-- same field. Assumes nothing.
use mathlib.Core.List.{List, [], ◌∷◌, ◌++◌}
use mathlib.Core.Path.{◌≡◌, refl, sym, ◌∙◌, ap, ap₂}
use Prim.Native.Nat.{ℕ, zero, suc}
use Rattle.calculus.specs.Term.{Term}
use Rattle.steps.specs.Listing.{Listing, unsettled, listed}
use Rattle.calculus.specs.Lists.{All}
use Rattle.calculus.proofs.Membership.{all-++}
use Rattle.field.specs.Setting.{Setting, steps_in}
use Rattle.field.specs.Situation.{Situation, new_name}
use Rattle.field.specs.Successors.{Outcome, past_limit, leads, led_to, with_steps, successors}
use Rattle.field.specs.Exploration.{explore, with_row, field_of}
use Rattle.field.proofs.Reached.{LeadsTo}
use Rattle.field.proofs.Run.{fresh_in, explore-past, explore-leads, all-fresh}

abbrev pub with_bodies : Setting → (ℕ → Term) → Setting
with_bodies S body = record { names = S.names; longest = S.longest; most = S.most; calls = S.calls; body = body; form = S.form; differ = S.differ }

module _ (S : Setting) (body : ℕ → Term) where
  abbrev T : Setting
  T = with_bodies S body

  -- both parts have the lists that they had
  pub record SameLists (s : Situation) : Type 0 where
    pub first : steps_in S (new_name S.names s.first s.second) s.first ≡ steps_in T (new_name S.names s.first s.second) s.first
    pub second : steps_in S (new_name S.names s.first s.second) s.second ≡ steps_in T (new_name S.names s.first s.second) s.second

  steps_alike : (s : Situation) (l k : Listing) → with_steps S s l k ≡ with_steps T s l k
  unfolding with_steps led_to
  steps_alike s (listed ps) (listed qs) = refl
  steps_alike s (listed ps) unsettled = refl
  steps_alike s unsettled k = refl

  pub successors-alike : (s : Situation) → SameLists s → successors S s ≡ successors T s
  unfolding successors
  successors-alike s e = ap₂ (with_steps S s) e.first e.second ∙ steps_alike s _ _

  module _ (Good : Situation → Type 0) (kept : (s t : Situation) → Good s → LeadsTo S s t → Good t) (alike : (s : Situation) → Good s → SameLists s) where
    explore-alike : (n : ℕ) (known waiting : List Situation) → All Good waiting → explore S n known waiting ≡ explore T n known waiting
    unfolding explore
    explore-alike zero known [] w = refl
    explore-alike zero known (s ∷ waiting) w = refl
    explore-alike (suc n) known [] w = refl
    explore-alike (suc n) known (s ∷ waiting) w = go (successors S s) refl (λ ms. explore-alike n (known ++ fresh_in known ms) (waiting ++ fresh_in known ms))
      where
        there : successors T s ≡ successors S s
        there = sym (successors-alike s (alike s w.0))

        go : (o : Outcome) → successors S s ≡ o
            → ((ms : List (List Situation)) → All Good (waiting ++ fresh_in known ms)
            → explore S n (known ++ fresh_in known ms) (waiting ++ fresh_in known ms) ≡ explore T n (known ++ fresh_in known ms) (waiting ++ fresh_in known ms))
            → explore S (suc n) known (s ∷ waiting) ≡ explore T (suc n) known (s ∷ waiting)
        go past_limit e r = explore-past S n known s waiting e ∙ sym (explore-past T n known s waiting (there ∙ e))
        go (leads ms) e r =
            explore-leads S n known s waiting ms e
            ∙ ap (with_row (record { self = s; wants = ms })) (r ms (all-++ Good waiting (fresh_in known ms) w.1 (all-fresh S Good kept known s ms w.0 e)))
            ∙ sym (explore-leads T n known s waiting ms (there ∙ e))

    pub field_alike : (capacity : ℕ) (start : Situation) → Good start → field_of S capacity start ≡ field_of T capacity start
    unfolding field_of
    field_alike capacity start g = explore-alike capacity (start ∷ []) (start ∷ []) (g, tt)
