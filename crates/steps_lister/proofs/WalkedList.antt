-- The candidates of the walk, put into the list, are the steps of the part. Assumes nothing.
use mathlib.Core.Bool.{cond}
use mathlib.Core.List.{List, [], ◌∷◌, ◌++◌, map}
use mathlib.Core.Logic.{◌⊎◌, inl, inr}
use mathlib.Core.Path.{◌≡◌, refl, sym, ◌∙◌, ap, ap₂, subst}
use native.Mathlib.Omega.{arith}
use Prim.Native.Nat.{ℕ, ◌*◌, ◌<◌, ◌≤◌}
use lib.ListN.{length, take, length-map}
use Rattle.calculus.specs.Term.{Term}
use Rattle.terms.specs.Limits.{name_count, longest_term}
use Rattle.terms.specs.Question.{Question}
use Rattle.terms.specs.Question.{body_of}
use Rattle.terms.proofs.WellFormed.{accepted_well_formed}
use Rattle.steps.specs.Forms.{result_form}
use Rattle.calculus.specs.Lists.{◌∈◌, All}
use Rattle.steps.specs.Raw.{Candidate, step, blocked, visible, silent}
use Rattle.calculus.proofs.Membership.{∈-map, ∈-mapped, ∈-all, all-∈}
use Rattle.steps_entries.specs.Arranging.{ArrangeIs}
use Rattle.steps_splicing.specs.Collecting.{Stands, Found, CollectIs}
use Rattle.steps.specs.Limits.{most_steps, step_bytes}
use Rattle.steps.specs.Listed.{ListedStep, bytes}
use Rattle.steps.specs.Listing.{Listing, collect, unsettled, listed, limited, listing, steps_of}
use Rattle.steps.specs.Operations.{list_bytes}
use Rattle.steps_splicing.specs.ListedParts.{Lists}
use Rattle.steps_lister.specs.PartLister.{AnswersListing, ListTidiedIs}
use Rattle.steps_walk.specs.Walking.{walked}
use Rattle.std.specs.Prelude.{Some, None}
use Rattle.steps_walk.proofs.Below.{canon_classes}
use Rattle.steps.proofs.CallLimitLaws.{never_past_calls}
use Rattle.steps.proofs.Limited.{Long, limited-given, limited-passed, limited_within, limited-many, limited_long}
use Rattle.steps.proofs.ListedBytes.{step-length}
use Rattle.steps.proofs.Sorted.{OfCandidate, collect-all}
use Rattle.steps_lister.proofs.WalkOrder.{walked-raw, raw-walked, same-found}
use Rattle.steps_walk.proofs.WalksPart.{WalksPart}

-- Each step found has a class for each name.
module _ (names longest x : ℕ) where
  abbrev Classed : ListedStep → Type 0
  Classed s = length s.classes ≡ names

  found_classed : (cs : List Candidate) → All Classed (collect result_form names longest x cs [])
  found_classed cs = collect-all result_form names longest x Classed cs [] (∈-all (OfCandidate result_form names longest x Classed) cs go) tt
    where
      go : (c : Candidate) → c ∈ cs → OfCandidate result_form names longest x Classed c
      go (step M α P) m = canon_classes names longest x M α P
      go blocked m = tt

  -- Lists of steps with the same bytes pass a limit or do not, together.
  module _ (most : ℕ) (f g : List ListedStep) (a : All Classed f) (b : All Classed g) (same : map (bytes longest) f ≡ map (bytes longest) g) where
    long_same : Long longest f → Long longest g
    long_same (s, m, l) =
        let n : bytes longest s ∈ map (bytes longest) g = subst (λ bs. bytes longest s ∈ bs) same (∈-map (bytes longest) s f m) in
        let (u, k, e) = ∈-mapped (bytes longest) (bytes longest s) g n in
        let cs = all-∈ Classed f a s m in
        let cu = all-∈ Classed g b u k in
        (u, k, omega (arith, step-length longest s, step-length longest u, ap length e))

    length-same : length f ≡ length g
    length-same = sym (length-map f (bytes longest)) ∙ ap length same ∙ length-map g (bytes longest)

    unsettled-same : limited longest most f ≡ unsettled → limited longest most g ≡ unsettled
    unsettled-same e = go (limited-passed longest most f e)
      where
        go : (most < length f) ⊎ Long longest f → limited longest most g ≡ unsettled
        go (inl h) = limited-many longest most g (omega (arith, length-same))
        go (inr h) = limited_long longest most g (long_same h)

bytes_same : (f g : List ListedStep) → map (bytes longest_term) f ≡ map (bytes longest_term) g → list_bytes f ≡ list_bytes g
unfolding list_bytes
bytes_same [] [] e = refl
bytes_same [] (t ∷ g) e = let z : ◌≡◌ {A = ℕ} 0 1 = cc in absurd (omega arith)
bytes_same (s ∷ f) [] e = let z : ◌≡◌ {A = ℕ} 0 1 = cc in absurd (omega arith)
bytes_same (s ∷ f) (t ∷ g) e =
    let h : bytes longest_term s ≡ bytes longest_term t = cc in
    let k : map (bytes longest_term) f ≡ map (bytes longest_term) g = cc in
    ap₂ ◌++◌ h (bytes_same f g k)

-- Nothing stands in any area.
none_stands : (area : List ℕ) → Stands area 0 []
none_stands area = record {
  sized = tt;
  ascending = tt;
  fit = tt;
  number = refl;
  indexed = record { among = λ i h. absurd (omega arith); entries = λ i h. absurd (omega arith) };
}

not_counted : (n : ℕ) → None ≡ Some n → n ≤ most_steps
not_counted n e = let z : ◌≡◌ {A = ℕ} 0 1 = cc in absurd (omega arith)

module _ (question part : List ℕ) (x : ℕ) (area : List ℕ) (n : ℕ) (area' : List ℕ) (walks : WalksPart question part x area n area') where
  module _ (q : Question) (P : Term) (l : Lists question part x q P) where
    abbrev body : ℕ → Term
    body = body_of q.bodies

    abbrev found : List ListedStep
    found = collect result_form name_count longest_term x (walked body P) []

    abbrev whole : List ListedStep
    whole = collect result_form name_count longest_term x (visible body 1 P ++ silent body 1 P) []

    same : map (bytes longest_term) found ≡ map (bytes longest_term) whole
    same = same-found name_count longest_term x (walked body P) (visible body 1 P ++ silent body 1 P) (walked-raw body P) (raw-walked body P)

    is_found : Found found n area'
    unfolding CollectIs
    is_found = walks q P l [] (none_stands area)

    steps_are : steps_of q.bodies x P ≡ limited longest_term most_steps whole
    unfolding steps_of listing
    steps_are =
        ap (λ past. cond past unsettled (limited longest_term most_steps whole))
        (never_past_calls q.arities q.bodies (accepted_well_formed question q l.accepted).bodies P)

    both : (f g : List ListedStep) → All (Classed name_count longest_term x) f → All (Classed name_count longest_term x) g
        → map (bytes longest_term) f ≡ map (bytes longest_term) g → limited longest_term most_steps f ≡ unsettled → limited longest_term most_steps g ≡ unsettled
    both f g a b e = unsettled-same name_count longest_term x most_steps f g a b e

    classed : (cs : List Candidate) → All (Classed name_count longest_term x) (collect result_form name_count longest_term x cs [])
    classed cs = found_classed name_count longest_term x cs

    answers-passed : most_steps < n → AnswersListing (steps_of q.bodies x P) None area'
    unfolding AnswersListing
    answers-passed h =
        let e = both found whole (classed (walked body P)) (classed (visible body 1 P ++ silent body 1 P)) same (is_found.passed h) in
        subst (λ r. AnswersListing r None area') (sym (steps_are ∙ e)) refl

    answers-given : n ≤ most_steps → (area'' : List ℕ) → ArrangeIs area' n area'' → AnswersListing (steps_of q.bodies x P) (Some n) area''
    unfolding AnswersListing ArrangeIs
    answers-given h area'' arranged = subst (λ r. AnswersListing r (Some n) area'') (sym steps_are) (go (limited longest_term most_steps whole) refl)
      where
        s : Stands area' n found
        s = is_found.stands h

        go : (r : Listing) → limited longest_term most_steps whole ≡ r → AnswersListing r (Some n) area''
        go unsettled e =
            let d = both whole found (classed (visible body 1 P ++ silent body 1 P)) (classed (walked body P)) (sym same) e in
            let w = limited_within longest_term most_steps found (omega (arith, s.number)) s.fit in
            let z : ◌≡◌ {A = ℕ} 0 1 = cc in absurd (omega arith)
        go (listed ss) e =
            let d : whole ≡ ss = limited-given longest_term most_steps whole ss e in
            let k : length found ≡ length whole = length-same name_count longest_term x most_steps found whole (classed (walked body P)) (classed (visible body 1 P ++ silent body 1 P)) same in
            let m : n ≡ length ss = sym s.number ∙ k ∙ ap length d in (
              ap Some m,
              ap (λ i. take (i * step_bytes) area'') (sym m) ∙ arranged found s.ascending s.number s.indexed ∙ bytes_same found whole same ∙ ap list_bytes d,
            )

  pub list_passed : most_steps < n → ListTidiedIs question part x None area'
  list_passed h = record { few = not_counted; is = λ q P l. answers-passed q P l h }

  -- and the entries are brought into order
  pub list_given : n ≤ most_steps → (area'' : List ℕ) → ArrangeIs area' n area'' → ListTidiedIs question part x (Some n) area''
  list_given h area'' arranged = record { few = λ m e. let d : n ≡ m = cc in omega arith; is = λ q P l. answers-given q P l h area'' arranged }
