-- What the exported promise means: the winner's parts are related under its list and under that of no choice before it; none only if they are
-- related under no choice; unsettled exactly if some choice exceeds a limit. Assumes nothing.
use mathlib.Core.Bool.{true, false}
use mathlib.Core.List.{List, ◌++◌}
use mathlib.Core.Logic.{◌⊎◌, inl, inr}
use mathlib.Core.Path.{◌≡◌, refl, sym, ap, subst}
use native.Mathlib.Omega.{arith}
use Prim.Native.Nat.{ℕ, ◌*◌}
use lib.Dec.{leb}
use lib.ListN.{length}
use Rattle.calculus.specs.Cond.{Pairs}
use Rattle.calculus.specs.Definitions.{Defs}
use Rattle.terms.specs.Answer.{Answer, refused, result}
use Rattle.terms.specs.Limits.{name_count, longest_apart}
use Rattle.terms.specs.Question.{Question, question_of}
use Rattle.terms.proofs.Answers.{result_injective, bind-result, need-result}
use Rattle.terms.proofs.OwnEdition.{own_well_formed}
use Rattle.terms.specs.WellFormed.{WellFormed}
use Rattle.verdict.specs.Entries.{Defines}
use Rattle.verdict.specs.Judge.{slot_bytes}
use Rattle.verdict.specs.Outcome.{Says}
use Rattle.verdict.specs.Verdict.{differs, Verdict, unsettled, same, different}
use Rattle.verdict.proofs.CapacityLaws.{passed_within}
use Rattle.verdict.proofs.VerdictIsDefinition13.{same_is_related, different_is_unrelated, unsettled_iff_past_a_limit}
use Rattle.fewest.specs.Apart.{names_given, list_for, apart_of, of_fewest, work_after, area_after, ApartIs}
use Rattle.fewest.specs.Choices.{candidate_pairs, Earlier, enlarged, under_list}
use Rattle.fewest.specs.Fewest.{Fewest, undecided, none, chosen, is_unsettled, is_same, verdict_under, fewest_of}
use Rattle.fewest.specs.Meaning.{RelatedUnder, ExceedsUnder, FewestMeans, means_fewest, means_none, means_unsettled, Told, not_searched, searched}
use Rattle.fewest.proofs.ChoiceLaws.{Ahead, fewest_wins, none_different, unsettled-some}
use Rattle.fewest.proofs.ChoiceOrder.{candidates_rise, ahead_earlier, earlier_ahead, not_both}
use Rattle.fewest.proofs.ListLaws.{listed_well_formed}

is_same_case : (v : Verdict) → is_same v ≡ true → (n : ℕ) × (v ≡ same n)
unfolding is_same
is_same_case unsettled e = let z : ◌≡◌ {A = ℕ} 0 1 = cc in absurd (omega arith)
is_same_case (same n) e = (n, refl)
is_same_case (different n) e = let z : ◌≡◌ {A = ℕ} 0 1 = cc in absurd (omega arith)

module _ (question : List ℕ) (q : Question) (accepted : question_of question ≡ result q) (Δ : Defs) (defines : Defines q Δ) (capacity : ℕ) (names : List ℕ) where
  -- the question under the list of a choice
  abbrev under : Pairs → Question
  under c = under_list q (enlarged name_count q.apart c)

  abbrev candidates : Pairs
  candidates = candidate_pairs name_count names q.apart

  well : (c : Pairs) → WellFormed (under c)
  unfolding enlarged
  well c = listed_well_formed q (own_well_formed question q accepted) (q.apart ++ c)

  defines_under : (c : Pairs) → Defines (under c) Δ
  unfolding under_list
  defines_under c = record { arities = defines.arities; bodies = defines.bodies }

  same_related : (c : Pairs) (n : ℕ) → verdict_under q capacity c ≡ same n → RelatedUnder Δ q capacity names c
  unfolding verdict_under under_list well defines_under
  same_related c n e = same_is_related (under c) (well c) Δ (defines_under c) capacity n e

  different_unrelated : (c : Pairs) (n : ℕ) → verdict_under q capacity c ≡ different n → ¬ RelatedUnder Δ q capacity names c
  unfolding verdict_under under_list well defines_under
  different_unrelated c n e = different_is_unrelated (under c) (well c) Δ (defines_under c) capacity n e

  exceeds_unsettled : (c : Pairs) → ExceedsUnder Δ q capacity names c → verdict_under q capacity c ≡ unsettled
  unfolding verdict_under differs
  exceeds_unsettled c x = (unsettled_iff_past_a_limit (under c) (well c) Δ (defines_under c) capacity).1 x

  unsettled_exceeds : (c : Pairs) → verdict_under q capacity c ≡ unsettled → ExceedsUnder Δ q capacity names c
  unfolding verdict_under differs
  unsettled_exceeds c e = (unsettled_iff_past_a_limit (under c) (well c) Δ (defines_under c) capacity).0 e

  not_unsettled : (c : Pairs) → is_unsettled (verdict_under q capacity c) ≡ false → ¬ ExceedsUnder Δ q capacity names c
  unfolding is_unsettled
  not_unsettled c e x = let f = ap is_unsettled (exceeds_unsettled c x) in let z : ◌≡◌ {A = ℕ} 0 1 = cc in absurd (omega arith)

  -- related and settled is same
  related_same : (c : Pairs) → is_unsettled (verdict_under q capacity c) ≡ false → RelatedUnder Δ q capacity names c → is_same (verdict_under q capacity c) ≡ true
  unfolding is_unsettled is_same
  related_same c u r = go (verdict_under q capacity c) refl u
    where
      go : (v : Verdict) → verdict_under q capacity c ≡ v → is_unsettled v ≡ false → is_same v ≡ true
      go unsettled e u = let z : ◌≡◌ {A = ℕ} 0 1 = cc in absurd (omega arith)
      go (same n) e u = refl
      go (different n) e u = absurd (different_unrelated c n e r)

  means : (area : List ℕ) (f : Fewest) → fewest_of q capacity names ≡ f
      → FewestMeans Δ q capacity names area (of_fewest (result (list_for q.apart f))) (area_after (result (list_for q.apart f)) area)
  unfolding of_fewest area_after list_for fewest_of
  means area undecided e =
      let (d, s, u) = unsettled-some (verdict_under q capacity) candidates (candidates_rise name_count names q.apart) e in
      means_unsettled d s (unsettled_exceeds d u)
  means area none e =
      let h = none_different (verdict_under q capacity) candidates (candidates_rise name_count names q.apart) e in
      means_none (λ d s. let (n, v) = h d s in different_unrelated d n v)
      (λ d s x. let (n, v) = h d s in let w = exceeds_unsettled d x in let z : ◌≡◌ {A = ℕ} 0 1 = cc in absurd (omega arith))
  means area (chosen c) e =
      let w = fewest_wins (verdict_under q capacity) candidates (candidates_rise name_count names q.apart) c e in
      let (n, v) = is_same_case (verdict_under q capacity c) w.same_verdict in
      means_fewest c w.choice (same_related c n v)
      (λ d s r. later d (w.fewest d s (related_same d (w.settled d s) r)))
      (λ d s h r. before d (earlier_ahead d c h) (w.fewest d s (related_same d (w.settled d s) r)))
      (λ d s. not_unsettled d (w.settled d s))
    where
      later : (d : Pairs) → (d ≡ c) ⊎ Ahead c d → (d ≡ c) ⊎ Earlier c d
      later d (inl i) = inl i
      later d (inr a) = inr (ahead_earlier c d a)

      before : (d : Pairs) → Ahead d c → (d ≡ c) ⊎ Ahead c d → ⊥
      before d h (inl i) = let k = subst (λ x. Ahead x c) i h in not_both c c k k
      before d h (inr a) = not_both d c h a

-- On the promise of the exported operation.
pub fewest_is_definition_13 : (question : List ℕ) (capacity : ℕ) (names work area : List ℕ) (answer : ℕ) (work' area' : List ℕ)
    → ApartIs question capacity names work area answer work' area' → Told question capacity names work area answer work' area'
unfolding apart_of of_fewest work_after area_after
fewest_is_definition_13 question capacity names work area answer work' area' p =
    go (apart_of question capacity names (length work) (length area)) refl p.answer p.cleared p.left
  where
    go : (m : Answer Fewest) → apart_of question capacity names (length work) (length area) ≡ m → Says answer (of_fewest m) → work' ≡ work_after m capacity work
        → area' ≡ area_after m area → Told question capacity names work area answer work' area'
    go (refused k) e s w l = not_searched k e s w l
    go (result f) e s w l =
        let (_, e₁) = passed_within capacity (slot_bytes * capacity) (length work) _ f e in
        let (q, a, e₂) = bind-result (question_of question) _ f e₁ in
        let (_, e₃) = need-result 18 (names_given names) _ f e₂ in
        let (_, e₄) = need-result 15 (leb longest_apart (length area)) _ f e₃ in
        let is : list_for q.apart (fewest_of q capacity names) ≡ f = result_injective {a = list_for q.apart (fewest_of q capacity names)} e₄ in
        searched q a (of_fewest (result f)) s
        (λ Δ d. subst (λ b. FewestMeans Δ q capacity names area (of_fewest (result f)) b) (sym l)
        (subst (λ f. FewestMeans Δ q capacity names area (of_fewest (result f)) (area_after (result f) area)) is
        (means question q a Δ d capacity names area (fewest_of q capacity names) refl)))
        w
