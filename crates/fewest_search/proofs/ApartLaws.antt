-- The operation: its checks in their order, then what the search found. Assumes nothing.
use mathlib.Core.Bool.{true, false}
use mathlib.Core.List.{List, ◌++◌}
use mathlib.Core.Path.{◌≡◌, refl, sym, ap, subst, ◌∙◌}
use native.Mathlib.Omega.{arith}
use Prim.Native.Nat.{ℕ, ◌+◌, ◌*◌, ◌<◌, ◌≤◌}
use lib.Dec.{leb}
use lib.ListN.{length, take, drop}
use lib.Seq.{take-append_seam}
use borrow.Author.Tests.{le-leb, lt-leb}
use Rattle.calculus.specs.Cond.{Pairs}
use Rattle.terms.specs.Answer.{Answer, refused, result, ◌>>=◌, ◌>>◌, need}
use Rattle.terms.specs.Limits.{name_count, longest_apart}
use Rattle.terms.specs.Operations.{check_answer}
use Rattle.terms.specs.Question.{Question, edition_of, question_of, question_with, pair_bytes}
use Rattle.terms.proofs.Answers.{need-passed, need_failed, bind-result, bind_to}
use Rattle.terms_bytes.specs.FieldPlaces.{definitions_of, after_field, field_at, field_place}
use Rattle.terms_bytes.specs.Writing.{IsAccepted}
use Rattle.terms_bytes.proofs.QuestionPlaces.{apart_in}
use Rattle.terms_bytes.proofs.Stores.{sets-start}
use Rattle.terms_checks.specs.Checking.{checked_answer}
use Rattle.std.specs.Prelude.{Result, Ok, Err, ⊤}
use Rattle.terms_bytes.specs.Refusals.{number_of}
use Rattle.terms_bytes.specs.declared.answer.Refusal.{Refusal}
use Rattle.terms_bytes.specs.declared.answer.Refusal.TheVariants.{ChosenNames, ResultArea}
use Rattle.field_pairs.specs.Slot.{flags_of}
use Rattle.verdict.specs.Judge.{slot_bytes, within_capacity}
use Rattle.verdict.proofs.CapacityLaws.{Within, within_of, within_passes}
use Rattle.verdict_capacity.specs.Capacities.{capacity_answer}
use Rattle.verdict_capacity.proofs.CapacityAnswers.{capacity-refused, capacity_passed}
use Rattle.fewest.specs.Apart.{names_given, list_for, apart_of, of_fewest, work_after, area_after}
use Rattle.fewest.specs.Choices.{candidate_pairs, all_choices, enlarged, in_order}
use Rattle.fewest.specs.Fewest.{Fewest, undecided, none, chosen, verdict_under, fewest_of}
use Rattle.fewest_lists.specs.Bests.{Best, BestIs, mapped, apart_outcome, Tells}
use Rattle.fewest_lists.specs.Lists.{ApartFlagsAre, OpenFlagsAre, flagged, PairsWritten}
use Rattle.fewest_lists.specs.declared.best.Choice.{Choice}
use Rattle.fewest_lists.proofs.FlagLaws.{flagged_open}
use Rattle.fewest_lists.proofs.PairWriting.{flagged-bytes}
use Rattle.fewest_search.specs.Searching.{Allowed, cleared_by, verdict_on, SizesIs, FoundIs, ApartDoes, CheckedIs}
use Rattle.fewest_search.proofs.SearchLaws.{fewest_map}
use Rattle.field.specs.Situation.{all_pairs}

-- find
pub found_is : (question : List ℕ) (capacity : ℕ) (names work : List ℕ) (first second apart : ℕ) (list flags choosable pairs pairs' : List ℕ) (end : ℕ) (r : Best)
    (work' : List ℕ)
    → first ≡ field_place question (definitions_of question) → second ≡ after_field question first → apart ≡ after_field question second
    → list ≡ field_at question apart → ApartFlagsAre list flags → OpenFlagsAre names flags choosable → longest_apart ≤ length pairs
    → PairsWritten choosable pairs 0 end pairs' → SizesIs question (take end pairs') flags capacity work r work'
    → FoundIs question capacity names work r work'
unfolding FoundIs SizesIs ApartFlagsAre OpenFlagsAre PairsWritten fewest_of verdict_under enlarged verdict_on question_with
found_is question capacity names work first second apart list flags choosable pairs pairs' end r work' x y z l a o room w s q e =
    let D = q.apart in
    let C = candidate_pairs name_count names D in
    let L = pair_bytes (flagged choosable (all_pairs name_count)) in
    let i : flags ≡ flags_of D = a D (l ∙ apart_in (edition_of question) question q e first second apart x y z) in
    let c : L ≡ pair_bytes C = ap pair_bytes (ap (λ fs. flagged fs (all_pairs name_count)) (o D i) ∙ flagged_open names D) in
    let n : end ≡ length L = omega (arith, w.ends) in
    let p : take end pairs' ≡ pair_bytes C =
    ap (take end) (w.written ∙ sets-start pairs L (omega (arith, flagged-bytes choosable)))
    ∙ ap (λ (k : ℕ). take k (L ++ drop (length L) pairs)) n ∙ take-append_seam L (drop (length L) pairs) ∙ c in
    let k = s q D C e i p in
    record { best = subst (BestIs r) (fewest_map (verdict_on q capacity) (D ++◌) (all_choices C)) k.best; area = k.area }

-- a refusal changes nothing
pub does_refused : (m : Answer Fewest) (capacity : ℕ) (work area : List ℕ) (k : Refusal) → m ≡ refused (number_of k) → ApartDoes m capacity work area (Err k) work area
unfolding apart_outcome of_fewest work_after area_after
does_refused m capacity work area k e = record {
  answer = sym (ap of_fewest e);
  cleared = sym (ap (λ m. work_after m capacity work) e);
  left = sym (ap (λ m. area_after m area) e);
}

listed_twice : (apart : Pairs) (f : Fewest) → mapped (in_order name_count) (mapped (apart ++◌) f) ≡ list_for apart f
unfolding mapped list_for enlarged
listed_twice apart undecided = refl
listed_twice apart none = refl
listed_twice apart (chosen c) = refl

module _ (question : List ℕ) (capacity : ℕ) (names work area : List ℕ) where
  abbrev answers : Answer Fewest
  answers = apart_of question capacity names (length work) (length area)

  -- apart_accepted
  module _ (accepted : IsAccepted question) (allowed : Allowed capacity (length work)) where
    checks_passed : (q : Question) → question_of question ≡ result q
        → answers ≡ (need 18 (names_given names) >> (need 15 (leb longest_apart (length area)) >> result (list_for q.apart (fewest_of q capacity names))))
    unfolding apart_of
    checks_passed q e =
        within_passes capacity (slot_bytes * capacity) (length work) _ (record { some = allowed.some; most = allowed.most; fits = allowed.fits }) ∙ bind_to _ e

    pub names-refused : false ≡ names_given names → CheckedIs question capacity names work area (Err ChosenNames) work area
    unfolding CheckedIs IsAccepted number_of
    names-refused h =
        let (q, e) = accepted in
        does_refused answers capacity work area ChosenNames (checks_passed q e ∙ need_failed 18 (names_given names) _ (sym h))

    pub area_refused : true ≡ names_given names → length area < longest_apart → CheckedIs question capacity names work area (Err ResultArea) work area
    unfolding CheckedIs IsAccepted number_of
    area_refused h l =
        let (q, e) = accepted in
        does_refused answers capacity work area ResultArea
        (checks_passed q e ∙ need-passed 18 (names_given names) _ (sym h) ∙ need_failed 15 (leb longest_apart (length area)) _ (lt-leb longest_apart (length area) l))

    pub search_told : true ≡ names_given names → longest_apart ≤ length area → (best : Best) (work' : List ℕ) → FoundIs question capacity names work best work'
        → (r : Choice) (area' : List ℕ) → Tells best area r area' → CheckedIs question capacity names work area (Ok r) work' area'
    unfolding apart_outcome CheckedIs IsAccepted FoundIs Tells work_after cleared_by
    search_told h l best work' f r area' t =
        let (q, e) = accepted in
        let k = f q e in
        let u = t (mapped (q.apart ++◌) (fewest_of q capacity names)) k.best in
        let m : answers ≡ result (mapped (in_order name_count) (mapped (q.apart ++◌) (fewest_of q capacity names))) =
        checks_passed q e ∙ need-passed 18 (names_given names) _ (sym h)
        ∙ need-passed 15 (leb longest_apart (length area)) _ (le-leb longest_apart (length area) l)
        ∙ ap result (sym (listed_twice q.apart (fewest_of q capacity names))) in
        record {
          answer = u.answer ∙ sym (ap of_fewest m);
          cleared = k.area ∙ sym (ap (λ m. work_after m capacity work) m);
          left = u.left ∙ sym (ap (λ m. area_after m area) m);
        }

  -- apart
  module _ (c : Result ⊤ Refusal) (capacity-check : capacity_answer c ≡ within_capacity capacity (slot_bytes * capacity) (length work)) where
    pub not_within : (k : Refusal) → c ≡ Err k → ApartDoes answers capacity work area (Err k) work area
    unfolding apart_of
    not_within k h =
        does_refused answers capacity work area k
        (capacity-refused c (within_capacity capacity (slot_bytes * capacity) (length work)) capacity-check _ k h)

    module _ (u : ⊤) (passed : c ≡ Ok u) where
      within : Within capacity (slot_bytes * capacity) (length work)
      within = within_of capacity (slot_bytes * capacity) (length work) tt (capacity_passed c _ capacity-check u passed)

      pub is_allowed : Allowed capacity (length work)
      is_allowed = record { some = within.some; most = within.most; fits = within.fits }

      pub question_refused : (j : Refusal) (c : Result ⊤ Refusal) → check_answer question ≡ checked_answer c → c ≡ Err j
          → ApartDoes answers capacity work area (Err j) work area
      unfolding apart_of check_answer checked_answer ◌>>=◌
      question_refused j c e h =
          does_refused answers capacity work area j
          (within_passes capacity (slot_bytes * capacity) (length work) _ within ∙ go (question_of question) (e ∙ ap checked_answer h))
        where
          go : (m : Answer Question) → ◌>>=◌ {B = ℕ} m (λ q. result 0) ≡ refused (number_of j)
              → (m >>= λ q. (need 18 (names_given names) >> (need 15 (leb longest_apart (length area)) >> result (list_for q.apart (fewest_of q capacity names))))) ≡ refused (number_of j)
          go (refused i) e = ap refused (cc)
          go (result q) e = let z : ◌≡◌ {A = ℕ} 0 1 = cc in absurd (omega arith)

pub is_accepted : (question : List ℕ) (c : Result ⊤ Refusal) (u : ⊤) → check_answer question ≡ checked_answer c → c ≡ Ok u → IsAccepted question
unfolding check_answer checked_answer IsAccepted
is_accepted question c u e h =
    let (q, d, z) = bind-result (question_of question) (λ q. result 0) 0 (e ∙ ap checked_answer h) in (q, d)
