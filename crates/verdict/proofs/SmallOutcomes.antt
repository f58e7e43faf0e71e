-- Every outcome of the five operations leaves room for its kind, so that the number which carries it says no other. Assumes nothing.
use mathlib.Core.Path.{◌≡◌, refl, ◌∙◌, ap, subst}
use mathlib.Core.Bool.{◌&&◌, ◌||◌, not}
use mathlib.Core.List.{List}
use mathlib.Core.Logic.{inl, inr}
use Prim.Native.Nat.{ℕ, ◌*◌, ◌≤◌}
use native.Mathlib.Omega.{arith}
use lib.ListN.{length}
use lib.Dec.{leb, ltb, eqb}
use Rattle.calculus.specs.Distinction.{among}
use Rattle.calculus.specs.Free.{fn}
use Rattle.calculus.specs.Term.{Term}
use Rattle.terms.specs.Answer.{Answer, refused, result}
use Rattle.terms.specs.Limits.{name_count, longest_question, longest_term}
use Rattle.terms.specs.Operations.{check_answer, merged, placed_beside, merge_of, beside_of, convert_of, length_written}
use Rattle.terms.specs.Question.{body_of, edition_of, question_of}
use Rattle.terms.proofs.Answers.{result_injective, bind-result, need-result}
use Rattle.terms.proofs.BesideLaws.{beside_accepted}
use Rattle.terms.proofs.MergeLaws.{merge_accepted}
use Rattle.terms.proofs.Converting.{converted, converted_read}
use Rattle.terms.specs.Edition.{Edition}
use Rattle.terms.proofs.RefusalNumbers.{Numbered, numbered-bind, numbered-need, check_numbered, merge_numbered, beside-numbered, accepted_length, convert_numbered, accepted_length_in}
use Rattle.terms.proofs.WrittenLaws.{Written, written_within_lem}
use Rattle.steps.specs.Limits.{most_steps, step_bytes}
use Rattle.steps.specs.Listed.{ListedStep}
use Rattle.steps.specs.Listing.{Listing, unsettled, listed, steps_of, listing}
use Rattle.steps.specs.Operations.{side_of, is_new, list_of}
use Rattle.steps.specs.CallLimit.{past_calls}
use Rattle.steps.proofs.CallLimitLaws.{listed_within}
use Rattle.steps.proofs.Limited.{limited_few}
use Rattle.verdict.specs.Judge.{greatest_capacity, slot_bytes, judge_by}
use Rattle.verdict.specs.Outcome.{Small, of_number, of_listing, of_verdict}
use Rattle.verdict.specs.Verdict.{Manner, Verdict, same, different, verdict_by}
use Rattle.verdict.specs.Verdict.{Numbered as VerdictNumbered}
use Rattle.verdict.specs.Verdict.{unsettled as unsettledVerdict}
use Rattle.verdict.proofs.CapacityLaws.{passed_within, within_numbered}
use Rattle.verdict.proofs.VerdictIsDefinition13.{number_at_most_capacity}

number_small : (m : Answer ℕ) → Numbered m → ((n : ℕ) → m ≡ result n → n ≤ longest_question) → Small (of_number m)
unfolding of_number Small Numbered
number_small (refused k) h l = h
number_small (result n) h l = let k = l n refl in omega arith

pub check_small : (question : List ℕ) → Small (of_number (check_answer question))
unfolding check_answer Numbered
check_small question =
    number_small (check_answer question) (numbered-bind (question_of question) _ (check_numbered question) (λ q. tt))
    (λ n e. let (q, _, z) = bind-result (question_of question) _ n e in let y : 0 ≡ n = result_injective {a = 0} z in omega arith)

-- what merge and beside write is accepted, and so no longer than check 4 allows
written_small : (m : Answer (List ℕ)) → Numbered m → ((bs : List ℕ) → m ≡ result bs → length bs ≤ longest_question) → Small (of_number (length_written m))
unfolding length_written Numbered
written_small m h l =
    number_small (length_written m) (numbered-bind m _ h (λ bs. tt))
    (λ n e. let (bs, f, z) = bind-result m _ n e in let y : length bs ≡ n = result_injective {a = length bs} z in omega (arith, l bs f))

pub merge_small : (question : List ℕ) (a b room : ℕ) → Small (of_number (length_written (merge_of question a b room)))
unfolding merge_of
merge_small question a b room =
    written_small (merge_of question a b room) (merge_numbered question a b room) (λ bs e.
    let w : Written (edition_of question) (merged question a b) room bs = written_within_lem (edition_of question) (merged question a b) room bs e in
    accepted_length bs w.question (ap question_of w.bytes ∙ merge_accepted question a b w.question w.made))

pub beside_small : (question third : List ℕ) (room : ℕ) → Small (of_number (length_written (beside_of question third room)))
unfolding beside_of
beside_small question third room =
    written_small (beside_of question third room) (beside-numbered question third room) (λ bs e.
    let w : Written (edition_of question) (placed_beside question third) room bs = written_within_lem (edition_of question) (placed_beside question third) room bs e in
    accepted_length bs w.question (ap question_of w.bytes ∙ beside_accepted question third w.question w.made))

pub convert_small : (e : Edition) (question : List ℕ) (room : ℕ) → Small (of_number (length_written (convert_of e question room)))
convert_small e question room =
    written_small (convert_of e question room) (convert_numbered e question room) (λ bs h.
    accepted_length_in e bs _ (converted_read e question bs (converted e question room bs h)))

-- a list has at most as many steps as the limit allows
list_numbered : (question : List ℕ) (side x room : ℕ) → Numbered (list_of question side x room)
unfolding list_of side_of is_new Numbered
list_numbered question side x room =
    numbered-bind (question_of question) _ (check_numbered question) (λ q.
    numbered-bind (side_of q side) _ (numbered-need 13 (eqb side 1 || eqb side 2) _ (omega arith) tt) (λ P.
    numbered-need 13 (ltb x name_count && not (among (fn P) x)) _ (omega arith)
    (numbered-need 15 (leb (step_bytes * most_steps) room) _ (omega arith) tt)))

steps_few : (bodies : List Term) (x : ℕ) (P : Term) (ss : List ListedStep) → steps_of bodies x P ≡ listed ss → length ss ≤ most_steps
unfolding steps_of listing
steps_few bodies x P ss e = limited_few longest_term most_steps _ ss (listed_within (past_calls (body_of bodies) P) _ ss e)

pub list_small : (question : List ℕ) (side x room : ℕ) → Small (of_listing (list_of question side x room))
unfolding list_of is_new of_listing Small Numbered
list_small question side x room = go (list_of question side x room) refl (list_numbered question side x room)
  where
    go : (m : Answer Listing) → list_of question side x room ≡ m → Numbered m → Small (of_listing m)
    go (refused k) e h = h
    go (result unsettled) e h = tt
    go (result (listed ss)) e h =
        let (q, _, e₁) = bind-result (question_of question) _ (listed ss) e in
        let (P, _, e₂) = bind-result (side_of q side) _ (listed ss) e₁ in
        let (_, e₃) = need-result 13 (ltb x name_count && not (among (fn P) x)) _ (listed ss) e₂ in
        let (_, e₄) = need-result 15 (leb (step_bytes * most_steps) room) _ (listed ss) e₃ in
        let few = steps_few q.bodies x P ss (result_injective {a = steps_of q.bodies x P} e₄) in
        omega arith

judge_numbered : (m : Manner) (question : List ℕ) (capacity room : ℕ) → Numbered (judge_by m question capacity room)
unfolding judge_by Numbered
judge_numbered m question capacity room =
    within_numbered capacity (slot_bytes * capacity) room _ (numbered-bind (question_of question) _ (check_numbered question) (λ q. tt))

verdict_small : (v : Verdict) (capacity : ℕ) → ((n : ℕ) → VerdictNumbered v n → n ≤ capacity) → capacity ≤ greatest_capacity → Small (of_verdict (result v))
unfolding of_verdict Small
verdict_small unsettledVerdict capacity h l = tt
verdict_small (same n) capacity h l = let k = h n (inl refl) in omega arith
verdict_small (different n) capacity h l = let k = h n (inr refl) in omega arith

pub judge_small : (m : Manner) (question : List ℕ) (capacity room : ℕ) → Small (of_verdict (judge_by m question capacity room))
unfolding judge_by of_verdict Small Numbered
judge_small m question capacity room = go (judge_by m question capacity room) refl (judge_numbered m question capacity room)
  where
    go : (a : Answer Verdict) → judge_by m question capacity room ≡ a → Numbered a → Small (of_verdict a)
    go (refused k) e h = h
    go (result v) e h =
        let (w, e₁) = passed_within capacity (slot_bytes * capacity) room _ v e in
        let (q, a, e₂) = bind-result (question_of question) _ v e₁ in
        subst (λ w. Small (of_verdict (result w))) (result_injective {a = verdict_by m q capacity} e₂)
        (verdict_small (verdict_by m q capacity) capacity (number_at_most_capacity m q capacity) w.most)
