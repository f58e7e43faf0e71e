-- Demand 3: one theorem over any list of entries (document 01, "A list of changes"). Assumes nothing.
use mathlib.Core.Path.{◌≡◌, refl, sym, ◌∙◌, ap, subst}
use mathlib.Core.Logic.{inl, inr}
use mathlib.Core.List.{List, [], ◌∷◌, ◌++◌}
use Prim.Native.Nat.{ℕ, ◌<◌, ◌≤◌}
use native.Mathlib.Omega.{arith}
use lib.ListN.{length}
use Rattle.calculus.specs.Definitions.{Defs}
use Rattle.terms.specs.Answer.{Answer, refused, result, ◌>>=◌}
use Rattle.terms.specs.Operations.{check_answer, merge_of, beside_of, length_written, area_after}
use Rattle.terms.specs.Question.{Question, question_of}
use Rattle.terms.proofs.OwnEdition.{own_well_formed, accepted_once}
use Rattle.steps.proofs.QuestionDefinitions.{definitions}
use Rattle.verdict.specs.Verdict.{openly, Numbered, Verdict, unsettled, same, different, verdict_of}
use Rattle.verdict.specs.Outcome.{Outcome, gave, turned_back, unsettled_outcome, same_of, different_of, code_of, Says, of_number, of_verdict}
use Rattle.verdict.specs.Promises.{CheckIs, JudgeIs}
use Rattle.verdict.specs.Entries.{Defines, RelatedParts, Entry, merging, besiding, declaring, judging, hand_after, hands, Kept, AllKept}
use Rattle.verdict.specs.Demand.{Wrote, not_written, written, Judged, not_judged, judged, Told, Stands, JudgedIn, Decides, by_same, by_different, ListHolds}
use Rattle.verdict.proofs.EntriesKeep.{Accepted, hands_accepted, hands_related}
use Rattle.verdict.proofs.JudgeIsDefinition13.{Answered, judge_cases}
use Rattle.verdict.proofs.OutcomeLaws.{says_once}
use Rattle.verdict.proofs.RelatedVerdicts.{question_defines, same_related_parts, related_never_different}
use Rattle.verdict.proofs.SmallOutcomes.{check_small}
use Rattle.verdict.proofs.VerdictIsDefinition13.{verdict_means, enough_capacity, too_little_capacity}

-- Lists of entries, split.
hands-++ : (start : List ℕ) (es fs : List Entry) → hands start (es ++ fs) ≡ hands (hands start es) fs
unfolding hands
hands-++ start [] fs = refl
hands-++ start (e ∷ es) fs = hands-++ (hand_after start e) es fs

kept-behind : (start : List ℕ) (es fs : List Entry) → AllKept start (es ++ fs) → AllKept (hands start es) fs
unfolding hands AllKept
kept-behind start [] fs k = k
kept-behind start (e ∷ es) fs k = kept-behind (hand_after start e) es fs k.1

kept_at : (start : List ℕ) (es : List Entry) → AllKept start es → (hand : List ℕ) (e : Entry) → Stands start es hand e → Kept hand e
unfolding AllKept
kept_at start es k hand e s =
    subst (λ h. Kept h e) (sym s.handed)
    (kept-behind start s.before (e ∷ s.behind) (subst (AllKept start) s.list k)).0

check_says : (hand : List ℕ) → Accepted hand → (r : ℕ) → CheckIs hand r → Says r (gave 0)
unfolding check_answer of_number ◌>>=◌
check_says hand a r c = subst (λ m. Says r (of_number (m >>= λ q. result 0))) a.accepted c.answer

-- Merge and beside.
wrote : (made : Answer (List ℕ)) (area : List ℕ) (answer : ℕ) (after : List ℕ) → Says answer (of_number (length_written made)) → after ≡ area_after made area
    → Wrote made area answer after
unfolding length_written of_number area_after ◌>>=◌
wrote (refused k) area answer after s f = not_written k refl s f
wrote (result next) area answer after s f = written next refl s f

-- Judging.
judge_told : (hand : List ℕ) (capacity : ℕ) (work : List ℕ) (answer : ℕ) (after : List ℕ) → JudgeIs hand capacity work answer after
    → Judged hand capacity work answer after
judge_told hand capacity work answer after j =
    judge_cases (Judged hand capacity work answer after) openly hand capacity work answer after j (λ k e s f. not_judged k e s f) (λ a.
    let q : Question = a.read in
    let w = (own_well_formed hand q a.accepted).bodies in
    let Δ : Defs = definitions q.arities q.bodies w in
    let d : Defines q Δ = question_defines q w in
    judged q a.accepted Δ d (of_verdict (result (verdict_of q capacity))) a.says (verdict_means q (own_well_formed hand q a.accepted) Δ d capacity) a.cleared)

told : (hand : List ℕ) (e : Entry) → Kept hand e → Told hand e
unfolding Kept Told
told hand (merging x y area answer after) k = wrote (merge_of hand x y (length area)) area answer after k.answer k.left
told hand (besiding third area answer after) k = wrote (beside_of hand third (length area)) area answer after k.answer k.left
told hand (declaring x y) k = tt
told hand (judging capacity work answer after) k = judge_told hand capacity work answer after k

answered : (start : List ℕ) (es : List Entry) → AllKept start es → (hand : List ℕ) (capacity answer : ℕ)
    → (j : JudgedIn start es hand capacity answer) → Answered openly hand capacity j.work answer j.after
unfolding Kept
answered start es k hand capacity answer j =
    judge_cases (Answered openly hand capacity j.work answer j.after) openly hand capacity j.work answer j.after
    (kept_at start es k hand (judging capacity j.work answer j.after) j.stands) (λ n e s f. absurd (j.verdict n s)) (λ a. a)

-- which verdict an outcome is
pub outcome_same : (v : Verdict) (n : ℕ) → of_verdict (result v) ≡ same_of n → v ≡ same n
unfolding of_verdict
outcome_same unsettled n e = let z : ◌≡◌ {A = ℕ} 0 1 = cc in absurd (omega arith)
outcome_same (same m) n e = let z : m ≡ n = cc in ap same z
outcome_same (different m) n e = let z : ◌≡◌ {A = ℕ} 0 1 = cc in absurd (omega arith)

pub outcome_different : (v : Verdict) (n : ℕ) → of_verdict (result v) ≡ different_of n → v ≡ different n
unfolding of_verdict
outcome_different unsettled n e = let z : ◌≡◌ {A = ℕ} 0 1 = cc in absurd (omega arith)
outcome_different (same m) n e = let z : ◌≡◌ {A = ℕ} 0 1 = cc in absurd (omega arith)
outcome_different (different m) n e = let z : m ≡ n = cc in ap different z

is_decided : (o : ℕ → Outcome) → Decides o → (v : Verdict) (n : ℕ) → of_verdict (result v) ≡ o n → Numbered v n
is_decided o by_same v n e = inl (outcome_same v n e)
is_decided o by_different v n e = inr (outcome_different v n e)

-- check answers 0 for no other question than an accepted one
answers_zero : (hand : List ℕ) → ((r : ℕ) → CheckIs hand r → Says r (gave 0)) → Accepted hand
unfolding check_answer of_number ◌>>=◌
answers_zero hand h =
    let s : Says (code_of (of_number (check_answer hand))) (of_number (check_answer hand)) = record { number = refl; small = check_small hand } in
    go (question_of hand) refl (says_once _ _ s (h (code_of (of_number (check_answer hand))) (record { answer = s })))
  where
    go : (m : Answer Question) → question_of hand ≡ m → of_number (question_of hand >>= λ q. result 0) ≡ gave 0 → Accepted hand
    go (result q) e z = record { read = q; accepted = e }
    go (refused k) e z =
        let y : turned_back k ≡ gave 0 = subst (λ m. of_number (m >>= λ q. result 0) ≡ gave 0) e z in
        let o : ◌≡◌ {A = ℕ} 0 1 = cc in
        absurd (omega arith)

module _ (start : List ℕ) (zero' : (r : ℕ) → CheckIs start r → Says r (gave 0)) (es : List Entry) (kept : AllKept start es) where
  first : Accepted start
  first = answers_zero start zero'

  verdict_of_lem : (hand : List ℕ) (capacity answer : ℕ) (o : Outcome) (j : JudgedIn start es hand capacity answer) → Says answer o
      → of_verdict (result (verdict_of (answered start es kept hand capacity answer j).read capacity)) ≡ o
  verdict_of_lem hand capacity answer o j s = says_once _ o (answered start es kept hand capacity answer j).says s

  -- two judgings of one question
  again : (hand : List ℕ) (c d r s n : ℕ) (o : ℕ → Outcome) → Decides o → JudgedIn start es hand c r → Says r (o n) → JudgedIn start es hand d s
      → (n ≤ d → Says s (o n)) × (d < n → Says s unsettled_outcome)
  unfolding of_verdict
  again hand c d r s n o decides j u k =
      let a = answered start es kept hand c r j in
      let b = answered start es kept hand d s k in
      let q : Question = a.read in
      let p : b.read ≡ q = accepted_once hand b.read q b.accepted a.accepted in
      let e : of_verdict (result (verdict_of q c)) ≡ o n = says_once _ (o n) a.says u in
      let h : Numbered (verdict_of q c) n = is_decided o decides (verdict_of q c) n e in
      let t : Says s (of_verdict (result (verdict_of q d))) = subst (λ z. Says s (of_verdict (result (verdict_of z d)))) p b.says in (
        λ l. subst (Says s) (ap (λ v. of_verdict (result v)) (enough_capacity openly q c n h d l) ∙ e) t,
        λ l. subst (λ v. Says s (of_verdict (result v))) (too_little_capacity openly q c n h d l) t,
      )

  pub list_of_entries : ListHolds start es
  list_of_entries = record {
    accepted = λ before behind e r c. check_says (hands start before) (hands_accepted start first before) r c;
    told = λ hand e s. told hand e (kept_at start es kept hand e s);
    related = λ before later behind e r.
        subst RelatedParts (sym (hands-++ start before later)) (hands_related (hands start before) r later);
    same_related = λ hand capacity answer n j s.
        let a = answered start es kept hand capacity answer j in
        same_related_parts hand a.read a.accepted capacity n (outcome_same (verdict_of a.read capacity) n (says_once _ (same_of n) a.says s));
    never_different = λ before behind e r hand capacity answer n j s.
        let k : AllKept (hands start before) behind = kept-behind start before behind (subst (AllKept start) e kept) in
        let a = answered (hands start before) behind k hand capacity answer j in
        let t : RelatedParts hand =
        subst RelatedParts (sym j.stands.handed) (hands_related (hands start before) r j.stands.before) in
        related_never_different hand a.read a.accepted capacity n t (outcome_different (verdict_of a.read capacity) n (says_once _ (different_of n) a.says s));
    enough = λ hand c d r s n o decides j u k l. (again hand c d r s n o decides j u k).0 l;
    short = λ hand c d r s n o decides j u k l. (again hand c d r s n o decides j u k).1 l;
  }
