-- The late and the early verdict on an accepted question are those of Definitions 7 to 10, whose names are unlimited; they are unsettled exactly past a
-- limit, and their number is the size of the field, which is one for both. An open "same" under any apart list is never a late "different", and a late
-- "same" never an early one. Assumes nothing.
use mathlib.Core.Path.{◌≡◌, refl, sym, ◌∙◌, ap, subst, subst₂}
use mathlib.Core.Bool.{true}
use mathlib.Core.List.{List, []}
use mathlib.Core.Logic.{◌↔◌, inl}
use Prim.Native.Nat.{ℕ, ◌≤◌, ◌*◌}
use native.Mathlib.Omega.{arith}
use lib.ListN.{length}
use Rattle.calculus.specs.Definitions.{Defs}
use Rattle.calculus.specs.Term.{Term}
use Rattle.late_early.specs.LateEarly.{Kind, late, early, Bisimilar}
use Rattle.late_early.proofs.LateEarlyTheorems.{related_late, late_is_early}
use Rattle.terms.specs.Answer.{result}
use Rattle.terms.specs.Question.{Question, question_of}
use Rattle.terms.proofs.OwnEdition.{own_well_formed}
use Rattle.terms.proofs.WellFormed.{WellFormed}
use Rattle.calculus.specs.Lists.{◌∈◌}
use Rattle.steps.proofs.FormLaws.{Form, result_form_lem}
use Rattle.calculus.proofs.Membership.{distinct_length}
use Rattle.field.specs.Exploration.{Row, field_of}
use Rattle.field.specs.Field.{PastLimit, FieldSize}
use Rattle.field.specs.Setting.{Setting, setting_in, setting_of}
use Rattle.field.specs.Situation.{Situation, situation, start_in, start_of, Proper}
use Rattle.field.proofs.Link.{SettingFor}
use Rattle.field.proofs.Proper.{same_equal}
use Rattle.field.proofs.Reached.{at_start}
use Rattle.field.proofs.Run.{selves}
use Rattle.field.proofs.Unseen.{∈-found}
use Rattle.verdict.specs.Entries.{Defines}
use Rattle.verdict.specs.Judge.{greatest_capacity, slot_bytes}
use Rattle.verdict.specs.Meaning.{Means, Decision}
use Rattle.verdict.specs.Outcome.{same_of, different_of, Says, of_verdict}
use Rattle.verdict.specs.Promises.{JudgesBy, JudgeIs, LateIs, EarlyIs}
use Rattle.verdict.specs.Verdict.{named, differs, demands_of, Verdict, Numbered, unsettled, same, different, decided, verdict_in, verdict_by, verdict_of}
use Rattle.verdict.proofs.DecidedField.{of_same, of_different, field_of_lem, few}
use Rattle.verdict.proofs.FieldRows.{explored-rows}
use Rattle.verdict.proofs.FormedBisimilar.{bisimilar_formed}
use Rattle.verdict.proofs.JudgeIsDefinition13.{judge_answers}
use Rattle.verdict.proofs.NamedStrike.{named-rows, survivor_bisimilar, bisimilar_survives}
use Rattle.verdict.proofs.NeverDifferentLaws.{judged-same, judged_different}
use Rattle.verdict.proofs.Rounds.{survivors, found_survives}
use Rattle.verdict.proofs.VerdictIsDefinition13.{setting, start, formed_unsettled, formed_size, same_is_related, means_by}

module _ (Δ : Defs) (S : Setting) (naming : S.differ ≡ true) (arities : List ℕ) (setting : SettingFor Δ S arities)
    (start : Situation) (proper : Proper S.names arities start) (k : Kind) (capacity : ℕ) where
  abbrev demands : Row → List (List (List Situation))
  demands = demands_of (named k) S

  -- terms whose forms are the parts of the start
  pub decided-same : (n : ℕ) → decided demands start (field_of S capacity start) ≡ same n → (P Q : Term) → start ≡ situation S.names (S.form P) (S.form Q) []
      → Bisimilar Δ k P Q
  decided-same n e P Q plain =
      let s = of_same demands start (field_of S capacity start) n e in
      let small = few Δ S arities setting start proper capacity in
      let f = field_of_lem Δ S arities setting start proper capacity s.rows s.found_rows in
      survivor_bisimilar Δ S setting.formed small arities k s.rows f naming P Q
      (subst (λ t. t ∈ selves (survivors demands s.rows)) plain
      (found_survives demands (Proper S.names arities) (same_equal S.names small arities) s.rows
      (named-rows Δ S setting.formed small arities k s.rows f naming) start proper s.survives))

  pub decided_different : (n : ℕ) → decided demands start (field_of S capacity start) ≡ different n → ¬ Bisimilar Δ k start.first start.second
  decided_different n e b =
      let s = of_different demands start (field_of S capacity start) n e in
      let f = field_of_lem Δ S arities setting start proper capacity s.rows s.found_rows in
      let rows = explored-rows Δ S arities setting start proper capacity s.rows s.found_rows in
      let i = bisimilar_survives Δ S setting.formed (few Δ S arities setting start proper capacity) arities k s.rows f naming start ((rows.reached start).1 at_start) b in
      let z : ◌≡◌ {A = ℕ} 0 1 = cc (∈-found (selves (survivors demands s.rows)) start i, s.survives) in
      omega arith

-- For every form of results.
module _ {form : Term → Term} (formed : Form form) (q : Question) (well : WellFormed q) (Δ : Defs) (defines : Defines q Δ) (k : Kind) (capacity : ℕ) where
  abbrev S : Setting
  S = setting_in form true q.bodies

  plain : start_in form true q ≡ situation S.names (form q.first) (form q.second) []
  unfolding setting_in start_in
  plain = refl

  naming : S.differ ≡ true
  unfolding setting_in
  naming = refl

  pub formed_bisimilar : (n : ℕ) → verdict_in form (named k) q capacity ≡ same n → Bisimilar Δ k q.first q.second
  unfolding verdict_in differs setting_in
  formed_bisimilar n e =
      decided-same Δ S naming q.arities (setting formed (named k) q well Δ defines) (start_in form true q) (start formed (named k) q well Δ defines)
      k capacity n e q.first q.second plain

  pub formed_not_bisimilar : (n : ℕ) → verdict_in form (named k) q capacity ≡ different n → ¬ Bisimilar Δ k q.first q.second
  unfolding verdict_in differs setting_in start_in situation
  formed_not_bisimilar n e b =
      decided_different Δ S naming q.arities (setting formed (named k) q well Δ defines) (start_in form true q) (start formed (named k) q well Δ defines)
      k capacity n e
      (bisimilar_formed Δ formed b (form q.first) (form q.second) (sym (formed.again q.first)) (sym (formed.again q.second)))

-- In the form of the service.
module _ (question : List ℕ) (q : Question) (accepted : question_of question ≡ result q) (Δ : Defs) (defines : Defines q Δ) (k : Kind) (capacity : ℕ) where
  well : WellFormed q
  well = own_well_formed question q accepted

  pub same_is_bisimilar : (n : ℕ) → verdict_by (named k) q capacity ≡ same n → Bisimilar Δ k q.first q.second
  unfolding verdict_by
  same_is_bisimilar = formed_bisimilar result_form_lem q well Δ defines k capacity

  pub different_is_not_bisimilar : (n : ℕ) → verdict_by (named k) q capacity ≡ different n → ¬ Bisimilar Δ k q.first q.second
  unfolding verdict_by
  different_is_not_bisimilar = formed_not_bisimilar result_form_lem q well Δ defines k capacity

  -- late and early are unsettled together,
  pub unsettled_iff_past_a_limit : (verdict_by (named k) q capacity ≡ unsettled) ↔ PastLimit Δ (setting_of true q.bodies) (start_of true q) capacity
  unfolding verdict_by differs
  unsettled_iff_past_a_limit = formed_unsettled result_form_lem (named k) q well Δ defines capacity

  -- and have one n
  pub number_is_field_size : (n : ℕ) → Numbered (verdict_by (named k) q capacity) n → FieldSize Δ (setting_of true q.bodies) (start_of true q) n
  unfolding verdict_by differs
  number_is_field_size = formed_size result_form_lem (named k) q well Δ defines capacity

  pub verdict_means : Means (named k) Δ q capacity (of_verdict (result (verdict_by (named k) q capacity)))
  unfolding differs
  verdict_means = means_by (named k) Δ q capacity same_is_bisimilar different_is_not_bisimilar unsettled_iff_past_a_limit number_is_field_size

-- On the promises of the exported operations, as demand 2 has it.
pub judge_is_definitions_7_to_10 : (k : Kind) (question : List ℕ) (q : Question) → question_of question ≡ result q → (Δ : Defs) → Defines q Δ → (capacity : ℕ) (work : List ℕ)
    → 1 ≤ capacity → capacity ≤ greatest_capacity → slot_bytes * capacity ≤ length work → (answer : ℕ) (after : List ℕ)
    → JudgesBy (named k) question capacity work answer after → Decision (named k) Δ q capacity answer
judge_is_definitions_7_to_10 k question q a Δ d capacity work l g h answer after j =
    record {
      outcome = of_verdict (result (verdict_by (named k) q capacity));
      says = subst (λ m. Says answer (of_verdict m)) (judge_answers (named k) question q a capacity (length work) l g h) j.answer;
      means = verdict_means question q a Δ d k capacity;
    }

-- a field has one size
one_size : (Δ : Defs) (S : Setting) (start : Situation) (n m : ℕ) → FieldSize Δ S start n → FieldSize Δ S start m → n ≡ m
one_size Δ S start n m a b =
    omega (
      arith,
      a.size,
      b.size,
      distinct_length a.situations b.situations a.distinct (λ s i. (b.members s).1 ((a.members s).0 i)),
      distinct_length b.situations a.situations b.distinct (λ s i. (a.members s).1 ((b.members s).0 i)),
    )

-- With one capacity late and early are settled together, with one number, and a late "same" is an early "same".
pub late_same_is_early_same : (question : List ℕ) (q : Question) → question_of question ≡ result q → (Δ : Defs) → Defines q Δ
    → (capacity n : ℕ) → verdict_by (named late) q capacity ≡ same n → verdict_by (named early) q capacity ≡ same n
late_same_is_early_same question q a Δ d capacity n h = go (verdict_by (named early) q capacity) refl
  where
    go : (v : Verdict) → verdict_by (named early) q capacity ≡ v → verdict_by (named early) q capacity ≡ same n
    go unsettled e =
        let p = (unsettled_iff_past_a_limit question q a Δ d late capacity).1 ((unsettled_iff_past_a_limit question q a Δ d early capacity).0 e) in
        let z : ◌≡◌ {A = ℕ} 0 1 = cc in absurd (omega arith)
    go (same m) e =
        e ∙ ap same (one_size Δ (setting_of true q.bodies) (start_of true q) m n
        (number_is_field_size question q a Δ d early capacity m (inl e)) (number_is_field_size question q a Δ d late capacity n (inl h)))
    go (different m) e =
        absurd (different_is_not_bisimilar question q a Δ d early capacity m e (late_is_early Δ (same_is_bisimilar question q a Δ d late capacity n h)))

-- An open "same" under any apart list is never a late "different": q and q' may differ in their apart lists. On the definitions,
pub open_same_never_late_different : (question question' : List ℕ) (q q' : Question) → question_of question ≡ result q → question_of question' ≡ result q'
    → q'.first ≡ q.first → q'.second ≡ q.second → (Δ : Defs) → Defines q Δ → Defines q' Δ
    → (capacity capacity' n m : ℕ) → verdict_of q capacity ≡ same n → ¬ (verdict_by (named late) q' capacity' ≡ different m)
open_same_never_late_different question question' q q' a a' e f Δ d d' capacity capacity' n m h j =
    different_is_not_bisimilar question' q' a' Δ d' late capacity' m j
    (subst₂ (Bisimilar Δ late) (sym e) (sym f) (related_late Δ (same_is_related q (own_well_formed question q a) Δ d capacity n h)))

-- and on the promises: whatever the capacities and the work areas.
pub judged_same_never_late_different : (question question' : List ℕ) (q q' : Question) → question_of question ≡ result q → question_of question' ≡ result q'
    → q'.first ≡ q.first → q'.second ≡ q.second → (Δ : Defs) → Defines q Δ → Defines q' Δ
    → (capacity capacity' : ℕ) (work work' : List ℕ) (r r' : ℕ) (after after' : List ℕ) → JudgeIs question capacity work r after
    → LateIs question' capacity' work' r' after' → (n m : ℕ) → Says r (same_of n) → ¬ Says r' (different_of m)
judged_same_never_late_different question question' q q' a a' e f Δ d d' capacity capacity' work work' r r' after after' j j' n m s s' =
    open_same_never_late_different question question' q q' a a' e f Δ d d' capacity capacity' n m
    (judged-same question q a _ capacity work r after j n s) (judged_different question' q' a' _ capacity' work' r' after' j' m s')

-- A late "same" is never an early "different". On the definitions,
pub late_same_never_early_different : (question : List ℕ) (q : Question) → question_of question ≡ result q → (Δ : Defs) → Defines q Δ
    → (capacity capacity' n m : ℕ) → verdict_by (named late) q capacity ≡ same n → ¬ (verdict_by (named early) q capacity' ≡ different m)
late_same_never_early_different question q a Δ d capacity capacity' n m h j =
    different_is_not_bisimilar question q a Δ d early capacity' m j (late_is_early Δ (same_is_bisimilar question q a Δ d late capacity n h))

-- and on the promises.
pub late_judged_same_never_early_different : (question : List ℕ) (q : Question) → question_of question ≡ result q → (Δ : Defs) → Defines q Δ
    → (capacity capacity' : ℕ) (work work' : List ℕ) (r r' : ℕ) (after after' : List ℕ) → LateIs question capacity work r after
    → EarlyIs question capacity' work' r' after' → (n m : ℕ) → Says r (same_of n) → ¬ Says r' (different_of m)
late_judged_same_never_early_different question q a Δ d capacity capacity' work work' r r' after after' j j' n m s s' =
    late_same_never_early_different question q a Δ d capacity capacity' n m
    (judged-same question q a _ capacity work r after j n s) (judged_different question q a _ capacity' work' r' after' j' m s')
