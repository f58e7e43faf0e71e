-- More names, towards document 02, request 2026-11: a question that is accepted and settled over some number of names is accepted over more, with the
-- same verdict and the same n whenever n fits the capacity; openly, late or early, in either edition. Assumes nothing.
use mathlib.Core.Path.{◌≡◌, refl, sym, ◌∙◌, ap, ap₂, subst}
use mathlib.Core.Bool.{Bool, true, false, cond}
use mathlib.Core.List.{List, []}
use mathlib.Core.Logic.{inl, inr}
use native.Mathlib.Omega.{arith}
use Prim.Native.Nat.{ℕ, ◌+◌, ◌*◌, ◌<◌, ◌≤◌}
use Rattle.calculus.specs.Definitions.{Defs}
use Rattle.calculus.specs.OpenBisimulation.{Related}
use Rattle.late_early.specs.LateEarly.{Bisimilar}
use Rattle.terms.specs.Answer.{result}
use Rattle.terms.specs.Limits.{name_count}
use Rattle.terms.specs.Question.{Question, edition_of, question_with}
use Rattle.terms.proofs.Answers.{result_injective, bind-result, bind_to}
use Rattle.terms.proofs.MoreNames.{question_more}
use Rattle.terms.proofs.WellFormed.{WellFormedWith, accepted_with}
use Rattle.calculus.proofs.Membership.{all-∈, distinct_length}
use Rattle.steps.specs.Forms.{result_form}
use Rattle.steps.proofs.FormLaws.{result_form_lem}
use Rattle.steps.proofs.QuestionDefinitions.{definitions}
use Rattle.field.specs.Exploration.{Row, field_of}
use Rattle.field.specs.Field.{InField, SomePast, PastLimit, FieldSize}
use Rattle.field.specs.Setting.{Setting, setting_with, setting_of}
use Rattle.field.specs.Situation.{Situation, situation, start_with, start_of, Proper}
use Rattle.field.proofs.Link.{SettingFor}
use Rattle.field.proofs.MoreNames.{wider, situation-same, proper_more, field_to, field_from, none-past}
use Rattle.field.proofs.Proper.{either_below}
use Rattle.field.proofs.QuestionField.{setting_over, start_over}
use Rattle.verdict.specs.Judge.{greatest_capacity, slot_bytes, judge_by, judge_with}
use Rattle.verdict.specs.Verdict.{
  Manner,
  openly,
  named,
  differs,
  demands_of,
  Verdict,
  unsettled,
  same,
  different,
  Numbered,
  decided,
  verdict_from,
  verdict_by,
  verdict_with,
}
use Rattle.verdict.proofs.CapacityLaws.{within_passes, passed_within}
use Rattle.verdict.proofs.DecidedField.{decided-same, decided_different, decided-unsettled, decided-size}
use Rattle.verdict.proofs.RelatedVerdicts.{question_defines}
use Rattle.verdict.proofs.VerdictsAreDefinitions7To10.{decided-same as named-same, decided_different as named-different}

-- The definitions without a number of names are those for the names that a part may have.
pub verdict_at : (m : Manner) (q : Question) (capacity : ℕ) → verdict_with name_count m q capacity ≡ verdict_by m q capacity
unfolding verdict_with verdict_by setting_of start_of
verdict_at m q capacity = refl

pub judge_at : (m : Manner) (question : List ℕ) (capacity room : ℕ) → judge_with name_count m question capacity room ≡ judge_by m question capacity room
unfolding judge_with judge_by verdict_with verdict_by setting_of start_of
judge_at m question capacity room = refl

unsettled_not : (v : Verdict) (n : ℕ) → Numbered v n → v ≡ unsettled → ⊥
unsettled_not v n (inl e) d = let z : ◌≡◌ {A = ℕ} 0 1 = cc in omega arith
unsettled_not v n (inr e) d = let z : ◌≡◌ {A = ℕ} 0 1 = cc in omega arith

numbered : (v : Verdict) → (v ≡ unsettled → ⊥) → (n : ℕ) × Numbered v n
numbered unsettled h = absurd (h refl)
numbered (same n) h = (n, inl refl)
numbered (different n) h = (n, inr refl)

module _ (Δ : Defs) (S : Setting) (extra : ℕ) (arities : List ℕ) (setting : SettingFor Δ S arities) (wide : SettingFor Δ (wider S extra) arities)
    (start : Situation) (proper : Proper S.names arities start) (d e : Row → List (List (List Situation))) (capacity n other : ℕ) where
  abbrev old : Verdict
  old = decided d start (field_of S capacity start)

  abbrev new : Verdict
  new = decided e start (field_of (wider S extra) other start)

  proper_wide : Proper (S.names + extra) arities start
  proper_wide = proper_more S.names extra arities start proper

  module _ (settled-old : Numbered old n) (fits : n ≤ other) where
    settled : ¬ SomePast Δ S start
    settled h = unsettled_not old n settled-old ((decided-unsettled Δ S arities setting start proper capacity d).1 (inr h))

    size : FieldSize Δ S start n
    size = decided-size Δ S arities setting start proper capacity d n settled-old

    not_past : ¬ PastLimit Δ (wider S extra) start other
    not_past (inl h) =
        let l = distinct_length h.situations size.situations h.distinct
        (λ s m. (size.members s).1
        (field_from Δ S extra arities setting start proper settled (all-∈ (InField Δ (wider S extra) start) h.situations h.members s m))) in
        omega (arith, h.many, size.size)
    not_past (inr h) = none-past Δ S extra arities setting start proper settled h

    same_size : (m : ℕ) → Numbered new m → m ≡ n
    same_size m h =
        let z = decided-size Δ (wider S extra) arities wide start proper_wide other e m h in
        let a = distinct_length z.situations size.situations z.distinct
        (λ s i. (size.members s).1 (field_from Δ S extra arities setting start proper settled ((z.members s).0 i))) in
        let b = distinct_length size.situations z.situations size.distinct
        (λ s i. (z.members s).1 (field_to Δ S extra arities setting start proper settled ((size.members s).0 i))) in
        omega (arith, z.size, size.size)

    -- The two verdicts decide one relation R, whose names are unlimited.
    more-names : (R : Type 1) → (old ≡ same n → R) → (old ≡ different n → ¬ R) → ((m : ℕ) → new ≡ same m → R) → ((m : ℕ) → new ≡ different m → ¬ R)
        → new ≡ old
    more-names R os od ns nd =
        let (m, h) = numbered new (λ u. not_past ((decided-unsettled Δ (wider S extra) arities wide start proper_wide other e).0 u)) in
        go m h settled-old (same_size m h)
      where
        go : (m : ℕ) → Numbered new m → Numbered old n → m ≡ n → new ≡ old
        go m (inl u) (inl v) k = u ∙ ap same k ∙ sym v
        go m (inr u) (inr v) k = u ∙ ap different k ∙ sym v
        go m (inl u) (inr v) k = absurd (od v (ns m u))
        go m (inr u) (inl v) k = absurd (nd m u (os v))

-- The same for a question.
module _ (names extra : ℕ) (few : names + extra < 128) (q : Question) (well : WellFormedWith names q) (wide : WellFormedWith (names + extra) q) where
  abbrev Δ : Defs
  Δ = definitions q.arities q.bodies well.bodies

  module _ (differ : Bool) where
    abbrev narrow : Situation
    narrow = start_with names result_form differ q

    setting : SettingFor Δ (setting_with names result_form differ q.bodies) q.arities
    setting = let w = question_defines q well.bodies in setting_over names (omega arith) result_form_lem differ q well Δ w.arities w.bodies

    setting_wide : SettingFor Δ (setting_with (names + extra) result_form differ q.bodies) q.arities
    setting_wide = let w = question_defines q well.bodies in setting_over (names + extra) few result_form_lem differ q wide Δ w.arities w.bodies

    proper : Proper names q.arities narrow
    proper = start_over names (omega arith) result_form_lem differ q well

    start-same : start_with (names + extra) result_form differ q ≡ narrow
    unfolding situation
    start-same =
        situation-same names extra (result_form q.first) (result_form q.second)
        (either_below names q.arities (result_form q.first) (result_form q.second) proper.first proper.second) (cond differ [] q.apart)

  again-first : result_form q.first ≡ result_form (result_form q.first)
  again-first = sym (result_form_lem.again q.first)

  again-second : result_form q.second ≡ result_form (result_form q.second)
  again-second = sym (result_form_lem.again q.second)

  verdict_more : (m : Manner) (capacity n : ℕ) → Numbered (verdict_with names m q capacity) n → (other : ℕ) → n ≤ other
      → verdict_with (names + extra) m q other ≡ verdict_with names m q capacity
  unfolding verdict_with differs situation
  verdict_more openly capacity n h other l =
      ap (λ (s : Situation). verdict_from openly (setting_with (names + extra) result_form false q.bodies) s other) (start-same false)
      ∙ more-names Δ S extra q.arities (setting false) (setting_wide false) s (proper false) (demands_of openly S) (demands_of openly T) capacity n other h l
      (Related Δ s.apart s.first s.second)
      (λ e. decided-same Δ S q.arities (setting false) s (proper false) capacity refl n e s.first s.second again-first again-second)
      (decided_different Δ S q.arities (setting false) s (proper false) capacity refl n)
      (λ m e. decided-same Δ T q.arities (setting_wide false) s (proper_more names extra q.arities s (proper false)) other refl m e
      s.first s.second again-first again-second)
      (decided_different Δ T q.arities (setting_wide false) s (proper_more names extra q.arities s (proper false)) other refl)
    where
      S : Setting
      S = setting_with names result_form false q.bodies

      T : Setting
      T = setting_with (names + extra) result_form false q.bodies

      s : Situation
      s = narrow false
  verdict_more (named k) capacity n h other l =
      ap (λ (s : Situation). verdict_from (named k) (setting_with (names + extra) result_form true q.bodies) s other) (start-same true)
      ∙ more-names Δ S extra q.arities (setting true) (setting_wide true) s (proper true) (demands_of (named k) S) (demands_of (named k) T) capacity n other h l
      (Bisimilar Δ k s.first s.second)
      (λ e. named-same Δ S refl q.arities (setting true) s (proper true) k capacity n e s.first s.second plain)
      (named-different Δ S refl q.arities (setting true) s (proper true) k capacity n)
      (λ m e. named-same Δ T refl q.arities (setting_wide true) s (proper_more names extra q.arities s (proper true)) k other m e
      s.first s.second plain_wide)
      (named-different Δ T refl q.arities (setting_wide true) s (proper_more names extra q.arities s (proper true)) k other)
    where
      S : Setting
      S = setting_with names result_form true q.bodies

      T : Setting
      T = setting_with (names + extra) result_form true q.bodies

      s : Situation
      s = narrow true

      plain : s ≡ situation names (result_form s.first) (result_form s.second) []
      plain = ap₂ (λ P Q. situation names P Q []) again-first again-second

      plain_wide : s ≡ situation (names + extra) (result_form s.first) (result_form s.second) []
      plain_wide = sym (start-same true) ∙ ap₂ (λ P Q. situation (names + extra) P Q []) again-first again-second

pub old_verdict : (names extra : ℕ) → names + extra < 128 → (question : List ℕ) (q : Question) → question_with names question ≡ result q
    → (m : Manner) (capacity n : ℕ) → Numbered (verdict_with names m q capacity) n → (other : ℕ) → n ≤ other
    → (question_with (names + extra) question ≡ result q) × (verdict_with (names + extra) m q other ≡ verdict_with names m q capacity)
unfolding question_with
old_verdict names extra few question q a m capacity n h other l =
    let b = question_more names extra (omega arith) question q a in (
      b,
      verdict_more names extra few q (accepted_with names (edition_of question) question q a).0
          (accepted_with (names + extra) (edition_of question) question q b).0 m capacity n h other l,
    )

-- The answer of judge, within the bounds of checks 1 and 2.
pub old_answer : (names extra : ℕ) → names + extra < 128 → (m : Manner) (question : List ℕ) (capacity room : ℕ) (v : Verdict)
    → judge_with names m question capacity room ≡ result v → (n : ℕ) → Numbered v n → (other space : ℕ) → n ≤ other → 1 ≤ other → other ≤ greatest_capacity
    → slot_bytes * other ≤ space → judge_with (names + extra) m question other space ≡ result v
unfolding judge_with
old_answer names extra few m question capacity room v j n h other space l some most fits =
    let (_, e₁) = passed_within capacity (slot_bytes * capacity) room _ v j in
    let (q, a, e₂) = bind-result (question_with names question) _ v e₁ in
    let is : verdict_with names m q capacity ≡ v = result_injective {a = verdict_with names m q capacity} e₂ in
    let (b, w) = old_verdict names extra few question q a m capacity n (subst (λ x. Numbered x n) (sym is) h) other l in
    within_passes other (slot_bytes * other) space _ (record { some = some; most = most; fits = fits }) ∙ bind_to _ b ∙ ap result (w ∙ is)
