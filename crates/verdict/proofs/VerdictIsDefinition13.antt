-- The verdict on a well-formed question, so on an accepted one (accepted-well-formed), is Definition 13's, whose names are unlimited, under the
-- whole apart list; it is unsettled exactly in the cases that document 01 lists ("The field and the verdict"); and its number is the size of the
-- field. Assumes nothing.
use mathlib.Core.Path.{◌≡◌, refl, sym, ◌∙◌, ap, subst}
use mathlib.Core.Bool.{false}
use mathlib.Core.Logic.{◌↔◌, inl, inr}
use Prim.Native.Nat.{ℕ, ◌<◌, ◌≤◌}
use native.Mathlib.Omega.{arith}
use Rattle.calculus.specs.Cond.{Pairs}
use Rattle.calculus.specs.Definitions.{Defs}
use Rattle.calculus.specs.Distinction.{Irr}
use Rattle.calculus.specs.OpenBisimulation.{Related}
use Rattle.calculus.specs.Term.{Term}
use Rattle.calculus.proofs.Theorems.{related_sym, related_trans}
use Rattle.terms.specs.Answer.{result}
use Rattle.terms.specs.Limits.{name_count}
use Rattle.terms.specs.Question.{Question}
use Rattle.terms.proofs.ApartLaws.{apart_irreflexive}
use Rattle.terms.proofs.WellFormed.{WellFormed}
use Rattle.field.specs.Field.{PastLimit, FieldSize}
use Rattle.steps.proofs.FormLaws.{Form, form_related, result_form_lem}
use Rattle.field.specs.Setting.{Setting, setting_in, setting_of}
use Rattle.field.specs.Situation.{situation, start_in, start_of}
use Rattle.field.proofs.FormedParts.{situation_formed}
use Rattle.field.proofs.Link.{SettingFor}
use Rattle.field.specs.Situation.{Proper}
use Rattle.field.proofs.Proper.{either_below, related_situation}
use Rattle.field.proofs.QuestionField.{formed_setting_lem, formed_start}
use Rattle.verdict.specs.Entries.{Defines}
use Rattle.verdict.specs.Meaning.{PartsRelated, Exceeds, HasField, Means, means_same, means_different, means_unsettled}
use Rattle.verdict.specs.Outcome.{of_verdict}
use Rattle.verdict.specs.Verdict.{Verdict, Numbered, Manner, openly, differs, demands_of, verdict_in, verdict_by, unsettled, same, different, verdict_of}
use Rattle.verdict.proofs.DecidedField.{number_within, decided_within, decided-past, decided-same, decided_different, decided-unsettled, decided-size}

-- For every form of results: openly, late or early, the limits and the number;
module _ {form : Term → Term} (formed : Form form) (m : Manner) (q : Question) (well : WellFormed q) (Δ : Defs) (defines : Defines q Δ) where
  abbrev pub formed_setting : Setting
  formed_setting = setting_in form (differs m) q.bodies

  pub setting : SettingFor Δ formed_setting q.arities
  setting = formed_setting_lem formed (differs m) q well Δ defines.arities defines.bodies

  pub start : Proper formed_setting.names q.arities (start_in form (differs m) q)
  unfolding setting_in
  start = formed_start formed (differs m) q well

  pub formed_unsettled : (capacity : ℕ) → (verdict_in form m q capacity ≡ unsettled) ↔ PastLimit Δ formed_setting (start_in form (differs m) q) capacity
  unfolding verdict_in
  formed_unsettled capacity =
      decided-unsettled Δ formed_setting q.arities setting (start_in form (differs m) q) start capacity (demands_of m formed_setting)

  pub formed_size : (capacity n : ℕ) → Numbered (verdict_in form m q capacity) n → FieldSize Δ formed_setting (start_in form (differs m) q) n
  unfolding verdict_in
  formed_size capacity n h = decided-size Δ formed_setting q.arities setting (start_in form (differs m) q) start capacity (demands_of m formed_setting) n h

-- and the word, openly.
module _ {form : Term → Term} (formed : Form form) (q : Question) (well : WellFormed q) (Δ : Defs) where
  -- the whole apart list, and the pairs of the start
  pub start-cut : Related Δ q.apart q.first q.second ↔ Related Δ (start_in form false q).apart q.first q.second
  unfolding start_in
  start-cut =
      subst (λ E. Related Δ q.apart q.first q.second ↔ Related Δ E q.first q.second)
      (sym (ap (λ s. s.apart) (situation_formed formed name_count q.first q.second q.apart)))
      (related_situation name_count q.first q.second
      (either_below name_count q.arities q.first q.second well.first.scope well.second.scope) q.apart
      (apart_irreflexive q.apart well.apart) Δ)

  module _ (defines : Defines q Δ) (capacity : ℕ) where
    pub formed_same : (n : ℕ) → verdict_in form openly q capacity ≡ same n → Related Δ q.apart q.first q.second
    unfolding verdict_in differs setting_in start_in situation
    formed_same n e =
        start-cut.1
        (decided-same Δ (setting_in form false q.bodies) q.arities (setting formed openly q well Δ defines) (start_in form false q)
        (start formed openly q well Δ defines) capacity refl n e q.first q.second refl refl)

    pub formed_different : (n : ℕ) → verdict_in form openly q capacity ≡ different n → ¬ Related Δ q.apart q.first q.second
    unfolding verdict_in differs setting_in start_in situation
    formed_different n e r =
        let E : Pairs = (start_in form false q).apart in
        let irr : Irr E = (start formed openly q well Δ defines).distinction in
        decided_different Δ (setting_in form false q.bodies) q.arities (setting formed openly q well Δ defines) (start_in form false q)
        (start formed openly q well Δ defines) capacity refl n e
        (related_trans Δ (related_sym Δ (form_related formed Δ E irr q.first)) (related_trans Δ (start-cut.0 r) (form_related formed Δ E irr q.second)))

-- The three cases, and nothing else.
module _ (m : Manner) (Δ : Defs) (q : Question) (capacity : ℕ)
    (alike : (n : ℕ) → verdict_by m q capacity ≡ same n → PartsRelated m Δ q) (unlike : (n : ℕ) → verdict_by m q capacity ≡ different n → ¬ PartsRelated m Δ q)
    (past : (verdict_by m q capacity ≡ unsettled) ↔ Exceeds m Δ q capacity) (size : (n : ℕ) → Numbered (verdict_by m q capacity) n → HasField m Δ q n) where
  pub means_by : Means m Δ q capacity (of_verdict (result (verdict_by m q capacity)))
  unfolding of_verdict
  means_by = go (verdict_by m q capacity) refl
    where
      settled : (v : Verdict) (n : ℕ) → verdict_by m q capacity ≡ v → Numbered v n → ¬ Exceeds m Δ q capacity
      settled v n e (inl f) p = let z : same n ≡ unsettled = sym (e ∙ f) ∙ past.1 p in let o : ◌≡◌ {A = ℕ} 0 1 = cc in absurd (omega arith)
      settled v n e (inr f) p = let z : different n ≡ unsettled = sym (e ∙ f) ∙ past.1 p in let o : ◌≡◌ {A = ℕ} 0 1 = cc in absurd (omega arith)

      go : (v : Verdict) → verdict_by m q capacity ≡ v → Means m Δ q capacity (of_verdict (result v))
      go unsettled e = means_unsettled (past.0 e)
      go (same n) e = means_same n (settled (same n) n e (inl refl)) (alike n e) (size n (inl e))
      go (different n) e = means_different n (settled (different n) n e (inr refl)) (unlike n e) (size n (inr e))

-- In the form of the service.
module _ (q : Question) (well : WellFormed q) (Δ : Defs) (defines : Defines q Δ) (capacity : ℕ) where
  pub same_is_related : (n : ℕ) → verdict_of q capacity ≡ same n → Related Δ q.apart q.first q.second
  unfolding verdict_by
  same_is_related = formed_same result_form_lem q well Δ defines capacity

  pub different_is_unrelated : (n : ℕ) → verdict_of q capacity ≡ different n → ¬ Related Δ q.apart q.first q.second
  unfolding verdict_by
  different_is_unrelated = formed_different result_form_lem q well Δ defines capacity

  pub unsettled_iff_past_a_limit : (verdict_of q capacity ≡ unsettled) ↔ PastLimit Δ (setting_of false q.bodies) (start_of false q) capacity
  unfolding verdict_by differs
  unsettled_iff_past_a_limit = formed_unsettled result_form_lem openly q well Δ defines capacity

  pub number_is_field_size : (n : ℕ) → Numbered (verdict_of q capacity) n → FieldSize Δ (setting_of false q.bodies) (start_of false q) n
  unfolding verdict_by differs
  number_is_field_size = formed_size result_form_lem openly q well Δ defines capacity

  pub verdict_means : Means openly Δ q capacity (of_verdict (result (verdict_of q capacity)))
  unfolding differs
  verdict_means = means_by openly Δ q capacity same_is_related different_is_unrelated unsettled_iff_past_a_limit number_is_field_size

-- The same question under another capacity, openly, late or early: the same verdict with the same number exactly if the capacity is at least that number.
module _ (m : Manner) (q : Question) (capacity n : ℕ) (h : Numbered (verdict_by m q capacity) n) where
  pub number_at_most_capacity : n ≤ capacity
  unfolding verdict_by
  number_at_most_capacity = number_within (demands_of m (setting_of (differs m) q.bodies)) (setting_of (differs m) q.bodies) (start_of (differs m) q) capacity n h

  pub enough_capacity : (other : ℕ) → n ≤ other → verdict_by m q other ≡ verdict_by m q capacity
  unfolding verdict_by
  enough_capacity = decided_within (demands_of m (setting_of (differs m) q.bodies)) (setting_of (differs m) q.bodies) (start_of (differs m) q) capacity n h

  pub too_little_capacity : (other : ℕ) → other < n → verdict_by m q other ≡ unsettled
  unfolding verdict_by
  too_little_capacity = decided-past (demands_of m (setting_of (differs m) q.bodies)) (setting_of (differs m) q.bodies) (start_of (differs m) q) capacity n h
