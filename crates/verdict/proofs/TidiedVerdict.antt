-- Theorem `tidied_verdict` (document 02, request 2026-04): well-formed questions that differ in restrictions that bind nothing alone have the same
-- verdict with the same number at every capacity, results tidied; openly, late and early. So a judge may tidy the question first. Assumes nothing.
use mathlib.Core.Bool.{cond}
use mathlib.Core.List.{List}
use mathlib.Core.Logic.{inl, inr}
use mathlib.Core.Path.{◌≡◌, refl, ◌∙◌, ap, ap₂}
use Prim.Native.Nat.{ℕ, zero, suc}
use lib.Dec.{eqb}
use lib.ListN.{length}
use Rattle.calculus.specs.Definitions.{Defs}
use Rattle.calculus.specs.Term.{Term}
use Rattle.calculus.specs.Tidy.{tidy}
use Rattle.late_early.specs.LateEarly.{Kind}
use Rattle.terms.specs.Limits.{name_count}
use Rattle.terms.specs.Question.{Question, body_of}
use Rattle.terms.proofs.WellFormed.{WellFormed}
use Rattle.steps.specs.Listing.{Listing, unsettled, listed}
use Rattle.calculus.specs.Lists.{◌∈◌}
use Rattle.steps.proofs.FormLaws.{tidied_form}
use Rattle.steps.proofs.QuestionDefinitions.{definitions}
use Rattle.steps.proofs.TidiedQuestions.{TidiedAlike, bodies_tidied, all_tidied, bodies_alike, all_alike, bodies_well, all_well, bodies_over}
use Rattle.steps.proofs.TidyLists.{alike_list}
use Rattle.field.specs.Exploration.{found, Row, Exploration, incomplete, explored, field_of, selves}
use Rattle.field.specs.Setting.{Setting, setting_in, steps_in}
use Rattle.field.specs.Situation.{Situation, new_name, start_in, Proper}
use Rattle.field.proofs.AlikeSettings.{with_bodies, SameLists, field_alike}
use Rattle.field.proofs.FieldIsSmallest.{invariant}
use Rattle.field.proofs.Link.{SettingFor}
use Rattle.field.proofs.NewNames.{new_within, new_free}
use Rattle.field.proofs.Proper.{either_below}
use Rattle.field.proofs.QuestionField.{formed_setting_lem, formed_start, start-alike}
use Rattle.field.proofs.Selections.{select-same}
use Rattle.verdict.specs.Received.{sides_demand, named_demands}
use Rattle.verdict.specs.Verdict.{Manner, openly, named, differs, demands_of, all_answered, strike, rounds, same, different, decided, verdict_in}
use Rattle.verdict.proofs.DecidedField.{field_of_lem}
use Rattle.verdict.proofs.RelatedVerdicts.{question_defines}
use Rattle.verdict.proofs.Rounds.{self_in, of_strike}

-- Demands that are the same on the rows strike out the same rows.
module _ (d e : Row → List (List (List Situation))) where
  abbrev Alike : List Row → Type 0
  Alike rs = (r : Row) → r ∈ rs → d r ≡ e r

  strike-alike : (rs : List Row) → Alike rs → strike d rs ≡ strike e rs
  unfolding strike
  strike-alike rs h = select-same (λ r. all_answered (selves rs) (d r)) (λ r. all_answered (selves rs) (e r)) rs (λ r m. ap (all_answered (selves rs)) (h r m))

  rounds-alike : (n : ℕ) (rs : List Row) → Alike rs → rounds d n rs ≡ rounds e n rs
  unfolding rounds
  rounds-alike zero rs h = refl
  rounds-alike (suc n) rs h =
      ap (λ (rest : List Row). cond (eqb (length rest) (length rs)) rs (rounds d n rest)) (strike-alike rs h)
      ∙ ap (λ (left : List Row). cond (eqb (length (strike e rs)) (length rs)) rs left) (rounds-alike n (strike e rs) (λ r m. h r (of_strike e r rs m).0))

  decided-alike : (start : Situation) (x : Exploration) → ((rs : List Row) → x ≡ explored rs → Alike rs) → decided d start x ≡ decided e start x
  unfolding decided
  decided-alike start incomplete h = refl
  decided-alike start (explored rs) h =
      ap (λ (left : List Row). cond (found (selves left) start) (same (length rs)) (different (length rs))) (rounds-alike (length rs) rs (h rs refl))

-- The demands of a situation whose parts have the same lists.
module _ (S : Setting) (body : ℕ → Term) where
  sides_alike : (k : Kind) (s : Situation) (l j : Listing) → sides_demand k S s l j ≡ sides_demand k (with_bodies S body) s l j
  unfolding sides_demand
  sides_alike k s (listed ps) (listed qs) = refl
  sides_alike k s (listed ps) unsettled = refl
  sides_alike k s unsettled j = refl

  demands-alike : (m : Manner) (r : Row) → SameLists S body r.self → demands_of m S r ≡ demands_of m (with_bodies S body) r
  unfolding demands_of named_demands
  demands-alike openly r e = refl
  demands-alike (named k) r e = ap₂ (sides_demand k S r.self) e.first e.second ∙ sides_alike k r.self _ _

module _ (m : Manner) (q q₁ : Question) (well : WellFormed q) (well₁ : WellFormed q₁) (alike : TidiedAlike q q₁) (capacity : ℕ) where
  Δ : Defs
  Δ = definitions q.arities q.bodies well.bodies

  abbrev S : Setting
  S = setting_in tidy (differs m) q.bodies

  abbrev start : Situation
  start = start_in tidy (differs m) q

  setting : SettingFor Δ S q.arities
  unfolding Δ
  setting = let w = question_defines q well.bodies in formed_setting_lem tidied_form (differs m) q well Δ w.arities w.bodies

  proper : Proper name_count q.arities start
  proper = formed_start tidied_form (differs m) q well

  lists_alike : (s : Situation) → Proper name_count q.arities s → SameLists S (body_of q₁.bodies) s
  unfolding setting_in steps_in
  lists_alike s p =
      let below = either_below name_count q.arities s.first s.second p.first p.second in
      let x : ℕ = new_name name_count s.first s.second in
      let within = new_within name_count s.first s.second below in
      let new = new_free name_count s.first s.second below in
      let list = alike_list q.arities q.bodies q₁.bodies well.bodies (bodies_over q q₁ well well₁ alike) alike.bodies x within in
      record {
        first = list s.first s.first p.first p.first refl (λ f. new (inl f));
        second = list s.second s.second p.second p.second refl (λ f. new (inr f));
      }

  pub tidied_verdict : verdict_in tidy m q capacity ≡ verdict_in tidy m q₁ capacity
  unfolding verdict_in setting_in
  tidied_verdict =
      let T : Setting = setting_in tidy (differs m) q₁.bodies in
      let body : ℕ → Term = body_of q₁.bodies in
      decided-alike (demands_of m S) (demands_of m T) start (field_of S capacity start)
      (λ rs e r i. demands-alike S body m r (lists_alike r.self ((field_of_lem Δ S q.arities setting start proper capacity rs e).proper r.self (self_in r rs i))))
      ∙ ap (decided (demands_of m T) start) (field_alike S body (Proper name_count q.arities) (invariant Δ S q.arities setting).kept lists_alike capacity start proper)
      ∙ ap (λ s. decided (demands_of m T) s (field_of T capacity s)) (start-alike (differs m) q q₁ alike)

-- with tidied bodies, and with tidied parts too
pub bodies_verdict : (m : Manner) (q : Question) → WellFormed q → (capacity : ℕ) → verdict_in tidy m q capacity ≡ verdict_in tidy m (bodies_tidied q) capacity
bodies_verdict m q well = tidied_verdict m q (bodies_tidied q) well (bodies_well q well) (bodies_alike q)

pub all_verdict : (m : Manner) (q : Question) → WellFormed q → (capacity : ℕ) → verdict_in tidy m q capacity ≡ verdict_in tidy m (all_tidied q) capacity
all_verdict m q well = tidied_verdict m q (all_tidied q) well (all_well q well) (all_alike q)
