-- Theorem `settled_kept` (document 02, request 2026-04): a well-formed question that is settled at a capacity while results stay as they are is settled
-- at that capacity with results tidied, with the same word and no larger number; openly, late and early. Assumes nothing.
use mathlib.Core.Path.{◌≡◌, refl, sym, ◌∙◌, subst}
use mathlib.Core.Logic.{inl, inr}
use Prim.Native.Nat.{ℕ, ◌≤◌}
use native.Mathlib.Omega.{arith}
use Rattle.calculus.specs.Definitions.{Defs}
use Rattle.calculus.specs.Term.{Term}
use Rattle.calculus.specs.Tidy.{tidy}
use Rattle.terms.specs.Limits.{name_count}
use Rattle.terms.specs.Question.{Question}
use Rattle.terms.proofs.WellFormed.{WellFormed}
use Rattle.steps.specs.Forms.{as_it_is}
use Rattle.steps.proofs.FormLaws.{Form, as_it_is_lem, tidied_form}
use Rattle.steps.proofs.QuestionDefinitions.{definitions}
use Rattle.field.specs.Field.{PastLimit, FieldSize}
use Rattle.field.specs.Setting.{Setting, setting_in}
use Rattle.field.specs.Situation.{start_in}
use Rattle.field.proofs.FormedParts.{form_situation, situation_formed}
use Rattle.field.proofs.SettledKept.{limits_kept, no_larger}
use Rattle.verdict.specs.Entries.{Defines}
use Rattle.verdict.specs.Meaning.{PartsRelated}
use Rattle.verdict.specs.Verdict.{Manner, openly, named, differs, Verdict, Numbered, unsettled, same, different, verdict_in}
use Rattle.verdict.proofs.RelatedVerdicts.{question_defines}
use Rattle.verdict.proofs.VerdictIsDefinition13.{formed_unsettled, formed_size, formed_same, formed_different}
use Rattle.verdict.proofs.VerdictsAreDefinitions7To10.{formed_bisimilar, formed_not_bisimilar}

-- The word, whatever the manner.
module _ {form : Term → Term} (formed : Form form) (q : Question) (well : WellFormed q) (Δ : Defs) (defines : Defines q Δ) (capacity n : ℕ) where
  formed_alike : (m : Manner) → verdict_in form m q capacity ≡ same n → PartsRelated m Δ q
  formed_alike openly e = formed_same formed q well Δ defines capacity n e
  formed_alike (named k) e = formed_bisimilar formed q well Δ defines k capacity n e

  formed_unlike : (m : Manner) → verdict_in form m q capacity ≡ different n → ¬ PartsRelated m Δ q
  formed_unlike openly e = formed_different formed q well Δ defines capacity n e
  formed_unlike (named k) e = formed_not_bisimilar formed q well Δ defines k capacity n e

-- the same word with a number that is no larger
pub record Kept (form : Term → Term) (m : Manner) (q : Question) (capacity n : ℕ) (word : ℕ → Verdict) : Type 0 where
  pub number : ℕ
  pub smaller : number ≤ n
  pub verdict : verdict_in form m q capacity ≡ word number

module _ {form : Term → Term} (formed : Form form) (m : Manner) (q : Question) (well : WellFormed q) (capacity n : ℕ) where
  Δ : Defs
  Δ = definitions q.arities q.bodies well.bodies

  defines : Defines q Δ
  unfolding Δ
  defines = question_defines q well.bodies

  abbrev S : (Term → Term) → Setting
  S f = setting_in f (differs m) q.bodies

  start_formed : start_in form (differs m) q ≡ form_situation formed (start_in as_it_is (differs m) q)
  unfolding start_in
  start_formed = situation_formed formed name_count q.first q.second _

  module _ (settled : Numbered (verdict_in as_it_is m q capacity) n) where
    within : ¬ PastLimit Δ (S as_it_is) (start_in as_it_is (differs m) q) capacity
    within p = go settled ((formed_unsettled as_it_is_lem m q well Δ defines capacity).1 p)
      where
        go : Numbered (verdict_in as_it_is m q capacity) n → verdict_in as_it_is m q capacity ≡ unsettled → ⊥
        go (inl e) u = let z : same n ≡ unsettled = sym e ∙ u in let o : ◌≡◌ {A = ℕ} 0 1 = cc in omega arith
        go (inr e) u = let z : different n ≡ unsettled = sym e ∙ u in let o : ◌≡◌ {A = ℕ} 0 1 = cc in omega arith

    still_within : ¬ (verdict_in form m q capacity ≡ unsettled)
    unfolding setting_in
    still_within u =
        limits_kept formed Δ (S form) (start_in as_it_is (differs m) q) capacity within
        (subst (λ s. PastLimit Δ (S form) s capacity) start_formed ((formed_unsettled formed m q well Δ defines capacity).0 u))

    fewer : (k : ℕ) → Numbered (verdict_in form m q capacity) k → k ≤ n
    unfolding setting_in
    fewer k h =
        no_larger formed Δ (S form) (start_in as_it_is (differs m) q) capacity n k within (formed_size as_it_is_lem m q well Δ defines capacity n settled)
        (subst (λ s. FieldSize Δ (S form) s k) start_formed (formed_size formed m q well Δ defines capacity k h))

  same_kept : verdict_in as_it_is m q capacity ≡ same n → Kept form m q capacity n same
  same_kept e = go (verdict_in form m q capacity) refl
    where
      go : (v : Verdict) → verdict_in form m q capacity ≡ v → Kept form m q capacity n same
      go unsettled u = absurd (still_within (inl e) u)
      go (same k) u = record { number = k; smaller = fewer (inl e) k (inl u); verdict = u }
      go (different k) u = absurd (formed_unlike formed q well Δ defines capacity k m u (formed_alike as_it_is_lem q well Δ defines capacity n m e))

  different_kept : verdict_in as_it_is m q capacity ≡ different n → Kept form m q capacity n different
  different_kept e = go (verdict_in form m q capacity) refl
    where
      go : (v : Verdict) → verdict_in form m q capacity ≡ v → Kept form m q capacity n different
      go unsettled u = absurd (still_within (inr e) u)
      go (same k) u = absurd (formed_unlike as_it_is_lem q well Δ defines capacity n m e (formed_alike formed q well Δ defines capacity k m u))
      go (different k) u = record { number = k; smaller = fewer (inr e) k (inr u); verdict = u }

pub settled_kept : (m : Manner) (q : Question) → WellFormed q → (capacity n : ℕ)
    → (verdict_in as_it_is m q capacity ≡ same n → Kept tidy m q capacity n same) × (verdict_in as_it_is m q capacity ≡ different n → Kept tidy m q capacity n different)
settled_kept m q well capacity n = (same_kept tidied_form m q well capacity n, different_kept tidied_form m q well capacity n)
