-- What an accepted question gives the field: its definitions, and a proper start. Assumes nothing.
use mathlib.Core.Bool.{Bool, true, false, cond}
use mathlib.Core.List.{[]}
use mathlib.Core.Path.{◌≡◌}
use native.Mathlib.Omega.{arith}
use Prim.Native.Nat.{ℕ, ◌<◌, ◌≤◌}
use lib.ListN.{length, get_or}
use Rattle.calculus.specs.Definitions.{Defs}
use Rattle.calculus.specs.Distinction.{Irr}
use Rattle.calculus.specs.Term.{Term}
use Rattle.calculus.specs.Tidy.{tidy}
use Rattle.terms.specs.Encoding.{encode}
use Rattle.terms.specs.Limits.{name_count, longest_term}
use Rattle.terms.specs.Question.{Question}
use Rattle.terms.proofs.ApartLaws.{allowed_irreflexive}
use Rattle.terms.proofs.WellFormed.{WellFormedWith, WellFormed}
use Rattle.terms.specs.Question.{body_of}
use Rattle.steps.specs.Forms.{result_form}
use Rattle.steps.proofs.FormLaws.{Form, form_scope, result_form_lem}
use Rattle.steps.proofs.QuestionDefinitions.{bodies_in_scope, opens_one}
use Rattle.steps.proofs.TidiedQuestions.{TidiedAlike}
use Rattle.field.specs.Situation.{Proper}
use Rattle.field.specs.Setting.{setting_with, setting_in, setting_of}
use Rattle.field.specs.Situation.{situation, start_with, start_in, start_of}
use Rattle.field.proofs.Link.{SettingFor}
use Rattle.field.proofs.Proper.{situation_proper}

-- what the field asks of the definitions
module _ (names : ℕ) (few : names < 128) {form : Term → Term} (formed : Form form) (differ : Bool) (q : Question) (w : WellFormedWith names q) where
  pub setting_over : (Δ : Defs) → ((k : ℕ) → Δ.arity k ≡ get_or q.arities k 0) → Δ.body ≡ body_of q.bodies
      → SettingFor Δ (setting_with names form differ q.bodies) q.arities
  setting_over Δ arities bodies = record {
    bodies = bodies;
    calls = bodies_in_scope q.arities q.bodies w.bodies Δ arities bodies;
    opens = opens_one q.arities q.bodies w.bodies Δ arities bodies;
    few = few;
    formed = formed;
  }

  pub start_over : Proper names q.arities (start_with names form differ q)
  start_over =
      situation_proper names q.arities (form q.first) (form q.second)
      (form_scope formed names q.arities 0 q.first w.first.scope) (form_scope formed names q.arities 0 q.second w.second.scope)
      (cond differ [] q.apart) (go differ)
    where
      go : (b : Bool) → Irr (cond b [] q.apart)
      go false = allowed_irreflexive names q.apart w.apart
      go true = λ a b d. absurd d

module _ {form : Term → Term} (formed : Form form) (differ : Bool) (q : Question) (w : WellFormed q) where
  pub formed_setting_lem : (Δ : Defs) → ((k : ℕ) → Δ.arity k ≡ get_or q.arities k 0) → Δ.body ≡ body_of q.bodies
      → SettingFor Δ (setting_in form differ q.bodies) q.arities
  unfolding setting_in
  formed_setting_lem = setting_over name_count (omega arith) formed differ q w

  pub formed_start : Proper name_count q.arities (start_in form differ q)
  unfolding start_in
  formed_start = start_over name_count (omega arith) formed differ q w

-- The start of a question whose parts have their form already, and, tidied, of one that differs in restrictions that bind nothing alone.
pub start-again : {form : Term → Term} → Form form → (differ : Bool) (q : Question)
    → start_in form differ (record { arities = q.arities; bodies = q.bodies; first = form q.first; second = form q.second; apart = q.apart })
    ≡ start_in form differ q
unfolding start_in
start-again formed differ q i = situation name_count (formed.again q.first i) (formed.again q.second i) (cond differ [] q.apart)

pub start-alike : (differ : Bool) (q q₁ : Question) → TidiedAlike q q₁ → start_in tidy differ q ≡ start_in tidy differ q₁
unfolding start_in
start-alike differ q q₁ alike i = situation name_count (alike.first i) (alike.second i) (cond differ [] (alike.apart i))

-- in the form of the service
pub question_setting : (differ : Bool) (q : Question) → WellFormed q → (Δ : Defs) → ((k : ℕ) → Δ.arity k ≡ get_or q.arities k 0) → Δ.body ≡ body_of q.bodies
    → SettingFor Δ (setting_of differ q.bodies) q.arities
unfolding setting_of
question_setting differ q w = formed_setting_lem result_form_lem differ q w

pub start_proper : (differ : Bool) (q : Question) → WellFormed q → Proper name_count q.arities (start_of differ q)
unfolding start_of
start_proper differ q w = formed_start result_form_lem differ q w

-- its parts are as short as those of the question
pub start_short : (differ : Bool) (q : Question) → WellFormed q
    → (length (encode 0 (start_of differ q).first) ≤ longest_term) × (length (encode 0 (start_of differ q).second) ≤ longest_term)
unfolding start_of situation
start_short differ q w = (short q.first w.first.size, short q.second w.second.size)
  where
    short : (P : Term) → length (encode 0 P) ≤ longest_term → length (encode 0 (result_form P)) ≤ longest_term
    short P h = omega (arith, result_form_lem.shorter 0 P)
