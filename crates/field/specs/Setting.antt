-- What stays the same while one question is judged: the definitions and the limits of document 01.
use Rattle.std.specs.Prelude.{Bool, List, ℕ}
use Rattle.calculus.specs.Term.{Term}
use Rattle.terms.specs.Limits.{name_count, longest_term}
use Rattle.terms.specs.Question.{body_of}
use Rattle.steps.specs.Forms.{result_form}
use Rattle.steps.specs.Limits.{most_steps}
use Rattle.steps.specs.Listing.{Listing, listing}

pub record Setting : Type 0 where
  -- how many names there are
  pub names : ℕ
  -- how many bytes a result may have
  pub longest : ℕ
  -- how many distinct steps a part may have
  pub most : ℕ
  -- how many calls a step may open: one, since a call in a body is beneath a prefix (check 11)
  pub calls : ℕ
  pub body : ℕ → Term
  -- the form of a result (request 2026-04)
  pub form : Term → Term
  -- whether all names differ, as for late and early verdicts (request 2026-02); else those not held apart may merge
  pub differ : Bool

-- for a number of names and a form of results
abbrev pub setting_with : ℕ → (Term → Term) → Bool → List Term → Setting
setting_with names form differ bodies =
    record { names = names; longest = longest_term; most = most_steps; calls = 1; body = body_of bodies; form = form; differ = differ }

unfoldable pub setting_in : (Term → Term) → Bool → List Term → Setting
setting_in form differ bodies = setting_with name_count form differ bodies

unfoldable pub setting_of : Bool → List Term → Setting
unfolding setting_in
setting_of differ bodies = setting_in result_form differ bodies

-- the list of a part's steps for the new name x
unfoldable pub steps_in : Setting → ℕ → Term → Listing
steps_in S x P = listing S.form S.names S.longest S.most S.body S.calls x P

-- the bytes of the work area for each situation of the capacity
abbrev pub slot_bytes : ℕ
slot_bytes = 256
