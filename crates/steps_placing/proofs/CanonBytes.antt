-- An entry that is made from the classes of a condition, an action and the result has the bytes of the step in canonical form.
-- Assumes nothing.
use mathlib.Core.List.{List}
use mathlib.Core.Path.{◌≡◌, refl, sym, ◌∙◌}
use native.Mathlib.Omega.{arith}
use Prim.Native.Nat.{ℕ, ◌<◌, ◌≤◌}
use lib.ListN.{length, get_or, take}
use lib.Seq.{ext_get_or, get_or-take, length-take-le}
use Rattle.calculus.specs.Abstraction.{Act, tau_a, inp_a, out_a, bout_a}
use Rattle.calculus.specs.Term.{Term, ren, ◌•◌}
use Rattle.calculus.specs.Cond.{Cond, cls}
use Rattle.calculus.specs.Published.{Action, silent, input, output, new_output}
use Rattle.terms.specs.Limits.{name_count, longest_term}
use Rattle.terms.specs.Encoding.{encode}
use Rattle.steps_entries.specs.EntryBytes.{entry_bytes}
use Rattle.steps.specs.Forms.{result_form}
use Rattle.steps.specs.Listed.{classes_of, kind_of, channel_of, object_of, listed_as, canon_step, result_bytes, bytes}
use Rattle.steps_entries.specs.declared.listed.ActionBytes.{ActionBytes}
use Rattle.steps.proofs.ClassLists.{length_classes, class_of}

-- An action rewritten by the condition, for the new name x, and its bytes.
abbrev pub action_of_step : Cond → ℕ → Act → Action
action_of_step M x tau_a = silent
action_of_step M x (inp_a a) = input (cls M a) x
action_of_step M x (out_a a b) = output (cls M a) (cls M b)
action_of_step M x (bout_a a) = new_output (cls M a) x

abbrev pub coded : Action → ActionBytes
coded α = record { kind = kind_of α; channel = channel_of α; object = object_of α }

module _ (class : List ℕ) (M : Cond) (many : name_count ≤ length class) (classes : (n : ℕ) → n < name_count → get_or class n 0 ≡ cls M n) where
  pub classes_are : take name_count class ≡ classes_of name_count M
  classes_are =
      let l : length (take name_count class) ≡ name_count = length-take-le name_count class many in
      ext_get_or 0 (take name_count class) (classes_of name_count M) (l ∙ sym (length_classes name_count M))
      (λ i h. let k : i < name_count = omega arith in
      get_or-take name_count class i 0 k ∙ classes i k ∙ sym (class_of name_count M i 0 k))

  entry_listed : (α : Action) (A : Term) → entry_bytes class (coded α) (encode 0 A) ≡ bytes longest_term (listed_as name_count M α A)
  unfolding entry_bytes bytes listed_as result_bytes
  entry_listed α A = rw classes_are refl

  pub entry-canonical : (x : ℕ) (α : Act) (A : Term)
      → entry_bytes class (coded (action_of_step M x α)) (result_bytes (canon_step result_form name_count x M α A)) ≡ bytes longest_term (canon_step result_form name_count x M α A)
  unfolding canon_step result_bytes listed_as
  entry-canonical x tau_a A = entry_listed silent (result_form (ren (cls M) A))
  entry-canonical x (inp_a a) A = entry_listed (input (cls M a) x) (result_form (ren (x • cls M) A))
  entry-canonical x (out_a a b) A = entry_listed (output (cls M a) (cls M b)) (result_form (ren (cls M) A))
  entry-canonical x (bout_a a) A = entry_listed (new_output (cls M a) x) (result_form (ren (x • cls M) A))
