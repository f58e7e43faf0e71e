-- What the code reads at places is what stands in the fields.
use mathlib.Core.Path.{◌≡◌, sym}
use mathlib.Core.List.{List}
use Prim.Native.Nat.{ℕ}
use lib.ListN.{length, drop}
use Rattle.terms_checks.specs.Checking.{fields_from, first_place, second_place, apart_place, fields_at, bodies_scanned, parts_scanned}
use Rattle.terms_bytes.specs.FieldPlaces.{arities_of, after_field, field_at, field_place}
use Rattle.terms.specs.Edition.{Edition}
use Rattle.terms.specs.Question.{every, fits}
use Rattle.terms_scanning.specs.Scanning.{whole_answer}
use Rattle.std.specs.Prelude.{Result}
use Rattle.terms_bytes.specs.declared.answer.Refusal.{Refusal}
use Rattle.terms_scanning.specs.declared.scan.Control.{Control}

module _ (ed : Edition) (s list : List ℕ) (is : list ≡ arities_of s) where
  pub bodies_at : (at : ℕ) (r : Result Control Refusal) → at ≡ field_place s 0 →
      bodies_scanned ed list (drop 0 list) (fields_from s at (length (drop 0 list))) ≡ whole_answer r →
      bodies_scanned ed (fields_at s).arities (fields_at s).arities (fields_at s).bodies ≡ whole_answer r
  unfolding fields_at
  bodies_at at r p e = rw (← is, ← p) e

  pub parts_at : (first : ℕ) (r : Result Control Refusal) → first ≡ first_place s →
      parts_scanned ed list (field_at s first) (field_at s (after_field s first)) ≡ whole_answer r →
      parts_scanned ed (fields_at s).arities (fields_at s).first (fields_at s).second ≡ whole_answer r
  unfolding fields_at second_place
  parts_at first r p e = rw (← is, ← p) e

module _ (s list : List ℕ) (is : list ≡ arities_of s) where
  pub arities_at : (fields_at s).arities ≡ list
  unfolding fields_at
  arities_at = sym is

  pub fits-at : (at : ℕ) → at ≡ field_place s 0 → every fits (fields_at s).bodies ≡ every fits (fields_from s at (length list))
  unfolding fields_at
  fits-at at p = rw (is, p)

module _ (s : List ℕ) (first : ℕ) (p : first ≡ first_place s) where
  pub first_at : (fields_at s).first ≡ field_at s first
  unfolding fields_at
  first_at = rw p

  pub second_at : (fields_at s).second ≡ field_at s (after_field s first)
  unfolding fields_at second_place
  second_at = rw p

pub apart_at : (s list : List ℕ) → list ≡ field_at s (apart_place s) → (fields_at s).apart ≡ list
unfolding fields_at
apart_at s list e = sym e
