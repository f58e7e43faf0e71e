-- Checks 3 and 4 as the code makes them, and what they leave to the checks of the fields.
use mathlib.Core.Path.{◌≡◌, refl, sym, ap, ◌∙◌}
use mathlib.Core.Bool.{Bool, true, false, true≢false, false≢true}
use mathlib.Core.List.{List, [], ◌∷◌}
use Prim.Native.Nat.{ℕ, ◌≤◌, ◌<◌}
use native.Mathlib.Omega.{arith}
use lib.ListN.{length, get_or, drop}
use lib.Dec.{eqb}
use borrow.Author.Tests.{le-leb, lt-leb, eqb-true, eqb-false, eq-eqb, ne_eqb}
use Rattle.terms.specs.Edition.{Edition, one, two, version_byte}
use Rattle.terms.specs.Answer.{result, ◌>>=◌, ◌>>◌, need}
use Rattle.terms_checks.specs.Checking.{checked_answer, zero_for, apart_place, fields_at}
use Rattle.terms_bytes.specs.Counted.{edition_from}
use Rattle.terms_bytes.specs.FieldPlaces.{after_field}
use Rattle.terms.specs.Limits.{longest_question}
use Rattle.terms.specs.Operations.{check_answer}
use Rattle.terms.specs.Question.{version, check_fields, check_in, check_with, edition_of, question_with}
use Rattle.std.specs.Prelude.{Result, Err, ⊤}
use Rattle.terms_bytes.specs.Refusals.{number_of}
use Rattle.terms_bytes.specs.declared.answer.Refusal.{Refusal}
use Rattle.terms_bytes.specs.declared.answer.Refusal.TheVariants.{Version, Layout}
use Rattle.terms_checks.proofs.FramedPlaces.{framed_there, framed_not}

module _ (ed : Edition) where
  pub nothing_refused : (s : List ℕ) → length s ≡ 0 → zero_for (check_in ed s) ≡ checked_answer (Err Version)
  unfolding zero_for check_with version checked_answer number_of ◌>>=◌
  nothing_refused [] h = refl
  nothing_refused (b ∷ s) h = absurd (omega arith)

  pub version-refused : (s : List ℕ) → 0 < length s → (get_or s 0 0 ≡ version_byte ed → ⊥) → zero_for (check_in ed s) ≡ checked_answer (Err Version)
  unfolding zero_for check_with version checked_answer number_of need ◌>>◌ ◌>>=◌
  version-refused [] h n = absurd (omega arith)
  version-refused (b ∷ s) h n = rw (ne_eqb b (version_byte ed) n)

module _ (ed : Edition) (s : List ℕ) (some : 0 < length s) (first : get_or s 0 0 ≡ version_byte ed) where
  behind-version : version ed s ≡ result (drop 1 s)
  unfolding version need ◌>>◌
  behind-version = go s some first
    where
      go : (s : List ℕ) → 0 < length s → get_or s 0 0 ≡ version_byte ed → version ed s ≡ result (drop 1 s)
      go [] h e = absurd (omega arith)
      go (b ∷ bs) h e = rw (eq-eqb b (version_byte ed) e)

  pub length-refused : longest_question < length s → zero_for (check_in ed s) ≡ checked_answer (Err Layout)
  unfolding zero_for check_with checked_answer number_of need ◌>>◌ ◌>>=◌
  length-refused h = rw (behind-version, lt-leb (length s) longest_question h)

  module _ (short : length s ≤ longest_question) (bytes : (i : ℕ) → get_or s i 0 < 256) where
    pub framing_refused : eqb (after_field s (apart_place s)) (length s) ≡ false → zero_for (check_in ed s) ≡ checked_answer (Err Layout)
    unfolding zero_for check_with checked_answer number_of need ◌>>◌ ◌>>=◌
    framing_refused e =
        rw (behind-version, le-leb (length s) longest_question short, framed_not s bytes some (eqb-false (after_field s (apart_place s)) (length s) e))

    pub framing_passed : eqb (after_field s (apart_place s)) (length s) ≡ true → zero_for (check_in ed s) ≡ zero_for (check_fields ed (fields_at s))
    unfolding check_with zero_for need ◌>>◌ ◌>>=◌
    framing_passed e =
        rw (behind-version, le-leb (length s) longest_question short, framed_there s bytes (eqb-true (after_field s (apart_place s)) (length s) e))

-- The edition that the first byte says.
pub says_two : (s : List ℕ) → get_or s 0 0 ≡ 2 → edition_of s ≡ two
unfolding edition_of
says_two s e = go (eqb (get_or s 0 0) 2) (eq-eqb (get_or s 0 0) 2 e)
  where
    go : (t : Bool) → t ≡ true → elim t [ true ↦ two | false ↦ one ] ≡ two
    go true q = refl
    go false q = absurd (false≢true q)

pub says_one : (s : List ℕ) → (get_or s 0 0 ≡ 2 → ⊥) → edition_of s ≡ one
unfolding edition_of
says_one s n = go (eqb (get_or s 0 0) 2) (ne_eqb (get_or s 0 0) 2 n)
  where
    go : (t : Bool) → t ≡ false → elim t [ true ↦ two | false ↦ one ] ≡ one
    go false q = refl
    go true q = absurd (true≢false q)

pub edition_says : (s : List ℕ) (n : ℕ) → n ≡ get_or s 0 0 → edition_from (eqb n 2) ≡ edition_of s
unfolding edition_from
edition_says s n e = go (eqb n 2) refl
  where
    go : (t : Bool) → eqb n 2 ≡ t → edition_from t ≡ edition_of s
    go true q = sym (says_two s (sym e ∙ eqb-true n 2 q))
    go false q = sym (says_one s (λ z. eqb-false n 2 q (e ∙ z)))

pub own_checked : (ed : Edition) (s : List ℕ) (r : Result ⊤ Refusal) → ed ≡ edition_of s → zero_for (check_in ed s) ≡ checked_answer r → check_answer s ≡ checked_answer r
unfolding check_answer question_with zero_for
own_checked ed s r e h = ap (λ (x : Edition). zero_for (check_in x s)) (sym e) ∙ h
