-- The loops of checks 5, 6 and 12: what has been passed does not matter to the answer.
use mathlib.Core.Path.{◌≡◌, refl, ap, ◌∙◌}
use mathlib.Core.Bool.{Bool, true, false, ◌&&◌}
use mathlib.Core.List.{List, [], ◌∷◌}
use Prim.Native.Nat.{ℕ, zero, suc, ◌+◌, ◌-◌, ◌≤◌, ◌<◌}
use native.Mathlib.Omega.{arith}
use lib.ListN.{length, get_or, drop, drop_of_length-le}
use borrow.Author.Tests.{le-leb, lt-leb, lt-ltb, le-ltb, eq-eqb, ne_eqb}
use Rattle.calculus.specs.Cond.{Pairs}
use Rattle.calculus.specs.Term.{Term}
use Rattle.terms.specs.Edition.{Edition}
use Rattle.terms.specs.Answer.{Answer, refused, result, ◌>>=◌, ◌>>◌, need}
use Rattle.terms_checks.specs.Checking.{zero_for, fields_from, joint_of, control_of_all, bodies_scanned}
use Rattle.terms_bytes.specs.FieldPlaces.{after_field, field_at}
use Rattle.terms.specs.Limits.{name_count, longest_term, longest_apart}
use Rattle.terms.specs.Question.{every, fits, different_names, different_names_with, read_bodies, read_pairs, read_pairs_with, read_apart, read_apart_with}
use Rattle.terms.specs.Reading.{numbered, read_whole}
use Rattle.terms_scanning.specs.Scanning.{control_of, passing, scanned_whole, whole_answer}
use Rattle.terms_scanning.specs.declared.scan.Control.{Control}
use Rattle.std.specs.List.{list_all}
use Rattle.std.specs.Prelude.{Ok, Err}
use Rattle.terms_bytes.specs.declared.answer.Refusal.{Refusal}
use Rattle.terms.proofs.Answers.{bind_to, bind-refused}
use Rattle.terms_scanning.proofs.ScanLaws.{drop_here}

-- A test over a list.
pub all_every : (p : ℕ → Bool) (s : List ℕ) → list_all p s ≡ every p s
unfolding every
all_every p [] = refl
all_every p (x ∷ s) = ap (λ (b : Bool). p x && b) (all_every p s)

-- Check 6 over fields that follow one another.
module _ (s : List ℕ) (at m : ℕ) where
  pub sizes_fail : 0 < m → fits (field_at s at) ≡ false → every fits (fields_from s at m) ≡ false
  unfolding every fields_from
  sizes_fail = go m
    where
      go : (m : ℕ) → 0 < m → fits (field_at s at) ≡ false → every fits (fields_from s at m) ≡ false
      go zero h e = absurd (omega arith)
      go (suc m) h e = rw e

  pub sizes_pass : 0 < m → fits (field_at s at) ≡ true → every fits (fields_from s at m) ≡ every fits (fields_from s (after_field s at) (m - 1))
  unfolding every fields_from
  sizes_pass = go m
    where
      go : (m : ℕ) → 0 < m → fits (field_at s at) ≡ true → every fits (fields_from s at m) ≡ every fits (fields_from s (after_field s at) (m - 1))
      go zero h e = absurd (omega arith)
      go (suc m) h e = let q : suc m - 1 ≡ m = omega arith in rw (e, q)

  pub sizes_done : m ≡ 0 → every fits (fields_from s at m) ≡ true
  unfolding every fields_from
  sizes_done e = rw e

-- Check 12 of the pairs from a position on.
module _ (s : List ℕ) (i : ℕ) where
  pub pairs_done : length s ≤ i → zero_for (read_pairs (drop i s)) ≡ zero_for (need 12 true)
  unfolding read_pairs_with zero_for need ◌>>=◌
  pairs_done h = rw (drop_of_length-le s h)

  pub pairs_odd : i < length s → length s ≤ i + 1 → zero_for (read_pairs (drop i s)) ≡ zero_for (need 12 false)
  unfolding read_pairs_with zero_for need ◌>>=◌
  pairs_odd h l = rw (drop_here s i h, drop_of_length-le s l)

  module _ (h : i + 1 < length s) where
    two_here : drop i s ≡ get_or s i 0 ∷ get_or s (i + 1) 0 ∷ drop (i + 2) s
    two_here =
        let p : i + 1 + 1 ≡ i + 2 = omega arith in
        drop_here s i (omega arith) ∙ ap (λ l. get_or s i 0 ∷ l) (drop_here s (i + 1) h ∙ ap (λ n. get_or s (i + 1) 0 ∷ drop n s) p)

    pub pairs_wrong : different_names (get_or s i 0) (get_or s (i + 1) 0) ≡ false → zero_for (read_pairs (drop i s)) ≡ zero_for (need 12 false)
    unfolding read_pairs_with zero_for need ◌>>◌ ◌>>=◌
    pairs_wrong e = rw (two_here, e)

    pub pairs-more : different_names (get_or s i 0) (get_or s (i + 1) 0) ≡ true → zero_for (read_pairs (drop i s)) ≡ zero_for (read_pairs (drop (i + 2) s))
    unfolding read_pairs_with zero_for need ◌>>◌ ◌>>=◌
    pairs-more e = rw (two_here, e) (go (read_pairs (drop (i + 2) s)))
      where
        go : (m : Answer Pairs) → zero_for (m >>= λ D. result ((get_or s i 0, get_or s (i + 1) 0) ∷ D)) ≡ zero_for m
        go (refused k) = refl
        go (result D) = refl

pub apart_short : (s : List ℕ) → length s ≤ longest_apart → read_apart s ≡ read_pairs s
unfolding read_apart_with need ◌>>◌
apart_short s h = rw (le-leb (length s) longest_apart h)

pub apart_long : (s : List ℕ) → longest_apart < length s → zero_for (read_apart s) ≡ zero_for (need 12 false)
unfolding read_apart_with zero_for need ◌>>◌ ◌>>=◌
apart_long s h = rw (lt-leb (length s) longest_apart h)

-- Checks 7 to 9 of the bodies, one after another.
bodies_step : (ed : Edition) (arities : List ℕ) (a : ℕ) (sizes b : List ℕ) (bs : List (List ℕ)) → bodies_scanned ed arities (a ∷ sizes) (b ∷ bs)
    ≡ (scanned_whole ed 0 arities a b >>= λ p. (bodies_scanned ed arities sizes bs >>= λ q. result (joint_of p q)))
unfolding bodies_scanned scanned_whole read_bodies control_of_all ◌>>=◌
bodies_step ed arities a sizes b bs = go (read_whole ed (numbered arities) 0 a b) (read_bodies ed (numbered arities) sizes bs)
  where
    go : (m : Answer Term) (n : Answer (List Term)) →
        ((m >>= λ P. (n >>= λ Ps. result (P ∷ Ps))) >>= λ Ps. result (control_of_all Ps))
        ≡ ((m >>= λ P. result (control_of P)) >>= λ p. ((n >>= λ Ps. result (control_of_all Ps)) >>= λ q. result (joint_of p q)))
    go (refused k) n = refl
    go (result P) (refused k) = refl
    go (result P) (result Ps) = refl

module _ (ed : Edition) (s list : List ℕ) (i at : ℕ) where
  abbrev bodies_left : Answer Control
  bodies_left = bodies_scanned ed list (drop i list) (fields_from s at (length (drop i list)))

  pub bodies_none : length list ≤ i → bodies_left ≡ whole_answer (Ok passing)
  unfolding bodies_scanned read_bodies control_of_all whole_answer fields_from ◌>>=◌
  bodies_none h = rw (drop_of_length-le list h)

  module _ (h : i < length list) where
    abbrev later : Answer Control
    later = bodies_scanned ed list (drop (i + 1) list) (fields_from s (after_field s at) (length (drop (i + 1) list)))

    one_more : bodies_left ≡ (scanned_whole ed 0 list (get_or list i 0) (field_at s at) >>= λ p. (later >>= λ q. result (joint_of p q)))
    unfolding fields_from
    one_more = rw (drop_here list i h) (bodies_step ed list (get_or list i 0) (drop (i + 1) list) (field_at s at) _)

    pub bodies_fault : (k : Refusal) → scanned_whole ed 0 list (get_or list i 0) (field_at s at) ≡ whole_answer (Err k) → bodies_left ≡ whole_answer (Err k)
    unfolding whole_answer
    bodies_fault k e = one_more ∙ bind-refused _ e

    module _ (p : Control) (one : scanned_whole ed 0 list (get_or list i 0) (field_at s at) ≡ whole_answer (Ok p)) where
      pub bodies_later_fault : (k : Refusal) → later ≡ whole_answer (Err k) → bodies_left ≡ whole_answer (Err k)
      unfolding whole_answer
      bodies_later_fault k w = one_more ∙ bind_to _ one ∙ bind-refused _ w

      pub bodies_all : (q c : Control) → later ≡ whole_answer (Ok q) → c ≡ joint_of p q → bodies_left ≡ whole_answer (Ok c)
      unfolding whole_answer
      bodies_all q c w m = one_more ∙ bind_to _ one ∙ bind_to _ w ∙ rw m
