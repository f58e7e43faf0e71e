-- The side of choices and parallels that has a candidate: from each form to the side whose candidate it is, or to its communications. Assumes nothing.
use mathlib.Core.Path.{◌≡◌, refl, sym, subst}
use mathlib.Core.Bool.{Bool, true, false}
use mathlib.Core.List.{List}
use Prim.Native.Nat.{ℕ, ◌+◌, ◌-◌, ◌<◌, ◌≤◌}
use native.Mathlib.Omega.{arith}
use lib.Dec.{leb}
use lib.ListN.{length, get_or}
use borrow.Author.Tests.{leb-true, leb-false}
use Rattle.std.specs.Prelude.{Option, Some, None}
use Rattle.steps_labels.specs.LabelWalk.{Leads, MeetingIs, single_origin, OriginIs}
use Rattle.steps_passing.specs.Passing.{MiddleIs}
use Rattle.steps_tallies.specs.Tally.{end_at}
use Rattle.steps_tallies.specs.Tallying.{number_at}
use Rattle.steps_labels.proofs.LabelWalks.{nth_left, nth_right, nth_met}

none_some : {a : ℕ} → ◌≡◌ {A = Option ℕ} None (Some a) → ⊥
none_some e = let z : ◌≡◌ {A = ℕ} 0 1 = cc in omega arith

some_is : {a b : ℕ} → ◌≡◌ {A = Option ℕ} (Some a) (Some b) → a ≡ b
some_is e = cc

-- The right side stands somewhere, whatever the bytes are.
record Middle (s t : List ℕ) (at : ℕ) : Type 0 where
  place : ℕ
  is : MiddleIs s t at place

middle : (s t : List ℕ) (at : ℕ) → Middle s t at
middle s t at = go (leb (length s) (at + 1)) refl
  where
    go : (b : Bool) → leb (length s) (at + 1) ≡ b → Middle s t at
    go true e = record { place = at + 1; is = record { none = λ h. refl; is = λ h. absurd (omega (arith, leb-true (length s) (at + 1) e)) } }
    go false e = record { place = end_at t (at + 1); is = record { none = λ h. absurd (omega (arith, leb-false (length s) (at + 1) e)); is = λ h. refl } }

module _ (s t : List ℕ) (at number : ℕ) (silently : Bool) where
  pub lead_start : Leads s t at number silently at number
  unfolding Leads
  lead_start question args inner depth calls r T N = N

  module _ (b n : ℕ) (on : at ≤ b) (L : Leads s t at number silently b n) where
    pub side_one : (b < length s → 5 < get_or s b 0 → get_or s b 0 < 8 → ⊥) → OriginIs s t at number silently (single_origin b n)
    side_one one = record {
      on = on;
      one = λ z. one;
      is = λ z. L;
      inside = λ m z. absurd (none_some z);
      met = λ m z. absurd (none_some z);
    }

    module _ (l : 5 < get_or s b 0) (g : get_or s b 0 < 8) where
      pub lead_left : n < number_at t (b + 1) silently → Leads s t at number silently (b + 1) n
      unfolding Leads
      lead_left h question args inner depth calls r T N =
          let m = middle s t b in
          L question args inner depth calls r T (nth_left question s b n silently args inner depth calls l g t T m.place m.is h r N)

      module _ (m : ℕ) (M : MiddleIs s t b m) (past : number_at t (b + 1) silently ≤ n) (j : ℕ) (J : j ≡ n - number_at t (b + 1) silently) where
        pub lead_right : j < number_at t m silently → Leads s t at number silently m j
        unfolding Leads
        lead_right h question args inner depth calls r T N =
            L question args inner depth calls r T
            (nth_right question s b n silently args inner depth calls l g t T m M past r (rw J at h) (rw J at N))

        pub side_met : number_at t m silently ≤ j → b < length s → b < m → (k : ℕ) → k ≡ j - number_at t m silently
            → OriginIs s t at number silently (record { at = b; number = k; middle = Some m })
        unfolding Leads
        side_met h inside behind k K = record {
          on = on;
          one = λ z. absurd (none_some (sym z));
          is = λ z. absurd (none_some (sym z));
          inside = λ o z. (inside, (let e = some_is z in omega arith));
          met = λ o z question args inner depth calls r T N.
              L question args inner depth calls r T
              (nth_met question s b n silently args inner depth calls l g t T m M past r (rw J at h)
              (rw (K, J) at (subst (λ (o : ℕ). MeetingIs question s b o k args inner depth calls r) (sym (some_is z)) N)));
        }
