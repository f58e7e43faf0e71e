-- The pairs of which both names are free, as bits. Assumes nothing.
use mathlib.Core.Bool.{Bool, true, false, cond}
use mathlib.Core.List.{List}
use mathlib.Core.Path.{◌≡◌, refl, sym, ap, ◌∙◌}
use native.Mathlib.Omega.{arith}
use Prim.Native.Nat.{ℕ, ◌+◌, ◌*◌, ◌<◌}
use lib.Dec.{eqb}
use lib.ListN.{get_or}
use borrow.Author.Tests.{eq-eqb, ne_eqb}
use Rattle.terms.specs.Limits.{name_count}
use Rattle.field_slots.specs.Chains.{WordIs}
use Rattle.field_slots.specs.Key.{BitIs, OctetIs}
use Rattle.field_pairs.specs.PairNumbers.{pair_at}
use Rattle.field_pairs.specs.PairFlags.{pair_count, FirstIs, SecondIs}
use Rattle.field_pairs.specs.Slot.{octets, octet}
use Rattle.field_slots.specs.Update.{if_free, kept_flag, kept_flags}
use Rattle.field_slots.proofs.KeyLaws.{word_none}
use Rattle.field_slots.proofs.UpdateLaws.{kept_at}

free_not : (free v : ℕ) → free ≡ 0 → if_free free v ≡ 0
unfolding if_free
free_not free v z = rw (eq-eqb free 0 z)

free_so : (free v : ℕ) → (free ≡ 0 → ⊥) → if_free free v ≡ v
unfolding if_free
free_so free v z = rw (ne_eqb free 0 z)

no_flag : (free v : ℕ) → v ≡ 0 → if_free free v ≡ 0
unfolding if_free
no_flag free v z = rw z (go (eqb free 0))
  where
    go : (b : Bool) → ◌≡◌ {A = ℕ} (cond b 0 0) 0
    go true = refl
    go false = refl

module _ (flags free : List ℕ) (i : ℕ) (inside : i < pair_count) where
  kept-none : get_or flags i 0 ≡ 0 → get_or (kept_flags flags free) i 0 ≡ 0
  unfolding kept_flag
  kept-none z =
      kept_at flags free i inside
      ∙ no_flag (get_or free (pair_at name_count i).0 0) (if_free (get_or free (pair_at name_count i).1 0) (get_or flags i 0)) (no_flag (get_or free (pair_at name_count i).1 0) (get_or flags i 0) z)

  bit-none : get_or (kept_flags flags free) i 0 ≡ 0 → BitIs (kept_flags flags free) i 0
  bit-none z = record { small = omega arith; is = λ l. sym z }

  pub bit_off : get_or flags i 0 ≡ 0 → BitIs (kept_flags flags free) i 0
  bit_off z = bit-none (kept-none z)

  module _ (a : ℕ) (first : FirstIs i a) where
    pub bit-first : get_or free a 0 ≡ 0 → BitIs (kept_flags flags free) i 0
    unfolding kept_flag
    bit-first z = bit-none (
        kept_at flags free i inside
        ∙ free_not (get_or free (pair_at name_count i).0 0) (if_free (get_or free (pair_at name_count i).1 0) (get_or flags i 0)) (ap (λ n. get_or free n 0) (sym first.is) ∙ z)
        )

    module _ (b : ℕ) (second : SecondIs i b) where
      pub bit-second : get_or free b 0 ≡ 0 → BitIs (kept_flags flags free) i 0
      unfolding kept_flag
      bit-second z = bit-none (
          kept_at flags free i inside
          ∙ no_flag (get_or free (pair_at name_count i).0 0) (if_free (get_or free (pair_at name_count i).1 0) (get_or flags i 0))
          (free_not (get_or free (pair_at name_count i).1 0) (get_or flags i 0) (ap (λ n. get_or free n 0) (sym second.is) ∙ z))
          )

      module _ (apart : get_or flags i 0 ≡ 0 → ⊥) (f : get_or free a 0 ≡ 0 → ⊥) (s : get_or free b 0 ≡ 0 → ⊥) where
        kept-all : get_or (kept_flags flags free) i 0 ≡ get_or flags i 0
        unfolding kept_flag
        kept-all =
            kept_at flags free i inside
            ∙ free_so (get_or free (pair_at name_count i).0 0) (if_free (get_or free (pair_at name_count i).1 0) (get_or flags i 0)) (λ z. f (ap (λ n. get_or free n 0) first.is ∙ z))
            ∙ free_so (get_or free (pair_at name_count i).1 0) (get_or flags i 0) (λ z. s (ap (λ n. get_or free n 0) second.is ∙ z))

        pub bit_on : BitIs (kept_flags flags free) i 1
        bit_on = record { small = omega arith; is = λ l. omega (arith, apart, kept-all, l) }

-- the byte of eight pairs of which none is apart
pub octet-none : (flags free : List ℕ) (k low high : ℕ) → k < octets → WordIs flags (8 * k) low → WordIs flags (8 * k + 4) high → low + high ≡ 0
    → OctetIs (kept_flags flags free) k 0
unfolding OctetIs octet
octet-none flags free k low high inside l h z D q =
    let (a, b, c, d) = word_none flags (8 * k) low l.is (omega arith) in
    let (e, f, g, i) = word_none flags (8 * k + 4) high h.is (omega arith) in
    let n : 8 * k + 0 ≡ 8 * k = omega arith in
    let r : 8 * k + 5 ≡ 8 * k + 4 + 1 = omega arith in
    let s : 8 * k + 6 ≡ 8 * k + 4 + 2 = omega arith in
    let t : 8 * k + 7 ≡ 8 * k + 4 + 3 = omega arith in
    rw (n, r, s, t, none (8 * k) (omega arith) a, none (8 * k + 1) (omega arith) b, none (8 * k + 2) (omega arith) c, none (8 * k + 3) (omega arith) d, none (8 * k + 4) (omega arith) e, none (8 * k + 4 + 1) (omega arith) f, none (8 * k + 4 + 2) (omega arith) g, none (8 * k + 4 + 3) (omega arith) i)
  where
    none : (i : ℕ) → i < pair_count → get_or flags i 0 ≡ 0 → get_or (kept_flags flags free) i 0 ≡ 0
    none i = kept-none flags free i
