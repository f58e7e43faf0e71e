-- Pairs written one behind the other are a run of bytes. Assumes nothing.
use mathlib.Core.Bool.{Bool, true, false, cond}
use mathlib.Core.List.{List, [], ◌∷◌, ◌++◌}
use mathlib.Core.Path.{◌≡◌, refl, sym, ap, ap₂, ◌∙◌}
use native.Mathlib.Omega.{arith}
use Prim.Native.Nat.{ℕ, zero, suc, ◌+◌, ◌<◌, ◌≤◌}
use lib.Dec.{eqb}
use lib.ListN.{length, get_or, set, take, length-append}
use lib.Seq.{sets, take-length}
use borrow.Author.Tests.{eq-eqb, ne_eqb}
use Rattle.calculus.specs.Cond.{Pairs}
use Rattle.terms.specs.Limits.{longest_apart}
use Rattle.terms.specs.Question.{pair_bytes}
use Rattle.terms_bytes.proofs.Stores.{sets-join}
use Rattle.field_pairs.specs.PairFlags.{pair_count}
use Rattle.field_pairs.proofs.NamePairs.{length_pairs}
use Rattle.fewest.proofs.ListLaws.{bytes-length}
use Rattle.fewest_lists.specs.Lists.{flagged, flagged_at, PairsPut, PairWritten, PairsWritten}
use Rattle.field.specs.Situation.{all_pairs}
use Rattle.field_pairs.specs.PairNumbers.{pair_at}
use Rattle.terms.specs.Limits.{name_count}

bytes-append : (D E : Pairs) → pair_bytes (D ++ E) ≡ pair_bytes D ++ pair_bytes E
unfolding pair_bytes
bytes-append [] E = refl
bytes-append (p ∷ D) E = ap (λ l. p.0 ∷ p.1 ∷ l) (bytes-append D E)

-- One pair.
module _ (flags : List ℕ) (k : ℕ) (out : List ℕ) (end : ℕ) where
  pub not_written : get_or flags k 0 ≡ 0 → PairWritten flags k out end end out
  unfolding PairWritten flagged_at pair_bytes
  not_written e =
      let z : cond (eqb (get_or flags k 0) 0) [] (pair_at name_count k ∷ []) ≡ [] = ap (λ t. cond t [] (pair_at name_count k ∷ [])) (eq-eqb (get_or flags k 0) 0 e) in
      record { ends = rw z (omega arith); written = rw z refl }

  pub pair_written : (get_or flags k 0 ≡ 0 → ⊥) → (a b : ℕ) → a ≡ (pair_at name_count k).0 → b ≡ (pair_at name_count k).1
      → PairWritten flags k out end (end + 2) (set (set out end a) (end + 1) b)
  unfolding PairWritten flagged_at pair_bytes
  pair_written n a b x y =
      let z : cond (eqb (get_or flags k 0) 0) [] (pair_at name_count k ∷ []) ≡ pair_at name_count k ∷ [] = ap (λ t. cond t [] (pair_at name_count k ∷ [])) (ne_eqb (get_or flags k 0) 0 n) in
      let s : end + 1 ≡ suc end = omega arith in
      record { ends = rw z refl; written = rw (z, x, y, s) refl }

pub one_short : (flags : List ℕ) (k : ℕ) → length (pair_bytes (flagged_at flags k)) ≤ 2
unfolding flagged_at pair_bytes
one_short flags k = go (eqb (get_or flags k 0) 0)
  where
    go : (t : Bool) → length (pair_bytes (cond t [] (pair_at name_count k ∷ []))) ≤ 2
    go true = omega arith
    go false = omega arith

-- The pairs below k.
flagged-more : (k : ℕ) (fs : List ℕ) (ps : Pairs) (d : ℕ × ℕ) → k < length fs → k < length ps
    → flagged (take (suc k) fs) (take (suc k) ps) ≡ flagged (take k fs) (take k ps) ++ cond (eqb (get_or fs k 0) 0) [] (get_or ps k d ∷ [])
unfolding flagged
flagged-more k [] ps d h l = absurd (omega arith)
flagged-more k (f ∷ fs) [] d h l = absurd (omega arith)
flagged-more zero (f ∷ fs) (p ∷ ps) d h l = refl
flagged-more (suc k) (f ∷ fs) (p ∷ ps) d h l = go (eqb f 0) (flagged-more k fs ps d (omega arith) (omega arith))
  where
    go : (t : Bool) → flagged (take (suc k) fs) (take (suc k) ps) ≡ flagged (take k fs) (take k ps) ++ cond (eqb (get_or fs k 0) 0) [] (get_or ps k d ∷ [])
        → cond t (flagged (take (suc k) fs) (take (suc k) ps)) (p ∷ flagged (take (suc k) fs) (take (suc k) ps))
        ≡ cond t (flagged (take k fs) (take k ps)) (p ∷ flagged (take k fs) (take k ps)) ++ cond (eqb (get_or fs k 0) 0) [] (get_or ps k d ∷ [])
    go true e = e
    go false e = ap (p ∷◌) e

abbrev pub below : List ℕ → ℕ → Pairs
below flags k = flagged (take k flags) (take k (all_pairs name_count))

pub pairs_start : (flags out : List ℕ) (put : ℕ) → PairsPut (below flags 0) out put put out
unfolding flagged pair_bytes
pairs_start flags out put = record { ends = omega arith; written = refl }

pub pairs-more : (flags out : List ℕ) (put k end r : ℕ) (out₁ out₂ : List ℕ) → k < pair_count → length flags ≡ pair_count
    → PairsPut (below flags k) out put end out₁ → PairWritten flags k out₁ end r out₂ → PairsPut (below flags (k + 1)) out put r out₂
unfolding PairWritten flagged_at pair_at
pairs-more flags out put k end r out₁ out₂ h l p w =
    let s : k + 1 ≡ suc k = omega arith in
    let D = below flags k in
    let E : Pairs = cond (eqb (get_or flags k 0) 0) [] (get_or (all_pairs name_count) k (0, 0) ∷ []) in
    let m : below flags (k + 1) ≡ D ++ E = rw s (flagged-more k flags (all_pairs name_count) (0, 0) (omega arith) (omega (arith, length_pairs))) in
    let b : pair_bytes (below flags (k + 1)) ≡ pair_bytes D ++ pair_bytes E = ap pair_bytes m ∙ bytes-append D E in
    record {
      ends = omega (arith, ap length b, length-append (pair_bytes D) (pair_bytes E), p.ends, w.ends);
      written = w.written ∙ ap (λ o. sets o end (pair_bytes E)) p.written
          ∙ sets-join out put end (pair_bytes D) (pair_bytes E) p.ends ∙ ap (sets out put) (sym b);
    }

pub pairs-whole : (flags out : List ℕ) (put k end : ℕ) (out₁ : List ℕ) → k ≡ pair_count → length flags ≡ pair_count
    → PairsPut (below flags k) out put end out₁ → PairsWritten flags out put end out₁
unfolding PairsWritten
pairs-whole flags out put k end out₁ e l p =
    let x : take k flags ≡ flags = ap (λ (n : ℕ). take n flags) (e ∙ sym l) ∙ take-length flags in
    let y : take k (all_pairs name_count) ≡ (all_pairs name_count) = ap (λ (n : ℕ). take n (all_pairs name_count)) (e ∙ sym length_pairs) ∙ take-length (all_pairs name_count) in
    let z : flagged (take k flags) (take k (all_pairs name_count)) ≡ flagged flags (all_pairs name_count) = ap₂ flagged x y in
    record { ends = p.ends ∙ ap (λ D. put + length (pair_bytes D)) z; written = p.written ∙ ap (λ D. sets out put (pair_bytes D)) z }

flagged-length : (fs : List ℕ) (ps : Pairs) → length (flagged fs ps) ≤ length ps
unfolding flagged
flagged-length [] ps = omega arith
flagged-length (f ∷ fs) [] = omega arith
flagged-length (f ∷ fs) (p ∷ ps) = go (eqb f 0) (flagged-length fs ps)
  where
    go : (t : Bool) → length (flagged fs ps) ≤ length ps → length (cond t (flagged fs ps) (p ∷ flagged fs ps)) ≤ suc (length ps)
    go true h = omega arith
    go false h = omega arith

-- as many bytes at most as check 12 allows
pub flagged-bytes : (flags : List ℕ) → length (pair_bytes (flagged flags (all_pairs name_count))) ≤ longest_apart
flagged-bytes flags = omega (arith, bytes-length (flagged flags (all_pairs name_count)), flagged-length flags (all_pairs name_count), length_pairs)
