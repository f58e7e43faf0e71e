-- A row of the table of places, closed. Assumes nothing.
use mathlib.Core.List.{List}
use mathlib.Core.Logic.{⊎_elim}
use mathlib.Core.Path.{◌≡◌, sym, ap, subst, ◌∙◌}
use native.Mathlib.Omega.{arith}
use Prim.Native.Nat.{ℕ, ◌<◌}
use lib.ListN.{length, get_or}
use lib.Seq.{ext_get_or}
use Rattle.calculus.specs.Definitions.{Defs, opened}
use Rattle.calls.specs.Reach.{Bare}
use Rattle.calls.specs.ReachLimit.{Call}
use Rattle.terms.specs.Question.{Question}
use Rattle.steps_partitions.specs.Partition.{rank, Partition, continuations}
use Rattle.steps_partitions.proofs.RankLaws.{rank_once}
use Rattle.steps_reach.specs.CallTable.{most_calls, RowIs}
use Rattle.steps_places.specs.PlaceTable.{bit, Has, along}
use Rattle.steps_places.specs.PlaceWalks.{WithBit, Onto, Adds, Scene, Reachable, SoundTable, ClosedAt, OpenPlaceIs, CloseRowIs}
use Rattle.steps_places.proofs.BitLaws.{no_bit}
use Rattle.steps_places.proofs.Meanings.{along_partition, along-rank}
use Rattle.steps_places.proofs.OpenLaws.{goes_on}

-- A row has one call.
pub row_once : (Δ : Defs) (t : List ℕ) (j l m : ℕ) (ys zs : List ℕ) → RowIs t j (l, ys) → length ys ≡ Δ.arity l → RowIs t j (m, zs) → length zs ≡ Δ.arity m
    → ◌≡◌ {A = Call} (l, ys) (m, zs)
row_once Δ t j l m ys zs R a S b =
    let x : l ≡ m = sym R.definition ∙ S.definition in
    let n : length ys ≡ length zs = a ∙ ap Δ.arity x ∙ sym b in
    let y : ys ≡ zs = ext_get_or 0 ys zs n (λ i h. sym (R.names i h) ∙ S.names i (omega (arith, n))) in
    λ i. (x i, y i)

pub partition_once : (n : ℕ) (v w : List ℕ) → Partition n v → Partition n w → rank v ≡ rank w → v ≡ w
partition_once n v w p q e = rank_once 0 v w p.growing q.growing (p.size ∙ sym q.size) e

pub closed_kept : (Δ : Defs) (xs t : List ℕ) (count : ℕ) (f f' : List ℕ) (r j : ℕ) → ((r i : ℕ) → Has f r i → Has f' r i) → ClosedAt Δ xs t count f r j
    → ClosedAt Δ xs t count f' r j
closed_kept Δ xs t count f f' r j K c v p e l ys R n C m zs b = let (i, h, S, x) = c v p e l ys R n C m zs b in (i, h, S, K (rank (along xs v C)) i x)

-- A place opened.
module _ (question : List ℕ) (q : Question) (Δ : Defs) (k : ℕ) (xs t : List ℕ) (count : ℕ) (S : Scene question q Δ k xs t count) (f f' : List ℕ)
    (v : List ℕ) (p : Partition count v) (j : ℕ) (R : Reachable q Δ k xs t v j) (A : Adds xs t v (opened R.names (Δ.body R.definition)) f f') where
  sound_more : SoundTable q Δ k xs t count f → SoundTable q Δ k xs t count f'
  sound_more s r i l h x = ⊎_elim (λ (y : Has f r i). s r i l h y)
      (λ (y : Onto xs t v (opened R.names (Δ.body R.definition)) r i). (
        along xs v y.condition,
        along_partition xs count S.names y.condition v p,
        sym y.number,
        goes_on question q Δ k xs t count S v j R p y.condition y.definition y.names y.bare i y.row,
      )) (A.only r i x)

  above_kept : (r i : ℕ) → rank v < r → Has f' r i → Has f r i
  above_kept r i l x = ⊎_elim (λ (y : Has f r i). y)
      (λ (y : Onto xs t v (opened R.names (Δ.body R.definition)) r i).
      absurd (omega (arith, y.number, along-rank xs count S.names y.condition v p))) (A.only r i x)

  closed_now : ClosedAt Δ xs t count f' (rank v) j
  closed_now w o e l ys T n C m zs b =
      let x : v ≡ w = partition_once count v w p o (sym e) in
      let y = row_once Δ t j l R.definition ys R.names T n R.row R.sized in
      subst (λ u. (i : ℕ) × (i < most_calls) × RowIs t i (m, zs) × Has f' (rank (along xs u C)) i) x
      (A.all C m zs (subst (λ (c : Call). Bare (opened c.1 (Δ.body c.0)) C m zs) y b))

-- what holds while a row is being closed
pub record ClosingIn (q : Question) (Δ : Defs) (k : ℕ) (xs t : List ℕ) (count row : ℕ) (f₀ f : List ℕ) (done : ℕ) : Type 0 where
  pub sound : SoundTable q Δ k xs t count f
  pub above : (r i : ℕ) → row < r → Has f r i → Has f₀ r i
  pub closed : (j : ℕ) → j < most_calls → bit done j ≡ 1 → ClosedAt Δ xs t count f row j

pub record Closing (question : List ℕ) (row count : ℕ) (t f₀ f : List ℕ) (done : ℕ) : Type 0 where
  pub kept : (r i : ℕ) → Has f₀ r i → Has f r i
  pub is : (q : Question) (Δ : Defs) (k : ℕ) (xs : List ℕ) → Scene question q Δ k xs t count → SoundTable q Δ k xs t count f₀
      → ClosingIn q Δ k xs t count row f₀ f done

module _ (question : List ℕ) (row count : ℕ) (t f₀ : List ℕ) where
  pub close_start : Closing question row count t f₀ f₀ 0
  close_start = record {
    kept = λ r i x. x;
    is = λ q Δ k xs S s. record { sound = s; above = λ r i l x. x; closed = λ j l b. absurd (no_bit j b) };
  }

  pub close_more : (f : List ℕ) (done j done' : ℕ) (f' : List ℕ) → row < continuations count 0 → j < most_calls → bit (get_or f row 0) j ≡ 1
      → WithBit done j done' → OpenPlaceIs question j row count t f f' → Closing question row count t f₀ f done
      → Closing question row count t f₀ f' done'
  close_more f done j done' f' room l b W O C = record {
    kept = λ r i x. O.kept r i (C.kept r i x);
    is = λ q Δ k xs S s.
        let I = C.is q Δ k xs S s in
        let (v, p, e, R) = I.sound row j room l b in
        let A = O.is q Δ k xs v S p e R in
        record {
          sound = sound_more question q Δ k xs t count S f f' v p j R A I.sound;
          above = λ r i h x. I.above r i h (above_kept question q Δ k xs t count S f f' v p j R A r i (omega (arith, e)) x);
          closed = λ i h d. ⊎_elim
              (λ (z : i ≡ j). subst (λ a. ClosedAt Δ xs t count f' row a) (sym z)
              (subst (λ a. ClosedAt Δ xs t count f' a j) e (closed_now question q Δ k xs t count S f f' v p j R A)))
              (λ (z : bit done i ≡ 1). closed_kept Δ xs t count f f' row i O.kept (I.closed i h z)) (W.only i d);
        };
  }

  pub close_end : (f : List ℕ) (done : ℕ) → ((j : ℕ) → j < most_calls → bit (get_or f row 0) j ≡ 1 → bit done j ≡ 1)
      → Closing question row count t f₀ f done → CloseRowIs question row count t f₀ f
  close_end f done none C = record {
    kept = C.kept;
    is = λ q Δ k xs S s.
        let I = C.is q Δ k xs S s in
        record { sound = I.sound; above = I.above; closed = λ i h x. I.closed i h (none i h x) };
  }
