-- The table of places, row by row from the last one. Assumes nothing.
use mathlib.Core.List.{List, [], ◌++◌}
use mathlib.Core.Logic.{⊎_elim}
use mathlib.Core.Path.{◌≡◌, refl, sym, ap, subst, ◌∙◌}
use native.Mathlib.Nat.{eq-or-lt_of_le, not-suc-le-zero}
use native.Mathlib.Omega.{arith}
use borrow.Author.Count.{below_more}
use Prim.Native.Nat.{ℕ, ◌+◌, ◌-◌, ◌<◌, ◌≤◌}
use lib.ListN.{length, get_or, set}
use lib.Seq.{get_or-set_same, get_or-set_other}
use Rattle.calculus.specs.Cond.{Cond, ◌▷◌}
use Rattle.calculus.specs.Definitions.{Defs, opened}
use Rattle.calls.specs.Reach.{Bare, Reached, here}
use Rattle.calls.specs.ReachLimit.{Call}
use Rattle.calls.specs.ReachSearch.{Place}
use Rattle.terms.specs.Question.{Question}
use Rattle.steps_partitions.specs.Partition.{rank, Partition, continuations, apart_from}
use Rattle.steps_partitions.proofs.PartitionLaws.{apart_partition, apart_last, partition_below}
use Rattle.steps_reach.specs.CallTable.{most_calls}
use Rattle.steps_places.specs.PlaceTable.{bit, Has, along, Means, InTable, PlacesAre}
use Rattle.steps_places.specs.PlaceWalks.{WithBit, Scene, Reachable, SoundTable, ClosedAt, CloseRowIs, Cleared, StartedIs, FindPlacesIs}
use Rattle.steps_places.proofs.BitLaws.{no_bit}
use Rattle.steps_places.proofs.PutLaws.{set_there, set_only}
use Rattle.steps_places.proofs.Meanings.{means_none, means_along, means_same, along_partition}
use Rattle.steps_places.proofs.OpenLaws.{reached_on, reached-sized, match_within}
use Rattle.steps_places.proofs.CloseLaws.{row_once, partition_once, closed_kept}

pub clear_none : (f : List ℕ) → Cleared f 0
unfolding Cleared
clear_none f r l = absurd (not-suc-le-zero l)

pub clear_more : (f : List ℕ) (n : ℕ) → n < length f → Cleared f n → Cleared (set f n 0) (n + 1)
unfolding Cleared
clear_more f n l c = below_more (λ r. get_or (set f n 0) r 0 ≡ 0) n (λ r h. get_or-set_other f n r 0 0 (λ e. omega arith) ∙ c r h) (get_or-set_same f n 0 0 l)

pub started : (f : List ℕ) (rows w : ℕ) → 0 < rows → rows ≤ length f → Cleared f rows → WithBit 0 0 w → StartedIs (set f (rows - 1) w) rows
unfolding Cleared
started f rows w p l c W =
    let B : WithBit (get_or f (rows - 1) 0) 0 w = subst (λ x. WithBit x 0 w) (sym (c (rows - 1) (omega arith))) W in
    record {
      first = set_there f (rows - 1) 0 w B (omega arith);
      only = λ r i h x. ⊎_elim (λ (y : Has f r i). absurd (no_bit i (ap (λ z. bit z i) (sym (c r h)) ∙ y))) (λ (y : (r ≡ rows - 1) × (i ≡ 0)). y)
          (set_only f (rows - 1) 0 w B (omega arith) r i x);
    }

-- what holds while rows are being closed, those from `row` on closed
pub record GoingIn (q : Question) (Δ : Defs) (k : ℕ) (xs t : List ℕ) (count row : ℕ) (f : List ℕ) : Type 0 where
  pub sound : SoundTable q Δ k xs t count f
  pub first : Has f (continuations count 0 - 1) 0
  pub closed : (r j : ℕ) → row ≤ r → r < continuations count 0 → j < most_calls → Has f r j → ClosedAt Δ xs t count f r j

unfoldable pub Going : List ℕ → ℕ → List ℕ → ℕ → List ℕ → Type 0
Going question count t row f = (q : Question) (Δ : Defs) (k : ℕ) (xs : List ℕ) → Scene question q Δ k xs t count → GoingIn q Δ k xs t count row f

module _ (question : List ℕ) (count : ℕ) (t : List ℕ) where
  -- The first call is a place.
  module _ (q : Question) (Δ : Defs) (k : ℕ) (xs : List ℕ) (S : Scene question q Δ k xs t count) where
    none_means : Means xs (apart_from 0 count) []
    none_means = subst (λ n. Means xs (apart_from 0 n) []) S.names (means_none xs)

    first_place_lem : Reachable q Δ k xs t (apart_from 0 count) 0
    first_place_lem = record {
      definition = k;
      there = S.there;
      names = xs;
      within = λ x m. m;
      row = S.reaches.first;
      sized = S.sized;
      condition = [];
      reached = here;
      means = none_means;
    }

  pub going_start : (f : List ℕ) → StartedIs f (continuations count 0) → Going question count t (continuations count 0) f
  unfolding Going
  going_start f s q Δ k xs S = record {
    sound = λ r j l h x.
        let (a, b) = s.only r j l x in (
          apart_from 0 count,
          apart_partition count,
          apart_last count ∙ sym a,
          subst (Reachable q Δ k xs t (apart_from 0 count)) (sym b) (first_place_lem q Δ k xs S),
        );
    first = s.first;
    closed = λ r j l h. absurd (omega arith);
  }

  pub going_more : (row : ℕ) (f f' : List ℕ) → 0 < row → CloseRowIs question (row - 1) count t f f' → Going question count t row f
      → Going question count t (row - 1) f'
  unfolding Going
  going_more row f f' p C G q Δ k xs S =
      let I = G q Δ k xs S in
      let R = C.is q Δ k xs S I.sound in
      record {
        sound = R.sound;
        first = C.kept (continuations count 0 - 1) 0 I.first;
        closed = λ r j l h o x. ⊎_elim
            (λ (e : row - 1 ≡ r). subst (λ a. ClosedAt Δ xs t count f' a j) e (R.closed j o (subst (λ a. Has f' a j) (sym e) x)))
            (λ (g : row - 1 < r). closed_kept Δ xs t count f f' r j C.kept (I.closed r j (omega arith) h o (R.above r j g x)))
            (eq-or-lt_of_le {n = row - 1} {m = r} l);
      }

  -- At the end every row is closed.
  module _ (f : List ℕ) (q : Question) (Δ : Defs) (k : ℕ) (xs : List ℕ) (S : Scene question q Δ k xs t count) (I : GoingIn q Δ k xs t count 0 f) where
    module _ (p : Place) (T : InTable Δ xs t f p) where
      own : Partition count T.partition
      own = subst (λ n. Partition n T.partition) S.names T.is

      known : Reachable q Δ k xs t T.partition T.number
      known =
          let (v, o, e, R) = I.sound (rank T.partition) T.number (partition_below count T.partition own) T.few T.found in
          subst (λ w. Reachable q Δ k xs t w T.number) (partition_once count v T.partition o own e) R

      same-call : ◌≡◌ {A = Call} (p.definition, p.names) (known.definition, known.names)
      same-call = row_once Δ t T.number p.definition known.definition p.names known.names T.row T.sized known.row known.sized

      onward : (C : Cond) (l : ℕ) (ys : List ℕ) → Bare (opened p.names (Δ.body p.definition)) C l ys
          → InTable Δ xs t f (record { condition = p.condition ++ C; definition = l; names = ys })
      onward C l ys b =
          let h = subst (λ (c : Call). Bare (opened c.1 (Δ.body c.0)) C l ys) same-call b in
          let (i, few, row, x) = I.closed (rank T.partition) T.number (omega arith) (partition_below count T.partition own) T.few T.found
          T.partition own refl p.definition p.names T.row T.sized C l ys b in
          record {
            partition = along xs T.partition C;
            is = subst (λ n. Partition n (along xs T.partition C)) (sym S.names) (along_partition xs count S.names C T.partition own);
            number = i;
            few = few;
            row = row;
            sized = reached-sized question q Δ k xs t count S (known.condition ++ C) l ys (reached_on Δ known.reached known.sized h);
            found = x;
            means = means_along xs count S.names C T.partition p.condition own
                (match_within question q Δ k xs t count S T.partition T.number known C l ys h) T.means;
          }

      sound : (C : Cond) × Reached Δ k xs C p.definition p.names × (p.condition ▷ C) × (C ▷ p.condition)
      sound =
          let (a, b) = means_same xs T.partition p.condition known.condition T.means known.means in (
            known.condition,
            subst (λ (c : Call). Reached Δ k xs known.condition c.0 c.1) (sym same-call) known.reached,
            a,
            b,
          )

    places_are : PlacesAre Δ k xs t f
    places_are = record {
      start = record {
        partition = apart_from 0 count;
        is = subst (λ n. Partition n (apart_from 0 count)) (sym S.names) (apart_partition count);
        number = 0;
        few = omega arith;
        row = S.reaches.first;
        sized = S.sized;
        found = subst (λ r. Has f r 0) (sym (apart_last count)) I.first;
        means = none_means q Δ k xs S;
      };
      onward = onward;
      sound = sound;
    }

  pub going_end : (row : ℕ) (f : List ℕ) → row ≤ 0 → Going question count t row f → FindPlacesIs question count t f
  unfolding Going FindPlacesIs
  going_end row f l G q Δ k xs S =
      let e : row ≡ 0 = omega arith in
      places_are f q Δ k xs S (subst (λ r. GoingIn q Δ k xs t count r f) e (G q Δ k xs S))
