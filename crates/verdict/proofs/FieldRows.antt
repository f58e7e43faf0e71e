-- What the soundness and the completeness of the verdict rest on: the rows of a field, as exploration finds them. Assumes nothing.
use mathlib.Core.Path.{◌≡◌, sym, subst}
use mathlib.Core.List.{List, map}
use mathlib.Core.Logic.{inl}
use Prim.Native.Nat.{ℕ}
use Rattle.calculus.specs.Definitions.{Defs}
use Rattle.calculus.specs.Lists.{◌∈◌}
use Rattle.calculus.proofs.Membership.{all-∈}
use Rattle.field.specs.Setting.{Setting}
use Rattle.field.specs.Situation.{Situation}
use Rattle.field.specs.Successors.{leads, successors}
use Rattle.field.specs.Exploration.{Row, explored, field_of}
use Rattle.field.proofs.Explored.{Rows, explored-all}
use Rattle.field.proofs.FieldIsSmallest.{invariant}
use Rattle.field.proofs.Link.{SettingFor, Linked}
use Rattle.field.proofs.Members.{map-∈}
use Rattle.field.specs.Situation.{Proper}
use Rattle.field.proofs.Reached.{Reached, onward, reached_good}
use Rattle.field.proofs.Run.{selves}
use Rattle.field.proofs.SuccessorsLinked.{successors_linked}
use Rattle.verdict.proofs.Rounds.{single, self_in, GoodRows}
use Rattle.verdict.specs.Verdict.{openly, demands_of}

-- the rows rs are those of a field: proper situations, each with the lists of its moves, and what these lead to is among them
pub record FieldRows (Δ : Defs) (S : Setting) (arities : List ℕ) (rs : List Row) : Type 0 where
  pub proper : (s : Situation) → s ∈ selves rs → Proper S.names arities s
  pub linked : (r : Row) → r ∈ rs → Linked Δ S arities r.self
  pub leading : (r : Row) → r ∈ rs → successors S r.self ≡ leads r.wants
  pub closed : (r : Row) → r ∈ rs → (w : List Situation) → w ∈ r.wants → (t : Situation) → t ∈ w → t ∈ selves rs

-- where names may merge
pub good_rows : {Δ : Defs} {S : Setting} {arities : List ℕ} {rs : List Row} → FieldRows Δ S arities rs → GoodRows (demands_of openly S) (Proper S.names arities) rs
unfolding demands_of
good_rows {S = S} {arities = arities} {rs = rs} f = record {
  self = λ r m. f.proper r.self (self_in r rs m);
  demands = λ r m d i l k t j. f.proper t (one r m d i l k t j);
}
  where
    one : (r : Row) → r ∈ rs → (d : List (List Situation)) → d ∈ map (map single) r.wants → (l : List Situation) → l ∈ d → (t : Situation) → t ∈ l → t ∈ selves rs
    one r m d i l k t j =
        let (w, a, e) = map-∈ (map single) d r.wants i in
        let (u, b, g) = map-∈ single l w (subst (λ ls. l ∈ ls) e k) in
        only u (f.closed r m w a u b) (subst (λ l. t ∈ l) g j)
      where
        only : (u : Situation) → u ∈ selves rs → t ∈ single u → t ∈ selves rs
        only u h (mathlib.Core.Logic.inr x') = elim x' [ ]
        only u h (inl q) = subst (λ v. v ∈ selves rs) (sym q) h

module _ (Δ : Defs) (S : Setting) (arities : List ℕ) (setting : SettingFor Δ S arities)
    (start : Situation) (proper : Proper S.names arities start) where
  pub explored-rows : (capacity : ℕ) (rs : List Row) → field_of S capacity start ≡ explored rs → Rows S start rs
  explored-rows = explored-all S start (Proper S.names arities) (invariant Δ S arities setting) proper

  pub rows-field : (rs : List Row) → Rows S start rs → FieldRows Δ S arities rs
  rows-field rs a = record {
    proper = λ s m. is_proper s ((a.reached s).0 m);
    linked = λ r m. successors_linked Δ S arities setting r.self (is_proper r.self (row-reached r m));
    leading = leads_to;
    closed = λ r m w i t k.
        (a.reached t).1 (onward (row-reached r m) (record { wants = r.wants; within = leads_to r m; want = w; wanted = i; there = k }));
  }
    where
      is_proper : (s : Situation) → Reached S start s → Proper S.names arities s
      is_proper s h = reached_good S (Proper S.names arities) (invariant Δ S arities setting) start proper h

      row-reached : (r : Row) → r ∈ rs → Reached S start r.self
      row-reached r m = (a.reached r.self).0 (self_in r rs m)

      leads_to : (r : Row) → r ∈ rs → successors S r.self ≡ leads r.wants
      leads_to r m = all-∈ (λ r. successors S r.self ≡ leads r.wants) rs a.within r m
