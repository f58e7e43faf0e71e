-- What `decided` says of an explored field, against the limits of document 01 and Definition 13. Assumes nothing.
use mathlib.Core.Path.{◌≡◌, refl, sym, ◌∙◌, ap, subst}
use mathlib.Core.Bool.{Bool, true, false, cond}
use mathlib.Core.List.{List}
use mathlib.Core.Logic.{inl, inr, ◌↔◌}
use Prim.Native.Nat.{ℕ, ◌≤◌, ◌<◌}
use native.Mathlib.Omega.{arith}
use lib.ListN.{length, length-map}
use Rattle.calculus.specs.Definitions.{Defs}
use Rattle.calculus.specs.OpenBisimulation.{Related}
use Rattle.calculus.specs.Term.{Term}
use Rattle.calculus.specs.Lists.{◌∈◌}
use Rattle.field.specs.Setting.{Setting}
use Rattle.field.specs.Situation.{Situation}
use Rattle.field.specs.Exploration.{found, Row, Exploration, incomplete, explored, field_of}
use Rattle.field.specs.Field.{PastLimit, FieldSize}
use Rattle.field.proofs.Explored.{explored-length, explored_within, explored-past}
use Rattle.field.proofs.FieldIsSmallest.{field_is_smallest, incomplete_iff_past}
use Rattle.field.proofs.Link.{SettingFor}
use Rattle.field.specs.Situation.{Proper}
use Rattle.field.proofs.Proper.{same_equal}
use Rattle.field.proofs.Reached.{at_start}
use Rattle.field.proofs.Run.{selves}
use Rattle.field.proofs.Unseen.{∈-found}
use Rattle.verdict.specs.Verdict.{Numbered, openly, demands_of, unsettled, same, different, decided}
use Rattle.verdict.proofs.Rounds.{survivors, found_survives}
use Rattle.verdict.proofs.FieldRows.{FieldRows, good_rows, explored-rows, rows-field}
use Rattle.verdict.proofs.Soundness.{survivor_related}
use Rattle.verdict.proofs.Completeness.{related_survives}

module _ (d : Row → List (List (List Situation))) (start : Situation) where
  -- the rows of an exploration, how many they are, and whether the start is left
  pub record Settled (x : Exploration) (n : ℕ) (left : Bool) : Type 0 where
    pub rows : List Row
    pub found_rows : x ≡ explored rows
    pub count : n ≡ length rows
    pub survives : found (selves (survivors d rows)) start ≡ left

  pub of_same : (x : Exploration) (n : ℕ) → decided d start x ≡ same n → Settled x n true
  unfolding decided survivors
  of_same incomplete n e = let z : ◌≡◌ {A = ℕ} 0 1 = cc in absurd (omega arith)
  of_same (explored rs) n e = go (found (selves (survivors d rs)) start) refl e
    where
      go : (b : Bool) → found (selves (survivors d rs)) start ≡ b → cond b (same (length rs)) (different (length rs)) ≡ same n → Settled (explored rs) n true
      go true h k = record { rows = rs; found_rows = refl; count = (cc); survives = h }
      go false h k = let z : ◌≡◌ {A = ℕ} 0 1 = cc in absurd (omega arith)

  pub of_different : (x : Exploration) (n : ℕ) → decided d start x ≡ different n → Settled x n false
  unfolding decided survivors
  of_different incomplete n e = let z : ◌≡◌ {A = ℕ} 0 1 = cc in absurd (omega arith)
  of_different (explored rs) n e = go (found (selves (survivors d rs)) start) refl e
    where
      go : (b : Bool) → found (selves (survivors d rs)) start ≡ b → cond b (same (length rs)) (different (length rs)) ≡ different n
          → Settled (explored rs) n false
      go true h k = let z : ◌≡◌ {A = ℕ} 0 1 = cc in absurd (omega arith)
      go false h k = record { rows = rs; found_rows = refl; count = (cc); survives = h }

  pub of_unsettled : (x : Exploration) → decided d start x ≡ unsettled → x ≡ incomplete
  unfolding decided survivors
  of_unsettled incomplete e = refl
  of_unsettled (explored rs) e = go (found (selves (survivors d rs)) start) e
    where
      go : (b : Bool) → cond b (same (length rs)) (different (length rs)) ≡ unsettled → explored rs ≡ incomplete
      go true k = let z : ◌≡◌ {A = ℕ} 0 1 = cc in absurd (omega arith)
      go false k = let z : ◌≡◌ {A = ℕ} 0 1 = cc in absurd (omega arith)

  pub incomplete-unsettled : (x : Exploration) → x ≡ incomplete → decided d start x ≡ unsettled
  unfolding decided
  incomplete-unsettled x e = rw e refl

  -- the number's rows
  record Counted (x : Exploration) (n : ℕ) : Type 0 where
    rows : List Row
    found_rows : x ≡ explored rows
    count : n ≡ length rows

  counted : (x : Exploration) (n : ℕ) → Numbered (decided d start x) n → Counted x n
  counted x n (inl e) = let s = of_same x n e in record { rows = s.rows; found_rows = s.found_rows; count = s.count }
  counted x n (inr e) = let s = of_different x n e in record { rows = s.rows; found_rows = s.found_rows; count = s.count }

-- Other capacities.
module _ (d : Row → List (List (List Situation))) (S : Setting) (start : Situation) (capacity n : ℕ) (h : Numbered (decided d start (field_of S capacity start)) n) where
  pub number_within : n ≤ capacity
  number_within =
      let c = counted d start (field_of S capacity start) n h in
      omega (arith, explored-length S start capacity c.rows c.found_rows, c.count)

  pub decided_within : (other : ℕ) → n ≤ other → decided d start (field_of S other start) ≡ decided d start (field_of S capacity start)
  decided_within other l =
      let c = counted d start (field_of S capacity start) n h in
      ap (decided d start) (explored_within S start capacity c.rows c.found_rows other (omega (arith, c.count)) ∙ sym c.found_rows)

  pub decided-past : (other : ℕ) → other < n → decided d start (field_of S other start) ≡ unsettled
  decided-past other l =
      let c = counted d start (field_of S capacity start) n h in
      incomplete-unsettled d start (field_of S other start) (explored-past S start capacity c.rows c.found_rows other (omega (arith, c.count)))

module _ (Δ : Defs) (S : Setting) (arities : List ℕ) (setting : SettingFor Δ S arities)
    (start : Situation) (proper : Proper S.names arities start) (capacity : ℕ) where
  pub field_of_lem : (rs : List Row) → field_of S capacity start ≡ explored rs → FieldRows Δ S arities rs
  field_of_lem rs e = rows-field Δ S arities setting start proper rs (explored-rows Δ S arities setting start proper capacity rs e)

  pub few : S.names ≤ 128
  few = omega (arith, setting.few)

  module _ (d : Row → List (List (List Situation))) where
    pub decided-unsettled : (decided d start (field_of S capacity start) ≡ unsettled) ↔ PastLimit Δ S start capacity
    decided-unsettled =
        let (f, g) = incomplete_iff_past Δ S arities setting start proper capacity in
        (λ e. f (of_unsettled d start (field_of S capacity start) e), λ p. incomplete-unsettled d start (field_of S capacity start) (g p))

    pub decided-size : (n : ℕ) → Numbered (decided d start (field_of S capacity start)) n → FieldSize Δ S start n
    decided-size n h =
        let c = counted d start (field_of S capacity start) n h in
        let f = field_is_smallest Δ S arities setting start proper capacity c.rows c.found_rows in
        record {
          situations = selves c.rows;
          distinct = f.distinct;
          members = f.members;
          size = length-map c.rows (λ (r : Row). r.self) ∙ sym c.count;
        }

  -- where names may merge
  module _ (merging : S.differ ≡ false) where
    abbrev demands : Row → List (List (List Situation))
    demands = demands_of openly S

    -- terms whose forms are the parts of the start
    pub decided-same : (n : ℕ) → decided demands start (field_of S capacity start) ≡ same n → (P Q : Term) → start.first ≡ S.form P → start.second ≡ S.form Q
        → Related Δ start.apart P Q
    decided-same n e P Q p q =
        let s = of_same demands start (field_of S capacity start) n e in
        let f = field_of_lem s.rows s.found_rows in
        survivor_related Δ S setting.formed few arities s.rows f merging P Q start.apart
        (subst (λ t. t ∈ selves (survivors demands s.rows)) (λ i. record { first = p i; second = q i; apart = start.apart })
        (found_survives demands (Proper S.names arities) (same_equal S.names few arities) s.rows (good_rows f) start proper s.survives))

    pub decided_different : (n : ℕ) → decided demands start (field_of S capacity start) ≡ different n → ¬ Related Δ start.apart start.first start.second
    decided_different n e r =
        let s = of_different demands start (field_of S capacity start) n e in
        let rows = explored-rows Δ S arities setting start proper capacity s.rows s.found_rows in
        let k = related_survives Δ S setting.formed arities s.rows (field_of_lem s.rows s.found_rows) merging start ((rows.reached start).1 at_start) r in
        let z : ◌≡◌ {A = ℕ} 0 1 = cc (∈-found (selves (survivors demands s.rows)) start k, s.survives) in
        omega arith
