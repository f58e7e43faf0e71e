-- Soundness of the verdict: the survivors of the rounds answer each other, so their parts are related. Assumes nothing.
use mathlib.Core.Path.{◌≡◌, sym, subst}
use mathlib.Core.Bool.{false}
use mathlib.Core.List.{List, map}
use Prim.Native.Nat.{ℕ, ◌≤◌}
use Rattle.calculus.specs.Term.{Term}
use Rattle.calculus.specs.Cond.{Pairs}
use Rattle.calculus.specs.Definitions.{Defs}
use Rattle.calculus.specs.OpenBisimulation.{Related}
use Rattle.calculus.specs.Lists.{◌∈◌}
use Rattle.calculus.proofs.Membership.{∈-map}
use Rattle.steps.proofs.FormLaws.{Form}
use Rattle.field.specs.Setting.{Setting}
use Rattle.field.specs.Situation.{Situation, Proper}
use Rattle.field.specs.Exploration.{Row}
use Rattle.field.specs.Field.{Move}
use Rattle.field.proofs.Link.{ListOf, LeadsExactly}
use Rattle.field.proofs.Proper.{same_equal}
use Rattle.field.proofs.Run.{selves}
use Rattle.verdict.specs.Verdict.{openly, demands_of}
use Rattle.verdict.proofs.ClosedRelated.{Led, Answering, closed_related}
use Rattle.verdict.proofs.Rounds.{single, met_some, survivors, of_selves, survivor_row, survivor_in, survivors-answer}
use Rattle.verdict.proofs.FieldRows.{FieldRows, good_rows}

module _ (Δ : Defs) (S : Setting) (formed : Form S.form) (few : S.names ≤ 128) (arities : List ℕ) (rs : List Row) (field : FieldRows Δ S arities rs) (merging : S.differ ≡ false) where
  abbrev Survives : Situation → Type 0
  Survives s = s ∈ selves (survivors (demands_of openly S) rs)

  -- Some member of a permitted move's list is left.
  led : (r : Row) → r ∈ survivors (demands_of openly S) rs → (w : List Situation) → w ∈ r.wants → {make : Term → Term → Pairs → Situation} {D : Pairs} {x : ℕ} {P Q : Term} {m : Move Δ S x P}
      → ListOf Δ S make D Q m w → Led Δ S Survives make D Q m
  unfolding demands_of
  led r k w i l =
      let d = survivors-answer (demands_of openly S) (Proper S.names arities) (same_equal S.names few arities) rs (good_rows field) r k in
      let o = met_some {X = Survives} {m = w} (d.some (map single w) (∈-map (map single) w r.wants i)) in
      record { there = o.there; inside = o.holds; reached = (l.members o.there).0 o.member }

  answering : (s : Situation) → Survives s → Answering Δ S Survives s
  answering s k =
      let (r, i, e) = of_selves s (survivors (demands_of openly S) rs) k in
      subst (Answering Δ S Survives) (sym e) (of_row r i)
    where
      row_links : (r : Row) → r ∈ survivors (demands_of openly S) rs → LeadsExactly Δ S arities r.self r.wants
      row_links r i =
          let k = survivor_row (demands_of openly S) rs r i in (field.linked r k).open_given merging r.wants (field.leading r k)

      of_row : (r : Row) → r ∈ survivors (demands_of openly S) rs → Answering Δ S Survives r.self
      of_row r i = record {
        first = λ m h. let (w, j, l) = (row_links r i).first m h in led r i w j l;
        second = λ m h. let (w, j, l) = (row_links r i).second m h in led r i w j l;
      }

  -- Terms whose forms are the parts of a survivor are related.
  pub survivor_related : (P Q : Term) (D : Pairs) → record { first = S.form P; second = S.form Q; apart = D } ∈ selves (survivors (demands_of openly S) rs)
      → Related Δ D P Q
  survivor_related = closed_related Δ S formed arities Survives (λ s k. field.proper s (survivor_in (demands_of openly S) rs s k)) answering
