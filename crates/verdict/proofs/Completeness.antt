-- Completeness of the verdict: related situations of the field are never struck out, since related parts answer each other's moves with
-- related parts. Assumes nothing.
use mathlib.Core.Path.{◌≡◌, refl, sym, ◌∙◌, ap, subst}
use mathlib.Core.Bool.{false}
use mathlib.Core.List.{List, map}
use Prim.Native.Nat.{ℕ}
use Rattle.calculus.specs.Term.{Term, ren}
use Rattle.calculus.specs.Free.{In, Free}
use Rattle.calculus.specs.Cond.{Pairs, cls}
use Rattle.calculus.specs.Distinction.{Resp}
use Rattle.calculus.specs.Definitions.{Defs}
use Rattle.calculus.specs.Published.{bound_names}
use Rattle.calculus.specs.OpenBisimulation.{update, Related}
use Rattle.calculus.proofs.Distinctions.{apart_at}
use Rattle.calculus.proofs.PublishedBisimulation.{AwayFrom, bound_ren}
use Rattle.calculus.proofs.Theorems.{related_sym, related_trans, related_answered}
use Rattle.calculus.specs.Lists.{◌∈◌}
use Rattle.steps.proofs.FormLaws.{Form, form_related}
use Rattle.field.specs.Setting.{Setting}
use Rattle.field.specs.Situation.{Situation, situation}
use Rattle.field.specs.Exploration.{Row}
use Rattle.field.specs.Field.{fresh, Move, Matches}
use Rattle.field.proofs.Link.{ListOfSome, from_first, from_second}
use Rattle.field.proofs.Members.{map-∈}
use Rattle.field.proofs.NewNames.{new_away}
use Rattle.field.proofs.Proper.{either_below, related_situation}
use Rattle.field.proofs.Run.{selves}
use Rattle.verdict.proofs.Rounds.{single, Met, some-met, survivors, Some, Closed, self_in, closed_survives}
use Rattle.verdict.specs.Verdict.{openly, demands_of}
use Rattle.verdict.proofs.FieldRows.{FieldRows}

module _ (Δ : Defs) (S : Setting) where
  -- A move is answered by one that binds the same name and leads to related parts.
  record Answer (D : Pairs) {x : ℕ} {P : Term} (Q : Term) (m : Move Δ S x P) : Type 1 where
    answer : Move Δ S x Q
    matches : Matches Δ S m answer
    related : Related Δ (update D P Q m.action m.condition) m.result (ren (cls m.condition) answer.result)

  related_answer : {D : Pairs} {x : ℕ} {P Q : Term} → Related Δ D P Q → AwayFrom x P Q D → (m : Move Δ S x P) → Resp m.condition D → Answer D Q m
  related_answer {D} {x} {P} {Q} r a m h =
      let o = related_answered Δ r m.transition (λ y i f. a.right (subst (λ n. Free n Q) (m.binds y i) f))
      (λ y b i d. a.dist b (apart_at D (sym (m.binds y i)) refl d)) h in
      record {
        answer = record {
          condition = o.condition;
          action = o.action;
          result = o.result;
          transition = o.transition;
          binds = λ y i. m.binds y (subst (In y) (sym (ap bound_names o.equal ∙ bound_ren (cls m.condition) o.action)) i);
        };
        matches = record { implied = o.implied; equal = o.equal };
        related = o.related;
      }

module _ (Δ : Defs) (S : Setting) (formed : Form S.form) (arities : List ℕ) (rs : List Row) (field : FieldRows Δ S arities rs)
    (merging : S.differ ≡ false) where
  abbrev RelatedIn : Situation → Type 1
  RelatedIn s = Related Δ s.apart s.first s.second

  module _ (r : Row) (row : r ∈ rs) (related : RelatedIn r.self) where
    away : AwayFrom (fresh Δ S r.self) r.self.first r.self.second r.self.apart
    away = new_away S.names arities r.self (field.proper r.self (self_in r rs row))

    -- related parts, whose forms are in a list of the row, and their distinction: the situation cut from it is related, and a row of the field
    related_member : (w : List Situation) → w ∈ r.wants → (P Q : Term) (D : Pairs) → Related Δ D P Q
        → situation S.names (S.form P) (S.form Q) D ∈ w → Some (λ s. RelatedIn s × (s ∈ selves rs)) w
    unfolding situation
    related_member w i P Q D h k =
        let A = S.form P in
        let B = S.form Q in
        let s : Situation = situation S.names A B D in
        let j = field.closed r row w i s k in
        let p = field.proper s j in
        let l : Related Δ D A B = related_trans Δ (related_sym Δ (form_related formed Δ D h.distinction P)) (related_trans Δ h (form_related formed Δ D h.distinction Q)) in
        record { there = s; member = k; holds = ((related_situation S.names A B (either_below S.names arities A B p.first p.second) D h.distinction Δ).0 l, j) }

    some : (w : List Situation) → w ∈ r.wants → ListOfSome Δ S r.self w → Some (λ s. RelatedIn s × (s ∈ selves rs)) w
    some w i (from_first m l) =
        let a = related_answer Δ S related away m l.permitted in
        related_member w i _ _ _ a.related ((l.members _).1 (record { answer = a.answer; matches = a.matches; result = refl }))
    some w i (from_second m l) =
        let a = related_answer Δ S (related_sym Δ related) (record { left = away.right; right = away.left; dist = away.dist }) m l.permitted in
        related_member w i _ _ _ (related_sym Δ a.related) ((l.members _).1 (record { answer = a.answer; matches = a.matches; result = refl }))

  related_closed : Closed (demands_of openly S) RelatedIn rs
  unfolding demands_of
  related_closed = record { answers = λ r m h. record { some = λ d i. met r m h d (map-∈ (map single) d r.wants i) } }
    where
      met : (r : Row) → r ∈ rs → RelatedIn r.self → (d : List (List Situation)) → (w : List Situation) × (w ∈ r.wants) × (d ≡ map single w)
          → Met (λ s. RelatedIn s × (s ∈ selves rs)) d
      met r m h d (w, i, e) =
          subst (Met (λ s. RelatedIn s × (s ∈ selves rs))) (sym e)
          (some-met (some r m h w i (((field.linked r m).open_given merging r.wants (field.leading r m)).each w i)))

  -- Related situations of the field survive.
  pub related_survives : (s : Situation) → s ∈ selves rs → Related Δ s.apart s.first s.second → s ∈ selves (survivors (demands_of openly S) rs)
  related_survives s m h = closed_survives (demands_of openly S) RelatedIn rs related_closed s m h
