-- What exploration finds is the field: the smallest set of document 01, each situation once, if no limit is passed; exploration is incomplete
-- exactly if one is. For any setting of the definitions and any proper start. Assumes nothing.
use mathlib.Core.List.{List}
use mathlib.Core.Logic.{inl, inr, ◌↔◌}
use mathlib.Core.Path.{◌≡◌, refl}
use native.Mathlib.Omega.{arith}
use Prim.Native.Nat.{ℕ}
use Rattle.calculus.specs.Definitions.{Defs}
use Rattle.calculus.proofs.Membership.{all_imp}
use Rattle.field.specs.Setting.{Setting}
use Rattle.field.specs.Situation.{Situation}
use Rattle.field.specs.Successors.{Outcome, past_limit, leads, successors}
use Rattle.field.specs.Exploration.{Row, incomplete, explored, field_of, HoldsField}
use Rattle.field.specs.Field.{Successor, Past, InField, at_start, successor, PastLimit}
use Rattle.field.specs.Situation.{Proper}
use Rattle.field.proofs.Proper.{same_equal}
use Rattle.field.proofs.Link.{SettingFor, Linked}
use Rattle.field.proofs.Reached.{LeadsTo, together-leads, leads-together, Reached, ReachesPast, Invariant, reached_good}
use Rattle.field.proofs.Reached as reach
use Rattle.field.proofs.SuccessorsLinked.{successors_linked}
use Rattle.field.proofs.Explored.{explored-all, explored-none}

module _ (Δ : Defs) (S : Setting) (arities : List ℕ) (setting : SettingFor Δ S arities) where
  abbrev Good : Situation → Type 0
  Good = Proper S.names arities

  linked : (s : Situation) → Good s → Linked Δ S arities s
  linked = successors_linked Δ S arities setting

  -- a successor, and that its situation is within the limits
  leads-successor : (s t : Situation) → Good s → LeadsTo S s t → (¬ (Past Δ S s)) × Successor Δ S s t
  leads-successor s t g l = (
    λ h. let e = (linked s g).past.1 h in let z : ◌≡◌ {A = ℕ} 0 1 = cc l.within in omega arith,
    (((linked s g).given l.wants l.within).members t).0 (leads-together S l),
  )

  successor-leads : (s t : Situation) → Good s → ¬ (Past Δ S s) → Successor Δ S s t → LeadsTo S s t
  successor-leads s t g h q = go (successors S s) refl
    where
      go : (o : Outcome) → successors S s ≡ o → LeadsTo S s t
      go past_limit e = absurd (h ((linked s g).past.0 e))
      go (leads ms) e = together-leads S s ms e t ((((linked s g).given ms e).members t).1 q)

  pub invariant : Invariant S Good
  invariant = record {
    exact = same_equal S.names (omega (arith, setting.few)) arities;
    kept = λ s t g l. ((linked s g).given l.wants l.within).proper t (leads-together S l);
  }

  module _ (start : Situation) (g : Good start) where
    reached-field : {s : Situation} → Reached S start s → InField Δ S start s
    reached-field reach.at_start = at_start
    reached-field (reach.onward {s = s} {t = t} r l) =
        let (h, q) = leads-successor s t (reached_good S Good invariant start g r) l in
        successor (reached-field r) h q

    field-reached : {s : Situation} → InField Δ S start s → Reached S start s
    field-reached at_start = reach.at_start
    field-reached (successor {s = s} {t = t} f h q) =
        let r = field-reached f in
        reach.onward r (successor-leads s t (reached_good S Good invariant start g r) h q)

    reaches_limit : (capacity : ℕ) → ReachesPast S start capacity → PastLimit Δ S start capacity
    reaches_limit capacity (inl p) = inl (record {
      situations = p.situations;
      distinct = p.distinct;
      members = all_imp (Reached S start) (InField Δ S start) p.situations (λ s. reached-field) p.members;
      many = p.many;
    })
    reaches_limit capacity (inr p) = inr (record {
      there = p.there;
      member = reached-field p.reached;
      past = (linked p.there (reached_good S Good invariant start g p.reached)).past.0 p.past;
    })

    limit_reached : (capacity : ℕ) → PastLimit Δ S start capacity → ReachesPast S start capacity
    limit_reached capacity (inl p) = inl (record {
      situations = p.situations;
      distinct = p.distinct;
      members = all_imp (InField Δ S start) (Reached S start) p.situations (λ s. field-reached) p.members;
      many = p.many;
    })
    limit_reached capacity (inr p) =
        let r = field-reached p.member in
        inr (record {
          there = p.there;
          reached = r;
          past = (linked p.there (reached_good S Good invariant start g r)).past.1 p.past;
        })

    pub field_is_smallest : (capacity : ℕ) (rs : List Row) → field_of S capacity start ≡ explored rs → HoldsField Δ S start rs
    field_is_smallest capacity rs e =
        let a = explored-all S start Good invariant g capacity rs e in
        record {
          distinct = a.distinct;
          members = λ s. (λ m. reached-field ((a.reached s).0 m), λ f. (a.reached s).1 (field-reached f));
        }

    pub incomplete_iff_past : (capacity : ℕ) → (field_of S capacity start ≡ incomplete) ↔ PastLimit Δ S start capacity
    incomplete_iff_past capacity =
        let (f, h) = explored-none S start Good invariant g capacity in
        (λ e. reaches_limit capacity (f e), λ p. h (limit_reached capacity p))
