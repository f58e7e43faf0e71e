-- Striking out in the work area: what it keeps, and that it strikes out as `StrikesTo` does (AnyOrder). Assumes nothing.
use mathlib.Core.Bool.{Bool, true, false, cond}
use mathlib.Core.List.{List, []}
use mathlib.Core.Logic.{◌⊎◌, inl, inr}
use mathlib.Core.Path.{◌≡◌, refl, sym, ap, ◌∙◌, subst}
use native.Mathlib.Decide.{ℕ_discrete, dec_lt}
use native.Mathlib.Omega.{arith}
use Rattle.std.specs.Prelude.{Option, Some, None, Result, Ok, Err, is_ok}
use Prim.Native.Nat.{ℕ, ◌+◌, ◌-◌, ◌*◌, ◌/◌, ◌<◌, ◌≤◌}
use lib.ListN.{length, get_or, set, drop, replicate, length-set, length-map, length-replicate, get_or-replicate, get_or-map}
use lib.Seq.{drop-set-lt, get_or-set_other, ext_get_or}
use borrow.Author.Tests.{eqb-false}
use Rattle.calculus.specs.Term.{nil}
use Rattle.calculus.specs.Lists.{◌∈◌}
use Rattle.calculus.proofs.Membership.{all_imp}
use Rattle.field.specs.Exploration.{found, Row}
use Rattle.field_exploration.proofs.Below.{unanswered}
use Rattle.field_exploration.specs.Exploring.{StruckFirst}
use Rattle.field_slots.specs.Noted.{SpareOnly}
use Rattle.field.specs.Setting.{setting_of}
use Rattle.field.specs.Situation.{Situation}
use Rattle.field_pairs.specs.Slot.{key_of, slot_bytes, struck_at, LeftAtIs}
use Rattle.field.specs.Successors.{leads, successors}
use Rattle.field_exploration.proofs.Below.{slot_key}
use Rattle.field_slots.proofs.NotedLaws.{spare_none, spare_then}
use Rattle.field.proofs.Run.{selves}
use Rattle.field.proofs.Unseen.{∈-found}
use Rattle.field.proofs.Members.{get_d_∈}
use Rattle.verdict_notes.specs.Notes.{NoteIs, ReliesOnLeftIs, SoleStruckIs}
use Rattle.verdict_answers.specs.Striking.{demands_at, marks, living, zeros, left_of, EqualParts, Searching, AllAnsweredIs, SurvivesIs, ExaminedIs, AllNoted, NotesHold}
use Rattle.verdict_answers.specs.Striking.{EqualPartsIs, Strikes, none_struck, one_struck, notes_changed, StrikesSole, StrikesOne, AllSurvive, Run}
use Rattle.verdict_answers.specs.Striking.{PassIs, FirstStruckIs, StartSurvivesIs, block_slots, turned}
use Rattle.verdict.specs.Verdict.{Manner, differs, demands_of, all_answered}
use Rattle.verdict_notes.specs.declared.relied.Relied.{Relied}
use Rattle.verdict_strikeout.proofs.AnyOrder.{StrikesTo}
use Rattle.verdict_strikeout.proofs.AnyOrder as order
use Rattle.verdict_strikeout.proofs.BlockLaws.{Blocks, block_of, in_block}
use Rattle.verdict_strikeout.proofs.EqualParts.{equal_survives, equal_bytes}
use Rattle.verdict_strikeout.proofs.FieldKept.{SameField, same_none, same_then, struck_same, spare_same, field-kept, notes_struck, noted_one, relying_survives, sole_fails, spare_mark, spare_left, survives_kept}
use Rattle.verdict_answers.proofs.Living.{struck_either, struck_within, all-living}
use Rattle.verdict_answers.proofs.Marks.{length-marks, marks-at, marks-kept, marks-set, zeros_fewer}
use Rattle.verdict.proofs.Rounds.{true_not_false, self_in}
use Rattle.verdict_strikeout.proofs.Unanswered.{strikes_flagged}
use Rattle.verdict_answers.proofs.DemandedMoves.{move_demanded, demand_followed, demand_answered}
use Rattle.verdict_answers.proofs.Demands.{all-answer, one_fails}

-- What holds of every field holds of one that is being searched.
answered_survives : (manner : Manner) (question : List ℕ) (capacity : ℕ) (work : List ℕ) (count i : ℕ) (r : Bool) → AllAnsweredIs manner question capacity work count i r
    → SurvivesIs manner question capacity work count i r
unfolding AllAnsweredIs SurvivesIs
answered_survives manner question capacity work count i r h f = h f.field

-- first_struck
pub first_gone : (work : List ℕ) (count i : ℕ) (r : Bool) → i < count → LeftAtIs work i r → r ≡ false → ((j : ℕ) → j < i → get_or work (struck_at j) 0 ≡ 0)
    → FirstStruckIs work count (Some i)
unfolding LeftAtIs
first_gone work count i r h l e before = record {
  some = λ k q. let z : i ≡ k = cc in subst (λ k. (k < count) × (get_or work (struck_at k) 0 ≡ 0 → ⊥) × ((j : ℕ) → j < k → get_or work (struck_at j) 0 ≡ 0)) z
      (h, eqb-false (get_or work (struck_at i) 0) 0 (sym l ∙ e), before);
  none = λ q. let z : ◌≡◌ {A = ℕ} 0 1 = cc in absurd (omega arith);
}

pub none_gone : (work : List ℕ) (count : ℕ) → ((i : ℕ) → i < count → get_or work (struck_at i) 0 ≡ 0) → FirstStruckIs work count None
none_gone work count h = record { some = λ k q. let z : ◌≡◌ {A = ℕ} 0 1 = cc in absurd (omega arith); none = λ q. h }

-- All are left where no byte says otherwise.
left-all : (work : List ℕ) (known : List Situation) → ((i : ℕ) → i < length known → get_or work (struck_at i) 0 ≡ 0) → left_of work known ≡ known
left-all work known h =
    let n = length known in
    let zero : marks work n ≡ replicate n 0 =
    ext_get_or 0 (marks work n) (replicate n 0) (length-marks work n ∙ sym (length-replicate {A = ℕ} n 0))
    (λ i l.
    let k : i < n = omega (arith, length-marks work n) in
    marks-at work n i 0 k ∙ h i k ∙ sym (get_or-replicate {A = ℕ} n i 0 0 k)) in
    ap (λ fs. living fs known) zero ∙ all-living known

-- The order of a pass turned over twice.
pub turned-below : (rising : Bool) (count i : ℕ) → i < count → turned rising count i < count
unfolding turned
turned-below true count i h = omega arith
turned-below false count i h = h

turned_twice : (rising : Bool) (count i : ℕ) → i < count → turned rising count (turned rising count i) ≡ i
unfolding turned
turned_twice true count i h = omega arith
turned_twice false count i h = refl

-- The situations of those of the n parts that a pass has taken up while i wait.
unfoldable pub TakenUp : Bool → ℕ → (ℕ → ℕ → Type 0) → ℕ → ℕ → Type 0
TakenUp rising n Part i j = (k : ℕ) × (k < n) × (i ≤ turned rising n k) × Part k j

-- strike_sole
module _ (work : List ℕ) (count i : ℕ) (r : Bool) (s : SoleStruckIs work count i r) where
  pub sole_kept : r ≡ false → StrikesSole work count i false work
  sole_kept e = record { sole = subst (SoleStruckIs work count i) e s; struck = λ q. true_not_false q refl; kept = λ q. refl }

  pub sole_gone : r ≡ true → StrikesSole work count i true (set work (struck_at i) 1)
  sole_gone e = record { sole = subst (SoleStruckIs work count i) e s; struck = λ q. refl; kept = λ q. true_not_false refl q }

module _ (manner : Manner) (question : List ℕ) (capacity count : ℕ) where
  pub strikes_then : {work v u : List ℕ} → Strikes manner question capacity count work v → Strikes manner question capacity count v u → Strikes manner question capacity count work u
  strikes_then s none_struck = s
  strikes_then s (one_struck t i h z d) = one_struck (strikes_then s t) i h z d
  strikes_then s (notes_changed t c) = notes_changed (strikes_then s t) c

  pub strikes_length : {work v : List ℕ} → Strikes manner question capacity count work v → length v ≡ length work
  strikes_length none_struck = refl
  strikes_length (one_struck {v} t i h z d) = length-set v (struck_at i) 1 ∙ strikes_length t
  strikes_length (notes_changed t c) = c.len ∙ strikes_length t

  pub strikes_rest : {work v : List ℕ} (k : ℕ) → count ≤ k → Strikes manner question capacity count work v → drop (slot_bytes * k) v ≡ drop (slot_bytes * k) work
  strikes_rest k g none_struck = refl
  strikes_rest k g (one_struck {v} t i h z d) = drop-set-lt (slot_bytes * k) v (struck_at i) 1 (omega arith) ∙ strikes_rest k g t
  strikes_rest k g (notes_changed t c) = c.rest k g ∙ strikes_rest k g t

  spare_zeros : (v u : List ℕ) → SpareOnly count v u → zeros (marks u count) ≡ zeros (marks v count)
  spare_zeros v u c = ap zeros (marks-kept v u count (spare_mark manner question capacity count v u c))

  strikes_most : {work v : List ℕ} → slot_bytes * count ≤ length work → Strikes manner question capacity count work v → zeros (marks v count) ≤ zeros (marks work count)
  strikes_most room none_struck = omega arith
  strikes_most room (one_struck {v} t i h z d) =
      omega (arith, zeros_fewer v count i h (omega (arith, strikes_length t)) z, strikes_most room t)
  strikes_most room (notes_changed {v} {u} t c) = omega (arith, spare_zeros v u c, strikes_most room t)

  pub strikes_same : {work v : List ℕ} → Strikes manner question capacity count work v → SameField work v
  strikes_same {work} none_struck = same_none work
  strikes_same (one_struck {v} t i h z d) = same_then (strikes_same t) (struck_same v i)
  strikes_same (notes_changed {v} {u} t c) = same_then (strikes_same t) (spare_same v u c)

  -- what is struck out stays struck out
  pub strikes_gone : {work v : List ℕ} (j : ℕ) → Strikes manner question capacity count work v → (get_or work (struck_at j) 0 ≡ 0 → ⊥) → get_or v (struck_at j) 0 ≡ 0 → ⊥
  strikes_gone j none_struck h e = h e
  strikes_gone j (one_struck {v} t i l z d) h e = go (ℕ_discrete j i) (λ x. strikes_gone j t h x)
    where
      go : Dec (j ≡ i) → (get_or v (struck_at j) 0 ≡ 0 → ⊥) → ⊥
      go (yes k) gone = gone (ap (λ n. get_or v (struck_at n) 0) k ∙ z)
      go (no k) gone = gone (sym (get_or-set_other v (struck_at i) (struck_at j) 1 0 (λ q. k (omega arith))) ∙ e)
  strikes_gone j (notes_changed {v} {u} t c) h e = strikes_gone j t h (sym (spare_mark manner question capacity count v u c j) ∙ e)

  -- The field stays in the work area, and those with equal parts are left: none of them was struck out, since it survived.
  unfoldable pub still_with : {work v : List ℕ} → Strikes manner question capacity count work v → (f : Searching manner question capacity work count)
      → ((i : ℕ) (d : Situation) → i < count → EqualParts (get_or f.field.known i d) → get_or v (struck_at i) 0 ≡ 0) → Searching manner question capacity v count
  unfolding field-kept
  still_with s f equal = record {
    field = field-kept manner question capacity count (strikes_same s) f.field;
    struck = λ i d ms h e u. strikes_gone i s (f.struck i d ms h e u);
    equal = equal;
  }

  pub equal_kept : {work v : List ℕ} → Strikes manner question capacity count work v → (f : Searching manner question capacity work count) (i : ℕ) (d : Situation) → i < count
      → EqualParts (get_or f.field.known i d) → get_or v (struck_at i) 0 ≡ 0
  unfolding still_with field-kept SurvivesIs
  equal_kept none_struck f i d h e = f.equal i d h e
  equal_kept (one_struck {v} t j l z x) f i d h e = go (ℕ_discrete j i) (λ i d h e. equal_kept t f i d h e)
    where
      go : Dec (j ≡ i) → ((i : ℕ) (d : Situation) → i < count → EqualParts (get_or f.field.known i d) → get_or v (struck_at i) 0 ≡ 0)
          → get_or (set v (struck_at j) 1) (struck_at i) 0 ≡ 0
      go (yes k) left =
          let q = f.field.equal (get_or f.field.known i d) (get_d_∈ f.field.known i d (omega (arith, f.field.number))) e in
          let g = still_with t f left in
          true_not_false (equal_survives manner question capacity count v g i d h e q.wants q.leading)
          (sym (subst (λ i. SurvivesIs manner question capacity v count i false) k x g d q.wants q.leading))
      go (no k) left = get_or-set_other v (struck_at j) (struck_at i) 1 0 (λ q. k (omega arith)) ∙ left i d h e
  equal_kept (notes_changed {v} {u} t c) f i d h e = spare_mark manner question capacity count v u c i ∙ equal_kept t f i d h e

  unfoldable pub still : {work v : List ℕ} → Strikes manner question capacity count work v → Searching manner question capacity work count → Searching manner question capacity v count
  still s f = still_with s f (λ i d h e. equal_kept s f i d h e)

  -- strike_one
  module _ (work : List ℕ) (i : ℕ) {examine : Bool} (n : NotesHold examine manner question capacity work count) where
    pub gone_kept : (r : Bool) → LeftAtIs work i r → r ≡ false → StrikesOne examine manner question capacity work count i false work
    unfolding LeftAtIs
    gone_kept r l e = record {
      struck = λ q. true_not_false q refl;
      kept = λ q. (spare_none count work, λ x z. absurd (eqb-false (get_or work (struck_at i) 0) 0 (sym l ∙ e) z));
      noted = n;
    }

    -- not examined: by what exploration noted
    pub sole_strikes : (r : Bool) (v : List ℕ) → i < count → examine ≡ false → get_or work (struck_at i) 0 ≡ 0 → StrikesSole work count i r v
        → StrikesOne examine manner question capacity work count i r v
    unfolding NotesHold
    sole_strikes r v h e z s = record {
      struck = λ q. (z, sole_fails manner question capacity count work i r h (subst (λ b. NotesHold b manner question capacity work count) e n) s.sole q, s.struck q);
      kept = λ q. (subst (SpareOnly count work) (sym (s.kept q)) (spare_none count work), λ x. true_not_false x e);
      noted = go r refl;
    }
      where
        go : (b : Bool) → r ≡ b → NotesHold examine manner question capacity v count
        go true q = subst (λ v. NotesHold examine manner question capacity v count) (sym (s.struck q)) (notes_struck manner question capacity count examine work i n)
        go false q = subst (λ v. NotesHold examine manner question capacity v count) (sym (s.kept q)) n

    module _ (on : examine ≡ true) where
      relied : AllNoted manner question capacity work count
      unfolding NotesHold
      relied = subst (λ b. NotesHold b manner question capacity work count) on n

      pub relying_kept : (r : Bool) → i < count → ReliesOnLeftIs work count i r → r ≡ true → StrikesOne examine manner question capacity work count i false work
      relying_kept r h s e = record {
        struck = λ q. true_not_false q refl;
        kept = λ q. (spare_none count work, λ x z. relying_survives manner question capacity count work i r h relied s e);
        noted = n;
      }

      pub equal_stays : (r : Bool) → i < count → EqualPartsIs work i r → r ≡ true → StrikesOne examine manner question capacity work count i false work
      unfolding SurvivesIs
      equal_stays r h p e = record {
        struck = λ q. true_not_false q refl;
        kept = λ q. (
          spare_none count work,
          λ x z f d ms l. sym (equal_survives manner question capacity count work f i d h (equal_bytes manner question capacity count work f i d h p e) ms l),
        );
        noted = n;
      }

      pub survivor_noted : (r : Result Relied Relied) (noted : Relied) (v : List ℕ) → i < count → ExaminedIs manner question capacity work count i r → r ≡ Ok noted
          → NoteIs work i noted v
          → StrikesOne examine manner question capacity work count i false v
      unfolding NotesHold
      survivor_noted r noted v h s e t = record {
        struck = λ q. true_not_false q refl;
        kept = λ q. (spare_more work v h t.spare, λ x z. subst (SurvivesIs manner question capacity work count i) (ap is_ok e) (answered_survives manner question capacity work count i (is_ok r) s.is));
        noted = subst (λ b. NotesHold b manner question capacity v count) (sym on) (noted_one manner question capacity count work v i r noted s e t relied);
      }
        where
          spare_more : (work v : List ℕ) → i < count → SpareOnly (i + 1) work v → SpareOnly count work v
          spare_more work v h c = record { len = c.len; slots = c.slots; rest = λ k g. c.rest k (omega arith) }

    pub one_strikes : (r : Result Relied Relied) (failing : Relied) → get_or work (struck_at i) 0 ≡ 0 → ExaminedIs manner question capacity work count i r → r ≡ Err failing
        → StrikesOne examine manner question capacity work count i true (set work (struck_at i) 1)
    one_strikes r failing z s e = record {
      struck = λ q. (z, subst (SurvivesIs manner question capacity work count i) (ap is_ok e) (answered_survives manner question capacity work count i (is_ok r) s.is), refl);
      kept = λ q. true_not_false refl q;
      noted = notes_struck manner question capacity count examine work i n;
    }

  -- One situation is a pass, too.
  pub one_pass : {examine : Bool} (v : List ℕ) (i : ℕ) (r : Bool) (u : List ℕ) → i < count → slot_bytes * count ≤ length v → StrikesOne examine manner question capacity v count i r u
      → PassIs examine manner question capacity v count (Run i 1) r u
  one_pass {examine} v i r u h room s = go r refl
    where
      go : (b : Bool) → r ≡ b → PassIs examine manner question capacity v count (Run i 1) r u
      go true e =
          let (z, d, q) = s.struck e in
          record {
            strikes = subst (Strikes manner question capacity count v) (sym q) (one_struck none_struck i h z d);
            fewer = λ x. rw q (zeros_fewer v count i h room z);
            same = λ x. true_not_false e x;
            none = λ y x. true_not_false e x;
            noted = s.noted;
          }
      go false e =
          let (c, d) = s.kept e in
          record {
            strikes = notes_changed none_struck c;
            fewer = λ x. true_not_false x e;
            same = λ x. c;
            none = λ y x j l g z. survives_kept manner question capacity count v u c j true (only j (omega (arith, g)) (sym (spare_mark manner question capacity count v u c j) ∙ z) (d y));
            noted = s.noted;
          }
        where
          only : (j : ℕ) → i ≡ j → get_or v (struck_at j) 0 ≡ 0 → (get_or v (struck_at i) 0 ≡ 0 → SurvivesIs manner question capacity v count i true)
              → SurvivesIs manner question capacity v count j true
          only j e z d = subst (λ j. SurvivesIs manner question capacity v count j true) e (d (subst (λ j. get_or v (struck_at j) 0 ≡ 0) (sym e) z))

  pub pass_none : {examine : Bool} (work : List ℕ) (H : ℕ → Type 0) → ((j : ℕ) → H j → ⊥) → NotesHold examine manner question capacity work count
      → PassIs examine manner question capacity work count H false work
  pass_none work H empty n = record {
    strikes = none_struck;
    fewer = λ x. true_not_false x refl;
    same = λ x. spare_none count work;
    none = λ y x j h m. absurd (empty j m);
    noted = n;
  }

  pub pass_within : {examine : Bool} {work u : List ℕ} {r : Bool} {H : ℕ → Type 0} (K : ℕ → Type 0) → ((j : ℕ) → j < count → K j → H j)
      → PassIs examine manner question capacity work count H r u → PassIs examine manner question capacity work count K r u
  pass_within K more p = record {
    strikes = p.strikes;
    fewer = p.fewer;
    same = p.same;
    none = λ y x j h m. p.none y x j h (more j h m);
    noted = p.noted;
  }

  -- One pass after another.
  module _ {examine : Bool} {work v u : List ℕ} {struck r : Bool} {H G : ℕ → Type 0} (K : ℕ → Type 0) (p : PassIs examine manner question capacity work count H struck v)
      (q : PassIs examine manner question capacity v count G r u) where
    pub pass_strikes : slot_bytes * count ≤ length work → r ≡ true → PassIs examine manner question capacity work count K true u
    pass_strikes room e = record {
      strikes = strikes_then p.strikes q.strikes;
      fewer = λ x. omega (arith, q.fewer e, strikes_most room p.strikes);
      same = λ x. true_not_false refl x;
      none = λ y x. true_not_false refl x;
      noted = q.noted;
    }

    pub pass_keeps : r ≡ false → ((j : ℕ) → j < count → K j → H j ⊎ G j) → PassIs examine manner question capacity work count K struck u
    pass_keeps e either = record {
      strikes = strikes_then p.strikes q.strikes;
      fewer = λ x. omega (arith, spare_zeros v u (q.same e), p.fewer x);
      same = λ x. spare_then count work v u (p.same x) (q.same e);
      none = λ y x j h m z. go y x j h z (either j h m);
      noted = q.noted;
    }
      where
        go : examine ≡ true → struck ≡ false → (j : ℕ) → j < count → get_or u (struck_at j) 0 ≡ 0 → H j ⊎ G j → SurvivesIs manner question capacity u count j true
        go y x j h z (inl m) =
            let c = q.same e in
            survives_kept manner question capacity count v u c j true (p.none y x j h m (sym (spare_mark manner question capacity count v u c j) ∙ z))
        go y x j h z (inr m) = q.none y e j h m z

  -- A pass that takes up n parts.
  pub parts_none : {examine : Bool} (rising : Bool) (n : ℕ) (Part : ℕ → ℕ → Type 0) (work : List ℕ) → NotesHold examine manner question capacity work count
      → PassIs examine manner question capacity work count (TakenUp rising n Part n) false work
  unfolding TakenUp
  parts_none rising n Part work noted =
      pass_none work (TakenUp rising n Part n) (λ j m. omega (arith, m.2, turned-below rising n m.0 m.1)) noted

  module _ {examine : Bool} (rising : Bool) (n : ℕ) (Part : ℕ → ℕ → Type 0) {work v u : List ℕ} {struck r : Bool} (k i t : ℕ) (next : k ≡ i + 1) (at : t ≡ turned rising n i)
      (p : PassIs examine manner question capacity work count (TakenUp rising n Part k) struck v) (q : PassIs examine manner question capacity v count (Part t) r u) where
    pub part_strikes : slot_bytes * count ≤ length work → r ≡ true → PassIs examine manner question capacity work count (TakenUp rising n Part i) true u
    part_strikes = pass_strikes (TakenUp rising n Part i) p q

    pub part_keeps : r ≡ false → PassIs examine manner question capacity work count (TakenUp rising n Part i) struck u
    unfolding TakenUp
    part_keeps e = pass_keeps (TakenUp rising n Part i) p q e (λ j h (m, l, g, x). go j m l g x (dec_lt i (turned rising n m)))
      where
        go : (j m : ℕ) → m < n → i ≤ turned rising n m → Part m j → Dec (i < turned rising n m) → TakenUp rising n Part k j ⊎ Part t j
        go j m l g x (yes b) = inl (m, l, omega arith, x)
        go j m l g x (no b) =
            let e : i ≡ turned rising n m = omega arith in
            let e' : t ≡ m = at ∙ ap (turned rising n) e ∙ turned_twice rising n m l in
            inr (subst (λ m. Part m j) (sym e') x)

  -- strike_blocks
  pub blocks_passed : {examine : Bool} (rising : Bool) {work u : List ℕ} {r : Bool} (from size level b n i : ℕ) → b ≡ block_slots level → n ≡ (size + b - 1) / b → i ≡ 0
      → PassIs examine manner question capacity work count (TakenUp rising n (Blocks from size b) i) r u → PassIs examine manner question capacity work count (Run from size) r u
  unfolding TakenUp
  blocks_passed rising from size level b n i w e z =
      pass_within (Run from size) (λ j h m.
      let (k, below, least, most) = block_of level size b (j - from) w (omega arith) in
      (k, rw e below, omega arith, in_block from size b (b * k) j m.0 m.1 least most))

  pub pass_all : {v u : List ℕ} {r : Bool} → PassIs true manner question capacity v count (Run 0 count) r u → r ≡ false → AllSurvive manner question capacity u count
  unfolding AllSurvive
  pass_all p e j h z = p.none refl e j h (omega arith, omega arith) z

  -- survives_passes
  pub pass_less : {examine : Bool} {H : ℕ → Type 0} (v u : List ℕ) (again r : Bool) → slot_bytes * count ≤ length v → again ≡ true → PassIs examine manner question capacity v count H r u
      → zeros (marks u count) + cond r 1 0 < zeros (marks v count) + cond again 1 0
  pass_less v u again r room e p = rw e (go r refl)
    where
      go : (b : Bool) → r ≡ b → zeros (marks u count) + cond b 1 0 < zeros (marks v count) + 1
      go true q = omega (arith, p.fewer q)
      go false q = omega (arith, strikes_most room p.strikes)

  pub start_goes : {examine : Bool} {H : ℕ → Type 0} (work v u : List ℕ) (again b : Bool) → Strikes manner question capacity count work v → PassIs examine manner question capacity v count H again u → LeftAtIs u 0 b → b ≡ false
      → StartSurvivesIs manner question capacity work count false u
  unfolding LeftAtIs
  start_goes work v u again b s p l e = record {
    strikes = strikes_then s p.strikes;
    stays = λ q. true_not_false q refl;
    goes = λ q z. eqb-false (get_or u (struck_at 0) 0) 0 (sym l ∙ e) z;
  }

  pub start_stays : (work v : List ℕ) → Strikes manner question capacity count work v → get_or v (struck_at 0) 0 ≡ 0 → AllSurvive manner question capacity v count
      → StartSurvivesIs manner question capacity work count true v
  start_stays work v s z a = record { strikes = s; stays = λ q. (z, a); goes = λ q. true_not_false refl q }

  -- survives_struck
  pub then_survives : (work v u : List ℕ) (r : Bool) → Strikes manner question capacity count work v → StartSurvivesIs manner question capacity v count r u
      → StartSurvivesIs manner question capacity work count r u
  then_survives work v u r s t = record { strikes = strikes_then s t.strikes; stays = t.stays; goes = t.goes }

  -- start_survives
  pub start_gone : (work : List ℕ) (b : Bool) → LeftAtIs work 0 b → b ≡ false → StartSurvivesIs manner question capacity work count false work
  unfolding LeftAtIs
  start_gone work b l e = record {
    strikes = none_struck;
    stays = λ q. true_not_false q refl;
    goes = λ q z. eqb-false (get_or work (struck_at 0) 0) 0 (sym l ∙ e) z;
  }

  pub none_struck_stays : (work : List ℕ) (r : Option ℕ) → 1 ≤ count → FirstStruckIs work count r → r ≡ None → StartSurvivesIs manner question capacity work count true work
  unfolding AllSurvive SurvivesIs
  none_struck_stays work r some s e = start_stays work work none_struck (s.none e 0 some) each
    where
      each : AllSurvive manner question capacity work count
      each i h z f d ms l =
          let known = f.field.known in
          sym (rw (left-all work known (λ j k. s.none e j (omega (arith, f.field.number)))) (go (unanswered ms) refl))
        where
          go : (u : Bool) → unanswered ms ≡ u → all_answered f.field.known (demands_at manner f.field.read (get_or f.field.known i d) ms) ≡ true
          go true u = absurd (f.struck i d ms h l u z)
          go false u =
              let g = f.field in
              let here : Situation = get_or g.known i d in
              let there : here ∈ g.known = get_d_∈ g.known i d (omega (arith, g.number)) in
              all-answer g.known (demands_at manner g.read here ms) (λ m a.
              let (o, b) = demand_answered question g.read g.accepted manner here (g.proper here there) ms l u m a in (
                o,
                b,
                λ t c.
                    let (w, j, k) = demand_followed question g.read g.accepted manner here (g.proper here there) ms l m a o b t c in
                    ∈-found g.known t (g.closed here there ms l w j t k),
              ))

-- Over the rows of the field, from a work area in which those are struck out that exploration strikes out.
module _ (manner : Manner) (question : List ℕ) (capacity : ℕ) (work : List ℕ) (rs : List Row) (f : Searching manner question capacity work (length rs)) (those : f.field.known ≡ selves rs)
    (room : slot_bytes * length rs ≤ length work)
    (rows : (r : Row) → r ∈ rs → successors (setting_of (differs manner) f.field.read.bodies) r.self ≡ leads r.wants)
    (first : StruckFirst work rs) where
  -- equal situations have one number
  abbrev demands : Row → List (List (List Situation))
  demands = demands_of manner (setting_of (differs manner) f.field.read.bodies)

  -- a step whose answers lead to none that is left is not answered
  unmet : (left : List Situation) (r : Row) → r ∈ rs → (w : List Situation) → w ∈ r.wants → ((t : Situation) → t ∈ w → found left t ≡ false)
      → all_answered left (demands r) ≡ false
  unfolding demands_of
  unmet left r m w i h =
      let g = f.field in
      let (y, o, a) = move_demanded question g.read g.accepted manner r.self
      (g.proper r.self (subst (λ l. r.self ∈ l) (sym those) (self_in r rs m))) r.wants (rows r m) w i in
      one_fails left (demands r) y o (λ l b. let (t, c, d) = a l b in (t, c, h t d))

  number_once : (i j : ℕ) (d : Situation) → i < length rs → j < length rs → get_or (selves rs) i d ≡ get_or (selves rs) j d → i ≡ j
  number_once i j d h k e =
      let st = f.field.standing in
      let n : length f.field.known ≡ length rs = f.field.number in
      let same : get_or f.field.known i d ≡ get_or f.field.known j d = ap (λ l. get_or l i d) those ∙ e ∙ sym (ap (λ l. get_or l j d) those) in
      st.once i j (omega arith) (omega arith)
      (slot_key work i (get_or f.field.known i d) (st.held i d (omega arith)) ∙ ap key_of same
      ∙ sym (slot_key work j (get_or f.field.known j d) (st.held j d (omega arith))))

  struck_at_first : StrikesTo demands rs (left_of work (selves rs))
  unfolding StruckFirst
  struck_at_first =
      let n : length (selves rs) ≡ length rs = length-map rs (λ (r : Row). r.self) in
      let fs : List ℕ = marks work (length (selves rs)) in
      let flag : (i : ℕ) → i < length rs → get_or fs i 0 ≡ get_or work (struck_at i) 0 = λ i h. marks-at work (length (selves rs)) i 0 (omega arith) in
      strikes_flagged demands rs unmet fs (length-marks work (length (selves rs)) ∙ n)
      (λ s t i j. f.field.standing.exact s t (subst (λ l. s ∈ l) (sym those) i) (subst (λ l. t ∈ l) (sym those) j)) number_once
      (λ i d h g.
      let (w, m, a) = (first i d h).why (λ z. g (flag i h ∙ z)) in
      (w, m, all_imp _ _ w (λ t (j, l, is, o). (j, l, is, λ z. o (sym (flag j (omega arith)) ∙ z))) a))

  pub strikes_to : {v : List ℕ} → Strikes manner question capacity (length rs) work v → StrikesTo demands rs (left_of v f.field.known)
  unfolding still still_with field-kept SurvivesIs demands_of
  strikes_to none_struck =
      subst (λ k. StrikesTo demands rs (left_of work k)) (sym those) struck_at_first
  strikes_to (one_struck {v} t i h z d) =
      order.one_struck (strikes_to t) r (get_d_∈ rs i blank h) unanswered either within
    where
      blank : Row
      blank = record { self = record { first = nil; second = nil; apart = [] }; wants = [] }

      r : Row
      r = get_or rs i blank

      n : ℕ
      n = length f.field.known

      self : get_or f.field.known i blank.self ≡ r.self
      self = ap (λ k. get_or k i blank.self) those ∙ get_or-map (λ (r : Row). r.self) rs i blank

      wide : slot_bytes * n ≤ length v
      wide = omega (arith, strikes_length manner question capacity (length rs) t, f.field.number)

      unanswered : all_answered (left_of v f.field.known) (demands r) ≡ false
      unanswered =
          ap (λ u. all_answered (left_of v f.field.known) (demands_at manner f.field.read u r.wants)) (sym self)
          ∙ sym (d (still manner question capacity (length rs) t f) blank.self r.wants
          (ap (successors (setting_of (differs manner) f.field.read.bodies)) self ∙ rows r (get_d_∈ rs i blank h)))

      set_is : marks (set v (struck_at i) 1) n ≡ set (marks v n) i 1
      set_is = marks-set v n i (omega (arith, f.field.number)) wide

      either : (s : Situation) → s ∈ left_of v f.field.known → (s ≡ r.self) ⊎ (s ∈ left_of (set v (struck_at i) 1) f.field.known)
      either s m =
          subst (λ u. (s ≡ u) ⊎ (s ∈ left_of (set v (struck_at i) 1) f.field.known)) self
          (rw set_is (struck_either (marks v n) f.field.known i blank.self s m))

      within : (s : Situation) → s ∈ left_of (set v (struck_at i) 1) f.field.known → s ∈ left_of v f.field.known
      within s m = struck_within (marks v n) f.field.known i s (rw set_is at m)
  strikes_to (notes_changed {v} {u} t c) =
      subst (StrikesTo demands rs) (sym (spare_left manner question capacity (length rs) v u c f.field.known)) (strikes_to t)
