-- A situation taken up: whether a step binds a name, and what the lists of both sides say of its successors. Assumes nothing.
use borrow.Author.Tests.{eq-eqb, ne_eqb}
use mathlib.Core.Bool.{Bool, true, false, cond, ◌&&◌, ◌||◌}
use mathlib.Core.List.{List, ◌++◌}
use mathlib.Core.Logic.{inl, inr}
use mathlib.Core.Path.{◌≡◌, refl, sym, ◌∙◌, ap, ap₂, subst}
use native.Mathlib.Numerals.{add-one}
use native.Mathlib.Omega.{arith}
use Prim.Native.Nat.{ℕ, suc, ◌+◌, ◌*◌, ◌<◌, ◌≤◌}
use lib.Dec.{eqb}
use lib.ListN.{length, get_or, drop, drop_of_length-le}
use lib.Seq.{sets, drop-cons}
use Rattle.std.specs.Prelude.{Option, Some, None}
use Rattle.calculus.specs.Free.{fn, Free}
use Rattle.calculus.specs.Term.{Term}
use Rattle.calculus.proofs.UpToRenaming.{Either}
use Rattle.terms.specs.Encoding.{InScope}
use Rattle.terms.specs.Limits.{name_count}
use Rattle.terms.specs.Question.{Question}
use Rattle.steps_tallies.specs.Bodies.{AritiesIs}
use Rattle.steps.specs.Limits.{most_steps, step_bytes}
use Rattle.steps.specs.Listed.{ListedStep}
use Rattle.steps.specs.Listing.{Listing, unsettled, listed, steps_of}
use Rattle.steps.specs.Operations.{list_bytes}
use Rattle.steps_lister.specs.PartLister as lister
use Rattle.field_pairs.specs.Entry.{BindsIs}
use Rattle.field_slots.specs.Key.{FirstPartIs, SecondPartIs, ApartFlagsIs}
use Rattle.field_renewal.specs.Below.{placed}
use Rattle.field_kept_lists.specs.ListArea.{list_area, ListIn, SideIs}
use Rattle.field_pairs.specs.NameFlags.{HasNames, FreeInEitherIs, NewNameIs}
use Rattle.field.specs.Setting.{setting_of, steps_in}
use Rattle.field.specs.Situation.{Situation, free_in}
use Rattle.field.specs.Successors.{some_binds, past_limit, leads, moves, led_to, with_steps, successors}
use Rattle.field_renewal.specs.ListedEntries.{ListAt, EntriesAt}
use Rattle.field_taking_up.specs.TakingUp.{SomeBindsIs, PastNamesIs, SidesListed, ListsAre, Sides, ListsSides, TakesUp}
use Rattle.field_kept_lists.proofs.ListAreaLaws.{list_there}
use Rattle.field_renewal.proofs.ListedParts.{listed-entries, listed_at}
use Rattle.field.proofs.NewNames.{new_free}
use Rattle.field.proofs.Proper.{either_below}
use Rattle.field_renewal.proofs.ListedSides.{blank}

-- The steps passed bind no name.
module _ (area : List ℕ) (count : ℕ) where
  abbrev pub Unbound : ℕ → Type 0
  Unbound i = (ss : List ListedStep) → EntriesAt area count ss → some_binds ss ≡ some_binds (drop i ss)

  module _ (i : ℕ) (h : i < count) (so : Unbound i) (b : Bool) (binds : BindsIs area (step_bytes * i) b) where
    one : (ss : List ListedStep) → EntriesAt area count ss → some_binds ss ≡ (b || some_binds (drop (suc i) ss))
    unfolding EntriesAt BindsIs some_binds
    one ss e =
        let k : i < length ss = omega (arith, e.0) in
        so ss e ∙ ap some_binds (drop-cons ss i blank k) ∙ ap (λ t. t || some_binds (drop (suc i) ss)) (sym (binds (get_or ss i blank) (e.1 i blank h)))

    pub binds_found : b ≡ true → SomeBindsIs area count true
    unfolding SomeBindsIs
    binds_found t ss e = sym (one ss e ∙ ap (λ c. c || some_binds (drop (suc i) ss)) t)

    pub binds_next : b ≡ false → Unbound (i + 1)
    binds_next t ss e = one ss e ∙ ap (λ c. c || some_binds (drop (suc i) ss)) t ∙ ap (λ n. some_binds (drop n ss)) (sym (add-one i))

  pub binds_none : (i : ℕ) → count ≤ i → Unbound i → SomeBindsIs area count false
  unfolding SomeBindsIs EntriesAt some_binds
  binds_none i h so ss e = sym (so ss e ∙ ap some_binds (drop_of_length-le ss {i = i} (omega (arith, e.0))))

-- The limit of names.
module _ (x : ℕ) (firsts : List ℕ) (n : ℕ) (seconds : List ℕ) (m : ℕ) where
  pub names-left : (x ≡ name_count → ⊥) → PastNamesIs x firsts n seconds m false
  unfolding PastNamesIs
  names-left h ps qs e f = rw (ne_eqb x name_count h)

  module _ (h : x ≡ name_count) (b : Bool) (first : SomeBindsIs firsts n b) where
    pub names-first : b ≡ true → PastNamesIs x firsts n seconds m true
    unfolding PastNamesIs SomeBindsIs
    names-first t ps qs e f = rw (eq-eqb x name_count h, ← first ps e, t)

    pub names-second : b ≡ false → (c : Bool) → SomeBindsIs seconds m c → PastNamesIs x firsts n seconds m c
    unfolding PastNamesIs SomeBindsIs
    names-second t c second ps qs e f = rw (eq-eqb x name_count h, ← first ps e, t) (second qs f)

-- What a list in an area says of a part.
module _ (question part : List ℕ) (x n : ℕ) (area : List ℕ) (held : ListIn question part x n area) (room : list_area ≤ length area)
    (q : Question) (P : Term) (l : lister.Lists question part x q P) (new : ¬ Free x P) where
  record SideListed : Type 0 where
    pub steps : List ListedStep
    pub given : steps_of q.bodies x P ≡ listed steps
    pub entries : EntriesAt area n steps
    pub list : (x ≡ name_count → some_binds steps ≡ false) → ListAt q.arities area n steps

  a_list : SideListed
  a_list =
      let (ss, given, number, there) = held.is q P l new in
      let wide : length ss * step_bytes ≤ length area = omega (arith, held.few) in
      let stored : area ≡ sets area 0 (list_bytes ss) = list_there area (step_bytes * n) (list_bytes ss) (omega (arith, held.few)) there in
      record {
        steps = ss;
        given = given;
        entries = subst (λ k. EntriesAt area k ss) number (listed-entries question part x q P l new ss given area area wide stored);
        list = λ w. subst (λ k. ListAt q.arities area k ss) number (listed_at question part x q P l new ss given area area wide stored w);
      }

-- What the steps of both sides lead to.
abbrev led : Bool → Situation → List ListedStep → List ListedStep → List (List Situation)
led differ s ps qs =
    moves differ name_count (placed false) (free_in name_count s.first s.second) s.apart ps qs
    ++ moves differ name_count (placed true) (free_in name_count s.first s.second) s.apart qs ps

module _ (question first second : List ℕ) (x : ℕ) (q : Question) (s : Situation) (h : Sides question first second x q s) where
  below : (n : ℕ) → Either n s.first s.second → n < name_count
  below = either_below name_count q.arities s.first s.second h.left.scope h.right.scope

  new-first : ¬ Free x s.first
  new-first f = new_free name_count s.first s.second below (inl (subst (λ y. Free y s.first) h.new f))

  new-second : ¬ Free x s.second
  new-second f = new_free name_count s.first s.second below (inr (subst (λ y. Free y s.second) h.new f))

  successors-by : (differ : Bool) (k l : Listing) → steps_of q.bodies x s.first ≡ k → steps_of q.bodies x s.second ≡ l
      → successors (setting_of differ q.bodies) s ≡ with_steps (setting_of differ q.bodies) s k l
  unfolding successors setting_of steps_in steps_of
  successors-by differ k l e f =
      ap (λ y. with_steps (setting_of differ q.bodies) s (steps_of q.bodies y s.first) (steps_of q.bodies y s.second)) (sym h.new)
      ∙ ap₂ (with_steps (setting_of differ q.bodies) s) e f

  past_first : steps_of q.bodies x s.first ≡ unsettled → (differ : Bool) → successors (setting_of differ q.bodies) s ≡ past_limit
  unfolding with_steps
  past_first e differ = successors-by differ unsettled (steps_of q.bodies x s.second) e refl

  past-second : steps_of q.bodies x s.second ≡ unsettled → (differ : Bool) → successors (setting_of differ q.bodies) s ≡ past_limit
  unfolding with_steps
  past-second e differ = go (steps_of q.bodies x s.first) refl
    where
      go : (k : Listing) → steps_of q.bodies x s.first ≡ k → successors (setting_of differ q.bodies) s ≡ past_limit
      go unsettled d = successors-by differ unsettled unsettled d e
      go (listed ps) d = successors-by differ (listed ps) unsettled d e

  -- both sides listed, and the limit of names tested
  led-by : (ps qs : List ListedStep) → steps_of q.bodies x s.first ≡ listed ps → steps_of q.bodies x s.second ≡ listed qs
      → (t : Bool) → (eqb x name_count && (some_binds ps || some_binds qs)) ≡ t
      → (differ : Bool) → successors (setting_of differ q.bodies) s ≡ cond t past_limit (leads (led differ s ps qs))
  unfolding with_steps led_to setting_of placed
  led-by ps qs e f t d differ =
      successors-by differ (listed ps) (listed qs) e f
      ∙ ap (λ y. cond (eqb y name_count && (some_binds ps || some_binds qs)) past_limit (leads (led differ s ps qs))) (sym h.new)
      ∙ ap (λ b. cond b past_limit (leads (led differ s ps qs))) d

-- Within the limit of names no step binds a name where none is left.
within_first : (x : ℕ) (b c : Bool) → (eqb x name_count && (b || c)) ≡ false → x ≡ name_count → b ≡ false
within_first x false c e d = refl
within_first x true c e d = let f = eq-eqb x name_count d in let z : ◌≡◌ {A = ℕ} 0 1 = cc in absurd (omega arith)

within_second : (x : ℕ) (b c : Bool) → (eqb x name_count && (b || c)) ≡ false → x ≡ name_count → c ≡ false
within_second x b false e d = refl
within_second x true true e d = let f = eq-eqb x name_count d in let z : ◌≡◌ {A = ℕ} 0 1 = cc in absurd (omega arith)
within_second x false true e d = let f = eq-eqb x name_count d in let z : ◌≡◌ {A = ℕ} 0 1 = cc in absurd (omega arith)

-- Both sides listed, or a limit passed.
not_listed : (n m : ℕ) → ◌≡◌ {A = Option (ℕ × ℕ)} None (Some (n, m)) → (n ≤ most_steps) × (m ≤ most_steps)
not_listed n m e = let z : ◌≡◌ {A = ℕ} 0 1 = cc in absurd (omega arith)

module _ (question first second : List ℕ) (x : ℕ) (firsts seconds : List ℕ) where
  pub sides_first_past : (a : Option ℕ) → SideIs question first x a firsts → a ≡ None → ListsSides question first second x None firsts seconds
  unfolding ListsAre SideIs
  sides_first_past a left e =
      let past = subst (λ r. SideIs question first x r firsts) e left in
      record {
        few = not_listed;
        is = λ q s h. past_first question first second x q s h (past q s.first h.left (new-first question first second x q s h));
      }

  pub sides_second_past : (b : Option ℕ) → SideIs question second x b seconds → b ≡ None → ListsSides question first second x None firsts seconds
  unfolding ListsAre SideIs
  sides_second_past b right e =
      let past = subst (λ r. SideIs question second x r seconds) e right in
      record {
        few = not_listed;
        is = λ q s h. past-second question first second x q s h (past q s.second h.right (new-second question first second x q s h));
      }

  module _ (room : list_area ≤ length firsts) (also : list_area ≤ length seconds) (n m : ℕ) (left : ListIn question first x n firsts)
      (right : ListIn question second x m seconds) (p : Bool) (past : PastNamesIs x firsts n seconds m p) where
    module _ (q : Question) (s : Situation) (h : Sides question first second x q s) where
      abbrev ps : SideListed question first x n firsts left room q s.first h.left (new-first question first second x q s h)
      ps = a_list question first x n firsts left room q s.first h.left (new-first question first second x q s h)

      abbrev qs : SideListed question second x m seconds right also q s.second h.right (new-second question first second x q s h)
      qs = a_list question second x m seconds right also q s.second h.right (new-second question first second x q s h)

      tested : (t : Bool) → p ≡ t → (eqb x name_count && (some_binds ps.steps || some_binds qs.steps)) ≡ t
      unfolding PastNamesIs
      tested t e = sym (past ps.steps qs.steps ps.entries qs.entries) ∙ e

      leads_to : (t : Bool) → p ≡ t → (differ : Bool) → successors (setting_of differ q.bodies) s ≡ cond t past_limit (leads (led differ s ps.steps qs.steps))
      leads_to t e = led-by question first second x q s h ps.steps qs.steps ps.given qs.given t (tested t e)

      lists : p ≡ false → SidesListed q s n m firsts seconds
      lists e = record {
        ps = ps.steps;
        qs = qs.steps;
        first = ps.list (within_first x (some_binds ps.steps) (some_binds qs.steps) (tested false e));
        second = qs.list (within_second x (some_binds ps.steps) (some_binds qs.steps) (tested false e));
        first_list = ap (λ y. steps_of q.bodies y s.first) (sym h.new) ∙ ps.given;
        second_list = ap (λ y. steps_of q.bodies y s.second) (sym h.new) ∙ qs.given;
        leading = leads_to false e;
      }

    pub sides_names_past : p ≡ true → ListsSides question first second x None firsts seconds
    unfolding ListsAre
    sides_names_past e = record { few = not_listed; is = λ q s h. leads_to q s h true e }

    pub sides_listed : p ≡ false → ListsSides question first second x (Some (n, m)) firsts seconds
    unfolding ListsAre
    sides_listed e = record {
      few = λ i j d.
          let p : ◌≡◌ {A = ℕ × ℕ} (n, m) (i, j) = cc in
          let f : n ≡ i = ap (λ k. k.0) p in
          let g : m ≡ j = ap (λ k. k.1) p in
          (omega (arith, left.few), omega (arith, right.few));
      is = λ q s h. lists q s h e;
    }

-- All together.
pub taken_up : (question work : List ℕ) (at : ℕ) (first second arities free : List ℕ) (x : ℕ) (apart : List ℕ) (lists : Option (ℕ × ℕ)) (firsts seconds : List ℕ)
    → FirstPartIs work at first → SecondPartIs work at second → AritiesIs question arities → FreeInEitherIs first second arities free
    → NewNameIs free x → ApartFlagsIs work at apart → ListsSides question first second x lists firsts seconds
    → TakesUp question work at (record { free = free; apart = apart; lists = lists }) firsts seconds
unfolding FirstPartIs SecondPartIs AritiesIs FreeInEitherIs ApartFlagsIs
taken_up question work at first second arities free x apart lists firsts seconds p q a names new pairs sides = record {
  few = sides.few;
  is = λ r s accepted there left right.
      let e = p s there in
      let f = q s there in
      let has : HasNames free (fn s.first ++ fn s.second) =
      names s.first s.second (subst (λ a. InScope name_count a 0 s.first) (sym (a r accepted)) left)
      (subst (λ a. InScope name_count a 0 s.second) (sym (a r accepted)) right) e f in
      record {
        free = has;
        apart = pairs s there;
        lists =
            sides.is r s (record {
              left = record { accepted = accepted; scope = left; bytes = e; size = there.first; new = new.within };
              right = record { accepted = accepted; scope = right; bytes = f; size = there.second; new = new.within };
              new = new.is s.first s.second has;
            });
      };
}
