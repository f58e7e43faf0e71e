-- A situation survives if each permitted step of both sides is answered by those left. Assumes nothing.
use mathlib.Core.Bool.{Bool, true, false, ◌&&◌}
use mathlib.Core.List.{List, ◌++◌, map, map-append}
use mathlib.Core.Logic.{⊎_elim}
use mathlib.Core.Path.{◌≡◌, sym, ap, ap₂, ◌∙◌, subst}
use native.Mathlib.Omega.{arith}
use Rattle.std.specs.Prelude.{Some, None, Result, Ok, Err, is_ok}
use Rattle.verdict_answers.proofs.Sweeping.{in_ok, in_err, err_not_ok}
use Prim.Native.Nat.{ℕ, ◌*◌, ◌<◌}
use lib.ListN.{get_or}
use Rattle.calculus.specs.Free.{fn}
use Rattle.terms.specs.Limits.{name_count}
use Rattle.steps_tallies.specs.Bodies.{AritiesIs}
use Rattle.terms.specs.Question.{Question}
use Rattle.steps.specs.Listed.{ListedStep}
use Rattle.steps.specs.Listing.{listed, steps_of}
use Rattle.calculus.specs.Lists.{◌∈◌}
use Rattle.calculus.proofs.Membership.{∈-left, ∈_right, ∈_either}
use Rattle.field_taking_up.specs.Below.{placed}
use Rattle.field.specs.Setting.{setting_of, steps_in}
use Rattle.field.specs.Situation.{Situation, free_from, free_in, new_name}
use Rattle.field_pairs.specs.Slot.{slot_bytes}
use Rattle.field.specs.Successors.{moves, leads, successors}
use Rattle.field_taking_up.specs.Below.{ListAt}
use Rattle.field_taking_up.specs.TakingUp.{SidesListed, ListsAre, TakenAs, TakesUp}
use Rattle.field_taking_up.specs.declared.taking.TakenUp.{TakenUp}
use Rattle.field.proofs.Members.{get_d_∈}
use Rattle.verdict_notes.specs.Notes.{Has, Few, Numbers, Within}
use Rattle.verdict_answers.specs.Striking.{left_of, relied_in, side_demands, Side, ReliesOn, SideAnsweredIs, demands_at, FieldIn, LeadsTo, AllAnsweredIs, Relies, ExaminedIs}
use Rattle.verdict_notes.specs.declared.relied.Relied.{Relied}
use Rattle.verdict.specs.Received.{named_demands, sides_demand}
use Rattle.verdict.specs.Verdict.{Manner, openly, named, differs, demands_of, all_answered}
use Rattle.verdict_answers.proofs.Demands.{all_both}
use Rattle.verdict.proofs.Rounds.{single}

-- The demands on a situation are those of its sides.
demands_of_sides : (manner : Manner) (q : Question) (s : Situation) (ps qs : List ListedStep)
    → steps_of q.bodies (new_name name_count s.first s.second) s.first ≡ listed ps
    → steps_of q.bodies (new_name name_count s.first s.second) s.second ≡ listed qs → (ms : List (List Situation))
    → ms ≡ moves (differs manner) name_count (placed false) (free_in name_count s.first s.second) s.apart ps qs
    ++ moves (differs manner) name_count (placed true) (free_in name_count s.first s.second) s.apart qs ps
    → demands_at manner q s ms ≡ side_demands manner false (free_in name_count s.first s.second) s.apart ps qs
    ++ side_demands manner true (free_in name_count s.first s.second) s.apart qs ps
unfolding demands_of side_demands differs named_demands sides_demand steps_in steps_of setting_of placed
demands_of_sides openly q s ps qs a b ms e =
    let F : List ℕ = free_in name_count s.first s.second in
    ap (map (map single)) e
    ∙ map-append (map single) (moves false name_count (placed false) F s.apart ps qs) (moves false name_count (placed true) F s.apart qs ps)
demands_of_sides (named k) q s ps qs a b ms e = ap₂ (sides_demand k (setting_of true q.bodies) s) a b

module _ (manner : Manner) (question : List ℕ) (capacity : ℕ) (work : List ℕ) (count i : ℕ) (below : i < count) (r : TakenUp) (firsts seconds : List ℕ)
    (takes : TakesUp question work (slot_bytes * i) r firsts seconds) where
  module _ (f : FieldIn manner question capacity work count) (d : Situation) where
    abbrev here : Situation
    here = get_or f.known i d

    inside : here ∈ f.known
    inside = get_d_∈ f.known i d (omega (arith, f.number))

    taken : TakenAs f.read here r firsts seconds
    taken =
        takes.is f.read here f.accepted (f.standing.held i d (omega (arith, f.number))) (f.proper here inside).first (f.proper here inside).second

    -- the two sides of a situation within the limits
    module _ (arities : List ℕ) (a : AritiesIs question arities) (n m : ℕ) (l : SidesListed f.read here n m firsts seconds)
        (ms : List (List Situation)) (e : successors (setting_of (differs manner) f.read.bodies) here ≡ leads ms) where
      abbrev F : List ℕ
      F = fn here.first ++ fn here.second

      abbrev of_first : List (List Situation)
      of_first = moves (differs manner) name_count (placed false) (free_from F 0 name_count) here.apart l.ps l.qs

      abbrev of_second : List (List Situation)
      of_second = moves (differs manner) name_count (placed true) (free_from F 0 name_count) here.apart l.qs l.ps

      those : ms ≡ of_first ++ of_second
      unfolding free_in
      those = cc (l.leading (differs manner))

      read_arities : arities ≡ f.read.arities
      unfolding AritiesIs
      read_arities = a f.read f.accepted

      leads-known : (w : List Situation) → w ∈ (of_first ++ of_second) → (t : Situation) → t ∈ w → t ∈ f.known
      unfolding differs
      leads-known w g t h = f.closed here inside ms e w (subst (λ ms. w ∈ ms) (sym those) g) t h

      first_side : Side (differs manner) arities capacity work count r.free r.apart false firsts n seconds m
      first_side = record {
        known = f.known;
        number = f.number;
        standing = f.standing;
        names = F;
        pairs = here.apart;
        steps = l.ps;
        replies = l.qs;
        names_free = taken.free;
        apart_pairs = taken.apart;
        distinction = (f.proper here inside).distinction;
        mine = subst (λ ar. ListAt ar firsts n l.ps) (sym read_arities) l.first;
        theirs = subst (λ ar. ListAt ar seconds m l.qs) (sym read_arities) l.second;
        closed = λ w g t h. leads-known w (∈-left w of_first of_second g) t h;
      }

      second_side : Side (differs manner) arities capacity work count r.free r.apart true seconds m firsts n
      second_side = record {
        known = f.known;
        number = f.number;
        standing = f.standing;
        names = F;
        pairs = here.apart;
        steps = l.qs;
        replies = l.ps;
        names_free = taken.free;
        apart_pairs = taken.apart;
        distinction = (f.proper here inside).distinction;
        mine = subst (λ ar. ListAt ar seconds m l.qs) (sym read_arities) l.second;
        theirs = subst (λ ar. ListAt ar firsts n l.ps) (sym read_arities) l.first;
        closed = λ w g t h. leads-known w (∈_right w of_first of_second g) t h;
      }

      abbrev demands_of_side : Bool → List ListedStep → List ListedStep → List (List (List Situation))
      demands_of_side second ss ts = side_demands manner second (free_from F 0 name_count) here.apart ss ts

      both_demand : demands_at manner f.read here ms ≡ demands_of_side false l.ps l.qs ++ demands_of_side true l.qs l.ps
      unfolding free_in
      both_demand =
          demands_of_sides manner f.read here l.ps l.qs l.first_list l.second_list ms those

      both_sides : (left : List Situation)
          → all_answered left (demands_at manner f.read here ms) ≡ (all_answered left (demands_of_side false l.ps l.qs) && all_answered left (demands_of_side true l.qs l.ps))
      both_sides left = ap (all_answered left) both_demand ∙ all_both left (demands_of_side false l.ps l.qs) (demands_of_side true l.qs l.ps)

  pub past_limit_lem : r.lists ≡ None → (relied : Relied) → Numbers relied → ExaminedIs manner question capacity work count i (Err relied)
  unfolding AllAnsweredIs ListsAre differs relied_in
  past_limit_lem e relied n = record { is = survives; numbers = n; relies = λ s q. err_not_ok relied s q }
    where
      survives : (f : FieldIn manner question capacity work count) (d : Situation) (ms : List (List Situation)) → LeadsTo f i d ms
          → false ≡ all_answered (left_of work f.known) (demands_at manner f.read (get_or f.known i d) ms)
      survives f d ms h =
          let p = subst (λ k. ListsAre f.read (get_or f.known i d) k firsts seconds) e (taken f d).lists (differs manner) in
          let z : ◌≡◌ {A = ℕ} 0 1 = cc in absurd (omega arith)

  module _ (n m : ℕ) (e : r.lists ≡ Some (n, m)) (arities : List ℕ) (a : AritiesIs question arities) (before : Relied) (first : Result Relied Relied)
      (h : SideAnsweredIs manner arities capacity work count r.free r.apart false firsts n seconds m before first) where
    sides : (f : FieldIn manner question capacity work count) (d : Situation) → SidesListed f.read (get_or f.known i d) n m firsts seconds
    unfolding ListsAre
    sides f d = subst (λ k. ListsAre f.read (get_or f.known i d) k firsts seconds) e (taken f d).lists

    pub first-fails : (relied : Relied) → first ≡ Err relied → ExaminedIs manner question capacity work count i (Err relied)
    unfolding AllAnsweredIs first_side sides moves differs
    first-fails relied q = record { is = survives; numbers = in_err Numbers q h.numbers; relies = λ s q. err_not_ok relied s q }
      where
        survives : (f : FieldIn manner question capacity work count) (d : Situation) (ms : List (List Situation)) → LeadsTo f i d ms
            → false ≡ all_answered (left_of work f.known) (demands_at manner f.read (get_or f.known i d) ms)
        survives f d ms g =
            let l = sides f d in
            let x = h.is (first_side f d arities a n m l ms g) in
            sym (both_sides f d arities a n m l ms g (left_of work f.known)
            ∙ ap (λ b. b && all_answered (left_of work f.known) (demands_of_side f d arities a n m l ms g true l.qs l.ps)) (sym x ∙ ap is_ok q))

    pub second_decides : (second : Result Relied Relied) (relied : Relied) → first ≡ Ok relied
        → SideAnsweredIs manner arities capacity work count r.free r.apart true seconds m firsts n relied second
        → ExaminedIs manner question capacity work count i second
    unfolding AllAnsweredIs Relies ReliesOn first_side sides second_side differs
    second_decides second relied q k = record { is = survives; numbers = k.numbers; relies = relies }
      where
        survives : (f : FieldIn manner question capacity work count) (d : Situation) (ms : List (List Situation)) → LeadsTo f i d ms
            → is_ok second ≡ all_answered (left_of work f.known) (demands_at manner f.read (get_or f.known i d) ms)
        survives f d ms g =
            let l = sides f d in
            let x = h.is (first_side f d arities a n m l ms g) in
            let y = k.is (second_side f d arities a n m l ms g) in
            sym (both_sides f d arities a n m l ms g (left_of work f.known) ∙ ap₂ ◌&&◌ (sym x ∙ ap is_ok q) (sym y))

        relies : (s : Relied) → second ≡ Ok s → Few s → Relies manner question capacity work count i (Has s)
        relies s t few f d ms g w o =
            let l = sides f d in
            let more : Within relied s = in_ok (Within relied) t k.more in
            ⊎_elim
            (λ o.
            let (v, b, x) = h.relies relied q (more.few few) (first_side f d arities a n m l ms g) w o in
            (v, b, λ t u. let (j, c, y, z) = x t u in (j, c, more.has few j y, z)))
            (λ o. k.relies s t few (second_side f d arities a n m l ms g) w o)
            (∈_either w (demands_of_side f d arities a n m l ms g false l.ps l.qs) (demands_of_side f d arities a n m l ms g true l.qs l.ps)
            (subst (λ ms. w ∈ ms) (both_demand f d arities a n m l ms g) o))
