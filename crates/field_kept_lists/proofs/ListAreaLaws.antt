-- The lists of an area and what their labels say. Assumes nothing.
use mathlib.Core.List.{List, ◌++◌}
use mathlib.Core.Path.{◌≡◌, refl, sym, ◌∙◌, ap, subst}
use native.Mathlib.Omega.{arith}
use Prim.Native.Nat.{ℕ, ◌+◌, ◌*◌, ◌<◌, ◌≤◌}
use lib.ListN.{length, get_or, set, take, drop, replicate, take-append-drop, length-set, length-replicate, get_or-replicate}
use lib.Seq.{length-take-le, length_front, take-append-le, take_at, drop_at, get_or-take, get_or-set_same, sets, sets-eq}
use Rattle.std.specs.Prelude.{Option, Some, None}
use Rattle.calculus.specs.Free.{Free}
use Rattle.calculus.specs.Term.{Term}
use Rattle.terms_bytes.specs.FieldPlaces.{size_at}
use Rattle.terms.specs.Limits.{name_count, longest_term}
use Rattle.terms.specs.Question.{Question}
use Rattle.terms.proofs.ReadEncoded.{encode-some}
use Rattle.terms_bytes.proofs.Stores.{length-span, get_d_span}
use Rattle.steps.specs.Limits.{step_bytes}
use Rattle.steps.specs.Listed.{ListedStep}
use Rattle.steps.specs.Listing.{Listing, unsettled, listed, steps_of}
use Rattle.steps.specs.Operations.{list_bytes}
use Rattle.steps_lister.specs.PartLister.{Lists}
use Rattle.steps_lister.specs.PartLister.{AnswersListing, ListPartIs}
use Rattle.field_kept_lists.specs.ListArea.{label_place, label_bytes, kept_bytes, kept_lists, kept_place, list_area, label_at, kept_at, LabelIs, count_in, Elsewhere, PutsLabel, ListIn, Tells, Kept, Labelled, SideIs}
use Rattle.field_kept_lists.proofs.ElsewhereLaws.{fewer, window_behind, one_set, run_set}

-- The same list where the same steps stand.
pub list_same : (question part : List ℕ) (x n : ℕ) (a b : List ℕ) → take (step_bytes * n) b ≡ take (step_bytes * n) a → ListIn question part x n a
    → ListIn question part x n b
list_same question part x n a b e list = record {
  few = list.few;
  is = λ q P l new. let (ss, given, number, there) = list.is q P l new in (ss, given, number, e ∙ there);
}

-- The label of a list says that it is there.
pub tells : (question part : List ℕ) (x n : ℕ) (label area : List ℕ) → LabelIs label part x → count_in label ≡ n → ListIn question part x n area
    → Tells question label area
tells question part x n label area is count list part' x' h l =
    let e : x ≡ x' = sym is.name ∙ l.name in
    let s : length part ≡ length part' = sym is.size ∙ l.size in
    let p : part ≡ part' = sym is.bytes ∙ ap (λ k. take k (drop 4 label)) s ∙ l.bytes in
    subst (λ y. ListIn question part' y (count_in label) area) e
    (subst (λ w. ListIn question w x (count_in label) area) p (subst (λ k. ListIn question part x k area) (sym count) list))

-- A change before the kept lists.
abbrev pub KeptLists : List ℕ → List ℕ → Type 0
KeptLists question area = (i : ℕ) → i < kept_lists → Kept question (kept_at area i)

pub kept-front : (question : List ℕ) (p n : ℕ) (a b : List ℕ) → Elsewhere p n a b → p + n ≤ kept_place 0 → KeptLists question a → KeptLists question b
kept-front question p n a b e h so i l = subst (Kept question) (sym (window_behind p n a b e (kept_place i) kept_bytes (omega arith))) (so i l)

-- A label put to the list at hand.
pub labelled_by : (question part : List ℕ) (x n : ℕ) (area area' : List ℕ) → KeptLists question area → ListIn question part x n area
    → PutsLabel area label_place part x n area' → list_area ≤ length area' → ListIn question part x n area' × Labelled question area'
labelled_by question part x n area area' so list put room =
    let k : step_bytes * n ≤ label_place = omega (arith, list.few) in
    let there : ListIn question part x n area' = list_same question part x n area area' (fewer (step_bytes * n) label_place area' area k put.kept.before) list in (
      there,
      record {
        room = room;
        is = tells question part x n (label_at area' label_place) area' put.label put.count there;
        kept = kept-front question label_place label_bytes area area' put.kept (omega arith) so;
      },
    )

-- No list: a name past the limit, or no part.
unlabelled : (question area : List ℕ) → list_area ≤ length area → KeptLists question area → Labelled question (set area label_place 255)
unlabelled question area room so = record {
  room = omega (arith, length-set area label_place 255);
  is = λ part x h l.
      absurd
      (omega (arith, l.name, get_d_span (set area label_place 255) label_place label_bytes 0 (omega arith), get_or-set_same area label_place 255 0 (omega arith)));
  kept = kept-front question label_place 1 area (set area label_place 255) (one_set area label_place 255 label_place 1 (omega arith) (omega arith)) (omega arith) so;
}

zero_label : (question label area : List ℕ) → ((k : ℕ) → k < label_bytes → get_or label k 0 ≡ 0) → Tells question label area × (count_in label ≡ 0)
unfolding size_at
zero_label question label area z =
    let count : count_in label ≡ 0 = omega (arith, z 2 (omega arith), z 3 (omega arith)) in (
      λ part x h l. record {
        few = omega (arith, count);
        is = λ q P k new. absurd (omega (arith, l.size, z 1 (omega arith), ap length k.bytes, encode-some 0 P));
      },
      count,
    )

pub no_part : (question : List ℕ) (n : ℕ) → list_area ≤ n → Labelled question (replicate n 0)
no_part question n room = record {
  room = omega (arith, length-replicate {A = ℕ} n 0);
  is = (zero_label question (label_at (replicate n 0) label_place) (replicate n 0) (λ k h. zeros label_place k label_bytes h (omega arith))).0;
  kept = λ i h.
      let spot = kept_at (replicate {A = ℕ} n 0) i in
      let none = zero_label question (take label_bytes spot) (drop label_bytes spot)
      (λ k l. get_or-take label_bytes spot k 0 l ∙ zeros (kept_place i) k kept_bytes (omega arith) (omega arith)) in
      record { few = omega (arith, none.1); is = none.0 };
}
  where
    zeros : (p k m : ℕ) → k < m → p + m ≤ n → get_or (take m (drop p (replicate {A = ℕ} n 0))) k 0 ≡ 0
    zeros p k m h l = get_d_span (replicate {A = ℕ} n 0) p m k h ∙ get_or-replicate {A = ℕ} n (p + k) 0 0 (omega arith)

-- An area of which the beginning was lent is as long as before.
pub room_kept : (area new : List ℕ) → length new ≡ length (take label_place area) → list_area ≤ length area → list_area ≤ length (new ++ drop label_place area)
room_kept area new e r = omega (arith, length_front area new label_place e)

-- The beginning of an area lent, and changed: what the labels of the kept lists say stays so.
module _ (question area steps : List ℕ) (same : length steps ≡ length (take label_place area)) (so : Labelled question area) where
  pub lent_size : length steps ≡ label_place
  lent_size = same ∙ length-take-le label_place area (omega (arith, so.room))

  kept_lent : KeptLists question (steps ++ drop label_place area)
  kept_lent =
      kept-front question 0 label_place area (steps ++ drop label_place area)
      (record { before = refl; behind = drop_at steps (drop label_place area) label_place lent_size }) (omega arith) so.kept

  room_lent : list_area ≤ length (steps ++ drop label_place area)
  room_lent = omega (arith, so.room, length_front area steps label_place same)

  pub lent_unlabelled : Labelled question (set (steps ++ drop label_place area) label_place 255)
  lent_unlabelled = unlabelled question (steps ++ drop label_place area) room_lent kept_lent

  pub lent_labelled : (part : List ℕ) (x n : ℕ) → ListIn question part x n steps → (area' : List ℕ)
      → PutsLabel (steps ++ drop label_place area) label_place part x n area' → list_area ≤ length area'
      → ListIn question part x n area' × Labelled question area'
  lent_labelled part x n list area' put room =
      let k : step_bytes * n ≤ length steps = omega (arith, lent_size, list.few) in
      labelled_by question part x n (steps ++ drop label_place area) area' kept_lent
      (list_same question part x n steps (steps ++ drop label_place area) (take-append-le (step_bytes * n) steps (drop label_place area) k) list) put room

-- What the lister's answer says of a side. It is lent the beginning of the area.
module _ (question part : List ℕ) (x : ℕ) (area : List ℕ) (r : Option ℕ) (steps : List ℕ)
    (answer : ListPartIs question part x r steps) (same : length steps ≡ length (take label_place area))
    (so : Labelled question area) where
  abbrev whole : List ℕ
  whole = steps ++ drop label_place area

  side_past : r ≡ None → (b : List ℕ) → SideIs question part x None b
  unfolding SideIs AnswersListing
  side_past u b q P l new = go (steps_of q.bodies x P) (answer.is q P l new)
    where
      go : (k : Listing) → AnswersListing k r steps → k ≡ unsettled
      go unsettled e = refl
      go (listed ss) e = let d = e.0 in let z : ◌≡◌ {A = ℕ} 0 1 = cc in absurd (omega arith)

  pub side_unlabelled : r ≡ None → SideIs question part x None (set whole label_place 255) × Labelled question (set whole label_place 255)
  side_unlabelled u = (side_past u (set whole label_place 255), lent_unlabelled question area steps same so)

  list_made : (n : ℕ) → r ≡ Some n → ListIn question part x n steps
  unfolding AnswersListing
  list_made n c = record { few = answer.few n c; is = λ q P l new. go q P l new (steps_of q.bodies x P) refl (answer.is q P l new) }
    where
      go : (q : Question) (P : Term) → Lists question part x q P → ¬ Free x P → (k : Listing) → steps_of q.bodies x P ≡ k
          → AnswersListing k r steps
          → (ss : List ListedStep) × (steps_of q.bodies x P ≡ listed ss) × (length ss ≡ n) × (take (step_bytes * n) steps ≡ list_bytes ss)
      go q P l new unsettled d e = let z : ◌≡◌ {A = ℕ} 0 1 = cc in absurd (omega arith)
      go q P l new (listed ss) d e =
          let f = e.0 in
          let number : length ss ≡ n = cc in
          let bytes : step_bytes * n ≡ length ss * step_bytes = omega arith in
          (ss, d, number, ap (λ k. take k steps) bytes ∙ e.1)

  pub listed_at_hand : (n : ℕ) → r ≡ Some n → (area' : List ℕ) → PutsLabel whole label_place part x n area' → list_area ≤ length area'
      → ListIn question part x n area' × Labelled question area'
  listed_at_hand n c area' put room = lent_labelled question area steps same so part x n (list_made n c) area' put room

-- A part above the limit is none that is to be listed.
pub long_part : (question part : List ℕ) (x : ℕ) (area : List ℕ) → longest_term < length part → SideIs question part x None area
unfolding SideIs
long_part question part x area h q P l new = absurd (omega (arith, ap length l.bytes, l.size))

-- The steps of a list, which stand at s of some bytes, copied to the front of an area.
module _ (question part : List ℕ) (x n : ℕ) (from : List ℕ) (s : ℕ) (area area' : List ℕ) (list : ListIn question part x n (drop s from))
    (there : s + step_bytes * n ≤ length from) (room : list_area ≤ length area) (e : area' ≡ sets area 0 (take (step_bytes * n) (drop s from))) where
  abbrev copied : List ℕ
  copied = take (step_bytes * n) (drop s from)

  copied-size : length copied ≡ step_bytes * n
  copied-size = length-span from s (step_bytes * n) there

  pub list_copied : ListIn question part x n area'
  list_copied =
      list_same question part x n (drop s from) area'
      (ap (take (step_bytes * n)) (e ∙ sets-eq copied area 0 (omega (arith, copied-size, list.few)))
      ∙ take_at copied (drop (0 + length copied) area) (step_bytes * n) copied-size) list

  pub kept-copied : KeptLists question area → KeptLists question area'
  kept-copied so =
      subst (KeptLists question) (sym e)
      (kept-front question 0 (length copied) area (sets area 0 copied) (run_set area copied 0 (omega (arith, copied-size, list.few))) (omega (arith, copied-size, list.few)) so)

-- An area that begins with the list, as the lister would have written it.
pub list_there : (area : List ℕ) (k : ℕ) (bs : List ℕ) → k ≤ length area → take k area ≡ bs → area ≡ sets area 0 bs
list_there area k bs room e =
    let m : length bs ≡ k = ap length (sym e) ∙ length-take-le k area room in
    let z : 0 + length bs ≡ k = omega arith in
    sym (sets-eq bs area 0 (omega arith) ∙ ap (λ i. bs ++ drop i area) z ∙ ap (λ l. l ++ drop k area) (sym e) ∙ take-append-drop k area)

-- A side's list.
module _ (question part : List ℕ) (x : ℕ) where
  pub side_list : (r : Option ℕ) (area : List ℕ) → SideIs question part x r area → (n : ℕ) → r ≡ Some n → ListIn question part x n area × (length part ≤ longest_term)
  unfolding SideIs
  side_list r area s n e = subst (λ a. SideIs question part x a area) e s

  pub side_at_hand : (area : List ℕ) → Labelled question area → x ≤ name_count → length part ≤ longest_term → LabelIs (label_at area label_place) part x → (n : ℕ)
      → n ≡ count_in (label_at area label_place) → SideIs question part x (Some n) area
  unfolding SideIs
  side_at_hand area so within fits label n e = (subst (λ k. ListIn question part x k area) (sym e) (so.is part x within label), fits)

  pub side_is : (n : ℕ) (area : List ℕ) → length part ≤ longest_term → ListIn question part x n area × Labelled question area
      → SideIs question part x (Some n) area × Labelled question area
  unfolding SideIs
  side_is n area fits (list, so) = ((list, fits), so)
