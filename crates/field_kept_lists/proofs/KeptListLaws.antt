-- The kept lists of an area: one brought to hand, and the list at hand kept. Assumes nothing.
use mathlib.Core.List.{List, ◌++◌, append_assoc}
use mathlib.Core.Path.{◌≡◌, sym, ◌∙◌, ap, subst}
use native.Mathlib.Decide.{dec_lt}
use native.Mathlib.Omega.{arith}
use Prim.Native.Nat.{ℕ, ◌+◌, ◌-◌, ◌*◌, ◌<◌, ◌≤◌}
use lib.ListN.{length, take, drop}
use lib.Seq.{length-take-le, take-take, take_at, drop_at, drop-drop, paste, sets, sets-eq}
use Rattle.terms.specs.Limits.{name_count}
use Rattle.terms_bytes.proofs.Stores.{length-span}
use Rattle.steps.specs.Limits.{step_bytes, most_steps}
use Rattle.field_kept_lists.specs.ListArea.{label_place, label_bytes, kept_steps, kept_bytes, kept_place, list_area, label_at, kept_at, LabelIs, count_in, Elsewhere, PutsLabel, ListIn, Tells, Kept, Labelled, KeptPlace, Brings, Keeps}
use Rattle.field_kept_lists.proofs.ElsewhereLaws.{fewer, window, window_before, window_behind, wider, after, run_set}
use Rattle.field_kept_lists.proofs.ListAreaLaws.{list_same, tells, KeptLists, labelled_by, list_copied, kept-copied}

-- A list copied within an area.
pub pasted : (l : List ℕ) (from end to n : ℕ) → end - from ≡ n → from + n ≤ length l → to + n ≤ length l
    → paste l to (drop from l) (end - from) ≡ sets l to (take n (drop from l))
pasted l from end to n e h room =
    let size : length (take n (drop from l)) ≡ n = length-span l from n h in
    ap (paste l to (drop from l)) e ∙ ap (λ k. (take to l ++ take n (drop from l)) ++ drop (to + k) l) (sym size)
    ∙ sym (sets-eq (take n (drop from l)) l to (omega (arith, size)))

-- The label and the steps of the kept list at p.
pub label_here : (area : List ℕ) (p : ℕ) → take label_bytes (take kept_bytes (drop p area)) ≡ label_at area p
label_here area p = take-take label_bytes kept_bytes (drop p area) (omega arith)

steps-here : (area : List ℕ) (p n : ℕ) → n ≤ kept_steps
    → take (step_bytes * n) (drop label_bytes (take kept_bytes (drop p area))) ≡ take (step_bytes * n) (drop (p + label_bytes) area)
steps-here area p n h =
    ap (take (step_bytes * n)) (window label_bytes (step_bytes * kept_steps) (drop p area))
    ∙ take-take (step_bytes * n) (step_bytes * kept_steps) (drop label_bytes (drop p area)) (omega arith)
    ∙ ap (take (step_bytes * n)) (drop-drop label_bytes p area)

module _ (question area : List ℕ) (so : Labelled question area) (p : ℕ) (k : KeptPlace p) where
  pub kept_here : Kept question (take kept_bytes (drop p area))
  kept_here = subst (λ q. Kept question (take kept_bytes (drop q area))) (sym k.is) (so.kept k.number k.among)

  pub few_kept : count_in (label_at area p) ≤ kept_steps
  few_kept = subst (λ l. count_in l ≤ kept_steps) (label_here area p) kept_here.few

  list_kept : (part : List ℕ) (x : ℕ) → x ≤ name_count → LabelIs (label_at area p) part x
      → ListIn question part x (count_in (label_at area p)) (drop (p + label_bytes) area)
  list_kept part x h l =
      list_same question part x (count_in (label_at area p)) (drop label_bytes (take kept_bytes (drop p area))) (drop (p + label_bytes) area)
      (sym (steps-here area p (count_in (label_at area p)) few_kept))
      (subst (λ w. Tells question w (drop label_bytes (take kept_bytes (drop p area)))) (label_here area p) kept_here.is part x h l)

-- The list kept at p of some area copied to the front of this one and labelled.
pub brought : (from : List ℕ) (p : ℕ) (part : List ℕ) (x : ℕ) (area : List ℕ) (n : ℕ) (area' area'' : List ℕ) → list_area ≤ length from → KeptPlace p
    → n ≤ kept_steps → x ≤ name_count → n ≡ count_in (label_at from p) → area' ≡ sets area 0 (take (step_bytes * n) (drop (p + label_bytes) from))
    → PutsLabel area' label_place part x n area'' → list_area ≤ length area'' → Brings from p part x area n area''
brought from p part x area n area' area'' room k few within e c put same question so label also =
    let list : ListIn question part x n (drop (p + label_bytes) from) =
    subst (λ m. ListIn question part x m (drop (p + label_bytes) from)) (sym e) (list_kept question from so p k part x within label) in
    let there : p + label_bytes + step_bytes * n ≤ length from = omega arith in
    labelled_by question part x n area' area'' (kept-copied question part x n from (p + label_bytes) area area' list there also.room c also.kept)
    (list_copied question part x n from (p + label_bytes) area area' list there also.room c) put same

-- The list at hand copied to p and labelled there.
module _ (area : List ℕ) (p : ℕ) (part : List ℕ) (x n : ℕ) (area' area'' : List ℕ) (room : list_area ≤ length area) (k : KeptPlace p) (few : n ≤ kept_steps)
    (c : area' ≡ sets area (p + label_bytes) (take (step_bytes * n) area)) (put : PutsLabel area' p part x n area'') where
  abbrev steps : List ℕ
  steps = take (step_bytes * n) area

  steps-size : length steps ≡ step_bytes * n
  steps-size = length-take-le (step_bytes * n) area (omega arith)

  steps_room : p + label_bytes + length steps ≤ length area
  steps_room = omega (arith, steps-size, k.is, k.among)

  changed : Elsewhere p kept_bytes area area''
  changed =
      after p kept_bytes area area' area''
      (subst (λ l. Elsewhere p kept_bytes area l) (sym c)
      (wider (p + label_bytes) (length steps) area (sets area (p + label_bytes) steps) (run_set area steps (p + label_bytes) steps_room) p kept_bytes (omega arith)
      (omega (arith, steps-size))))
      (wider p label_bytes area' area'' put.kept p kept_bytes (omega arith) (omega arith))

  front_same : (m : ℕ) → m ≤ most_steps → take (step_bytes * m) area'' ≡ take (step_bytes * m) area
  front_same m h = fewer (step_bytes * m) p area'' area (omega (arith, k.is)) changed.before

  steps_there : take (step_bytes * n) (drop (p + label_bytes) area'') ≡ steps
  steps_there =
      let rest = drop (p + label_bytes + length steps) area in
      ap (take (step_bytes * n))
      (put.kept.behind
      ∙ ap (drop (p + label_bytes)) (c ∙ sets-eq steps area (p + label_bytes) steps_room ∙ append_assoc (take (p + label_bytes) area) steps rest)
      ∙ drop_at (take (p + label_bytes) area) (steps ++ rest) (p + label_bytes) (length-take-le (p + label_bytes) area (omega (arith, steps_room))))
      ∙ take_at steps rest (step_bytes * n) steps-size

  pub kept_at_place : list_area ≤ length area'' → Keeps area part x n area''
  kept_at_place same question so list = (list_same question part x n area area'' (front_same n list.few) list, record { room = same; is = hand; kept = all })
    where
      hand : Tells question (label_at area'' label_place) area''
      hand =
          subst (λ l. Tells question l area'') (sym (window_before p kept_bytes area area'' changed label_place label_bytes (omega (arith, k.is))))
          (λ part' x' h l.
          let old = so.is part' x' h l in
          list_same question part' x' (count_in (label_at area label_place)) area area'' (front_same (count_in (label_at area label_place)) old.few) old)

      here : Kept question (take kept_bytes (drop p area''))
      here =
          let spot = take kept_bytes (drop p area'') in
          let e : count_in (take label_bytes spot) ≡ n = ap count_in (label_here area'' p) ∙ put.count in
          record {
            few = omega (arith, e);
            is = tells question part x n (take label_bytes spot) (drop label_bytes spot) (subst (λ l. LabelIs l part x) (sym (label_here area'' p)) put.label) e
                (list_same question part x n area (drop label_bytes spot) (steps-here area'' p n few ∙ steps_there) list);
          }

      all : KeptLists question area''
      all j h = go (dec_lt j k.number) (dec_lt k.number j)
        where
          go : Dec (j < k.number) → Dec (k.number < j) → Kept question (kept_at area'' j)
          go (yes a) b =
              subst (Kept question) (sym (window_before p kept_bytes area area'' changed (kept_place j) kept_bytes (omega (arith, k.is)))) (so.kept j h)
          go (no a) (yes b) =
              subst (Kept question) (sym (window_behind p kept_bytes area area'' changed (kept_place j) kept_bytes (omega (arith, k.is)))) (so.kept j h)
          go (no a) (no b) =
              let e : p ≡ kept_place j = omega (arith, k.is) in
              subst (λ q. Kept question (take kept_bytes (drop q area''))) e here
