-- A kept list of a part for one new name, made the list at hand for another. Assumes nothing.
use mathlib.Core.Bool.{Bool, true, false}
use mathlib.Core.List.{List, [], ◌∷◌, ◌++◌, map, append_assoc, append-nil}
use mathlib.Core.Path.{◌≡◌, refl, sym, ◌∙◌, ap, ap₂, subst}
use native.Mathlib.Decide.{ℕ_discrete, dec_lt}
use native.Mathlib.Omega.{arith}
use Prim.Native.Nat.{ℕ, suc, ◌+◌, ◌*◌, ◌-◌, ◌<◌, ◌≤◌}
use lib.ListN.{length, get_or, take, drop, set, replicate, take-append-drop, drop_of_length-le, length-append, length-drop, length-map}
use lib.Seq.{length-take-le, take_at, take_all, take-suc, take-append-le, sets, sets-eq, length-sets}
use Rattle.std.specs.Prelude.{Option, Some, None}
use Rattle.calculus.specs.Distinction.{among}
use Rattle.calculus.specs.Free.{Free, fn}
use Rattle.calculus.specs.Term.{Term, ren, put}
use Rattle.calculus.proofs.Binding.{put_self, put_other}
use Rattle.calculus.proofs.FreeNames.{free→fn}
use Rattle.calculus.proofs.Renaming.{map-++}
use Rattle.calculus.proofs.Selection.{in_among}
use Rattle.terms.specs.Encoding.{encode, InScope}
use Rattle.terms_renaming.specs.FreeFlags.{IsFreeOf}
use Rattle.terms.specs.Limits.{name_count, longest_term}
use Rattle.terms.specs.Question.{Question}
use Rattle.terms_renaming.specs.Renaming.{RenameIs}
use Rattle.terms_bytes.proofs.Heights.{height-bytes}
use Rattle.terms_bytes.proofs.NameTables.{represents_free}
use Rattle.terms.proofs.RenamingKeeps.{length-ren}
use Rattle.terms_bytes.proofs.Stores.{length-span, sets-append, sets-start}
use Rattle.steps_tallies.specs.Bodies.{AritiesIs}
use Rattle.calculus.proofs.Membership.{all_map, all-∈, ∈_nth}
use Rattle.steps_entries.specs.Entries.{Sized, entry_from, comes_before}
use Rattle.steps.specs.Limits.{step_bytes}
use Rattle.steps.specs.Listed.{ListedStep, result_bytes, bytes}
use Rattle.steps.specs.Operations.{list_bytes}
use Rattle.steps_lister.specs.PartLister.{Lists}
use Rattle.steps_lister.specs.Renewed.{binds_new, renewed}
use Rattle.steps_entries.proofs.EntryOrder.{comes_before_lem}
use Rattle.steps.proofs.ListedBytes.{step-size, step-length}
use Rattle.steps_lister.proofs.NewNameLaws.{neighbours_sorted, renewed-length, renewed-steps}
use Rattle.steps.proofs.Sorted.{Sorted}
use Rattle.field_pairs.specs.Entry.{EntryAt, BindsIs, object_byte, result_byte}
use Rattle.field_kept_lists.specs.ListArea.{label_place, label_bytes, kept_bytes, label_at, LabelIs, count_in, ListIn, Kept, KeptPlace, Labelled, SideIs}
use Rattle.field_renewal.specs.Renewing.{RenewsStep, RenewsSteps, Ascends, RenewedIs}
use Rattle.field.specs.Successors.{binds_name}
use Rattle.field_renewal.specs.ListedEntries.{ListAt}
use Rattle.field_pairs.proofs.EntryLaws.{entry-result}
use Rattle.field_kept_lists.proofs.KeptListLaws.{label_here, kept_here}
use Rattle.field_slots.proofs.KeyLaws.{behind}
use Rattle.field_kept_lists.proofs.ListAreaLaws.{list_there}
use Rattle.field_renewal.proofs.ListedParts.{entry_there, sized, listed_at}
use Rattle.field_successors.proofs.ResultLaws.{sets_over}
use Rattle.field_renewal.proofs.ListedSides.{blank}

put-below : (y x n : ℕ) → x < name_count → n < name_count → put y x n < name_count
put-below y x n h k = go (ℕ_discrete n y)
  where
    go : Dec (n ≡ y) → put y x n < name_count
    go (yes e) = subst (λ m. m < name_count) (sym (put_self y x n e)) h
    go (no e) = subst (λ m. m < name_count) (sym (put_other y x n e)) k

-- A step that binds no name stays, and of one that does object and result change. It takes as many bytes as it did.
renewed_not : (y x : ℕ) (s : ListedStep) → binds_new s ≡ false → renewed y x s ≡ s
unfolding renewed
renewed_not y x s e = rw e refl

renewed_so : (y x : ℕ) (s : ListedStep) → binds_new s ≡ true
    → renewed y x s ≡ record { classes = s.classes; kind = s.kind; channel = s.channel; object = x; result = ren (put y x) s.result }
unfolding renewed
renewed_so y x s e = rw e refl

binds_new_lem : (s : ListedStep) → binds_name s ≡ binds_new s
unfolding binds_name binds_new
binds_new_lem s = refl

renewed_classes : (y x : ℕ) (s : ListedStep) → (renewed y x s).classes ≡ s.classes
renewed_classes y x s = go (binds_new s) refl
  where
    go : (b : Bool) → binds_new s ≡ b → (renewed y x s).classes ≡ s.classes
    go true e = ap (λ t. t.classes) (renewed_so y x s e)
    go false e = ap (λ t. t.classes) (renewed_not y x s e)

renewed-size : (y x : ℕ) (s : ListedStep) → length (bytes longest_term (renewed y x s)) ≡ length (bytes longest_term s)
renewed-size y x s =
    omega (
      arith,
      step-length longest_term (renewed y x s),
      step-length longest_term s,
      renewed-length y x s,
      ap length (renewed_classes y x s),
    )

-- What is stored over a part of a run takes its place.
sets_within : (l A xs ys fill : List ℕ) (p q : ℕ) → q ≡ p + length A → length xs ≡ length ys
    → sets (sets l p (A ++ (xs ++ fill))) q ys ≡ sets l p (A ++ (ys ++ fill))
sets_within l A xs ys fill p q e h =
    ap₂ (λ m k. sets m k ys) (sets-append l p A (xs ++ fill)) e
    ∙ sets_over (sets l p A) xs ys fill (p + length A) h
    ∙ sym (sets-append l p A (ys ++ fill))

-- The bytes of a step, and its object or its result put in their place.
abbrev laid_out : List ℕ → ℕ → ℕ → ℕ → List ℕ → List ℕ
laid_out classes kind channel object r =
    classes ++ (kind ∷ channel ∷ object ∷ length r ∷ (r ++ replicate (longest_term - length r) 0))

module _ (l classes r : List ℕ) (p kind channel object : ℕ) (count : length classes ≡ name_count) where
  object_put : (x : ℕ) → set (sets l p (laid_out classes kind channel object r)) (p + object_byte) x ≡ sets l p (laid_out classes kind channel x r)
  object_put x =
      let rest : List ℕ = length r ∷ (r ++ replicate (longest_term - length r) 0) in
      let front : List ℕ = kind ∷ channel ∷ [] in
      let e : p + object_byte ≡ p + length (classes ++ front) = omega (arith, length-append classes front) in
      ap (λ w. set (sets l p w) (p + object_byte) x) (sym (append_assoc classes front ((object ∷ []) ++ rest)))
      ∙ sets_within l (classes ++ front) (object ∷ []) (x ∷ []) rest p (p + object_byte) e refl
      ∙ ap (sets l p) (append_assoc classes front ((x ∷ []) ++ rest))

  result-put : (r' : List ℕ) → length r' ≡ length r
      → sets (sets l p (laid_out classes kind channel object r)) (p + object_byte + 2) r' ≡ sets l p (laid_out classes kind channel object r')
  result-put r' same =
      let fill : List ℕ = replicate (longest_term - length r) 0 in
      let front : List ℕ = kind ∷ channel ∷ object ∷ length r ∷ [] in
      let e : p + object_byte + 2 ≡ p + length (classes ++ front) = omega (arith, length-append classes front) in
      ap (λ w. sets (sets l p w) (p + object_byte + 2) r') (sym (append_assoc classes front (r ++ fill)))
      ∙ sets_within l (classes ++ front) r r' fill p (p + object_byte + 2) e (sym same)
      ∙ ap (sets l p) (append_assoc classes front (r' ++ fill))
      ∙ ap (λ m. sets l p (classes ++ (kind ∷ channel ∷ object ∷ m ∷ (r' ++ replicate (longest_term - m) 0)))) (sym same)

-- One step renewed.
module _ (src : List ℕ) (at : ℕ) (arities table : List ℕ) (x : ℕ) (area : List ℕ) (to : ℕ) (small : x < name_count)
    (room : to + step_bytes ≤ length area) (area₁ : List ℕ) (copied : area₁ ≡ sets area to (take step_bytes (drop at src)))
    (b : Bool) (is : BindsIs src at b) where
  step-copied : (s : ListedStep) → EntryAt src at s → area₁ ≡ sets area to (bytes longest_term s)
  step-copied s e =
      copied
      ∙ ap (sets area to) (ap (take step_bytes) e.there
      ∙ take_at (bytes longest_term s) e.rest step_bytes (step-size name_count longest_term s e.count e.fits))

  step_binds : (s : ListedStep) → EntryAt src at s → binds_new s ≡ b
  unfolding BindsIs
  step_binds s e = sym (is s e ∙ binds_new_lem s)

  pub step_stays : b ≡ false → RenewsStep src at arities table x area to area₁
  unfolding RenewsStep
  step_stays f y s names e scope =
      step-copied s e ∙ ap (λ t. sets area to (bytes longest_term t)) (sym (renewed_not y x s (step_binds s e ∙ f)))

  pub step-renewed : b ≡ true → (r : ℕ) (area₂ : List ℕ) → RenameIs src (at + object_byte + 2) arities table area₁ (to + object_byte + 2) r area₂
      → RenewsStep src at arities table x area to (set area₂ (to + object_byte) x)
  unfolding RenewsStep RenameIs bytes result_bytes
  step-renewed t r area₂ R y s names e scope =
      let P = s.result in
      let c : ℕ → ℕ = put y x in
      let fill : List ℕ = replicate (longest_term - length (encode 0 P)) 0 in
      let n : at + object_byte + 2 ≡ at + result_byte + 1 = omega arith in
      let there : drop (at + object_byte + 2) src ≡ encode 0 P ++ (fill ++ e.rest) =
      ap (λ k. drop k src) n ∙ behind src (at + result_byte) P e.rest (entry-result src at s e) in
      let w = step-copied s e in
      let done = R name_count 0 0 c P (fill ++ e.rest) (omega arith)
      (represents_free table c (λ m l. (names m l, put-below y x m small l))) scope there (omega (arith, e.fits, height-bytes 0 P))
      (omega (arith, e.fits, ap length w, length-sets area to (bytes longest_term s))) in
      ap (λ l. set l (to + object_byte) x)
      (done.1 ∙ ap (λ l. sets l (to + object_byte + 2) (encode 0 (ren c P))) w
      ∙ result-put area s.classes (encode 0 P) to s.kind s.channel s.object e.count (encode 0 (ren c P)) (length-ren 0 0 c P))
      ∙ object_put area s.classes (encode 0 (ren c P)) to s.kind s.channel s.object e.count x
      ∙ ap (λ u. sets area to (bytes longest_term u)) (sym (renewed_so y x s (step_binds s e ∙ t)))

-- One step more of a list.
list_end : (ss : List ListedStep) (t : ListedStep) → list_bytes (ss ++ (t ∷ [])) ≡ list_bytes ss ++ bytes longest_term t
unfolding list_bytes
list_end [] t = append-nil (bytes longest_term t)
list_end (s ∷ ss) t =
    ap (λ l. bytes longest_term s ++ l) (list_end ss t) ∙ sym (append_assoc (bytes longest_term s) (list_bytes ss) (bytes longest_term t))

module _ (src : List ℕ) (n : ℕ) (arities : List ℕ) (y x : ℕ) where
  abbrev pub Renewing : ℕ → List ℕ → Type 0
  Renewing i area =
      (ss : List ListedStep) → ListAt arities src n ss → take (step_bytes * i) area ≡ list_bytes (map (renewed y x) (take i ss))

  pub renewing_start : (area : List ℕ) → Renewing 0 area
  unfolding list_bytes
  renewing_start area ss list = refl

  pub renewing_next : (i : ℕ) → i < n → (table : List ℕ) → ((m : ℕ) → m < name_count → get_or table m 0 ≡ put y x m) → (area area' : List ℕ)
      → step_bytes * n ≤ length area → RenewsStep src (step_bytes * i) arities table x area (step_bytes * i) area' → Renewing i area → Renewing (i + 1) area'
  unfolding RenewsStep
  renewing_next i h table names area area' room step so ss list =
      let s = get_or ss i blank in
      let e = list.entry i blank h in
      let b : List ℕ = bytes longest_term (renewed y x s) in
      let size : length b ≡ step_bytes = renewed-size y x s ∙ step-size name_count longest_term s e.count e.fits in
      let front : length (take (step_bytes * i) area) ≡ step_bytes * i = length-take-le (step_bytes * i) area (omega arith) in
      let k : i < length ss = omega (arith, list.number) in
      let j : i + 1 ≡ suc i = omega arith in
      ap (take (step_bytes * (i + 1))) (step y s names e (list.scope i blank h) ∙ sets-eq b area (step_bytes * i) (omega (arith, size)))
      ∙ take_at (take (step_bytes * i) area ++ b) (drop (step_bytes * i + length b) area) (step_bytes * (i + 1))
      (omega (arith, size, front, length-append (take (step_bytes * i) area) b))
      ∙ ap (λ l. l ++ b) (so ss list)
      ∙ sym (list_end (map (renewed y x) (take i ss)) (renewed y x s))
      ∙ ap list_bytes (sym (map-++ (renewed y x) (take i ss) (s ∷ [])) ∙ ap (map (renewed y x)) (sym (take-suc ss i blank k) ∙ ap (λ m. take m ss) (sym j)))

  pub renewing_done : (i : ℕ) → i ≤ n → n ≤ i → (area : List ℕ) → Renewing i area → RenewsSteps src n arities y x area
  unfolding RenewsSteps
  renewing_done i h k area so ss list =
      let e : n ≡ i = omega arith in
      ap (λ m. take (step_bytes * m) area) e ∙ so ss list ∙ ap (λ l. list_bytes (map (renewed y x) l)) (take_all i ss (omega (arith, list.number)))

-- The steps looked at come each before the next.
pub ascends_start : (area : List ℕ) → Ascends area 1
unfolding Ascends
ascends_start area i h = absurd (omega arith)

pub ascends_next : (area : List ℕ) (i : ℕ) → 1 ≤ i → Ascends area i
    → true ≡ comes_before (entry_from area (step_bytes * i - step_bytes)) (entry_from area (step_bytes * i)) → Ascends area (i + 1)
unfolding Ascends
ascends_next area i l so b j h = go (dec_lt (suc j) i)
  where
    go : Dec (suc j < i) → comes_before (entry_from area (step_bytes * j)) (entry_from area (step_bytes * suc j)) ≡ true
    go (yes k) = so j k
    go (no k) =
        let e : step_bytes * i - step_bytes ≡ step_bytes * j = omega arith in
        let f : i ≡ suc j = omega arith in
        ap₂ (λ m o. comes_before (entry_from area m) (entry_from area (step_bytes * o))) (sym e) (sym f) ∙ sym b

pub ascends_fewer : (area : List ℕ) (i n : ℕ) → n ≤ i → Ascends area i → Ascends area n
unfolding Ascends
ascends_fewer area i n h so j k = so j (omega arith)

-- Entries that ascend are steps that ascend.
told : (area : List ℕ) (n : ℕ) → Ascends area n → (i : ℕ) → suc i < n
    → comes_before (entry_from area (step_bytes * i)) (entry_from area (step_bytes * suc i)) ≡ true
unfolding Ascends
told area n up i h = up i h

at_entry : (area : List ℕ) (at : ℕ) (b after : List ℕ) → drop at area ≡ b ++ after → length b ≡ step_bytes → entry_from area at ≡ b
unfolding entry_from
at_entry area at b after e size = ap (take step_bytes) e ∙ take_at b after step_bytes size

entries_sorted : (area : List ℕ) (n : ℕ) (ss : List ListedStep) → Sized ss → length ss ≡ n → take (step_bytes * n) area ≡ list_bytes ss → Ascends area n
    → Sorted longest_term ss
entries_sorted area n ss z number there up =
    neighbours_sorted longest_term blank ss
    (λ i h.
    comes_before_lem (bytes longest_term (get_or ss i blank)) (bytes longest_term (get_or ss (suc i) blank))
    (ap₂ comes_before (sym (entry i (omega arith))) (sym (entry (suc i) h)) ∙ ascending i (omega arith)))
  where
    ascending : (i : ℕ) → suc i < n → comes_before (entry_from area (step_bytes * i)) (entry_from area (step_bytes * suc i)) ≡ true
    ascending i h = told area n up i h

    entry : (i : ℕ) → i < length ss → entry_from area (step_bytes * i) ≡ bytes longest_term (get_or ss i blank)
    entry i h =
        let (after, e) = entry_there ss (drop (step_bytes * n) area) z i blank h in
        at_entry area (step_bytes * i) (bytes longest_term (get_or ss i blank)) after
        (ap (drop (step_bytes * i)) (sym (take-append-drop (step_bytes * n) area) ∙ ap (λ l. l ++ drop (step_bytes * n) area) there) ∙ e)
        (all-∈ (λ s. length (bytes longest_term s) ≡ step_bytes) ss z (get_or ss i blank) (∈_nth ss i blank h))

-- The kept list of this part for y, which is not free in it, is its list for x when it is renewed and ascends.
module _ (question part : List ℕ) (y x : ℕ) (kept arities : List ℕ) (y-small : y < name_count) (whole : length kept ≡ kept_bytes)
    (so : Kept question kept) (label : LabelIs (take label_bytes kept) part y) (own : AritiesIs question arities)
    (f : Bool) (free : IsFreeOf part arities y f) (not-Free : f ≡ false) where
  not_in : (q : Question) (P : Term) → Lists question part x q P → ¬ Free y P
  unfolding IsFreeOf AritiesIs
  not_in q P l i =
      let e : f ≡ among (fn P) y = free P (subst (λ a. InScope name_count a 0 P) (sym (own q l.accepted)) l.scope) l.bytes in
      let t : among (fn P) y ≡ true = in_among (fn P) y (free→fn y P i) in
      let z : ◌≡◌ {A = ℕ} 0 1 = cc in omega arith

  pub list_renewed : (n : ℕ) → n ≡ count_in (take label_bytes kept) → (steps rest : List ℕ) → length steps ≡ label_place
      → RenewsSteps (take (length kept - label_bytes) (drop label_bytes kept)) n arities y x steps → Ascends (steps ++ rest) n
      → ListIn question part x n steps
  unfolding RenewsSteps AritiesIs
  list_renewed n number steps rest size_is renews up =
      let old = so.is part y (omega arith) label in
      let src : List ℕ = drop label_bytes kept in
      let all : take (length kept - label_bytes) src ≡ src = take_all (length kept - label_bytes) src (omega (arith, length-drop label_bytes kept)) in
      let front : take (step_bytes * n) (steps ++ rest) ≡ take (step_bytes * n) steps =
      take-append-le (step_bytes * n) steps rest (omega (arith, so.few)) in
      record {
        few = omega (arith, old.few);
        is = λ q P l new.
            let k : Lists question part y q P = record { accepted = l.accepted; scope = l.scope; bytes = l.bytes; size = l.size; new = omega arith } in
            let (ss, given, count, there) = old.is q P k (not_in q P l) in
            let size : length ss ≡ n = count ∙ sym number in
            let room : length ss * step_bytes ≤ length src = omega (arith, so.few, length-drop label_bytes kept) in
            let stored : src ≡ sets src 0 (list_bytes ss) =
            list_there src (step_bytes * count_in (take label_bytes kept)) (list_bytes ss) (omega (arith, room)) there in
            let list : ListAt q.arities src (length ss) ss =
            listed_at question part y q P k (not_in q P l) ss given src src room stored (λ e. absurd (omega arith)) in
            let written : take (step_bytes * n) steps ≡ list_bytes (map (renewed y x) ss) =
            renews ss
            (subst (λ l. ListAt arities l n ss) (sym all)
            (subst (λ a. ListAt a src n ss) (sym (own q l.accepted)) (subst (λ m. ListAt q.arities src m ss) size list))) in
            let many : length (map (renewed y x) ss) ≡ n = length-map ss (renewed y x) ∙ size in
            let z : Sized (map (renewed y x) ss) =
            all_map (renewed y x) (λ s. length (bytes longest_term s) ≡ step_bytes) (λ s. length (bytes longest_term s) ≡ step_bytes) ss
            (λ s h. renewed-size y x s ∙ h) (sized question part y q P k (not_in q P l) ss given) in (
              map (renewed y x) ss,
              renewed-steps question part x q P l y (omega arith) (not_in q P l) ss given
                  (entries_sorted (steps ++ rest) n (map (renewed y x) ss) z many (front ∙ written) up),
              many,
              written,
            );
      }

-- A kept list taken out of its area, as a copy and as a part.
pub copied-whole : (l area : List ℕ) (p : ℕ) → length l ≡ kept_bytes → p + kept_bytes ≤ length area
    → sets l 0 (take kept_bytes (drop p area)) ≡ take kept_bytes (drop p area)
copied-whole l area p e room =
    let xs : List ℕ = take kept_bytes (drop p area) in
    let n : length xs ≡ kept_bytes = length-span area p kept_bytes room in
    sets-start l xs (omega arith) ∙ ap (λ r. xs ++ r) (drop_of_length-le l {i = length xs} (omega arith)) ∙ append-nil xs

pub part_whole : (area : List ℕ) (p : ℕ) → take (p + kept_bytes - p) (drop p area) ≡ take kept_bytes (drop p area)
part_whole area p = let e : p + kept_bytes - p ≡ kept_bytes = omega arith in ap (λ m. take m (drop p area)) e

pub kept_out : (question area : List ℕ) → Labelled question area → (p : ℕ) → KeptPlace p → (part : List ℕ) (y : ℕ) → LabelIs (label_at area p) part y
    → (kept : List ℕ) → kept ≡ take kept_bytes (drop p area)
    → (length kept ≡ kept_bytes) × Kept question kept × LabelIs (take label_bytes kept) part y
kept_out question area so p k part y label kept e = (
  ap length e ∙ length-span area p kept_bytes (omega (arith, so.room, k.is, k.among)),
  subst (Kept question) (sym e) (kept_here question area so p k),
  subst (λ l. LabelIs (take label_bytes l) part y) (sym e) (subst (λ l. LabelIs l part y) (sym (label_here area p)) label),
)

-- The answer.
module _ (question part : List ℕ) (x : ℕ) where
  pub not_renewed : (area : List ℕ) → Labelled question area → RenewedIs question part x None area × Labelled question area
  unfolding RenewedIs
  not_renewed area so = (tt, so)

  pub list_at_hand : (n : ℕ) (area : List ℕ) → ListIn question part x n area × Labelled question area
      → RenewedIs question part x (Some n) area × Labelled question area
  unfolding RenewedIs
  list_at_hand n area h = h

  pub side_renewed : (r : Option ℕ) (area : List ℕ) → RenewedIs question part x r area → (n : ℕ) → r ≡ Some n → length part ≤ longest_term
      → SideIs question part x (Some n) area
  unfolding RenewedIs SideIs
  side_renewed r area h n e fits = (subst (λ a. RenewedIs question part x a area) e h, fits)
