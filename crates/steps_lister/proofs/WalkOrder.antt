-- The candidates in the order of the walk are those of Raw, and the list of steps does not depend on the order in which they are put into it.
-- Assumes nothing.
use mathlib.Core.List.{List, [], ◌∷◌, ◌++◌, map}
use mathlib.Core.Logic.{◌⊎◌, inl, inr}
use mathlib.Core.Path.{◌≡◌, refl, sym, ◌∙◌, ap₂, subst}
use Prim.Native.Nat.{ℕ}
use Rattle.calculus.specs.Term.{Term, nil, tau, inp, out, bout, mat, sum, par, res, call}
use Rattle.steps.specs.Forms.{result_form}
use Rattle.calculus.specs.Lists.{◌∈◌, Among, All}
use Rattle.steps.specs.Raw.{Candidate, step, blocked, left_steps, right_steps, restricted, communications, visible_of, silent_of, visible, silent}
use Rattle.calculus.proofs.Membership.{∈-left, ∈_right, ∈_either, ∈-map, ∈-mapped, within_either, within_map, all_map, all-∈, ∈-all}
use Rattle.steps.specs.Listed.{ListedStep, bytes}
use Rattle.steps.specs.Listing.{collect}
use Rattle.steps_walk.specs.Walking.{own_of, walked}
use Rattle.steps.proofs.ByteOrder.{Before, before_irreflexive, before_trans}
use Rattle.steps.proofs.Sorted.{Sorted, Precedes, OfCandidate, collect_sorted, collect-all, collect-new}

-- Members of lists that are joined and mapped.
within_map-++ : {A B : Type 0} (f : A → B) (xs ys : List A) (zs : List B) → Among (map f xs) zs → Among (map f ys) zs
    → Among (map f (xs ++ ys)) zs
within_map-++ f xs ys zs h k y m =
    let (x, n, e) = ∈-mapped f y (xs ++ ys) m in subst (λ z. z ∈ zs) (sym e) (go x (∈_either x xs ys n))
  where
    go : (x : _) → (x ∈ xs) ⊎ (x ∈ ys) → f x ∈ zs
    go x (inl n) = h (f x) (∈-map f x xs n)
    go x (inr n) = k (f x) (∈-map f x ys n)

-- The walk's candidates are those of Raw.
module _ (body : ℕ → Term) where
  abbrev vis : Term → List Candidate
  vis P = visible body 1 P

  abbrev sil : Term → List Candidate
  sil P = silent body 1 P

  pub walked-raw : (P : Term) → Among (walked body P) (vis P ++ sil P)
  unfolding walked own_of visible silent visible_of silent_of
  walked-raw (par P Q) =
      let whole = vis (par P Q) ++ sil (par P Q) in
      let lv = map (left_steps Q) (vis P) in
      let rv = map (right_steps P) (vis Q) in
      let ls = map (left_steps Q) (sil P) in
      let rs = map (right_steps P) (sil Q) in
      let met = communications (vis P) (vis Q) in
      let left : Among (map (left_steps Q) (walked body P)) whole =
      λ c m. within_map-++ (left_steps Q) (vis P) (sil P) whole
      (λ d n. ∈-left d (lv ++ rv) (ls ++ (rs ++ met)) (∈-left d lv rv n))
      (λ d n. ∈_right d (lv ++ rv) (ls ++ (rs ++ met)) (∈-left d ls (rs ++ met) n))
      c (within_map (left_steps Q) (walked body P) (vis P ++ sil P) (walked-raw P) c m) in
      let right : Among (map (right_steps P) (walked body Q)) whole =
      λ c m. within_map-++ (right_steps P) (vis Q) (sil Q) whole
      (λ d n. ∈-left d (lv ++ rv) (ls ++ (rs ++ met)) (∈_right d lv rv n))
      (λ d n. ∈_right d (lv ++ rv) (ls ++ (rs ++ met)) (∈_right d ls (rs ++ met) (∈-left d rs met n)))
      c (within_map (right_steps P) (walked body Q) (vis Q ++ sil Q) (walked-raw Q) c m) in
      within_either (map (left_steps Q) (walked body P)) (map (right_steps P) (walked body Q) ++ met) whole left
      (within_either (map (right_steps P) (walked body Q)) met whole right
      (λ d n. ∈_right d (lv ++ rv) (ls ++ (rs ++ met)) (∈_right d ls (rs ++ met) (∈_right d rs met n))))
  walked-raw (res P) =
      λ c m. within_map-++ restricted (vis P) (sil P) (vis (res P) ++ sil (res P))
      (λ d n. ∈-left d (vis (res P)) (sil (res P)) n) (λ d n. ∈_right d (vis (res P)) (sil (res P)) n)
      c (within_map restricted (walked body P) (vis P ++ sil P) (walked-raw P) c m)
  walked-raw nil = λ c m. m
  walked-raw (tau P) = λ c m. m
  walked-raw (inp a P) = λ c m. m
  walked-raw (out a b P) = λ c m. m
  walked-raw (bout a P) = λ c m. m
  walked-raw (mat a b P) = λ c m. m
  walked-raw (sum P Q) = λ c m. m
  walked-raw (call k xs) = λ c m. m

  pub raw-walked : (P : Term) → Among (vis P ++ sil P) (walked body P)
  unfolding walked own_of visible silent visible_of silent_of
  raw-walked (par P Q) =
      let whole = walked body (par P Q) in
      let l = map (left_steps Q) (walked body P) in
      let r = map (right_steps P) (walked body Q) in
      let met = communications (vis P) (vis Q) in
      let left : (cs : List Candidate) → Among cs (walked body P) → Among (map (left_steps Q) cs) whole =
      λ cs h c m. ∈-left c l (r ++ met) (within_map (left_steps Q) cs (walked body P) h c m) in
      let right : (cs : List Candidate) → Among cs (walked body Q) → Among (map (right_steps P) cs) whole =
      λ cs h c m. ∈_right c l (r ++ met) (∈-left c r met (within_map (right_steps P) cs (walked body Q) h c m)) in
      within_either (vis (par P Q)) (sil (par P Q)) whole
      (within_either (map (left_steps Q) (vis P)) (map (right_steps P) (vis Q)) whole
      (left (vis P) (λ d n. raw-walked P d (∈-left d (vis P) (sil P) n)))
      (right (vis Q) (λ d n. raw-walked Q d (∈-left d (vis Q) (sil Q) n))))
      (within_either (map (left_steps Q) (sil P)) (map (right_steps P) (sil Q) ++ met) whole
      (left (sil P) (λ d n. raw-walked P d (∈_right d (vis P) (sil P) n)))
      (within_either (map (right_steps P) (sil Q)) met whole
      (right (sil Q) (λ d n. raw-walked Q d (∈_right d (vis Q) (sil Q) n)))
      (λ d n. ∈_right d l (r ++ met) (∈_right d r met n))))
  raw-walked (res P) =
      within_either (vis (res P)) (sil (res P)) (walked body (res P))
      (within_map restricted (vis P) (walked body P) (λ d n. raw-walked P d (∈-left d (vis P) (sil P) n)))
      (within_map restricted (sil P) (walked body P) (λ d n. raw-walked P d (∈_right d (vis P) (sil P) n)))
  raw-walked nil = λ c m. m
  raw-walked (tau P) = λ c m. m
  raw-walked (inp a P) = λ c m. m
  raw-walked (out a b P) = λ c m. m
  raw-walked (bout a P) = λ c m. m
  raw-walked (mat a b P) = λ c m. m
  raw-walked (sum P Q) = λ c m. m
  raw-walked (call k xs) = λ c m. m

-- Ascending lists of byte strings with the same members are equal.
abbrev Ascends : List (List ℕ) → Type 0
Ascends [] = Unit
Ascends (b ∷ bs) = All (Before b) bs × Ascends bs

ascends_same : (bs cs : List (List ℕ)) → Ascends bs → Ascends cs → Among bs cs → Among cs bs → bs ≡ cs
ascends_same [] [] a z h k = refl
ascends_same [] (c ∷ cs) a z h k = absurd (k c (inl refl))
ascends_same (b ∷ bs) [] a z h k = absurd (h b (inl refl))
ascends_same (b ∷ bs) (c ∷ cs) a z h k =
    let e : b ≡ c = first (h b (inl refl)) (k c (inl refl)) in
    ap₂ ◌∷◌ e (ascends_same bs cs a.1 z.1 (later bs cs a.0 e h) (later cs bs z.0 (sym e) k))
  where
    later : {d : List ℕ} (ds es : List (List ℕ)) {e : List ℕ} → All (Before d) ds → d ≡ e → Among (d ∷ ds) (e ∷ es) → Among ds es
    later {d} ds es {e} up same w x m = go (w x (inr m))
      where
        go : x ∈ (e ∷ es) → x ∈ es
        go (inl q) = absurd (before_irreflexive x (subst (λ y. Before y x) (same ∙ sym q) (all-∈ (Before d) ds up x m)))
        go (inr q) = q

    first : b ∈ (c ∷ cs) → c ∈ (b ∷ bs) → b ≡ c
    first (inl e) n = e
    first (inr m) (inl e) = sym e
    first (inr m) (inr n) =
        absurd (before_irreflexive b (before_trans b c b (all-∈ (Before b) bs a.0 c n) (all-∈ (Before c) cs z.0 b m)))

-- The bytes of the steps found.
module _ (names longest x : ℕ) where
  abbrev found : List Candidate → List (List ℕ)
  found cs = map (bytes longest) (collect result_form names longest x cs [])

  found_ascends : (ss : List ListedStep) → Sorted longest ss → Ascends (map (bytes longest) ss)
  found_ascends [] a = tt
  found_ascends (s ∷ ss) a = (all_map (bytes longest) (Precedes longest s) (Before (bytes longest s)) ss (λ t h. h) a.0, found_ascends ss a.1)

  module _ (cs ds : List Candidate) (h : Among cs ds) where
    abbrev There : ListedStep → Type 0
    There s = bytes longest s ∈ found ds

    there : (c : Candidate) → c ∈ cs → OfCandidate result_form names longest x There c
    there (step M α P) n =
        let (u, l, e) = collect-new result_form names longest x ds [] M α P (h (step M α P) n) in
        subst (λ y. y ∈ found ds) (sym e) (∈-map (bytes longest) u (collect result_form names longest x ds []) l)
    there blocked n = tt

    found_within : Among (found cs) (found ds)
    found_within b m =
        let (s, n, e) = ∈-mapped (bytes longest) b (collect result_form names longest x cs []) m in
        let all : All There (collect result_form names longest x cs []) =
        collect-all result_form names longest x There cs [] (∈-all (OfCandidate result_form names longest x There) cs there) tt in
        subst (λ y. y ∈ found ds) (sym e) (all-∈ There (collect result_form names longest x cs []) all s n)

  pub same-found : (cs ds : List Candidate) → Among cs ds → Among ds cs
      → map (bytes longest) (collect result_form names longest x cs []) ≡ map (bytes longest) (collect result_form names longest x ds [])
  same-found cs ds h k =
      ascends_same (found cs) (found ds)
      (found_ascends (collect result_form names longest x cs []) (collect_sorted result_form names longest x cs [] tt))
      (found_ascends (collect result_form names longest x ds []) (collect_sorted result_form names longest x ds [] tt))
      (found_within cs ds h) (found_within ds cs k)
