-- Lists judged one after the other, as the definition has them. Assumes nothing.
use mathlib.Core.Bool.{Bool, true, false, cond}
use mathlib.Core.List.{List, [], ◌∷◌, ◌++◌, map, append-nil, append_assoc}
use mathlib.Core.Path.{◌≡◌, refl, sym, ap, ap₂, subst, ◌∙◌}
use native.Mathlib.Omega.{arith}
use Rattle.std.specs.Prelude.{Option, None, Result, Ok, Err}
use Prim.Native.Nat.{ℕ, zero, suc, ◌+◌, ◌-◌, ◌*◌, ◌/◌, ◌<◌, ◌≤◌}
use lib.ListN.{length, drop, replicate, length-replicate, drop_of_length-le, take, length-drop}
use lib.Seq.{drop-append_seam, drop-drop}
use Rattle.calculus.specs.Cond.{Pairs}
use Rattle.terms.specs.Answer.{result}
use Rattle.terms.specs.Limits.{name_count}
use Rattle.terms.specs.Question.{Question, question_of, pair_bytes}
use Rattle.terms.proofs.Answers.{result_injective, refused_not_result}
use Rattle.field_pairs.specs.Slot.{flags_of}
use Rattle.verdict.specs.Judge.{slot_bytes, work_after}
use Rattle.verdict.specs.Verdict.{openly, Verdict, unsettled, same, different}
use Rattle.verdict.proofs.JudgeIsDefinition13.{judge_answers}
use Rattle.verdict_judge.specs.Judging.{verdict_told, judged_answer, JudgedIs}
use Rattle.terms_bytes.specs.Refusals.{number_of}
use Rattle.terms_bytes.specs.declared.answer.Refusal.{Refusal}
use Rattle.verdict_judge.specs.declared.judge.Verdict as judged
use Rattle.verdict_judge.specs.declared.judge.Verdict.TheVariants.{Unsettled, Same, Different}
use Rattle.fewest.specs.Choices.{choices, choices_from, all_choices, in_order, under_list}
use Rattle.fewest.specs.Fewest.{Fewest, undecided, none, chosen, is_unsettled, is_same, first_of, some, fewest_by}
use Rattle.fewest.proofs.ChoiceLaws.{first-decided}
use Rattle.fewest.proofs.ListLaws.{bytes-length, under_accepted}
use Rattle.fewest_lists.specs.Bests.{Best, BestIs, followed_by, SameIs, WithPair, mapped}
use Rattle.fewest_lists.specs.Lists.{QuestionWritten}
use Rattle.fewest_lists.specs.declared.best.Undecided.{Undecided}
use Rattle.fewest_search.specs.Searching.{Allowed, cleared_by, verdict_on, ListJudged, Knows, NextIs, SearchedIs, SizesIs}

-- what more lists add
pub followed_none : (f : Fewest) → followed_by f none ≡ f
unfolding followed_by
followed_none undecided = refl
followed_none none = refl
followed_none (chosen D) = refl

pub followed_assoc : (f g h : Fewest) → followed_by (followed_by f g) h ≡ followed_by f (followed_by g h)
unfolding followed_by
followed_assoc undecided g h = refl
followed_assoc none g h = refl
followed_assoc (chosen D) undecided h = refl
followed_assoc (chosen D) none h = refl
followed_assoc (chosen D) (chosen E) undecided = refl
followed_assoc (chosen D) (chosen E) none = refl
followed_assoc (chosen D) (chosen E) (chosen F) = refl

stops : (f : Fewest) → followed_by f undecided ≡ undecided
unfolding followed_by
stops undecided = refl
stops none = refl
stops (chosen D) = refl

-- one list
unfoldable told : Pairs → Verdict → Fewest
told D unsettled = undecided
told D (same n) = chosen D
told D (different n) = none

module _ (v : Pairs → Verdict) where
  abbrev past : Pairs → Bool
  past c = is_unsettled (v c)

  abbrev passes : Pairs → Bool
  passes c = is_same (v c)

  one_more : (c : Pairs) (cs : List Pairs) → fewest_by v (c ∷ cs) ≡ followed_by (told c (v c)) (fewest_by v cs)
  unfolding fewest_by some first_of is_unsettled is_same followed_by told
  one_more c cs = go (v c)
    where
      first : (b : Bool) (f : Fewest) → (f ≡ undecided → ⊥) → cond b undecided (chosen c) ≡ followed_by (chosen c) (cond b undecided f)
      first true f h = refl
      first false undecided h = absurd (h refl)
      first false none h = refl
      first false (chosen d) h = refl

      go : (w : Verdict)
          → cond (cond (is_unsettled w) true (some past cs)) undecided (cond (is_same w) (chosen c) (first_of passes cs))
          ≡ followed_by (told c w) (cond (some past cs) undecided (first_of passes cs))
      go unsettled = refl
      go (same n) = first (some past cs) (first_of passes cs) (first-decided passes cs)
      go (different n) = refl

  pub fewest_append : (xs ys : List Pairs) → fewest_by v (xs ++ ys) ≡ followed_by (fewest_by v xs) (fewest_by v ys)
  unfolding fewest_by some first_of followed_by
  fewest_append [] ys = refl
  fewest_append (x ∷ xs) ys =
      one_more x (xs ++ ys) ∙ ap (followed_by (told x (v x))) (fewest_append xs ys)
      ∙ sym (followed_assoc (told x (v x)) (fewest_by v xs) (fewest_by v ys)) ∙ ap (λ f. followed_by f (fewest_by v ys)) (sym (one_more x xs))

  one_list : (c : Pairs) → fewest_by v (c ∷ []) ≡ told c (v c)
  unfolding fewest_by some first_of
  one_list c = one_more c [] ∙ followed_none (told c (v c))

  -- each choice replaced by its list
  pub fewest_map : (g : Pairs → Pairs) (cs : List Pairs) → fewest_by v (map g cs) ≡ mapped g (fewest_by (λ c. v (g c)) cs)
  unfolding fewest_by some first_of mapped
  fewest_map g cs = go cs
    where
      some-map : (cs : List Pairs) → some past (map g cs) ≡ some (λ c. past (g c)) cs
      some-map [] = refl
      some-map (c ∷ cs) = ap (cond (past (g c)) true) (some-map cs)

      first-map : (cs : List Pairs) → first_of passes (map g cs) ≡ mapped g (first_of (λ c. passes (g c)) cs)
      first-map [] = refl
      first-map (c ∷ cs) = each (passes (g c)) (first-map cs)
        where
          each : (b : Bool) → first_of passes (map g cs) ≡ mapped g (first_of (λ c. passes (g c)) cs)
              → cond b (chosen (g c)) (first_of passes (map g cs)) ≡ mapped g (cond b (chosen c) (first_of (λ c. passes (g c)) cs))
          each true e = refl
          each false e = e

      go : (cs : List Pairs) → cond (some past (map g cs)) undecided (first_of passes (map g cs))
          ≡ mapped g (cond (some (λ c. past (g c)) cs) undecided (first_of (λ c. passes (g c)) cs))
      go cs = ap₂ (λ b f. cond b undecided f) (some-map cs) (first-map cs) ∙ under (some (λ c. past (g c)) cs)
        where
          under : (b : Bool) → cond b undecided (mapped g (first_of (λ c. passes (g c)) cs)) ≡ mapped g (cond b undecided (first_of (λ c. passes (g c)) cs))
          under true = refl
          under false = refl

-- The work area, cleared once and again.
pub cleared_again : (capacity : ℕ) (work : List ℕ) → cleared_by capacity (cleared_by capacity work) ≡ cleared_by capacity work
unfolding cleared_by
cleared_again capacity work =
    let n = slot_bytes * capacity in
    let z : List ℕ = replicate n 0 in
    ap (λ l. z ++ l)
    (ap (λ (k : ℕ). drop k (z ++ drop n work)) (sym (length-replicate {A = ℕ} n 0)) ∙ drop-append_seam z (drop n work))

-- judge_list
pub list_judged : (question flags asked asked' : List ℕ) (end capacity : ℕ) (work : List ℕ) (r : Result judged.Verdict Refusal) (work' : List ℕ) → Allowed capacity (length work)
    → QuestionWritten question flags asked end asked' → JudgedIs openly (take end asked') capacity work r work' → ListJudged question flags capacity work r work'
unfolding ListJudged verdict_on cleared_by work_after
list_judged question flags asked asked' end capacity work r work' a w j q D e f =
    let u = under_list q (in_order name_count D) in
    let b : question_of (take end asked') ≡ result u = ap question_of (w.is q D e f) ∙ under_accepted question q e D in
    let v = judge_answers openly (take end asked') u b capacity (length work) a.some a.most a.fits in
    record { verdict = j.answer ∙ v; cleared = j.left ∙ ap (λ m. work_after m capacity work) v }

-- judge_next
module _ (question flags : List ℕ) (best : Option (List ℕ)) (capacity : ℕ) (work : List ℕ) (r : Result judged.Verdict Refusal) (work' : List ℕ)
    (judges : ListJudged question flags capacity work r work') where
  next : (x : Best) → ((q : Question) (D : Pairs) (f : Fewest) → flags ≡ flags_of D → BestIs (Ok best) f
      → judged_answer r ≡ result (verdict_on q capacity D) → BestIs x (followed_by f (told D (verdict_on q capacity D))))
      → NextIs question flags best capacity work x work'
  unfolding ListJudged NextIs
  next x h q D f e i b =
      let j = judges q D e i in
      record {
        best = subst (λ g. BestIs x (followed_by f g)) (sym (one_list (verdict_on q capacity) D)) (h q D f i b j.verdict);
        area = j.cleared;
      }

  pub next_refused : (k : Refusal) → r ≡ Err k → NextIs question flags best capacity work (Ok best) work'
  unfolding judged_answer
  next_refused k s = next (Ok best) (λ q D f i b v. refused_not_result {k = number_of k} (ap judged_answer (sym s) ∙ v))

  module _ (w : judged.Verdict) (s : r ≡ Ok w) where
    heard : (q : Question) (D : Pairs) → judged_answer r ≡ result (verdict_on q capacity D) → verdict_told w ≡ verdict_on q capacity D
    unfolding judged_answer
    heard q D v = result_injective {a = verdict_told w} (ap judged_answer (sym s) ∙ v)

    pub next_unsettled : (u : Undecided) → w ≡ Unsettled → NextIs question flags best capacity work (Err u) work'
    unfolding verdict_told told BestIs
    next_unsettled u t = next (Err u) (λ q D f i b v.
        subst (λ w. BestIs (Err u) (followed_by f (told D w))) (sym (ap verdict_told t) ∙ heard q D v) (subst (BestIs (Err u)) (sym (stops f)) tt))

    pub next_same : (n : ℕ) → w ≡ Same n → (x : Option (List ℕ)) → SameIs best flags x → NextIs question flags best capacity work (Ok x) work'
    unfolding verdict_told SameIs told
    next_same n t x y = next (Ok x) (λ q D f i b v.
        subst (λ w. BestIs (Ok x) (followed_by f (told D w))) (sym (ap verdict_told t) ∙ heard q D v) (y f D b i))

    pub next_different : (n : ℕ) → w ≡ Different n → NextIs question flags best capacity work (Ok best) work'
    unfolding verdict_told told
    next_different n t = next (Ok best) (λ q D f i b v.
        subst (λ w. BestIs (Ok best) (followed_by f (told D w))) (sym (ap verdict_told t) ∙ heard q D v)
        (subst (BestIs (Ok best)) (sym (followed_none f)) b))

no_choice : (size : ℕ) (ps : Pairs) → (size ≡ 0 → ⊥) → ps ≡ [] → choices ps size ≡ []
unfolding choices
no_choice zero ps s e = absurd (s refl)
no_choice (suc k) ps s e = ap (λ ps. choices ps (suc k)) e

-- what was not settled stays so
undecided_is : (u : Undecided) (f : Fewest) → BestIs (Err u) f → f ≡ undecided
unfolding BestIs
undecided_is u undecided b = refl
undecided_is u none b = absurd b
undecided_is u (chosen D) b = absurd b

undecided_then : (u : Undecided) (f g : Fewest) → BestIs (Err u) f → BestIs (Err u) (followed_by f g)
unfolding BestIs followed_by
undecided_then u f g b = subst (λ f. BestIs (Err u) (followed_by f g)) (sym (undecided_is u f b)) tt

-- search
module _ (question pairs : List ℕ) (at size : ℕ) (flags : List ℕ) (best : Option (List ℕ)) (capacity : ℕ) (work : List ℕ) where
  pub search_leaf : size ≡ 0 → (r : Best) (work' : List ℕ) → NextIs question flags best capacity work r work'
      → SearchedIs question pairs at size flags best capacity work r work'
  unfolding SearchedIs NextIs choices
  search_leaf z r work' n q D ps f e i d b c =
      let k = n q D f e i b in
      record {
        best = subst (λ cs. BestIs r (followed_by f (fewest_by (verdict_on q capacity) cs)))
            (sym (ap (λ (s : ℕ). map (D ++◌) (choices ps s)) z ∙ ap (◌∷ []) (append-nil D))) k.best;
        area = k.area ∙ c;
      }

  none_left : (ps : Pairs) → length pairs ≤ at → drop at pairs ≡ pair_bytes ps → ps ≡ []
  unfolding pair_bytes
  none_left [] h d = refl
  none_left (p ∷ ps) h d = let l = ap length (sym (drop_of_length-le pairs h) ∙ d) in absurd (omega arith)

  pub search_ends : (size ≡ 0 → ⊥) → length pairs ≤ at → SearchedIs question pairs at size flags best capacity work (Ok best) work
  unfolding SearchedIs fewest_by some first_of
  search_ends s h q D ps f e i d b c = record {
    best = subst (λ cs. BestIs (Ok best) (followed_by f (fewest_by (verdict_on q capacity) cs))) (sym (ap (map (D ++◌)) (no_choice size ps s (none_left ps h d))))
        (subst (BestIs (Ok best)) (sym (followed_none f)) b);
    area = refl;
  }

map-++ : (g : Pairs → Pairs) (xs ys : List Pairs) → map g (xs ++ ys) ≡ map g xs ++ map g ys
map-++ g [] ys = refl
map-++ g (x ∷ xs) ys = ap (g x ∷◌) (map-++ g xs ys)

-- the pair p is one of those that the choices stand beside
beside : (D : Pairs) (p : ℕ × ℕ) (cs : List Pairs) → map (D ++◌) (map (p ∷◌) cs) ≡ map ((D ++ (p ∷ [])) ++◌) cs
beside D p [] = refl
beside D p (c ∷ cs) = ap₂ ◌∷◌ (sym (append_assoc D (p ∷ []) c)) (beside D p cs)

with_and_without : (v : Pairs → Verdict) (D : Pairs) (p : ℕ × ℕ) (ps : Pairs) (size : ℕ) → (size ≡ 0 → ⊥)
    → fewest_by v (map (D ++◌) (choices (p ∷ ps) size))
    ≡ followed_by (fewest_by v (map ((D ++ (p ∷ [])) ++◌) (choices ps (size - 1)))) (fewest_by v (map (D ++◌) (choices ps size)))
unfolding choices
with_and_without v D p ps zero s = absurd (s refl)
with_and_without v D p ps (suc k) s =
    let z : suc k - 1 ≡ k = omega arith in
    ap (fewest_by v) (map-++ (D ++◌) (map (p ∷◌) (choices ps k)) (choices ps (suc k)) ∙ ap (◌++ map (D ++◌) (choices ps (suc k))) (beside D p (choices ps k)))
    ∙ fewest_append v (map ((D ++ (p ∷ [])) ++◌) (choices ps k)) (map (D ++◌) (choices ps (suc k)))
    ∙ ap (λ (j : ℕ). followed_by (fewest_by v (map ((D ++ (p ∷ [])) ++◌) (choices ps j))) (fewest_by v (map (D ++◌) (choices ps (suc k))))) (sym z)

pub search_more : (question pairs : List ℕ) (at size : ℕ) (flags : List ℕ) (best : Option (List ℕ)) (capacity : ℕ) (work more : List ℕ) (next : Option (List ℕ)) (r : Best) (work₁ work₂ : List ℕ)
    → (size ≡ 0 → ⊥) → at < length pairs → WithPair flags pairs at more
    → SearchedIs question pairs (at + 2) (size - 1) more best capacity work (Ok next) work₁
    → SearchedIs question pairs (at + 2) size flags next capacity work₁ r work₂
    → SearchedIs question pairs at size flags best capacity work r work₂
unfolding SearchedIs WithPair pair_bytes
search_more question pairs at size flags best capacity work more next r work₁ work₂ s h m x y q D [] f e i d b c =
    let l = ap length d in absurd (omega (arith, l, length-drop at pairs))
search_more question pairs at size flags best capacity work more next r work₁ work₂ s h m x y q D (p ∷ ps) f e i d b c =
    let v = verdict_on q capacity in
    let d₂ : drop (at + 2) pairs ≡ pair_bytes ps = sym (drop-drop 2 at pairs) ∙ ap (drop 2) d in
    let F = fewest_by v (map ((D ++ (p ∷ [])) ++◌) (choices ps (size - 1))) in
    let G = fewest_by v (map (D ++◌) (choices ps size)) in
    let k = x q (D ++ (p ∷ [])) ps f e (m D p ps i d) d₂ b c in
    let j = y q D ps (followed_by f F) e i d₂ k.best (subst (λ w. cleared_by capacity w ≡ w) (sym k.area) c) in
    record {
      best = subst (BestIs r) (followed_assoc f F G ∙ ap (followed_by f) (sym (with_and_without v D p ps size s))) j.best;
      area = j.area ∙ k.area;
    }

pub search_fails : (question pairs : List ℕ) (at size : ℕ) (flags : List ℕ) (best : Option (List ℕ)) (capacity : ℕ) (work more : List ℕ) (u : Undecided) (work₁ : List ℕ)
    → (size ≡ 0 → ⊥) → at < length pairs → WithPair flags pairs at more
    → SearchedIs question pairs (at + 2) (size - 1) more best capacity work (Err u) work₁
    → SearchedIs question pairs at size flags best capacity work (Err u) work₁
unfolding SearchedIs WithPair pair_bytes
search_fails question pairs at size flags best capacity work more u work₁ s h m x q D [] f e i d b c =
    let l = ap length d in absurd (omega (arith, l, length-drop at pairs))
search_fails question pairs at size flags best capacity work more u work₁ s h m x q D (p ∷ ps) f e i d b c =
    let v = verdict_on q capacity in
    let d₂ : drop (at + 2) pairs ≡ pair_bytes ps = sym (drop-drop 2 at pairs) ∙ ap (drop 2) d in
    let F = fewest_by v (map ((D ++ (p ∷ [])) ++◌) (choices ps (size - 1))) in
    let G = fewest_by v (map (D ++◌) (choices ps size)) in
    let k = x q (D ++ (p ∷ [])) ps f e (m D p ps i d) d₂ b c in
    record {
      best = subst (BestIs (Err u)) (followed_assoc f F G ∙ ap (followed_by f) (sym (with_and_without v D p ps size s)))
          (undecided_then u (followed_by f F) G k.best);
      area = k.area;
    }

-- search_sizes
sizes_last : (ps : Pairs) (n k : ℕ) → choices_from ps k (suc n) ≡ choices_from ps k n ++ choices ps (k + suc n)
unfolding choices_from
sizes_last ps zero k = let z : suc k ≡ k + 1 = omega arith in ap (λ (j : ℕ). choices ps k ++ choices ps j) z
sizes_last ps (suc n) k =
    let z : suc k + suc n ≡ k + suc (suc n) = omega arith in
    ap (choices ps k ++◌) (sizes_last ps n (suc k)) ∙ sym (append_assoc (choices ps k) (choices_from ps (suc k) n) (choices ps (suc k + suc n)))
    ∙ ap (λ (j : ℕ). (choices ps k ++ choices_from ps (suc k) n) ++ choices ps j) z

-- those of more pairs come behind
sizes_apart : (ps : Pairs) (n k : ℕ) → (cs : List Pairs) × (choices_from ps 0 (n + k) ≡ choices_from ps 0 n ++ cs)
sizes_apart ps n zero = let z : n + 0 ≡ n = omega arith in ([], ap (choices_from ps 0) z ∙ sym (append-nil (choices_from ps 0 n)))
sizes_apart ps n (suc k) =
    let z : n + suc k ≡ suc (n + k) = omega arith in
    let (cs, e) = sizes_apart ps n k in (
      cs ++ choices ps (0 + suc (n + k)),
      ap (choices_from ps 0) z ∙ sizes_last ps (n + k) 0 ∙ ap (◌++ choices ps (0 + suc (n + k))) e
          ∙ append_assoc (choices_from ps 0 n) cs (choices ps (0 + suc (n + k))),
    )

-- The choices of up to `size` pairs are judged; W is the work area, clear.
abbrev pub SizesTo : List ℕ → List ℕ → List ℕ → ℕ → List ℕ → ℕ → Best → List ℕ → Type 0
SizesTo question pairs flags capacity W size r work =
    (q : Question) (D ps : Pairs) → question_of question ≡ result q → flags ≡ flags_of D → pairs ≡ pair_bytes ps
    → Knows q capacity (fewest_by (verdict_on q capacity) (map (D ++◌) (choices_from ps 0 size))) r W work × (cleared_by capacity W ≡ W)

module _ (question pairs flags : List ℕ) (capacity : ℕ) where
  pub sizes_start : (work : List ℕ) (r : Best) (W : List ℕ) → NextIs question flags None capacity work r W
      → SizesTo question pairs flags capacity W 0 r W
  unfolding NextIs BestIs followed_by choices_from choices
  sizes_start work r W n q D ps e i p =
      let k = n q D none e i tt in (
        record { best = subst (λ c. BestIs r (fewest_by (verdict_on q capacity) (c ∷ []))) (sym (append-nil D)) k.best; area = refl },
        ap (cleared_by capacity) k.area ∙ cleared_again capacity work ∙ sym k.area,
      )

  pub sizes_more : (W : List ℕ) (size : ℕ) (best : Option (List ℕ)) (r : Best) (work₁ work₂ : List ℕ) → SizesTo question pairs flags capacity W size (Ok best) work₁
      → SearchedIs question pairs 0 (size + 1) flags best capacity work₁ r work₂ → SizesTo question pairs flags capacity W (size + 1) r work₂
  unfolding SearchedIs
  sizes_more W size best r work₁ work₂ s x q D ps e i p =
      let v = verdict_on q capacity in
      let (k, c) = s q D ps e i p in
      let F = fewest_by v (map (D ++◌) (choices_from ps 0 size)) in
      let j = x q D ps F e i p k.best (subst (λ w. cleared_by capacity w ≡ w) (sym k.area) c) in
      let z : size + 1 ≡ suc size = omega arith in
      let y : 0 + suc size ≡ size + 1 = omega arith in
      let l : map (D ++◌) (choices_from ps 0 (size + 1)) ≡ map (D ++◌) (choices_from ps 0 size) ++ map (D ++◌) (choices ps (size + 1)) =
      ap (λ (n : ℕ). map (D ++◌) (choices_from ps 0 n)) z ∙ ap (map (D ++◌)) (sizes_last ps size 0 ∙ ap (λ (n : ℕ). choices_from ps 0 size ++ choices ps n) y)
      ∙ map-++ (D ++◌) (choices_from ps 0 size) (choices ps (size + 1)) in (
        record {
          best = subst (BestIs r)
              (sym (ap (fewest_by v) l ∙ fewest_append v (map (D ++◌) (choices_from ps 0 size)) (map (D ++◌) (choices ps (size + 1))))) j.best;
          area = j.area ∙ k.area;
        },
        c,
      )

  module _ (work : List ℕ) (first : Best) (W : List ℕ) (n : NextIs question flags None capacity work first W) where
    pub sizes_whole : (size : ℕ) (r : Best) (work' : List ℕ) → size ≡ length pairs / 2 → SizesTo question pairs flags capacity W size r work'
        → SizesIs question pairs flags capacity work r work'
    unfolding SizesIs NextIs BestIs all_choices
    sizes_whole size r work' z s q D ps e i p =
        let m : size ≡ length ps = omega (arith, ap length p, bytes-length ps) in
        let k = (s q D ps e i p).0 in
        record {
          best = subst (λ (n : ℕ). BestIs r (fewest_by (verdict_on q capacity) (map (D ++◌) (choices_from ps 0 n)))) m k.best;
          area = k.area ∙ (n q D none e i tt).area;
        }

    -- an unsettled list among the smaller ones is enough
    pub sizes_fail : (size : ℕ) (u : Undecided) (work' : List ℕ) → size ≤ length pairs / 2 → SizesTo question pairs flags capacity W size (Err u) work'
        → SizesIs question pairs flags capacity work (Err u) work'
    unfolding SizesIs NextIs BestIs all_choices
    sizes_fail size u work' h s q D ps e i p =
        let v = verdict_on q capacity in
        let l : size ≤ length ps = omega (arith, ap length p, bytes-length ps) in
        let z : size + (length ps - size) ≡ length ps = omega arith in
        let (cs, a) = sizes_apart ps size (length ps - size) in
        let F = choices_from ps 0 size in
        let k = (s q D ps e i p).0 in
        record {
          best = subst (BestIs (Err u))
              (sym (fewest_append v (map (D ++◌) F) (map (D ++◌) cs)) ∙ ap (fewest_by v) (sym (map-++ (D ++◌) F cs))
              ∙ ap (λ cs. fewest_by v (map (D ++◌) cs)) (sym a) ∙ ap (λ (n : ℕ). fewest_by v (map (D ++◌) (choices_from ps 0 n))) z)
              (undecided_then u (fewest_by v (map (D ++◌) F)) (fewest_by v (map (D ++◌) cs)) k.best);
          area = k.area ∙ (n q D none e i tt).area;
        }
