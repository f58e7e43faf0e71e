-- What is relied on, gathered and noted in a slot's spare bytes. Assumes nothing.
use mathlib.Core.Bool.{Bool, true, false, ◌||◌}
use mathlib.Core.List.{List, [], ◌∷◌}
use mathlib.Core.Path.{◌≡◌, refl, sym, ap, ◌∙◌}
use native.Mathlib.Decide.{ℕ_discrete}
use native.Mathlib.Omega.{arith}
use Prim.Native.Nat.{ℕ, zero, suc, ◌+◌, ◌-◌, ◌*◌, ◌<◌, ◌≤◌}
use borrow.Author.Count.{below_more}
use borrow.Author.Tests.{eqb-true, eqb-false}
use lib.Dec.{eqb}
use Rattle.std.specs.List.{list_any}
use lib.ListN.{length, get_or, take, set, replicate, get_or-replicate}
use lib.Seq.{get_or-set_same, get_or-set_other}
use Rattle.field_slots.specs.Chains.{put_number}
use Rattle.field_slots.specs.Noted.{noted_count, note_place, note_at, SpareOnly, OtherNotes}
use Rattle.field_pairs.specs.Slot.{slot_bytes, struck_at, LeftAtIs}
use Rattle.field_slots.proofs.ChainLaws.{size-put}
use Rattle.field_slots.proofs.NotedLaws.{spare_none, spare_put, note_other}
use Rattle.verdict_notes.specs.Notes.{Has, Numbers, WithIs, NoteIs, ClearsNotes, ReliesOnLeftIs, SoleStruckIs}
use Rattle.verdict_notes.specs.declared.relied.Relied.{Relied}
use Rattle.verdict.proofs.Rounds.{true_not_false}

-- A slot is left, as the code tests it.
pub left_zero : (work : List ℕ) (i : ℕ) (r : Bool) → LeftAtIs work i r → r ≡ true → get_or work (struck_at i) 0 ≡ 0
unfolding LeftAtIs
left_zero work i r l e = eqb-true (get_or work (struck_at i) 0) 0 (sym l ∙ e)

-- relied_none
pub none_numbers : (i : ℕ) → i + 1 < 65536 → Numbers (record { count = 0; slots = replicate noted_count (i + 1) })
none_numbers i h = record {
  used = omega arith;
  free = λ l. omega arith;
  small = λ k l. omega (arith, get_or-replicate {A = ℕ} noted_count k (i + 1) 0 l);
}

-- one of the first numbers
any_place : (xs : List ℕ) (c n : ℕ) → list_any (λ x. eqb x n) (take c xs) ≡ true → (k : ℕ) × (k < c) × (get_or xs k 0 ≡ n)
any_place xs zero n e = true_not_false e refl
any_place [] (suc c) n e = true_not_false e refl
any_place (x ∷ xs) (suc c) n e = go (eqb x n) refl (any_place xs c n)
  where
    go : (b : Bool) → eqb x n ≡ b → (list_any (λ x. eqb x n) (take c xs) ≡ true → (k : ℕ) × (k < c) × (get_or xs k 0 ≡ n))
        → (k : ℕ) × (k < suc c) × (get_or (x ∷ xs) k 0 ≡ n)
    go true t rest = (0, omega arith, eqb-true x n t)
    go false t rest = let (k, h, f) = rest (sym (ap (λ b. b || list_any (λ x. eqb x n) (take c xs)) t) ∙ e) in (suc k, omega arith, f)

-- relied_with
module _ (r : Relied) (j : ℕ) (n : Numbers r) where
  pub with_one : (b : Bool) → b ≡ list_any (λ x. eqb x (j + 1)) (take r.count r.slots) → b ≡ true → WithIs r j r
  unfolding Has
  with_one b is on = record {
    numbers = n;
    more = record { few = λ f. f; has = λ f m x. x };
    has = λ f. any_place r.slots r.count (j + 1) (sym is ∙ on);
  }

  pub with_many : noted_count ≤ r.count → length r.slots ≡ noted_count → WithIs r j (record { count = r.count; slots = set r.slots 0 0 })
  with_many full l = record {
    numbers = record { used = n.used; free = λ h. absurd (omega arith); small = λ k h. small k h (ℕ_discrete k 0) };
    more = record { few = λ f. absurd (omega (arith, gone)); has = λ f. absurd (omega (arith, gone)) };
    has = λ f. absurd (omega (arith, gone));
  }
    where
      gone : get_or (set r.slots 0 0) 0 0 ≡ 0
      gone = get_or-set_same r.slots 0 0 0 (omega arith)

      small : (k : ℕ) → k < noted_count → Dec (k ≡ 0) → get_or (set r.slots 0 0) k 0 < 65536
      small k h (yes e) = rw e (omega (arith, gone))
      small k h (no e) = omega (arith, get_or-set_other r.slots 0 k 0 0 e, n.small k h)

  pub with_more : j + 1 < 65536 → length r.slots ≡ noted_count → r.count < noted_count
      → WithIs r j (record { count = r.count + 1; slots = set r.slots r.count (j + 1) })
  unfolding Has
  with_more s l h = record {
    numbers = record { used = omega arith; free = λ g. few (ℕ_discrete 0 r.count); small = λ k g. small k g (ℕ_discrete k r.count) };
    more = record {
      few = λ f. n.free h;
      has = λ f m x. (x.0, omega (arith, x.1), get_or-set_other r.slots r.count x.0 (j + 1) 0 (λ e. omega (arith, x.1)) ∙ x.2);
    };
    has = λ f. (r.count, omega arith, here);
  }
    where
      here : get_or (set r.slots r.count (j + 1)) r.count 0 ≡ j + 1
      here = get_or-set_same r.slots r.count (j + 1) 0 (omega arith)

      few : Dec (0 ≡ r.count) → 0 < get_or (set r.slots r.count (j + 1)) 0 0
      few (yes e) = let z = ap (λ k. get_or (set r.slots r.count (j + 1)) k 0) e in omega (arith, z, here)
      few (no e) = omega (arith, get_or-set_other r.slots r.count 0 (j + 1) 0 e, n.free h)

      small : (k : ℕ) → k < noted_count → Dec (k ≡ r.count) → get_or (set r.slots r.count (j + 1)) k 0 < 65536
      small k g (yes e) = rw e (omega (arith, here))
      small k g (no e) = omega (arith, get_or-set_other r.slots r.count k (j + 1) 0 e, n.small k g)

-- note
pub record Noting (work₀ : List ℕ) (i : ℕ) (slots work : List ℕ) (k : ℕ) : Type 0 where
  pub spare : SpareOnly (i + 1) work₀ work
  pub here : (l : ℕ) → l < k → note_at work i l ≡ get_or slots l 0
  pub others : OtherNotes i work₀ work

pub noting_start : (work : List ℕ) (i : ℕ) (slots : List ℕ) → Noting work i slots work 0
noting_start work i slots = record { spare = spare_none (i + 1) work; here = λ l h. absurd (omega arith); others = λ j f l h. refl }

pub noting_next : (work₀ : List ℕ) (i : ℕ) (slots work : List ℕ) (k : ℕ) (work' : List ℕ) → k < noted_count → slot_bytes * (i + 1) ≤ length work
    → work' ≡ put_number work (note_place i k) (get_or slots k 0) → Noting work₀ i slots work k → Noting work₀ i slots work' (k + 1)
noting_next work₀ i slots work k work' h room e n = rw e (record {
  spare = spare_put (i + 1) work₀ work i k (get_or slots k 0) (omega arith) h n.spare;
  here = below_more _ k (λ l g. note_other work i k (get_or slots k 0) i l (λ z. omega arith) ∙ n.here l g) (size-put work (note_place i k) (get_or slots k 0) (omega arith));
  others = λ j f l g. note_other work i k (get_or slots k 0) j l (λ z. f (omega arith)) ∙ n.others j f l g;
})

pub noted-all : (work : List ℕ) (i : ℕ) (r : Relied) (work' : List ℕ) (k : ℕ) → noted_count ≤ k → Noting work i r.slots work' k → NoteIs work i r work'
noted-all work i r work' k h n = record { spare = n.spare; here = λ l g. n.here l (omega arith); others = n.others }

-- clear_notes
abbrev pub Clearing : ℕ → List ℕ → List ℕ → ℕ → Type 0
Clearing count work₀ work i = SpareOnly count work₀ work × ((k : ℕ) → k < i → note_at work k 0 ≡ 0)

pub clearing_next : (count : ℕ) (work₀ work : List ℕ) (i : ℕ) (work' : List ℕ) → i < count → slot_bytes * count ≤ length work
    → work' ≡ put_number work (note_place i 0) 0 → Clearing count work₀ work i → Clearing count work₀ work' (i + 1)
clearing_next count work₀ work i work' h room e c = rw e (
  spare_put count work₀ work i 0 0 h (omega arith) c.0,
  below_more _ i (λ k l. note_other work i 0 0 k 0 (λ z. omega arith) ∙ c.1 k l) (size-put work (note_place i 0) 0 (omega arith)),
)

pub cleared : (count : ℕ) (work work' : List ℕ) (i : ℕ) → count ≤ i → Clearing count work work' i → ClearsNotes count work work'
cleared count work work' i h c = record { spare = c.0; none = λ k l. c.1 k (omega arith) }

-- relies_on_left
abbrev pub NoteLeft : List ℕ → ℕ → ℕ → ℕ → Type 0
NoteLeft work count i k = (0 < note_at work i k) × (note_at work i k ≤ count) × (get_or work (struck_at (note_at work i k - 1)) 0 ≡ 0)

module _ (work : List ℕ) (count i : ℕ) where
  pub not_relying : ReliesOnLeftIs work count i false
  unfolding ReliesOnLeftIs
  not_relying e = true_not_false e refl

  pub note_left : (k n : ℕ) (b : Bool) → n ≡ note_at work i k → (n ≡ 0 → ⊥) → n ≤ count → LeftAtIs work (n - 1) b → b ≡ true → NoteLeft work count i k
  note_left k n b e f h l t = rw (← e) (omega (arith, f), h, left_zero work (n - 1) b l t)

  pub notes_left : (k : ℕ) → noted_count ≤ k → ((l : ℕ) → l < k → NoteLeft work count i l) → ReliesOnLeftIs work count i true
  unfolding ReliesOnLeftIs
  notes_left k h so e l g = so l (omega arith)

-- sole_struck
module _ (work : List ℕ) (count i : ℕ) where
  pub none_sole : SoleStruckIs work count i false
  unfolding SoleStruckIs
  none_sole e = true_not_false e refl

  pub sole_is_struck : (k n : ℕ) (b : Bool) → k < noted_count → n ≡ note_at work i k → (n ≡ 0 → ⊥) → n ≤ count → LeftAtIs work (n - 1) b → b ≡ false
      → SoleStruckIs work count i true
  unfolding SoleStruckIs LeftAtIs
  sole_is_struck k n b h e f g l t _ = (k, n - 1, h, omega (arith, e, f), omega (arith, f), eqb-false (get_or work (struck_at (n - 1)) 0) 0 (sym l ∙ t))
