-- The field stays in the work area where only the bytes for strike-out and for notes change, and so does what is noted. Assumes nothing.
use mathlib.Core.Bool.{Bool, true, false}
use mathlib.Core.List.{List}
use mathlib.Core.Path.{◌≡◌, refl, sym, ap, ◌∙◌, subst}
use native.Mathlib.Decide.{ℕ_discrete}
use native.Mathlib.Omega.{arith}
use Prim.Native.Nat.{ℕ, ◌+◌, ◌-◌, ◌*◌, ◌<◌, ◌≤◌}
use lib.ListN.{length, get_or, set}
use lib.Seq.{get_or-set_other}
use borrow.Author.Tests.{eq-eqb, ne_eqb}
use Rattle.calculus.specs.Lists.{◌∈◌}
use Rattle.calculus.proofs.Membership.{all-∈}
use Rattle.field_slots.specs.Key.{key_at}
use Rattle.field_slots.specs.Noted.{noted_count, note_at, SpareOnly, SoleIn}
use Rattle.field.specs.Exploration.{found}
use Rattle.field.specs.Situation.{Situation}
use Rattle.field.proofs.Members.{get_d_∈}
use Rattle.field_pairs.specs.Slot.{slot_bytes, struck_at, key_bytes, head_byte, note_byte}
use Rattle.field_slots.proofs.ChainLaws.{key_flag, keeps_key, chained_kept}
use Rattle.field_slots.proofs.NotedLaws.{note_flag}
use Rattle.field_exploration.proofs.Below.{situation-kept}
use Rattle.verdict_notes.specs.Notes.{NotedIn, Has, Numbers, NoteIs, ClearsNotes, ReliesOnLeftIs, SoleStruckIs}
use Rattle.verdict_answers.specs.Striking.{living, left_of, Standing, SomeAnswer, ReliesOn, demands_at, FieldIn, Searching, SurvivesIs, Relies, ExaminedIs, AllNoted, AllSole, NotesHold}
use Rattle.std.specs.Prelude.{Result, Ok}
use Rattle.verdict_notes.specs.declared.relied.Relied.{Relied}
use Rattle.verdict_answers.proofs.LeftLaws.{left-found}
use Rattle.verdict_answers.proofs.Marks.{marks-kept}
use Rattle.verdict_answers.proofs.Sweeping.{in_ok}
use Rattle.verdict_answers.proofs.DemandedMoves.{move_demanded}
use Rattle.verdict_answers.proofs.Demands.{all-answer, one_fails}
use Rattle.verdict.specs.Verdict.{Manner, all_answered}

-- Keys and chains are as they were.
pub record SameField (v u : List ℕ) : Type 0 where
  pub keys : (i : ℕ) → key_at u i ≡ key_at v i
  pub links : (i j : ℕ) → head_byte ≤ j → j < note_byte → get_or u (slot_bytes * i + j) 0 ≡ get_or v (slot_bytes * i + j) 0

pub same_none : (v : List ℕ) → SameField v v
same_none v = record { keys = λ i. refl; links = λ i j g h. refl }

pub same_then : {w v u : List ℕ} → SameField w v → SameField v u → SameField w u
same_then s t = record { keys = λ i. t.keys i ∙ s.keys i; links = λ i j g h. t.links i j g h ∙ s.links i j g h }

same_back : {v u : List ℕ} → SameField v u → SameField u v
same_back s = record { keys = λ i. sym (s.keys i); links = λ i j g h. sym (s.links i j g h) }

pub struck_same : (v : List ℕ) (i : ℕ) → SameField v (set v (struck_at i) 1)
struck_same v i = record {
  keys = key_flag v i 1;
  links = λ k j g h. get_or-set_other v (struck_at i) (slot_bytes * k + j) 1 0 (λ z. omega arith);
}

pub spare_same : {count : ℕ} (v u : List ℕ) → SpareOnly count v u → SameField v u
spare_same {count} v u s = record {
  keys = keeps_key count v u (record { len = s.len; slots = λ i j h. s.slots i j (omega arith); rest = s.rest count (omega arith) });
  links = λ i j g h. s.slots i j h;
}

pub standing_kept : {capacity : ℕ} {v u : List ℕ} (known : List Situation) → SameField v u → Standing capacity v known → Standing capacity u known
standing_kept {capacity} {v} {u} known s st = record {
  held = λ j d h. situation-kept v u s.keys j (get_or known j d) (st.held j d h);
  once = λ j k g h e. st.once j k g h (sym (s.keys j) ∙ e ∙ s.keys k);
  chained = chained_kept capacity v u (length known) (λ i l. s.keys i) s.links st.chained;
  exact = st.exact;
}

module _ (manner : Manner) (question : List ℕ) (capacity count : ℕ) where
  unfoldable pub field-kept : {v u : List ℕ} → SameField v u → FieldIn manner question capacity v count → FieldIn manner question capacity u count
  field-kept s f = record {
    read = f.read;
    accepted = f.accepted;
    known = f.known;
    number = f.number;
    standing = standing_kept f.known s f.standing;
    proper = f.proper;
    closed = f.closed;
    equal = f.equal;
  }

  relies_kept : {v u : List ℕ} (i : ℕ) (H G : ℕ → Type 0) → SameField v u → ((j : ℕ) → H j → G j) → Relies manner question capacity v count i H
      → Relies manner question capacity u count i G
  unfolding Relies ReliesOn field-kept
  relies_kept i H G s more r f d ms e w m =
      let (l, i, a) = r (field-kept (same_back s) f) d ms e w m in
      (l, i, λ t k. let (j, b, h, x) = a t k in (j, b, more j h, x))

  noted-kept : (v u : List ℕ) (i : ℕ) → SameField v u → ((k : ℕ) → k < noted_count → note_at u i k ≡ note_at v i k)
      → (0 < note_at v i 0 → Relies manner question capacity v count i (NotedIn v i)) → 0 < note_at u i 0 → Relies manner question capacity u count i (NotedIn u i)
  unfolding NotedIn
  noted-kept v u i s so n h =
      relies_kept i (NotedIn v i) (NotedIn u i) s (λ j x. (x.0, x.1, so x.0 x.1 ∙ x.2)) (n (omega (arith, so 0 (omega arith))))

  -- What is noted holds still as a situation is struck out, as another is noted, and as nothing is noted.
  noted_struck : (v : List ℕ) (i : ℕ) → AllNoted manner question capacity v count → AllNoted manner question capacity (set v (struck_at i) 1) count
  unfolding AllNoted
  noted_struck v i n j h = noted-kept v (set v (struck_at i) 1) j (struck_same v i) (note_flag v i 1 j) (n j h)

  sole_struck : (v : List ℕ) (i : ℕ) → AllSole manner question capacity v count → AllSole manner question capacity (set v (struck_at i) 1) count
  unfolding AllSole field-kept
  sole_struck v i n j k h g f d ms e =
      subst (SoleIn f.known ms) (sym (note_flag v i 1 j k g)) (n j k h g (field-kept (same_back (struck_same v i)) f) d ms e)

  pub notes_struck : (examine : Bool) (v : List ℕ) (i : ℕ) → NotesHold examine manner question capacity v count → NotesHold examine manner question capacity (set v (struck_at i) 1) count
  unfolding NotesHold
  notes_struck true v i n = noted_struck v i n
  notes_struck false v i n = sole_struck v i n

  pub noted_one : (v u : List ℕ) (i : ℕ) (r : Result Relied Relied) (s : Relied) → ExaminedIs manner question capacity v count i r → r ≡ Ok s → NoteIs v i s u
      → AllNoted manner question capacity v count → AllNoted manner question capacity u count
  unfolding AllNoted Has NotedIn
  noted_one v u i r s x e note n j h = go (ℕ_discrete j i)
    where
      same : SameField v u
      same = spare_same v u note.spare

      has : (k : ℕ) → Has s k → NotedIn u i k
      has k (l, g, f) = let m : Numbers s = in_ok Numbers e x.numbers in (l, omega (arith, m.used), note.here l (omega (arith, m.used)) ∙ f)

      own : 0 < note_at u i 0 → Relies manner question capacity u count i (NotedIn u i)
      own g = relies_kept i (Has s) (NotedIn u i) same has (x.relies s e (omega (arith, note.here 0 (omega arith))))

      go : Dec (j ≡ i) → 0 < note_at u j 0 → Relies manner question capacity u count j (NotedIn u j)
      go (yes e) = subst (λ j. 0 < note_at u j 0 → Relies manner question capacity u count j (NotedIn u j)) (sym e) own
      go (no e) = noted-kept v u j same (note.others j e) (n j h)

  pub noted-none : (v u : List ℕ) → ClearsNotes count v u → AllNoted manner question capacity u count
  unfolding AllNoted
  noted-none v u c i h g = absurd (omega (arith, c.none i h))

  -- A situation survives while all that is noted for it is left.
  pub relying_survives : (v : List ℕ) (i : ℕ) (r : Bool) → i < count → AllNoted manner question capacity v count → ReliesOnLeftIs v count i r → r ≡ true
      → SurvivesIs manner question capacity v count i true
  unfolding AllNoted ReliesOnLeftIs SurvivesIs Relies ReliesOn NotedIn
  relying_survives v i r h n relies t f d ms e =
      sym (all-answer (left_of v f.field.known) (demands_at manner f.field.read (get_or f.field.known i d) ms) each)
    where
      some : 0 < note_at v i 0
      some = (relies t 0 (omega arith)).0

      left : (u : Situation) → (j : ℕ) × (j < length f.field.known) × NotedIn v i j × ((d : Situation) → get_or f.field.known j d ≡ u)
          → found (left_of v f.field.known) u ≡ true
      left u (j, l, (k, b, q), x) =
          let z : note_at v i k - 1 ≡ j = omega (arith, q) in
          left-found v f.field.known f.field.standing j u d l (x d) ∙ eq-eqb (get_or v (struck_at j) 0) 0 (subst (λ j. get_or v (struck_at j) 0 ≡ 0) z (relies t k b).2)

      each : (m : List (List Situation)) → m ∈ demands_at manner f.field.read (get_or f.field.known i d) ms
          → SomeAnswer (λ u. found (left_of v f.field.known) u ≡ true) m
      each m g = let (l, j, a) = n i h some f.field d ms e m g in (l, j, λ u k. left u (a u k))

  -- A situation does not survive if one that is noted for it, the only answer to a move, is struck out: the demand of that move is not answered.
  pub sole_fails : (v : List ℕ) (i : ℕ) (r : Bool) → i < count → AllSole manner question capacity v count → SoleStruckIs v count i r → r ≡ true
      → SurvivesIs manner question capacity v count i false
  unfolding AllSole SoleStruckIs SurvivesIs SoleIn
  sole_fails v i r h n struck t f d ms e =
      let (k, j, g, q, l, gone) = struck t in
      let (w, m, only) = n i k h g f.field d ms e j q in
      let (y, o, a) = move_demanded question f.field.read f.field.accepted manner here (f.field.proper here there) ms e w m in
      sym (one_fails (left_of v f.field.known) (demands_at manner f.field.read here ms) y o (λ x b.
      let (u, p, z) = a x b in
      let (c, is) = all-∈ _ w only u z in
      (u, p, left-found v f.field.known f.field.standing j u d c (is d) ∙ ne_eqb (get_or v (struck_at j) 0) 0 gone)))
    where
      here : Situation
      here = get_or f.field.known i d

      there : here ∈ f.field.known
      there = get_d_∈ f.field.known i d (omega (arith, f.field.number))

  -- Notes change nothing that is left.
  module _ (v u : List ℕ) (s : SpareOnly count v u) where
    pub spare_mark : (i : ℕ) → get_or u (struck_at i) 0 ≡ get_or v (struck_at i) 0
    spare_mark i = s.slots i key_bytes (omega arith)

    searching_back : Searching manner question capacity u count → Searching manner question capacity v count
    unfolding field-kept
    searching_back f = record {
      field = field-kept (same_back (spare_same v u s)) f.field;
      struck = λ i d ms h e a z. f.struck i d ms h e a (spare_mark i ∙ z);
      equal = λ i d h e. sym (spare_mark i) ∙ f.equal i d h e;
    }

    pub spare_left : (known : List Situation) → left_of u known ≡ left_of v known
    spare_left known = ap (λ fs. living fs known) (marks-kept v u (length known) spare_mark)

    pub survives_kept : (i : ℕ) (r : Bool) → SurvivesIs manner question capacity v count i r → SurvivesIs manner question capacity u count i r
    unfolding SurvivesIs searching_back field-kept
    survives_kept i r h f d ms e =
        h (searching_back f) d ms e
        ∙ ap (λ l. all_answered l (demands_at manner f.field.read (get_or f.field.known i d) ms)) (sym (spare_left f.field.known))
