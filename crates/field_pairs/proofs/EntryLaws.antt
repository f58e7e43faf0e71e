-- What is read of an entry is what the listed step has. Assumes nothing.
use mathlib.Core.Path.{◌≡◌, refl, sym, ap, ◌∙◌}
use mathlib.Core.Bool.{Bool, true, false, ◌&&◌}
use mathlib.Core.List.{List, ◌∷◌, ◌++◌, append_assoc}
use Prim.Native.Nat.{ℕ, ◌+◌, ◌-◌, ◌<◌, ◌≤◌}
use native.Mathlib.Omega.{arith}
use lib.ListN.{length, get_or, drop, replicate, length-append, length-drop}
use lib.Seq.{drop-drop, drop-append-add, get_or-drop, get_or-append-add, ext_get_or}
use lib.Dec.{eqb}
use borrow.Author.Tests.{eq-eqb, ne_eqb}
use Rattle.terms.specs.Limits.{name_count, longest_term}
use Rattle.steps_conditions.specs.Conditions.{ClassesAt, ClassOfIs, TrivialIs, ImpliesIs}
use Rattle.steps_conditions.proofs.ClassBytes.{inside, class_byte, class_alone, trivial_own}
use Rattle.steps_entries.specs.Entries.{Alike}
use Rattle.steps.specs.Listed.{ListedStep, names_from, class_in, implies, result_bytes, bytes}
use Rattle.field_pairs.specs.Entry.{EntryAt, kind_byte, channel_byte, object_byte, result_byte, SameHeader, BindsIs, AnswersIs}
use Rattle.field_pairs.specs.Slot.{part_bytes}
use Rattle.field.specs.Successors.{answers, binds_name}
use Rattle.field.proofs.ClassTests.{answers_trivial}

module _ (area : List ℕ) (at : ℕ) (s : ListedStep) (e : EntryAt area at s) where
  -- behind the classes
  tail : List ℕ
  tail = s.kind ∷ s.channel ∷ s.object ∷ (length (result_bytes s) ∷ (result_bytes s ++ replicate (longest_term - length (result_bytes s)) 0)) ++ e.rest

  laid : drop at area ≡ s.classes ++ tail
  unfolding bytes tail
  laid = e.there ∙ append_assoc s.classes (s.kind ∷ s.channel ∷ s.object ∷ length (result_bytes s) ∷ (result_bytes s ++ replicate (longest_term - length (result_bytes s)) 0)) e.rest

  read_tail : (k : ℕ) → get_or area (at + (name_count + k)) 0 ≡ get_or tail k 0
  read_tail k =
      let n : length s.classes + k ≡ name_count + k = ap (λ m. m + k) e.count in
      sym (get_or-drop at area (name_count + k) 0) ∙ ap (λ l. get_or l (name_count + k) 0) laid ∙ rw (← n) (get_or-append-add s.classes tail k 0)

  pub entry_kind : get_or area (at + kind_byte) 0 ≡ s.kind
  unfolding tail
  entry_kind = read_tail 0

  pub entry_channel : get_or area (at + channel_byte) 0 ≡ s.channel
  unfolding tail
  entry_channel = read_tail 1

  pub entry_object : get_or area (at + object_byte) 0 ≡ s.object
  unfolding tail
  entry_object = read_tail 2

  -- the classes of its condition
  pub entry_classes : ClassesAt area at s.classes
  entry_classes = record { rest = tail; there = laid; count = e.count }

  pub entry_class : (n : ℕ) → n < name_count → get_or area (at + n) 0 ≡ class_in s.classes n
  entry_class = class_byte area at s.classes entry_classes

  pub entry-alone : (n : ℕ) → name_count ≤ n → n ≡ class_in s.classes n
  entry-alone = class_alone area at s.classes entry_classes

  pub entry_long : at + result_byte ≤ length area
  unfolding tail
  entry_long =
      omega (arith, e.count, length-drop at area, ap length laid, length-append s.classes tail)

  -- the result stands as a part does
  pub entry-result : drop (at + result_byte) area ≡ part_bytes s.result ++ e.rest
  unfolding part_bytes tail result_bytes
  entry-result =
      let n : length s.classes + 3 ≡ result_byte = ap (λ m. m + 3) e.count in
      sym (drop-drop result_byte at area) ∙ ap (drop result_byte) laid ∙ rw (← n) (drop-append-add s.classes tail 3)

-- Two entries with the same bytes at their front have the same classes.
pub classes_agree : (c d : List ℕ) → length c ≡ name_count → length d ≡ name_count → ((n : ℕ) → n < name_count → class_in c n ≡ class_in d n) → c ≡ d
unfolding class_in
classes_agree c d lc ld h =
    ext_get_or 0 c d (lc ∙ sym ld)
    (λ n l. inside c n 0 n l ∙ h n (omega arith) ∙ inside d n n 0 (omega arith))

pub same_classes : (area : List ℕ) (at : ℕ) (others : List ℕ) (place n : ℕ) → name_count ≤ n → Alike area at others place n
    → (s t : ListedStep) → EntryAt area at s → EntryAt others place t → s.classes ≡ t.classes
same_classes area at others place n long a s t e f =
    classes_agree s.classes t.classes e.count f.count
    (λ k l. sym (entry_class area at s e k l) ∙ a k (omega arith) ∙ entry_class others place t f k l)

pub same_header : (area : List ℕ) (at : ℕ) (others : List ℕ) (place n : ℕ) → n ≡ result_byte → Alike area at others place n
    → (s t : ListedStep) → EntryAt area at s → EntryAt others place t → SameHeader s t
same_header area at others place n q a s t e f = record {
  classes = same_classes area at others place n (omega arith) a s t e f;
  kind = sym (entry_kind area at s e) ∙ a kind_byte (omega arith) ∙ entry_kind others place t f;
  channel = sym (entry_channel area at s e) ∙ a channel_byte (omega arith) ∙ entry_channel others place t f;
  object = sym (entry_object area at s e) ∙ a object_byte (omega arith) ∙ entry_object others place t f;
}

-- What answers a step without a condition has its header.
pub trivial_header : (area : List ℕ) (at : ℕ) (r : Bool) → TrivialIs area at r → r ≡ true → (others : List ℕ) (place : ℕ) (s t : ListedStep)
    → EntryAt area at s → EntryAt others place t → answers name_count s t ≡ true → SameHeader s t
trivial_header area at r h q others place s t e f a =
    let (k, c, o, same) = answers_trivial name_count s t (trivial_own area at r h q s.classes (entry_classes area at s e)) a in
    record { classes = classes_agree s.classes t.classes e.count f.count same; kind = k; channel = c; object = o }

-- Whether a step binds a name goes by its kind.
pub binds_input : (area : List ℕ) (at : ℕ) → get_or area (at + kind_byte) 0 ≡ 1 → BindsIs area at true
unfolding BindsIs binds_name
binds_input area at a s e = rw (eq-eqb s.kind 1 (sym (entry_kind area at s e) ∙ a))

pub binds_other : (area : List ℕ) (at : ℕ) → (get_or area (at + kind_byte) 0 ≡ 1 → ⊥) → BindsIs area at (eqb (get_or area (at + kind_byte) 0) 3)
unfolding BindsIs binds_name
binds_other area at a s e =
    let k = entry_kind area at s e in
    rw (k, ne_eqb s.kind 1 (λ q. a (k ∙ q)))

-- An answer passes each of four tests.
second-fails : (a b c d : Bool) → b ≡ false → false ≡ (a && b && c && d)
second-fails true b c d e = rw e
second-fails false b c d e = refl

third_fails : (a b c d : Bool) → c ≡ false → false ≡ (a && b && c && d)
third_fails true true c d e = rw e
third_fails true false c d e = refl
third_fails false b c d e = refl

module _ (area : List ℕ) (at : ℕ) (others : List ℕ) (place : ℕ) where
  -- what is too short to have an action stands in no list
  pub answers_short : length area < at + result_byte → AnswersIs area at others place false
  unfolding AnswersIs
  answers_short h s t e f = absurd (omega (arith, entry_long area at s e))

  pub answers_other_short : length others < place + result_byte → AnswersIs area at others place false
  unfolding AnswersIs
  answers_other_short h s t e f = absurd (omega (arith, entry_long others place t f))

  pub answers_kind : (get_or area (at + kind_byte) 0 ≡ get_or others (place + kind_byte) 0 → ⊥) → AnswersIs area at others place false
  unfolding AnswersIs answers
  answers_kind k s t e f =
      let q : s.kind ≡ t.kind → ⊥ = λ h. k (entry_kind area at s e ∙ h ∙ sym (entry_kind others place t f)) in
      rw (ne_eqb s.kind t.kind q)

  -- the other's channel and object under the condition
  class_channel : (c : ℕ) → ClassOfIs area at (get_or others (place + channel_byte) 0) c → (s t : ListedStep) → EntryAt area at s → EntryAt others place t
      → c ≡ class_in s.classes t.channel
  unfolding ClassOfIs
  class_channel c h s t e f = h s.classes (entry_classes area at s e) ∙ ap (class_in s.classes) (entry_channel others place t f)

  class_object : (o : ℕ) → ClassOfIs area at (get_or others (place + object_byte) 0) o → (s t : ListedStep) → EntryAt area at s → EntryAt others place t
      → o ≡ class_in s.classes t.object
  unfolding ClassOfIs
  class_object o h s t e f = h s.classes (entry_classes area at s e) ∙ ap (class_in s.classes) (entry_object others place t f)

  pub answers_channel : (c : ℕ) → ClassOfIs area at (get_or others (place + channel_byte) 0) c → (get_or area (at + channel_byte) 0 ≡ c → ⊥) → AnswersIs area at others place false
  unfolding AnswersIs answers
  answers_channel c h k s t e f =
      second-fails (eqb s.kind t.kind) (eqb s.channel (class_in s.classes t.channel)) (eqb s.object (class_in s.classes t.object))
      (implies s.classes t.classes (names_from 0 name_count))
      (ne_eqb s.channel (class_in s.classes t.channel) (λ q. k (entry_channel area at s e ∙ q ∙ sym (class_channel c h s t e f))))

  pub answers_object : (o : ℕ) → ClassOfIs area at (get_or others (place + object_byte) 0) o → (get_or area (at + object_byte) 0 ≡ o → ⊥) → AnswersIs area at others place false
  unfolding AnswersIs answers
  answers_object o h k s t e f =
      third_fails (eqb s.kind t.kind) (eqb s.channel (class_in s.classes t.channel)) (eqb s.object (class_in s.classes t.object))
      (implies s.classes t.classes (names_from 0 name_count))
      (ne_eqb s.object (class_in s.classes t.object) (λ q. k (entry_object area at s e ∙ q ∙ sym (class_object o h s t e f))))

  pub answers_implied : (c o : ℕ) → ClassOfIs area at (get_or others (place + channel_byte) 0) c → ClassOfIs area at (get_or others (place + object_byte) 0) o
      → get_or area (at + kind_byte) 0 ≡ get_or others (place + kind_byte) 0 → get_or area (at + channel_byte) 0 ≡ c → get_or area (at + object_byte) 0 ≡ o
      → (r : Bool) → ImpliesIs area at others place r → AnswersIs area at others place r
  unfolding AnswersIs ImpliesIs answers
  answers_implied c o hc ho k n m r i s t e f =
      i s.classes t.classes (entry_classes area at s e) (entry_classes others place t f) ∙ sym (rw (
        eq-eqb s.kind t.kind (sym (entry_kind area at s e) ∙ k ∙ entry_kind others place t f),
        eq-eqb s.channel (class_in s.classes t.channel) (sym (entry_channel area at s e) ∙ n ∙ class_channel c hc s t e f),
        eq-eqb s.object (class_in s.classes t.object) (sym (entry_object area at s e) ∙ m ∙ class_object o ho s t e f),
      ))
