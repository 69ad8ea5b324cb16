-- Group values that arrive: stored, or not.
use Rattle.octets.proofs.Kit.{ℕ, zero, suc, ◌+◌, ◌/◌, ◌%◌, ◌<◌, ◌≤◌, max, ◌≡◌, refl, sym, ap, subst, ◌∙◌, ◌↔◌, Bool, true, false, cond, List, [], ◌∷◌, eqb, length, get_or, arith, eqb-true}
use Rattle.octets.proofs.Kit.{eq-eqb, ne_eqb}
use Rattle.octets.{specs.{Bytes.bytes_of, Splice.splice}, proofs.Numbers.length_bytes}
use Rattle.sheet.{specs.{Kind.groups, Layout.{Field, ◌of◌}, Entries.{count, entry, key_of, body_at, body_end}, Stores.Fit}, proofs.{rules.Good.accepted, promises.Keys.key_once}}
use Rattle.sheet.proofs.alike.Sames.{count_same, group_same}
use Rattle.sheet.specs.Group as group
use Rattle.pdu.specs.declared.Pdu.{Pdu}
use Rattle.device.specs.{Octets.Octets, Events.State, Asked.{Asked, Reads, given}, Due.asked, GroupsDue.{Group, Brings, write, response, Flag}}
use Rattle.device.proofs.leaves.Octet.{octets_bytes, octets_data}
use Rattle.events.specs.Events.{Event}
use Rattle.history.specs.{Wish.{Wish, wish_of, asks}, Span.all, History.{First, permitted}, Others.{group_byte, new_value}, Keeps.{Begins, Writing}}
use Rattle.history.specs.Wish as wish
use Rattle.history.proofs.{spans.{Bools.{all_at, must_fail}, RequestFields.{write_value, response_value}}, heard.{Framed.below_same, Hearing.{asks_is, brings_is}}}
use Rattle.history.proofs.{steps.Invariant.{Inv, fine, now}, stored.Means.store_group}
use Rattle.history.proofs.steps.{Requests.{ends, E, Ok, Done, sessions_same, programs_same, addresses_same, values_new, unwritten, stayed, left, aside}, Writes.heard_now}

-- what a PDU brings is what it asks for
brings_wish : {p : Pdu} {v k : ℕ} → Brings p v k → wish_of p ≡ wish.other (wish.group k v)
brings_wish (write v) = refl
brings_wish (response v) = refl

-- six bits in a byte
six_byte : (v j : ℕ) → v < 64 → j < 1 → get_or (bytes_of 1 v) j 0 ≡ v
unfolding bytes_of
six_byte v zero h l = let e : v % 256 ≡ v = omega arith in e
six_byte v (suc j) h l = absurd (omega arith)

module _ (f : First) (b : Begins f) (h : List Event) (x : State) (inv : Inv f h x) (mode c g : ℕ) (a out : List ℕ) (octets : Octets a) where
  abbrev R : Asked
  R = asked x mode c g a out

  six_bits_lem : {p : Pdu} {v k : ℕ} → Brings p v k → Reads R p → v < 64
  six_bits_lem (write v) r = write_value a octets r.reads
  six_bits_lem (response v) r = response_value a octets r.reads

  abbrev Entry : ℕ → List ℕ
  Entry i = entry f.sheet groups i

  module _ (p : Pdu) (v k : ℕ) (r : Reads R p) (q : Brings p v k) where
    abbrev W : Wish
    W = wish.other (wish.group k v)

    abbrev D : List ℕ
    D = given R p

    e : asks a ≡ W
    e = asks_is a p r.reads ∙ brings_wish q

    ok : Ok f h mode c g a out ≡ true
    ok =
        heard_now f b h x inv mode c g a out p r
        (λ n. let w = brings_wish q in let z : ◌≡◌ {A = ℕ} 0 1 = cc in omega arith)

    none : permitted f h (E f h mode c g a out) ≡ false
    none = unwritten f h mode c g a out W e (λ z. z)

    -- the test of the history, and what it says
    Tests : ℕ → List Bool
    Tests i =
        eqb (group.address of Entry i) g ∷
        eqb (group.flags of Entry i / k % 2) 1 ∷ eqb (length D) (group.code of Entry i) ∷ []

    new_is :
        (i j : ℕ) → group_byte f (E f h mode c g a out ∷ h) i j ≡ cond (all (Tests i)) (cond (eqb (group.code of Entry i) 0) v (get_or D j 0)) (group_byte f h i j)
    unfolding Tests
    new_is i j =
        values_new f h mode c g a out W e ok i j
        ∙ ap (λ (d : List ℕ). new_value (Entry i) g d j (group_byte f h i j) W) (brings_is a p r.reads)

    field_now : (i : ℕ) → i < count f.sheet groups → (d : Field) → d.at + d.width ≤ group.size → d of entry x.sheet groups i ≡ d of Entry i
    field_now i l d w = group_same inv.means.agree i d l w

    test_is :
        (i : ℕ) → i < count f.sheet groups →
        (all (Tests i) ≡ true) ↔ (Group R i × Flag (entry x.sheet groups i) k × (length D ≡ group.code of entry x.sheet groups i))
    unfolding Tests
    test_is i l =
        let address = field_now i l group.address (omega arith) in
        let flags = ap (λ (m : ℕ). m / k % 2) (field_now i l group.flags (omega arith)) in
        let code = field_now i l group.code (omega arith) in (
          λ t. (
            record { there = omega (arith, count_same inv.means.agree groups); address = address ∙ eqb-true _ _ (all_at (Tests i) t 0) },
            flags ∙ eqb-true _ _ (all_at (Tests i) t 1),
            eqb-true _ _ (all_at (Tests i) t 2) ∙ sym code,
          ),
          λ t. simp (eq-eqb _ g (sym address ∙ t.0.address), eq-eqb _ 1 (sym flags ∙ t.1), eq-eqb _ _ (t.2 ∙ code)),
        )

    -- one group object at most has the address
    group_once : (i j : ℕ) → Group R i → Group R j → i ≡ j
    unfolding key_of
    group_once i j m n =
        key_once _ (accepted (now inv b)) groups (omega arith) i j m.there n.there (m.address ∙ sym n.address)

    pub unfit :
        (i : ℕ) → Group R i → (length D ≡ group.code of entry x.sheet groups i → ⊥) → (j : ℕ) → Group R j →
        Flag (entry x.sheet groups j) k → length D ≡ group.code of entry x.sheet groups j → ⊥
    unfit i m o j n u l =
        o (l ∙ ap (λ (d : ℕ). group.code of entry x.sheet groups d) (group_once j i n m))

    -- NOT STORED, where no test passes
    pub value_left :
        ((i : ℕ) → Group R i → Flag (entry x.sheet groups i) k → length D ≡ group.code of entry x.sheet groups i → ⊥) →
        (n : ℕ) (answer : List ℕ) →
        Done f h mode c g a out (ends R n answer x.sheet)
    value_left no_test n answer =
        left f h mode c g a out x inv
        (record {
          sessions = sessions_same f h mode c g a out W e refl (λ k t l. refl);
          addresses = addresses_same f h mode c g a out W e (λ m s v. refl);
          programs = programs_same f h mode c g a out W e refl;
          values = λ i j l.
              new_is i j ∙ rw (must_fail (all (Tests i)) (λ t. let u = (test_is i l).0 t in no_test i u.0 u.1 u.2));
        })
        none n answer (λ z. subst Writing e z.writing)

    -- STORED, where one does
    module _ (i : ℕ) (m : Group R i) (n : Flag (entry x.sheet groups i) k) (o : length D ≡ group.code of entry x.sheet groups i) where
      there : i < count f.sheet groups
      there = below_same inv.means.agree groups i m.there

      other : (j : ℕ) → j < count f.sheet groups → (j ≡ i → ⊥) → all (Tests j) ≡ false
      other j l d = must_fail (all (Tests j)) (λ t. d (group_once j i ((test_is j l).0 t).0 m))

      stored_at :
          (ds : List ℕ) → length ds ≡ max 1 (group.code of entry x.sheet groups i) → Octets ds → Fit x.sheet groups i ds →
          ((j : ℕ) → j < length ds → cond (eqb (group.code of Entry i) 0) v (get_or D j 0) ≡ get_or ds j 0) → (outcome : ℕ) (answer : List ℕ) →
          Done f h mode c g a out
          (ends R outcome answer (splice x.sheet (group.offset of entry x.sheet groups i) ds))
      unfolding body_at body_end
      stored_at ds size small fit same outcome answer =
          aside f h mode c g a out x inv W e (λ z. z) _
          (stayed f h mode c g a out x inv (sessions_same f h mode c g a out W e refl (λ k t l. refl)) outcome answer _)
          (rw (field_now i there group.offset (omega arith))
          (store_group (fine inv b) inv.means i there ds (omega (arith, size, field_now i there group.code (omega arith))) (group_byte f (E f h mode c g a out ∷ h)) here away fit small))
          (sym (addresses_same f h mode c g a out W e (λ m s v. refl)))
          (sym (programs_same f h mode c g a out W e refl))
          (λ i j l. refl)
        where
          here : (j : ℕ) → j < length ds → group_byte f (E f h mode c g a out ∷ h) i j ≡ get_or ds j 0
          here j l = new_is i j ∙ rw ((test_is i there).1 (m, n, o)) (same j l)

          away : (l j : ℕ) → l < count f.sheet groups → (l ≡ i → ⊥) → group_byte f (E f h mode c g a out ∷ h) l j ≡ group_byte f h l j
          away l j d u = new_is l j ∙ rw (other l d u)

      -- six bits
      pub bits_stored :
          group.code of entry x.sheet groups i ≡ 0 → (outcome : ℕ) (answer : List ℕ) →
          Done f h mode c g a out
          (ends R outcome answer (splice x.sheet (group.offset of entry x.sheet groups i) (bytes_of 1 v)))
      bits_stored z =
          stored_at (bytes_of 1 v) (omega (arith, length_bytes 1 v)) (octets_bytes 1 v)
          (λ u w j l. rw (six_byte v j (six_bits_lem q r) (omega (arith, length_bytes 1 v))) (six_bits_lem q r))
          (λ j l.
          rw (eq-eqb (group.code of Entry i) 0 (sym (field_now i there group.code (omega arith)) ∙ z))
          (sym (six_byte v j (six_bits_lem q r) (omega (arith, length_bytes 1 v)))))

      -- bytes
      pub bytes_stored :
          1 ≤ group.code of entry x.sheet groups i → (outcome : ℕ) (answer : List ℕ) →
          Done f h mode c g a out
          (ends R outcome answer (splice x.sheet (group.offset of entry x.sheet groups i) D))
      bytes_stored z =
          stored_at D (omega arith) (octets_data p a octets) (λ u w j l. absurd (omega arith))
          (λ j l. rw (ne_eqb (group.code of Entry i) 0 (omega (arith, field_now i there group.code (omega arith)))))
