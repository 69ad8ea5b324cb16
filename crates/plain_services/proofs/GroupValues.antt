-- Group values on parts are those of the first engine.
use Rattle.std.proofs.Common.{Some, None}
use Rattle.octets.proofs.Kit.{ℕ, ◌+◌, ◌/◌, ◌%◌, ◌≤◌, ◌<◌, ◌-◌, ◌≡◌, refl, sym, ap, subst, ◌∙◌, Bool, true, false, cond, not, ◌⊎◌, inl, inr, List, [], ◌∷◌, arith, add-zero, lit<, ltb, eqb}
use Rattle.octets.proofs.Kit.{length, get_or, take, drop, lt-ltb, le-ltb, eq-eqb, ne_eqb}
use Rattle.octets.{specs.{Octets.Octets, Bytes.{num_at, bytes_of}, Splice.splice}, proofs.{Numbers.num_one, Truths.never}}
use Rattle.sheet.{specs.{Kind.groups, Layout.◌of◌, Entries.{count, place, entry, key_of, contents, body_at}, Lookup.index_of, Rules.Accepted}, proofs.rules.Good.good}
use Rattle.sheet.proofs.{places.{Standing.field_at, BodyPlaces.after_contents}, promises.Keys.{index_hit, index_none}}
use Rattle.sheet.specs.Group as group
use Rattle.pdu.specs.declared.Pdu.TheVariants.{GroupValueResponse}
use Rattle.judge.specs.{declared.{Decision.Decision, Turn.TheVariants.Stays}, Decisions.{refused, answered, stored}, Groups.{has_flag, flags_at, value_of, put_value, group_read_of, group_put_of}}
use Rattle.judge.specs.declared.Store.TheVariants as store
use Rattle.judge.specs.declared.Answer.TheVariants as answer
use Rattle.parts.{specs.{declared.{Group.Group, Parts.Parts}, Records.{Taken, no_group}, With.with_bodies}, proofs.{Changed.bodies_changed, Quoted.same_part}}
use Rattle.device.proofs.leaves.Accepted.{group_within, six_within, group_short}
use Rattle.plain_services.specs.{declared.{Reply.Reply}, Steps.{Held, Gives, Serves}}
use Rattle.plain_services.proofs.{Joined.{was_no, was_yes}, Agreed.{agreed, by_decision, quoted}}

-- the entry e has the fields of p
pub record Fields (p : Group) (s : List ℕ) (i : ℕ) : Type 0 where
  pub address : key_of s groups i ≡ p.address
  pub code : group.code of entry s groups i ≡ p.code
  pub offset : group.offset of entry s groups i ≡ p.offset
  pub read : has_flag 1 (flags_at s i) ≡ p.read
  pub write : has_flag 2 (flags_at s i) ≡ p.write
  pub response : has_flag 4 (flags_at s i) ≡ p.response

pub fields : (s : List ℕ) (u : Parts) (i : ℕ) → Taken s u → i < count s groups → Fields (get_or u.groups i no_group) s i
unfolding key_of flags_at
fields s u i t h =
    let p = t.groups i h in
    let f : group.flags of entry s groups i ≡ num_at s (place s groups i + 3) 1 = field_at s groups i group.flags (lit< tt) in
    let f₁ : group.flags of entry s groups i / 1 ≡ num_at s (place s groups i + 3) 1 = omega (arith, f) in
    record {
      address = field_at s groups i group.address (lit< tt) ∙ ap (λ (n : ℕ). num_at s n 2) (add-zero (place s groups i)) ∙ sym p.address;
      code = field_at s groups i group.code (lit< tt) ∙ sym p.code;
      offset = field_at s groups i group.offset (lit< tt) ∙ sym p.offset;
      read = ap (λ (x : ℕ). eqb (x % 2) 1) f₁ ∙ sym p.read;
      write = ap (λ (x : ℕ). eqb (x / 2 % 2) 1) f ∙ sym p.write;
      response = ap (λ (x : ℕ). eqb (x / 4 % 2) 1) f ∙ sym p.response;
    }

-- group object i has that address
abbrev pub addressed : List Group → ℕ → ℕ → Bool
addressed gs a i = eqb (get_or gs i no_group).address a

-- a straight search finds the group object that the first engine finds
module _ (u : Parts) (address : ℕ) (s : List ℕ) (t : Taken s u) where
  pub group_hit : Accepted s → (i : ℕ) → i < u.counts.groups → (get_or u.groups i no_group).address ≡ address → i ≡ index_of s groups address
  group_hit ok i h e =
      let k : i < count s groups = omega (arith, t.counts.groups) in
      sym (index_hit s ok groups (lit< tt) i address k ((fields s u i t k).address ∙ e))

  pub group_miss : ((i : ℕ) → i < u.counts.groups → addressed u.groups address i ≡ false) → u.counts.groups ≡ index_of s groups address
  group_miss f =
      t.counts.groups
      ∙ sym (index_none s groups address (λ i h e. never (sym (f i (omega (arith, t.counts.groups))) ∙ eq-eqb (get_or u.groups i no_group).address address (sym (fields s u i t h).address ∙ e))))

-- where the body of group object i stands
module _ (u : Parts) (i : ℕ) (h : i < u.counts.groups) where
  abbrev p : Group
  p = get_or u.groups i no_group

  body :
      (s : List ℕ) → Accepted s → Taken s u →
      (contents s ≤ p.offset) × (p.offset + p.code ≤ length s) × (p.offset + 1 ≤ length s) × (p.code ≤ 14)
  unfolding body_at
  body s ok t =
      let there : i < count s groups = omega (arith, t.counts.groups) in
      let f = fields s u i t there in
      let g = good s ok in (
        omega (arith, f.offset, after_contents g groups i (lit< tt) there),
        omega (arith, f.offset, f.code, group_within g i there),
        omega (arith, f.offset, six_within g i there),
        omega (arith, f.code, group_short g i there),
      )

  pub room : Held u → (length u.bodies ≡ 16384) × (p.offset + p.code ≤ 16384) × (p.code ≤ 14)
  room k =
      let b = body k.sheet k.ok k.taken in
      (k.taken.room, omega (arith, b.1, k.taken.counts.short), b.3)

  pub six_room : Held u → (length u.bodies ≡ 16384) × (p.offset + 1 ≤ 16384)
  six_room k = (k.taken.room, omega (arith, (body k.sheet k.ok k.taken).2, k.taken.counts.short))

  module _ (r : Reply) where
    -- the value
    pub six_sent : (v : ℕ) → v ≡ get_or u.bodies p.offset 0 → p.code ≡ 0 → Gives r 0 u Stays (Some (GroupValueResponse v)) [] → Serves u [] (λ s. value_of s p.code p.offset) r
    unfolding value_of
    six_sent v ev e g =
        record {
          agrees = λ s ok o t.
              let b = body s ok t in
              let q : num_at s p.offset 1 ≡ v = num_one s p.offset ∙ sym (ev ∙ t.bodies p.offset b.0 (omega (arith, b.2))) in
              by_decision _ (answered (answer.Plain (GroupValueResponse v))) (rw (eq-eqb p.code 0 e, q) refl)
              (agreed (answered (answer.Plain (GroupValueResponse v))) g t);
        }

    pub bytes_sent :
        (p.code ≡ 0 → ⊥) → Gives r 0 u Stays (Some (GroupValueResponse 0)) (take (p.offset + p.code - p.offset) (drop p.offset u.bodies)) →
        Serves u [] (λ s. value_of s p.code p.offset) r
    unfolding value_of
    bytes_sent e g =
        record {
          agrees = λ s ok o t.
              let b = body s ok t in
              by_decision _ (answered (answer.Sheet (GroupValueResponse 0) p.offset p.code)) (rw (ne_eqb p.code 0 e) refl)
              (agreed (answered (answer.Sheet (GroupValueResponse 0) p.offset p.code))
              (rw (quoted p.offset p.code u.bodies ∙ same_part s u t p.offset p.code b.0 b.1) at g) t);
        }

    -- a new value v, or d
    module _ (v : ℕ) (d : List ℕ) where
      pub unfit : (length d ≡ p.code → ⊥) → Gives r 10 u Stays None [] → Serves u d (λ s. put_value p.code p.offset v (length d)) r
      unfolding put_value
      unfit e g = record { agrees = λ s ok o t. by_decision _ (refused 10) (rw (ne_eqb (length d) p.code e) refl) (agreed (refused 10) g t) }

      pub six_put :
          v < 256 → length d ≡ p.code → p.code ≡ 0 → (b : List ℕ) (w : Parts) → b ≡ splice u.bodies p.offset (v ∷ []) → w ≡ with_bodies u b → Gives r 1 w Stays None [] →
          Serves u d (λ s. put_value p.code p.offset v (length d)) r
      unfolding put_value bytes_of
      six_put l e z c w ec ew g =
          record {
            agrees = λ s ok o t.
                let b = body s ok t in
                let m : v % 256 ≡ v = omega arith in
                by_decision _ (stored (store.Number p.offset 1 v)) (rw (eq-eqb (length d) p.code e, eq-eqb p.code 0 z) refl)
                (agreed (stored (store.Number p.offset 1 v)) g
                (subst (λ (x : ℕ). Taken (splice s p.offset (x ∷ [])) w) (sym m)
                (subst (λ (x : Parts). Taken (splice s p.offset (v ∷ [])) x) (sym (ew ∙ ap (λ (y : List ℕ). with_bodies u y) ec)) (bodies_changed s u t p.offset (v ∷ []) b.0 b.2))));
          }

      pub bytes_put :
          length d ≡ p.code → (p.code ≡ 0 → ⊥) → (b : List ℕ) (w : Parts) → b ≡ splice u.bodies p.offset d → w ≡ with_bodies u b → Gives r 1 w Stays None [] →
          Serves u d (λ s. put_value p.code p.offset v (length d)) r
      unfolding put_value
      bytes_put e z c w ec ew g =
          record {
            agrees = λ s ok o t.
                let b = body s ok t in
                by_decision _ (stored (store.Data 0 p.offset)) (rw (eq-eqb (length d) p.code e, ne_eqb p.code 0 z) refl)
                (agreed (stored (store.Data 0 p.offset)) g
                (subst (λ (x : Parts). Taken (splice s p.offset d) x) (sym (ew ∙ ap (λ (y : List ℕ). with_bodies u y) ec)) (bodies_changed s u t p.offset d b.0 (omega (arith, b.1, e)))));
          }

-- by group address: i is what the search gives
module _ (u : Parts) (address i : ℕ) (r : Reply) (f : (i ≤ u.counts.groups) × ((s : List ℕ) → Accepted s → Octets s → Taken s u → i ≡ index_of s groups address)) where
  abbrev e : Group
  e = get_or u.groups i no_group

  -- whatever is asked of it
  none : (d : List ℕ) (k : List ℕ → ℕ → Decision) → u.counts.groups ≤ i → Gives r 2 u Stays None [] →
      Serves u d (λ s. cond (ltb (index_of s groups address) (count s groups)) (k s (index_of s groups address)) (refused 2)) r
  none d k h g =
      record {
        agrees = λ s ok o t.
            let l : count s groups ≤ index_of s groups address = omega (arith, f.1 s ok o t, t.counts.groups) in
            by_decision _ (refused 2) (rw (le-ltb (index_of s groups address) (count s groups) l) refl) (agreed (refused 2) g t);
      }

  one : (d : List ℕ) (k : List ℕ → ℕ → Decision) (x : List ℕ → Decision) → i < u.counts.groups → ((s : List ℕ) → Taken s u → k s i ≡ x s) → Serves u d x r →
      Serves u d (λ s. cond (ltb (index_of s groups address) (count s groups)) (k s (index_of s groups address)) (refused 2)) r
  one d k x h z g =
      record {
        agrees = λ s ok o t.
            let q = f.1 s ok o t in
            let l : index_of s groups address < count s groups = omega (arith, q, t.counts.groups) in
            by_decision _ (x s) (rw (lt-ltb (index_of s groups address) (count s groups) l) (ap (k s) (sym q) ∙ z s t)) (g.agrees s ok o t);
      }

  there : (s : List ℕ) → Taken s u → i < u.counts.groups → Fields e s i
  there s t h = fields s u i t (omega (arith, t.counts.groups))

  passed : (d : List ℕ) → Gives r 2 u Stays None [] → Serves u d (λ s. refused 2) r
  passed d g = record { agrees = λ s ok o t. agreed (refused 2) g t }

  pub none_read : u.counts.groups ≤ i → Gives r 2 u Stays None [] → Serves u [] (λ s. group_read_of s address) r
  unfolding group_read_of
  none_read h g = none [] (λ s j. cond (has_flag 1 (flags_at s j)) (value_of s (group.code of entry s groups j) (group.offset of entry s groups j)) (refused 2)) h g

  pub is_read : i < u.counts.groups → e.read ≡ true → Serves u [] (λ s. value_of s e.code e.offset) r → Serves u [] (λ s. group_read_of s address) r
  unfolding group_read_of
  is_read h z g =
      one [] (λ s j. cond (has_flag 1 (flags_at s j)) (value_of s (group.code of entry s groups j) (group.offset of entry s groups j)) (refused 2))
      (λ s. value_of s e.code e.offset) h (λ s t. rw ((there s t h).read ∙ z, (there s t h).code, (there s t h).offset) refl) g

  pub not_read : i < u.counts.groups → e.read ≡ false → Gives r 2 u Stays None [] → Serves u [] (λ s. group_read_of s address) r
  unfolding group_read_of
  not_read h z g =
      one [] (λ s j. cond (has_flag 1 (flags_at s j)) (value_of s (group.code of entry s groups j) (group.offset of entry s groups j)) (refused 2))
      (λ s. refused 2) h (λ s t. rw ((there s t h).read ∙ z) refl) (passed [] g)

  module _ (v : ℕ) (d : List ℕ) where
    pub none_put : (w : ℕ) → u.counts.groups ≤ i → Gives r 2 u Stays None [] → Serves u d (λ s. group_put_of w s address v (length d)) r
    unfolding group_put_of
    none_put w h g = none d (λ s j. cond (has_flag w (flags_at s j)) (put_value (group.code of entry s groups j) (group.offset of entry s groups j) v (length d)) (refused 2)) h g

    -- flag w by its name
    module _ (w : ℕ) (b : Bool) (name : (s : List ℕ) → Taken s u → has_flag w (flags_at s i) ≡ b) (h : i < u.counts.groups) where
      pub put_by : b ≡ true → Serves u d (λ s. put_value e.code e.offset v (length d)) r → Serves u d (λ s. group_put_of w s address v (length d)) r
      unfolding group_put_of
      put_by z g =
          one d (λ s j. cond (has_flag w (flags_at s j)) (put_value (group.code of entry s groups j) (group.offset of entry s groups j) v (length d)) (refused 2))
          (λ s. put_value e.code e.offset v (length d)) h (λ s t. rw (name s t ∙ z, (there s t h).code, (there s t h).offset) refl) g

      pub not_by : b ≡ false → Gives r 2 u Stays None [] → Serves u d (λ s. group_put_of w s address v (length d)) r
      unfolding group_put_of
      not_by z g =
          one d (λ s j. cond (has_flag w (flags_at s j)) (put_value (group.code of entry s groups j) (group.offset of entry s groups j) v (length d)) (refused 2))
          (λ s. refused 2) h (λ s t. rw (name s t ∙ z) refl) (passed d g)

    -- the flag for a Response, or that for writing
    chosen :
        (answered takes : Bool) → ((answered ≡ true) × (takes ≡ e.response)) ⊎ ((answered ≡ false) × (takes ≡ e.write)) →
        i < u.counts.groups → (s : List ℕ) → Taken s u → has_flag (cond answered 4 2) (flags_at s i) ≡ takes
    chosen answered takes (inl c) h s t = ap (λ (b : Bool). has_flag (cond b 4 2) (flags_at s i)) c.0 ∙ (there s t h).response ∙ sym c.1
    chosen answered takes (inr c) h s t = ap (λ (b : Bool). has_flag (cond b 4 2) (flags_at s i)) c.0 ∙ (there s t h).write ∙ sym c.1

    module _ (answered takes : Bool) (c : ((answered ≡ true) × (takes ≡ e.response)) ⊎ ((answered ≡ false) × (takes ≡ e.write))) (h : i < u.counts.groups) where
      pub put_taken :
          not takes ≡ false → Serves u d (λ s. put_value e.code e.offset v (length d)) r → Serves u d (λ s. group_put_of (cond answered 4 2) s address v (length d)) r
      put_taken q g = put_by (cond answered 4 2) takes (chosen answered takes c h) h (was_yes takes q) g

      pub put_refused : not takes ≡ true → Gives r 2 u Stays None [] → Serves u d (λ s. group_put_of (cond answered 4 2) s address v (length d)) r
      put_refused q g = not_by (cond answered 4 2) takes (chosen answered takes c h) h (was_no takes q) g
