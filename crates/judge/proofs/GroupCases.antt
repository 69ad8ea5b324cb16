-- What is decided about a group value, case by case.
use Rattle.octets.proofs.Kit.{ℕ, ◌/◌, ◌%◌, ◌<◌, ◌≤◌, ◌≡◌, refl, sym, ap, ◌∙◌, List, arith, lt-ltb, eq-eqb, ne_eqb}
use Rattle.octets.{specs.Bytes.num_at, proofs.Walks.{by_lt, by_eq}}
use Rattle.sheet.{specs.{Kind.groups, Layout.◌of◌, Entries.{count, entry, key_of}, Lookup.index_of}, proofs.{rules.Good.{Good, accepted}, promises.Keys.{index_hit, index_key}}}
use Rattle.sheet.specs.Group as group
use Rattle.pdu.specs.declared.Pdu.TheVariants.{GroupValueResponse}
use Rattle.judge.specs.{declared.Decision.Decision, Decisions.{refused, answered, stored}, Groups.{read, value_of, put_value, flags_at, group_read_of, group_put_of}}
use Rattle.judge.specs.declared.Store.TheVariants as store
use Rattle.judge.specs.declared.Answer.TheVariants as answer

-- group object i has the address, and the flag w
pub record Lets (s : List ℕ) (w address i : ℕ) : Type 0 where
  pub there : i < count s groups
  pub named : group.address of entry s groups i ≡ address
  pub flag : group.flags of entry s groups i / w % 2 ≡ 1

module _ (s : List ℕ) (address : ℕ) where
  at : ℕ
  at = index_of s groups address

  found : at < count s groups → group.address of entry s groups at ≡ address
  unfolding at key_of
  found h = index_key s groups address h

  module _ (P : Decision → Type 0) where
    pub group_read_cases :
        ((i : ℕ) → Lets s read address i → group.code of entry s groups i ≡ 0 →
        P (answered (answer.Plain (GroupValueResponse (num_at s (group.offset of entry s groups i) 1))))) →
        ((i : ℕ) → Lets s read address i → 1 ≤ group.code of entry s groups i →
        P (answered (answer.Sheet (GroupValueResponse 0) (group.offset of entry s groups i) (group.code of entry s groups i)))) →
        P (refused 2) → P (group_read_of s address)
    unfolding group_read_of value_of flags_at at
    group_read_cases f g h =
        by_lt P at (count s groups) _ _
        (λ l. by_eq P (group.flags of entry s groups at / read % 2) 1 _ _
        (λ m.
        let t : Lets s read address at = record { there = l; named = found l; flag = m } in
        by_eq P (group.code of entry s groups at) 0 _ _ (λ z. f at t z) (λ z. g at t (omega arith)))
        (λ m. h))
        (λ l. h)

    pub group_put_cases :
        (w v d : ℕ) →
        ((i : ℕ) → Lets s w address i → group.code of entry s groups i ≡ 0 → d ≡ 0 →
        P (stored (store.Number (group.offset of entry s groups i) 1 v))) →
        ((i : ℕ) → Lets s w address i → 1 ≤ group.code of entry s groups i → d ≡ group.code of entry s groups i →
        P (stored (store.Data 0 (group.offset of entry s groups i)))) →
        ((i : ℕ) → Lets s w address i → (d ≡ group.code of entry s groups i → ⊥) → P (refused 10)) →
        P (refused 2) → P (group_put_of w s address v d)
    unfolding group_put_of put_value flags_at at
    group_put_cases w v d f g u h =
        by_lt P at (count s groups) _ _
        (λ l. by_eq P (group.flags of entry s groups at / w % 2) 1 _ _
        (λ m.
        let t : Lets s w address at = record { there = l; named = found l; flag = m } in
        by_eq P d (group.code of entry s groups at) _ _
        (λ e. by_eq P (group.code of entry s groups at) 0 _ _ (λ z. f at t z (omega arith)) (λ z. g at t (omega arith) e))
        (λ e. u at t e))
        (λ m. h))
        (λ l. h)

-- AND BACK: the object that lets it decides
module _ {s : List ℕ} (ok : Good s) (address i : ℕ) where
  here : (w : ℕ) → Lets s w address i → index_of s groups address ≡ i
  unfolding key_of
  here w t = index_hit s (accepted ok) groups (omega arith) i address t.there t.named

  reads : Lets s read address i → group_read_of s address ≡ value_of s (group.code of entry s groups i) (group.offset of entry s groups i)
  unfolding group_read_of flags_at
  reads t = simp (here read t, lt-ltb i (count s groups) t.there, eq-eqb _ 1 t.flag)

  puts :
      (w v d : ℕ) → Lets s w address i → group_put_of w s address v d ≡ put_value (group.code of entry s groups i) (group.offset of entry s groups i) v d
  unfolding group_put_of flags_at
  puts w v d t = simp (here w t, lt-ltb i (count s groups) t.there, eq-eqb _ 1 t.flag)

  pub group_read_six :
      Lets s read address i → group.code of entry s groups i ≡ 0 →
      group_read_of s address ≡ answered (answer.Plain (GroupValueResponse (num_at s (group.offset of entry s groups i) 1)))
  unfolding value_of
  group_read_six t z = reads t ∙ simp (eq-eqb (group.code of entry s groups i) 0 z)

  pub group_read_bytes :
      Lets s read address i → 1 ≤ group.code of entry s groups i →
      group_read_of s address ≡ answered (answer.Sheet (GroupValueResponse 0) (group.offset of entry s groups i) (group.code of entry s groups i))
  unfolding value_of
  group_read_bytes t z = reads t ∙ simp (ne_eqb (group.code of entry s groups i) 0 (omega arith))

  module _ (w v d : ℕ) (t : Lets s w address i) where
    pub group_put_six :
        group.code of entry s groups i ≡ 0 → d ≡ 0 →
        group_put_of w s address v d ≡ stored (store.Number (group.offset of entry s groups i) 1 v)
    unfolding put_value
    group_put_six z e =
        puts w v d t ∙ simp (eq-eqb d (group.code of entry s groups i) (e ∙ sym z), eq-eqb (group.code of entry s groups i) 0 z)

    pub group_put_bytes :
        1 ≤ group.code of entry s groups i → d ≡ group.code of entry s groups i →
        group_put_of w s address v d ≡ stored (store.Data 0 (group.offset of entry s groups i))
    unfolding put_value
    group_put_bytes z e =
        puts w v d t ∙ simp (eq-eqb d (group.code of entry s groups i) e, ne_eqb (group.code of entry s groups i) 0 (omega arith))

    pub group_put_unfit : (d ≡ group.code of entry s groups i → ⊥) → group_put_of w s address v d ≡ refused 10
    unfolding put_value
    group_put_unfit e = puts w v d t ∙ simp (ne_eqb d (group.code of entry s groups i) e)

  -- so it isn't for nobody
  pub group_read_for_us : Lets s read address i → group_read_of s address ≡ refused 2 → ⊥
  unfolding value_of
  group_read_for_us t e =
      let z : (value_of s (group.code of entry s groups i) (group.offset of entry s groups i)).outcome ≡ 2 = ap (λ (k : Decision). k.outcome) (sym (reads t) ∙ e) in
      let o : (value_of s (group.code of entry s groups i) (group.offset of entry s groups i)).outcome ≡ 0 =
      by_eq (λ (k : Decision). k.outcome ≡ 0) (group.code of entry s groups i) 0 _ _ (λ z. refl) (λ z. refl) in
      omega arith

  pub group_put_for_us : (w v d : ℕ) → Lets s w address i → group_put_of w s address v d ≡ refused 2 → ⊥
  unfolding put_value
  group_put_for_us w v d t e =
      let z : (put_value (group.code of entry s groups i) (group.offset of entry s groups i) v d).outcome ≡ 2 = ap (λ (k : Decision). k.outcome) (sym (puts w v d t) ∙ e) in
      let P : Decision → Type 0 = λ k. k.outcome ≡ 2 → ⊥ in
      by_eq P d (group.code of entry s groups i) _ _
      (λ c. by_eq P (group.code of entry s groups i) 0 _ _ (λ c z. omega arith) (λ c z. omega arith))
      (λ c z. omega arith) z
