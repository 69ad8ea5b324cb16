-- Two sheets that agree on what the rules read are both accepted or both not.
use Rattle.octets.proofs.Kit.{ℕ, ◌+◌, ◌<◌, ◌≤◌, ◌≡◌, sym, ◌∙◌, List, arith}
use Rattle.sheet.specs.{Demand.Met, Kind.{kinds, regions, properties, groups, users, kind_of}, Layout.{Field, ◌of◌}, Entries.{count, entry, floor, six_bits}, Places.region_at}
use Rattle.sheet.specs.{Rules.{region_demands, entry_demands, body_demands, Accepted}, declared.Memory.{Memory, TheVariants.{Device, User}}, Agree.{Fixed, Agree, AgreeBy}}
use Rattle.sheet.specs.Head as head
use Rattle.sheet.specs.Region as region
use Rattle.sheet.specs.Property as property
use Rattle.sheet.specs.Group as group
use Rattle.sheet.proofs.rules.{ByKind.each_kind, Good.{GoodIn, good, accepted}}
use Rattle.sheet.proofs.alike.Sames.{front_same, count_same, region_same, property_same, group_same, floor_same, offset_same, at_same, start_same, reached_same}
use Rattle.sheet.proofs.rules.PlainRows.{six_to, six_from}

module _ {s s' : List ℕ} (a : Agree s s') where
  below_same : (k i : ℕ) → i < count s' k → i < count s k
  below_same k i h = omega (arith, count_same a k)

  -- AGREEMENT IS MUTUAL
  pub agree_sym : Agree s' s
  agree_sym =
      record {
        long = sym a.long;
        front = λ p l h. sym (a.front p l h);
        users = sym a.users;
        by = record { edition = sym a.by.edition; byte15 = sym a.by.byte15; rules = sym a.by.rules };
        zero31 = sym a.zero31;
        flags = (a.flags.1, a.flags.0);
        fixed = λ k i j hk hi hj f. sym (a.fixed k i j hk (below_same k i hi) hj f);
        counts = λ i h.
            let l = below_same properties i h in
            rw (property_same a i property.maximum l (omega arith) (omega arith)) ((a.counts i l).1, (a.counts i l).0);
        six = λ i h c.
            let l = below_same groups i h in
            let d : group.code of entry s groups i ≡ 0 = sym (group_same a i group.code l (omega arith)) ∙ c in
            rw (at_same a groups i (omega arith) l) ((a.six i l d).1, (a.six i l d).0);
      }

  -- AGREEMENT GOES ON
  pub agree_trans : {s'' : List ℕ} → Agree s' s'' → Agree s s''
  agree_trans b =
      record {
        long = b.long ∙ a.long;
        front = λ p l h. b.front p l h ∙ a.front p l h;
        users = b.users ∙ a.users;
        by =
            record {
              edition = b.by.edition ∙ a.by.edition;
              byte15 = b.by.byte15 ∙ a.by.byte15;
              rules = b.by.rules ∙ a.by.rules;
            };
        zero31 = b.zero31 ∙ a.zero31;
        flags = (λ h. b.flags.0 (a.flags.0 h), λ h. a.flags.1 (b.flags.1 h));
        fixed = λ k i j hk hi hj f. b.fixed k i j hk (rw (count_same a k) hi) hj f ∙ a.fixed k i j hk hi hj f;
        counts = λ i h.
            let l = b.counts i (rw (count_same a properties) h) in
            let m = rw (property_same a i property.maximum h (omega arith) (omega arith)) at l in
            (λ n. m.0 ((a.counts i h).0 n), λ n. (a.counts i h).1 (m.1 n));
        six = λ i h c.
            let l = b.six i (rw (count_same a groups) h) (group_same a i group.code h (omega arith) ∙ c) in
            let m = rw (at_same a groups i (omega arith) h) at l in
            (λ n. m.0 ((a.six i h c).0 n), λ n. (a.six i h c).1 (m.1 n));
      }

-- what agrees with a sheet whose demands are all met, whatever the edition
module _ {ed : ℕ} {R : List ℕ → List ℕ → Type 0} {s s' : List ℕ} (g : GoodIn ed s) (a : AgreeBy R s s') where
  fewer : (k i : ℕ) → i < count s' k → i < count s k
  fewer k i h = omega (arith, count_same a k)

  region_met :
      (m : Memory) (i : ℕ) → kind_of m < kinds → i < count s (kind_of m) →
      Met (region_demands (floor s (kind_of m) i) (region_at s m i)) → Met (region_demands (floor s' (kind_of m) i) (region_at s' m i))
  region_met m i hk h met =
      rw (floor_same a (kind_of m) i hk h, region_same a m i region.address h (omega arith), region_same a m i region.length h (omega arith))
      (rw (region_same a m i region.levels h (omega arith), region_same a m i region.zero h (omega arith)) met)

  entries : (i k : ℕ) → k < kinds → i < count s k → Met (entry_demands s' k i)
  unfolding entry_demands
  entries i =
      each_kind (λ (k : ℕ). i < count s k → Met (entry_demands s' k i))
      (λ h. region_met Device i (omega arith) h (g.entries regions i (omega arith) h))
      (λ h.
      let m = g.entries properties i (omega arith) h in
      let c : property.count of entry s properties i ≤ property.maximum of entry s properties i = omega (arith, m) in
      let p : (f : Field) → f.at + f.width ≤ property.size → ((j : ℕ) → j < f.width → Fixed properties (f.at + j)) → f of entry s' properties i ≡ f of entry s properties i =
      λ f. property_same a i f h
      in
      rw (floor_same a properties i (omega arith) h, p property.id (omega arith) (omega arith), p property.object_id (omega arith) (omega arith))
      (rw (p property.typ (omega arith) (omega arith), p property.element (omega arith) (omega arith), p property.maximum (omega arith) (omega arith))
      (rw (p property.levels (omega arith) (omega arith), p property.zero (omega arith) (omega arith)) (omega (arith, m, (a.counts i h).0 c)))))
      (λ h.
      rw (floor_same a groups i (omega arith) h, group_same a i group.address h (omega arith), group_same a i group.code h (omega arith))
      (rw (group_same a i group.flags h (omega arith), group_same a i group.zeros h (omega arith)) (g.entries groups i (omega arith) h)))
      (λ h. region_met User i (omega arith) h (g.entries users i (omega arith) h))

  six : (i k : ℕ) → k < kinds → i < count s k → six_bits s' k (entry s' k i) ≤ 63
  six i =
      each_kind (λ (k : ℕ). i < count s k → six_bits s' k (entry s' k i) ≤ 63)
      (λ h. unfold six_bits in omega arith)
      (λ h. unfold six_bits in omega arith)
      (λ h. six_from s' i (λ c.
      let d : group.code of entry s groups i ≡ 0 = sym (group_same a i group.code h (omega arith)) ∙ c in
      rw (at_same a groups i (omega arith) h) ((a.six i h d).0 (six_to s i (unfold body_demands in (g.bodies groups i (omega arith) h).1.0) d))))
      (λ h. unfold six_bits in omega arith)

  bodies : (k i : ℕ) → k < kinds → i < count s k → Met (body_demands s' k i)
  unfolding body_demands
  bodies k i hk hi =
      (offset_same a i k hk hi ∙ (g.bodies k i hk hi).0 ∙ sym (reached_same a k i hk hi), (six i k hk hi, tt))

  -- meets those of its own edition, if byte 15 and rules suit that
  pub kept_in :
      (ed' : ℕ) → 1 ≤ ed' → head.edition of s' ≡ ed' → head.spare s' ≡ 0 → head.rules of s' ≤ head.latest s' → GoodIn ed' s'
  kept_in ed' lo own spare rules =
      record {
        framed =
            omega
            (arith, own, lo, a.long, g.framed, front_same a head.stated (omega arith) (omega arith), count_same a 0, count_same a 1, count_same a 2, count_same a 3);
        own = own;
        zeros = omega (arith, spare, rules, a.zero31, a.flags.0 g.zeros.0, g.zeros);
        entries = λ k i hk h. entries i k hk (fewer k i h);
        bodies = λ k i hk h. bodies k i hk (fewer k i h);
        last = (start_same a kinds (omega arith) ∙ g.last.0 ∙ sym a.long, tt);
      }

-- what agrees in edition, byte 15 and rules too meets the same
pub kept : {ed : ℕ} {s s' : List ℕ} → GoodIn ed s → Agree s s' → GoodIn ed s'
kept {ed} {s} {s'} g a =
    kept_in g a ed (omega (arith, g.framed, g.own)) (a.by.edition ∙ g.own)
    (rw (a.by.edition, a.by.byte15) (omega (arith, g.zeros))) (rw (a.by.edition, a.by.rules) (omega (arith, g.zeros)))

-- OF TWO THAT AGREE BOTH ARE ACCEPTED OR NEITHER IS
pub both_or_neither :
    {s s' : List ℕ} → Agree s s' → (Accepted s → Accepted s') × (Accepted s' → Accepted s)
both_or_neither {s} {s'} a = (λ e. accepted (kept (good s e) a), λ e. accepted (kept (good s' e) (agree_sym a)))
