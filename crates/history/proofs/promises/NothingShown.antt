-- ONE REQUEST SHOWS NO SECRET BYTE to a tool whose level is q or above.
use Rattle.octets.proofs.Kit.{ℕ, ◌<◌, ◌≤◌, ◌≡◌, refl, subst, ◌↔◌, inl, inr, true, List, dec_lt, ℕ_discrete, arith, eq-eqb, ne_eqb, lt-ltb, le-ltb}
use Rattle.sheet.{specs.{Kind.{properties, groups, kind_of}, Entries.{contents, InBody}, Agree.Agree, declared.Memory.{Memory, TheVariants.{Device, User}}}, proofs.rules.Good.{Good, good}}
use Rattle.sheet.proofs.{places.BodyPlaces.{after_contents, disjoint}, promises.Agrees.agree_sym, alike.Sames.{count_same, at_same, end_same, region_same, property_same}}
use Rattle.sheet.specs.Region as region
use Rattle.sheet.specs.Property as property
use Rattle.pdu.specs.Read.{read_pdu}
use Rattle.judge.specs.{Session.{level_of, level_in, connected}, Judge.{judge_of, data_in}, declared.{Session.Session, Decision.Decision}}
use Rattle.device.{specs.{Asked.Asked, Bodies.SameButBodies, Step.{step_by, step_of}}, proofs.{apart.CarryReads.{read_level, Unread, spares}, promises.NoBody.{agrees, no_body_lem}}}
use Rattle.device.proofs.{calls.Safe.safe, apart.StepBut.{AlikeBut, step_but}}
use Rattle.history.specs.Secret.{region_read_level, property_read_level, Secret, of_memory, of_property, Hide}

-- a secret byte lies in a body
pub in_body_lem : {s : List ℕ} {q p : ℕ} → Secret s q p → (k : ℕ) × (i : ℕ) × InBody s k i p
in_body_lem (of_memory m i b l) = (kind_of m, i, b)
in_body_lem (of_property i b l) = (properties, i, b)

module _ {s : List ℕ} (ok : Good s) (q : ℕ) where
  -- so after the contents
  pub secret_after : (p : ℕ) → Secret s q p → contents s ≤ p
  secret_after p x =
      let b = in_body_lem x in
      omega (arith, b.2.from, after_contents ok b.0 b.1 b.2.kind b.2.below)

  -- the body of entry i of kind k has a secret byte of a region or a property only if the entry is that, so it is no group object's, and its read level is below q
  module _ (k i p : ℕ) (b : InBody s k i p) where
    memory_below : (m : Memory) (j : ℕ) → InBody s (kind_of m) j p → region_read_level s m j < q → (k ≡ groups → ⊥) × (read_level s k i < q)
    memory_below Device j c l = let e = disjoint ok k i _ j p b c in (λ g. omega (arith, e.0), rw (e.0, e.1) l)
    memory_below User j c l = let e = disjoint ok k i _ j p b c in (λ g. omega (arith, e.0), rw (e.0, e.1) l)

    property_below : (j : ℕ) → InBody s properties j p → property_read_level s j < q → (k ≡ groups → ⊥) × (read_level s k i < q)
    property_below j c l = let e = disjoint ok k i _ j p b c in (λ g. omega (arith, e.0), rw (e.0, e.1) l)

    below : Secret s q p → (k ≡ groups → ⊥) × (read_level s k i < q)
    below (of_memory m j c l) = memory_below m j c l
    below (of_property j c l) = property_below j c l

  -- WHAT A LEVEL OF q OR ABOVE MAY READ IS NO SECRET
  unread : (level : ℕ) → q ≤ level → Unread s level (Secret s q)
  unread level weak k i p b (inl g) x = (below k i p b x).0 g
  unread level weak k i p b (inr l) x = omega (arith, (below k i p b x).1)

-- A SHEET THAT AGREES HAS THE SAME SECRETS
module _ {s t : List ℕ} (a : Agree s t) (q : ℕ) where
  body_same : (k i p : ℕ) → InBody s k i p → InBody t k i p
  body_same k i p b =
      record {
        kind = b.kind;
        below = rw (count_same a k) b.below;
        from = rw (at_same a k i b.kind b.below) b.from;
        to = rw (end_same a k i b.kind b.below) b.to;
      }

  pub secret_same : (p : ℕ) → Secret s q p → Secret t q p
  secret_same p (of_memory m i b l) =
      of_memory m i (body_same (kind_of m) i p b) (rw (region_same a m i region.levels b.below (omega arith)) l)
  secret_same p (of_property i b l) =
      of_property i (body_same properties i p b) (rw (property_same a i property.levels b.below (omega arith) (omega arith)) l)

-- the level that a request acts at, if it is q or above on its connection
acts_weak : (q mode : ℕ) (u : Session) → q ≤ 3 → (mode ≡ connected → q ≤ u.level) → q ≤ level_in u mode
unfolding level_in level_of
acts_weak q mode u h w = go (ℕ_discrete mode 3) (dec_lt 3 u.level)
  where
    go : Dec (mode ≡ 3) → Dec (3 < u.level) → q ≤ level_in u mode
    go (no m) d = rw (ne_eqb mode 3 m) h
    go (yes m) (yes l) = rw (eq-eqb mode 3 m, lt-ltb 3 u.level l) h
    go (yes m) (no l) = rw (eq-eqb mode 3 m, le-ltb 3 u.level (omega arith)) (w m)

module _ {q : ℕ} {s s' : List ℕ} (b : Hide q s s') where
  -- they differ in bodies of memory and properties at most
  pub hidden_bodies : SameButBodies s s'
  hidden_bodies =
      let ok = good s b.accepted in
      record {
        long = b.others.long;
        before = λ p h. b.others.others p (λ x. omega (arith, secret_after ok q p x));
        values = λ i p h. b.others.others p (λ x. (below ok q groups i p h x).0 refl);
      }

  pub hidden_agree : Agree s s'
  hidden_agree = agrees hidden_bodies

  -- THE SAME BYTES ARE SECRET IN BOTH
  pub hidden_both : (p : ℕ) → Secret s q p ↔ Secret s' q p
  hidden_both p = (secret_same hidden_agree q p, secret_same (agree_sym hidden_agree) q p)

  -- NOTHING IS SHOWN: the same outcome, answer and session, and every byte left the same but secret ones, if a connected request has a session of level q or above
  pub nothing_shown :
      q ≤ 3 → (room : ℕ) (u : Session) (mode group : ℕ) (a : List ℕ) → (mode ≡ connected → u.opened ≡ true → q ≤ u.level) →
      AlikeBut (Secret s q) (step_of room s u mode group a) (step_of room s' u mode group a)
  unfolding step_of
  nothing_shown few room u mode group a weak =
      let x : Asked = record { room = room; sheet = s; session = u; mode = mode; group = group; apdu = a } in
      let d : List ℕ = data_in (read_pdu a) a in
      let k : Decision = judge_of room s u mode group a in
      subst (λ (z : Decision). AlikeBut (Secret s q) (step_by s u d k) (step_by s' u d z)) (no_body_lem room s s' u mode group a hidden_bodies)
      (step_but b.others u d k (safe room s u mode group a)
      (spares x (Secret s q) (λ p r ok. unread ok q (level_in u mode) (acts_weak q mode u few (λ m. weak m (r.ready.session m))))))
