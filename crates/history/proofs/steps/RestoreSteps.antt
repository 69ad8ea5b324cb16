-- A restore: what it leaves, and that it is carried out exactly if it is permitted.
use Rattle.octets.proofs.Kit.{ℕ, zero, suc, ◌+◌, ◌*◌, ◌-◌, ◌/◌, ◌%◌, ◌<◌, ◌≤◌, ◌≡◌, refl, sym, ap, subst, ◌∙◌, true, List, ◌∷◌, length, get_or, arith, eq-eqb, eqb-true}
use Rattle.octets.{specs.Bytes.num_at, proofs.{Numbers.num_same, Truths.never}}
use Rattle.sheet.specs.{Kind.{kinds, regions, properties, groups, users}, Entries.{count, size, base, place, contents, start_of, body_at, InBody}, Agree.{Agree, Fixed}}
use Rattle.sheet.{specs.{Places.{Position, in_head, in_entry, in_body}, Rules.Accepted}, proofs.{rules.Good.{Good, no_rule}, promises.{Agrees.agree_trans, Positions.position}}}
use Rattle.sheet.proofs.{alike.Sames.{count_same, place_same, contents_same, start_same}, places.BodyPlaces.{end_is, start_up, from_start, to_next}}
use Rattle.sheet.specs.Head as head
use Rattle.sheet.specs.Property as property
use Rattle.judge.specs.declared.Session.{Session}
use Rattle.device.specs.{Octets.Octets, Sessions.session_of, Events.State}
use Rattle.versions.specs.{Settings.{front, entries_long, in_version, restored, SameEntries, LowCounts, body_in_version}, Store.version_in}
use Rattle.versions.specs.{Due.{Known, AtZero, RestoreDue, sheet_refused, sheet_old, store_refused, unknown_number, not_open, differs, too_high, is_restored}, Rules.{is_store, store_rule}}
use Rattle.versions.proofs.promises.Agreeing.{entries_to, entries_from, low_to, low_from, version_octets, restored_octets}
use Rattle.versions.proofs.promises.Restores as re
use Rattle.events.specs.Events.{Event, restore}
use Rattle.history.specs.{Location.{Location, memory, body, counter, key, Place, of_memory, of_body, of_counter, of_key}, Span.owner, Wish.{change, restore_all}, Permit.spans}
use Rattle.history.specs.{History.{First, opened, level, content, permitted}, Others.{programming, individual, group_byte}, Keeps.{Begins, CarriedOut}}
use Rattle.history.proofs.{spans.Bools.must_fail, steps.Invariant.{Inv, fine, now_accepted, means_as}, stored.Means.Means}
use Rattle.history.proofs.{places.Standing.{body_in, location_once, place_within, past_contents}, stored.RestoreRun.{counter_laid, body_laid, memory_laid, key_laid}}
use Rattle.history.proofs.{steps.Restores.{restore_needs, needs_restore}, spans.Spans.{laid, laid_is}}
use Rattle.history.proofs.steps.Requests as request

-- locations of two sorts are not the same
apart : {x y : Location} → (get_or (owner x) 0 0 ≡ get_or (owner y) 0 0 → ⊥) → x ≡ y → ⊥
apart n e = n (ap (λ (z : Location). get_or (owner z) 0 0) e)

module _ (f : First) (b : Begins f) (h : List Event) (x : State) (inv : Inv f h x) (c n : ℕ) (st : List ℕ) (octets : Octets st) where
  abbrev E : Event
  E = restore c n st

  abbrev F : List ℕ
  F = f.sheet

  abbrev S : List ℕ
  S = x.sheet

  abbrev D : List ℕ
  D = version_in st n

  agree : Agree F S
  agree = inv.means.agree

  g : Good F
  g = fine inv b

  ok : Accepted S
  ok = now_accepted inv b

  -- THE SHEET AFTER ONE THAT IS CARRIED OUT
  module _ (same : SameEntries S D) (low : LowCounts S D) where
    -- the bytes that stay: of the head, of entries but for the counts, of bodies before and behind those of the properties
    head_left : (p : ℕ) → p < head.size → get_or (restored S D) p 0 ≡ get_or S p 0
    unfolding restored
    head_left p l = re.before ok same p (omega arith)

    fixed_left : (k i j : ℕ) → k < kinds → i < count F k → j < size k → Fixed k j → get_or (restored S D) (place F k i + j) 0 ≡ get_or S (place F k i + j) 0
    unfolding restored
    fixed_left k i j hk hi hj e =
        subst (λ (q : ℕ). get_or (re.u ok same) (q + j) 0 ≡ get_or S (q + j) 0) (place_same agree k i)
        (re.fixed ok same i j k hk (omega (arith, count_same agree k)) hj e)

    before_left : (p : ℕ) → contents F ≤ p → p < start_of F properties → get_or (restored S D) p 0 ≡ get_or S p 0
    unfolding restored
    before_left p l m = re.between ok same p (omega (arith, contents_same agree)) (omega (arith, start_same agree properties (omega arith)))

    behind_left : (p : ℕ) → start_of F groups ≤ p → get_or (restored S D) p 0 ≡ get_or S p 0
    unfolding restored
    behind_left p l = re.behind ok same p (omega (arith, start_same agree groups (omega arith)))

    -- A BYTE OF NO PROPERTY STAYS
    module _ (p : ℕ) (no_body_lem : (o d j : ℕ) → Place F (body o d j) p → ⊥) (no-counter : (o d j : ℕ) → Place F (counter o d j) p → ⊥) where
      abbrev Left : Type 0
      Left = get_or (restored S D) p 0 ≡ get_or S p 0

      of_entry : (k i j : ℕ) → k < kinds → i < count F k → j < size k → p ≡ place F k i + j → Left
      of_entry k i j hk hi hj e =
          subst (λ (q : ℕ). get_or (restored S D) q 0 ≡ get_or S q 0) (sym e)
          (fixed_left k i j hk hi hj
          (λ q l m.
          let is : i < count F properties = subst (λ (k : ℕ). i < count F k) q hi in
          let at : p ≡ place F properties i + j = e ∙ ap (λ (k : ℕ). place F k i + j) q in
          no-counter _ _ (j - (property.count).at)
          (of_counter {j = j - (property.count).at} {p = p} i (record { there = is; same_object = refl; same_id = refl }) (omega arith) (omega arith))))

      of_body_lem : (k i : ℕ) → InBody F k i p → Left
      of_body_lem zero i q =
          before_left p (past_contents g q) (omega (arith, q.to, to_next g regions i (omega arith) q.below))
      of_body_lem (suc zero) i q =
          let j : ℕ = p - body_at F properties i in
          absurd
          (no_body_lem _ _ j
          (of_body {j = j} {p = p} i (record { there = q.below; same_object = refl; same_id = refl }) (omega (arith, q.from, q.to, end_is F properties i)) (omega (arith, q.from))))
      of_body_lem (suc (suc zero)) i q = behind_left p (omega (arith, q.from, from_start g groups i (omega arith) q.below))
      of_body_lem (suc (suc (suc zero))) i q =
          behind_left p (omega (arith, q.from, from_start g users i (omega arith) q.below, start_up g groups (omega arith)))
      of_body_lem (suc (suc (suc (suc k)))) i q = absurd (omega (arith, q.kind))

      spared : p < length F → Left
      spared l = from (position b.accepted p l)
        where
          from : Position F p → Left
          from (in_head l) = head_left p l
          from (in_entry k i j hk hi hj e) = of_entry k i j hk hi hj e
          from (in_body k i q) = of_body_lem k i q

    -- A BYTE OF A COUNT, AND OF A BODY, IS THE VERSION'S
    counter_new :
        (i j p : ℕ) → i < count F properties → j < (property.count).width → p ≡ place F properties i + (property.count).at + j →
        get_or (restored S D) p 0 ≡ get_or D (in_version i ((property.count).at + j)) 0
    unfolding restored
    counter_new i j p hi hj e =
        let k : ℕ = property.size * i + ((property.count).at + j) in
        let m = count_same agree properties in
        let q : p ≡ base S properties + (property.size * i + ((property.count).at + j)) = omega (arith, place_same agree properties i) in
        let r : front + (property.size * i + ((property.count).at + j)) ≡ in_version i ((property.count).at + j) = omega arith in
        ap (λ (p : ℕ). get_or (re.u ok same) p 0) q
        ∙ re.inside ok same (property.size * i + ((property.count).at + j)) (omega (arith, m))
        ∙ ap (λ (p : ℕ). get_or D p 0) r

    body_new :
        (i j p : ℕ) → InBody F properties i p → p ≡ body_at F properties i + j → get_or (restored S D) p 0 ≡ get_or D (body_in_version F i + j) 0
    unfolding restored
    body_new i j p q e =
        let a = start_same agree properties (omega arith) in
        let z = start_same agree groups (omega arith) in
        let m = count_same agree properties in
        let l = from_start g properties i (omega arith) q.below in
        let u = to_next g properties i (omega arith) q.below in
        let v : p ≡ start_of S properties + (p - start_of S properties) = omega arith in
        let w : front + entries_long S + (p - start_of S properties) ≡ body_in_version F i + j = omega arith in
        ap (λ (p : ℕ). get_or (re.u ok same) p 0) v
        ∙ re.in_bodies ok same (p - start_of S properties) (omega (arith, q.from, q.to))
        ∙ ap (λ (p : ℕ). get_or D p 0) w

    abbrev Laid : Location → ℕ
    Laid = laid (spans F (content f h) D (change restore_all)) (content f h)

    holds : (y : Location) (p : ℕ) → Place F y p → get_or (restored S D) p 0 ≡ Laid y
    holds (memory m a) p (of_memory q) =
        spared p (λ o d j z. apart (λ e. omega arith) (location_once g (of_memory q) z)) (λ o d j z. apart (λ e. omega arith) (location_once g (of_memory q) z)) (place_within g (of_memory q))
        ∙ inv.means.holds (memory m a) p (of_memory q)
        ∙ sym (memory_laid g D (content f h) m a)
    holds (body o d j) p (of_body i q l e) = body_new i j p (body_in q l e) e ∙ sym (body_laid g D (content f h) q j l)
    holds (counter o d j) p (of_counter i q l e) = counter_new i j p q.there l e ∙ sym (counter_laid g D (content f h) q j l)
    holds (key l j) p (of_key q k e) =
        let z : Place F (key l j) p = of_key q k e in
        spared p (λ o d i y. apart (λ e. omega arith) (location_once g z y)) (λ o d i y. apart (λ e. omega arith) (location_once g z y)) (place_within g z)
        ∙ inv.means.holds (key l j) p z
        ∙ sym (key_laid g D (content f h) l j)

    early : (q w : ℕ) → q + w ≤ head.size → num_at (restored S D) q w ≡ num_at S q w
    early q w l = num_same (restored S D) S q q w (λ i k. head_left (q + i) (omega arith))

    restored_means : Means F Laid (individual f h) (programming f h) (group_byte f h) (restored S D)
    restored_means =
        record {
          agree = agree_trans agree (re.restored_agrees ok same low);
          octets = restored_octets ok same inv.means.octets (version_octets st octets n);
          holds = holds;
          still = λ p q. spared p (λ o d j z. q.location _ z) (λ o d j z. q.location _ z) q.inside ∙ inv.means.still p q;
          address = early (head.address).at (head.address).width (omega arith) ∙ inv.means.address;
          programming = ap (λ (n : ℕ). n % 2) (early (head.flags).at (head.flags).width (omega arith)) ∙ inv.means.programming;
          verify = ap (λ (n : ℕ). n / 2 % 2) (early (head.flags).at (head.flags).width (omega arith)) ∙ inv.means.verify;
          group = λ i j q. behind_left _ (omega (arith, from_start g groups i (omega arith) q.below)) ∙ inv.means.group i j q;
        }

  -- a good store, as a test and as the rules say
  sound : is_store st ≡ true → store_rule st ≡ 0
  unfolding is_store
  sound e = eqb-true (store_rule st) 0 e

  stored : store_rule st ≡ 0 → is_store st ≡ true
  unfolding is_store
  stored e = eq-eqb (store_rule st) 0 e

  -- WHAT A PERMITTED ONE FINDS, and one that finds it is permitted
  record Fits : Type 0 where
    found : Known S st n
    entitled : AtZero (session_of x.sessions c)
    entries : SameEntries S D
    counts : LowCounts S D

  fits : permitted f h E ≡ true → Fits
  fits p =
      let k = restore_needs f h c n st p in
      record {
        found = record { ready = record { accepted = ok; good = sound k.store }; there = k.kept };
        entitled = record { opened = ap (λ (q : Session). q.opened) (inv.session c) ∙ k.live; level = ap (λ (q : Session). q.level) (inv.session c) ∙ k.level };
        entries = entries_to agree D k.entries;
        counts = low_to agree D k.counts;
      }

  fitting : Known S st n → AtZero (session_of x.sessions c) → SameEntries S D → LowCounts S D → permitted f h E ≡ true
  fitting found entitled entries counts =
      needs_restore f h c n st
      (record {
        store = stored found.ready.good;
        kept = found.there;
        live = sym (ap (λ (q : Session). q.opened) (inv.session c)) ∙ entitled.opened;
        level = sym (ap (λ (q : Session). q.level) (inv.session c)) ∙ entitled.level;
        entries = entries_from agree D entries;
        counts = low_from agree D counts;
      })

  -- THE STATE
  refused : (permitted f h E ≡ true → ⊥) → Inv f (E ∷ h) (record { sessions = x.sessions; sheet = S })
  unfolding opened level individual programming group_byte
  refused no_right =
      record {
        session = inv.session;
        means = means_as inv.means (λ y. sym (request.contents_same f h E (must_fail _ no_right) y)) refl refl (λ i j l. refl);
      }

  carried : permitted f h E ≡ true → SameEntries S D → LowCounts S D → Inv f (E ∷ h) (record { sessions = x.sessions; sheet = restored S D })
  unfolding opened level individual programming group_byte
  carried p same low =
      record {
        session = inv.session;
        means =
            means_as (restored_means same low)
            (λ y. laid_is (spans F (content f h) D (change restore_all)) (content f h) y ∙ sym (request.contents_new f h E p y)) refl refl (λ i j l. refl);
      }

  pub restore_inv : {k : ℕ} {s : List ℕ} → RestoreDue (session_of x.sessions c) S st n k s → Inv f (E ∷ h) (record { sessions = x.sessions; sheet = s })
  restore_inv (sheet_refused a) = refused (λ p. a (no_rule S ok))
  restore_inv (sheet_old a) = refused (λ p. omega (arith, a, ok))
  restore_inv (store_refused a q) = refused (λ p. q (fits p).found.ready.good)
  restore_inv (unknown_number a q) = refused (λ p. never (sym q ∙ (fits p).found.there))
  restore_inv (not_open a q) = refused (λ p. q (fits p).entitled)
  restore_inv (differs a q u) = refused (λ p. u (fits p).entries)
  restore_inv (too_high a q u v) = refused (λ p. v (fits p).counts)
  restore_inv (is_restored a q u v) = carried (fitting a q u v) u v

  -- CARRIED OUT EXACTLY IF PERMITTED
  pub restore_only : {k : ℕ} {s : List ℕ} → RestoreDue (session_of x.sessions c) S st n k s → CarriedOut E k → permitted f h E ≡ true
  restore_only (sheet_refused a) z = absurd (omega (arith, z.outcome))
  restore_only (sheet_old a) z = absurd (omega (arith, z.outcome))
  restore_only (store_refused a q) z = absurd (omega (arith, z.outcome))
  restore_only (unknown_number a q) z = absurd (omega (arith, z.outcome))
  restore_only (not_open a q) z = absurd (omega (arith, z.outcome))
  restore_only (differs a q u) z = absurd (omega (arith, z.outcome))
  restore_only (too_high a q u v) z = absurd (omega (arith, z.outcome))
  restore_only (is_restored a q u v) z = fitting a q u v

  pub restore_all_lem : {k : ℕ} {s : List ℕ} → RestoreDue (session_of x.sessions c) S st n k s → permitted f h E ≡ true → CarriedOut E k
  restore_all_lem (sheet_refused a) p = absurd (a (no_rule S ok))
  restore_all_lem (sheet_old a) p = absurd (omega (arith, a, ok))
  restore_all_lem (store_refused a q) p = absurd (q (fits p).found.ready.good)
  restore_all_lem (unknown_number a q) p = never (sym q ∙ (fits p).found.there)
  restore_all_lem (not_open a q) p = absurd (q (fits p).entitled)
  restore_all_lem (differs a q u) p = absurd (u (fits p).entries)
  restore_all_lem (too_high a q u v) p = absurd (v (fits p).counts)
  restore_all_lem (is_restored a q u v) p = record { writing = tt; outcome = omega arith }
