-- BY WHAT RIGHT A FRAME CHANGED A BYTE: whoever's frame changes a protected one has a level that suffices, and was given it; so who has offered no key changes none. Assumes nothing.
use Rattle.octets.proofs.Kit.{ℕ, zero, suc, ◌<◌, ◌≤◌, ◌≡◌, refl, sym, ap, subst, ◌∙◌, inl, inr, Bool, true, false, cond, List, [], ◌∷◌, drop, get_or, ltb, eqb, ℕ_discrete, arith, eqb-true}
use Rattle.octets.proofs.Kit.{eq-eqb}
use Rattle.octets.proofs.{Truths.never, Tests.both}
use Rattle.versions.specs.{Rules.is_store, Store.{is_kept, version_in}}
use Rattle.events.specs.Events.{Event, connect, disconnect, button, request, restore}
use Rattle.history.specs.{Location.{Location, Place}, Wish.{change, restore_all}, Permit.{allowed, level_for}, History.{First, opened, level, permitted}, Keeps.Begins}
use Rattle.history.{specs.{Keyless.{Closed, write_level}, Isolation.is_of}, proofs.spans.Bools.all_at}
use Rattle.account.specs.Account.{byte_at, acts_at}
use Rattle.link.specs.{Partners.address_at, Net.{Net, first_net, source_of, Item, frame, press, time_out, give_back, events_by, net_after, events_after, AllBytes}, Whose.{Partner}}
use Rattle.link.specs.Granted.{level_at, ByRight, NoKeyFrom}
use Rattle.link.proofs.{promises.{Kept.as_events, Whose.whose}, Items.{One, one_item, is_connect, whose_other, first}}
use Rattle.link.proofs.promises.Grants.{level_is, opened_is, rightly, state_one, octets_one, none_left, granted}

-- a permitted write that acts at a level below 3 is on a connection that has that level
record Acting (f : First) (g : List Event) (e : Event) : Type 0 where
  on : ℕ
  own : is_of on e ≡ true
  no_connect : is_connect e ≡ false
  same : level f g on ≡ acts_at f g e

below : (mode n : ℕ) → level_for mode n < 3 → (eqb mode 3 ≡ true) × (n ≡ level_for mode n)
unfolding level_for
below mode n h = go (eqb mode 3) (ltb 3 n) h
  where
    go : (t u : Bool) → cond t (cond u 3 n) 3 < 3 → (t ≡ true) × (n ≡ cond t (cond u 3 n) 3)
    go true true k = absurd (omega (arith, k))
    go true false k = (refl, refl)
    go false u k = absurd (omega (arith, k))

acting : (f : First) (g : List Event) (e : Event) → permitted f g e ≡ true → acts_at f g e < 3 → Acting f g e
unfolding permitted is_connect
acting f g (connect c) p l = never p
acting f g (disconnect c) p l = never p
acting f g (button on) p l = never p
acting f g (request mode c group a out) p l =
    let k = below mode (level f g c) l in
    record { on = c; own = both _ _ k.0 (eq-eqb c c refl); no_connect = refl; same = k.1 }
acting f g (restore c n st) p l =
    record { on = c; own = eq-eqb c c refl; no_connect = refl; same = (below 3 (level f g c) l).1 }

-- and the event of an item that wrote, for which level w suffices
record Wrote (f : First) (g : List Event) (w : ℕ) (es : List Event) : Type 0 where
  event : Event
  is : es ≡ event ∷ []
  permits : permitted f g event ≡ true
  acts : Acting f g event
  enough : acts_at f g event ≤ w

-- no key from an address, of what is left of a history
dropped : (x : Net) (a l n : ℕ) (h : List Item) → NoKeyFrom x a l h → NoKeyFrom x a l (drop n h)
dropped x a l zero h k = k
dropped x a l (suc n) [] k = tt
dropped x a l (suc n) (i ∷ h) k = dropped x a l n h k.1

-- the button and a disconnect are no writes; a restore is permitted while its connection is open
unpermitted : (f : First) (g : List Event) (e d : Event) → e ∷ [] ≡ d ∷ [] → permitted f g d ≡ false → false ≡ permitted f g e
unfolding first
unpermitted f g e d q n = sym n ∙ ap (λ (es : List Event). permitted f g (first es)) (sym q)

restored_live :
    (f : First) (g : List Event) (c n : ℕ) (st : List ℕ) (e : Event) → e ∷ [] ≡ restore c n st ∷ [] → permitted f g e ≡ true → (d : ℕ) → is_of d e ≡ true →
    opened f g d ≡ true
unfolding first permitted
restored_live f g c n st e q =
    subst (λ (e : Event). permitted f g e ≡ true → (d : ℕ) → is_of d e ≡ true → opened f g d ≡ true) (sym (ap first q))
    (λ p d t.
    subst (λ (i : ℕ). opened f g i ≡ true) (eqb-true c d t)
    (all_at (is_store st ∷ is_kept st n ∷ opened f g c ∷ allowed f.sheet (level_for 3 (level f g c)) (version_in st n) (change restore_all) ∷ []) p 2))

module _ (x : Net) (begins : Begins (first_net x)) (closed : Closed (first_net x)) where
  abbrev f : First
  f = first_net x

  abbrev Level : List Item → ℕ → ℕ
  Level h c = level_at (net_after x h) c

  -- a partner whose level suffices for w has the right
  has_right : (h : List Item) → AllBytes h → (c a w : ℕ) → Partner (net_after x h).link c a → Level h c ≤ w → w < 3 → ByRight x h a w
  has_right h o c a w u enough small =
      record {
        connection = c;
        partner = u;
        enough = enough;
        granted = granted x begins closed h o c a u (omega (arith, enough, small));
      }

  -- an item after which a protected byte is another is a permitted write at a level that suffices
  module _ (h : List Item) (i : Item) (o : AllBytes (i ∷ h)) (y : Location) (p : ℕ) (place : Place x.sheet y p) (small : write_level x.sheet y < 3)
      (differs : get_or (net_after x (i ∷ h)).sheet p 0 ≡ get_or (net_after x h).sheet p 0 → ⊥) where
    abbrev w : ℕ
    w = write_level x.sheet y

    wrote : Wrote f (events_after x h) w (events_by (net_after x h) i)
    wrote = go (one_item (net_after x h) i)
      where
        go : One (events_by (net_after x h) i) → Wrote f (events_after x h) w (events_by (net_after x h) i)
        go (inl q) = absurd (differs (ap (byte_at p) (none_left x begins h i q)))
        go (inr k) =
            let n = ap (byte_at p) (state_one x begins h i o k.0 k.1) in
            let m = ap (byte_at p) (as_events x h) in
            let r = rightly x begins (events_after x h) k.0 (octets_one x begins h i o k.0 k.1) y p place (λ s. differs (n ∙ s ∙ sym m)) in
            record {
              event = k.0;
              is = k.1;
              permits = r.permits;
              acts = acting f (events_after x h) k.0 r.permits (omega (arith, r.enough, small));
              enough = r.enough;
            }

    -- on the connection that it is of
    on_partner : (a : ℕ) → Partner (net_after x h).link wrote.acts.on a → ByRight x h a w
    on_partner a u =
        let same : Level h wrote.acts.on ≡ acts_at f (events_after x h) wrote.event = level_is x begins h o.1 wrote.acts.on ∙ wrote.acts.same in
        has_right h o.1 wrote.acts.on a w u (omega (arith, same, wrote.enough)) small

  -- the promises, of x
  by_right_at :
      (h : List Item) (b : List ℕ) → AllBytes (frame b ∷ h) → (y : Location) (p : ℕ) → Place x.sheet y p → write_level x.sheet y < 3 →
      (get_or (net_after x (frame b ∷ h)).sheet p 0 ≡ get_or (net_after x h).sheet p 0 → ⊥) →
      ByRight x h (source_of b) (write_level x.sheet y)
  by_right_at h b o y p place small differs =
      let r = wrote h (frame b) o y p place small differs in
      on_partner h (frame b) o y p place small differs (source_of b)
      (whose_other (net_after x h) b r.acts.on r.event (whose (net_after x h) b r.acts.on r.event r.is r.acts.own) r.acts.no_connect)

  by_some_right_at :
      (h : List Item) (i : Item) → AllBytes (i ∷ h) → (y : Location) (p : ℕ) → Place x.sheet y p → write_level x.sheet y < 3 →
      (get_or (net_after x (i ∷ h)).sheet p 0 ≡ get_or (net_after x h).sheet p 0 → ⊥) →
      (a : ℕ) × ByRight x h a (write_level x.sheet y)
  unfolding permitted
  by_some_right_at h (frame b) o y p place small differs = (source_of b, by_right_at h b o y p place small differs)
  by_some_right_at h (press on) o y p place small differs =
      let r = wrote h (press on) o y p place small differs in never (unpermitted f (events_after x h) r.event (button on) (sym r.is) refl ∙ r.permits)
  by_some_right_at h (time_out c) o y p place small differs =
      let r = wrote h (time_out c) o y p place small differs in never (unpermitted f (events_after x h) r.event (disconnect c) (sym r.is) refl ∙ r.permits)
  by_some_right_at h (give_back c n st) o y p place small differs =
      let r = wrote h (give_back c n st) o y p place small differs in (
        address_at (net_after x h).link r.acts.on,
        on_partner h (give_back c n st) o y p place small differs (address_at (net_after x h).link r.acts.on)
            record { «open» = opened_is x begins h o.1 r.acts.on (restored_live f (events_after x h) c n st r.event (sym r.is) r.permits r.acts.on r.acts.own); address = refl },
      )

  without_key_at :
      (l : ℕ) → l < 3 → (h : List Item) (b : List ℕ) → AllBytes (frame b ∷ h) → NoKeyFrom x (source_of b) l h →
      (y : Location) (p : ℕ) → Place x.sheet y p → write_level x.sheet y ≤ l →
      get_or (net_after x (frame b ∷ h)).sheet p 0 ≡ get_or (net_after x h).sheet p 0
  without_key_at l low h b o none y p place w = go (ℕ_discrete _ _)
    where
      refuted : ByRight x h (source_of b) (write_level x.sheet y) → ⊥
      refuted r =
          let k = r.granted in
          (subst (NoKeyFrom x (source_of b) l) k.within (dropped x (source_of b) l k.later h none)).0
          k.offered.source (level_at (net_after x h) r.connection) (omega (arith, r.enough)) k.offered.key

      go : Dec (get_or (net_after x (frame b ∷ h)).sheet p 0 ≡ get_or (net_after x h).sheet p 0) → get_or (net_after x (frame b ∷ h)).sheet p 0 ≡ get_or (net_after x h).sheet p 0
      go (yes e) = e
      go (no n) = absurd (refuted (by_right_at h b o y p place (omega arith) n))

-- WHOEVER'S FRAME CHANGES A PROTECTED BYTE HAS THE RIGHT: it is the partner of a connection whose level suffices, and was given that level
pub by_right :
    (x : Net) → Begins (first_net x) → Closed (first_net x) → (h : List Item) (b : List ℕ) → AllBytes (frame b ∷ h) →
    (y : Location) (p : ℕ) → Place x.sheet y p → write_level x.sheet y < 3 →
    (get_or (net_after x (frame b ∷ h)).sheet p 0 ≡ get_or (net_after x h).sheet p 0 → ⊥) →
    ByRight x h (source_of b) (write_level x.sheet y)
by_right x begins closed h b o y p place small differs = by_right_at x begins closed h b o y p place small differs

-- AND WHATEVER CHANGES ONE, a restore that the host asks for too, is by somebody's right
pub by_some_right :
    (x : Net) → Begins (first_net x) → Closed (first_net x) → (h : List Item) (i : Item) → AllBytes (i ∷ h) →
    (y : Location) (p : ℕ) → Place x.sheet y p → write_level x.sheet y < 3 →
    (get_or (net_after x (i ∷ h)).sheet p 0 ≡ get_or (net_after x h).sheet p 0 → ⊥) →
    (a : ℕ) × ByRight x h a (write_level x.sheet y)
by_some_right x begins closed h i o y p place small differs = by_some_right_at x begins closed h i o y p place small differs

-- WHO HAS OFFERED NO KEY of a level up to l changes no byte whose write level is at most l, whatever others have offered
pub without_key :
    (x : Net) → Begins (first_net x) → Closed (first_net x) → (l : ℕ) → l < 3 → (h : List Item) (b : List ℕ) → AllBytes (frame b ∷ h) →
    NoKeyFrom x (source_of b) l h → (y : Location) (p : ℕ) → Place x.sheet y p → write_level x.sheet y ≤ l →
    get_or (net_after x (frame b ∷ h)).sheet p 0 ≡ get_or (net_after x h).sheet p 0
without_key x begins closed l low h b o none y p place w = without_key_at x begins closed l low h b o none y p place w
