-- WHOSE CONNECTION IS WHOSE: only frames from the partner of a connection act on it; a frame for another device does nothing. Assumes nothing.
use Rattle.octets.proofs.Kit.{ℕ, ◌<◌, ◌≡◌, refl, sym, ap, subst, ◌∙◌, ◌⊎◌, inl, inr, ⊎_elim, Bool, true, false, cond, List, [], ◌∷◌, length, ltb, eqb, arith, eqb-true, eq-eqb, ne_eqb}
use Rattle.octets.proofs.Kit.{lt-leb}
use Rattle.octets.proofs.{Truths.{never, first_true, second_true, must_fail}, Walks.by_test}
use Rattle.cemi.specs.{Layout.{info_length, stated, ◌of◌}, Read.{fields_in, frame_in, refusal_of, got_by, read_frame}, Refusal.read_number, Meaning.meaning_of, declared.{ReadRefusal.ReadRefusal, Meaning.Meaning, NoMeaning.NoMeaning}}
use Rattle.std.specs.Prelude.{Result, Ok, Err}
use Rattle.cemi.specs.declared.Meaning.TheVariants as meaning
use Rattle.device.specs.Sessions.{closed, session_of, known}
use Rattle.events.specs.Events.{Event, connect, button, run_by, run}
use Rattle.history.specs.{Wish.{Wish, change, offer_key, restart, other, nothing, asks}, History.wished, Isolation.is_of}
use Rattle.link.specs.Partners.{nobody, sits, address_at, place_of, free_of, place_for}
use Rattle.link.specs.Hearing.{own_of, for_us, to_itself, on_place, connects, disconnects, meant, from_other, judged, heard_got, heard_of}
use Rattle.link.specs.{Serving.{longest, apdu_of, Deed, leaving, deed_of, serve_of}, Net.{Net, source_of, state_of, heard_in, events_of, address_by, frame, events_by, net_by}}
use Rattle.link.specs.{Whose.{Partner, Whose, partner, newcomer}, declared.{Link.Link, Arrived.{Arrived, TheVariants.{Request, Connect, Disconnect, Nothing}}}}
use Rattle.link.proofs.Sessions.{other_session}

module _ (k : Link) (a : ℕ) where
  -- WHOEVER HAS A PLACE IS THE PARTNER THERE
  pub place_partner : known (place_of k a) ≡ true → Partner k (place_of k a) a
  unfolding place_of
  place_partner =
      by_test (λ (p : ℕ). known p ≡ true → Partner k p a) (sits k.sessions.first k.first a) _ _
      (λ t e. record { «open» = first_true _ _ t; address = eqb-true k.first a (second_true k.sessions.first.opened _ t) })
      (λ n. by_test (λ (p : ℕ). known p ≡ true → Partner k p a) (sits k.sessions.second k.second a) _ _
      (λ t e. record { «open» = first_true _ _ t; address = eqb-true k.second a (second_true k.sessions.second.opened _ t) })
      (λ m e. never e))

  -- a connect gets its own place, or one that is closed
  abbrev Opens : ℕ → Type 0
  Opens c = Partner k c a ⊎ ((session_of k.sessions c).opened ≡ false)

  pub place_opens : known (place_for k a) ≡ true → Opens (place_for k a)
  unfolding place_for free_of
  place_opens =
      by_test (λ (p : ℕ). known p ≡ true → Opens p) (known (place_of k a)) _ _ (λ t e. inl (place_partner t))
      (λ n. by_test (λ (p : ℕ). known p ≡ true → Opens p) k.sessions.first.opened _ _
      (λ t. by_test (λ (p : ℕ). known p ≡ true → Opens p) k.sessions.second.opened _ _ (λ u e. never e) (λ u e. inr u))
      (λ t e. inr t))

  -- whose an act is that a frame from a is
  abbrev Of : Arrived → Type 0
  Of (Request mode c group) = eqb mode 3 ≡ true → Partner k c a
  Of (Connect c) = Opens c
  Of (Disconnect c) = Partner k c a
  Of (Nothing n c) = Unit {0}

  meant_of : (group : ℕ) (m : Result Meaning NoMeaning) → Of (meant k a group m)
  unfolding meant on_place connects disconnects
  meant_of group (Ok (meaning.Data mode)) =
      by_test Of (eqb mode 3) _ _
      (λ t. by_test Of (known (place_of k a)) _ _ (λ u e. place_partner u) (λ u. tt))
      (λ t e. never (sym t ∙ e))
  meant_of group (Ok meaning.Connect) = by_test Of (known (place_for k a)) _ _ (λ u. place_opens u) (λ u. tt)
  meant_of group (Ok meaning.Disconnect) = by_test Of (known (place_of k a)) _ _ (λ u. place_partner u) (λ u. tt)
  meant_of group (Err e) = tt

module _ (k : Link) (own : ℕ) (b : List ℕ) where
  abbrev bits : Bool
  bits = for_us (fields_in b).control2 (fields_in b).destination own

  -- the refusal of a frame's bytes, if there is one
  abbrev pub refusal : Result (Unit {0}) ReadRefusal
  refusal = refusal_of (length b) (info_length b) (fields_in b) (stated of b)

  -- whatever holds of what doesn't read, of 60, of 65, and of all that a frame for this device can mean holds of what is heard
  module _ (P : Arrived → Type 0) (unread : (e : ReadRefusal) → P (Nothing (read_number e) nobody)) (foreign : P (Nothing 60 nobody)) (mine : P (Nothing 65 nobody))
      (some : (group : ℕ) → P (meant k (source_of b) group (meaning_of (frame_in b)))) where
    judged_by : P (judged k own (frame_in b))
    unfolding judged from_other
    judged_by = by_test P bits _ _ (λ t. by_test P (to_itself (fields_in b).control2 (source_of b) own) _ _ (λ u. mine) (λ u. some (fields_in b).destination)) (λ t. foreign)

    pub heard_by : P (heard_of k own b)
    unfolding heard_of heard_got read_frame
    heard_by = go refusal
      where
        go : (r : Result (Unit {0}) ReadRefusal) → P (heard_got k own (got_by r (frame_in b)))
        go (Ok u) = judged_by
        go (Err e) = unread e

  owned : Of k (source_of b) (heard_of k own b)
  owned = heard_by (Of k (source_of b)) (λ e. tt) tt tt (λ group. meant_of k (source_of b) group (meaning_of (frame_in b)))

  -- for another device
  other_device :
      (fields_in b).control2 < 128 → ((fields_in b).destination ≡ own → ⊥) → (n : ℕ) × (heard_of k own b ≡ Nothing n nobody)
  unfolding heard_of heard_got read_frame judged for_us
  other_device i n = go refusal
    where
      go : (r : Result (Unit {0}) ReadRefusal) → (n : ℕ) × (heard_got k own (got_by r (frame_in b)) ≡ Nothing n nobody)
      go (Ok u) = (60, simp (lt-leb 128 (fields_in b).control2 i, ne_eqb (fields_in b).destination own n))
      go (Err e) = (read_number e, refl)

  -- from this device to one alone
  abbrev Silent : Arrived → Type 0
  Silent r = (n : ℕ) × (r ≡ Nothing n nobody)

  its_own : (fields_in b).control2 < 128 → source_of b ≡ own → to_itself (fields_in b).control2 (source_of b) own ≡ true
  unfolding to_itself
  its_own i e = simp (lt-leb 128 (fields_in b).control2 i, eq-eqb (source_of b) own e)

  own_judged : (fields_in b).control2 < 128 → source_of b ≡ own → Silent (judged k own (frame_in b))
  unfolding judged from_other
  own_judged i e =
      by_test Silent bits _ _
      (λ t. by_test Silent (to_itself (fields_in b).control2 (source_of b) own) _ _ (λ u. (65, refl)) (λ u. never (sym u ∙ its_own i e)))
      (λ t. (60, refl))

  own_device : (fields_in b).control2 < 128 → source_of b ≡ own → Silent (heard_of k own b)
  unfolding heard_of heard_got read_frame
  own_device i e = go refusal
    where
      go : (r : Result (Unit {0}) ReadRefusal) → Silent (heard_got k own (got_by r (frame_in b)))
      go (Ok u) = own_judged i e
      go (Err y) = (read_number y, refl)

-- what asks for nothing asks for no restart
is_restarting : Wish → Bool
is_restarting (change c) = false
is_restarting (offer_key n) = false
is_restarting restart = true
is_restarting (other o) = false
is_restarting nothing = false

no_restart : nothing ≡ restart → ⊥
unfolding is_restarting
no_restart e = never (ap is_restarting e)

-- the first of some events
first : List Event → Event
first [] = button false
first (e ∷ es) = e

module _ (x : Net) (b : List ℕ) (c : ℕ) where
  by_act :
      (r : Arrived) → Of x.link (source_of b) r → (a : List ℕ) (e : Event) → events_of r a ≡ e ∷ [] → is_of c e ≡ true → Whose x b c e
  unfolding first
  by_act (Request mode d group) o a e q =
      subst (λ (e : Event). is_of c e ≡ true → Whose x b c e) (ap first q)
      (λ t. partner (subst (λ (i : ℕ). Partner x.link i (source_of b)) (eqb-true d c (second_true (eqb mode 3) _ t)) (o (first_true (eqb mode 3) _ t))))
  by_act (Connect d) o a e q =
      subst (λ (e : Event). is_of c e ≡ true → Whose x b c e) (ap first q)
      (λ t. subst (λ (i : ℕ). Whose x b i (connect d)) (eqb-true d c t) (⊎_elim (λ p. partner p) (λ z. newcomer z) o))
  by_act (Disconnect d) o a e q =
      subst (λ (e : Event). is_of c e ≡ true → Whose x b c e) (ap first q)
      (λ t. partner (subst (λ (i : ℕ). Partner x.link i (source_of b)) (eqb-true d c t) o))
  by_act (Nothing n d) o a e q = absurd (let z : ◌≡◌ {A = ℕ} 0 1 = ap length q in omega arith)

  -- WHOSE: an event of connection c that a frame is comes from the partner of c, or is the connect of a newcomer to c, which is closed
  pub whose : (e : Event) → events_by x (frame b) ≡ e ∷ [] → is_of c e ≡ true → Whose x b c e
  unfolding heard_in
  whose e q = by_act (heard_in x b) (owned x.link (own_of x.sheet) b) (apdu_of b) e q

-- WHAT A STRANGER LEAVES
module _ (x : Net) (b : List ℕ) (c : ℕ) (p : Partner x.link c (source_of b) → ⊥) where
  one : (e : Event) → is_of c e ≡ false → (wished e ≡ restart → ⊥) → session_of (run (state_of x) (e ∷ [])).sessions c ≡ session_of x.link.sessions c
  unfolding run_by
  one e n r = other_session (state_of x) c e n r

  left :
      (r : Arrived) → Of x.link (source_of b) r → (r ≡ Connect c → ⊥) → (asks (apdu_of b) ≡ restart → ⊥) →
      session_of (run (state_of x) (events_of r (apdu_of b))).sessions c ≡ session_of x.link.sessions c
  unfolding run_by
  left (Request mode d group) o n r =
      one _
      (must_fail _
      (λ t. p (subst (λ (i : ℕ). Partner x.link i (source_of b)) (eqb-true d c (second_true (eqb mode 3) _ t)) (o (first_true (eqb mode 3) _ t)))))
      r
  left (Connect d) o n r = one _ (must_fail _ (λ t. n (ap Connect (eqb-true d c t)))) (λ e. no_restart e)
  left (Disconnect d) o n r =
      one _ (must_fail _ (λ t. p (subst (λ (i : ℕ). Partner x.link i (source_of b)) (eqb-true d c t) o))) (λ e. no_restart e)
  left (Nothing m d) o n r = refl

  -- THE SESSION OF c IS AS FOUND, unless c was closed and the frame is a connect to it, restarts apart
  pub stranger :
      (heard_in x b ≡ Connect c → ⊥) → (asks (apdu_of b) ≡ restart → ⊥) →
      session_of (net_by x (frame b)).link.sessions c ≡ session_of x.link.sessions c
  unfolding net_by heard_in
  stranger n r = left (heard_in x b) (owned x.link (own_of x.sheet) b) n r

  -- so while c is open nobody but its partner changes its session
  connects_closed : (r : Arrived) → Of x.link (source_of b) r → (session_of x.link.sessions c).opened ≡ true → r ≡ Connect c → ⊥
  connects_closed r o e q =
      ⊎_elim p (λ z. never (sym z ∙ e)) (subst (Of x.link (source_of b)) q o)

  pub stranger_open :
      (session_of x.link.sessions c).opened ≡ true → (asks (apdu_of b) ≡ restart → ⊥) →
      session_of (net_by x (frame b)).link.sessions c ≡ session_of x.link.sessions c
  unfolding heard_in
  stranger_open e r = stranger (connects_closed (heard_in x b) (owned x.link (own_of x.sheet) b) e) r

-- AN OPEN CONNECTION STAYS ITS PARTNER'S: while c is open no frame, of whomever, sets its address to another
module _ (x : Net) (b : List ℕ) where
  -- the address of c after what arrived
  abbrev address_by_lem : ℕ → Arrived → ℕ
  address_by_lem c r = cond (eqb c 0) (address_by 0 (source_of b) r x.link.first) (address_by 1 (source_of b) r x.link.second)

  -- a connect on an open connection is its partner's
  joined : (c : ℕ) → Opens x.link (source_of b) c → (session_of x.link.sessions c).opened ≡ true → address_at x.link c ≡ source_of b
  joined c o e = ⊎_elim (λ p. p.address) (λ z. never (sym z ∙ e)) o

  stays_first : (d : ℕ) → Opens x.link (source_of b) d → x.link.sessions.first.opened ≡ true → cond (eqb d 0) (source_of b) x.link.first ≡ x.link.first
  stays_first d o e =
      by_test (λ (a : ℕ). a ≡ x.link.first) (eqb d 0) _ _
      (λ t. sym (joined 0 (subst (Opens x.link (source_of b)) (eqb-true d 0 t) o) e)) (λ t. refl)

  stays_second : (d : ℕ) → Opens x.link (source_of b) d → x.link.sessions.second.opened ≡ true → cond (eqb d 1) (source_of b) x.link.second ≡ x.link.second
  stays_second d o e =
      by_test (λ (a : ℕ). a ≡ x.link.second) (eqb d 1) _ _
      (λ t. sym (joined 1 (subst (Opens x.link (source_of b)) (eqb-true d 1 t) o) e)) (λ t. refl)

  connects_own :
      (c d : ℕ) → Opens x.link (source_of b) d → (session_of x.link.sessions c).opened ≡ true → address_by_lem c (Connect d) ≡ address_at x.link c
  connects_own c d o = go (eqb c 0) (eqb c 1)
    where
      go :
          (t u : Bool) → (cond t x.link.sessions.first (cond u x.link.sessions.second closed)).opened ≡ true →
          cond t (cond (eqb d 0) (source_of b) x.link.first) (cond (eqb d 1) (source_of b) x.link.second) ≡ cond t x.link.first x.link.second
      go true u e = stays_first d o e
      go false true e = stays_second d o e
      go false false e = never e

  arrived_own :
      (c : ℕ) (r : Arrived) → Of x.link (source_of b) r → (session_of x.link.sessions c).opened ≡ true → address_by_lem c r ≡ address_at x.link c
  arrived_own c (Request mode d group) o e = refl
  arrived_own c (Connect d) o e = connects_own c d o e
  arrived_own c (Disconnect d) o e = refl
  arrived_own c (Nothing n d) o e = refl

  pub same_partner : (c : ℕ) → (session_of x.link.sessions c).opened ≡ true → address_at (net_by x (frame b)).link c ≡ address_at x.link c
  unfolding net_by heard_in
  same_partner c e = arrived_own c (heard_in x b) (owned x.link (own_of x.sheet) b) e

module _ (x : Net) (b : List ℕ) where
  -- no event changes nothing
  silent : (n : ℕ) → heard_in x b ≡ Nothing n nobody → (events_by x (frame b) ≡ []) × (net_by x (frame b) ≡ x)
  unfolding net_by run_by
  silent n e = (rw e, rw e)

  -- A FRAME FOR ANOTHER DEVICE CHANGES NOTHING, and is no event; so there is nothing to answer
  pub elsewhere :
      (fields_in b).control2 < 128 → ((fields_in b).destination ≡ own_of x.sheet → ⊥) →
      (events_by x (frame b) ≡ []) × (net_by x (frame b) ≡ x)
  unfolding heard_in
  elsewhere i n = let r = other_device x.link (own_of x.sheet) b i n in silent r.0 r.1

  -- NOR DOES ONE UNDER THE DEVICE'S OWN ADDRESS, to a group and to all apart
  pub itself : (fields_in b).control2 < 128 → source_of b ≡ own_of x.sheet → (events_by x (frame b) ≡ []) × (net_by x (frame b) ≡ x)
  unfolding heard_in
  itself i e = let r = own_device x.link (own_of x.sheet) b i e in silent r.0 r.1

-- NOR IS EITHER ANSWERED: link, sheet and buffer are as found, whatever the room
pub itself_served :
    (k : Link) (sequence : ℕ) (b s : List ℕ) (room : ℕ) → (fields_in b).control2 < 128 → source_of b ≡ own_of s →
    (n : ℕ) × (serve_of k sequence b s room ≡ leaving k s n nobody)
unfolding serve_of deed_of
itself_served k sequence b s room i e =
    let r = own_device k (own_of s) b i e in
    by_test (λ (d : Deed). (n : ℕ) × (d ≡ leaving k s n nobody)) (ltb room longest) _ _ (λ t. (64, refl)) (λ t. (r.0, rw r.1))

pub elsewhere_served :
    (k : Link) (sequence : ℕ) (b s : List ℕ) (room : ℕ) → (fields_in b).control2 < 128 → ((fields_in b).destination ≡ own_of s → ⊥) →
    (n : ℕ) × (serve_of k sequence b s room ≡ leaving k s n nobody)
unfolding serve_of deed_of
elsewhere_served k sequence b s room i n =
    let r = other_device k (own_of s) b i n in
    by_test (λ (d : Deed). (n : ℕ) × (d ≡ leaving k s n nobody)) (ltb room longest) _ _ (λ t. (64, refl)) (λ t. (r.0, rw r.1))
