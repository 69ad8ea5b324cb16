-- ONE ITEM OF A HISTORY: the event that it is, if any, whose that is, and what it leaves. Assumes nothing.
use Rattle.octets.proofs.Kit.{ℕ, zero, suc, ◌≡◌, refl, sym, ap, subst, ◌∙◌, ◌⊎◌, inl, inr, Bool, true, false, List, [], ◌∷◌, eqb, ℕ_discrete, arith, eqb-true, ne_eqb}
use Rattle.octets.proofs.Truths.{never, first_true, second_true}
use Rattle.device.specs.{Sessions.session_of, Events.State, declared.Sessions.Sessions}
use Rattle.events.specs.Events.{Event, connect, disconnect, button, request, restore, event_of, after, run_by}
use Rattle.history.specs.{Wish.asks, History.{wished}, Isolation.is_of}
use Rattle.link.specs.{Partners.address_at, Serving.apdu_of, Net.{Net, state_of, source_of, heard_in, events_of, Item, frame, press, time_out, give_back, events_by, net_by}}
use Rattle.link.specs.{Whose.{Partner, Whose, partner, newcomer}, declared.Arrived.{Arrived, TheVariants.{Request, Connect, Disconnect, Nothing}}}
use Rattle.link.proofs.promises.Whose.{same_partner}

-- an item is one event or none
abbrev pub One : List Event → Type 0
One es = (es ≡ []) ⊎ ((e : Event) × (es ≡ e ∷ []))

one_arrived : (r : Arrived) (a : List ℕ) → One (events_of r a)
one_arrived (Request mode c group) a = inr (_, refl)
one_arrived (Connect c) a = inr (_, refl)
one_arrived (Disconnect c) a = inr (_, refl)
one_arrived (Nothing n c) a = inl refl

pub one_item : (y : Net) (i : Item) → One (events_by y i)
one_item y (frame b) = one_arrived (heard_in y b) (apdu_of b)
one_item y (press on) = inr (_, refl)
one_item y (time_out c) = inr (_, refl)
one_item y (give_back c n st) = inr (_, refl)

-- what it leaves
module _ (y : Net) (i : Item) where
  pub left_none : events_by y i ≡ [] → state_of (net_by y i) ≡ state_of y
  unfolding net_by run_by
  left_none q = rw q

  pub left_one : (e : Event) → events_by y i ≡ e ∷ [] → state_of (net_by y i) ≡ after (state_of y) e
  unfolding net_by run_by
  left_one e q = rw q

-- an open connection keeps its address
pub same_address_lem : (y : Net) (i : Item) (c : ℕ) → (session_of y.link.sessions c).opened ≡ true → address_at (net_by y i).link c ≡ address_at y.link c
unfolding net_by
same_address_lem y (frame b) c o = same_partner y b c o
same_address_lem y (press on) c o = refl
same_address_lem y (time_out d) c o = refl
same_address_lem y (give_back d n st) c o = refl

-- a connect leaves level 3
pub connect_three : (s : State) (c : ℕ) → (session_of (after s (connect c)).sessions c).level ≡ 3
unfolding after event_of
connect_three s zero = refl
connect_three s (suc zero) = refl
connect_three s (suc (suc c)) =
    let m : suc (suc c) ≡ 0 → ⊥ = omega arith in
    let n : suc (suc c) ≡ 1 → ⊥ = omega arith in
    simp (ne_eqb (suc (suc c)) 0 m, ne_eqb (suc (suc c)) 1 n)

-- no other number than 0 and 1 has an open session
pub no_other : (q : Sessions) (c : ℕ) → (session_of q (suc (suc c))).opened ≡ true → ⊥
no_other q c o =
    let m : suc (suc c) ≡ 0 → ⊥ = omega arith in
    let n : suc (suc c) ≡ 1 → ⊥ = omega arith in
    never (simp (ne_eqb (suc (suc c)) 0 m, ne_eqb (suc (suc c)) 1 n) at o)

-- a connect that is heard sets its connection's address
pub joined_address :
    (y : Net) (b : List ℕ) (c : ℕ) → heard_in y b ≡ Connect c → (session_of (net_by y (frame b)).link.sessions c).opened ≡ true →
    address_at (net_by y (frame b)).link c ≡ source_of b
unfolding net_by
joined_address y b zero q o = rw q
joined_address y b (suc zero) q o = rw q
joined_address y b (suc (suc c)) q o = absurd (no_other (net_by y (frame b)).link.sessions c o)

-- requests told from other events
unfoldable pub is_request : Event → Bool
is_request (connect c) = false
is_request (disconnect c) = false
is_request (button on) = false
is_request (request mode c g a out) = true
is_request (restore c n st) = false

-- a partner's request
pub whose_request : (y : Net) (b : List ℕ) (c : ℕ) (e : Event) → Whose y b c e → is_request e ≡ true → Partner y.link c (source_of b)
unfolding is_request
whose_request y b c e (partner p) r = p
whose_request y b c _ (newcomer z) r = never r

-- any other event than a connect is a partner's
unfoldable pub is_connect : Event → Bool
is_connect (connect c) = true
is_connect (disconnect c) = false
is_connect (button on) = false
is_connect (request mode c g a out) = false
is_connect (restore c n st) = false

pub whose_other : (y : Net) (b : List ℕ) (c : ℕ) (e : Event) → Whose y b c e → is_connect e ≡ false → Partner y.link c (source_of b)
unfolding is_connect
whose_other y b c e (partner p) r = p
whose_other y b c _ (newcomer z) r = never (sym r)

-- the event of some
unfoldable pub first : List Event → Event
first [] = button false
first (e ∷ es) = e

-- a frame whose event is a request of connection c
module _ (y : Net) (b : List ℕ) (c : ℕ) where
  pub record Came (e : Event) : Type 0 where
    pub group : ℕ
    pub heard : heard_in y b ≡ Request 3 c group
    pub wish : wished e ≡ asks (apdu_of b)

  came_by : (r : Arrived) → heard_in y b ≡ r → (e : Event) → events_of r (apdu_of b) ≡ e ∷ [] → is_request e ≡ true → is_of c e ≡ true → Came e
  unfolding first is_request
  came_by (Request mode d group) h e q =
      subst (λ (e : Event). is_request e ≡ true → is_of c e ≡ true → Came e) (ap first q)
      (λ z t.
      let m : mode ≡ 3 = eqb-true mode 3 (first_true (eqb mode 3) _ t) in
      let n : d ≡ c = eqb-true d c (second_true (eqb mode 3) _ t) in
      record { group = group; heard = h ∙ ap (λ (k : ℕ). Request k d group) m ∙ ap (λ (k : ℕ). Request 3 k group) n; wish = refl })
  came_by (Connect d) h e q = subst (λ (e : Event). is_request e ≡ true → is_of c e ≡ true → Came e) (ap first q) (λ z t. never z)
  came_by (Disconnect d) h e q = subst (λ (e : Event). is_request e ≡ true → is_of c e ≡ true → Came e) (ap first q) (λ z t. never z)
  came_by (Nothing n d) h e q = absurd (let z : ◌≡◌ {A = ℕ} 0 1 = ap lib.ListN.length q in omega arith)

  pub came : (e : Event) → events_by y (frame b) ≡ e ∷ [] → is_request e ≡ true → is_of c e ≡ true → Came e
  came e q z t = came_by (heard_in y b) refl e q z t

-- an item whose event is a connect of c
pub record Connects (y : Net) (i : Item) (c : ℕ) : Type 0 where
  pub bytes : List ℕ
  pub is : i ≡ frame bytes
  pub heard : heard_in y bytes ≡ Connect c

number_in : Event → ℕ
number_in (connect c) = c
number_in (disconnect c) = 0
number_in (button on) = 0
number_in (request mode c g a out) = 0
number_in (restore c n st) = 0

arrived_connect :
    (y : Net) (b : List ℕ) (c : ℕ) (r : Arrived) → heard_in y b ≡ r → (e : Event) → events_of r (apdu_of b) ≡ e ∷ [] →
    (e ≡ connect c → ⊥) ⊎ Connects y (frame b) c
unfolding first is_connect number_in
arrived_connect y b c (Request mode d group) h e q = inl (λ z. never (ap (λ (es : List Event). is_connect (first es)) q ∙ ap is_connect z))
arrived_connect y b c (Disconnect d) h e q = inl (λ z. never (ap (λ (es : List Event). is_connect (first es)) q ∙ ap is_connect z))
arrived_connect y b c (Nothing n d) h e q = absurd (let z : ◌≡◌ {A = ℕ} 0 1 = ap lib.ListN.length q in omega arith)
arrived_connect y b c (Connect d) h e q = by (ℕ_discrete d c)
  where
    by : Dec (d ≡ c) → (e ≡ connect c → ⊥) ⊎ Connects y (frame b) c
    by (yes k) = inr record { bytes = b; is = refl; heard = h ∙ ap Connect k }
    by (no n) = inl (λ z. n (ap (λ (es : List Event). number_in (first es)) q ∙ ap number_in z))

pub connects_it : (y : Net) (i : Item) (c : ℕ) (e : Event) → events_by y i ≡ e ∷ [] → (e ≡ connect c → ⊥) ⊎ Connects y i c
unfolding first is_connect
connects_it y (press on) c e q = inl (λ z. never (ap (λ (es : List Event). is_connect (first es)) q ∙ ap is_connect z))
connects_it y (time_out d) c e q = inl (λ z. never (ap (λ (es : List Event). is_connect (first es)) q ∙ ap is_connect z))
connects_it y (give_back d n st) c e q = inl (λ z. never (ap (λ (es : List Event). is_connect (first es)) q ∙ ap is_connect z))
connects_it y (frame b) c e q = arrived_connect y b c (heard_in y b) refl e q
