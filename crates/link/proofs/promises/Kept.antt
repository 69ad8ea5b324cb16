-- WHAT FRAMES LEAVE IS WHAT THE EVENTS LEAVE THAT THEY ARE: so demand 3 holds of frames, and nobody without the key changes a protected byte by frames. Assumes nothing.
use Rattle.octets.proofs.Kit.{ℕ, zero, suc, ◌+◌, ◌<◌, ◌≡◌, refl, sym, ap, subst, ◌∙◌, Bool, true, false, cond, List, [], ◌∷◌, ◌++◌, length, take, drop, leb, get_or-drop, arith}
use Rattle.octets.{specs.Octets.Octets, proofs.Truths.never}
use Rattle.cemi.specs.{Layout.octet6, Read.frame_in}
use Rattle.device.specs.Events.{State}
use Rattle.events.specs.Events.{Event, after, run_by, run}
use Rattle.history.specs.{Wish.{Wish, change, offer_key, restart, other, nothing}, History.First, Keeps.{state_after, Begins, AllOctets, Kept}, Keyless.{NotOffered, Closed, Protected}}
use Rattle.history.{specs.Rightful.ours, proofs.promises.{Keep.keeps, Keyless.{locked, keyless_device}}}
use Rattle.link.specs.{Serving.apdu_of, Net.{Net, state_of, first_net, heard_in, events_of, Item, frame, press, time_out, give_back, events_by, net_by, net_after, events_after, BytesIn}}
use Rattle.link.specs.{Net.{AllBytes, NoKeyIn, NoKey, NoKeyHeardIn, NoKeyHeard}, declared.Arrived.{Arrived, TheVariants.{Request, Connect, Disconnect, Nothing}}}

-- what asks for nothing, and a restore, offers no key
is_offer : Wish → Bool
is_offer (change c) = false
is_offer (offer_key n) = true
is_offer restart = false
is_offer (other o) = false
is_offer nothing = false

no_offer : (w : Wish) {n : ℕ} → is_offer w ≡ false → w ≡ offer_key n → ⊥
unfolding is_offer
no_offer w f e = never (sym f ∙ ap is_offer e)

-- one event, or none
module _ (f : First) (g : List Event) where
  abbrev Goes : List Event → Type 0
  Goes es = run (state_after ours f g) es ≡ state_after ours f (es ++ g)

  none : Goes []
  unfolding run_by
  none = refl

  one : (e : Event) → Goes (e ∷ [])
  unfolding run_by after state_after
  one e = refl

  acts : (r : Arrived) (a : List ℕ) → Goes (events_of r a)
  acts (Request mode c group) a = one _
  acts (Connect c) a = one _
  acts (Disconnect c) a = one _
  acts (Nothing n c) a = none

  items : (x : Net) (i : Item) → Goes (events_by x i)
  items x (frame b) = acts (heard_in x b) (apdu_of b)
  items x (press on) = one _
  items x (time_out c) = one _
  items x (give_back c n st) = one _

module _ (x : Net) where
  by_run : (y : Net) (i : Item) → state_of (net_by y i) ≡ run (state_of y) (events_by y i)
  unfolding net_by
  by_run y i = refl

  -- THE STATE AFTER ANY FRAMES IS THAT AFTER THE EVENTS THAT THEY ARE
  pub as_events : (h : List Item) → state_of (net_after x h) ≡ state_after ours (first_net x) (events_after x h)
  unfolding net_after events_after state_after
  as_events [] = refl
  as_events (i ∷ h) =
      by_run (net_after x h) i
      ∙ ap (λ (s : State). run s (events_by (net_after x h) i)) (as_events h)
      ∙ items (first_net x) (events_after x h) (net_after x h) i

-- parts of bytes are bytes
octets_take : (n : ℕ) (b : List ℕ) → Octets b → Octets (take n b)
octets_take zero b o i = omega arith
octets_take (suc n) [] o i = omega arith
octets_take (suc n) (x ∷ b) o zero = o zero
octets_take (suc n) (x ∷ b) o (suc i) = octets_take n b (λ j. o (suc j)) i

octets_drop : (n : ℕ) (b : List ℕ) → Octets b → Octets (drop n b)
octets_drop n b o i = omega (arith, get_or-drop n b i 0, o (n + i))

pub octets_apdu : (b : List ℕ) → Octets b → Octets (apdu_of b)
octets_apdu b o = octets_part (octet6 (frame_in b).info) ((frame_in b).stated + 1) (leb (octet6 (frame_in b).info + ((frame_in b).stated + 1)) (length b))
  where
    octets_part : (at n : ℕ) (t : Bool) → Octets (cond t (take n (drop at b)) [])
    octets_part at n true = octets_take n (drop at b) (octets_drop at b o)
    octets_part at n false = λ i. omega arith

module _ (x : Net) where
  -- the events of bytes bring bytes
  act_octets : (r : Arrived) (a : List ℕ) (g : List Event) → Octets a → AllOctets g → AllOctets (events_of r a ++ g)
  act_octets (Request mode c group) a g o k = (o, k)
  act_octets (Connect c) a g o k = (tt, k)
  act_octets (Disconnect c) a g o k = (tt, k)
  act_octets (Nothing n c) a g o k = k

  item_octets : (y : Net) (i : Item) (g : List Event) → BytesIn i → AllOctets g → AllOctets (events_by y i ++ g)
  item_octets y (frame b) g o k = act_octets (heard_in y b) (apdu_of b) g (octets_apdu b o) k
  item_octets y (press on) g o k = (tt, k)
  item_octets y (time_out c) g o k = (tt, k)
  item_octets y (give_back c n st) g o k = (o, k)

  pub all_octets : (h : List Item) → AllBytes h → AllOctets (events_after x h)
  unfolding events_after
  all_octets [] o = tt
  all_octets (i ∷ h) o = item_octets (net_after x h) i (events_after x h) o.0 (all_octets h o.1)

  -- FRAMES KEEP: demand 3, of the events that any frames are, and the state is theirs
  pub frames_keep :
      Begins (first_net x) → (h : List Item) → AllBytes h →
      Kept ours (first_net x) (events_after x h) × (state_of (net_after x h) ≡ state_after ours (first_net x) (events_after x h))
  frames_keep b h o = (keeps (first_net x) (events_after x h) b (all_octets h o), as_events x h)

  -- a key that no request offers that is heard is offered by no event
  module _ (l : ℕ) where
    act_none :
        (y : Net) (b : List ℕ) (r : Arrived) → heard_in y b ≡ r → (g : List Event) → NoKeyHeardIn y x.sheet l (frame b) →
        NotOffered (first_net x) l g → NotOffered (first_net x) l (events_of r (apdu_of b) ++ g)
    unfolding is_offer
    act_none y b (Request mode c group) q g o k = ((λ n m e. o mode c group q n m e), k)
    act_none y b (Connect c) q g o k = ((λ n m e. no_offer nothing refl e), k)
    act_none y b (Disconnect c) q g o k = ((λ n m e. no_offer nothing refl e), k)
    act_none y b (Nothing n c) q g o k = k

    item_none :
        (y : Net) (i : Item) (g : List Event) → NoKeyHeardIn y x.sheet l i →
        NotOffered (first_net x) l g → NotOffered (first_net x) l (events_by y i ++ g)
    unfolding is_offer
    item_none y (frame b) g o k = act_none y b (heard_in y b) refl g o k
    item_none y (press on) g o k = ((λ n m e. no_offer nothing refl e), k)
    item_none y (time_out c) g o k = ((λ n m e. no_offer nothing refl e), k)
    item_none y (give_back c n st) g o k = ((λ n m e. no_offer (change _) refl e), k)

    not_offered : (h : List Item) → NoKeyHeard x l h → NotOffered (first_net x) l (events_after x h)
    unfolding events_after
    not_offered [] o = tt
    not_offered (i ∷ h) o = item_none (net_after x h) i (events_after x h) o.0 (not_offered h o.1)

    -- IF NO REQUEST THAT IS HEARD OFFERS A KEY OF A LEVEL UP TO l, no byte changes whose write level is at most l
    pub keyless_heard :
        l < 3 → Begins (first_net x) → Closed (first_net x) → (h : List Item) → AllBytes h → NoKeyHeard x l h →
        Protected (first_net x) l (state_of (net_after x h))
    keyless_heard low b closed h o n =
        let q = not_offered h n in
        subst (Protected (first_net x) l) (sym (as_events x h))
        (keyless_device l low ours keeps (first_net x) b (events_after x h) (all_octets h o) closed
        (locked l low (first_net x) closed (events_after x h) q 0) (locked l low (first_net x) closed (events_after x h) q 1))

    -- so if no frame does, from whomever, to whomever
    heard_none : (y : Net) (i : Item) → NoKeyIn x.sheet l i → NoKeyHeardIn y x.sheet l i
    heard_none y (frame b) o = λ mode c group q. o
    heard_none y (press on) o = tt
    heard_none y (time_out c) o = tt
    heard_none y (give_back c n st) o = tt

    pub all_heard : (h : List Item) → NoKey x.sheet l h → NoKeyHeard x l h
    all_heard [] o = tt
    all_heard (i ∷ h) o = (heard_none (net_after x h) i o.0, all_heard h o.1)

    -- IF NO FRAME FROM ANY SENDER OFFERS A KEY OF A LEVEL UP TO l, no byte changes whose write level is at most l
    pub keyless_frames :
        l < 3 → Begins (first_net x) → Closed (first_net x) → (h : List Item) → AllBytes h → NoKey x.sheet l h →
        Protected (first_net x) l (state_of (net_after x h))
    keyless_frames low b closed h o n = keyless_heard low b closed h o (all_heard h n)
