-- WHAT CALLS LEAVE IS WHAT THEIR HISTORY SAYS, by their contracts alone: so a host has demand 3, and `keyless`, of the calls that it makes. Assumes nothing.
use Rattle.octets.proofs.Kit.{ℕ, ◌<◌, ◌≤◌, ◌≡◌, refl, sym, ap, subst, ◌∙◌, List, ◌∷◌, get_or}
use Rattle.events.specs.Events.{event_of, after, run_by}
use Rattle.history.specs.{Keeps.{state_after, Begins, Kept}, Location.{Location, Place}, Keyless.{Closed, Protected, write_level}, Rightful.ours}
use Rattle.link.specs.{Net.{Net, state_of, first_net, source_of, Item, frame, net_by, net_after, events_after, BytesIn, AllBytes, NoKey, NoKeyHeard}, Whose.Apart}
use Rattle.link.specs.{Granted.{ByRight, NoKeyFrom}, Runs.{Goes, serves, presses, times_out, gives_back, Ran, begin, next}}
use Rattle.link.proofs.promises.{Kept.{frames_keep, all_heard, keyless_heard}, Apart.apart, Rights.{by_right, without_key}, Tied.served_is}

-- ONE CALL
goes_is : {x y : Net} {i : Item} → Goes x i y → (y ≡ net_by x i) × BytesIn i
unfolding net_by run_by after event_of
goes_is {x} (serves sequence b o r s' o' call room) = (served_is x.link sequence b x.sheet o r s' o' call room, call.frame_bytes)
goes_is {x} (presses on r s' p) = (ap (λ (s : List ℕ). record { link = x.link; sheet = s }) p.sheet, tt)
goes_is (times_out c) = (refl, tt)
goes_is {x} (gives_back c n st r s' small p) = (ap (λ (s : List ℕ). record { link = x.link; sheet = s }) p.after, small)

-- ALL OF THEM
pub ran_is : {x y : Net} {h : List Item} → Ran x h y → (y ≡ net_after x h) × AllBytes h
unfolding net_after
ran_is begin = (refl, tt)
ran_is (next {i = i} k g) =
    let p = ran_is k in
    let q = goes_is g in
    (q.0 ∙ ap (λ (z : Net). net_by z i) p.0, (q.1, p.1))

module _ {x y : Net} {h : List Item} (k : Ran x h y) where
  -- DEMAND 3
  pub ran_keeps :
      Begins (first_net x) → Kept ours (first_net x) (events_after x h) × (state_of y ≡ state_after ours (first_net x) (events_after x h))
  ran_keeps b = let p = ran_is k in let q = frames_keep x b h p.1 in (q.0, ap state_of p.0 ∙ q.1)

  -- NOBODY WITHOUT THE KEY
  pub ran_keyless_heard : (l : ℕ) → l < 3 → Begins (first_net x) → Closed (first_net x) → NoKeyHeard x l h → Protected (first_net x) l (state_of y)
  ran_keyless_heard l low b closed n =
      let p = ran_is k in subst (λ (z : Net). Protected (first_net x) l (state_of z)) (sym p.0) (keyless_heard x l low b closed h p.1 n)

  pub ran_keyless : (l : ℕ) → l < 3 → Begins (first_net x) → Closed (first_net x) → NoKey x.sheet l h → Protected (first_net x) l (state_of y)
  ran_keyless l low b closed n = ran_keyless_heard l low b closed (all_heard x l h n)

  -- TWO ADDRESSES
  pub ran_apart : Apart x.link → Apart y.link
  ran_apart a = subst (λ (z : Net). Apart z.link) (sym (ran_is k).0) (apart x a h)

-- ONE FRAME MORE: z is what serving it left
module _ {x y z : Net} {h : List Item} {b : List ℕ} (k : Ran x h y) (g : Goes y (frame b) z) (begins : Begins (first_net x)) (closed : Closed (first_net x))
    (a : Location) (p : ℕ) (place : Place x.sheet a p) where
  before : get_or y.sheet p 0 ≡ get_or (net_after x h).sheet p 0
  before = ap (λ (n : Net). get_or n.sheet p 0) (ran_is k).0

  since : get_or z.sheet p 0 ≡ get_or (net_after x (frame b ∷ h)).sheet p 0
  since = ap (λ (n : Net). get_or n.sheet p 0) (ran_is (next k g)).0

  -- WHOEVER'S FRAME CHANGES A PROTECTED BYTE HAS THE RIGHT
  pub ran_by_right : write_level x.sheet a < 3 → (get_or z.sheet p 0 ≡ get_or y.sheet p 0 → ⊥) → ByRight x h (source_of b) (write_level x.sheet a)
  ran_by_right small n = by_right x begins closed h b (ran_is (next k g)).1 a p place small (λ e. n (since ∙ e ∙ sym before))

  -- WHO HAS OFFERED NO KEY changes none, whatever others have offered
  pub ran_without_key : (l : ℕ) → l < 3 → NoKeyFrom x (source_of b) l h → write_level x.sheet a ≤ l → get_or z.sheet p 0 ≡ get_or y.sheet p 0
  ran_without_key l low none w = since ∙ without_key x begins closed l low h b (ran_is (next k g)).1 none a p place w ∙ sym before
