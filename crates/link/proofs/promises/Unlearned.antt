-- NOTHING IS LEARNED BY FRAMES of a byte whose read level is below q, while no open connection has a level below q: of what is sent, of who is turned away, of the link. Assumes nothing.
use Rattle.octets.proofs.Kit.{ℕ, ◌+◌, ◌<◌, ◌≤◌, ◌≡◌, refl, sym, ap, ap₂, subst, ◌∙◌, inl, inr, Bool, true, false, cond, List, [], ◌∷◌, replicate, ltb, leb, arith}
use Rattle.octets.specs.Bytes.{num_at}
use Rattle.sheet.proofs.rules.Good.{good}
use Rattle.cemi.specs.{Read.fields_in, Answering.answering, declared.Fields.Fields}
use Rattle.device.specs.{Sessions.session_of, declared.Sessions.Sessions}
use Rattle.events.specs.Events.{Event, request, event_of, after, run_by, run}
use Rattle.history.{specs.{Isolation.same, Secret.{Hide, NothingTold}, Keeps.Begins, Keyless.Closed}, proofs.promises.{NothingShown.secret_after, Unlearned.told, SameParts.hidden_parts}}
use Rattle.link.specs.{Hearing.{own_of, heard_of}, Serving.{most, longest, apdu_of, answer_frame, with_sessions, leaving, deed_of, serve_of}, Net.{Net, state_of, first_net, source_of, heard_in}}
use Rattle.link.specs.Net.{events_of, address_by, Item, frame, press, time_out, give_back, events_by, address_after, net_by, net_after, AllBytes, NoKeyHeard}
use Rattle.link.specs.{Unlearned.{Hides, Weak, NoneBelow, NothingServed}, declared.{Link.Link, Arrived.{Arrived, TheVariants.{Request, Connect, Disconnect, Nothing}}}}
use Rattle.link.proofs.{promises.Kept.keyless_heard, Items.{One, one_item}}

-- the own address is no secret
own_same : {q : ℕ} {s s' : List ℕ} → Hide q s s' → own_of s' ≡ own_of s
unfolding own_of num_at
own_same {q} {s} {s'} b =
    let h = b.others.others 16 (λ y. omega (arith, secret_after (good s b.accepted) q 16 y)) in
    let l = b.others.others 17 (λ y. omega (arith, secret_after (good s b.accepted) q 17 y)) in
    ap₂ (λ (n v : ℕ). cond (leb 18 n) v 0) b.others.long (let z : num_at s' 16 2 ≡ num_at s 16 2 = omega (arith, h, l) in z)

-- links with the same parts are the same
same_link : (k k' : Link) → k'.sessions ≡ k.sessions → k'.first ≡ k.first → k'.second ≡ k.second → k' ≡ k
same_link k k' q a b =
    ap₂ (λ (q : Sessions) (a : ℕ). record { sessions = q; first = a; second = k'.second }) q a
    ∙ ap (λ (b : ℕ). record { sessions = k.sessions; first = k.first; second = b }) b

module _ (q : ℕ) (few : q ≤ 3) where
  -- ONE ITEM
  module _ {y y' : Net} (b : Hides q y y') (weak : Weak q y) where
    heard_same : (f : List ℕ) → heard_in y' f ≡ heard_in y f
    unfolding heard_in
    heard_same f = ap₂ (λ (k : Link) (own : ℕ). heard_of k own f) b.link (own_same b.sheet)

    events_same : (i : Item) → events_by y' i ≡ events_by y i
    events_same (frame f) = ap (λ (r : Arrived). events_of r (apdu_of f)) (heard_same f)
    events_same (press on) = refl
    events_same (time_out c) = refl
    events_same (give_back c n st) = refl

    address_same : (i : Item) (c old old' : ℕ) → old' ≡ old → address_after y' i c old' ≡ address_after y i c old
    address_same (frame f) c old old' e = ap₂ (λ (r : Arrived) (u : ℕ). address_by c (source_of f) r u) (heard_same f) e
    address_same (press on) c old old' e = e
    address_same (time_out d) c old old' e = e
    address_same (give_back d n st) c old old' e = e

    abbrev Left : List Event → Type 0
    Left es = ((run (state_of y') es).sessions ≡ (run (state_of y) es).sessions) × Hide q (run (state_of y) es).sheet (run (state_of y') es).sheet

    left : (es : List Event) → One es → Left es
    unfolding run_by after
    left es (inl e) = subst Left (sym e) (ap (λ (k : Link). k.sessions) b.link, b.sheet)
    left es (inr k) =
        subst Left (sym k.1)
        (let z = told q few (state_of y) (state_of y') (ap (λ (k : Link). k.sessions) b.link) b.sheet weak k.0 k.0 (same k.0) in (z.sessions, z.sheet))

    item_hides : (i : Item) → Hides q (net_by y i) (net_by y' i)
    unfolding net_by
    item_hides i =
        let z : Left (events_by y i) = left (events_by y i) (one_item y i) in
        let e = events_same i in
        record {
          link =
              same_link _ _ (ap (λ (es : List Event). (run (state_of y') es).sessions) e ∙ z.0)
              (address_same i 0 _ _ (ap (λ (k : Link). k.first) b.link))
              (address_same i 1 _ _ (ap (λ (k : Link). k.second) b.link));
          sheet = subst (λ (es : List Event). Hide q (run (state_of y) (events_by y i)).sheet (run (state_of y') es).sheet) (sym e) z.1;
        }

  -- NOTHING IS LEARNED: whatever the history, both devices are the same but for secrets
  pub unlearned_frames : {x x' : Net} → Hides q x x' → (h : List Item) → NoneBelow q x h → Hides q (net_after x h) (net_after x' h)
  unfolding net_after
  unlearned_frames b [] n = b
  unlearned_frames b (i ∷ h) n = item_hides (unlearned_frames b h n.1) n.0 i

  -- AND WHAT THE NEXT FRAME BRINGS is the same, to the byte
  module _ (k : Link) (s s' : List ℕ) (b : Hide q s s') (weak : (c : ℕ) → (session_of k.sessions c).opened ≡ true → q ≤ (session_of k.sessions c).level) where
    deed_same : (f : Fields) (sequence : ℕ) (a : List ℕ) (r : Arrived) → NothingServed q (deed_of k f sequence a s r) (deed_of k f sequence a s' r)
    unfolding deed_of event_of
    deed_same f sequence a (Request mode c group) =
        let e : Event = request mode c group a (replicate most 0) in
        let z : NothingTold q (event_of record { sessions = k.sessions; sheet = s } e) (event_of record { sessions = k.sessions; sheet = s' } e) =
        told q few record { sessions = k.sessions; sheet = s } record { sessions = k.sessions; sheet = s' } refl b weak e e (same _) in
        record {
          number = refl;
          outcome = z.outcome;
          connection = refl;
          answer = ap₂ (λ (own : ℕ) (p : List ℕ). answer_frame (answering f own mode sequence) p) (own_same b) z.answer;
          changed = hidden_parts b most k.sessions mode c group a;
          link = ap (with_sessions k) z.sessions;
          sheet = z.sheet;
        }
    deed_same f sequence a (Connect c) = record { number = refl; outcome = refl; connection = refl; answer = refl; changed = refl; link = refl; sheet = b }
    deed_same f sequence a (Disconnect c) = record { number = refl; outcome = refl; connection = refl; answer = refl; changed = refl; link = refl; sheet = b }
    deed_same f sequence a (Nothing n c) = record { number = refl; outcome = refl; connection = refl; answer = refl; changed = refl; link = refl; sheet = b }

    serve_same : (sequence : ℕ) (f : List ℕ) (room : ℕ) → NothingServed q (serve_of k sequence f s room) (serve_of k sequence f s' room)
    unfolding serve_of
    serve_same sequence f room = go (ltb room longest)
      where
        go :
            (t : Bool) →
            NothingServed q (cond t (leaving k s 64 255) (deed_of k (fields_in f) sequence (apdu_of f) s (heard_of k (own_of s) f)))
            (cond t (leaving k s' 64 255) (deed_of k (fields_in f) sequence (apdu_of f) s' (heard_of k (own_of s') f)))
        go true = record { number = refl; outcome = refl; connection = refl; answer = refl; changed = refl; link = refl; sheet = b }
        go false =
            subst (λ (own : ℕ). NothingServed q (deed_of k (fields_in f) sequence (apdu_of f) s (heard_of k (own_of s) f)) (deed_of k (fields_in f) sequence (apdu_of f) s' (heard_of k own f)))
            (sym (own_same b)) (deed_same (fields_in f) sequence (apdu_of f) (heard_of k (own_of s) f))

  pub unlearned_served :
      {y y' : Net} → Hides q y y' → Weak q y → (sequence : ℕ) (f : List ℕ) (room : ℕ) →
      NothingServed q (serve_of y.link sequence f y.sheet room) (serve_of y'.link sequence f y'.sheet room)
  unlearned_served {y} {y'} b weak sequence f room =
      subst (λ (k : Link). NothingServed q (serve_of y.link sequence f y.sheet room) (serve_of k sequence f y'.sheet room)) (sym b.link)
      (serve_same y.link y.sheet y'.sheet b.sheet weak sequence f room)

-- A LAPTOP WITHOUT A KEY of a level up to l: no open connection has a level below l + 1
pub unheard_blind :
    (x : Net) (l : ℕ) → l < 3 → Begins (first_net x) → Closed (first_net x) → (h : List Item) → AllBytes h → NoKeyHeard x l h → NoneBelow (l + 1) x h
unheard_blind x l low b closed [] o n = tt
unheard_blind x l low b closed (i ∷ h) o n =
    ((λ c e. omega (arith, (keyless_heard x l low b closed h o.1 n.1).rights c e)), unheard_blind x l low b closed h o.1 n.1)
