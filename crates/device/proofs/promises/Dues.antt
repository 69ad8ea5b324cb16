-- DEMAND 2 of every event: what is done is what is due, and nothing else is due.
use Rattle.octets.proofs.Kit.{ℕ, ◌+◌, ◌*◌, ◌≤◌, ◌<◌, ◌≡◌, refl, sym, ap, ap₂, ◌∙◌, ◌⊎◌, inl, inr, Bool, true, false, List, [], length, get_or, ext_get_or, dec_lt, ℕ_discrete, arith, lt-ltb}
use Rattle.octets.proofs.Kit.{le-ltb}
use Rattle.octets.{specs.{Bytes.{num_at, bytes_of}, Splice.splice}, proofs.{Numbers.length_bytes, Splices.{length_splice, splice_outside, splice_num}}}
use Rattle.sheet.{specs.Rules.{Accepted, Old, Bad}, proofs.promises.Verdicts.{one_of_three, refused_none, refused_bad}}
use Rattle.sheet.specs.Head as head
use Rattle.judge.specs.{Session.connected, declared.Session.Session}
use Rattle.device.specs.{Octets.Octets, Step.{Step, step_of}, Sessions.{session_of, with_session}}
use Rattle.device.specs.Events.{State, Effect, connecting, disconnecting, pressing, requesting, named_outcome, request_of, bit, pressed, button_outcome, button_sheet}
use Rattle.device.specs.{Due.{SessionDue, ConnectDue, DisconnectDue, Switched, ButtonDue, asked, RequestDue}, declared.Sessions.Sessions}
use Rattle.device.proofs.{leaves.Connections.{same_sessions, fresh_closed, with_own, with_other, turned_own, turned_other}, promises.Rightly.{right, right_only}}
use Rattle.device.proofs.{leaves.Flags.{verify_left, bit_small}, calls.Pressing.head_room}

-- effects with the same parts are the same
pub same_effect :
    (r t : Effect) → r.outcome ≡ t.outcome → r.answer ≡ t.answer → r.sessions ≡ t.sessions → r.sheet ≡ t.sheet → r ≡ t
same_effect r t n a q s =
    ap₂ (λ (n : ℕ) (a : List ℕ). record { outcome = n; answer = a; sessions = r.sessions; sheet = r.sheet }) n a
    ∙ ap₂ (λ (q : Sessions) (s : List ℕ). record { outcome = t.outcome; answer = t.answer; sessions = q; sheet = s }) q s

-- an accepted sheet after the button
module _ (s : List ℕ) (on : Bool) (ok : Accepted s) where
  abbrev new : ℕ
  new = head.verify s * 2 + bit on

  small : new < 256
  small = omega (arith, bit_small on)

  room : (head.flags).at + length (bytes_of 1 new) ≤ length s
  room = omega (arith, head_room s 0 (sym (refused_none s ok)) refl, length_bytes 1 new)

  pressed_is : pressed s on ≡ splice s (head.flags).at (bytes_of 1 new)
  unfolding pressed
  pressed_is = ap (λ (f : ℕ). splice s (head.flags).at (bytes_of 1 (f + bit on))) (verify_left s ok)

  spliced : Switched s on (splice s (head.flags).at (bytes_of 1 new))
  spliced =
      record {
        long = length_splice s (head.flags).at (bytes_of 1 new) room;
        flags = splice_num s (head.flags).at 1 new (omega (arith, head_room s 0 (sym (refused_none s ok)) refl)) small;
        others = λ p n. splice_outside s (head.flags).at (bytes_of 1 new) room p (side p n (dec_lt p (head.flags).at));
      }
    where
      side : (p : ℕ) → (p ≡ (head.flags).at → ⊥) → Dec (p < (head.flags).at) → (p < (head.flags).at) ⊎ ((head.flags).at + length (bytes_of 1 new) ≤ p)
      side p n (yes l) = inl l
      side p n (no l) = inr (omega (arith, length_bytes 1 new))

  switched : Switched s on (pressed s on)
  switched = rw pressed_is spliced

  -- two sheets that are both switched are the same
  both_switched : (t u : List ℕ) → Switched s on t → Switched s on u → t ≡ u
  unfolding num_at
  both_switched t u a b = ext_get_or 0 t u (a.long ∙ sym b.long) (λ i l. at i (ℕ_discrete i (head.flags).at))
    where
      at : (i : ℕ) → Dec (i ≡ (head.flags).at) → get_or t i 0 ≡ get_or u i 0
      at i (yes e) = rw e (omega (arith, a.flags, b.flags))
      at i (no n) = a.others i n ∙ sym (b.others i n)

-- a session opened or closed anew
module _ (x : State) (opened : Bool) (c : ℕ) where
  abbrev anew : Session
  anew = record { opened = opened; level = 3 }

  named_due :
      SessionDue opened c x (record { outcome = named_outcome c; answer = []; sessions = with_session x.sessions c anew; sheet = x.sheet })
  named_due =
      record {
        known = λ h. (simp (lt-ltb c 2 h), with_own x.sessions c anew h);
        unknown = λ h. simp (le-ltb c 2 h);
        others = λ d n. with_other x.sessions c d anew n;
        answer = refl;
        sheet = refl;
      }

  -- two effects that are both due are the same
  both_named : (r t : Effect) → SessionDue opened c x r → SessionDue opened c x t → r ≡ t
  both_named r t a b =
      same_effect r t (outcome (dec_lt c 2)) (a.answer ∙ sym b.answer)
      (same_sessions r.sessions t.sessions (λ d h. at d h (ℕ_discrete d c))) (a.sheet ∙ sym b.sheet)
    where
      outcome : Dec (c < 2) → r.outcome ≡ t.outcome
      outcome (yes h) = (a.known h).0 ∙ sym (b.known h).0
      outcome (no h) = a.unknown (omega arith) ∙ sym (b.unknown (omega arith))

      at : (d : ℕ) → d < 2 → Dec (d ≡ c) → session_of r.sessions d ≡ session_of t.sessions d
      at d h (yes e) = rw e ((a.known (omega arith)).1 ∙ sym (b.known (omega arith)).1)
      at d h (no n) = a.others d n ∙ sym (b.others d n)

module _ (x : State) where
  -- CONNECT
  module _ (c : ℕ) where
    pub connect_due : ConnectDue c x (connecting x c)
    connect_due = named_due x true c

    pub connect_only : (r : Effect) → ConnectDue c x r → r ≡ connecting x c
    connect_only r d = both_named x true c r (connecting x c) d connect_due

    -- DISCONNECT
    pub disconnect_due : DisconnectDue c x (disconnecting x c)
    disconnect_due = named_due x false c

    pub disconnect_only : (r : Effect) → DisconnectDue c x r → r ≡ disconnecting x c
    disconnect_only r d = both_named x false c r (disconnecting x c) d disconnect_due

  -- THE BUTTON
  module _ (on : Bool) where
    pub button_due : ButtonDue on x (pressing x on)
    unfolding button_outcome button_sheet
    button_due =
        record {
          answer = refl;
          sessions = refl;
          bad_sheet = λ b. let t = refused_bad x.sheet b in (rw t, rw t);
          old_sheet = λ o. (rw o, rw o);
          accepted = λ ok. (rw ok, rw ok (switched x.sheet on ok));
        }

    pub button_only : (r : Effect) → ButtonDue on x r → r ≡ pressing x on
    button_only r d = go (one_of_three x.sheet)
      where
        unmoved : {n : ℕ} → (r.outcome ≡ n) × (r.sheet ≡ x.sheet) → ((pressing x on).outcome ≡ n) × ((pressing x on).sheet ≡ x.sheet) → r ≡ pressing x on
        unmoved a b =
            same_effect r (pressing x on) (a.0 ∙ sym b.0) (d.answer ∙ sym button_due.answer) (d.sessions ∙ sym button_due.sessions) (a.1 ∙ sym b.1)

        go : Accepted x.sheet ⊎ (Old x.sheet ⊎ Bad x.sheet) → r ≡ pressing x on
        go (inr (inr b)) = unmoved (d.bad_sheet b) (button_due.bad_sheet b)
        go (inr (inl o)) = unmoved (d.old_sheet o) (button_due.old_sheet o)
        go (inl ok) =
            let a = d.accepted ok in
            let b = button_due.accepted ok in
            same_effect r (pressing x on) (a.0 ∙ sym b.0) (d.answer ∙ sym button_due.answer) (d.sessions ∙ sym button_due.sessions)
            (both_switched x.sheet on ok r.sheet (pressing x on).sheet a.1 b.1)

  -- A REQUEST
  module _ (mode c group : ℕ) (a out : List ℕ) where
    -- two effects that are due by one step are the same
    both_asked :
        (r t : Effect) (p : RequestDue mode c group a out x r) (q : RequestDue mode c group a out x t) → p.step ≡ q.step → r ≡ t
    both_asked r t p q e =
        same_effect r t
        (p.outcome ∙ ap (λ (k : Step). k.outcome) e ∙ sym q.outcome)
        (p.answer ∙ ap (λ (k : Step). k.answer) e ∙ sym q.answer)
        (same_sessions r.sessions t.sessions (λ d h. at d h q.step.restarts refl (ℕ_discrete mode connected) (ℕ_discrete d c)))
        (p.sheet ∙ ap (λ (k : Step). k.sheet) e ∙ sym q.sheet)
      where
        also : (b : Bool) → q.step.restarts ≡ b → p.step.restarts ≡ b
        also b h = ap (λ (k : Step). k.restarts) e ∙ h

        at : (d : ℕ) → d < 2 → (b : Bool) → q.step.restarts ≡ b → Dec (mode ≡ connected) → Dec (d ≡ c) →
            session_of r.sessions d ≡ session_of t.sessions d
        at d h true b m n = p.restarted (also true b) d ∙ sym (q.restarted b d)
        at d h false b (yes m) (yes n) =
            rw n
            (p.own (also false b) m (omega arith)
            ∙ ap (λ (k : Step). k.session) e
            ∙ sym (q.own b m (omega arith)))
        at d h false b (yes m) (no n) = p.others (also false b) d (λ z. n) ∙ sym (q.others b d (λ z. n))
        at d h false b (no m) n = p.others (also false b) d (λ z. absurd (m z)) ∙ sym (q.others b d (λ z. absurd (m z)))

    module _ (hs : Octets x.sheet) (ha : Octets a) where
      abbrev done : Step
      done = step_of (length out) x.sheet (asked x mode c group a out).session mode group a

      pub request_due : RequestDue mode c group a out x (requesting x mode c group a out)
      unfolding request_of
      request_due =
          record {
            step = done;
            due = right (asked x mode c group a out) hs ha;
            outcome = refl;
            answer = refl;
            sheet = refl;
            restarted = λ e d. rw e (fresh_closed d);
            own = λ e m h. rw e (turned_own x.sessions mode c done.session m h);
            others = λ e d n. rw e (turned_other x.sessions mode c d done.session n);
          }

      pub request_only : (r : Effect) → RequestDue mode c group a out x r → r ≡ requesting x mode c group a out
      request_only r d = both_asked r (requesting x mode c group a out) d request_due (only d ∙ sym (only request_due))
        where
          only : {t : Effect} (p : RequestDue mode c group a out x t) → p.step ≡ done
          only p = right_only (asked x mode c group a out) hs ha p.step p.due
