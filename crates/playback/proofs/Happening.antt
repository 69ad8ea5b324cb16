-- One event, by its kind, as the trace says it. Assumes nothing.
use Rattle.octets.proofs.Kit.{ℕ, ◌+◌, ◌-◌, ◌/◌, ◌%◌, ◌≤◌, ◌<◌, ◌≡◌, refl, sym, ◌∙◌, ap, subst, Bool, true, false, List, [], ◌⊎◌, inl, inr, length, get_or, take, drop}
use Rattle.octets.proofs.Kit.{add-sub_cancel_left, arith}
use Rattle.octets.{specs.Splice.splice, proofs.Splices.splice_none}
use Rattle.sheet.{specs.{Layout.◌of◌, Rules.{Accepted, Old, Bad}}, proofs.promises.Verdicts.{one_of_three, refused_none}}
use Rattle.sheet.specs.Head as head
use Rattle.device.specs.{Events.{Effect, State, Did, named, connect_of, disconnect_of, request_of, button_outcome, button_sheet}, Changed.{none, Requested, Outside}}
use Rattle.device.{specs.declared.{Sessions.Sessions, Done.Done, Changed.Changed, Made.Made}, proofs.promises.{Called.call_leaves, Parts.{kept_outside, first_within, second_within}}}
use Rattle.device.proofs.{promises.Dues.button_due, calls.Pressing.head_room}
use Rattle.events.specs.Events.{Event, connect, disconnect, button, event_of}
use Rattle.playback.specs.{Trace.{room, event_by, event_in}, Playing.at, Event.{flag_of, Presses, Names, Happens}}
use Rattle.playback.specs.Entry as entry

-- nothing is stored
names_none : (s : List ℕ) → Names s none s
names_none s = record { outside = λ i o. refl; first = omega arith; second = omega arith }

-- the button stores the flags of an accepted sheet
module _ (q : Sessions) (s : List ℕ) (on : Bool) where
  abbrev found : State
  found = at q s

  apart : (i : ℕ) → Outside (flag_of 1) i → i ≡ (head.flags).at → ⊥
  apart i o e = go o.first
    where
      go : (i < (head.flags).at) ⊎ ((head.flags).at + 1 ≤ i) → ⊥
      go (inl u) = omega (arith, u, e)
      go (inr u) = omega (arith, u, e)

  names_flag : (o : ℕ) (s' : List ℕ) → o ≡ button_outcome s → s' ≡ button_sheet s on → Names s (flag_of o) s'
  names_flag o s' e h = go (one_of_three s)
    where
      unmoved : {n : ℕ} → flag_of n ≡ none → (button_outcome s ≡ n) × (button_sheet s on ≡ s) → Names s (flag_of o) s'
      unmoved z d =
          subst (λ (c : Changed). Names s c s') (sym (ap flag_of (e ∙ d.0) ∙ z))
          (subst (λ (l : List ℕ). Names s none l) (sym (h ∙ d.1)) (names_none s))

      go : Accepted s ⊎ (Old s ⊎ Bad s) → Names s (flag_of o) s'
      go (inr (inr n)) = unmoved refl ((button_due found on).bad_sheet n)
      go (inr (inl n)) = unmoved refl ((button_due found on).old_sheet n)
      go (inl ok) =
          let d = (button_due found on).accepted ok in
          subst (λ (c : Changed). Names s c s') (sym (ap flag_of (e ∙ d.0)))
          (record {
            outside = λ i out. ap (λ (l : List ℕ). get_or l i 0) h ∙ d.1.others i (apart i out);
            first = omega (arith, head_room s 0 (sym (refused_none s ok)) refl);
            second = omega arith;
          })

module _ (q : Sessions) (s a out : List ℕ) (k mode c group : ℕ) (r : Made) where
  -- the same of a kind that is known
  by_kind_lem : (n : ℕ) (s' out' : List ℕ) → k ≡ n → Happens q s (event_by n mode c group a) r out s' out'
      → Happens q s (event_by k mode c group a) r out s' out'
  by_kind_lem n s' out' e h = subst (λ (j : ℕ). Happens q s (event_by j mode c group a) r out s' out') (sym e) h

  pub happens_request : (s' out' : List ℕ) → k ≡ 0 → length out ≡ room → Requested q mode c group a s out r s' out'
      → Happens q s (event_by k mode c group a) r out s' out'
  unfolding event_of
  happens_request s' out' e l h =
      by_kind_lem 0 s' out' e
      record {
        did = subst (λ (n : ℕ). Did (request_of n s q mode c group a) r.done out s' out') l h.call.did;
        few = (call_leaves q mode c group a s out r.done s' out' h.call).most;
        named =
            record {
              outside = kept_outside q mode c group a s out r s' out' h;
              first = first_within q mode c group a s out r s' out' h;
              second = second_within q mode c group a s out r s' out' h;
            };
      }

  silent : (x : Effect) (s' : List ℕ) → r.done.outcome ≡ x.outcome → r.done.count ≡ 0 → r.done.sessions ≡ x.sessions → x.answer ≡ [] → s' ≡ x.sheet
      → Did x r.done out s' out
  silent x s' o z e n h =
      record {
        outcome = o;
        count = z ∙ sym (ap length n);
        sessions = e;
        sheet = h;
        answer = sym (ap (splice out 0) n ∙ splice_none out 0);
      }

  -- a connect or a disconnect, which gave d
  silently : (e : Event) (d : Done) → r ≡ record { done = d; changed = none } → d.outcome ≡ (event_of (at q s) e).outcome → d.count ≡ 0 → d.sessions ≡ (event_of (at q s) e).sessions →
      (event_of (at q s) e).answer ≡ [] → s ≡ (event_of (at q s) e).sheet → Happens q s e r out s out
  silently e d m o z n w h =
      record {
        did = silent (event_of (at q s) e) s (ap (λ (x : Made). x.done.outcome) m ∙ o) (ap (λ (x : Made). x.done.count) m ∙ z) (ap (λ (x : Made). x.done.sessions) m ∙ n) w h;
        few = omega (arith, ap (λ (x : Made). x.done.count) m, z);
        named = subst (λ (x : Changed). Names s x s) (sym (ap (λ (x : Made). x.changed) m)) (names_none s);
      }

  pub happens_connect : (d : Done) → k ≡ 1 → d ≡ named c (connect_of q c) → r ≡ record { done = d; changed = none } → Happens q s (event_by k mode c group a) r out s out
  unfolding event_of
  happens_connect d e h m =
      by_kind_lem 1 s out e (silently (connect c) d m (ap (λ (x : Done). x.outcome) h) (ap (λ (x : Done). x.count) h) (ap (λ (x : Done). x.sessions) h) refl refl)

  pub happens_disconnect : (d : Done) → k ≡ 2 → d ≡ named c (disconnect_of q c) → r ≡ record { done = d; changed = none } → Happens q s (event_by k mode c group a) r out s out
  unfolding event_of
  happens_disconnect d e h m =
      by_kind_lem 2 s out e (silently (disconnect c) d m (ap (λ (x : Done). x.outcome) h) (ap (λ (x : Done). x.count) h) (ap (λ (x : Done). x.sessions) h) refl refl)

  presses : (on : Bool) (s' : List ℕ) → Presses q s on r s' → Happens q s (button on) r out s' out
  unfolding event_of
  presses on s' h =
      record {
        did = silent (event_of (at q s) (button on)) s' h.outcome h.count h.sessions refl h.sheet;
        few = omega (arith, h.count);
        named = subst (λ (x : Changed). Names s x s') (sym h.changed) (names_flag q s on r.done.outcome s' h.outcome h.sheet);
      }

  pub happens_on : (s' : List ℕ) → k ≡ 3 → Presses q s true r s' → Happens q s (event_by k mode c group a) r out s' out
  happens_on s' e h = by_kind_lem 3 s' out e (presses true s' h)

  pub happens_off : (s' : List ℕ) → k ≡ 4 → Presses q s false r s' → Happens q s (event_by k mode c group a) r out s' out
  happens_off s' e h = by_kind_lem 4 s' out e (presses false s' h)

-- the event that an entry says
pub happens_said : (q : Sessions) (s t e out : List ℕ) (k b g o l : ℕ) (r : Made) (s' out' : List ℕ) →
    k ≡ entry.kind of e → b ≡ entry.mode of e → g ≡ entry.group of e → o ≡ entry.offset of e → l ≡ entry.length of e →
    Happens q s (event_by k (b % 16) (b / 16) g (take (o + l - o) (drop o t))) r out s' out' →
    Happens q s (event_in t e) r out s' out'
unfolding event_in
happens_said q s t e out k b g o l r s' out' ek eb eg eo el h = rw (← ek, ← eb, ← eg, ← eo, ← el) (rw (add-sub_cancel_left) at h)
