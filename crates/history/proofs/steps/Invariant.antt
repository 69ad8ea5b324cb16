-- What holds of the device after every history, at the beginning and over the events that are no requests.
use Rattle.octets.proofs.Kit.{ℕ, ◌+◌, ◌-◌, ◌/◌, ◌%◌, ◌<◌, ◌≤◌, ◌≡◌, refl, sym, ◌∙◌, Bool, true, false, List, [], ◌∷◌, get_or, dec_lt, ℕ_discrete, arith, eq-eqb, ne_eqb, lt-ltb}
use Rattle.sheet.{specs.{Kind.groups, Layout.◌of◌, Entries.{count, body_at}, Rules.Accepted}, proofs.{rules.Good.{Good, good, accepted}, promises.Agrees.kept, searches.Regions.covers_stands}}
use Rattle.sheet.specs.Head as head
use Rattle.device.{specs.{Sessions.session_of, Events.{Effect, State, bit, pressed, button_sheet}, Due.SessionDue}, proofs.leaves.{Connections.unknown_closed, Agreeing.agree_refl}}
use Rattle.events.specs.Events.{Event, connect, disconnect, button}
use Rattle.history.specs.{Location.{Location, memory, body, counter, key, Place, of_memory, of_body, of_counter, of_key}, Permit.entry_for, History.{First, first_of, opened, level, content}}
use Rattle.history.specs.{Others.{programming, individual, group_byte}, Keeps.Begins}
use Rattle.history.proofs.{promises.Said.{said, no_connection}, heard.Searches.{region_hit, property_hit}, stored.Means.{Means, store_flags}}

pub record Inv (f : First) (h : List Event) (x : State) : Type 0 where
  pub session : (c : ℕ) → session_of x.sessions c ≡ said f h c
  pub means : Means f.sheet (content f h) (individual f h) (programming f h) (group_byte f h) x.sheet

-- what a sheet means, said in another way
pub means_as :
    {f : List ℕ} {c c' : Location → ℕ} {adr adr' prog prog' : ℕ} {grp grp' : ℕ → ℕ → ℕ} {s : List ℕ} → Means f c adr prog grp s →
    ((x : Location) → c x ≡ c' x) → adr ≡ adr' → prog ≡ prog' →
    ((i j : ℕ) → i < count f groups → grp i j ≡ grp' i j) → Means f c' adr' prog' grp' s
means_as m p q r t =
    record {
      agree = m.agree;
      octets = m.octets;
      holds = λ x n h. m.holds x n h ∙ p x;
      still = m.still;
      address = m.address ∙ q;
      programming = m.programming ∙ r;
      verify = m.verify;
      group = λ i j h. m.group i j h ∙ t i j h.below;
    }

-- the first content is what stands in the first sheet
pub first_holds : {s : List ℕ} → Good s → (x : Location) (p : ℕ) → Place s x p → get_or s p 0 ≡ first_of s x
unfolding first_of entry_for body_at
first_holds {s} g (memory m y) p (of_memory h) = rw (region_hit g (covers_stands h), h.here)
first_holds g (body o d j) p (of_body i q h e) = rw (property_hit g q, e)
first_holds g (counter o d j) p (of_counter i q h e) = rw (property_hit g q, e)
first_holds g (key l j) p (of_key h k e) = rw e

-- AT THE BEGINNING
pub begin : (f : First) → Begins f → Inv f [] (record { sessions = f.sessions; sheet = f.sheet })
unfolding opened level content individual programming group_byte
begin f b =
    record {
      session = λ c. refl;
      means =
          record {
            agree = agree_refl f.sheet;
            octets = b.octets;
            holds = first_holds (good f.sheet b.accepted);
            still = λ p h. refl;
            address = refl;
            programming = refl;
            verify = refl;
            group = λ i j h. refl;
          };
    }

module _ {f : First} {h : List Event} {x : State} (inv : Inv f h x) where
  module _ (c : ℕ) (r : Effect) where
    -- a connect or a disconnect, e, after which the history has that session so
    turned :
        (on : Bool) → SessionDue on c x r → (e : Event) → ((d : ℕ) → (d ≡ c → ⊥) → said f (e ∷ h) d ≡ said f h d) →
        (c < 2 → said f (e ∷ h) c ≡ record { opened = on; level = 3 }) → (d : ℕ) → session_of r.sessions d ≡ said f (e ∷ h) d
    turned on due e others own d = go (ℕ_discrete d c) (dec_lt c 2)
      where
        go : Dec (d ≡ c) → Dec (c < 2) → session_of r.sessions d ≡ said f (e ∷ h) d
        go (no n) l = due.others d n ∙ inv.session d ∙ sym (others d n)
        go (yes q) (yes l) = rw q ((due.known l).1 ∙ sym (own l))
        go (yes q) (no l) = rw q (unknown_closed r.sessions c (omega arith) ∙ sym (no_connection f (e ∷ h) c (omega arith)))

    -- CONNECTED, DISCONNECTED
    pub connected : SessionDue true c x r → Inv f (connect c ∷ h) (record { sessions = r.sessions; sheet = r.sheet })
    unfolding opened level content individual programming group_byte
    connected due =
        record {
          session =
              turned true due (connect c) (λ d n. rw (ne_eqb d c n)) (λ l. rw (eq-eqb c c refl, lt-ltb c 2 l));
          means = rw due.sheet inv.means;
        }

    pub disconnected : SessionDue false c x r → Inv f (disconnect c ∷ h) (record { sessions = r.sessions; sheet = r.sheet })
    unfolding opened level content individual programming group_byte
    disconnected due =
        record {
          session =
              turned false due (disconnect c) (λ d n. rw (ne_eqb d c n)) (λ l. rw (eq-eqb c c refl));
          means = rw due.sheet inv.means;
        }

  module _ (b : Begins f) where
    pub fine : Good f.sheet
    fine = good f.sheet b.accepted

    pub now : Good x.sheet
    now = kept fine inv.means.agree

    pub now_accepted : Accepted x.sheet
    now_accepted = accepted now

    -- THE BUTTON
    pub button_pressed : (on : Bool) → Inv f (button on ∷ h) (record { sessions = x.sessions; sheet = button_sheet x.sheet on })
    unfolding opened level content individual programming group_byte button_sheet pressed
    button_pressed on =
        record {
          session = inv.session;
          means =
              rw now_accepted
              (means_as (store_flags fine inv.means new low verify) (λ y. refl) refl (odd on) (λ i j l. refl));
        }
      where
        v : ℕ
        v = head.flags of x.sheet

        new : ℕ
        new = v - v % 2 + bit on

        bit_low : (t : Bool) → bit t ≤ 1
        bit_low true = omega arith
        bit_low false = omega arith

        low : new ≤ 3
        low = omega (arith, now.zeros.0, bit_low on)

        verify : new / 2 % 2 ≡ head.verify f.sheet
        verify = let e : new / 2 % 2 ≡ v / 2 % 2 = omega (arith, bit_low on) in e ∙ inv.means.verify

        odd : (t : Bool) → (v - v % 2 + bit t) % 2 ≡ bit t
        odd t = omega (arith, bit_low t)
