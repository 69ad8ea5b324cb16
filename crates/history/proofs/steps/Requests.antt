-- What the history says of one more request, by what it asks.
use Rattle.octets.proofs.Kit.{ℕ, ◌<◌, ◌≡◌, refl, sym, ap, ap₂, subst, ◌∙◌, Bool, true, false, cond, List, ◌∷◌, eqb}
use Rattle.octets.proofs.Truths.{never}
use Rattle.sheet.{specs.{Kind.groups, Layout.◌of◌, Head.rules_of, Entries.{count, entry}}, proofs.alike.Sames.rules_same}
use Rattle.sheet.specs.Head as head
use Rattle.judge.specs.Session.{connected}
use Rattle.device.specs.{Step.Step, Sessions.closed, Events.State, Asked.Asked, Due.asked}
use Rattle.events.specs.Events.{Event, request}
use Rattle.history.specs.{Location.Location, Span.{Span, names, gives}, Wish.{Wish, Change, change, offer_key, restart, other, nothing, asks, brings}}
use Rattle.history.specs.{Permit.{heard, level_for, allowed, spans}, History.{First, wished, supplied, is_restart, offered, opened, level, keys, content, permitted}}
use Rattle.history.specs.{Others.{programming, individual, group_byte, new_address, new_value}, Keeps.{Writing, CarriedOut}}
use Rattle.history.proofs.{spans.Bools.{and_false, cond_same}, promises.Said.said, steps.Invariant.{Inv, means_as}, stored.Means.Means, heard.Meets.{meets, heard_met}}
use Rattle.history.proofs.spans.Spans.{laid, laid_is}

-- no level allows what is no write
no_right : (s : List ℕ) (l : ℕ) (d : List ℕ) (w : Wish) → (Writing w → ⊥) → allowed s l d w ≡ false
unfolding allowed
no_right s l d (change c) idle = absurd (idle tt)
no_right s l d (offer_key number) idle = refl
no_right s l d restart idle = refl
no_right s l d (other o) idle = refl
no_right s l d nothing idle = refl

-- a step that is no restart and leaves the session as found
abbrev pub ends : Asked → ℕ → List ℕ → List ℕ → Step
ends x n d s = record { outcome = n; answer = d; session = x.session; sheet = s; restarts = false }

-- contents change by a permitted write alone, and by it they do
module _ (f : First) (h : List Event) (e : Event) where
  abbrev pub Spans : List Span
  Spans = spans f.sheet (content f h) (supplied e) (wished e)

  pub contents_same : permitted f h e ≡ false → (y : Location) → content f (e ∷ h) y ≡ content f h y
  unfolding content permitted
  contents_same p y = rw p

  pub contents_new :
      permitted f h e ≡ true → (y : Location) → content f (e ∷ h) y ≡ cond (names Spans y) (gives Spans y) (content f h y)
  unfolding content permitted
  contents_new p y = rw p

module _ (f : First) (h : List Event) (mode c g : ℕ) (a out : List ℕ) where
  abbrev pub E : Event
  E = request mode c g a out

  abbrev pub Ok : Bool
  Ok = heard (rules_of f.sheet) (opened f h c) mode a out (asks a)

  -- what the history says is left as it was, contents apart
  pub record Same : Type 0 where
    pub sessions : (d : ℕ) → said f (E ∷ h) d ≡ said f h d
    pub addresses : individual f (E ∷ h) ≡ individual f h
    pub programs : programming f (E ∷ h) ≡ programming f h
    pub values : (i j : ℕ) → i < count f.sheet groups → group_byte f (E ∷ h) i j ≡ group_byte f h i j

  -- by an unheard request
  pub unheard_same : Ok ≡ false → Same
  unfolding opened level content individual programming group_byte
  unheard_same e = record { sessions = λ d. rw e; addresses = rw e; programs = rw e; values = λ i j l. rw e }

  -- by what it asks
  module _ (w : Wish) (e : asks a ≡ w) where
    pub opens_same : is_restart w ≡ false → (d : ℕ) → opened f (E ∷ h) d ≡ opened f h d
    unfolding opened
    opens_same r d = rw (e, r, and_false (heard (rules_of f.sheet) (opened f h c) mode a out w))

    levels_same : ((k : ℕ → ℕ) (own : Bool) (l : ℕ) → offered k own l w ≡ l) → (d : ℕ) → level f (E ∷ h) d ≡ level f h d
    unfolding level
    levels_same r d =
        rw (e, r _ _ (level f h d)) (cond_same (heard (rules_of f.sheet) (opened f h c) mode a out w) (level f h d))

    pub sessions_same :
        is_restart w ≡ false → ((k : ℕ → ℕ) (own : Bool) (l : ℕ) → offered k own l w ≡ l) → (d : ℕ) → said f (E ∷ h) d ≡ said f h d
    sessions_same r s d = ap₂ (λ (t : Bool) (l : ℕ). record { opened = t; level = l }) (opens_same r d) (levels_same s d)

    pub programs_same : is_restart w ≡ false → programming f (E ∷ h) ≡ programming f h
    unfolding programming
    programs_same r = rw (e, r, and_false (heard (rules_of f.sheet) (opened f h c) mode a out w))

    pub addresses_same : ((m s v : ℕ) → new_address m s v w ≡ v) → individual f (E ∷ h) ≡ individual f h
    unfolding individual
    addresses_same r = rw (e, r _ _ (individual f h)) (cond_same (heard (rules_of f.sheet) (opened f h c) mode a out w) (individual f h))

    pub values_same :
        ((n : List ℕ) (k : ℕ) (d : List ℕ) (j v : ℕ) → new_value n k d j v w ≡ v) → (i j : ℕ) → group_byte f (E ∷ h) i j ≡ group_byte f h i j
    unfolding group_byte
    values_same r i j =
        rw (e, r _ _ _ _ (group_byte f h i j)) (cond_same (heard (rules_of f.sheet) (opened f h c) mode a out w) (group_byte f h i j))

  -- and what it says of a request that is heard
  module _ (w : Wish) (e : asks a ≡ w) (ok : Ok ≡ true) where
    pub opens_new : (d : ℕ) → opened f (E ∷ h) d ≡ cond (is_restart w) false (opened f h d)
    unfolding opened
    opens_new d = rw (ok, e)

    pub levels_new : (d : ℕ) → level f (E ∷ h) d ≡ offered (keys f h) (eqb d c) (level f h d) w
    unfolding level keys
    levels_new d = rw (ok, e)

    pub programs_new : programming f (E ∷ h) ≡ cond (is_restart w) 0 (programming f h)
    unfolding programming
    programs_new = rw (ok, e)

    pub addresses_new : individual f (E ∷ h) ≡ new_address (programming f h) (head.serial of f.sheet) (individual f h) w
    unfolding individual
    addresses_new = rw (ok, e)

    pub values_new :
        (i j : ℕ) → group_byte f (E ∷ h) i j ≡ new_value (entry f.sheet groups i) g (brings a) j (group_byte f h i j) w
    unfolding group_byte
    values_new i j = rw (ok, e)

  -- by a write
  pub writing_same : (w : Change) → asks a ≡ change w → Same
  writing_same w e =
      record {
        sessions = sessions_same (change w) e refl (λ k t l. refl);
        addresses = addresses_same (change w) e (λ m s v. refl);
        programs = programs_same (change w) e refl;
        values = λ i j l. values_same (change w) e (λ n k d j v. refl) i j;
      }

  -- and it is one exactly if it is heard and allowed
  pub unheard_forbidden : Ok ≡ false → permitted f h E ≡ false
  unfolding permitted
  unheard_forbidden e = rw e

  pub forbidden :
      (w : Wish) → asks a ≡ w → allowed f.sheet (level_for mode (level f h c)) (brings a) w ≡ false → permitted f h E ≡ false
  unfolding permitted
  forbidden w e r = rw (e, r) (and_false (heard (rules_of f.sheet) (opened f h c) mode a out w))

  pub permitted_so :
      (w : Wish) → asks a ≡ w → Ok ≡ true → allowed f.sheet (level_for mode (level f h c)) (brings a) w ≡ true → permitted f h E ≡ true
  unfolding permitted
  permitted_so w e o r = rw (o, e) r

  -- what asks for no write is none
  pub unwritten : (w : Wish) → asks a ≡ w → (Writing w → ⊥) → permitted f h E ≡ false
  unwritten w e idle = forbidden w e (no_right _ _ _ w idle)

  -- what becomes of the sessions by a step: a restart closes every one; else a connected request leaves its connection that of the step, and every other is as it was
  pub record Turned (r : Step) : Type 0 where
    pub closes : r.restarts ≡ true → (d : ℕ) → closed ≡ said f (E ∷ h) d
    pub own : r.restarts ≡ false → mode ≡ connected → r.session ≡ said f (E ∷ h) c
    pub others : r.restarts ≡ false → (d : ℕ) → (mode ≡ connected → d ≡ c → ⊥) → said f h d ≡ said f (E ∷ h) d

  -- WHAT IS SHOWN OF EVERY REQUEST and the step that it gets
  pub record Done (r : Step) : Type 0 where
    pub turned : Turned r
    pub means : Means f.sheet (content f (E ∷ h)) (individual f (E ∷ h)) (programming f (E ∷ h)) (group_byte f (E ∷ h)) r.sheet
    pub only : CarriedOut E r.outcome → permitted f h E ≡ true
    pub all : permitted f h E ≡ true → CarriedOut E r.outcome

  module _ (x : State) (inv : Inv f h x) where
    abbrev R : Asked
    R = asked x mode c g a out

    -- the session that it meets is the one that the history has
    pub met_so : mode ≡ connected → R.session ≡ said f h c
    met_so m = meets x.sessions mode c m ∙ inv.session c

    -- heard, by the sheet and the session as they are now
    pub heard_so : Ok ≡ heard (rules_of x.sheet) R.session.opened mode a out (asks a)
    heard_so =
        ap (λ (n : ℕ). heard n (opened f h c) mode a out (asks a)) (sym (rules_same inv.means.agree))
        ∙ heard_met mode (said f h c) R.session (λ m. sym (met_so m)) (rules_of x.sheet) a out (asks a)

    -- the sessions stay
    pub stayed : ((d : ℕ) → said f (E ∷ h) d ≡ said f h d) → (n : ℕ) (d s : List ℕ) → Turned (ends R n d s)
    stayed same n d s =
        record {
          closes = λ t. never t;
          own = λ t m. met_so m ∙ sym (same c);
          others = λ t k o. sym (same k);
        }

    -- what the history says is left as it was, and contents are k
    means_so : Same → (k : Location → ℕ) → ((y : Location) → k y ≡ content f (E ∷ h) y) → (s : List ℕ) →
        Means f.sheet k (individual f h) (programming f h) (group_byte f h) s →
        Means f.sheet (content f (E ∷ h)) (individual f (E ∷ h)) (programming f (E ∷ h)) (group_byte f (E ∷ h)) s
    means_so same k e s m =
        means_as m e (sym same.addresses) (sym same.programs) (λ i j l. sym (same.values i j l))

    -- nothing is carried out, and nothing changes
    pub left : Same → permitted f h E ≡ false → (n : ℕ) (d : List ℕ) → (CarriedOut E n → ⊥) → Done (ends R n d x.sheet)
    left same e n d none =
        record {
          turned = stayed same.sessions n d x.sheet;
          means = means_so same (content f h) (λ y. sym (contents_same f h E e y)) x.sheet inv.means;
          only = λ o. absurd (none o);
          all = λ p. never (sym e ∙ p);
        }

    -- what asks for no write is carried out: contents stay
    pub aside :
        (w : Wish) → asks a ≡ w → (Writing w → ⊥) → (r : Step) → Turned r →
        {adr prog : ℕ} {grp : ℕ → ℕ → ℕ} → Means f.sheet (content f h) adr prog grp r.sheet →
        adr ≡ individual f (E ∷ h) → prog ≡ programming f (E ∷ h) → ((i j : ℕ) → i < count f.sheet groups → grp i j ≡ group_byte f (E ∷ h) i j) →
        Done r
    aside w e idle r turned m addresses programs values =
        let none = unwritten w e idle in
        record {
          turned = turned;
          means = means_as m (λ y. sym (contents_same f h E none y)) addresses programs values;
          only = λ o. absurd (idle (subst Writing e o.writing));
          all = λ p. never (sym none ∙ p);
        }

    -- a write is carried out
    pub wrote :
        (w : Change) → asks a ≡ change w → permitted f h E ≡ true → (n : ℕ) (d s : List ℕ) → CarriedOut E n →
        Means f.sheet (laid (spans f.sheet (content f h) (brings a) (change w)) (content f h)) (individual f h) (programming f h) (group_byte f h) s →
        Done (ends R n d s)
    wrote w e p n d s carried m =
        record {
          turned = stayed (writing_same w e).sessions n d s;
          means =
              means_so (writing_same w e) _
              (λ y.
              ap (λ (v : Wish). laid (spans f.sheet (content f h) (brings a) v) (content f h) y) (sym e)
              ∙ laid_is (Spans f h E) (content f h) y
              ∙ sym (contents_new f h E p y))
              s m;
          only = λ o. p;
          all = λ q. carried;
        }
