-- WHO CHANGED A BYTE, AND BY WHAT RIGHT; who gave a connection its level. Assumes nothing.
use Rattle.octets.proofs.Kit.{ℕ, ◌<◌, ◌≤◌, ◌≡◌, refl, sym, ap, subst, ◌∙◌, ◌⊎◌, inl, inr, Bool, true, false, cond, ◌&&◌, List, [], ◌∷◌, arith}
use Rattle.octets.proofs.Truths.{never, decided, and_is}
use Rattle.sheet.specs.Head.{rules_of}
use Rattle.device.specs.Events.{State}
use Rattle.versions.specs.{Rules.is_store, Store.{is_kept, version_in}}
use Rattle.events.specs.Events.{Event, connect, disconnect, button, request, restore}
use Rattle.history.specs.{Location.{Location, Place}, Span.{names, gives}, Wish.{change, restore_all, asks, brings}, Permit.{heard, level_for, allowed, spans}}
use Rattle.history.specs.{History.{First, wished, supplied, opened, level, content, permitted}, Keeps.{Device, state_after, Begins, AllOctets, Keeps}, Keyless.write_level, Rightful.ours}
use Rattle.history.{specs.Calls.Follows, proofs.{spans.Bools.all_at, promises.{Suffices.suffices, Keep.keeps}}}
use Rattle.account.specs.Account.{at, byte_at, level_on, last_write, gave, acts_at, Last, Right, AccountsFor, LevelsAccounted, Traced}
use Rattle.account.proofs.{Lasts.{is_last, as_at_first, none_such, all_dropped}, Levels.levels_any}

-- what is so of both of two is so of the one that is chosen
chosen : {A B : Type 0} (g : A → B) (t : Bool) (u v : A) → cond t (g u) (g v) ≡ g (cond t u v)
chosen g true u v = refl
chosen g false u v = refl

-- WHAT A LOCATION HOLDS IS WHAT THE LAST PERMITTED WRITE GAVE IT
pub written : (f : First) (h : List Event) (x : Location) → content f h x ≡ gave f x (last_write f h x)
unfolding content last_write permitted
written f [] x = refl
written f (e ∷ h) x =
    let t : Bool = permitted f h e && names (spans f.sheet (content f h) (supplied e) (wished e)) x in
    ap (λ (u : ℕ). cond t (gives (spans f.sheet (content f h) (supplied e) (wished e)) x) u) (written f h x)
    ∙ chosen (gave f x) t (at h e) (last_write f h x)

-- the level of a permitted write suffices for what it names
enough_for :
    (f : First) (h : List Event) (e : Event) (x : Location) → permitted f h e ≡ true →
    names (spans f.sheet (content f h) (supplied e) (wished e)) x ≡ true → acts_at f h e ≤ write_level f.sheet x
unfolding permitted
enough_for f h (connect c) x p n = never p
enough_for f h (disconnect c) x p n = never p
enough_for f h (button on) x p n = never p
enough_for f h (request mode c g a out) x p n =
    suffices f.sheet (level_for mode (level f h c)) (content f h) (brings a) (asks a) x
    ((and_is (heard (rules_of f.sheet) (opened f h c) mode a out (asks a)) _).0 p).1 n
enough_for f h (restore c k st) x p n =
    suffices f.sheet (level_for 3 (level f h c)) (content f h) (version_in st k) (change restore_all) x
    (all_at (is_store st ∷ is_kept st k ∷ opened f h c ∷ allowed f.sheet (level_for 3 (level f h c)) (version_in st k) (change restore_all) ∷ []) p 3) n

module _ (step : Device) (keep : Keeps step) (f : First) (b : Begins f) where
  -- the byte at p after a history
  abbrev Byte : List Event → ℕ → ℕ
  Byte h p = byte_at p (state_after step f h)

  -- an event after which a location's byte is another
  right_of :
      (h : List Event) (e : Event) → AllOctets (e ∷ h) → (x : Location) (p : ℕ) → Place f.sheet x p →
      (Byte (e ∷ h) p ≡ Byte h p → ⊥) → Right step f (e ∷ h) x p h e
  unfolding content permitted
  right_of h e k x p q differs = go (decided T)
    where
      T : Bool
      T = permitted f h e && names (spans f.sheet (content f h) (supplied e) (wished e)) x

      now : Byte (e ∷ h) p ≡ content f (e ∷ h) x
      now = (keep f (e ∷ h) b k).holds x p q

      go : (T ≡ true) ⊎ (T ≡ false) → Right step f (e ∷ h) x p h e
      go (inl t) =
          let r = (and_is (permitted f h e) _).0 t in
          record {
            permits = r.0;
            named = r.1;
            enough = enough_for f h e x r.0 r.1;
            value = now ∙ ap (λ (u : Bool). cond u (gives (spans f.sheet (content f h) (supplied e) (wished e)) x) (content f h x)) t;
          }
      go (inr n) =
          absurd
          (differs
          (now
          ∙ ap (λ (u : Bool). cond u (gives (spans f.sheet (content f h) (supplied e) (wished e)) x) (content f h x)) n
          ∙ sym ((keep f h b k.1).holds x p q)))

  -- and one that was the last such
  right_last :
      (h : List Event) → AllOctets h → (x : Location) (p : ℕ) → Place f.sheet x p → (before : List Event) (e : Event) →
      Last step f (byte_at p) h before e → Right step f h x p before e
  right_last h k x p q before e l =
      let r = right_of before e (subst AllOctets l.within (all_dropped l.later h k)) x p q l.another in
      record { permits = r.permits; named = r.named; enough = r.enough; value = l.since 0 (omega arith) ∙ r.value }

-- EVERY CHANGED BYTE IS ACCOUNTED FOR, by any device that keeps demand 3, and so by ours
pub accounts_any : (step : Device) → Keeps step → AccountsFor step
unfolding state_after
accounts_any step keep f h b k =
    record {
      by = λ p before e o. is_last step f (byte_at p) h before e o;
      rightly = λ x p q before e o. right_last step keep f b h k x p q before e (is_last step f (byte_at p) h before e o);
      still = λ p s. none_such step f (byte_at p) (λ g o. (keep f g b o).still p s) h k;
      same = λ p o n. as_at_first step f (byte_at p) h o n;
    }

pub accounts : AccountsFor ours
accounts = accounts_any ours keeps

-- EVERY LEVEL BELOW 3 IS ACCOUNTED FOR, by the same
pub entitled_any : (step : Device) → Keeps step → LevelsAccounted step
entitled_any = levels_any

pub entitled : LevelsAccounted ours
entitled = entitled_any ours keeps

-- AND SO AFTER WHATEVER CALLS: of a state that follows a history, from an accepted sheet
pub accounts_calls : {f : First} → Begins f → {h : List Event} {x : State} → Follows f h x → Traced f h x
accounts_calls {f} b {h} {x} k =
    record {
      state = k.state;
      bytes = accounts f h b k.octets;
      levels = λ c low. entitled f h b k.octets c (subst (λ (y : State). level_on c y < 3) k.state low);
      holds = λ z p q. ap (byte_at p) k.state ∙ (keeps f h b k.octets).holds z p q ∙ written f h z;
    }
