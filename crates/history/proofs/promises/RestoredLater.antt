-- RESTORED OVER A HISTORY: a sheet saved after one history, whatever happens after it to the device and to the store, and restored for a connection that then is open at level 0.
use Rattle.octets.proofs.Kit.{ℕ, ◌+◌, ◌*◌, ◌-◌, ◌≤◌, ◌<◌, ◌≡◌, refl, sym, ap, subst, ◌∙◌, Bool, true, false, cond, ◌&&◌, List, ◌∷◌, ◌++◌, get_or, arith}
use Rattle.sheet.{specs.{Kind.{properties, groups}, Entries.{count, base, start_of}, Agree.Agree}, proofs.{rules.Good.{Good, good}, promises.Agrees.{agree_sym, agree_trans}}}
use Rattle.sheet.proofs.{alike.Sames.{count_same, start_same}, places.BodyPlaces.{end_is, from_start, to_next}}
use Rattle.sheet.specs.Property as property
use Rattle.judge.specs.declared.Session.{Session}
use Rattle.device.specs.{Octets.Octets, Sessions.session_of, Events.State}
use Rattle.versions.specs.{Store.version_in, Settings.SameProperties, Saving.{save_outcome, save_number, save_store}, Restoring.{restore_outcome, RestoredAs}}
use Rattle.versions.{specs.{Sequence.{Change, changed_all, AllSpare}, Due.AtZero}, proofs.promises.{OwnVersion.settings_same, RestoredIsSaved.{restored_is_saved, restore_carried}}}
use Rattle.events.specs.Events.{Event, restore}
use Rattle.history.specs.{Location.{Location, memory, body, counter, key, Place, of_body, of_counter}, Span.{Span, names, gives}, Wish.{change, restore_all}, Permit.spans}
use Rattle.history.specs.{History.{First, opened, level, content, permitted}, Keeps.Begins, Calls.{restores, Follows}, Restored.{OfProperty, BroughtBack}}
use Rattle.history.proofs.{spans.Spans.{laid, laid_is}, stored.RestoreRun.{memory_laid, key_laid}, steps.Invariant.{Inv, now_accepted}, promises.{Keep.ours_after, Calls.call_follows}}

-- a byte of a property stands in the same place, with the same content, in two sheets that have the same properties
module _ (f s t : List ℕ) (g : Good f) (a : Agree f s) (same : SameProperties s t) where
  many_is : count s properties ≡ count f properties
  many_is = count_same a properties

  base_is : base s properties ≡ base f properties
  base_is = omega (arith, count_same a 0)

  start_is : start_of s properties ≡ start_of f properties
  start_is = start_same a properties (omega arith)

  groups_is : start_of s groups ≡ start_of f groups
  groups_is = start_same a groups (omega arith)

  property_same : (y : Location) (p : ℕ) → OfProperty y → Place f y p → get_or t p 0 ≡ get_or s p 0
  property_same (memory m y) p o h = absurd o
  property_same (key l j) p o h = absurd o
  property_same (body object id j) p o (of_body i q l e) =
      let from : start_of f properties ≤ p = omega (arith, e, from_start g properties i (omega arith) q.there) in
      let to : p < start_of f groups = omega (arith, e, l, end_is f properties i, to_next g properties i (omega arith) q.there) in
      let z : start_of s properties + (p - start_of s properties) ≡ p = omega (arith, from, start_is) in
      subst (λ (n : ℕ). get_or t n 0 ≡ get_or s n 0) z (same.bodies (p - start_of s properties) (omega (arith, from, to, start_is, groups_is)))
  property_same (counter object id j) p o (of_counter i q l e) =
      let w : i < count f properties = q.there in
      let z : base s properties + (property.size * i + ((property.count).at + j)) ≡ p = omega (arith, e, base_is) in
      subst (λ (n : ℕ). get_or t n 0 ≡ get_or s n 0) z (same.entries (property.size * i + ((property.count).at + j)) (omega (arith, w, l, many_is)))

-- what holds after a history holds of a state that follows it
follows_inv : {f : First} {h : List Event} {x : State} → Begins f → Follows f h x → Inv f h x
follows_inv {f} {h} b k = rw k.state (ours_after f b h k.octets)

-- a restore, permitted or not, leaves what the history gave to a byte of memory and to one of a key
module _ (f : First) (g : Good f.sheet) (h : List Event) (c n : ℕ) (st : List ℕ) where
  abbrev all : List Span
  all = spans f.sheet (content f h) (version_in st n) (change restore_all)

  named_none : (z : Location) → (OfProperty z → ⊥) → laid all (content f h) z ≡ content f h z
  named_none (memory m y) q = memory_laid g (version_in st n) (content f h) m y
  named_none (key l j) q = key_laid g (version_in st n) (content f h) l j
  named_none (body object id j) q = absurd (q tt)
  named_none (counter object id j) q = absurd (q tt)

  others_stay : (z : Location) → (OfProperty z → ⊥) → content f (restore c n st ∷ h) z ≡ content f h z
  unfolding content permitted
  others_stay z o = by (permitted f h (restore c n st)) (sym (laid_is all (content f h) z) ∙ named_none z o)
    where
      by : (t : Bool) → cond (names all z) (gives all z) (content f h z) ≡ content f h z → cond (t && names all z) (gives all z) (content f h z) ≡ content f h z
      by true e = e
      by false e = refl

-- a state x that history h left, its sheet saved in a store st; whatever is then done to the store, but for a removal of that version; a state y that a longer history left
module _ {f : First} (b : Begins f) {h : List Event} {x : State} (k : Follows f h x) (st : List ℕ) (bytes : Octets st) (saved : save_outcome x.sheet st ≡ 0)
    (cs : List Change) (spared : AllSpare (save_number x.sheet st) cs) (g : List Event) {y : State} (l : Follows f (g ++ h) y) where
  abbrev number : ℕ
  number = save_number x.sheet st

  abbrev later : List ℕ
  later = changed_all cs (save_store x.sheet st)

  -- RESTORED OVER A HISTORY, for a connection that is open at level 0 by it
  pub restored_over_history :
      Octets later → (c : ℕ) → opened f (g ++ h) c ≡ true → level f (g ++ h) c ≡ 0 →
      (r : ℕ) (s' : List ℕ) → RestoredAs (session_of y.sessions c) y.sheet later number r s' → BroughtBack f h (g ++ h) r s'
  restored_over_history small c live zero r s' did =
      record {
        carried = did.outcome ∙ one;
        settings = λ z p o q.
            property_same f.sheet x.sheet s' (good f.sheet b.accepted) ix.means.agree same z p o q ∙ ix.means.holds z p q;
        others = λ z p o q. is.means.holds z p q ∙ others_stay f (good f.sheet b.accepted) (g ++ h) c number later z o;
        accepted = now_accepted is b;
      }
    where
      Q : Session
      Q = session_of y.sessions c

      ix : Inv f h x
      ix = follows_inv b k

      iy : Inv f (g ++ h) y
      iy = follows_inv b l

      is : Inv f (restore c number later ∷ (g ++ h)) record { sessions = y.sessions; sheet = s' }
      is = follows_inv b (call_follows l (restores c number later r s' small did))

      at_zero : AtZero Q
      at_zero =
          record { opened = ap (λ (q : Session). q.opened) (iy.session c) ∙ live; level = ap (λ (q : Session). q.level) (iy.session c) ∙ zero }

      one : restore_outcome Q y.sheet later number ≡ 1
      one = restore_carried st bytes x.sheet saved cs spared Q at_zero y.sheet (agree_trans (agree_sym ix.means.agree) iy.means.agree)

      same : SameProperties x.sheet s'
      same =
          settings_same x.sheet s' (now_accepted ix b) (agree_trans (agree_sym ix.means.agree) is.means.agree)
          (rw did.after (restored_is_saved st bytes x.sheet saved cs spared ix.means.octets Q y.sheet one).settings)
