-- TWO OPEN PLACES HAVE TWO ADDRESSES, over any history of frames, if it was so at first; and who is turned away: exactly a third. Assumes nothing.
use Rattle.octets.proofs.Kit.{ℕ, zero, suc, ◌≡◌, refl, sym, ap, ◌∙◌, ◌↔◌, ⊎_elim, Bool, true, false, cond, List, [], ◌∷◌, replicate, leb, eqb, arith, ltb-true, eqb-true, eq-eqb}
use Rattle.octets.proofs.Kit.{ne_eqb}
use Rattle.octets.proofs.{Truths.{never, first_true, second_true, decided}, Tests.both, Walks.by_test}
use Rattle.cemi.specs.{Read.{frame_in, read_frame}, Meaning.meaning_of, declared.{Frame.Frame, Meaning.Meaning, NoMeaning.NoMeaning}}
use Rattle.std.specs.Prelude.{Result, Ok, Err}
use Rattle.cemi.specs.declared.Meaning.TheVariants as meaning
use Rattle.device.specs.Sessions.{known}
use Rattle.events.specs.Events.{Event, connect, disconnect, button, request, restore, event_of, after, run_by, run}
use Rattle.link.specs.Partners.{nobody, sits, place_of, free_of, place_for}
use Rattle.link.specs.{Hearing.{own_of, for_us, to_itself, on_place, connects, disconnects, meant, from_other, judged, heard_got, heard_of}, Serving.{most, apdu_of}}
use Rattle.link.specs.{Net.{Net, source_of, state_of, heard_in, events_of, address_by, Item, frame, press, time_out, give_back, net_by, net_after}, Whose.{NoPlace, Apart}, declared.Link.Link}
use Rattle.link.specs.declared.Arrived.{Arrived, TheVariants.{Request, Connect, Disconnect, Nothing}}
use Rattle.link.proofs.{promises.Demand1.{unread_framed, unmeant_framed}, Sessions.opened_before, promises.Whose.heard_by}

module _ (k : Link) (a : ℕ) where
  abbrev F : Bool
  F = sits k.sessions.first k.first a

  abbrev S : Bool
  S = sits k.sessions.second k.second a

  -- the place by both tests
  abbrev place : Bool → Bool → ℕ
  place f s = cond (known (cond f 0 (cond s 1 nobody))) (cond f 0 (cond s 1 nobody)) (free_of k.sessions)

  -- whoever gets a place has no other
  module _ (apart : Apart k) where
    not_second_lem : place_for k a ≡ 0 → k.sessions.second.opened ≡ true → k.second ≡ a → ⊥
    unfolding place_for place_of
    not_second_lem e o q = go F S refl refl e
      where
        go : (f s : Bool) → F ≡ f → S ≡ s → place f s ≡ 0 → ⊥
        go true s x y z = apart (first_true _ _ x) o (eqb-true k.first a (second_true k.sessions.first.opened _ x) ∙ sym q)
        go false true x y z = omega arith
        go false false x y z = never (sym y ∙ both _ _ o (eq-eqb k.second a q))

    not_first_lem : place_for k a ≡ 1 → k.sessions.first.opened ≡ true → k.first ≡ a → ⊥
    unfolding place_for place_of
    not_first_lem e o q = go F S refl e
      where
        go : (f s : Bool) → F ≡ f → place f s ≡ 1 → ⊥
        go true s x z = omega arith
        go false s x z = never (sym x ∙ both _ _ o (eq-eqb k.first a q))

  -- THERE IS NO PLACE FOR A THIRD: exactly if both are open and neither is the source's
  pub third : (known (place_for k a) ≡ false) ↔ NoPlace k a
  unfolding place_for place_of free_of
  third = (go F S k.sessions.first.opened k.sessions.second.opened refl refl refl refl, back)
    where
      go :
          (f s p q : Bool) → F ≡ f → S ≡ s → k.sessions.first.opened ≡ p → k.sessions.second.opened ≡ q →
          known (cond (known (cond f 0 (cond s 1 nobody))) (cond f 0 (cond s 1 nobody)) (cond p (cond q nobody 1) 0)) ≡ false → NoPlace k a
      go true s p q x y u v e = never (sym e)
      go false true p q x y u v e = never (sym e)
      go false false false q x y u v e = never (sym e)
      go false false true false x y u v e = never (sym e)
      go false false true true x y u v e =
          record {
            first = u;
            second = v;
            not_first = λ h. never (sym x ∙ both _ _ u (eq-eqb k.first a h));
            not_second = λ h. never (sym y ∙ both _ _ v (eq-eqb k.second a h));
          }

      back : NoPlace k a → known (place_for k a) ≡ false
      back t = simp (t.first, t.second, ne_eqb k.first a t.not_first, ne_eqb k.second a t.not_second)

-- what a number says of what arrived
number_of : Arrived → ℕ
number_of (Request mode c group) = 0
number_of (Connect c) = 0
number_of (Disconnect c) = 0
number_of (Nothing n c) = n

-- what comes from another is not the device's own, wherever it goes
from_other_lem : (control2 source own : ℕ) → (source ≡ own → ⊥) → to_itself control2 source own ≡ false
unfolding to_itself
from_other_lem control2 source own n =
    ⊎_elim (λ (t : leb 128 control2 ≡ true). simp (t, ne_eqb source own n)) (λ (t : leb 128 control2 ≡ false). simp (t, ne_eqb source own n))
    (decided (leb 128 control2))

-- 62 EXACTLY THEN: of a frame that reads, is for this device, from another and a connect
pub turned_away :
    (k : Link) (own : ℕ) (b : List ℕ) (f : Frame) →
    read_frame b ≡ Ok f → for_us f.fields.control2 f.fields.destination own ≡ true → (f.fields.source ≡ own → ⊥) →
    meaning_of f ≡ Ok meaning.Connect →
    (heard_of k own b ≡ Nothing 62 nobody) ↔ NoPlace k f.fields.source
unfolding heard_of heard_got judged from_other meant connects number_of
turned_away k own b f reads us other m = rw (reads, us, from_other_lem f.fields.control2 f.fields.source own other, m) (there, back)
  where
    by : (t : Bool) → known (place_for k f.fields.source) ≡ t → cond t (Connect (place_for k f.fields.source)) (Nothing 62 nobody) ≡ Nothing 62 nobody → NoPlace k f.fields.source
    by true e h = absurd (let z : 0 ≡ 62 = ap number_of h in omega arith)
    by false e h = (third k f.fields.source).0 e

    there : cond (known (place_for k f.fields.source)) (Connect (place_for k f.fields.source)) (Nothing 62 nobody) ≡ Nothing 62 nobody → NoPlace k f.fields.source
    there h = by (known (place_for k f.fields.source)) refl h

    back : NoPlace k f.fields.source → cond (known (place_for k f.fields.source)) (Connect (place_for k f.fields.source)) (Nothing 62 nobody) ≡ Nothing 62 nobody
    back t = let z = (third k f.fields.source).1 t in rw z

-- AND OF NOTHING ELSE: a frame that gets 62 is a connect, and both places are taken by others than its source
module _ (k : Link) (own : ℕ) (b : List ℕ) where
  abbrev OnlyThird : Arrived → Type 0
  OnlyThird r = number_of r ≡ 62 → (meaning_of (frame_in b) ≡ Ok meaning.Connect) × NoPlace k (source_of b)

  meant_third : (group : ℕ) (m : Result Meaning NoMeaning) → meaning_of (frame_in b) ≡ m → OnlyThird (meant k (source_of b) group m)
  unfolding meant on_place connects disconnects number_of
  meant_third group (Ok (meaning.Data mode)) q =
      by_test OnlyThird (eqb mode 3) _ _ (λ t. by_test OnlyThird (known (place_of k (source_of b))) _ _ (λ u e. absurd (omega arith)) (λ u e. absurd (omega arith))) (λ t e. absurd (omega arith))
  meant_third group (Ok meaning.Connect) q =
      by_test OnlyThird (known (place_for k (source_of b))) _ _ (λ u e. absurd (omega arith)) (λ u e. (q, (third k (source_of b)).0 u))
  meant_third group (Ok meaning.Disconnect) q =
      by_test OnlyThird (known (place_of k (source_of b))) _ _ (λ u e. absurd (omega arith)) (λ u e. absurd (omega arith))
  meant_third group (Err y) q = λ e. absurd (omega (arith, unmeant_framed y))

  heard_third : OnlyThird (heard_of k own b)
  unfolding number_of
  heard_third =
      heard_by k own b OnlyThird (λ y e. absurd (omega (arith, unread_framed y))) (λ e. absurd (omega arith)) (λ e. absurd (omega arith))
      (λ group. meant_third group (meaning_of (frame_in b)) refl)

  pub only_third : (c : ℕ) → heard_of k own b ≡ Nothing 62 c → (meaning_of (frame_in b) ≡ Ok meaning.Connect) × NoPlace k (source_of b)
  unfolding number_of
  only_third c e = heard_third (ap number_of e)

-- a connect that is heard has the place that its source gets
module _ (k : Link) (a : ℕ) where
  abbrev Joins : Arrived → Type 0
  Joins (Request mode c group) = Unit {0}
  Joins (Connect c) = (place_for k a ≡ c) × (known c ≡ true)
  Joins (Disconnect c) = Unit {0}
  Joins (Nothing n c) = Unit {0}

  joins : (group : ℕ) (m : Result Meaning NoMeaning) → Joins (meant k a group m)
  unfolding meant on_place connects disconnects
  joins group (Ok (meaning.Data mode)) = by_test Joins (eqb mode 3) _ _ (λ t. by_test Joins (known (place_of k a)) _ _ (λ u. tt) (λ u. tt)) (λ t. tt)
  joins group (Ok meaning.Connect) = by_test Joins (known (place_for k a)) _ _ (λ u. (refl, u)) (λ u. tt)
  joins group (Ok meaning.Disconnect) = by_test Joins (known (place_of k a)) _ _ (λ u. tt) (λ u. tt)
  joins group (Err e) = tt

is_connect : Event → Bool
is_connect (connect c) = true
is_connect (disconnect c) = false
is_connect (button on) = false
is_connect (request mode c g p out) = false
is_connect (restore c n st) = false

module _ (x : Net) (apart : Apart x.link) where
  -- the link after what arrived from a
  abbrev after_link : ℕ → Arrived → List ℕ → Link
  after_link a r p =
      let z = run (state_of x) (events_of r p) in
      record { sessions = z.sessions; first = address_by 0 a r x.link.first; second = address_by 1 a r x.link.second }

  -- what opens no session
  closing : (e : Event) → ((c : ℕ) → e ≡ connect c → ⊥) → Apart record { sessions = (after (state_of x) e).sessions; first = x.link.first; second = x.link.second }
  closing e n o p = apart (opened_before (state_of x) 0 e (n 0) o) (opened_before (state_of x) 1 e (n 1) p)

  arrives : (a : ℕ) (r : Arrived) (p : List ℕ) → Joins x.link a r → Apart (after_link a r p)
  unfolding run_by after event_of is_connect
  arrives a (Request mode c group) p j = closing (request mode c group p (replicate most 0)) (λ d e. never (ap is_connect e))
  arrives a (Connect zero) p j = λ o q e. not_second_lem x.link a apart j.0 q (sym e)
  arrives a (Connect (suc zero)) p j = λ o q e. not_first_lem x.link a apart j.0 o e
  arrives a (Connect (suc (suc c))) p j = absurd (omega (arith, ltb-true (suc (suc c)) 2 j.1))
  arrives a (Disconnect c) p j = closing (disconnect c) (λ d e. never (ap is_connect e))
  arrives a (Nothing n c) p j = apart

  by_item : (i : Item) → Apart (net_by x i).link
  unfolding net_by run_by heard_in is_connect
  by_item (frame b) =
      arrives (source_of b) (heard_in x b) (apdu_of b)
      (heard_by x.link (own_of x.sheet) b (Joins x.link (source_of b)) (λ t. tt) tt tt (λ group. joins x.link (source_of b) group (meaning_of (frame_in b))))
  by_item (press on) = closing (button on) (λ d e. never (ap is_connect e))
  by_item (time_out c) = closing (disconnect c) (λ d e. never (ap is_connect e))
  by_item (give_back c n st) = closing (restore c n st) (λ d e. never (ap is_connect e))

-- APART, AFTER ANY HISTORY
pub apart : (x : Net) → Apart x.link → (h : List Item) → Apart (net_after x h).link
unfolding net_after
apart x a [] = a
apart x a (i ∷ h) = by_item (net_after x h) (apart x a h) i
