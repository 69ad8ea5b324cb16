-- WHAT IS HEARD IS WHAT IS DUE, AND NOTHING ELSE IS DUE: of any link, own address and bytes. Assumes nothing.
use Rattle.octets.proofs.Kit.{ℕ, ◌≡◌, refl, sym, ap, subst, ◌∙◌, ◌⊎◌, inl, inr, Bool, true, false, cond, not, ◌&&◌, ◌||◌, List, length, leb, eqb, arith, le-leb, lt-leb, eq-eqb, ne_eqb}
use Rattle.octets.proofs.Kit.{leb-true, leb-false, eqb-true, eqb-false}
use Rattle.octets.proofs.{Truths.{never, first_true, second_true, decided}, Tests.both}
use Rattle.cemi.specs.{Layout.{info_length, stated, ◌of◌}, Read.{fields_in, frame_in, refusal_of, got_by, read_frame}, Refusal.{read_number, none_number, told}, Meaning.meaning_of, Means.{Means, to_all as meansAll, to_some as meansSome, to_none}}
use Rattle.cemi.specs.{Means.{plain as meansPlain, numbered, connects as meansConnect, disconnects as meansDisconnect, acknowledges, other, Individual}}
use Rattle.cemi.specs.declared.{Frame.Frame, ReadRefusal.ReadRefusal, NoMeaning.{NoMeaning, TheVariants.{Transport, Acknowledgement}}}
use Rattle.std.specs.Prelude.{Result, Ok, Err}
use Rattle.cemi.{specs.declared.Meaning.Meaning, proofs.promises.{Standards.{accepted, standard_reads}, Understood.{means, means_one}}}
use Rattle.cemi.specs.declared.Meaning.TheVariants as meaning
use Rattle.cemi.proofs.promises.Dues as cemi
use Rattle.device.specs.Sessions.{known}
use Rattle.link.specs.{Partners.{nobody, sits, place_of, free_of, place_for}, Hearing.{for_us, to_itself, on_place, connects, disconnects, meant, from_other, judged, heard_got, heard_of}}
use Rattle.link.specs.{Whose.{Partner, NoPlace}, Due.{Has, first, second, Stranger, from, to, Reads, Ours, shared, alone, HeardDue, unread, elsewhere, itself, to_group, to_all, plain}}
use Rattle.link.specs.{Due.{partners, strangers, again, first_free, second_free, third, parts, stranger_parts, control, stranger_control}, declared.{Link.Link, Arrived.Arrived}}
use Rattle.link.specs.declared.Arrived.TheVariants.{Nothing}
use Rattle.link.proofs.promises.{Apart.{third as no_place_lem}, Demand1.unread_framed}
use Rattle.cemi.specs.Standard.{Due}

-- WHO HAS WHICH CONNECTION, and that there is one answer
module _ (k : Link) (a : ℕ) where
  abbrev F : Bool
  F = sits k.sessions.first k.first a

  abbrev S : Bool
  S = sits k.sessions.second k.second a

  is_first_lem : F ≡ true → Partner k 0 a
  is_first_lem t = record { «open» = first_true _ _ t; address = eqb-true k.first a (second_true k.sessions.first.opened _ t) }

  is_second : S ≡ true → Partner k 1 a
  is_second t = record { «open» = first_true _ _ t; address = eqb-true k.second a (second_true k.sessions.second.opened _ t) }

  by_first : Partner k 0 a → F ≡ true
  by_first p = both _ _ p.«open» (eq-eqb k.first a p.address)

  by_second : Partner k 1 a → S ≡ true
  by_second p = both _ _ p.«open» (eq-eqb k.second a p.address)

  not_first_lem : F ≡ false → Partner k 0 a → ⊥
  not_first_lem e p = never (sym e ∙ by_first p)

  not_second_lem : S ≡ false → Partner k 1 a → ⊥
  not_second_lem e p = never (sym e ∙ by_second p)

  failing : (t : Bool) → (t ≡ true → ⊥) → t ≡ false
  failing true n = absurd (n refl)
  failing false n = refl

  -- the place that is told, of a partner and of a stranger
  pub place_of_lem : (c : ℕ) → Has k a c → (place_of k a ≡ c) × (known c ≡ true)
  unfolding place_of
  place_of_lem c (first p) = (rw (by_first p), refl)
  place_of_lem c (second n p) = (rw (failing F (λ t. n (is_first_lem t)), by_second p), refl)

  pub no_place_of : Stranger k a → place_of k a ≡ nobody
  unfolding place_of
  no_place_of s = rw (failing F (λ t. s.not_first (is_first_lem t)), failing S (λ t. s.not_second (is_second t)))

  -- one or the other
  pub placed : ((c : ℕ) × Has k a c) ⊎ Stranger k a
  placed = go (decided F) (decided S)
    where
      go : (F ≡ true) ⊎ (F ≡ false) → (S ≡ true) ⊎ (S ≡ false) → ((c : ℕ) × Has k a c) ⊎ Stranger k a
      go (inl t) u = inl (0, first (is_first_lem t))
      go (inr t) (inl u) = inl (1, second (not_first_lem t) (is_second u))
      go (inr t) (inr u) = inr record { not_first = not_first_lem t; not_second = not_second_lem u }

  -- the place that a connect gets
  pub place_again : (c : ℕ) → Has k a c → place_for k a ≡ c
  unfolding place_for
  place_again c h = let p = place_of_lem c h in rw (p.0, p.1)

  pub place_free : Stranger k a → place_for k a ≡ free_of k.sessions
  unfolding place_for
  place_free s = rw (no_place_of s)

  -- whoever finds no place is a stranger
  pub turned_stranger : NoPlace k a → Stranger k a
  turned_stranger n = record { not_first = λ p. n.not_first p.address; not_second = λ p. n.not_second p.address }

module _ (k : Link) (own : ℕ) (b : List ℕ) where
  abbrev f : Frame
  f = frame_in b

  abbrev refusal : Result (Unit {0}) ReadRefusal
  refusal = refusal_of (length b) (info_length b) (fields_in b) (stated of b)

  -- what is due for a frame that is ours, by what it means
  module _ (o : Ours own b) where
    data_due : Means f (Ok (meaning.Data 3)) → ((c : ℕ) × Has k (from b) c) ⊎ Stranger k (from b) → HeardDue k own b (on_place 3 (place_of k (from b)) (to b))
    unfolding on_place
    data_due m (inl h) = let p = place_of_lem k (from b) h.0 h.1 in rw (p.0, p.1) (partners h.0 o m h.1)
    data_due m (inr s) = rw (no_place_of k (from b) s) (strangers o m s)

    connect_due : Means f (Ok meaning.Connect) → ((c : ℕ) × Has k (from b) c) ⊎ Stranger k (from b) → HeardDue k own b (connects (place_for k (from b)))
    unfolding connects free_of
    connect_due m (inl h) = let p = place_of_lem k (from b) h.0 h.1 in rw (place_again k (from b) h.0 h.1, p.1) (again h.0 o m h.1)
    connect_due m (inr s) = rw (place_free k (from b) s) (go k.sessions.first.opened k.sessions.second.opened refl refl)
      where
        go :
            (p q : Bool) → k.sessions.first.opened ≡ p → k.sessions.second.opened ≡ q → HeardDue k own b (connects (cond p (cond q nobody 1) 0))
        go false q u v = first_free o m s u
        go true false u v = second_free o m s u v
        go true true u v =
            third o m
            record {
              first = u;
              second = v;
              not_first = λ e. s.not_first record { «open» = u; address = e };
              not_second = λ e. s.not_second record { «open» = v; address = e };
            }

    disconnect_due : Means f (Ok meaning.Disconnect) → ((c : ℕ) × Has k (from b) c) ⊎ Stranger k (from b) → HeardDue k own b (disconnects (place_of k (from b)))
    unfolding disconnects
    disconnect_due m (inl h) = let p = place_of_lem k (from b) h.0 h.1 in rw (p.0, p.1) (parts h.0 o m h.1)
    disconnect_due m (inr s) = rw (no_place_of k (from b) s) (stranger_parts o m s)

    control_due : (n : NoMeaning) → Means f (Err n) → ((c : ℕ) × Has k (from b) c) ⊎ Stranger k (from b) → HeardDue k own b (Nothing (none_number n) (place_of k (from b)))
    control_due n m (inl h) = rw (place_of_lem k (from b) h.0 h.1).0 (control n h.0 o m h.1)
    control_due n m (inr s) = rw (no_place_of k (from b) s) (stranger_control n o m s)

    meant_due : (m : Result Meaning NoMeaning) → Means f m → HeardDue k own b (meant k (from b) (to b) m)
    unfolding meant on_place
    meant_due _ (meansAll g t d) = to_all o (meansAll g t d)
    meant_due _ (meansSome g t d) = to_group o (meansSome g t d)
    meant_due _ (to_none g t) = control_due Transport (to_none g t) (placed k (from b))
    meant_due _ (meansPlain g t) = plain o (meansPlain g t)
    meant_due _ (numbered g t u) = data_due (numbered g t u) (placed k (from b))
    meant_due _ (meansConnect g z e) = connect_due (meansConnect g z e) (placed k (from b))
    meant_due _ (meansDisconnect g z e) = disconnect_due (meansDisconnect g z e) (placed k (from b))
    meant_due _ (acknowledges g z e) = control_due Acknowledgement (acknowledges g z e) (placed k (from b))
    meant_due _ (other g n m e) = control_due Transport (other g n m e) (placed k (from b))

  -- what is heard of a frame that reads, by three tests: to a group; to the own address; from it
  abbrev tested : Bool → Bool → Bool → Arrived
  tested g d s = cond (g || d) (cond (not g && s) (Nothing 65 nobody) (meant k (from b) (to b) (meaning_of f))) (Nothing 60 nobody)

  abbrev G : Bool
  G = leb 128 (fields_in b).control2

  judged_tested : (g d s : Bool) → G ≡ g → eqb (to b) own ≡ d → eqb (from b) own ≡ s → judged k own f ≡ tested g d s
  unfolding judged from_other for_us to_itself
  judged_tested true d s t u v = simp (t, u, v)
  judged_tested false d s t u v = simp (t, u, v)

  tested_due : Reads b → (g d s : Bool) → G ≡ g → eqb (to b) own ≡ d → eqb (from b) own ≡ s → HeardDue k own b (tested g d s)
  tested_due r true d s t u v = meant_due (shared r (leb-true 128 (fields_in b).control2 t)) (meaning_of f) (means f)
  tested_due r false false s t u v = elsewhere r (leb-false 128 (fields_in b).control2 t) (eqb-false (to b) own u)
  tested_due r false true true t u v = itself r (leb-false 128 (fields_in b).control2 t) (eqb-true (to b) own u) (eqb-true (from b) own v)
  tested_due r false true false t u v =
      meant_due (alone r (leb-false 128 (fields_in b).control2 t) (eqb-true (to b) own u) (eqb-false (from b) own v)) (meaning_of f) (means f)

  judged_due : Reads b → HeardDue k own b (judged k own f)
  judged_due r =
      subst (HeardDue k own b) (sym (judged_tested G (eqb (to b) own) (eqb (from b) own) refl refl refl))
      (tested_due r G (eqb (to b) own) (eqb (from b) own) refl refl refl)

  -- WHAT IS HEARD IS DUE
  pub heard_due : HeardDue k own b (heard_of k own b)
  unfolding heard_of heard_got read_frame
  heard_due = go refusal refl
    where
      go : (r : Result (Unit {0}) ReadRefusal) → refusal ≡ r → HeardDue k own b (heard_got k own (got_by r f))
      go (Ok u) e = judged_due (accepted (length b) (info_length b) (fields_in b) (stated of b) e)
      go (Err y) e =
          unread (read_number y) (λ z. omega (arith, unread_framed y)) (subst (Due (length b) (info_length b) (fields_in b) (stated of b)) (ap told e) (cemi.due (length b) (info_length b) (fields_in b) (stated of b)))

  -- AND NOTHING ELSE IS
  one_meaning : (m : Result Meaning NoMeaning) → Means f m → meaning_of f ≡ m
  one_meaning m h = sym (means_one f m (omega arith) h)

  read_as : Reads b → heard_of k own b ≡ judged k own f
  unfolding heard_of heard_got
  read_as r = rw (standard_reads b r)

  unread_as : (n : ℕ) → (n ≡ 0 → ⊥) → n ≡ told refusal → Nothing n nobody ≡ heard_of k own b
  unfolding heard_of heard_got read_frame
  unread_as n z = go refusal
    where
      go : (r : Result (Unit {0}) ReadRefusal) → n ≡ told r → Nothing n nobody ≡ heard_got k own (got_by r f)
      go (Ok u) e = absurd (z e)
      go (Err y) e = ap (λ (m : ℕ). Nothing m nobody) e

  away : Individual f → (to b ≡ own → ⊥) → judged k own f ≡ Nothing 60 nobody
  away i n = judged_tested false false (eqb (from b) own) (lt-leb 128 (fields_in b).control2 i) (ne_eqb (to b) own n) refl

  mine : Individual f → to b ≡ own → from b ≡ own → judged k own f ≡ Nothing 65 nobody
  mine i d e = judged_tested false true true (lt-leb 128 (fields_in b).control2 i) (eq-eqb (to b) own d) (eq-eqb (from b) own e)

  as_meant : Ours own b → (m : Result Meaning NoMeaning) → Means f m → heard_of k own b ≡ meant k (from b) (to b) m
  as_meant (shared r g) m h =
      read_as r
      ∙ (judged_tested true (eqb (to b) own) (eqb (from b) own) (le-leb 128 (fields_in b).control2 g) refl refl ∙ ap (meant k (from b) (to b)) (one_meaning m h))
  as_meant (alone r i d n) m h =
      read_as r
      ∙ (judged_tested false true false (lt-leb 128 (fields_in b).control2 i) (eq-eqb (to b) own d) (ne_eqb (from b) own n) ∙ ap (meant k (from b) (to b)) (one_meaning m h))

  pub heard_only : (r : Arrived) → HeardDue k own b r → r ≡ heard_of k own b
  unfolding meant on_place connects disconnects free_of
  heard_only _ (unread n z d) = unread_as n z (cemi.due_one (length b) (info_length b) (fields_in b) (stated of b) n d)
  heard_only _ (elsewhere r i n) = sym (read_as r ∙ away i n)
  heard_only _ (itself r i d e) = sym (read_as r ∙ mine i d e)
  heard_only _ (to_group o m) = sym (as_meant o (Ok (meaning.Data 0)) m)
  heard_only _ (to_all o m) = sym (as_meant o (Ok (meaning.Data 1)) m)
  heard_only _ (plain o m) = sym (as_meant o (Ok (meaning.Data 2)) m)
  heard_only _ (partners c o m h) = let p = place_of_lem k (from b) c h in sym (as_meant o (Ok (meaning.Data 3)) m ∙ rw (p.0, p.1))
  heard_only _ (strangers o m s) = sym (as_meant o (Ok (meaning.Data 3)) m ∙ rw (no_place_of k (from b) s))
  heard_only _ (again c o m h) = let p = place_of_lem k (from b) c h in sym (as_meant o (Ok meaning.Connect) m ∙ rw (place_again k (from b) c h, p.1))
  heard_only _ (first_free o m s u) = sym (as_meant o (Ok meaning.Connect) m ∙ rw (place_free k (from b) s, u))
  heard_only _ (second_free o m s u v) = sym (as_meant o (Ok meaning.Connect) m ∙ rw (place_free k (from b) s, u, v))
  heard_only _ (third o m n) = sym (as_meant o (Ok meaning.Connect) m ∙ (let z = (no_place_lem k (from b)).1 n in rw z))
  heard_only _ (parts c o m h) = let p = place_of_lem k (from b) c h in sym (as_meant o (Ok meaning.Disconnect) m ∙ rw (p.0, p.1))
  heard_only _ (stranger_parts o m s) = sym (as_meant o (Ok meaning.Disconnect) m ∙ rw (no_place_of k (from b) s))
  heard_only _ (control n c o m h) = sym (as_meant o (Err n) m ∙ rw (place_of_lem k (from b) c h).0)
  heard_only _ (stranger_control n o m s) = sym (as_meant o (Err n) m ∙ rw (no_place_of k (from b) s))
