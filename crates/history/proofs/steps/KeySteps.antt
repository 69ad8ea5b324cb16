-- Key writes, carried out and denied; a key offered.
use Rattle.octets.proofs.Kit.{ℕ, ◌+◌, ◌<◌, ◌≡◌, refl, sym, ap, ap₂, ◌∙◌, Bool, true, false, List, ◌∷◌, eqb, length, get_or, arith, eq-eqb, ne_eqb}
use Rattle.octets.{specs.{Bytes.{num_at, bytes_of}, Splice.splice}, proofs.{Numbers.length_bytes, Truths.{never, equal_is}}}
use Rattle.sheet.{specs.Layout.◌of◌, proofs.{rules.Good.accepted, promises.Stores.key_store}}
use Rattle.sheet.specs.Head as head
use Rattle.pdu.specs.declared.Pdu.TheVariants.{AuthorizeRequest, KeyWrite}
use Rattle.judge.specs.{Session.connected, declared.Session.Session}
use Rattle.device.{specs.{Events.State, Asked.{Asked, Reads, given}, Due.asked, KeysDue.{KeyWritable, Grants, key0, key1, key2, other}}, proofs.{due.Taking.taken, leaves.Octet.octets_bytes}}
use Rattle.events.specs.Events.{Event}
use Rattle.history.specs.{Location.key, Wish.{Wish, write_key, offer_key, asks}, Permit.spans, History.{First, key_in, offered, opened, level, keys, content}, Keeps.{Begins, Succeeds}}
use Rattle.history.proofs.{heard.Hearing.asks_is, promises.Said.said, steps.Invariant.{Inv, fine, now}, stored.{KeyRun.{key_place, key_run}, Means.{long, store_span}}}
use Rattle.history.proofs.{heard.Permits.key_is, steps.Requests.{ends, E, Done, opens_same, levels_new, programs_same, addresses_same, values_same, met_so, aside}}
use Rattle.history.proofs.steps.Writes.{heard_now, carried_out, denied}

-- the level that a number gets is the one that the keys grant
granted : (s : List ℕ) (now : ℕ → ℕ) (number before : ℕ) → now 0 ≡ head.key 0 of s → now 1 ≡ head.key 1 of s → now 2 ≡ head.key 2 of s →
    {l : ℕ} → Grants s number l → l ≡ offered now true before (offer_key number)
granted s now number before a b c (key0 p) = rw (a, eq-eqb number (head.key 0 of s) (sym p))
granted s now number before a b c (key1 p q) =
    rw (a, b, ne_eqb number (head.key 0 of s) (λ e. p (sym e)), eq-eqb number (head.key 1 of s) (sym q))
granted s now number before a b c (key2 p q r) =
    rw (a, b, c, ne_eqb number (head.key 0 of s) (λ e. p (sym e)), ne_eqb number (head.key 1 of s) (λ e. q (sym e)), eq-eqb number (head.key 2 of s) (sym r))
granted s now number before a b c (other p q r) =
    rw (a, b, c, ne_eqb number (head.key 0 of s) (λ e. p (sym e)), ne_eqb number (head.key 1 of s) (λ e. q (sym e)), ne_eqb number (head.key 2 of s) (λ e. r (sym e)))

module _ (f : First) (b : Begins f) (h : List Event) (x : State) (inv : Inv f h x) (mode c g : ℕ) (a out : List ℕ) where
  abbrev R : Asked
  R = asked x mode c g a out

  -- A KEY WRITE, carried out
  pub key_written :
      (named number : ℕ) → Reads R (KeyWrite named number) → KeyWritable R named → (k : ℕ) (answer : List ℕ) → Succeeds k →
      Done f h mode c g a out
      (ends R k answer (splice x.sheet (head.key named).at (bytes_of 4 number)))
  unfolding spans
  key_written named number r w k answer low =
      carried_out f b h x inv mode c g a out (KeyWrite named number) (write_key named number) refl r
      ((key_is R (now inv b) named number (given R (KeyWrite named number))).1 w)
      k answer _ low
      (store_span (fine inv b) inv.means _ (head.key named).at (bytes_of 4 number)
      (omega (arith, size, w.known, long (fine inv b) inv.means))
      (key_run f.sheet named number (omega (arith, w.known)))
      (key_store (accepted (now inv b)) named (bytes_of 4 number) (omega (arith, w.known)) size)
      (octets_bytes 4 number))
    where
      size : length (bytes_of 4 number) ≡ 4
      size = length_bytes 4 number

  -- and denied
  pub key_denied :
      (named number : ℕ) → Reads R (KeyWrite named number) → (KeyWritable R named → ⊥) → (k : ℕ) (answer : List ℕ) → (Succeeds k → ⊥) →
      Done f h mode c g a out (ends R k answer x.sheet)
  key_denied named number r none k answer high =
      denied f b h x inv mode c g a out (KeyWrite named number) (write_key named number) refl r
      (λ e. none ((key_is R (now inv b) named number (given R (KeyWrite named number))).0 e))
      k answer high

  -- what a key is by the history
  key_now : (l : ℕ) → l < 3 → keys f h l ≡ head.key l of x.sheet
  unfolding keys key_in num_at
  key_now l low =
      let at : (j : ℕ) → j < 4 → get_or x.sheet ((head.key l).at + j) 0 ≡ content f h (key l j) =
      λ j k. inv.means.holds (key l j) _ (key_place f.sheet l j low k) in
      omega (arith, at 0 (omega arith), at 1 (omega arith), at 2 (omega arith), at 3 (omega arith))

  -- A KEY OFFERED
  pub authorized :
      (number l : ℕ) → Reads R (AuthorizeRequest number) → Grants x.sheet number l → (k : ℕ) (answer : List ℕ) →
      Done f h mode c g a out
      (record { outcome = k; answer = answer; session = record { opened = R.session.opened; level = l }; sheet = x.sheet; restarts = false })
  authorized number l r q k answer =
      aside f h mode c g a out x inv w e (λ z. z) _
      (record { closes = λ t. never t; own = λ t. own; others = λ t. others })
      inv.means
      (sym (addresses_same f h mode c g a out w e (λ m s v. refl)))
      (sym (programs_same f h mode c g a out w e refl))
      (λ i j m. sym (values_same f h mode c g a out w e (λ n k d j v. refl) i j))
    where
      w : Wish
      w = offer_key number

      e : asks a ≡ w
      e = asks_is a (AuthorizeRequest number) r.reads

      open_as : (d : ℕ) → opened f (E f h mode c g a out ∷ h) d ≡ opened f h d
      open_as = opens_same f h mode c g a out w e refl

      new : (d : ℕ) → level f (E f h mode c g a out ∷ h) d ≡ offered (keys f h) (eqb d c) (level f h d) w
      new =
          levels_new f h mode c g a out w e
          (heard_now f b h x inv mode c g a out (AuthorizeRequest number) r (λ q. let z : ◌≡◌ {A = ℕ} 0 1 = cc in omega arith))

      own : mode ≡ connected → record { opened = R.session.opened; level = l } ≡ said f (E f h mode c g a out ∷ h) c
      own m =
          ap₂ (λ (t : Bool) (v : ℕ). record { opened = t; level = v })
          (ap (λ (t : Session). t.opened) (met_so f h mode c g a out x inv m) ∙ sym (open_as c))
          (granted x.sheet (keys f h) number (level f h c) (key_now 0 (omega arith)) (key_now 1 (omega arith)) (key_now 2 (omega arith)) q
          ∙ ap (λ (t : Bool). offered (keys f h) t (level f h c) w) (sym (eq-eqb c c refl))
          ∙ sym (new c))

      -- the offer came connected, so another connection's level is as it was
      others : (d : ℕ) → (mode ≡ connected → d ≡ c → ⊥) → said f h d ≡ said f (E f h mode c g a out ∷ h) d
      others d n =
          ap₂ (λ (t : Bool) (v : ℕ). record { opened = t; level = v }) (sym (open_as d))
          (sym (new d ∙ ap (λ (t : Bool). offered (keys f h) t (level f h d) w) (ne_eqb d c (n ((equal_is mode 3).0 (taken r.takes))))))
